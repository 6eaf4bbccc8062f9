use Rattle.std.proofs.Common.{◌≡◌, ◌++◌, ◌∙◌, [], None, Some, IfOk, codes, map, ap, sym, subst}
use Rattle.std.proofs.lemmas.List.{append-nil}
use Rattle.std.specs.Option.{option_map, unwrap_or}
use Rattle.edb_guards.specs.Choices.{choice_of}
use Rattle.edb_match.specs.Newest as match
use Rattle.edb_moves.specs.Clauses.{chosen}
use Rattle.edb_path.specs.Plans.{effect}
use Rattle.edb_path.proofs.Newest.{newest_first_same}
use Rattle.edb_syntax.specs.Syntax.{clauses_of}
use Rattle.edb_variables.specs.PairStacks.{newest_first}
use Rattle.edb_variables.proofs.Stacks.{newest_first-append}
use Rattle.edb_calls.specs.Sites.{spot}
use Rattle.edb_calls.proofs.EnteringLaws.{entered_none, entered_some}
use Rattle.edb_calls.proofs.entering.Callee.enter.Goals as goal

pub returns-in_default-clause-effect : goal.returns-in_default-clause-effect
returns-in_default-clause-effect c v =
    let place = spot c.args.site.now in
    let self = c.args.self in
    let name = unwrap_or (option_map (λ f. f.now) self.name) (codes "fun") in
    let vs = map (λ t. t.now) c.args.args.now in
    let hidden : match.newest_first c.deref.result.now [] ≡ newest_first c.args.hidden.items =
    newest_first_same c.deref.result.now [] ∙ append-nil (newest_first c.deref.result.now) ∙ ap newest_first c.deref.ensures.value in
    let none : None ≡ chosen c.args.site.now.me [] (newest_first c.args.hidden.items) (clauses_of self.clauses.now) vs =
    ap (option_map (choice_of (match.newest_first c.deref.result.now []))) (sym c.in_default.is)
    ∙ c.in_ok-choice.ensures
    ∙ ap (λ hs. chosen c.args.site.now.me [] hs (clauses_of self.clauses.now) vs) hidden in
    subst (λ e. IfOk c.fails.result (λ plan. effect place v plan ≡ e))
    (entered_none place self.unit.now self.version name self.arity (clauses_of self.clauses.now) (newest_first c.args.hidden.items) vs none)
    (c.fails.ensures.effect place v)

pub returns-clause-effect : goal.returns-clause-effect
returns-clause-effect c v =
    let place = spot c.args.site.now in
    let self = c.args.self in
    let name = unwrap_or (option_map (λ f. f.now) self.name) (codes "fun") in
    let vs = map (λ t. t.now) c.args.args.now in
    let new = c.in-Some.choice.pairs.items in
    let hidden : match.newest_first c.deref.result.now [] ≡ newest_first c.args.hidden.items =
    newest_first_same c.deref.result.now [] ∙ append-nil (newest_first c.deref.result.now) ∙ ap newest_first c.deref.ensures.value in
    let bindings : c.of.result.pairs ≡ match.newest_first new (match.newest_first c.deref.result.now []) =
    c.of.ensures
    ∙ ap newest_first c.in_ok-append.ensures.items
    ∙ newest_first-append c.args.hidden.items new
    ∙ ap (λ bs. newest_first new ++ bs) (sym hidden)
    ∙ sym (newest_first_same new (match.newest_first c.deref.result.now [])) in
    let some : Some (c.of.result.pairs, c.in-Some.choice.body.now) ≡ chosen c.args.site.now.me [] (newest_first c.args.hidden.items) (clauses_of self.clauses.now) vs =
    ap (λ bs. Some (bs, c.in-Some.choice.body.now)) bindings
    ∙ ap (option_map (choice_of (match.newest_first c.deref.result.now []))) (sym c.in-Some.is)
    ∙ c.in_ok-choice.ensures
    ∙ ap (λ hs. chosen c.args.site.now.me [] hs (clauses_of self.clauses.now) vs) hidden in
    subst (λ e. IfOk c.nest.result (λ plan. effect place v plan ≡ e))
    (entered_some place self.unit.now self.version name self.arity (clauses_of self.clauses.now) (newest_first c.args.hidden.items) vs c.level.result c.of.result.pairs c.in-Some.choice.body.now c.level.ensures some)
    (c.nest.ensures.effect v)
