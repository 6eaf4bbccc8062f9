use Rattle.std.proofs.Common.{◌≡◌, ◌++◌, Option, ap, ◌∙◌}
use Rattle.std.specs.Option.{option_map}
use Rattle.edb_lang.specs.Pairs.{Pairs}
use Rattle.edb_moves.specs.Clauses.{handler}
use Rattle.edb_syntax.specs.Syntax.{catches_of}
use Rattle.edb_variables.specs.PairStacks.{newest_first, oldest}
use Rattle.edb_guards.specs.Choices.{choice_of}
use Rattle.edb_running.specs.Landed.{stood}
use Rattle.edb_running.proofs.LandedLaws.{chosen_kept, none_chosen, one_chosen}
use Rattle.edb_running.proofs.landing.choose.Goals as goal

pub returns-in_default : goal.returns-in_default
returns-in_default c =
    let kept : Pairs = oldest c.args.mark (stood c.args.stand) in
    let handled = handler c.args.me kept (catches_of c.args.catches.now) c.args.raise.now.class c.args.raise.now.reason in
    let bound : c.cut-2.new.self.pairs ≡ kept = c.cut-2.ensures.pairs ∙ ap (oldest c.args.mark) (c.cut.ensures.pairs ∙ ap (oldest c.args.stand.mark) c.in_ok-kept.ensures) in
    none_chosen kept handled c.in_ok-chosen.chosen c.in_default.is
    (chosen_kept c.args.me (catches_of c.args.catches.now) c.args.raise.now.class c.args.raise.now.reason kept c.pairs.result.now c.in_ok-chosen.chosen (c.pairs.ensures ∙ bound) c.in_ok-chosen.ensures)

pub returns : goal.returns
returns c =
    let kept : Pairs = oldest c.args.mark (stood c.args.stand) in
    let handled = handler c.args.me kept (catches_of c.args.catches.now) c.args.raise.now.class c.args.raise.now.reason in
    let bound : c.cut-2.new.self.pairs ≡ kept = c.cut-2.ensures.pairs ∙ ap (oldest c.args.mark) (c.cut.ensures.pairs ∙ ap (oldest c.args.stand.mark) c.in_ok-kept.ensures) in
    one_chosen kept handled c.in_ok-chosen.chosen c.in-Some.choice c.push_all.new.self c.in-Some.is
    (chosen_kept c.args.me (catches_of c.args.catches.now) c.args.raise.now.class c.args.raise.now.reason kept c.pairs.result.now c.in_ok-chosen.chosen (c.pairs.ensures ∙ bound) c.in_ok-chosen.ensures)
    (c.push_all.ensures.pairs ∙ ap (λ bs. newest_first c.in-Some.choice.pairs.items ++ bs) (c.in_ok-reserve.ensures.pairs ∙ bound))
