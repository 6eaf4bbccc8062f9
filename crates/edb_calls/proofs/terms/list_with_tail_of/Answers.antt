use Rattle.std.proofs.Common.{rules, map, ap, sym, subst, IfOk, ◌∙◌, ◌≡◌}
use Rattle.edb_lang.specs.ListTerms.{list_of}
use Rattle.edb_moves.specs.Built.{ended_by_last}
use Rattle.edb_pure.specs.Answers.{limited_answer}
use Rattle.edb_guards.proofs.Lists.{ended-last}
use Rattle.edb_calls.proofs.terms.list_with_tail_of.Goals as goal

pub returns-in_ok-list-in-Some : goal.returns-in_ok-list-in-Some
returns-in_ok-list-in-Some c =
    let front = c.in-Some.front.now in
    let tail = c.in-Some.tail.now in
    let made = c.within.ensures (list_of (map (λ t. t.now) front) tail.now) (search rules) in
    let built = ap (λ ts. ended_by_last (map (λ t. t.now) ts)) c.in-Some.ensures.cases.0 ∙ ended-last (λ t. t.now) front tail in
    subst (λ t. IfOk c.within.result (λ answer. answer ≡ limited_answer t)) (sym built) made
