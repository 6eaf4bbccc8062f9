use Rattle.std.proofs.lemmas.Bool.{false_from_ne_true, both_ways}
use Rattle.edb_scan.specs.Lexis.{ends_form}
use Rattle.edb_scan.proofs.MarkLemmas.{mark_found, dot_found, no_mark}
use Rattle.edb_scan.proofs.marks.mark.Goals as goal

pub returns-then-is_dot : goal.returns-then-is_dot
returns-then-is_dot c =
    let dot = c.is_dot.ensures.0 c.if-is_dot.true in
    dot_found c.args.bytes.now c.in-Some.after.now c.in-Some.mark c.requires c.in-Some.ensures dot.0 dot.1

pub returns-else-is_dot : goal.returns-else-is_dot
returns-else-is_dot c =
    mark_found c.args.bytes.now c.in-Some.after.now c.in-Some.mark c.requires c.in-Some.ensures
    (λ point. false_from_ne_true (ends_form c.in-Some.after.now) (λ dot. both_ways c.is_dot.result c.if-is_dot.false (c.is_dot.ensures.1 (point, dot))))

pub returns-in-None : goal.returns-in-None
returns-in-None c = no_mark c.args.bytes.now c.requires c.in-None.ensures
