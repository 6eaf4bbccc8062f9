use Rattle.std.proofs.Common.{ap, ◌∙◌, rules}
use Rattle.std.specs.Int.{w128}
use Rattle.std.proofs.lemmas.Int.{to_z-of_z}
use Rattle.edb_lang.specs.Terms as term
use Rattle.edb_lang.specs.declared.term.Cell.{Cell}
use Rattle.edb_cmds.proofs.ListRuns.{before, before_nil}
use Rattle.edb_cmds.proofs.ListLaws.{built_more}
use Rattle.edb_cmds.proofs.list.list_of.Goals as goal

pub loop-integer-init : goal.loop-integer-init
loop-integer-init c = ap (before c.args.integers.items) c.nil-list.ensures ∙ before_nil c.args.integers.items

pub loop-integer-preserved : goal.loop-integer-preserved
loop-integer-preserved c =
    ap (before c.pop.new.self.items) (ap (λ (x : Cell). term.cons x.head x.tail) c.in_ok-cell.ensures.ok ∙ ap (λ h. term.cons h c.loop-integer.list) (c.int-head.ensures ∙ ap term.int (to_z-of_z w128 c.in-Some.integer (search rules))))
    ∙ built_more c.loop-integer.integers.items c.pop.new.self.items c.args.integers.items c.in-Some.integer c.loop-integer.list c.in-Some.ensures.items c.loop-integer.invariant
