use Rattle.std.proofs.Common.{◌∙◌}
use Rattle.edb_eval.specs.Tree.{info_of}
use Rattle.edb_eval.proofs.CallLaws.{answers_true, answers_false}
use Rattle.edb_eval.proofs.Moves.{binds, mismatches}
use Rattle.edb_eval.proofs.running.Running.bind.Goals as goal

pub returns-in-Ok-true-clause-ok : goal.returns-in-Ok-true-clause-ok
returns-in-Ok-true-clause-ok c =
    let s = c.args.self.now in
    c.give.ensures
    ∙ binds s.frames (info_of s.here) c.args.pattern.now c.args.value c.match_value.new.bindings (answers_true _ _ _ c.in-Ok-true.ensures.found c.in-Ok-true.field-0-test)

pub returns-in-Ok-clause-ok : goal.returns-in-Ok-clause-ok
returns-in-Ok-clause-ok c =
    let s = c.args.self.now in
    mismatches s.frames (info_of s.here) c.args.pattern.now c.args.value c.in-Ok.reason (answers_false _ c.match_value.new.bindings _ c.in-Ok-false.ensures.found c.in-Ok-false.field-0-test) c.in-Ok.ensures
