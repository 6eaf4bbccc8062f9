use Rattle.std.proofs.Common.{◌∷◌, ap, ◌∙◌}
use Rattle.edb_stack.specs.Views.{layer_of}
use Rattle.edb_running.specs.Tails.{is_last}
use Rattle.edb_running.proofs.Scans.{more_follow}
use Rattle.edb_running.proofs.outward.passes_tail.Goals as goal

pub returns-else-is_empty : goal.returns-else-is_empty
returns-else-is_empty c = λ ls. ap (λ l. is_last (layer_of l ∷ ls)) c.in-Sequence.is ∙ more_follow c.in-Sequence.field-0 c.in-Sequence.rest.now c.is_empty.result ls c.is_empty.ensures c.if-is_empty.false
