use Rattle.std.proofs.Common.{◌∷◌, [], length-append, string_bytes, ap, arith}
use Rattle.edb_files.specs.InOrder.{text_file}
use Rattle.edb_files.specs.Asking.{asked_of}
use Rattle.edb_tools.proofs.WordLaws.{files_more}
use Rattle.edb_tools.proofs.words.files_named.Goals as goal

pub loop-name-preserved : goal.loop-name-preserved
loop-name-preserved c = record {
  files = rw c.in_ok-push.ensures.items (files_more asked_of (λ name. text_file (string_bytes name)) c.args.names.now c.loop-name.name-index c.name-item.result c.loop-name.files.items _
      (omega arith) c.name-item.is c.loop-name.invariant.files (ap text_file c.as_str.ensures.value));
  count = rw c.in_ok-push.ensures.items (omega (arith, length-append c.loop-name.files.items (record { name = c.as_str.result; most = 1000001 } ∷ []), c.loop-name.invariant.count));
}
