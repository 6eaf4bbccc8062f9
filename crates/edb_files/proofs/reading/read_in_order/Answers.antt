use Rattle.std.proofs.Common.{◌++◌, ◌∷◌, [], length-append, arith}
use Rattle.std.proofs.lemmas.List.{length-map}
use Rattle.edb_files.specs.declared.reading.AskedFile.{AskedFile}
use Rattle.edb_files.specs.Asking.{asked_of}
use Rattle.edb_files.proofs.ReadLaws.{listed_more}
use Rattle.edb_files.proofs.reading.read_in_order.Goals as goal

-- what a list of files has at a place that it lacks
abbrev no_file : AskedFile
no_file = record { name = record { ref_ptr = (0, 0); now = [] }; most = 0 }

pub returns-in-Err-clause-err : goal.returns-in-Err-clause-err
returns-in-Err-clause-err g c = record {
  texts = c.loop-file.texts.items ++ c.in-Ok.text ∷ [];
  few = omega (arith, length-append c.loop-file.texts.items (c.in-Ok.text ∷ []), length-map c.args.asked.now asked_of, c.loop-file.invariant.count);
  listed = listed_more asked_of c.args.asked.now c.loop-file.texts.items c.loop-file.file-index no_file c.in-Ok.text _ _ _
      c.loop-file.invariant.count (omega arith) c.loop-file.invariant.listed c.in-Ok.ensures.listed;
}

pub loop-file-preserved : goal.loop-file-preserved
loop-file-preserved g c = record {
  count = rw c.in-Ok-push.ensures.items (omega (arith, length-append c.loop-file.texts.items (c.in-Ok.text ∷ []), c.loop-file.invariant.count));
  listed = rw c.in-Ok-push.ensures.items (listed_more asked_of c.args.asked.now c.loop-file.texts.items c.loop-file.file-index no_file c.in-Ok.text _ _ _
      c.loop-file.invariant.count (omega arith) c.loop-file.invariant.listed c.in-Ok.ensures.listed);
  later = omega (arith, c.loop-file.invariant.later, c.in-Ok.ensures.later);
}
