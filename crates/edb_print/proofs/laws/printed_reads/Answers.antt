use Rattle.edb_print.specs.Pieces.{tokens_of}
use Rattle.edb_print.specs.Layout.{lay_module, text_of}
use Rattle.edb_print.proofs.Reread.{sound_pieces}
use Rattle.edb_print.proofs.TextsSound.{text_reads}
use Rattle.edb_print.proofs.Neighbours.{module_stands}
use Rattle.edb_print.proofs.Spelled.{text_parts}
use Rattle.edb_print.proofs.laws.printed_reads.Goals as goal

pub returns : goal.returns
unfolding text_of
returns c = λ bytes tokens m h r few.
    let again = text_reads bytes tokens m h r in
    (tokens_of 1 (lay_module m), again.tree, text_parts (lay_module m) (sound_pieces 1 (lay_module m) again.sound) (module_stands m) few, again.reads, again.same)
