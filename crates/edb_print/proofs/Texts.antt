-- The text of pieces one after the other.

use Rattle.std.proofs.Common.{◌≡◌, List, ◌++◌}
use Rattle.std.proofs.lemmas.Grind.{flat_map-append}
use Rattle.edb_print.specs.Pieces.{Piece, piece_text, bytes_of}

pub bytes_append : (ps qs : List Piece) → bytes_of (ps ++ qs) ≡ bytes_of ps ++ bytes_of qs
bytes_append ps qs = flat_map-append piece_text ps qs

pub ruleset texts = (bytes_append)
