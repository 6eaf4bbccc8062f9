-- The pieces so far, and one more.

use Rattle.std.proofs.Common.{◌≡◌, ℕ, ◌+◌, ◌<◌, List, [], ◌∷◌, ◌++◌, length, take, drop, get_or, sym, ◌∙◌, ap, append-nil}
use Rattle.std.specs.List.{flat_map}
use Rattle.std.proofs.lemmas.List.{take_more, take-append-drop}
use Rattle.std.proofs.lemmas.Grind.{flat_map-append}
use Rattle.edb_files.specs.InOrder.{Asked}
use Rattle.edb_tools.specs.Ends.{joined, ok_line}

-- one piece more
pub joined_more : (pieces : List (List ℕ)) (i : ℕ) (piece : List ℕ) → i < length pieces → piece ≡ get_or pieces i piece
    → joined (take (i + 1) pieces) ≡ joined (take i pieces) ++ piece
joined_more pieces i piece lt is =
    ap joined (take_more pieces i piece lt)
    ∙ (flat_map-append (λ (p : List ℕ). p) (take i pieces) (get_or pieces i piece ∷ [])
    ∙ ap (λ (t : List ℕ). joined (take i pieces) ++ t) (append-nil (get_or pieces i piece) ∙ sym is))

-- what follows it up to all pieces
pub joined_whole : (pieces : List (List ℕ)) (i : ℕ) (piece : List ℕ) → i < length pieces → piece ≡ get_or pieces i piece
    → (joined (take i pieces) ++ piece) ++ joined (drop (i + 1) pieces) ≡ joined pieces
joined_whole pieces i piece lt is =
    ap (λ (t : List ℕ). t ++ joined (drop (i + 1) pieces)) (sym (joined_more pieces i piece lt is))
    ∙ (sym (flat_map-append (λ (p : List ℕ). p) (take (i + 1) pieces) (drop (i + 1) pieces)) ∙ ap joined (take-append-drop (i + 1) pieces))

-- the lines of files
abbrev pub ok_lines : List Asked → List ℕ
ok_lines files = flat_map (λ file. ok_line file.name) files
