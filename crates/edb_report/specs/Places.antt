-- How a line names a place of a module and a function.

use Rattle.std.specs.Prelude.{ℕ, List, ◌++◌, codes}
use Rattle.std.specs.Fmt.{decimal}
use Rattle.edb_lang.specs.TermText.{atom_text}

-- a line of a module
abbrev pub place_text : List ℕ → ℕ → List ℕ
place_text m l = atom_text m ++ codes ":" ++ decimal l

-- a function of a module, with so many arguments
abbrev pub function_text : List ℕ → List ℕ → ℕ → List ℕ
function_text m f a = atom_text m ++ codes ":" ++ atom_text f ++ codes "/" ++ decimal a
