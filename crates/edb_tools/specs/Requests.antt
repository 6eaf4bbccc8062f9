-- What the words ask for.

use Rattle.std.specs.Prelude.{ℕ, Bool, not, ◌&&◌, nat_eq, nat_lt, if◌then◌else◌, List, [], ◌∷◌, length, map, Option, None, Some, codes}
use Rattle.std.specs.List.{list_all}
use Rattle.std.specs.Cmp.Lexicographic.{pointwise}
use Rattle.std.specs.Option.{option_map}
use Rattle.edb_files.specs.Names.{is_option}
use Rattle.edb_files.specs.Numbers.{number_in}
use Rattle.edb_files.specs.InOrder.{Asked, text_file}
use Rattle.edb_tools.specs.declared.words.Tool.{Tool}
use Rattle.edb_tools.specs.declared.words.Tool.TheVariants.{Check, Format, Generate}

-- a command, and the files that it takes, in order
pub record Request : Type 0 where
  pub command : Tool
  pub files : List Asked

-- a command, and files of modules with these names
abbrev pub request : Tool → List (List ℕ) → Request
request command names = record { command = command; files = map text_file names }

-- a word that is no option's names a file
abbrev pub is_name : List ℕ → Bool
is_name word = not (is_option word)

-- there are fewer words than this, so that each file has a number below 2^32
abbrev pub words_end : ℕ
words_end = 4_294_967_295

-- `check` and one name or more
abbrev pub check_request : List (List ℕ) → Option Request
check_request (command ∷ (file ∷ files)) =
    if pointwise nat_eq command (codes "check") && list_all is_name (file ∷ files) && nat_lt (length (command ∷ (file ∷ files))) words_end
    then Some (request Check (file ∷ files))
    else None
check_request _ = None

-- `fmt` and one name
abbrev pub format_request : List (List ℕ) → Option Request
format_request (command ∷ (file ∷ [])) =
    if pointwise nat_eq command (codes "fmt") && is_name file then Some (request Format (file ∷ [])) else None
format_request _ = None

-- `gen` and a number of 1 to 200, which takes no file
abbrev pub generate_request : List (List ℕ) → Option Request
generate_request (command ∷ (number ∷ [])) =
    if pointwise nat_eq command (codes "gen") then option_map (λ workers. request (Generate workers) []) (number_in 1 200 number) else None
generate_request _ = None

-- the one of the two that there is
abbrev pub either_request : Option Request → Option Request → Option Request
either_request (Some r) s = Some r
either_request None s = s

-- no other words ask for anything
abbrev pub request_of : List (List ℕ) → Option Request
request_of words = either_request (check_request words) (either_request (format_request words) (generate_request words))
