-- What a word is where options may stand.

use Rattle.std.specs.Prelude.{ℕ, if◌then◌else◌, ◌==◌, List, [], ◌∷◌, Option, Some, None, codes}
use Rattle.std.specs.Str.{bytes_eq}
use Rattle.edb_files.specs.Names.{is_option}

abbrev pub Text : Type 0
Text = List ℕ

-- The options that take a number: how many hands run the program, how many pure moves a slice has at most, and at which
-- weight a journal is over.
pub data Kind : Type 0 where
  Hands : Kind
  Slice : Kind
  Moves : Kind

-- A word is a name (of the script or a file), `--`, `--journal`, an option that takes a number, such an option with
-- `=` and its number, or none of these: it begins as an option does, and there is no such option.
pub data What : Type 0 where
  Name : What
  End : What
  Journal : What
  Alone : Kind → What
  Joined : Kind → Text → What
  Unknown : What

-- what stands behind a text at the head of a word
unfoldable pub behind : Text → Text → Option Text
behind [] word = Some word
behind (c ∷ cs) [] = None
behind (c ∷ cs) (d ∷ ds) = if c == d then behind cs ds else None

-- the first of these that there is
abbrev pub joined_or : Kind → Option Text → What → What
joined_or kind (Some value) other = Joined kind value
joined_or kind None other = other

-- an option with its number behind `=`
abbrev pub joined_in : Text → What
joined_in word = joined_or Hands (behind (codes "--hands=") word)
    (joined_or Slice (behind (codes "--slice=") word)
    (joined_or Moves (behind (codes "--moves=") word) Unknown))

-- a word that begins as an option does
abbrev pub option_in : Text → What
option_in word = if bytes_eq word (codes "--") then End
    else (if bytes_eq word (codes "--journal") then Journal
    else (if bytes_eq word (codes "--hands") then Alone Hands
    else (if bytes_eq word (codes "--slice") then Alone Slice
    else (if bytes_eq word (codes "--moves") then Alone Moves
    else joined_in word))))

-- any word
abbrev pub word_of : Text → What
word_of word = if is_option word then option_in word else Name
