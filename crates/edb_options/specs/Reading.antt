-- The words read from left to right.

use Rattle.std.specs.Prelude.{ℕ, Bool, true, false, not, if◌then◌else◌, List, [], ◌∷◌, ◌++◌, Option, Some, None, option_and_then}
use Rattle.std.specs.Option.{option_map}
use Rattle.edb_files.specs.Names.{is_option}
use Rattle.edb_options.specs.Words.{Text, Kind, Hands, Slice, Moves, What, Name, End, Journal, Alone, Joined, Unknown, word_of}
use Rattle.edb_options.specs.Numbers.{number_of, once}

-- What the next word may be: an option or a name; the number of an option; a name, behind `--`.
pub data Place : Type 0 where
  Open : Place
  Waits : Kind → Place
  Ended : Place

-- the options so far
pub record State : Type 0 where
  pub place : Place
  pub hands : Option ℕ
  pub slice : Option ℕ
  pub moves : Option ℕ
  pub journal : Bool

-- before the first word
abbrev pub start : State
start = record { place = Open; hands = None; slice = None; moves = None; journal = false }

-- The value of an option is a number in its range, and the option wasn't given before.
abbrev pub with_number : State → Kind → Text → Option State
with_number s Hands value = option_map (λ n. record s { place = Open; hands = Some n }) (once s.hands (number_of Hands value))
with_number s Slice value = option_map (λ n. record s { place = Open; slice = Some n }) (once s.slice (number_of Slice value))
with_number s Moves value = option_map (λ n. record s { place = Open; moves = Some n }) (once s.moves (number_of Moves value))

-- A word among the options: `--` ends them, `--journal` stands at most once, an option waits for its number or has it
-- behind `=`, and there are no others.
abbrev pub with_word : State → What → Option State
with_word s Name = None
with_word s End = Some (record s { place = Ended })
with_word s Journal = if s.journal then None else Some (record s { journal = true })
with_word s (Alone kind) = Some (record s { place = Waits kind })
with_word s (Joined kind value) = with_number s kind value
with_word s Unknown = None

-- Whether a word is a name where it stands: behind `--` each word is, and before it each that doesn't begin as an option
-- does and isn't an option's number.
abbrev pub is_name : Place → Text → Bool
is_name Open word = not (is_option word)
is_name (Waits kind) word = false
is_name Ended word = true

abbrev pub option_at : Place → State → Text → Option State
option_at Open s word = with_word s (word_of word)
option_at (Waits kind) s word = with_number s kind word
option_at Ended s word = None

-- a word that isn't a name; nothing where it is refused
abbrev pub with_option : State → Text → Option State
with_option s word = option_at s.place s word

-- The words, behind others that gave these options and names: what all of them give, and nothing from the first word on
-- that is refused.
unfoldable pub read_words : State → List Text → List Text → Option (State × List Text)
read_words s names [] = Some (s, names)
read_words s names (word ∷ words) = if is_name s.place word then read_words s (names ++ word ∷ []) words
    else option_and_then (λ t. read_words t names words) (with_option s word)
