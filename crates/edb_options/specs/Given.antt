-- The words read from left to right, with the numbers of options as texts: what is left to be told of these is only
-- whether they are numbers in their ranges.

use Rattle.std.specs.Prelude.{ℕ, Bool, true, false, if◌then◌else◌, nat_le, List, [], ◌∷◌, ◌++◌, length, Option, Some, None, option_and_then}
use Rattle.std.specs.Option.{option_map}
use Rattle.edb_files.specs.Names.{is_option}
use Rattle.edb_files.specs.Numbers.{number_in}
use Rattle.edb_options.specs.Words.{Text, Kind, Hands, Slice, Moves, What, Name, End, Journal, Alone, Joined, Unknown, word_of}
use Rattle.edb_options.specs.Reading.{Place, Open, Waits, Ended}
use Rattle.edb_options.specs.Options.{Wanted, is_settled}
use Rattle.edb_options.specs.declared.request.Options.{Options}

-- what words give: the texts that are to be numbers, whether a journal, and the names
pub record Given : Type 0 where
  pub hands : Option Text
  pub slice : Option Text
  pub moves : Option Text
  pub journal : Bool
  pub names : List Text

-- before the first word
abbrev pub nothing : Given
nothing = record { hands = None; slice = None; moves = None; journal = false; names = [] }

-- an option is given once
abbrev pub text_once : Option Text → Text → Option Text
text_once None value = Some value
text_once (Some before) value = None

-- the text of an option's number
abbrev pub with_text : Given → Kind → Text → Option (Place × Given)
with_text g Hands value = option_map (λ t. (Open, record g { hands = Some t })) (text_once g.hands value)
with_text g Slice value = option_map (λ t. (Open, record g { slice = Some t })) (text_once g.slice value)
with_text g Moves value = option_map (λ t. (Open, record g { moves = Some t })) (text_once g.moves value)

-- one name more
abbrev pub with_name : Place → Given → Text → Option (Place × Given)
with_name place g word = Some (place, record g { names = g.names ++ word ∷ [] })

-- a word among the options that isn't a name
abbrev pub with_what : Given → What → Option (Place × Given)
with_what g Name = None
with_what g End = Some (Ended, g)
with_what g Journal = if g.journal then None else Some (Open, record g { journal = true })
with_what g (Alone kind) = Some (Waits kind, g)
with_what g (Joined kind value) = with_text g kind value
with_what g Unknown = None

-- what is given with one more word; a word that begins as an option does is no number
abbrev pub given_at : Place → Given → Text → Option (Place × Given)
given_at Open g word = if is_option word then with_what g (word_of word) else with_name Open g word
given_at (Waits kind) g word = if is_option word then None else with_text g kind word
given_at Ended g word = with_name Ended g word

-- the words, behind others that gave these; nothing where one is refused, or the last option waits for its number
unfoldable pub given_by : Place → Given → List Text → Option Given
given_by place g [] = if is_settled place then Some g else None
given_by place g (word ∷ words) = option_and_then (λ p. given_by p.0 p.1 words) (given_at place g word)

-- what all of the words give
abbrev pub given_in : List Text → Option Given
given_in words = given_by Open nothing words

-- a number from 1 to `most`, or what stands for one that isn't given
abbrev pub number_or : ℕ → ℕ → Option Text → Option ℕ
number_or most default None = Some default
number_or most default (Some value) = number_in 1 most value

-- the options, where the texts are numbers in their ranges
abbrev pub options_by : Given → Option Options
options_by g = option_and_then (λ _. option_and_then (λ slice. option_and_then (λ moves.
    Some (record { slice = slice; moves = moves; journal = g.journal }))
    (number_or 1000000 100000 g.moves)) (number_or 4096 100 g.slice)) (number_or 1 1 g.hands)

-- what is asked for, where there are names enough
abbrev pub wanted_by : Given → Option Wanted
wanted_by g = if nat_le 2 (length g.names) then option_map (λ options. record { options = options; names = g.names }) (options_by g) else None
