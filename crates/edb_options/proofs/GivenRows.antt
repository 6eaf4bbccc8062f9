-- What the rows of clap's matches hold, and what one use of an argument changes.

use Rattle.std.proofs.Common.{◌≡◌, ◌≢◌, ◌∙◌, ℕ, zero, suc, Bool, cond, true, false, true≢false, List, [], ◌∷◌, ◌++◌, Option, Some, None, is_some, option_map, codes, refl, sym, ap}
use Rattle.std.specs.Str.{bytes_eq}
use Rattle.clap.specs.Walk.{Row, Rule, Text, has_row, used, with_values, without}
use Rattle.clap.specs.Simple.{built}
use Rattle.clap.specs.Kinds.{Kinds}
use Rattle.clap.specs.Faults.{use_fault}
use Rattle.clap.specs.declared.builder.value_parser.Reading.TheVariants.{AsWritten}
use Rattle.clap.specs.declared.parser.matches.ValueSource.TheVariants.{CommandLine}
use Rattle.clap.specs.declared.error.kind.ErrorKind.{ErrorKind}
use Rattle.clap.specs.declared.error.kind.ErrorKind.TheVariants.{ArgumentConflict}
use Rattle.edb_options.specs.Words.{Kind, Hands, Slice, Moves}
use Rattle.edb_options.specs.Reading.{Place, Open}
use Rattle.edb_options.specs.Given.{Given, text_once, with_text}
use Rattle.edb_options.specs.Command.{edb, names_rule}
use Rattle.edb_options.proofs.RowLaws.{row_at, has_row_at, without_none, values_first, values_more, values_apart}

-- the arguments as building fills them in
abbrev pub rules : List Rule
rules = (built edb).top.rules

abbrev pub name_of : Kind → Text
name_of Hands = codes "hands"
name_of Slice = codes "slice"
name_of Moves = codes "moves"

abbrev nth : ℕ → List Rule → Rule
nth n [] = names_rule
nth zero (r ∷ rs) = r
nth (suc n) (r ∷ rs) = nth n rs

abbrev pub rule_of_kind : Kind → Rule
rule_of_kind Hands = nth 0 rules
rule_of_kind Slice = nth 1 rules
rule_of_kind Moves = nth 2 rules

abbrev pub journal_built : Rule
journal_built = nth 3 rules

abbrev pub names_built : Rule
names_built = nth 4 rules

abbrev row_with : Text → List Text → Row
row_with id values = record { id = id; values = values; count = None; source = Some CommandLine; reading = AsWritten }

abbrev pub option_row : Text → Option Text → Option Row
option_row id value = option_map (λ v. row_with id (v ∷ [])) value

abbrev pub flag_row : Bool → Option Row
flag_row true = Some (row_with (codes "journal") (codes "true" ∷ []))
flag_row false = None

abbrev pub names_row : List Text → Option Row
names_row [] = None
names_row (x ∷ xs) = Some (row_with (codes "names") (x ∷ xs))

-- the rows so far are those of what is given
pub record Seen (g : Given) (rows : List Row) : Type 0 where
  pub hands : row_at (codes "hands") rows ≡ option_row (codes "hands") g.hands
  pub slice : row_at (codes "slice") rows ≡ option_row (codes "slice") g.slice
  pub moves : row_at (codes "moves") rows ≡ option_row (codes "moves") g.moves
  pub journal : row_at (codes "journal") rows ≡ flag_row g.journal
  pub names : row_at (codes "names") rows ≡ names_row g.names

nothing_there : (id : Text) (rows : List Row) → row_at id rows ≡ None → has_row id rows ≡ false
nothing_there id rows none = has_row_at id rows ∙ ap is_some none

something_there : (id : Text) (rows : List Row) (r : Row) → row_at id rows ≡ Some r → has_row id rows ≡ true
something_there id rows r found = has_row_at id rows ∙ ap is_some found

-- the values of an argument that had none
module _ (id : Text) (values : List Text) (rows : List Row) (none : row_at id rows ≡ None) where
  abbrev set : List Row
  set = with_values id AsWritten CommandLine values (without id rows)

  there : row_at id set ≡ Some (row_with id values)
  there = ap (λ l. row_at id (with_values id AsWritten CommandLine values l)) (without_none id rows none) ∙ values_first id AsWritten CommandLine values rows none

  elsewhere : (other : Text) → bytes_eq id other ≡ false → row_at other set ≡ row_at other rows
  elsewhere other apart = ap (λ l. row_at other (with_values id AsWritten CommandLine values l)) (without_none id rows none) ∙ values_apart id AsWritten CommandLine values other apart rows

-- ---- an option with a value

abbrev fault_with : Bool → Kinds
fault_with there = cond there (ArgumentConflict ∷ []) []

value_fault : (kind : Kind) (v : Text) (rows : List Row) (b : Bool) → has_row (name_of kind) rows ≡ b → use_fault false (rule_of_kind kind) (v ∷ []) rows ≡ fault_with b
value_fault Hands v rows true e = rw e refl
value_fault Hands v rows false e = rw e refl
value_fault Slice v rows true e = rw e refl
value_fault Slice v rows false e = rw e refl
value_fault Moves v rows true e = rw e refl
value_fault Moves v rows false e = rw e refl

-- What a value comes to where the option may be given: no error, and rows with it.
pub record Takes (kind : Kind) (v : Text) (rows : List Row) (after : Given) : Type 0 where
  pub passes : use_fault false (rule_of_kind kind) (v ∷ []) rows ≡ []
  pub seen : Seen after (used (rule_of_kind kind) (v ∷ []) rows)

abbrev pub Uses : Kind → Text → List Row → Option (Place × Given) → Type 0
Uses kind v rows None = use_fault false (rule_of_kind kind) (v ∷ []) rows ≢ []
Uses kind v rows (Some p) = (p.0 ≡ Open) × Takes kind v rows p.1

abbrev is_none : Kinds → Bool
is_none [] = true
is_none (k ∷ ks) = false

-- a kind of error is one
pub one_kind : (k : ErrorKind) (kinds : Kinds) → kinds ≡ k ∷ [] → kinds ≢ []
one_kind k kinds e f = true≢false (ap is_none (sym f ∙ e))

pub option_use : (kind : Kind) (v : Text) (g : Given) (rows : List Row) → Seen g rows → Uses kind v rows (with_text g kind v)
option_use Hands v g rows seen = go g.hands refl
  where
    go : (o : Option Text) → g.hands ≡ o → Uses Hands v rows (option_map (λ t. (Open, record g { hands = Some t })) (text_once o v))
    go None e =
        let none : row_at (codes "hands") rows ≡ None = seen.hands ∙ ap (option_row (codes "hands")) e in (
          refl,
          record {
            passes = value_fault Hands v rows false (nothing_there (codes "hands") rows none);
            seen = record {
              hands = there (codes "hands") (v ∷ []) rows none;
              slice = elsewhere (codes "hands") (v ∷ []) rows none (codes "slice") refl ∙ seen.slice;
              moves = elsewhere (codes "hands") (v ∷ []) rows none (codes "moves") refl ∙ seen.moves;
              journal = elsewhere (codes "hands") (v ∷ []) rows none (codes "journal") refl ∙ seen.journal;
              names = elsewhere (codes "hands") (v ∷ []) rows none (codes "names") refl ∙ seen.names;
            };
          },
        )
    go (Some old) e = one_kind ArgumentConflict _ (value_fault Hands v rows true (something_there (codes "hands") rows _ (seen.hands ∙ ap (option_row (codes "hands")) e)))
option_use Slice v g rows seen = go g.slice refl
  where
    go : (o : Option Text) → g.slice ≡ o → Uses Slice v rows (option_map (λ t. (Open, record g { slice = Some t })) (text_once o v))
    go None e =
        let none : row_at (codes "slice") rows ≡ None = seen.slice ∙ ap (option_row (codes "slice")) e in (
          refl,
          record {
            passes = value_fault Slice v rows false (nothing_there (codes "slice") rows none);
            seen = record {
              hands = elsewhere (codes "slice") (v ∷ []) rows none (codes "hands") refl ∙ seen.hands;
              slice = there (codes "slice") (v ∷ []) rows none;
              moves = elsewhere (codes "slice") (v ∷ []) rows none (codes "moves") refl ∙ seen.moves;
              journal = elsewhere (codes "slice") (v ∷ []) rows none (codes "journal") refl ∙ seen.journal;
              names = elsewhere (codes "slice") (v ∷ []) rows none (codes "names") refl ∙ seen.names;
            };
          },
        )
    go (Some old) e = one_kind ArgumentConflict _ (value_fault Slice v rows true (something_there (codes "slice") rows _ (seen.slice ∙ ap (option_row (codes "slice")) e)))
option_use Moves v g rows seen = go g.moves refl
  where
    go : (o : Option Text) → g.moves ≡ o → Uses Moves v rows (option_map (λ t. (Open, record g { moves = Some t })) (text_once o v))
    go None e =
        let none : row_at (codes "moves") rows ≡ None = seen.moves ∙ ap (option_row (codes "moves")) e in (
          refl,
          record {
            passes = value_fault Moves v rows false (nothing_there (codes "moves") rows none);
            seen = record {
              hands = elsewhere (codes "moves") (v ∷ []) rows none (codes "hands") refl ∙ seen.hands;
              slice = elsewhere (codes "moves") (v ∷ []) rows none (codes "slice") refl ∙ seen.slice;
              moves = there (codes "moves") (v ∷ []) rows none;
              journal = elsewhere (codes "moves") (v ∷ []) rows none (codes "journal") refl ∙ seen.journal;
              names = elsewhere (codes "moves") (v ∷ []) rows none (codes "names") refl ∙ seen.names;
            };
          },
        )
    go (Some old) e = one_kind ArgumentConflict _ (value_fault Moves v rows true (something_there (codes "moves") rows _ (seen.moves ∙ ap (option_row (codes "moves")) e)))

-- ---- `--journal`

journal_fault : (rows : List Row) (b : Bool) → has_row (codes "journal") rows ≡ b → use_fault false journal_built [] rows ≡ fault_with b
journal_fault rows true e = rw e refl
journal_fault rows false e = rw e refl

pub journal_first : (g : Given) (rows : List Row) → Seen g rows → g.journal ≡ false
    → (use_fault false journal_built [] rows ≡ []) × Seen (record g { journal = true }) (used journal_built [] rows)
journal_first g rows seen e =
    let none : row_at (codes "journal") rows ≡ None = seen.journal ∙ ap flag_row e in
    let yes = codes "true" ∷ [] in (
      journal_fault rows false (nothing_there (codes "journal") rows none),
      record {
        hands = elsewhere (codes "journal") yes rows none (codes "hands") refl ∙ seen.hands;
        slice = elsewhere (codes "journal") yes rows none (codes "slice") refl ∙ seen.slice;
        moves = elsewhere (codes "journal") yes rows none (codes "moves") refl ∙ seen.moves;
        journal = there (codes "journal") yes rows none;
        names = elsewhere (codes "journal") yes rows none (codes "names") refl ∙ seen.names;
      },
    )

pub journal_again : (g : Given) (rows : List Row) → Seen g rows → g.journal ≡ true → use_fault false journal_built [] rows ≢ []
journal_again g rows seen e = one_kind ArgumentConflict _ (journal_fault rows true (something_there (codes "journal") rows _ (seen.journal ∙ ap flag_row e)))

-- ---- a name

pub name_used : (word : Text) (g : Given) (rows : List Row) → Seen g rows → Seen (record g { names = g.names ++ word ∷ [] }) (used names_built (word ∷ []) rows)
name_used word g rows seen = record {
  hands = values_apart (codes "names") AsWritten CommandLine (word ∷ []) (codes "hands") refl rows ∙ seen.hands;
  slice = values_apart (codes "names") AsWritten CommandLine (word ∷ []) (codes "slice") refl rows ∙ seen.slice;
  moves = values_apart (codes "names") AsWritten CommandLine (word ∷ []) (codes "moves") refl rows ∙ seen.moves;
  journal = values_apart (codes "names") AsWritten CommandLine (word ∷ []) (codes "journal") refl rows ∙ seen.journal;
  names = go g.names seen.names;
}
  where
    go : (names : List Text) → row_at (codes "names") rows ≡ names_row names → row_at (codes "names") (used names_built (word ∷ []) rows) ≡ names_row (names ++ word ∷ [])
    go [] e = values_first (codes "names") AsWritten CommandLine (word ∷ []) rows e
    go (x ∷ xs) e = values_more (codes "names") AsWritten CommandLine (word ∷ []) rows _ e
