-- At the end of the words: what still waits is settled, and the journal's flag has its default.

use Rattle.std.proofs.Common.{◌≡◌, ◌≢◌, ◌∙◌, Bool, cond, true, false, ◌||◌, List, [], ◌∷◌, Option, Some, None, is_some, option_map, codes, unwrap_or, refl, sym, ap, subst}
use Rattle.std.specs.Prelude.{option_and_then, slice_get}
use Rattle.std.specs.List.{fold}
use Rattle.clap.specs.Walk.{Row, Rule, Text, Waiting, all_of, first_of, has_row, row_text, with_default, with_values}
use Rattle.clap.specs.Kinds.{Kinds, or_else}
use Rattle.clap.specs.Faults.{default_fault, defaults_fault, walk_fault}
use Rattle.clap.specs.declared.builder.value_parser.Reading.TheVariants.{AsWritten}
use Rattle.clap.specs.declared.parser.matches.ValueSource.TheVariants.{DefaultValue}
use Rattle.edb_options.specs.Words.{Kind, Hands, Slice, Moves}
use Rattle.edb_options.specs.Given.{Given}
use Rattle.edb_options.specs.Command.{Holds, flag_text}
use Rattle.edb_options.proofs.RowLaws.{row_at, has_row_at, values_apart, values_first}
use Rattle.edb_options.proofs.GivenRows.{Seen, flag_row, journal_built, names_built, names_row, option_row, rule_of_kind, rules}
use Rattle.edb_options.proofs.Walks.{AgreesFrom, Pending, at, fails_first, kinds_from, rows_settled, settling}

either : {X : Type 0} (b : Bool) (x : X) → cond b x x ≡ x
either true x = refl
either false x = refl

-- no argument but the journal has a default
with_defaults : (rows : List Row) → fold with_default rows rules ≡ with_default rows journal_built
with_defaults rows = rw (
  either (has_row (codes "hands") rows) rows,
  either (has_row (codes "slice") rows) rows,
  either (has_row (codes "moves") rows) rows,
  either (has_row (codes "names") (with_default rows journal_built)) (with_default rows journal_built),
) refl

not_due : (b : Bool) (kinds : Kinds) → cond (b || true) [] kinds ≡ []
not_due true kinds = refl
not_due false kinds = refl

abbrev no_kinds : Kinds
no_kinds = []

due : (b : Bool) → cond (b || false) no_kinds no_kinds ≡ []
due true = refl
due false = refl

default_then : (rows : List Row) (a : Rule) (rest : List Rule) → default_fault rows a ≡ [] → defaults_fault rows (a ∷ rest) ≡ defaults_fault (with_default rows a) rest
unfolding defaults_fault
default_then rows a rest passes = ap (λ k. or_else k (defaults_fault (with_default rows a) rest)) passes

defaults_end : (rows : List Row) → defaults_fault rows [] ≡ []
unfolding defaults_fault
defaults_end rows = refl

abbrev first : Kind → List Row → List Row
first kind rows = with_default rows (rule_of_kind kind)

defaults_pass : (rows : List Row) → defaults_fault rows rules ≡ []
defaults_pass rows =
    let journal = with_default (first Moves (first Slice (first Hands rows))) journal_built in
    default_then rows (rule_of_kind Hands) (rule_of_kind Slice ∷ (rule_of_kind Moves ∷ (journal_built ∷ (names_built ∷ [])))) (not_due (has_row (codes "hands") rows) _)
    ∙ default_then (first Hands rows) (rule_of_kind Slice) (rule_of_kind Moves ∷ (journal_built ∷ (names_built ∷ []))) (not_due (has_row (codes "slice") (first Hands rows)) _)
    ∙ default_then (first Slice (first Hands rows)) (rule_of_kind Moves) (journal_built ∷ (names_built ∷ [])) (not_due (has_row (codes "moves") (first Slice (first Hands rows))) _)
    ∙ default_then (first Moves (first Slice (first Hands rows))) journal_built (names_built ∷ []) (due (has_row (codes "journal") (first Moves (first Slice (first Hands rows)))))
    ∙ default_then journal names_built [] (not_due (has_row (codes "names") journal) _)
    ∙ defaults_end (with_default journal names_built)

option_first : (id : Text) (o : Option Text) → option_and_then (λ (r : Row). slice_get r.values 0) (option_row id o) ≡ o
option_first id None = refl
option_first id (Some v) = refl

names_all : (names : List Text) → unwrap_or (option_map (λ (r : Row). r.values) (names_row names)) [] ≡ names
names_all [] = refl
names_all (x ∷ xs) = refl

first_is : (id : Text) (rows : List Row) (o : Option Text) → row_at id rows ≡ option_row id o → first_of id rows ≡ o
first_is id rows o e = ap (option_and_then (λ (r : Row). slice_get r.values 0)) e ∙ option_first id o

names_are : (rows : List Row) (names : List Text) → row_at (codes "names") rows ≡ names_row names → unwrap_or (all_of (codes "names") rows) [] ≡ names
names_are rows names e = ap (λ o. unwrap_or (option_map (λ (r : Row). r.values) o) []) e ∙ names_all names

abbrev without_journal : List Row → List Row
without_journal rows = with_values (codes "journal") AsWritten DefaultValue (codes "false" ∷ []) rows

-- the rows with the defaults hold what is given
holds : (g : Given) (rows : List Row) → Seen g rows → Holds g (fold with_default rows rules)
holds g rows seen = subst (λ r. Holds g r) (sym (with_defaults rows)) (go g.journal refl)
  where
    go : (b : Bool) → g.journal ≡ b → Holds g (with_default rows journal_built)
    go true e =
        let there : row_at (codes "journal") rows ≡ flag_row true = seen.journal ∙ ap flag_row e in
        let same : with_default rows journal_built ≡ rows = ap (λ b. cond b rows (without_journal rows)) (has_row_at (codes "journal") rows ∙ ap is_some there) in
        subst (λ r. Holds g r) (sym same) (record {
          hands = first_is (codes "hands") rows g.hands seen.hands;
          slice = first_is (codes "slice") rows g.slice seen.slice;
          moves = first_is (codes "moves") rows g.moves seen.moves;
          journal = ap (option_and_then row_text) there ∙ ap (λ b. Some (flag_text b)) (sym e);
          names = names_are rows g.names seen.names;
        })
    go false e =
        let none : row_at (codes "journal") rows ≡ flag_row false = seen.journal ∙ ap flag_row e in
        let same : with_default rows journal_built ≡ (without_journal rows) = ap (λ b. cond b rows (without_journal rows)) (has_row_at (codes "journal") rows ∙ ap is_some none) in
        let no = codes "false" ∷ [] in
        subst (λ r. Holds g r) (sym same) (record {
          hands = first_is (codes "hands") (without_journal rows) g.hands (values_apart (codes "journal") AsWritten DefaultValue no (codes "hands") refl rows ∙ seen.hands);
          slice = first_is (codes "slice") (without_journal rows) g.slice (values_apart (codes "journal") AsWritten DefaultValue no (codes "slice") refl rows ∙ seen.slice);
          moves = first_is (codes "moves") (without_journal rows) g.moves (values_apart (codes "journal") AsWritten DefaultValue no (codes "moves") refl rows ∙ seen.moves);
          journal = ap (option_and_then row_text) (values_first (codes "journal") AsWritten DefaultValue no rows none) ∙ ap (λ b. Some (flag_text b)) (sym e);
          names = names_are (without_journal rows) g.names (values_apart (codes "journal") AsWritten DefaultValue no (codes "names") refl rows ∙ seen.names);
        })

pub ends_settled : (g : Given) (trailing : Bool) (waiting : Waiting) (p : Pending) (rows : List Row) → settling p rows ≡ [] → Seen g (rows_settled p rows)
    → AgreesFrom (Some g) (at trailing waiting p rows) []
unfolding walk_fault
ends_settled g trailing waiting p rows passes seen =
    let due_kinds = or_else (defaults_fault (rows_settled p rows) rules) [] in
    (ap (λ k. or_else k due_kinds) passes ∙ ap (λ k. or_else k []) (defaults_pass (rows_settled p rows)), holds g (rows_settled p rows) seen)

pub ends_failed : (trailing : Bool) (waiting : Waiting) (p : Pending) (rows : List Row) → settling p rows ≢ [] → kinds_from (at trailing waiting p rows) [] ≢ []
unfolding walk_fault
ends_failed trailing waiting p rows fails = fails_first (settling p rows) _ fails
