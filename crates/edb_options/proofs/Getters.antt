-- What the getters of clap's matches read, where the matches hold what is given.

use Rattle.std.proofs.Common.{◌≡◌, ◌∙◌, ◌<◌, ◌≤◌, ℕ, Bool, true, false, if◌then◌else◌, nat_le, List, [], length, map, Option, Some, None, option_map, codes, Bor, refl, sym, ap, le-leb}
use Rattle.std.proofs.lemmas.Bool.{lt-leb}
use Rattle.std.specs.Prelude.{option_and_then}
use Rattle.std.specs.Option.{unwrap_or}
use Rattle.clap.specs.Walk.{Text, rows_of}
use Rattle.clap.specs.Matches.{first_value, matched_of, one_text, raw_values}
use Rattle.clap.specs.declared.parser.matches.Found.{Found}
use Rattle.clap.proofs.WalkLemmas.{first_value-rows, one_text-rows, raw_values-rows}
use Rattle.edb_options.specs.declared.request.Options.{Options}
use Rattle.edb_options.specs.Given.{Given, number_or, options_by, wanted_by}
use Rattle.edb_options.specs.Command.{Holds, flag_text}

-- the options by their numbers
abbrev pub options_from : Bool → Option ℕ → Option ℕ → Option ℕ → Option Options
options_from journal hands slice moves =
    option_and_then (λ _. option_and_then (λ s. option_and_then (λ m. Some (record { slice = s; moves = m; journal = journal })) moves) slice) hands

module _ (f : Found) (g : Given) (holds : Holds g (rows_of f)) where
  pub hands_read : (n : Option ℕ) (value : Option (Bor Text)) → n ≡ number_or 1 1 (option_map (λ v. v.now) value) → option_map (λ v. v.now) value ≡ first_value f (codes "hands") → n ≡ number_or 1 1 g.hands
  hands_read n value number read = number ∙ ap (number_or 1 1) (read ∙ first_value-rows f (codes "hands") ∙ holds.hands)

  pub slice_read : (n : Option ℕ) (value : Option (Bor Text)) → n ≡ number_or 4096 100 (option_map (λ v. v.now) value) → option_map (λ v. v.now) value ≡ first_value f (codes "slice")
      → n ≡ number_or 4096 100 g.slice
  slice_read n value number read = number ∙ ap (number_or 4096 100) (read ∙ first_value-rows f (codes "slice") ∙ holds.slice)

  pub moves_read : (n : Option ℕ) (value : Option (Bor Text)) → n ≡ number_or 1000000 100000 (option_map (λ v. v.now) value) → option_map (λ v. v.now) value ≡ first_value f (codes "moves")
      → n ≡ number_or 1000000 100000 g.moves
  moves_read n value number read = number ∙ ap (number_or 1000000 100000) (read ∙ first_value-rows f (codes "moves") ∙ holds.moves)

  pub flag_read : (r : Bool) → (one_text f (codes "journal") ≡ Some (codes "true") → r ≡ true) → (one_text f (codes "journal") ≡ Some (codes "false") → r ≡ false) → r ≡ g.journal
  flag_read r if_true if_false = go g.journal refl
    where
      read : (b : Bool) → g.journal ≡ b → one_text f (codes "journal") ≡ Some (flag_text b)
      read b e = one_text-rows f (codes "journal") ∙ holds.journal ∙ ap (λ x. Some (flag_text x)) e

      go : (b : Bool) → g.journal ≡ b → r ≡ b
      go true e = if_true (read true e)
      go false e = if_false (read false e)

  pub no_hands : (n : Option ℕ) → n ≡ number_or 1 1 g.hands → n ≡ None → options_by g ≡ None
  no_hands n is none = ap (λ h. options_from g.journal h (number_or 4096 100 g.slice) (number_or 1000000 100000 g.moves)) (sym is ∙ none)

  pub no_slice : (h n : Option ℕ) (hands : ℕ) → h ≡ number_or 1 1 g.hands → h ≡ Some hands → n ≡ number_or 4096 100 g.slice → n ≡ None → options_by g ≡ None
  no_slice h n hands first given is none = λ i. options_from g.journal ((sym first ∙ given) i) ((sym is ∙ none) i) (number_or 1000000 100000 g.moves)

  pub no_moves : (h s n : Option ℕ) (hands slice : ℕ) → h ≡ number_or 1 1 g.hands → h ≡ Some hands → s ≡ number_or 4096 100 g.slice → s ≡ Some slice
      → n ≡ number_or 1000000 100000 g.moves → n ≡ None → options_by g ≡ None
  no_moves h s n hands slice first given second given_slice is none = λ i. options_from g.journal ((sym first ∙ given) i) ((sym second ∙ given_slice) i) ((sym is ∙ none) i)

  pub all_numbers : (h s n : Option ℕ) (hands slice moves : ℕ) (journal : Bool) → h ≡ number_or 1 1 g.hands → h ≡ Some hands → s ≡ number_or 4096 100 g.slice → s ≡ Some slice
      → n ≡ number_or 1000000 100000 g.moves → n ≡ Some moves → journal ≡ g.journal → options_by g ≡ Some (record { slice = slice; moves = moves; journal = journal })
  all_numbers h s n hands slice moves journal first given second given_slice third given_moves flag =
      λ i. options_from (sym flag i) ((sym first ∙ given) i) ((sym second ∙ given_slice) i) ((sym third ∙ given_moves) i)

  pub names_read : (r : Option (Bor (List (Bor Text)))) → option_map (λ s. map (λ v. v.now) s.now) r ≡ option_map raw_values (matched_of f (codes "names"))
      → g.names ≡ unwrap_or (option_map (λ s. map (λ v. v.now) s.now) r) []
  names_read r read = sym (ap (λ o. unwrap_or o []) (read ∙ raw_values-rows f (codes "names")) ∙ holds.names)

-- what is asked for by the count of names
pub too_few : (g : Given) → length g.names < 2 → wanted_by g ≡ None
too_few g few = rw (lt-leb 2 (length g.names) few) refl

pub enough : (g : Given) (options : Options) (names : List Text) → options_by g ≡ Some options → g.names ≡ names → 2 ≤ length names → wanted_by g ≡ Some (record { options = options; names = names })
enough g options names numbers same two =
    (λ i. if nat_le 2 (length (same i)) then option_map (λ o. record { options = o; names = same i }) (numbers i) else None) ∙ rw (le-leb 2 (length names) two) refl
