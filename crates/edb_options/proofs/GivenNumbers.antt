-- The texts of what is given, as numbers.

use Rattle.std.proofs.Common.{◌≡◌, ℕ, Bool, List, Option, Some, None, option_map, refl}
use Rattle.std.specs.Prelude.{option_and_then}
use Rattle.edb_options.specs.Words.{Text, Kind, Hands, Slice, Moves}
use Rattle.edb_options.specs.Numbers.{number_of, once}
use Rattle.edb_options.specs.Reading.{Place, Open, State, with_number}
use Rattle.edb_options.specs.Given.{Given, text_once, with_text}

abbrev pub Read : Type 0
Read = State × List Text

-- ---- options of numbers

abbrev pub numbered : Kind → Option Text → Option (Option ℕ)
numbered kind None = Some None
numbered kind (Some value) = option_map (λ n. Some n) (number_of kind value)

abbrev pub stated : Place → Bool → Option (Option ℕ) → Option (Option ℕ) → Option (Option ℕ) → Option State
stated place journal None slice moves = None
stated place journal (Some hands) None moves = None
stated place journal (Some hands) (Some slice) None = None
stated place journal (Some hands) (Some slice) (Some moves) = Some (record { place = place; hands = hands; slice = slice; moves = moves; journal = journal })

abbrev pub read_with : List Text → Option State → Option Read
read_with names state = option_map (λ s. (s, names)) state

-- what is given, with its numbers; nothing where one is none
abbrev pub checked : Place → Given → Option Read
checked place g = read_with g.names (stated place g.journal (numbered Hands g.hands) (numbered Slice g.slice) (numbered Moves g.moves))

abbrev pub with_state : (State → Option State) → Option Read → Option Read
with_state f read = option_and_then (λ r. option_map (λ t. (t, r.1)) (f r.0)) read

-- ---- one number more

module _ (place : Place) (journal : Bool) (names : List Text) where
  hands_first : (n : Option ℕ) (s m : Option (Option ℕ)) → with_state (λ t. option_map (λ k. record t { place = Open; hands = Some k }) (once t.hands n)) (read_with names (stated place journal (Some None) s m))
      ≡ read_with names (stated Open journal (option_map (λ k. Some k) n) s m)
  hands_first None None m = refl
  hands_first None (Some s) None = refl
  hands_first None (Some s) (Some m) = refl
  hands_first (Some n) None m = refl
  hands_first (Some n) (Some s) None = refl
  hands_first (Some n) (Some s) (Some m) = refl

  hands_again : (n old : Option ℕ) (s m : Option (Option ℕ)) → with_state (λ t. option_map (λ k. record t { place = Open; hands = Some k }) (once t.hands n)) (read_with names (stated place journal (option_map (λ k. Some k) old) s m))
      ≡ None
  hands_again n None s m = refl
  hands_again n (Some old) None m = refl
  hands_again n (Some old) (Some s) None = refl
  hands_again n (Some old) (Some s) (Some m) = refl

  slice_first : (n : Option ℕ) (h m : Option (Option ℕ)) → with_state (λ t. option_map (λ k. record t { place = Open; slice = Some k }) (once t.slice n)) (read_with names (stated place journal h (Some None) m))
      ≡ read_with names (stated Open journal h (option_map (λ k. Some k) n) m)
  slice_first None None m = refl
  slice_first None (Some h) None = refl
  slice_first None (Some h) (Some m) = refl
  slice_first (Some n) None m = refl
  slice_first (Some n) (Some h) None = refl
  slice_first (Some n) (Some h) (Some m) = refl

  slice_again : (n old : Option ℕ) (h m : Option (Option ℕ)) → with_state (λ t. option_map (λ k. record t { place = Open; slice = Some k }) (once t.slice n)) (read_with names (stated place journal h (option_map (λ k. Some k) old) m))
      ≡ None
  slice_again n old None m = refl
  slice_again n None (Some h) m = refl
  slice_again n (Some old) (Some h) None = refl
  slice_again n (Some old) (Some h) (Some m) = refl

  moves_first : (n : Option ℕ) (h s : Option (Option ℕ)) → with_state (λ t. option_map (λ k. record t { place = Open; moves = Some k }) (once t.moves n)) (read_with names (stated place journal h s (Some None)))
      ≡ read_with names (stated Open journal h s (option_map (λ k. Some k) n))
  moves_first n None s = refl
  moves_first n (Some h) None = refl
  moves_first None (Some h) (Some s) = refl
  moves_first (Some n) (Some h) (Some s) = refl

  moves_again : (n old : Option ℕ) (h s : Option (Option ℕ)) → with_state (λ t. option_map (λ k. record t { place = Open; moves = Some k }) (once t.moves n)) (read_with names (stated place journal h s (option_map (λ k. Some k) old)))
      ≡ None
  moves_again n old None s = refl
  moves_again n old (Some h) None = refl
  moves_again n None (Some h) (Some s) = refl
  moves_again n (Some old) (Some h) (Some s) = refl

abbrev pub now_checked : Option (Place × Given) → Option Read
now_checked next = option_and_then (λ q. checked q.0 q.1) next

pub number_step : (kind : Kind) (value : Text) (place : Place) (g : Given) → with_state (λ s. with_number s kind value) (checked place g) ≡ now_checked (with_text g kind value)
number_step Hands value place g = go g.hands
  where
    go : (o : Option Text) → with_state (λ s. with_number s Hands value) (read_with g.names (stated place g.journal (numbered Hands o) (numbered Slice g.slice) (numbered Moves g.moves)))
        ≡ now_checked (option_map (λ t. (Open, record g { hands = Some t })) (text_once o value))
    go None = hands_first place g.journal g.names (number_of Hands value) (numbered Slice g.slice) (numbered Moves g.moves)
    go (Some old) = hands_again place g.journal g.names (number_of Hands value) (number_of Hands old) (numbered Slice g.slice) (numbered Moves g.moves)
number_step Slice value place g = go g.slice
  where
    go : (o : Option Text) → with_state (λ s. with_number s Slice value) (read_with g.names (stated place g.journal (numbered Hands g.hands) (numbered Slice o) (numbered Moves g.moves)))
        ≡ now_checked (option_map (λ t. (Open, record g { slice = Some t })) (text_once o value))
    go None = slice_first place g.journal g.names (number_of Slice value) (numbered Hands g.hands) (numbered Moves g.moves)
    go (Some old) = slice_again place g.journal g.names (number_of Slice value) (number_of Slice old) (numbered Hands g.hands) (numbered Moves g.moves)
number_step Moves value place g = go g.moves
  where
    go : (o : Option Text) → with_state (λ s. with_number s Moves value) (read_with g.names (stated place g.journal (numbered Hands g.hands) (numbered Slice g.slice) (numbered Moves o)))
        ≡ now_checked (option_map (λ t. (Open, record g { moves = Some t })) (text_once o value))
    go None = moves_first place g.journal g.names (number_of Moves value) (numbered Hands g.hands) (numbered Slice g.slice)
    go (Some old) = moves_again place g.journal g.names (number_of Moves value) (number_of Moves old) (numbered Hands g.hands) (numbered Slice g.slice)
