-- What is asked for is what is given, with its texts as numbers.

use Rattle.std.proofs.Common.{◌≡◌, ◌∙◌, ℕ, Bool, true, false, true≢false, ◌&&◌, if◌then◌else◌, nat_le, ◌<◌, List, [], ◌∷◌, ◌++◌, length, Option, Some, None, option_map, refl, sym, ap, lt-ltb}
use Rattle.std.specs.Prelude.{option_and_then}
use Rattle.std.specs.Option.{unwrap_or}
use Rattle.edb_files.specs.Names.{is_option}
use Rattle.edb_files.specs.Numbers.{is_number}
use Rattle.std.proofs.lemmas.Bool.Decides.{Decides-eqb}
use Rattle.edb_options.specs.Words.{Text, Kind, Hands, Slice, Moves, What, Name, End, Journal, Alone, Joined, Unknown, word_of}
use Rattle.edb_options.specs.Numbers.{number_of, once}
use Rattle.edb_options.specs.Reading.{Place, Open, Waits, Ended, State, is_name, read_words, start, with_number, with_option, with_word}
use Rattle.edb_options.specs.Options.{Wanted, is_settled, options_in, wanted_at}
use Rattle.edb_options.specs.Given.{Given, given_at, given_by, given_in, nothing, number_or, wanted_by, with_name, with_text, with_what}
use Rattle.edb_options.proofs.GivenNumbers.{Read, checked, now_checked, number_step, numbered, read_with, stated, with_state}

module _ {X Y Z : Type 0} where
  twice : (f : X → Option Y) (h : Y → Option Z) (o : Option X) → option_and_then h (option_and_then f o) ≡ option_and_then (λ x. option_and_then h (f x)) o
  twice f h None = refl
  twice f h (Some x) = refl

module _ {X Y : Type 0} where
  each : (f h : X → Option Y) (o : Option X) → ((x : X) → f x ≡ h x) → option_and_then f o ≡ option_and_then h o
  each f h None same = refl
  each f h (Some x) same = same x

-- ---- one word more

-- a state that is changed in each of the same ways
module _ (names : List Text) where
  changed : (f : State → Option State) (place into : Place) (journal then_it : Bool) → ((h s m : Option ℕ) → f (record { place = place; hands = h; slice = s; moves = m; journal = journal })
      ≡ Some (record { place = into; hands = h; slice = s; moves = m; journal = then_it })) → (h s m : Option (Option ℕ))
      → with_state f (read_with names (stated place journal h s m)) ≡ read_with names (stated into then_it h s m)
  changed f place into journal then_it same None s m = refl
  changed f place into journal then_it same (Some h) None m = refl
  changed f place into journal then_it same (Some h) (Some s) None = refl
  changed f place into journal then_it same (Some h) (Some s) (Some m) = ap (option_map (λ t. (t, names))) (same h s m)

  refused_state : (f : State → Option State) (place : Place) (journal : Bool) → ((h s m : Option ℕ) → f (record { place = place; hands = h; slice = s; moves = m; journal = journal }) ≡ None)
      → (h s m : Option (Option ℕ)) → with_state f (read_with names (stated place journal h s m)) ≡ None
  refused_state f place journal none None s m = refl
  refused_state f place journal none (Some h) None m = refl
  refused_state f place journal none (Some h) (Some s) None = refl
  refused_state f place journal none (Some h) (Some s) (Some m) = ap (option_map (λ t. (t, names))) (none h s m)

  named : (word : Text) (place : Place) (journal : Bool) (h s m : Option (Option ℕ))
      → option_and_then (λ (r : Read). Some (r.0, r.1 ++ word ∷ [])) (read_with names (stated place journal h s m)) ≡ read_with (names ++ word ∷ []) (stated place journal h s m)
  named word place journal None s m = refl
  named word place journal (Some h) None m = refl
  named word place journal (Some h) (Some s) None = refl
  named word place journal (Some h) (Some s) (Some m) = refl

what_step : (what : What) (g : Given) → with_state (λ s. with_word s what) (checked Open g) ≡ now_checked (with_what g what)
what_step Name g = refused_state g.names (λ s. None) Open g.journal (λ h s m. refl) (numbered Hands g.hands) (numbered Slice g.slice) (numbered Moves g.moves)
what_step End g = changed g.names (λ s. Some (record s { place = Ended })) Open Ended g.journal g.journal (λ h s m. refl) (numbered Hands g.hands) (numbered Slice g.slice) (numbered Moves g.moves)
what_step Journal g = go g.journal
  where
    go : (b : Bool) → with_state (λ s. with_word s Journal) (read_with g.names (stated Open b (numbered Hands g.hands) (numbered Slice g.slice) (numbered Moves g.moves)))
        ≡ now_checked (if b then None else Some (Open, record g { journal = true }))
    go true = refused_state g.names (λ s. with_word s Journal) Open true (λ h s m. refl) (numbered Hands g.hands) (numbered Slice g.slice) (numbered Moves g.moves)
    go false = changed g.names (λ s. with_word s Journal) Open Open false true (λ h s m. refl) (numbered Hands g.hands) (numbered Slice g.slice) (numbered Moves g.moves)
what_step (Alone kind) g = changed g.names (λ s. Some (record s { place = Waits kind })) Open (Waits kind) g.journal g.journal (λ h s m. refl) (numbered Hands g.hands) (numbered Slice g.slice) (numbered Moves g.moves)
what_step (Joined kind value) g = number_step kind value Open g
what_step Unknown g = refused_state g.names (λ s. None) Open g.journal (λ h s m. refl) (numbered Hands g.hands) (numbered Slice g.slice) (numbered Moves g.moves)

-- the words read, one more
abbrev read_step : Read → Text → Option Read
read_step r word = if is_name r.0.place word then Some (r.0, r.1 ++ word ∷ []) else option_map (λ t. (t, r.1)) (with_option r.0 word)

read_more : (r : Read) (word : Text) (words : List Text) → read_words r.0 r.1 (word ∷ words) ≡ option_and_then (λ (q : Read). read_words q.0 q.1 words) (read_step r word)
unfolding read_words
read_more r word words = go (is_name r.0.place word) (with_option r.0 word)
  where
    go : (b : Bool) (o : Option State) → (if b then read_words r.0 (r.1 ++ word ∷ []) words else option_and_then (λ t. read_words t r.1 words) o)
        ≡ option_and_then (λ (q : Read). read_words q.0 q.1 words) (if b then Some (r.0, r.1 ++ word ∷ []) else option_map (λ t. (t, r.1)) o)
    go true o = refl
    go false None = refl
    go false (Some t) = refl

-- what the checked texts read on to, where each of their states stands at this place
at_place : (place : Place) (names : List Text) (f h : Read → Option Read) (journal : Bool) → ((x y z : Option ℕ) → f (record { place = place; hands = x; slice = y; moves = z; journal = journal }, names)
    ≡ h (record { place = place; hands = x; slice = y; moves = z; journal = journal }, names)) → (x y z : Option (Option ℕ))
    → option_and_then f (read_with names (stated place journal x y z)) ≡ option_and_then h (read_with names (stated place journal x y z))
at_place place names f h journal same None y z = refl
at_place place names f h journal same (Some x) None z = refl
at_place place names f h journal same (Some x) (Some y) None = refl
at_place place names f h journal same (Some x) (Some y) (Some z) = same x y z

-- a word that begins as an option does is no number
no_number : (word : Text) → is_option word ≡ true → is_number word ≡ false
no_number [] dashes = absurd (true≢false (sym dashes))
no_number (c ∷ []) dashes = absurd (true≢false (sym dashes))
no_number (c ∷ (d ∷ cs)) dashes =
    let is : c ≡ 45 = (Decides-eqb c 45).0 dashes in
    ap (λ x. is_number (x ∷ (d ∷ cs))) is ∙ no_digit (nat_le 1 (length (45 ∷ (d ∷ cs)))) (nat_le (length (45 ∷ (d ∷ cs))) 7)
  where
    no_digit : (a b : Bool) → (a && (b && false)) ≡ false
    no_digit true true = refl
    no_digit true false = refl
    no_digit false b = refl

no_value : (kind : Kind) (word : Text) → is_option word ≡ true → number_of kind word ≡ None
no_value Hands word dashes = rw (no_number word dashes) refl
no_value Slice word dashes = rw (no_number word dashes) refl
no_value Moves word dashes = rw (no_number word dashes) refl

nothing_first : (s : State) (kind : Kind) (word : Text) → number_of kind word ≡ None → with_number s kind word ≡ None
nothing_first s Hands word none = ap (λ n. option_map (λ k. record s { place = Open; hands = Some k }) (once s.hands n)) none ∙ go s.hands
  where
    go : (o : Option ℕ) → option_map (λ k. record s { place = Open; hands = Some k }) (once o None) ≡ None
    go None = refl
    go (Some old) = refl
nothing_first s Slice word none = ap (λ n. option_map (λ k. record s { place = Open; slice = Some k }) (once s.slice n)) none ∙ go s.slice
  where
    go : (o : Option ℕ) → option_map (λ k. record s { place = Open; slice = Some k }) (once o None) ≡ None
    go None = refl
    go (Some old) = refl
nothing_first s Moves word none = ap (λ n. option_map (λ k. record s { place = Open; moves = Some k }) (once s.moves n)) none ∙ go s.moves
  where
    go : (o : Option ℕ) → option_map (λ k. record s { place = Open; moves = Some k }) (once o None) ≡ None
    go None = refl
    go (Some old) = refl

module _ (g : Given) (word : Text) where
  open_step : (b : Bool) → is_option word ≡ b → option_and_then (λ r. read_step r word) (checked Open g) ≡ now_checked (given_at Open g word)
  open_step true e =
      at_place Open g.names (λ r. read_step r word) (λ r. option_map (λ t. (t, r.1)) (with_word r.0 (word_of word))) g.journal (λ x y z. rw e refl)
      (numbered Hands g.hands) (numbered Slice g.slice) (numbered Moves g.moves)
      ∙ what_step (word_of word) g ∙ sym (ap (λ b. now_checked (if b then with_what g (word_of word) else with_name Open g word)) e)
  open_step false e =
      at_place Open g.names (λ r. read_step r word) (λ r. Some (r.0, r.1 ++ word ∷ [])) g.journal (λ x y z. rw e refl) (numbered Hands g.hands) (numbered Slice g.slice) (numbered Moves g.moves)
      ∙ named g.names word Open g.journal (numbered Hands g.hands) (numbered Slice g.slice) (numbered Moves g.moves)
      ∙ sym (ap (λ b. now_checked (if b then with_what g (word_of word) else with_name Open g word)) e)

  waits_step : (kind : Kind) (b : Bool) → is_option word ≡ b → option_and_then (λ r. read_step r word) (checked (Waits kind) g) ≡ now_checked (given_at (Waits kind) g word)
  waits_step kind true e =
      at_place (Waits kind) g.names (λ r. read_step r word) (λ r. option_map (λ t. (t, r.1)) (with_number r.0 kind word)) g.journal (λ x y z. refl)
      (numbered Hands g.hands) (numbered Slice g.slice) (numbered Moves g.moves)
      ∙ refused_state g.names (λ s. with_number s kind word) (Waits kind) g.journal
      (λ h s m. nothing_first (record { place = Waits kind; hands = h; slice = s; moves = m; journal = g.journal }) kind word (no_value kind word e))
      (numbered Hands g.hands) (numbered Slice g.slice) (numbered Moves g.moves)
      ∙ sym (ap (λ b. now_checked (if b then None else with_text g kind word)) e)
  waits_step kind false e =
      at_place (Waits kind) g.names (λ r. read_step r word) (λ r. option_map (λ t. (t, r.1)) (with_number r.0 kind word)) g.journal (λ x y z. refl)
      (numbered Hands g.hands) (numbered Slice g.slice) (numbered Moves g.moves)
      ∙ number_step kind word (Waits kind) g ∙ sym (ap (λ b. now_checked (if b then None else with_text g kind word)) e)

  ended_step : option_and_then (λ r. read_step r word) (checked Ended g) ≡ now_checked (given_at Ended g word)
  ended_step =
      at_place Ended g.names (λ r. read_step r word) (λ r. Some (r.0, r.1 ++ word ∷ [])) g.journal (λ x y z. refl) (numbered Hands g.hands) (numbered Slice g.slice) (numbered Moves g.moves)
      ∙ named g.names word Ended g.journal (numbered Hands g.hands) (numbered Slice g.slice) (numbered Moves g.moves)

  one_step : (place : Place) → option_and_then (λ r. read_step r word) (checked place g) ≡ now_checked (given_at place g word)
  one_step Open = open_step (is_option word) refl
  one_step (Waits kind) = waits_step kind (is_option word) refl
  one_step Ended = ended_step

-- ---- at the end

default_number : (most default : ℕ) (o : Option Text) (kind : Kind) → ((v : Text) → number_of kind v ≡ number_or most default (Some v))
    → option_map (λ x. unwrap_or x default) (numbered kind o) ≡ number_or most default o
default_number most default None kind same = refl
default_number most default (Some v) kind same = go (number_of kind v) ∙ same v
  where
    go : (x : Option ℕ) → option_map (λ y. unwrap_or y default) (option_map (λ k. Some k) x) ≡ x
    go None = refl
    go (Some k) = refl

-- what the numbers make of the options, where they are all there
abbrev made : Bool → List Text → Option ℕ → Option ℕ → Option ℕ → Option Wanted
made journal names hands slice moves = if nat_le 2 (length names)
    then option_map (λ options. record { options = options; names = names }) (option_and_then (λ _. option_and_then (λ s. option_and_then (λ m.
    Some (record { slice = s; moves = m; journal = journal })) moves) slice) hands) else None

abbrev nothing_wanted : Option Wanted
nothing_wanted = None

either : (b : Bool) → (if b then nothing_wanted else nothing_wanted) ≡ None
either true = refl
either false = refl

module _ (place : Place) (journal : Bool) (names : List Text) where
  settled_end : is_settled place ≡ true → (h s m : Option (Option ℕ)) → option_and_then wanted_at (read_with names (stated place journal h s m))
      ≡ made journal names (option_map (λ x. unwrap_or x 1) h) (option_map (λ x. unwrap_or x 100) s) (option_map (λ x. unwrap_or x 100000) m)
  settled_end settled None s m = sym (either (nat_le 2 (length names)))
  settled_end settled (Some h) None m = sym (either (nat_le 2 (length names)))
  settled_end settled (Some h) (Some s) None = sym (either (nat_le 2 (length names)))
  settled_end settled (Some h) (Some s) (Some m) = rw settled refl

  waiting_end : is_settled place ≡ false → (h s m : Option (Option ℕ)) → option_and_then wanted_at (read_with names (stated place journal h s m)) ≡ None
  waiting_end waits None s m = refl
  waiting_end waits (Some h) None m = refl
  waiting_end waits (Some h) (Some s) None = refl
  waiting_end waits (Some h) (Some s) (Some m) = rw waits refl

ends : (place : Place) (g : Given) (b : Bool) → is_settled place ≡ b → option_and_then wanted_at (checked place g) ≡ option_and_then wanted_by (if b then Some g else None)
ends place g true e =
    settled_end place g.journal g.names e (numbered Hands g.hands) (numbered Slice g.slice) (numbered Moves g.moves)
    ∙ (λ i. made g.journal g.names (default_number 1 1 g.hands Hands (λ v. refl) i) (default_number 4096 100 g.slice Slice (λ v. refl) i) (default_number 1000000 100000 g.moves Moves (λ v. refl) i))
ends place g false e = waiting_end place g.journal g.names e (numbered Hands g.hands) (numbered Slice g.slice) (numbered Moves g.moves)

-- ---- all the words

reads : (words : List Text) (place : Place) (g : Given)
    → option_and_then (λ (r : Read). option_and_then wanted_at (read_words r.0 r.1 words)) (checked place g) ≡ option_and_then wanted_by (given_by place g words)
unfolding read_words given_by
reads [] place g = ends place g (is_settled place) refl
reads (word ∷ words) place g =
    let wanted : Read → Option Wanted = λ q. option_and_then wanted_at (read_words q.0 q.1 words) in
    each (λ r. option_and_then wanted_at (read_words r.0 r.1 (word ∷ words))) (λ r. option_and_then wanted (read_step r word)) (checked place g)
    (λ r. ap (option_and_then wanted_at) (read_more r word words) ∙ twice (λ q. read_words q.0 q.1 words) wanted_at (read_step r word))
    ∙ sym (twice (λ r. read_step r word) wanted (checked place g))
    ∙ ap (option_and_then wanted) (one_step g word place)
    ∙ twice (λ q. checked q.0 q.1) wanted (given_at place g word)
    ∙ each (λ q. option_and_then wanted (checked q.0 q.1)) (λ q. option_and_then wanted_by (given_by q.0 q.1 words)) (given_at place g word) (λ q. reads words q.0 q.1)
    ∙ sym (twice (λ q. given_by q.0 q.1 words) wanted_by (given_at place g word))

-- what words ask for, by what they give
pub asked : (words : List Text) → length words < 4294967295 → options_in words ≡ option_and_then wanted_by (given_in words)
asked words few = ap (λ b. if b then option_and_then wanted_at (read_words start [] words) else None) (lt-ltb (length words) 4294967295 few) ∙ reads words Open nothing
