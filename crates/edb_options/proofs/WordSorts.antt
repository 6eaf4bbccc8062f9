-- What a word may be: as the rules have it, and as clap's walk does.

use Rattle.std.proofs.Common.{◌≡◌, ◌≢◌, ◌∙◌, ℕ, Bool, cond, true, false, true≢false, if◌then◌else◌, ◌==◌, suc, List, [], ◌∷◌, ◌++◌, length, Option, Some, None, codes, refl, sym, ap, subst, arith, append-nil, ◌⊎◌, inl, inr, ⊎_elim}
use Rattle.std.specs.Prelude.{slice_get}
use Rattle.std.specs.List.{after_first, before_first, position_or_len, slice_index_or}
use Rattle.std.proofs.lemmas.Bool.{cases_lt}
use Rattle.std.proofs.lemmas.Bool.Decides.{Decides-eqb}
use Rattle.std.proofs.lemmas.List.{take_all}
use Rattle.std.proofs.lemmas.List.Sums.{passes_at_first, split_at_first}
use Rattle.std.specs.Char.{encode_utf8}
use Rattle.std.specs.Str.{IsUtf8, bytes_eq, chars, encode_utf8_all}
use Rattle.std.proofs.lemmas.Str.{chars_past_char, encodes-chars}
use Rattle.std.proofs.lemmas.Slice.Eq.{bytes_eq-Decides}
use Rattle.std.specs.Option.{option_map_or, unwrap_or}
use Rattle.clap.specs.Lexer.{long_of, name_and_value, short_of}
use Rattle.clap.specs.Walk.{Held, Row, Text, Waiting, idle, option, positional, arg_by_long}
use Rattle.clap.specs.Kinds.{Kinds}
use Rattle.clap.specs.Faults.{bundle_fault, bundle_step_fault, flag_word_fault, flags_fault, long_fault}
use Rattle.clap.specs.declared.error.kind.ErrorKind.TheVariants.{UnknownArgument, TooManyValues}
use Rattle.edb_files.specs.Names.{is_option}
use Rattle.edb_options.specs.Words.{Kind, Hands, Slice, Moves, Unknown, behind, word_of}
use Rattle.edb_options.proofs.RowLaws.{some_is_none}
use Rattle.edb_options.proofs.GivenRows.{name_of, one_kind, rules}
use Rattle.edb_options.proofs.Walks.{Pending, IsPlain, alone, at, fails_first, held, joined, turn}

-- clap refuses the word before `--`
abbrev pub IsRefused : Text → Type 0
IsRefused word = (waiting : Waiting) (p : Pending) (rows : List Row) → turn (at false waiting p rows) word ≢ []

pub data Sort (word : Text) : Type 0 where
  is_name : is_option word ≡ false → IsPlain word → Sort word
  is_end : word ≡ codes "--" → Sort word
  is_journal : word ≡ codes "--journal" → Sort word
  is_alone : (kind : Kind) → word ≡ alone kind → Sort word
  is_joined : (kind : Kind) (value : Text) → word ≡ joined kind value → Sort word
  is_refused : is_option word ≡ true → word_of word ≡ Unknown → IsRefused word → Sort word

-- ---- names

pub plain_one : (c : ℕ) → IsPlain (c ∷ [])
plain_one c = go (c == 45) refl
  where
    go : (b : Bool) → (c == 45) ≡ b → IsPlain (c ∷ [])
    go true e = record { no_end = rw e refl; no_long = rw e refl; no_short = rw e refl }
    go false e = record { no_end = rw e refl; no_long = rw e refl; no_short = rw e refl }

plain_more : (c d : ℕ) (cs : List ℕ) → (c == 45) ≡ false → IsPlain (c ∷ (d ∷ cs))
plain_more c d cs e = record { no_end = rw e refl; no_long = rw e refl; no_short = rw e refl }

-- ---- one hyphen

hyphen : encode_utf8 45 ≡ 45 ∷ []
unfolding encode_utf8
hyphen = refl

first_char : (d : ℕ) (cs : List ℕ) → IsUtf8 (45 ∷ (d ∷ cs)) → (x : ℕ) × (slice_get (chars (d ∷ cs)) 0 ≡ Some x)
first_char d cs text = go (chars (d ∷ cs)) refl
  where
    go : (xs : List ℕ) → chars (d ∷ cs) ≡ xs → (x : ℕ) × (slice_get xs 0 ≡ Some x)
    go (x ∷ xs) e = (x, refl)
    go [] e =
        let all : chars (45 ∷ (d ∷ cs)) ≡ 45 ∷ chars (d ∷ cs) = chars_past_char (45 ∷ (d ∷ cs)) (d ∷ cs) 45 text (ap (λ l. l ++ d ∷ cs) (sym hyphen)) in
        let one : encode_utf8_all (45 ∷ []) ≡ 45 ∷ (d ∷ cs) = ap encode_utf8_all (sym (all ∙ ap (λ l. 45 ∷ l) e)) ∙ encodes-chars (45 ∷ (d ∷ cs)) text in
        let short : encode_utf8_all (45 ∷ []) ≡ 45 ∷ [] = append-nil (encode_utf8 45) ∙ hyphen in
        let lengths : 1 ≡ suc (suc (length cs)) = ap length (sym short ∙ one) in
        absurd (omega (arith, lengths))

module _ (d : ℕ) (cs : List ℕ) (text : IsUtf8 (45 ∷ (d ∷ cs))) (e : (d == 45) ≡ false) (p : Pending) (rows : List Row) where
  bundle_is : bundle_fault rules false (d ∷ cs) (held p rows) ≡ UnknownArgument ∷ []
  unfolding flags_fault
  bundle_is = ap (λ o. bundle_step_fault rules false o (d ∷ cs) 0 (held p rows) (flags_fault rules false (length cs))) (first_char d cs text).1

  abbrev short_kinds : Kinds
  short_kinds = flag_word_fault rules false (long_of (45 ∷ (d ∷ cs))) (45 ∷ (d ∷ cs)) (held p rows)

  short_is : short_kinds ≡ UnknownArgument ∷ []
  short_is =
      let no_long : long_of (45 ∷ (d ∷ cs)) ≡ None = rw e refl in
      let flags : short_of (45 ∷ (d ∷ cs)) ≡ Some (d ∷ cs) = rw e refl in
      ap (λ l. flag_word_fault rules false l (45 ∷ (d ∷ cs)) (held p rows)) no_long ∙ ap (λ s. option_map_or (λ f. bundle_fault rules false f (held p rows)) s []) flags ∙ bundle_is

  short_fails : (if bytes_eq (45 ∷ (d ∷ cs)) (codes "--") then [] else short_kinds) ≢ []
  short_fails =
      let no_end : bytes_eq (45 ∷ (d ∷ cs)) (codes "--") ≡ false = rw e refl in
      subst (λ b. cond b [] short_kinds ≢ []) (sym no_end) (one_kind UnknownArgument short_kinds short_is)

short_is_refused : (d : ℕ) (cs : List ℕ) → IsUtf8 (45 ∷ (d ∷ cs)) → (d == 45) ≡ false → IsRefused (45 ∷ (d ∷ cs))
short_is_refused d cs text e idle p rows = fails_first _ _ (short_fails d cs text e p rows)
short_is_refused d cs text e (option id) p rows = fails_first _ _ (short_fails d cs text e p rows)
short_is_refused d cs text e positional p rows = fails_first _ _ (short_fails d cs text e p rows)

-- ---- two hyphens

abbrev is_equals : ℕ → Bool
is_equals c = c == 61

-- what stands before the first `=` is all, or `=` and the rest follow
split : (rest : Text) → (before_first is_equals rest ≡ rest) ⊎ ((v : Text) × (rest ≡ before_first is_equals rest ++ 61 ∷ v))
split rest = elim (cases_lt (position_or_len is_equals rest) (length rest)) [
  | inl inside ↦
      let equals : slice_index_or rest (position_or_len is_equals rest) 0 ≡ 61 = (Decides-eqb _ _).0 (passes_at_first is_equals rest 0 inside) in
      inr (after_first is_equals rest, split_at_first is_equals rest 0 inside ∙ ap (λ c. before_first is_equals rest ++ c ∷ after_first is_equals rest) equals)
  | inr past ↦ inl (take_all (position_or_len is_equals rest) rest past)
]

unnamed : (id rest : Text) → rest ≢ id → ((v : Text) → rest ≢ id ++ 61 ∷ v) → bytes_eq id (before_first is_equals rest) ≡ false
unnamed id rest no_name no_value = go (bytes_eq id (before_first is_equals rest)) refl
  where
    go : (b : Bool) → bytes_eq id (before_first is_equals rest) ≡ b → b ≡ false
    go false e = refl
    go true e =
        let is : before_first is_equals rest ≡ id = sym ((bytes_eq-Decides id (before_first is_equals rest)).0 e) in
        absurd (⊎_elim (λ all. no_name (sym all ∙ is)) (λ h. no_value h.0 (h.1 ∙ ap (λ n. n ++ 61 ∷ h.0) is)) (split rest))

abbrev no_option : Kind → Text → Type 0
no_option kind name = bytes_eq (name_of kind) name ≡ false

unknown : (name : Text) (v : Option Text) (h : Held) → no_option Hands name → no_option Slice name → no_option Moves name → bytes_eq (codes "journal") name ≡ false
    → long_fault rules false (arg_by_long rules name) v h ≢ []
unknown name v h hands slice moves journal = one_kind UnknownArgument _ (rw (hands, slice, moves, journal) refl)

flag_with_value : (value : Text) (h : Held) → long_fault rules false (arg_by_long rules (codes "journal")) (Some value) h ≢ []
flag_with_value value h = one_kind TooManyValues _ refl

abbrev fault_of_long : Text → Held → Kinds
fault_of_long rest h = long_fault rules false (arg_by_long rules (name_and_value rest).0) (name_and_value rest).1 h

long_fails : (rest : Text) (h : Held) → ((kind : Kind) → no_option kind (before_first is_equals rest)) → rest ≢ codes "journal" → fault_of_long rest h ≢ []
long_fails rest h no_kind no_journal = go (bytes_eq (codes "journal") (before_first is_equals rest)) refl
  where
    go : (b : Bool) → bytes_eq (codes "journal") (before_first is_equals rest) ≡ b → fault_of_long rest h ≢ []
    go false e = unknown (before_first is_equals rest) (name_and_value rest).1 h (no_kind Hands) (no_kind Slice) (no_kind Moves) e
    go true e =
        let is : before_first is_equals rest ≡ codes "journal" = sym ((bytes_eq-Decides (codes "journal") (before_first is_equals rest)).0 e) in
        ⊎_elim (λ all. absurd (no_journal (sym all ∙ is)))
        (λ h'. subst (λ r. fault_of_long r h ≢ []) (sym (h'.1 ∙ ap (λ n. n ++ 61 ∷ h'.0) is)) (flag_with_value h'.0 h)) (split rest)

long_is_refused : (x : ℕ) (xs : List ℕ) → ((kind : Kind) → no_option kind (before_first is_equals (x ∷ xs))) → x ∷ xs ≢ codes "journal" → IsRefused (45 ∷ (45 ∷ (x ∷ xs)))
long_is_refused x xs no_kind no_journal idle p rows = fails_first _ _ (long_fails (x ∷ xs) (held p rows) no_kind no_journal)
long_is_refused x xs no_kind no_journal (option id) p rows = fails_first _ _ (long_fails (x ∷ xs) (held p rows) no_kind no_journal)
long_is_refused x xs no_kind no_journal positional p rows = fails_first _ _ (long_fails (x ∷ xs) (held p rows) no_kind no_journal)

-- ---- what the rules' tests tell

behind_is : (prefix word v : Text) → behind prefix word ≡ Some v → word ≡ prefix ++ v
unfolding behind
behind_is [] word v e = ap (λ o. unwrap_or o word) e
behind_is (c ∷ cs) [] v e = absurd (some_is_none v (sym e))
behind_is (c ∷ cs) (d ∷ ds) v e = go (c == d) refl (behind_is cs ds v)
  where
    go : (b : Bool) → (c == d) ≡ b → (behind cs ds ≡ Some v → ds ≡ cs ++ v) → d ∷ ds ≡ c ∷ (cs ++ v)
    go true t next =
        let same : c ≡ d = (Decides-eqb c d).0 t in
        let rest : ds ≡ cs ++ v = next (sym (ap (λ b. cond b (behind cs ds) None) t) ∙ e) in
        (λ i. sym same i ∷ rest i)
    go false t next = absurd (some_is_none v (sym e ∙ ap (λ b. cond b (behind cs ds) None) t))

-- the text of an option with `=`
abbrev equals_of : Kind → Text
equals_of kind = 45 ∷ (45 ∷ (name_of kind ++ 61 ∷ []))

has_behind : (kind : Kind) (v : Text) → behind (equals_of kind) (joined kind v) ≡ Some v
unfolding behind
has_behind Hands v = refl
has_behind Slice v = refl
has_behind Moves v = refl

joined_is : (kind : Kind) (v : Text) → equals_of kind ++ v ≡ joined kind v
joined_is Hands v = refl
joined_is Slice v = refl
joined_is Moves v = refl

differs : (word other : Text) → bytes_eq word other ≡ false → word ≢ other
differs word other e is = true≢false (sym ((bytes_eq-Decides word other).1 is) ∙ e)

not_joined : (kind : Kind) (word v : Text) → behind (equals_of kind) word ≡ None → word ≢ joined kind v
not_joined kind word v none is = some_is_none v (sym (has_behind kind v) ∙ ap (behind (equals_of kind)) (sym is) ∙ none)

record Unfit (word : Text) : Type 0 where
  journal : bytes_eq word (codes "--journal") ≡ false
  alone_hands : bytes_eq word (alone Hands) ≡ false
  alone_slice : bytes_eq word (alone Slice) ≡ false
  alone_moves : bytes_eq word (alone Moves) ≡ false
  joined_hands : behind (equals_of Hands) word ≡ None
  joined_slice : behind (equals_of Slice) word ≡ None
  joined_moves : behind (equals_of Moves) word ≡ None

unfit_kind : (kind : Kind) (x : ℕ) (xs : List ℕ) → bytes_eq (45 ∷ (45 ∷ (x ∷ xs))) (alone kind) ≡ false → behind (equals_of kind) (45 ∷ (45 ∷ (x ∷ xs))) ≡ None
    → no_option kind (before_first is_equals (x ∷ xs))
unfit_kind kind x xs no_alone no_joined =
    unnamed (name_of kind) (x ∷ xs) (λ is. differs (45 ∷ (45 ∷ (x ∷ xs))) (alone kind) no_alone (ap (λ r. 45 ∷ (45 ∷ r)) is))
    (λ v is. not_joined kind (45 ∷ (45 ∷ (x ∷ xs))) v no_joined (ap (λ r. 45 ∷ (45 ∷ r)) is))

unfit_sort : (x : ℕ) (xs : List ℕ) → Unfit (45 ∷ (45 ∷ (x ∷ xs))) → Sort (45 ∷ (45 ∷ (x ∷ xs)))
unfit_sort x xs u = is_refused refl (rw (u.journal, u.alone_hands, u.alone_slice, u.alone_moves, u.joined_hands, u.joined_slice, u.joined_moves) refl)
    (long_is_refused x xs no_kind (λ is. differs _ _ u.journal (ap (λ r. 45 ∷ (45 ∷ r)) is)))
  where
    no_kind : (kind : Kind) → no_option kind (before_first is_equals (x ∷ xs))
    no_kind Hands = unfit_kind Hands x xs u.alone_hands u.joined_hands
    no_kind Slice = unfit_kind Slice x xs u.alone_slice u.joined_slice
    no_kind Moves = unfit_kind Moves x xs u.alone_moves u.joined_moves

-- a test that holds tells the word, and one that doesn't goes on
try_text : (word other : Text) → (word ≡ other → Sort word) → (bytes_eq word other ≡ false → Sort word) → Sort word
try_text word other here next = go (bytes_eq word other) refl
  where
    go : (b : Bool) → bytes_eq word other ≡ b → Sort word
    go true e = here ((bytes_eq-Decides word other).0 e)
    go false e = next e

try_joined : (kind : Kind) (word : Text) → (behind (equals_of kind) word ≡ None → Sort word) → Sort word
try_joined kind word next = go (behind (equals_of kind) word) refl
  where
    go : (o : Option Text) → behind (equals_of kind) word ≡ o → Sort word
    go (Some v) e = is_joined kind v (behind_is (equals_of kind) word v e ∙ joined_is kind v)
    go None e = next e

long_sort : (x : ℕ) (xs : List ℕ) → Sort (45 ∷ (45 ∷ (x ∷ xs)))
long_sort x xs =
    let word = 45 ∷ (45 ∷ (x ∷ xs)) in
    try_text word (codes "--journal") (λ is. is_journal is) (λ j.
    try_text word (alone Hands) (λ is. is_alone Hands is) (λ ah.
    try_text word (alone Slice) (λ is. is_alone Slice is) (λ as'.
    try_text word (alone Moves) (λ is. is_alone Moves is) (λ am.
    try_joined Hands word (λ jh. try_joined Slice word (λ js. try_joined Moves word (λ jm.
    unfit_sort x xs (record { journal = j; alone_hands = ah; alone_slice = as'; alone_moves = am; joined_hands = jh; joined_slice = js; joined_moves = jm }))))))))

short_unknown : (d : ℕ) (cs : List ℕ) → (d == 45) ≡ false → word_of (45 ∷ (d ∷ cs)) ≡ Unknown
unfolding behind
short_unknown d cs e = let back : (45 == d) ≡ false = go (45 == d) refl in rw (e, back) (refl {a = Unknown})
  where
    go : (b : Bool) → (45 == d) ≡ b → b ≡ false
    go true t = absurd (true≢false (sym ((Decides-eqb d 45).1 (sym ((Decides-eqb 45 d).0 t))) ∙ e))
    go false t = refl

-- any word that is text
hyphen_sort : (d : ℕ) (cs : List ℕ) → IsUtf8 (45 ∷ (d ∷ cs)) → Sort (45 ∷ (d ∷ cs))
hyphen_sort d cs text = go (d == 45) refl
  where
    two : (rest : List ℕ) → Sort (45 ∷ (45 ∷ rest))
    two [] = is_end refl
    two (x ∷ xs) = long_sort x xs

    go : (b : Bool) → (d == 45) ≡ b → Sort (45 ∷ (d ∷ cs))
    go true e = subst (λ c. Sort (45 ∷ (c ∷ cs))) (sym ((Decides-eqb d 45).0 e)) (two cs)
    go false e = is_refused refl (short_unknown d cs e) (short_is_refused d cs text e)

pub sort_of : (word : Text) → IsUtf8 word → Sort word
sort_of [] text = is_name refl (record { no_end = refl; no_long = refl; no_short = refl })
sort_of (c ∷ []) text = is_name refl (plain_one c)
sort_of (c ∷ (d ∷ cs)) text = go (c == 45) refl
  where
    go : (b : Bool) → (c == 45) ≡ b → Sort (c ∷ (d ∷ cs))
    go true e =
        let is : 45 ≡ c = sym ((Decides-eqb c 45).0 e) in
        subst (λ x. Sort (x ∷ (d ∷ cs))) is (hyphen_sort d cs (subst (λ x. IsUtf8 (x ∷ (d ∷ cs))) (sym is) text))
    go false e = is_name e (plain_more c d cs e)
