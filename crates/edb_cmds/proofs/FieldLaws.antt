-- The fields of a line part in one way alone.
use Rattle.std.proofs.Common.{◌≡◌, ◌≢◌, ℕ, zero, suc, ◌<◌, Bool, true, false, not, List, [], ◌∷◌, ◌++◌, length, refl, sym, ap, ◌∙◌, subst, arith, append-nil, eqb-true, Some}
use Rattle.std.specs.Prelude.{◌==◌, MatchBool}
use Rattle.std.proofs.lemmas.List.{nil_from_length}
use Rattle.std.specs.List.{list_all}
use Rattle.std.specs.Char.{digit_value}
use Rattle.std.specs.Str.Parse.{AllDigits, IsNumeral}
use Rattle.std.proofs.lemmas.Bool.{and_parts}
use Rattle.std.proofs.lemmas.Str.Parse.{digit_from_value}
use Rattle.edb_event.specs.declared.call.ProcStatus.{ProcStatus}
use Rattle.edb_event.specs.declared.call.ProcStatus.TheVariants.{Idle, Running, Waiting, Break, Exit}
use Rattle.edb_event.specs.declared.call.Word.{Word}
use Rattle.edb_event.specs.declared.call.Word.TheVariants as word
use Rattle.edb_scan.specs.declared.lexeme.Token.TheVariants.{Atom}
use Rattle.edb_scan.specs.Lexis.{Fits}
use Rattle.edb_scan.specs.Fronts.{Stops}
use Rattle.edb_words.specs.Words.{status_word}
use Rattle.edb_words.proofs.Distinct.{status_one}
use Rattle.edb_cmds.specs.Fields.{Field, atom, line, process, status, AreFields, BeginsField, WritesProcess, end, next}
use Rattle.edb_cmds.specs.Kinds.{stays_in_word, SplitsWord}
use Rattle.edb_cmds.specs.Numbers.{WritesLine, WritesNumber}
use Rattle.edb_cmds.specs.Script.{spaces}
use Rattle.edb_cmds.specs.Words.{NoSpace, SplitsAtom, SplitsGap, SplitsSpaces}
use Rattle.edb_cmds.proofs.WordLaws.{atom_one, gap_head, gap_one, spaces_one}

-- a run and what stops it are one
pub run_one : (p : ℕ → Bool) (w rest v after : List ℕ) → w ++ rest ≡ v ++ after → list_all p w ≡ true → list_all p v ≡ true → Stops p rest → Stops p after → (w ≡ v) × (rest ≡ after)
run_one p [] rest [] after e aw av s t = (refl, e)
run_one p [] [] (d ∷ v) after e aw av s t = absurd (cc)
run_one p [] (x ∷ rest) (d ∷ v) after e aw av s t =
    let yes : p d ≡ true = (and_parts (p d) (list_all p v) av).0 in
    let same : x ≡ d = cc in
    absurd (cc)
run_one p (c ∷ w) rest [] [] e aw av s t = absurd (cc)
run_one p (c ∷ w) rest [] (x ∷ after) e aw av s t =
    let yes : p c ≡ true = (and_parts (p c) (list_all p w) aw).0 in
    let same : x ≡ c = cc in
    absurd (cc)
run_one p (c ∷ w) rest (d ∷ v) after e aw av s t =
    let tails : w ++ rest ≡ v ++ after = cc in
    let more = run_one p w rest v after tails ((and_parts (p c) (list_all p w) aw).1) ((and_parts (p d) (list_all p v) av).1) s t in
    let heads : c ≡ d = cc in
    let ws : w ≡ v = more.0 in
    (cc, more.1)

pub word_one : (text w rest v after : List ℕ) → SplitsWord text w rest → SplitsWord text v after → (w ≡ v) × (rest ≡ after)
word_one text w rest v after h k =
    let same : h.from ≡ k.from = gap_one text h.from k.from h.gap k.gap in
    run_one stays_in_word w rest v after (sym h.run.cut ∙ same ∙ k.run.cut) h.run.passes k.run.passes h.run.stops k.run.stops

-- fields begin with a space, or there are none
pub fields_stop : (text : List ℕ) (fs : List Field) → AreFields text fs → Stops stays_in_word text
fields_stop text fs (end t count e) = subst (λ x. Stops stays_in_word x) (sym e) (at count)
  where
    at : (n : ℕ) → Stops stays_in_word (spaces n)
    at zero = tt
    at (suc n) = refl
fields_stop text all (next t from rest gap f fs e begins more) =
    subst (λ x. Stops stays_in_word x) (sym (e ∙ gap_head gap from)) refl

-- a word of this field that ends at a space
abbrev pub IsPlain : Field → Type 0
IsPlain (atom m) = ⊥
IsPlain _ = Unit {0}

abbrev pub Writes : List ℕ → Field → Type 0
Writes w (atom m) = ⊥
Writes w (line n) = WritesLine w n
Writes w (process p) = WritesProcess w p
Writes w (status s) = w ≡ status_word s

-- one byte or more and no space
abbrev pub IsBare : List ℕ → Type 0
IsBare w = (w ≢ []) × (list_all stays_in_word w ≡ true)

other : (c d : ℕ) → (c ≡ d → ⊥) → (c == d) ≡ false
other c d ne = by (c == d) refl
  where
    by : (b : Bool) → (c == d) ≡ b → (c == d) ≡ false
    by true e = absurd (ne (eqb-true c d e))
    by false e = e

digit_stays : (c : ℕ) → digit_value c < 10 → stays_in_word c ≡ true
digit_stays c h = let range = digit_from_value c h in ap not (other c 32 (λ e. absurd (omega arith)))

digits_bare : (w : List ℕ) → AllDigits 10 w → list_all stays_in_word w ≡ true
digits_bare [] h = refl
digits_bare (c ∷ w) h = rw (digit_stays c h.0) (digits_bare w h.1)

number_bare : (w : List ℕ) → IsNumeral 10 w → IsBare w
number_bare w h = (λ e. absurd (omega (arith, ap length e)), digits_bare w h.1)

status_bare : (s : ProcStatus) → IsBare (status_word s)
status_bare Idle = (λ e. absurd (cc), refl)
status_bare Running = (λ e. absurd (cc), refl)
status_bare Waiting = (λ e. absurd (cc), refl)
status_bare Break = (λ e. absurd (cc), refl)
status_bare Exit = (λ e. absurd (cc), refl)

process_bare : (w : List ℕ) (p : Word) → WritesProcess w p → IsBare w
process_bare w (word.Number n) h = number_bare w h.digits
process_bare w (word.Own k) h = subst (λ x. IsBare x) (sym h.1) (λ e. absurd (cc), digits_bare h.0 h.2.digits.1)
process_bare w _ h = absurd h

field_bare : (w : List ℕ) (f : Field) → Writes w f → IsBare w
field_bare w (atom m) h = absurd h
field_bare w (line n) h = number_bare w h.number.digits
field_bare w (process p) h = process_bare w p h
field_bare w (status s) h = subst (λ x. IsBare x) (sym h) (status_bare s)

pub bare_head : (w rest : List ℕ) → IsBare w → NoSpace (w ++ rest)
bare_head [] rest h t e = absurd (h.0 refl)
bare_head (c ∷ w) rest h t e =
    let yes : stays_in_word c ≡ true = (and_parts (stays_in_word c) (list_all stays_in_word w) h.1).0 in
    let is : c ≡ 32 = cc in
    let no : stays_in_word 32 ≡ true = ap stays_in_word (sym is) ∙ yes in
    absurd (cc)

-- what begins with a word
record Begun (from : List ℕ) (f : Field) (rest : List ℕ) : Type 0 where
  word : List ℕ
  cut : from ≡ word ++ rest
  writes : Writes word f

begun : (from : List ℕ) (f : Field) (rest : List ℕ) → IsPlain f → BeginsField from f rest → Begun from f rest
begun from (atom m) rest plain h = absurd plain
begun from (line n) rest plain h = record { word = h.0; cut = h.1; writes = h.2 }
begun from (process p) rest plain h = record { word = h.0; cut = h.1; writes = h.2 }
begun from (status s) rest plain h = record { word = status_word s; cut = h; writes = refl }

begins : (from : List ℕ) (f : Field) (w rest : List ℕ) → IsPlain f → from ≡ w ++ rest → Writes w f → BeginsField from f rest
begins from (atom m) w rest plain e h = absurd plain
begins from (line n) w rest plain e h = (w, e, h)
begins from (process p) w rest plain e h = (w, e, h)
begins from (status s) w rest plain e h = e ∙ ap (λ x. x ++ rest) h

-- the first field's word
record WordAt (text : List ℕ) (f : Field) (fs : List Field) : Type 0 where
  word : List ℕ
  rest : List ℕ
  split : SplitsWord text word rest
  writes : Writes word f
  more : AreFields rest fs

word_at : (text : List ℕ) (f : Field) (fs : List Field) → IsPlain f → AreFields text (f ∷ fs) → WordAt text f fs
word_at text f fs plain (next t from rest gap g gs cut begins more) =
    let b = begun from f rest plain begins in
    let bare = field_bare b.word f b.writes in
    record {
      word = b.word;
      rest = rest;
      split = record {
        from = from;
        gap = record { gap = gap; cut = cut; all = subst (λ x. NoSpace x) (sym b.cut) (bare_head b.word rest bare) };
        run = record { cut = b.cut; passes = bare.1; stops = fields_stop rest fs more };
      };
      writes = b.writes;
      more = more;
    }

pub word_found : (text w rest : List ℕ) (f : Field) (fs : List Field) → SplitsWord text w rest → IsPlain f → Writes w f → AreFields rest fs → AreFields text (f ∷ fs)
word_found text w rest f fs h plain writes more = next text h.from rest h.gap.gap f fs h.gap.cut (begins h.from f w rest plain h.run.cut writes) more

pub word_only : (text w rest : List ℕ) (f : Field) (fs : List Field) → SplitsWord text w rest → IsPlain f → AreFields text (f ∷ fs) → Writes w f × AreFields rest fs
word_only text w rest f fs h plain k =
    let a = word_at text f fs plain k in
    let same = word_one text a.word a.rest w rest a.split h in
    (subst (λ x. Writes x f) same.0 a.writes, subst (λ x. AreFields x fs) same.1 a.more)

pub no_word : (text : List ℕ) (f : Field) (fs : List Field) → ((from : List ℕ) → SplitsGap text from → ⊥) → IsPlain f → AreFields text (f ∷ fs) → ⊥
no_word text f fs none plain k = let a = word_at text f fs plain k in none a.split.from a.split.gap

-- an atom first
pub atom_found : (text name rest : List ℕ) (fs : List Field) → SplitsAtom text name rest → AreFields rest fs → AreFields text (atom name ∷ fs)
atom_found text name rest fs h more = next text h.word rest h.gap (atom name) fs h.cut (h.begins, h.fits) more

record AtomAt (text name : List ℕ) (fs : List Field) : Type 0 where
  rest : List ℕ
  split : SplitsAtom text name rest
  more : AreFields rest fs

atom_at_head : (text name : List ℕ) (fs : List Field) → AreFields text (atom name ∷ fs) → AtomAt text name fs
atom_at_head text name fs (next t from rest gap g gs cut begins more) =
    record { rest = rest; split = record { gap = gap; word = from; cut = cut; begins = begins.0; fits = begins.1 }; more = more }

pub atom_only : (text name rest other : List ℕ) (fs : List Field) → SplitsAtom text name rest → AreFields text (atom other ∷ fs) → AreFields rest fs
atom_only text name rest other fs h k =
    let a = atom_at_head text other fs k in
    subst (λ x. AreFields x fs) (atom_one text other name a.rest rest a.split h).1 a.more

pub no_atom : (text name : List ℕ) (fs : List Field) → ((n rest : List ℕ) → SplitsAtom text n rest → ⊥) → AreFields text (atom name ∷ fs) → ⊥
no_atom text name fs none k = let a = atom_at_head text name fs k in none name a.rest a.split

-- no fields
pub nothing_left : (text rest : List ℕ) → SplitsSpaces text rest → rest ≡ [] → AreFields text []
nothing_left text rest h e = end text h.count (h.cut ∙ ap (λ x. spaces h.count ++ x) e ∙ append-nil (spaces h.count))

no_space_none : NoSpace []
no_space_none t e = absurd (cc)

pub all_left : (text rest : List ℕ) → SplitsSpaces text rest → AreFields text [] → rest ≡ []
all_left text rest h (end t count e) =
    spaces_one h.count count rest [] (sym h.cut ∙ e ∙ sym (append-nil (spaces count))) h.all no_space_none

pub end_answer : (text rest : List ℕ) → SplitsSpaces text rest → (b : Bool) → b ≡ (length rest == 0) → MatchBool b (AreFields text []) (AreFields text [] → ⊥)
end_answer text rest h true e = nothing_left text rest h (nil_from_length rest (eqb-true (length rest) 0 (sym e)))
end_answer text rest h false e = λ k.
    let none : length rest ≡ 0 = ap length (all_left text rest h k) in
    let yes : (length rest == 0) ≡ true = ap (λ n. n == 0) none in
    absurd (cc)

-- a word writes one field
number_one : (w : List ℕ) (m n : ℕ) → WritesNumber w m → WritesNumber w n → m ≡ n
number_one w m n h k = h.value ∙ sym k.value

own_or_number : (w digits : List ℕ) → w ≡ 36 ∷ digits → IsNumeral 10 w → ⊥
own_or_number w digits e h =
    let P : List ℕ → Type 0 = λ x. AllDigits 10 x in
    let all : AllDigits 10 (36 ∷ digits) = subst P e h.1 in
    let range = digit_from_value 36 all.0 in
    absurd (omega arith)

process_one : (w : List ℕ) (p q : Word) → WritesProcess w p → WritesProcess w q → p ≡ q
process_one w (word.Number m) (word.Number n) h k = ap word.Number (number_one w m n h k)
process_one w (word.Number m) (word.Own n) h k = absurd (own_or_number w k.0 k.1 h.digits)
process_one w (word.Own m) (word.Number n) h k = absurd (own_or_number w h.0 h.1 k.digits)
process_one w (word.Own m) (word.Own n) h k =
    let same : h.0 ≡ k.0 = let e : 36 ∷ h.0 ≡ 36 ∷ k.0 = sym h.1 ∙ k.1 in cc in
    ap word.Own (number_one k.0 m n (subst (λ x. WritesNumber x m) same h.2) k.2)
process_one w (word.Number m) _ h k = absurd k
process_one w (word.Own m) _ h k = absurd k
process_one w _ q h k = absurd h

-- what is left behind the first word, and what both say of it
record BothSay (f g : Field) (fs gs : List Field) : Type 0 where
  pub word : List ℕ
  pub rest : List ℕ
  pub left : Writes word f
  pub right : Writes word g
  pub more : AreFields rest fs
  pub further : AreFields rest gs

both_say : (text : List ℕ) (f g : Field) (fs gs : List Field) → IsPlain f → IsPlain g → AreFields text (f ∷ fs) → AreFields text (g ∷ gs) → BothSay f g fs gs
both_say text f g fs gs pf pg h k =
    let a = word_at text f fs pf h in
    let b = word_only text a.word a.rest g gs a.split pg k in
    record { word = a.word; rest = a.rest; left = a.writes; right = b.0; more = a.more; further = b.1 }

pub atoms_one : (text m n : List ℕ) → AreFields text (atom m ∷ []) → AreFields text (atom n ∷ []) → m ≡ n
atoms_one text m n h k =
    let a = atom_at_head text m [] h in
    let b = atom_at_head text n [] k in
    (atom_one text m n a.rest b.rest a.split b.split).0

pub atom_lines_one : (text m n : List ℕ) (j l : ℕ) → AreFields text (atom m ∷ line j ∷ []) → AreFields text (atom n ∷ line l ∷ []) → (m ≡ n) × (j ≡ l)
atom_lines_one text m n j l h k =
    let a = atom_at_head text m (line j ∷ []) h in
    let b = atom_at_head text n (line l ∷ []) k in
    let same = atom_one text m n a.rest b.rest a.split b.split in
    let both = both_say b.rest (line j) (line l) [] [] tt tt (subst (λ x. AreFields x (line j ∷ [])) same.1 a.more) b.more in
    (same.0, number_one both.word j l both.left.number both.right.number)

pub processes_one : (text : List ℕ) (p q : Word) → AreFields text (process p ∷ []) → AreFields text (process q ∷ []) → p ≡ q
processes_one text p q h k = let both = both_say text (process p) (process q) [] [] tt tt h k in process_one both.word p q both.left both.right

pub process_statuses_one : (text : List ℕ) (p q : Word) (s t : ProcStatus) → AreFields text (process p ∷ status s ∷ []) → AreFields text (process q ∷ status t ∷ []) → (p ≡ q) × (s ≡ t)
process_statuses_one text p q s t h k =
    let both = both_say text (process p) (process q) (status s ∷ []) (status t ∷ []) tt tt h k in
    let last = both_say both.rest (status s) (status t) [] [] tt tt both.more both.further in
    (process_one both.word p q both.left both.right, status_one s t (sym last.left ∙ last.right))

-- what the fields of a line say
pub atom_says : (text m : List ℕ) (fs : List Field) → AreFields text (atom m ∷ fs) → Fits (Some (Atom m))
atom_says text m fs h = (atom_at_head text m fs h).split.fits

pub atom_line_says : (text m : List ℕ) (l : ℕ) → AreFields text (atom m ∷ line l ∷ []) → Fits (Some (Atom m)) × ((w : List ℕ) × (rest : List ℕ) × WritesLine w l)
atom_line_says text m l h =
    let a = atom_at_head text m (line l ∷ []) h in
    let b = word_at a.rest (line l) [] tt a.more in
    (a.split.fits, (b.word, b.rest, b.writes))

pub process_says : (text : List ℕ) (p : Word) (fs : List Field) → AreFields text (process p ∷ fs) → (w : List ℕ) × WritesProcess w p
process_says text p fs h = let a = word_at text (process p) fs tt h in (a.word, a.writes)
