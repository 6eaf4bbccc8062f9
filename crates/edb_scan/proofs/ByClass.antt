-- By the class of its first byte, what a text can spell.
use Rattle.std.proofs.Common.{◌≡◌, ◌⊎◌, ℕ, ◌≤◌, true, false, List, [], ◌∷◌, ◌++◌, length, Option, Some, None, refl, sym, ap, subst, inl, inr, arith, length-append, append-nil}
use Rattle.std.proofs.lemmas.Bool.{cond-true}
use Rattle.std.proofs.lemmas.Bool.Decides.{nat_tests}
use Rattle.std.specs.Char.{is_digit}
use Rattle.edb_scan.specs.declared.classes.Class.{Class}
use Rattle.edb_scan.specs.declared.classes.Class.TheVariants.{Space, Percent, Digit, Lower, Upper, Quote, Tick, Dollar, Other}
use Rattle.edb_scan.specs.declared.lexeme.Mark.{Mark}
use Rattle.edb_scan.specs.declared.lexeme.Token.{Token}
use Rattle.edb_scan.specs.declared.lexeme.Token.TheVariants as token
use Rattle.edb_scan.specs.declared.lexeme.Token.TheVariants.{Int, Float, Char, Atom, Var, Str, Dot}
use Rattle.edb_scan.specs.FirstByte.{class_of}
use Rattle.edb_scan.specs.Letters.{is_space, is_lower, is_upper}
use Rattle.edb_scan.specs.Numerals.{IsDigits, number, IsFraction}
use Rattle.edb_scan.specs.Quotation.{IsQuoted, IsChar}
use Rattle.edb_scan.specs.Spellings.{IsMark, IsWord}
use Rattle.edb_scan.specs.Lexis.{IsSpace, IsComment, IsName, IsBareAtom, IsQuotedAtom, ends_form, Spells}
use Rattle.edb_scan.proofs.DigitRuns.{digits_head}
use Rattle.edb_scan.proofs.Rows.{mark_class, mark_some, word_name}

-- a base in digits, with what makes an integer of them
pub record IsBasedForm (whole tail : List ℕ) (piece : Option Token) : Type 0 where
  pub digits : List ℕ
  pub cut : tail ≡ 35 ∷ digits
  pub at_least_two : 2 ≤ number 10 whole
  pub at_most_36 : number 10 whole ≤ 36
  pub its_digits : IsDigits (number 10 whole) digits
  pub value : piece ≡ Some (Int (number (number 10 whole) digits))

-- what can stand after a number's first digits: nothing, a `#` and digits, or a fraction
abbrev pub NumeralForm : List ℕ → List ℕ → Option Token → Type 0
NumeralForm whole tail piece =
    ((tail ≡ []) × (piece ≡ Some (Int (number 10 whole))))
    ⊎ IsBasedForm whole tail piece
    ⊎ (IsFraction tail × (piece ≡ Some Float))

pub record IsNumeral (text : List ℕ) (piece : Option Token) : Type 0 where
  pub whole : List ℕ
  pub tail : List ℕ
  pub cut : text ≡ whole ++ tail
  pub digits : IsDigits 10 whole
  pub form : NumeralForm whole tail piece

-- what a text that begins with a byte of this class spells, if anything
abbrev pub Only : Class → List ℕ → List ℕ → Option Token → Type 0
Only Space text after piece = IsSpace text × (piece ≡ None)
Only Percent text after piece = IsComment text after × (piece ≡ None)
Only Digit text after piece = IsNumeral text piece
Only Lower text after piece = ((m : Mark) × IsWord text m × (piece ≡ Some (token.Mark m))) ⊎ ((name : List ℕ) × IsBareAtom text name × (piece ≡ Some (Atom name)))
Only Upper text after piece = IsName is_upper text × (piece ≡ Some (Var text))
Only Quote text after piece = (cs : List ℕ) × IsQuoted 34 text cs × (piece ≡ Some (Str cs))
Only Tick text after piece = (name : List ℕ) × IsQuotedAtom text name × (piece ≡ Some (Atom name))
Only Dollar text after piece = (c : ℕ) × IsChar text c × (piece ≡ Some (Char c))
Only Other text after piece =
    ((m : Mark) × IsMark text m × (text ≡ 46 ∷ [] → ends_form after ≡ false) × (piece ≡ Some (token.Mark m)))
    ⊎ ((text ≡ 46 ∷ []) × (ends_form after ≡ true) × (piece ≡ Some Dot))

space : (c : ℕ) → is_space c ≡ true → class_of c ≡ Space
unfolding class_of
space c h = cond-true (is_space c) Space _ h

pub percent : (c : ℕ) → c ≡ 37 → class_of c ≡ Percent
unfolding class_of
percent c h = rw h

decimal : (c : ℕ) → is_digit c 10 ≡ true → class_of c ≡ Digit
unfolding class_of
decimal c h = grind (arith, nat_tests)

lower : (c : ℕ) → is_lower c ≡ true → class_of c ≡ Lower
unfolding class_of
lower c h = grind (arith, nat_tests)

upper : (c : ℕ) → is_upper c ≡ true → class_of c ≡ Upper
unfolding class_of
upper c h = grind (arith, nat_tests)

pub quote : (c : ℕ) → c ≡ 34 → class_of c ≡ Quote
unfolding class_of
quote c h = rw h

pub tick : (c : ℕ) → c ≡ 39 → class_of c ≡ Tick
unfolding class_of
tick c h = rw h

pub dollar : (c : ℕ) → c ≡ 36 → class_of c ≡ Dollar
unfolding class_of
dollar c h = rw h

point : (c : ℕ) → c ≡ 46 → class_of c ≡ Other
unfolding class_of
point c h = rw h

-- the digits that begin a text begin it with a digit
digits_class : (whole tail text : List ℕ) (c : ℕ) → c ∷ text ≡ whole ++ tail → IsDigits 10 whole → class_of c ≡ Digit
digits_class [] tail text c e h = absurd h
digits_class (d ∷ whole) tail text c e h =
    let heads : c ≡ d = cc in
    let P : ℕ → Type 0 = λ x. class_of x ≡ Digit in
    subst P (sym heads) (decimal d (digits_head (λ x. is_digit x 10) d whole h))

numeral : (c : ℕ) (t u : List ℕ) (piece : Option Token) → IsNumeral (c ∷ t) piece → Only (class_of c) (c ∷ t) u piece
numeral c t u piece h =
    let P : Class → Type 0 = λ k. Only k (c ∷ t) u piece in
    subst P (sym (digits_class h.whole h.tail t c h.cut h.digits)) h

pub only : (c : ℕ) (t u : List ℕ) (piece : Option Token) → Spells (c ∷ t) u piece → Only (class_of c) (c ∷ t) u piece
only c t u None (inl h) = let P : Class → Type 0 = λ k. Only k (c ∷ t) u None in subst P (sym (space c h.0)) (h, refl)
only c t u None (inr h) = let P : Class → Type 0 = λ k. Only k (c ∷ t) u None in let first = h.cut in subst P (sym (percent c (cc))) (h, refl)
only c t u (Some (Int n)) (inl h) = numeral c t u (Some (Int n)) (record { whole = c ∷ t; tail = []; cut = cc (append-nil (c ∷ t)); digits = h.0; form = inl (refl, cc h.1) })
only c t u (Some (Int n)) (inr h) =
    numeral c t u (Some (Int n)) (record {
      whole = h.base;
      tail = 35 ∷ h.digits;
      cut = h.cut;
      digits = h.base_digits;
      form = inr (inl (record { digits = h.digits; cut = refl; at_least_two = h.at_least_two; at_most_36 = h.at_most_36; its_digits = h.its_digits; value = cc h.value }));
    })
only c t u (Some Float) h = numeral c t u (Some Float) (record { whole = h.whole; tail = h.fraction; cut = h.cut; digits = h.whole_digits; form = inr (inr (h.is_fraction, refl)) })
only c t u (Some (Char d)) h = let P : Class → Type 0 = λ k. Only k (c ∷ t) u (Some (Char d)) in let first = h.cut in subst P (sym (dollar c (cc))) (d, h, refl)
only c t u (Some (Atom name)) (inl h) = let P : Class → Type 0 = λ k. Only k (c ∷ t) u (Some (Atom name)) in subst P (sym (lower c h.1.0)) (inr (name, h, refl))
only c t u (Some (Atom name)) (inr h) = let P : Class → Type 0 = λ k. Only k (c ∷ t) u (Some (Atom name)) in let first = h.quoted.cut in subst P (sym (tick c (cc))) (name, h, refl)
only c t u (Some (Var name)) h = let P : Class → Type 0 = λ k. Only k (c ∷ t) u (Some (Var name)) in subst P (sym (upper c h.1.0)) (h.1, cc h.0)
only c t u (Some (Str cs)) h = let P : Class → Type 0 = λ k. Only k (c ∷ t) u (Some (Str cs)) in let first = h.cut in subst P (sym (quote c (cc))) (cs, h, refl)
only c t u (Some (token.Mark m)) (inl h) = let P : Class → Type 0 = λ k. Only k (c ∷ t) u (Some (token.Mark m)) in subst P (sym (lower c (word_name (c ∷ t) m h).0)) (inl (m, h, refl))
only c t u (Some (token.Mark m)) (inr h) = let P : Class → Type 0 = λ k. Only k (c ∷ t) u (Some (token.Mark m)) in subst P (sym (mark_class c t m h.0)) (inl (m, h.0, h.1, refl))
only c t u (Some Dot) h = let P : Class → Type 0 = λ k. Only k (c ∷ t) u (Some Dot) in let first = h.0 in subst P (sym (point c (cc))) (inr (h.0, h.1, refl))

-- a text that spells something has a first byte
pub some_text : (u : List ℕ) (piece : Option Token) → Spells [] u piece → ⊥
some_text u None (inl h) = h
some_text u None (inr h) = let e = h.cut in absurd (cc)
some_text u (Some (Int n)) (inl h) = h.0
some_text u (Some (Int n)) (inr h) = absurd (omega (arith, ap length h.cut, length-append h.base (35 ∷ h.digits)))
some_text u (Some Float) h = absurd (omega (arith, ap length h.cut, ap length h.is_fraction.cut, length-append h.whole h.fraction))
some_text u (Some (Char c)) h = let e = h.cut in absurd (cc)
some_text u (Some (Atom name)) (inl h) = h.1
some_text u (Some (Atom name)) (inr h) = let e = h.quoted.cut in absurd (cc)
some_text u (Some (Var name)) h = h.1
some_text u (Some (Str cs)) h = let e = h.cut in absurd (cc)
some_text u (Some (token.Mark m)) (inl h) = word_name [] m h
some_text u (Some (token.Mark m)) (inr h) = mark_some m h.0
some_text u (Some Dot) h = let e = h.0 in absurd (cc)
