-- A text begins with one piece at most.
use Rattle.std.proofs.Common.{◌≡◌, ℕ, ◌≤◌, ◌<◌, List, [], ◌∷◌, ◌++◌, length, Option, Some, refl, sym, ap, ◌∙◌, subst, inl, inr, arith}
use Rattle.std.specs.Prelude.{encode_utf8_all}
use Rattle.edb_scan.specs.declared.classes.Class.{Class}
use Rattle.edb_scan.specs.declared.classes.Class.TheVariants.{Space, Percent, Digit, Lower, Upper, Quote, Tick, Dollar, Other}
use Rattle.edb_scan.specs.declared.lexeme.Token.{Token}
use Rattle.edb_scan.specs.declared.lexeme.Token.TheVariants as token
use Rattle.edb_scan.specs.declared.lexeme.Token.TheVariants.{Char, Atom, Str}
use Rattle.edb_scan.specs.FirstByte.{class_of}
use Rattle.edb_scan.specs.Quotation.{no_quote}
use Rattle.edb_scan.specs.Lexis.{Spells, Begins, Fits}
use Rattle.edb_scan.specs.Fronts.{NothingFits}
use Rattle.edb_scan.proofs.FrontLemmas.{same_front}
use Rattle.edb_scan.proofs.QuoteLemmas.{writes_one, quoted_one}
use Rattle.edb_scan.proofs.Rows.{one_mark_of, one_word_of}
use Rattle.edb_scan.proofs.NumeralLemmas.{numeral_one}
use Rattle.edb_scan.proofs.ByClass.{Only, only, some_text}

only_one : (class : Class) (text after : List ℕ) (p q : Option Token) → Only class text after p → Only class text after q → p ≡ q
only_one Space text after p q h k = h.1 ∙ sym k.1
only_one Percent text after p q h k = h.1 ∙ sym k.1
only_one Digit text after p q h k = numeral_one text p q h k
only_one Lower text after p q (inl h) (inl k) = h.2 ∙ ap (λ m. Some (token.Mark m)) (one_word_of text h.0 k.0 h.1 k.1) ∙ sym k.2
only_one Lower text after p q (inl h) (inr k) = absurd (k.1.2 h.0 h.1)
only_one Lower text after p q (inr h) (inl k) = absurd (h.1.2 k.0 k.1)
only_one Lower text after p q (inr h) (inr k) = h.2 ∙ ap (λ name. Some (Atom name)) (h.1.0 ∙ sym k.1.0) ∙ sym k.2
only_one Upper text after p q h k = h.1 ∙ sym k.1
only_one Quote text after p q h k =
    let same = quoted_one 34 (omega arith) (λ e. absurd (omega arith)) text [] text [] h.0 k.0 refl h.1 k.1 in
    h.2 ∙ ap (λ cs. Some (Str cs)) same.0 ∙ sym k.2
only_one Tick text after p q h k =
    let same = quoted_one 39 (omega arith) (λ e. absurd (omega arith)) text [] text [] h.1.characters k.1.characters refl h.1.quoted k.1.quoted in
    h.2 ∙ ap (λ name. Some (Atom name)) (h.1.named ∙ ap encode_utf8_all same.0 ∙ sym k.1.named) ∙ sym k.2
only_one Dollar text after p q h k =
    let first = h.1.cut in let second = k.1.cut in
    let ones : h.1.one ++ [] ≡ k.1.one ++ [] = ap (λ t. t ++ []) (cc) in
    let same = writes_one no_quote h.1.one [] k.1.one [] h.0 k.0 ones h.1.writes k.1.writes in
    h.2 ∙ ap (λ c. Some (Char c)) same.0 ∙ sym k.2
only_one Other text after p q (inl h) (inl k) = h.3 ∙ ap (λ m. Some (token.Mark m)) (one_mark_of text h.0 k.0 h.1 k.1) ∙ sym k.3
only_one Other text after p q (inl h) (inr k) = let dot = h.2 k.0 in let ends = k.1 in absurd (cc)
only_one Other text after p q (inr h) (inl k) = let dot = k.2 h.0 in let ends = h.1 in absurd (cc)
only_one Other text after p q (inr h) (inr k) = h.2 ∙ sym k.2

-- a text spells one piece
spells_one : (text after : List ℕ) (p q : Option Token) → Spells text after p → Spells text after q → p ≡ q
spells_one [] after p q h k = absurd (some_text after p h)
spells_one (c ∷ t) after p q h k = only_one (class_of c) (c ∷ t) after p q (only c t after p h) (only c t after q k)

-- the piece that begins a text, its text and what comes after it are settled
pub begins_same : (rest after other : List ℕ) (p q : Option Token) (h : Begins rest after p) (k : Begins rest other q) → (h.text ≡ k.text) × (after ≡ other) × (p ≡ q)
begins_same rest after other p q h k =
    let no_less = h.longest k.text other q k.cut k.spells in
    let no_more = k.longest h.text after p h.cut h.spells in
    let same = same_front h.text after k.text other (sym h.cut ∙ k.cut) (omega arith) in
    let P : List ℕ → Type 0 = λ t. Spells t other q in
    let Q : List ℕ → Type 0 = λ u. Spells h.text u q in
    let moved : Spells h.text other q = subst P (sym same.0) k.spells in
    (same.0, same.1, spells_one h.text after p q h.spells (subst Q (sym same.1) moved))

-- what begins a text takes a byte at least
pub begins_some : (rest after : List ℕ) (p : Option Token) (h : Begins rest after p) → 0 < length h.text
begins_some rest after p h = some h.text refl
  where
    some : (t : List ℕ) → h.text ≡ t → 0 < length t
    some [] e = let P : List ℕ → Type 0 = λ t. Spells t after p in absurd (some_text after p (subst P e h.spells))
    some (c ∷ cs) e = omega arith

-- a piece past its limit leaves no other
pub past_limit : (rest after : List ℕ) (p : Option Token) → Begins rest after p → (Fits p → ⊥) → NothingFits rest
past_limit rest after p h large other q k fits =
    let same = begins_same rest after other p q h k in
    let P : Option Token → Type 0 = λ o. Fits o in
    large (subst P (sym same.2) fits)

-- to compare a front with all others, those of its class are enough
pub longest_by : (class : Class) (c : ℕ) (cs : List ℕ) (n : ℕ) → class_of c ≡ class
    → ((t u : List ℕ) (p : Option Token) → c ∷ cs ≡ t ++ u → Only class t u p → length t ≤ n)
    → (t u : List ℕ) (p : Option Token) → c ∷ cs ≡ t ++ u → Spells t u p → length t ≤ n
longest_by class c cs n is longest [] u p e h = omega arith
longest_by class c cs n is longest (d ∷ t) u p e h =
    let heads : c ≡ d = cc in
    let P : Class → Type 0 = λ k. Only k (d ∷ t) u p in
    longest (d ∷ t) u p e (subst P (ap class_of (sym heads) ∙ is) (only d t u p h))

-- nothing begins a text if nothing of its class does
pub nothing_by : (class : Class) (c : ℕ) (cs : List ℕ) → class_of c ≡ class
    → ((t u : List ℕ) (p : Option Token) → c ∷ cs ≡ t ++ u → Only class t u p → ⊥)
    → NothingFits (c ∷ cs)
nothing_by class c cs is none after p h fits = at h.text h.cut h.spells
  where
    at : (t : List ℕ) → c ∷ cs ≡ t ++ after → Spells t after p → ⊥
    at [] e k = some_text after p k
    at (d ∷ t) e k =
        let heads : c ≡ d = cc in
        let P : Class → Type 0 = λ k. Only k (d ∷ t) after p in
        none (d ∷ t) after p e (subst P (ap class_of (sym heads) ∙ is) (only d t after p k))
