-- What a reading from the front answers is a part of the grammar, and the tokens behind it.

use Rattle.std.proofs.Common.{◌≡◌, ℕ, zero, suc, Bool, true, false, if◌then◌else◌, List, [], ◌∷◌, ◌++◌, Option, Some, None, refl, sym, ◌∙◌, ap, subst, append_assoc}
use Rattle.edb_scan.specs.declared.lexeme.Mark.{Mark}
use Rattle.edb_scan.specs.declared.lexeme.Token.TheVariants as token
use Rattle.edb_grammar.specs.Toks.{Place, Tok, tok, word}
use Rattle.edb_grammar.specs.Marks.{same_mark}
use Rattle.edb_grammar.specs.Reading.{Read, behind, closed, closed_at, joined, last_or_more, after_item, items}
use Rattle.edb_grammar.proofs.MarkLaws.{same_mark_is}

-- the tokens are some that were used, which the rule R reads, and the rest
pub record Got {A : Type 0} (R : List Tok → A → Type 0) (ts : List Tok) (q : A × List Tok) : Type 0 where
  pub used : List Tok
  pub reads : R used q.0
  pub parted : ts ≡ used ++ q.1

abbrev pub Sound : {A : Type 0} → (List Tok → A → Type 0) → Read A → Type 0
Sound R read = (ts : List Tok) → (q : _) → read ts ≡ Some q → Got R ts q

abbrev value : {A : Type 0} → A → Option A → A
value d (Some a) = a
value d None = d

pub some_is : {A : Type 0} (a b : A) → Some a ≡ Some b → a ≡ b
some_is a b h = ap (value a) h

abbrev Filled : {A : Type 0} → Option A → Type 0
Filled (Some a) = Unit {0}
Filled None = ⊥

pub none_no : {A : Type 0} (b : A) → None ≡ Some b → ⊥
none_no b h = subst Filled (sym h) tt

pub answered : {A : Type 0} (R : List Tok → A → Type 0) (ts used rest : List Tok) (a : A) (q : A × List Tok)
    → Some (a, rest) ≡ Some q → R used a → ts ≡ used ++ rest → Got R ts q
answered R ts used rest a q h reads parted =
    subst (λ x. Got R ts x) (some_is (a, rest) q h) (record { used = used; reads = reads; parted = parted })

pub behind_some : (x : Mark) (ts us : List Tok) → behind x ts ≡ Some us → (s : Place) × (ts ≡ word s x ∷ us)
behind_some x (tok s (token.Mark y) ∷ ts) us h = by (same_mark x y) refl h
  where
    by : (b : Bool) → same_mark x y ≡ b → (if b then Some ts else None) ≡ Some us
        → (p : Place) × (tok s (token.Mark y) ∷ ts ≡ word p x ∷ us)
    by true e k = (s, λ i. tok s (token.Mark (sym (same_mark_is x y e) i)) ∷ some_is ts us k i)
    by false e k = absurd (none_no us k)
behind_some x _ us h = absurd (none_no us h)

pub closed_some : {A : Type 0} (x : Mark) (o : Option (A × List Tok)) (q : A × List Tok) → closed x o ≡ Some q
    → (s : Place) × (o ≡ Some (q.0, word s x ∷ q.1))
closed_some x None q h = absurd (none_no q h)
closed_some x (Some p) q h = by (behind x p.1) refl h
  where
    by : (o : Option (List Tok)) → behind x p.1 ≡ o → closed_at p.0 o ≡ Some q → (s : Place) × (Some p ≡ Some (q.0, word s x ∷ q.1))
    by None e k = absurd (none_no q k)
    by (Some us) e k =
        let b = behind_some x p.1 us e in
        let r = some_is (p.0, us) q k in
        (b.0, λ i. Some ((r i).0, (b.1 ∙ ap (λ c. word b.0 x ∷ c.1) r) i))

-- what ends with a token, and what is behind it
pub enclosed : (ts used rest : List Tok) (t : Tok) → ts ≡ used ++ t ∷ rest → ts ≡ (used ++ t ∷ []) ++ rest
enclosed ts used rest t e = e ∙ sym (append_assoc used (t ∷ []) rest)

-- items with a mark between them
abbrev One : {A L : Type 0} → (List Tok → A → Type 0) → (List Tok → L → Type 0) → (A → L → L) → L → Type 0
One R RL cons nil = (ts : List Tok) → (a : _) → R ts a → RL ts (cons a nil)

abbrev Further : {A L : Type 0} → (List Tok → A → Type 0) → (List Tok → L → Type 0) → (A → L → L) → Mark → Type 0
Further R RL cons x = (s : Place) (ts us : List Tok) → (a : _) → (l : _) → R ts a → RL us l → RL (ts ++ word s x ∷ us) (cons a l)

joined_sound : {A L : Type 0} (R : List Tok → A → Type 0) (RL : List Tok → L → Type 0) (cons : A → L → L) (x : Mark)
    → Further R RL cons x → (s : Place) (used us : List Tok) (a : A) → R used a
    → (o : Option (L × List Tok)) → ((p : L × List Tok) → o ≡ Some p → Got RL us p)
    → (q : L × List Tok) → joined cons a o ≡ Some q → Got RL (used ++ word s x ∷ us) q
joined_sound R RL cons x further s used us a r None got q h = absurd (none_no q h)
joined_sound R RL cons x further s used us a r (Some p) got q h =
    let g = got p refl
    in answered RL (used ++ word s x ∷ us) (used ++ word s x ∷ g.used) p.1 (cons a p.0) q h
    (further s used g.used a p.0 r g.reads)
    (ap (λ v. used ++ word s x ∷ v) g.parted ∙ sym (append_assoc used (word s x ∷ g.used) p.1))

last_sound : {A L : Type 0} (R : List Tok → A → Type 0) (RL : List Tok → L → Type 0) (cons : A → L → L) (nil : L) (x : Mark)
    → One R RL cons nil → Further R RL cons x → (read : Read L) → Sound RL read
    → (used rest : List Tok) (a : A) → R used a
    → (o : Option (List Tok)) → behind x rest ≡ o
    → (q : L × List Tok) → last_or_more cons nil read a rest o ≡ Some q → Got RL (used ++ rest) q
last_sound R RL cons nil x one further read sound used rest a r None e q h =
    answered RL (used ++ rest) used rest (cons a nil) q h (one used a r) refl
last_sound R RL cons nil x one further read sound used rest a r (Some us) e q h =
    let b = behind_some x rest us e
    in subst (λ v. Got RL (used ++ v) q) (sym b.1)
    (joined_sound R RL cons x further b.0 used us a r (read us) (sound us) q h)

after_sound : {A L : Type 0} (R : List Tok → A → Type 0) (RL : List Tok → L → Type 0) (cons : A → L → L) (nil : L) (x : Mark)
    → One R RL cons nil → Further R RL cons x → (read : Read L) → Sound RL read
    → (ts : List Tok) (o : Option (A × List Tok)) → ((p : A × List Tok) → o ≡ Some p → Got R ts p)
    → (q : L × List Tok) → after_item cons nil read x o ≡ Some q → Got RL ts q
after_sound R RL cons nil x one further read sound ts None got q h = absurd (none_no q h)
after_sound R RL cons nil x one further read sound ts (Some p) got q h =
    let g = got p refl
    in subst (λ v. Got RL v q) (sym g.parted)
    (last_sound R RL cons nil x one further read sound g.used p.1 p.0 g.reads (behind x p.1) refl q h)

pub items_sound : {A L : Type 0} (R : List Tok → A → Type 0) (RL : List Tok → L → Type 0) (cons : A → L → L) (nil : L) (x : Mark)
    → One R RL cons nil → Further R RL cons x → (read : Read A) → Sound R read
    → (turns : ℕ) → Sound RL (items cons nil x read turns)
items_sound R RL cons nil x one further read sound zero ts q h = absurd (none_no q h)
items_sound R RL cons nil x one further read sound (suc turns) ts q h =
    after_sound R RL cons nil x one further (items cons nil x read turns)
    (items_sound R RL cons nil x one further read sound turns) ts (read ts) (sound ts) q h
