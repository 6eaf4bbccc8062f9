-- Which function a call enters, by the version that the machine takes.

use Rattle.std.proofs.Common.{◌≡◌, ◌∙◌, ℕ, Bool, true, false, cond, refl, ap, List, [], ◌∷◌, ◌++◌, length, Option, None, Some, ◌⊎◌, inl, inr, codes}
use Rattle.edb_lang.specs.Terms.{Datum}
use Rattle.edb_lang.specs.Syntax.{ModuleTree}
use Rattle.edb_lang.specs.TermText.{same_name}
use Rattle.edb_model.specs.Lookup.{version_beside, first_versions, version_in, function_for}
use Rattle.edb_model.specs.Move.{Place, outside, if_some, error, raises, entered, called, body_of, all_matched}
use Rattle.edb_lang.specs.declared.small.Class.TheVariants.{Error}
use Rattle.edb_lang.specs.Terms as term
use Rattle.edb_lang.specs.Pairs.{Pairs}
use Rattle.edb_lang.specs.Syntax.{FunctionTree}
use Rattle.edb_eval.specs.declared.calls.Entry.{Entry}
use Rattle.edb_eval.specs.Calls.{Answers, entering, entry_body}
use Rattle.edb_eval.specs.Bodies.{version_or_first}

-- the first version that is known of two
abbrev or_version : Option ℕ → Option ℕ → Option ℕ
or_version (Some k) o = Some k
or_version None o = o

or_version-cond : (b : Bool) (k : ℕ) (o q : Option ℕ) → cond b (Some k) (or_version o q) ≡ or_version (cond b (Some k) o) q
or_version-cond true k o q = refl
or_version-cond false k o q = refl

version_beside-append : (m : List ℕ) (xs ys : List (List ℕ × ℕ)) → version_beside m (xs ++ ys) ≡ or_version (version_beside m xs) (version_beside m ys)
version_beside-append m [] ys = refl
version_beside-append m (x ∷ xs) ys =
    ap (λ o. cond (same_name x.0 m) (Some x.1) o) (version_beside-append m xs ys) ∙ or_version-cond (same_name x.0 m) x.1 (version_beside m xs) (version_beside m ys)

abbrev IsFirst : List ModuleTree → List ℕ → Type 0
IsFirst code m =
    (version_beside m (first_versions code) ≡ Some 1) ⊎ ((version_beside m (first_versions code) ≡ None) × (version_in code m 1 ≡ None))

first_case : (b : Bool) (r : Option ℕ) (s t : Option ModuleTree) → (r ≡ Some 1) ⊎ ((r ≡ None) × (s ≡ None)) → (cond b (Some 1) r ≡ Some 1) ⊎ ((cond b (Some 1) r ≡ None) × (cond b t s ≡ None))
first_case true r s t h = inl refl
first_case false r s t h = h

-- the current version of a module that is there is the first one
is_first : (code : List ModuleTree) (m : List ℕ) → IsFirst code m
is_first [] m = inr (refl, refl)
is_first (x ∷ xs) m =
    first_case (same_name x.name m) (version_beside m (first_versions xs)) (version_in xs m 1) (Some x) (is_first xs m)

-- a call, by the version that its place or the current versions give
pub called_is : (code : List ModuleTree) (p : Place) (inside : Bool) (m f : List ℕ) (vs : List Datum) (k : ℕ) → version_or_first (version_beside m p.bodies) ≡ k → called code (first_versions code) p inside m f vs ≡ if_some (function_for code m k inside f (length vs)) (λ g. entered p m k g vs) (error (codes "undef"))
called_is code p inside m f vs k = by_place (version_beside m p.bodies) refl
  where
    beside : version_beside m (p.bodies ++ first_versions code) ≡ or_version (version_beside m p.bodies) (version_beside m (first_versions code))
    beside = version_beside-append m p.bodies (first_versions code)

    at_first : IsFirst code m → version_beside m p.bodies ≡ None → 1 ≡ k → called code (first_versions code) p inside m f vs ≡ if_some (function_for code m k inside f (length vs)) (λ g. entered p m k g vs) (error (codes "undef"))
    at_first (inl h) e ek = rw (beside, e, h, ek)
    at_first (inr h) e ek = rw (beside, e, h.0, ← ek, h.1)

    by_place : (o : Option ℕ) → version_beside m p.bodies ≡ o → version_or_first o ≡ k → called code (first_versions code) p inside m f vs ≡ if_some (function_for code m k inside f (length vs)) (λ g. entered p m k g vs) (error (codes "undef"))
    by_place (Some j) e ek = rw (beside, e, ek)
    by_place None e ek = at_first (is_first code m) e ek

pub answers_true : (found : Option Pairs) (bs : Pairs) (b : Bool) → Answers found bs b → b ≡ true → found ≡ Some bs
answers_true found bs true h e = h
answers_true found bs false h e = absurd (cc)

pub answers_false : (found : Option Pairs) (bs : Pairs) (b : Bool) → Answers found bs b → b ≡ false → found ≡ None
answers_false found bs true h e = absurd (cc)
answers_false found bs false h e = h

-- what a call comes to where there is no function, where its parameters don't match, and where they do
pub call_undef : (code : List ModuleTree) (p : Place) (inside : Bool) (m f : List ℕ) (vs : List Datum) (k : ℕ) (r : Datum) → version_or_first (version_beside m p.bodies) ≡ k → function_for code m k inside f (length vs) ≡ None → r ≡ term.atom (codes "undef") → raises Error r ≡ called code (first_versions code) p inside m f vs
call_undef code p inside m f vs k r version none is = rw (called_is code p inside m f vs k version, none, is)

pub call_refused : (code : List ModuleTree) (p : Place) (inside : Bool) (m f : List ℕ) (vs : List Datum) (k : ℕ) (g : FunctionTree) (r : Datum) → version_or_first (version_beside m p.bodies) ≡ k → function_for code m k inside f (length vs) ≡ Some g → all_matched g.parameters vs [] ≡ None → r ≡ term.atom (codes "function_clause") → raises Error r ≡ called code (first_versions code) p inside m f vs
call_refused code p inside m f vs k g r version found none is =
    rw (called_is code p inside m f vs k version, found, none, is)

pub call_enters : (code : List ModuleTree) (p : Place) (inside : Bool) (m f : List ℕ) (vs : List Datum) (k n : ℕ) (g : FunctionTree) (bs : Pairs) (e : Entry) → version_or_first (version_beside m p.bodies) ≡ k → p.level ≡ n → function_for code m k inside f (length vs) ≡ Some g → all_matched g.parameters vs [] ≡ Some bs → entry_body e ≡ body_of (record outside { level = n }) m k g bs → entering p (entry_body e) ≡ called code (first_versions code) p inside m f vs
call_enters code p inside m f vs k n g bs e version level found some is =
    rw (called_is code p inside m f vs k version, found, some, is, ← level)
