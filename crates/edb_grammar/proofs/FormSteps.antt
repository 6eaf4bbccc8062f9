-- The forms of a file one by one: the first is the tokens up to its dot, or all.

use Rattle.std.proofs.Common.{◌≡◌, ℕ, suc, ◌+◌, ◌≤◌, Bool, true, false, if◌then◌else◌, List, [], ◌∷◌, ◌++◌, length, take, drop, refl, ◌∙◌, ap, arith}
use Rattle.edb_scan.specs.declared.lexeme.Placed.{Placed}
use Rattle.edb_syntax.specs.Syntax.{ModuleTree}
use Rattle.edb_grammar.specs.Toks.{places, line_at}
use Rattle.edb_grammar.specs.Files.{is_dot, with_first, forms_of}
use Rattle.edb_grammar.specs.FormReading.{read_form}
use Rattle.edb_grammar.specs.FileReading.{behind_form, read_forms, behind_first, read_all_forms, read_file, form_length}

-- no token is a dot
abbrev pub WithoutDot : List Placed → Type 0
WithoutDot [] = Unit {0}
WithoutDot (t ∷ ts) = (is_dot t.token ≡ false) × WithoutDot ts

-- a token that is no dot, and one that is
without_end : (t : Placed) (ts : List Placed) → is_dot t.token ≡ false → forms_of (t ∷ ts) ≡ with_first t (forms_of ts)
without_end t ts e = ap (λ b. if b then (t ∷ []) ∷ forms_of ts else with_first t (forms_of ts)) e

-- tokens up to a dot are a form, and others follow
pub form_then : (front : List Placed) (t : Placed) (rest : List Placed) → WithoutDot front → is_dot t.token ≡ true
    → forms_of (front ++ t ∷ rest) ≡ (front ++ t ∷ []) ∷ forms_of rest
form_then [] t rest h e = ap (λ b. if b then (t ∷ []) ∷ forms_of rest else with_first t (forms_of rest)) e
form_then (u ∷ front) t rest h e = without_end u (front ++ t ∷ rest) h.0 ∙ ap (with_first u) (form_then front t rest h.1 e)

-- tokens without a dot are one form
pub form_alone : (t : Placed) (ts : List Placed) → WithoutDot (t ∷ ts) → forms_of (t ∷ ts) ≡ (t ∷ ts) ∷ []
form_alone t [] h = without_end t [] h.0
form_alone t (u ∷ ts) h = without_end t (u ∷ ts) h.0 ∙ ap (with_first t) (form_alone u ts h.1)

-- by the length of the first form
step_by : (t : Placed) (b : Bool) (ts : List Placed)
    → with_first t (forms_of ts) ≡ (t ∷ take (form_length ts) ts) ∷ forms_of (drop (form_length ts) ts)
    → (if b then (t ∷ []) ∷ forms_of ts else with_first t (forms_of ts))
    ≡ take (if b then 1 else suc (form_length ts)) (t ∷ ts) ∷ forms_of (drop (if b then 1 else suc (form_length ts)) (t ∷ ts))
step_by t true ts h = refl
step_by t false ts h = h

pub forms_step : (t : Placed) (ts : List Placed)
    → forms_of (t ∷ ts) ≡ take (form_length (t ∷ ts)) (t ∷ ts) ∷ forms_of (drop (form_length (t ∷ ts)) (t ∷ ts))
forms_step t [] = step_by t (is_dot t.token) [] refl
forms_step t (u ∷ ts) = step_by t (is_dot t.token) (u ∷ ts) (ap (with_first t) (forms_step u ts))

-- the first form has a token at least, and no more than there are
pub form_positive : (t : Placed) (ts : List Placed) → 1 ≤ form_length (t ∷ ts)
form_positive t ts = by (is_dot t.token)
  where
    by : (b : Bool) → 1 ≤ (if b then 1 else suc (form_length ts))
    by true = omega arith
    by false = omega arith

pub form_within : (ts : List Placed) → form_length ts ≤ length ts
form_within [] = omega arith
form_within (t ∷ ts) = by (is_dot t.token) (form_within ts)
  where
    by : (b : Bool) → form_length ts ≤ length ts → (if b then 1 else suc (form_length ts)) ≤ suc (length ts)
    by true h = omega arith
    by false h = omega (arith, h)

-- tokens without a dot are a part of the first form
pub length_without : (front rest : List Placed) → WithoutDot front → form_length (front ++ rest) ≡ length front + form_length rest
length_without [] rest h = omega arith
length_without (t ∷ front) rest h =
    ap (λ b. if b then 1 else suc (form_length (front ++ rest))) h.0
    ∙ (ap suc (length_without front rest h.1) ∙ omega arith)

-- a turn of the loop over the forms: what is read behind the module form, and how a file begins
pub forms_turn : (n funs : ℕ) (m : ModuleTree) (t : Placed) (ts : List Placed)
    → read_forms n funs m (forms_of (t ∷ ts))
    ≡ behind_form n funs m (take (form_length (t ∷ ts)) (t ∷ ts))
    (λ k v. read_forms (n + 1) k v (forms_of (drop (form_length (t ∷ ts)) (t ∷ ts))))
    (read_form (places funs (take (form_length (t ∷ ts)) (t ∷ ts))))
forms_turn n funs m t ts = ap (read_forms n funs m) (forms_step t ts)

pub file_turn : (t : Placed) (ts : List Placed)
    → read_file (t ∷ ts)
    ≡ behind_first (take (form_length (t ∷ ts)) (t ∷ ts)) (forms_of (drop (form_length (t ∷ ts)) (t ∷ ts)))
    (read_form (places 0 (take (form_length (t ∷ ts)) (t ∷ ts))))
file_turn t ts = ap read_all_forms (forms_step t ts)

-- a form's line is that of the first token
pub form_line : (funs : ℕ) (t : Placed) (ts : List Placed) → line_at (places funs (take (form_length (t ∷ ts)) (t ∷ ts))) ≡ t.line
form_line funs t ts = by (is_dot t.token)
  where
    by : (b : Bool) → line_at (places funs (take (if b then 1 else suc (form_length ts)) (t ∷ ts))) ≡ t.line
    by true = refl
    by false = refl
