-- Where a slice ends: at each shared act, and at its budget at the latest.

use Rattle.std.proofs.Common.{◌≡◌, inl, inr, ℕ, ◌+◌, ◌≤◌, Bool, true, false, if◌then◌else◌, not, ◌&&◌, List, Option, None, Some, refl, sym, ◌∙◌, arith}
use Rattle.std.proofs.lemmas.Bool.{cases_lt, le-leb}
use Rattle.std.proofs.lemmas.Option.{none-some}
use Rattle.edb_lang.specs.Syntax.{ModuleTree}
use Rattle.edb_model.specs.Running.{Run}
use Rattle.edb_model.specs.Move.{Next, acts, begins, pure, next, is_move}
use Rattle.edb_rules.specs.Facts.{Handout}
use Rattle.edb_rules.specs.Server.{is_among}
use Rattle.edb_rules.specs.Slices.{SliceEnd, leaves, act_next, enters, stops, spent, Why, due, if_spent, if_due, at_next, has_body, asked_to, end_before, after_moves, IsSlice}
use Rattle.edb_rules.proofs.Stops.{else_none}

-- where a slice doesn't end, a pure move is next
next_goes : (code : List ModuleTree) (h : Handout) (p i all : ℕ) (t : Run) (x : Next) → at_next code h p i all t x ≡ None → is_move x ≡ true
next_goes code h p i all t (acts k) e = absurd (none-some act_next (sym e))
next_goes code h p i all t (begins m l) e = refl
next_goes code h p i all t pure e = refl

pub goes_move : (code : List ModuleTree) (h : Handout) (p i all : ℕ) (t : Run) → end_before code h p i all t ≡ None → is_move (next t) ≡ true
goes_move code h p i all t e =
    next_goes code h p i all t (next t) (else_none (h.is_interpreted && not (has_body h.modules t)) leaves (at_next code h p i all t (next t)) e).1

-- at the budget a slice ends, where the budget is one at least
spent_here : (h : Handout) (n all : ℕ) → 1 ≤ n → h.budget ≤ n → if_spent h n all ≡ Some spent
spent_here h n all some full = rw (le-leb 1 n some, le-leb h.budget (n + all) (omega (arith, full))) refl

due_here : (h : Handout) (n all : ℕ) (o : Option Why) → 1 ≤ n → h.budget ≤ n → if_due h n all o ≡ None → ⊥
due_here h n all (Some why) some full e = none-some (stops why) (sym e)
due_here h n all None some full e = none-some spent (sym e ∙ spent_here h n all some full)

outside_here : (h : Handout) (n all : ℕ) (b : Bool) (o : Option Why) → 1 ≤ n → h.budget ≤ n → (if b then Some (enters o) else if_spent h n all) ≡ None → ⊥
outside_here h n all true o some full e = none-some (enters o) (sym e)
outside_here h n all false o some full e = none-some spent (sym e ∙ spent_here h n all some full)

begin_here : (h : Handout) (n all : ℕ) (b : Bool) (m : List ℕ) (o : Option Why) → 1 ≤ n → h.budget ≤ n
    → (if b then if_due h n all o else if is_among m h.modules then Some (enters o) else if_spent h n all) ≡ None → ⊥
begin_here h n all true m o some full e = due_here h n all o some full e
begin_here h n all false m o some full e = outside_here h n all (is_among m h.modules) o some full e

next_here : (code : List ModuleTree) (h : Handout) (p n all : ℕ) (t : Run) (x : Next) → 1 ≤ n → h.budget ≤ n → at_next code h p n all t x ≡ None → ⊥
next_here code h p n all t (acts k) some full e = none-some act_next (sym e)
next_here code h p n all t (begins m l) some full e = begin_here h n all h.is_interpreted m (due code h p n t m l) some full e
next_here code h p n all t pure some full e = none-some spent (sym e ∙ spent_here h n all some full)

pub ends_here : (code : List ModuleTree) (h : Handout) (p n all : ℕ) (t : Run) → 1 ≤ n → h.budget ≤ n → end_before code h p n all t ≡ None → ⊥
ends_here code h p n all t some full e =
    next_here code h p n all t (next t) some full (else_none (h.is_interpreted && not (has_body h.modules t)) leaves (at_next code h p n all t (next t)) e).1

pub within_budget : (code : List ModuleTree) (h : Handout) (p : ℕ) (t : Run) (n c : ℕ) (end : SliceEnd) → 1 ≤ h.budget → IsSlice code h p t n c end → n ≤ h.budget
within_budget code h p t n c end some slice =
    elim (cases_lt h.budget n) [
      | inl more ↦ absurd (ends_here code h p h.budget (asked_to code h p t h.budget) (after_moves code h.versions h.budget t) some (omega arith) (slice.goes h.budget more))
      | inr less ↦ less
    ]
