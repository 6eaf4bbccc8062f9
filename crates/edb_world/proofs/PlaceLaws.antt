-- What stands at a process's place in the lists of the processes and of what is known of them.

use Rattle.edb_model.specs.Running.{Run}
use Rattle.std.proofs.Common.{◌≡◌, ℕ, zero, suc, ◌-◌, ◌<◌, ◌≤◌, List, [], ◌∷◌, Option, None, Some, IsSome, length, slice_index_or, refl, sym, ◌∙◌, ap, arith}
use Rattle.edb_model.specs.Plain.{Plain}
use Rattle.edb_model.specs.Plain as model
use Rattle.edb_model.specs.Procs.{Member, new_member, numbered}
use Rattle.edb_rules.specs.Facts.{Debuggee, Facts, unseen, debuggee_at}
use Rattle.edb_rules.proofs.Present.{lives_within}

-- within a list nothing else stands in
any_default : {A : Type 0} (xs : List A) (n : ℕ) (d e : A) → n < length xs → slice_index_or xs n d ≡ slice_index_or xs n e
any_default [] n d e lt = absurd (omega arith)
any_default (x ∷ xs) zero d e lt = refl
any_default (x ∷ xs) (suc n) d e lt = any_default xs n d e (omega arith)

pub live_at : (s : Plain) (p : ℕ) (q : Option Run) → 1 ≤ p → p - 1 < length s.running → q ≡ slice_index_or s.running (p - 1) q → model.running_at s p ≡ q
live_at s zero q some lt is = absurd (omega arith)
live_at s (suc n) q some lt is =
    let e : suc n - 1 ≡ n = omega arith in
    any_default s.running n None q (omega arith) ∙ (ap (λ (k : ℕ). slice_index_or s.running k q) (sym e) ∙ sym is)

pub known_at : (f : Facts) (p : ℕ) (d : Debuggee) → 1 ≤ p → p - 1 < length f.debuggees → d ≡ slice_index_or f.debuggees (p - 1) d → debuggee_at f p ≡ d
known_at f zero d some lt is = absurd (omega arith)
known_at f (suc n) d some lt is =
    let e : suc n - 1 ≡ n = omega arith in
    any_default f.debuggees n unseen d (omega arith) ∙ (ap (λ (k : ℕ). slice_index_or f.debuggees k d) (sym e) ∙ sym is)

pub member_at : (ms : List Member) (p : ℕ) (m : Member) → 1 ≤ p → p - 1 < length ms → m ≡ slice_index_or ms (p - 1) m → numbered new_member ms p ≡ m
member_at ms zero m some lt is = absurd (omega arith)
member_at ms (suc n) m some lt is =
    let e : suc n - 1 ≡ n = omega arith in
    any_default ms n new_member m (omega arith) ∙ (ap (λ (k : ℕ). slice_index_or ms k m) (sym e) ∙ sym is)

-- what there is
pub some_of : (o : Option Run) → IsSome o → (t : Run) × (o ≡ Some t)
some_of None h = absurd (cc)
some_of (Some t) h = (t, refl)

-- a process that has more to do is one that was made
pub lives_within_some : (f : Facts) (p : ℕ) → IsSome (model.running_at f.plain p) → (1 ≤ p) × (p ≤ length f.plain.running)
lives_within_some f p h = let lives = some_of (model.running_at f.plain p) h in lives_within f.plain p lives.0 lives.1

pub is_some_here : (o : Option Run) (t : Run) → o ≡ Some t → IsSome o
is_some_here None t e = absurd (cc)
is_some_here (Some u) t e = refl
