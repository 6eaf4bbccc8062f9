-- What no step of a plain run changes but a load, and how many processes a step makes.

use Rattle.std.specs.List.{filter}
use Rattle.std.specs.Prelude.{not, ◌==◌}
use Rattle.std.proofs.Common.{◌≡◌, ℕ, zero, suc, ◌+◌, List, [], ◌∷◌, length, Option, None, Some, replicate, length-append, refl, ◌∙◌, ap, subst, nat_lt, arith}
use Rattle.std.proofs.lemmas.List.{length-set}
use Rattle.std.proofs.lemmas.Option.{none-some, same_Some, cond_some, option_and_then_some}
use Rattle.edb_lang.specs.Syntax.{ModuleTree}
use Rattle.edb_lang.specs.declared.act.ActKind.TheVariants as kind
use Rattle.edb_model.specs.Running.{Run}
use Rattle.edb_model.specs.Move.{Next, acts, begins, pure, next, is_move, answered}
use Rattle.edb_model.specs.Acts.{true_term, exit_reason, acted}
use Rattle.edb_model.specs.declared.tables.NameRow.{NameRow}
use Rattle.edb_model.specs.Plain.{Plain, with_running, with_newborn, ended}
use Rattle.edb_model.specs.Labels.{Label, move, act, signal, advance, start, load, skip, kill, expire, moved_in, step, steps}
use Rattle.edb_model.specs.Procs.{most_processes}

-- a label that changes no version
abbrev pub IsNoLoad : Label → Type 0
IsNoLoad (load m k) = ⊥
IsNoLoad _ = Unit {0}

abbrev pub AreNoLoads : List Label → Type 0
AreNoLoads [] = Unit {0}
AreNoLoads (l ∷ ls) = IsNoLoad l × AreNoLoads ls

-- how many processes a label makes
abbrev pub started : Label → ℕ
started (start m f args) = 1
started _ = 0

abbrev pub all_started : List Label → ℕ
all_started [] = 0
all_started (l ∷ ls) = started l + all_started ls

-- the versions stay, no name is registered if none was, and so many processes are made
pub record Stays (s t : Plain) (n : ℕ) : Type 0 where
  pub versions : t.versions ≡ s.versions
  pub names : s.procs.names ≡ [] → t.procs.names ≡ []
  pub count : length t.running ≡ length s.running + n

stays_with : (s : Plain) (p : ℕ) (q : Option Run) → Stays s (with_running s p q) 0
stays_with s zero q = record { versions = refl; names = λ none. none; count = omega arith }
stays_with s (suc n) q = record { versions = refl; names = λ none. none; count = let same = length-set s.running n q in omega arith }

same_state : (s t u : Plain) (n : ℕ) → Some t ≡ Some u → Stays s t n → Stays s u n
same_state s t u n e stays = subst (λ (x : Plain). Stays s x n) (same_Some t u e) stays

acted_stays : (s t : Plain) (p : ℕ) (u : Run) (x : Next) → acted s p u x ≡ Some t → Stays s t 0
acted_stays s t p u (acts kind.Print) e =
    let with_ = stays_with s p (Some (answered true_term u)) in
    same_state s _ t 0 e (record { versions = with_.versions; names = with_.names; count = with_.count })
acted_stays s t p u (acts kind.End) e =
    let with_ = stays_with s p None in
    same_state s (ended s p (exit_reason u)) t 0 e (record {
      versions = with_.versions;
      names = λ none. ap (λ (rows : List NameRow). filter (λ r. not (r.pid == p)) rows) none;
      count = with_.count;
    })
acted_stays s t p u (acts _) e = absurd (none-some t e)
acted_stays s t p u (begins m l) e = absurd (none-some t e)
acted_stays s t p u pure e = absurd (none-some t e)

start_stays : (s : Plain) (t : Run) → Stays s (with_newborn s t) 1
start_stays s t = record { versions = refl; names = λ none. none; count = length-append s.running (Some t ∷ []) }

step_stays : (code : List ModuleTree) (s t : Plain) (l : Label) → IsNoLoad l → step code s l ≡ Some t → Stays s t (started l)
step_stays code s t (move p) none e =
    option_and_then_some _ _ _ e (λ r living h.
    same_state s (moved_in code s p r) t 0 (ap (λ (x : Plain). Some x) (cond_some (is_move (next r)) (moved_in code s p r) t h).1) (stays_with s p _))
step_stays code s t (act p) none e = option_and_then_some _ _ _ e (λ r living h. acted_stays s t p r (next r) h)
step_stays code s t signal none e = absurd (none-some t e)
step_stays code s t (advance c) none e = absurd (none-some t e)
step_stays code s t (skip who) none e = absurd (none-some t e)
step_stays code s t (kill who) none e = absurd (none-some t e)
step_stays code s t (expire who) none e = absurd (none-some t e)
step_stays code s t (load m k) none e = absurd none
step_stays code s t (start m f args) none e =
    same_state s _ t 1 (ap (λ (x : Plain). Some x) (cond_some (nat_lt (length s.running) most_processes) _ t e).1) (start_stays s _)

both_stay : (s u t : Plain) (m n : ℕ) → Stays s u m → Stays u t n → Stays s t (m + n)
both_stay s u t m n a b = record {
  versions = b.versions ∙ a.versions;
  names = λ none. b.names (a.names none);
  count = let first = a.count in let second = b.count in omega arith;
}

pub steps_stay : (code : List ModuleTree) (s t : Plain) (ls : List Label) → AreNoLoads ls → steps code s ls ≡ Some t → Stays s t (all_started ls)
steps_stay code s t [] none e = same_state s s t 0 e (record { versions = refl; names = λ none. none; count = omega arith })
steps_stay code s t (l ∷ ls) none e =
    option_and_then_some _ _ _ e (λ u first rest. both_stay s u t (started l) (all_started ls) (step_stays code s u l none.0 first) (steps_stay code u t ls none.1 rest))

-- a slice's moves start nothing
pub no_loads_move : (p n : ℕ) → AreNoLoads (replicate n (move p))
no_loads_move p zero = tt
no_loads_move p (suc n) = (tt, no_loads_move p n)

pub none_started : (p n : ℕ) → all_started (replicate n (move p)) ≡ 0
none_started p zero = refl
none_started p (suc n) = let rest = none_started p n in omega arith
