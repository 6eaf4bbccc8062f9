-- Of two plain runs of the same modules that start one process, with the same call, one begins the other: at each place
-- one label is enabled.

use Rattle.std.proofs.Common.{◌≡◌, ◌⊎◌, inl, inr, ℕ, zero, suc, ◌+◌, ◌<◌, ◌≤◌, Bool, false, if◌then◌else◌, List, [], ◌∷◌, ◌++◌, length, Option, None, Some, slice_index_or, append-nil, append_assoc, refl, sym, ◌∙◌, ap, ap₂, subst, nat_lt, arith}
use Rattle.std.proofs.lemmas.Option.{none-some, same_Some, cond_some, option_and_then_some}
use Rattle.std.specs.Option.{option_and_then}
use Rattle.edb_lang.specs.Syntax.{ModuleTree}
use Rattle.edb_lang.specs.Terms.{Datum}
use Rattle.edb_lang.specs.declared.act.ActKind.TheVariants as kind
use Rattle.edb_model.specs.Running.{Run}
use Rattle.edb_model.specs.Move.{Next, acts, begins, pure, next, is_move, redex}
use Rattle.edb_model.specs.Acts.{displayed, exit_reason, acted}
use Rattle.edb_model.specs.Plain.{Plain, opening, running_at, with_running, ended}
use Rattle.edb_model.specs.Labels.{Label, move, act, signal, advance, start, load, skip, kill, expire, moved_in, step, steps}
use Rattle.edb_model.specs.Procs.{most_processes}
use Rattle.edb_event.specs.declared.entry.Entry.{Entry}
use Rattle.edb_rules.specs.Erasure.{labels_of, erase}
use Rattle.edb_rules.specs.Plans.{Plan}
use Rattle.edb_rules.specs.Facts.{Facts, at_first}
use Rattle.edb_rules.specs.Notes.{note, facts}
use Rattle.edb_rules.specs.Legal.{LegalFrom, Legal}
use Rattle.edb_rules.specs.PlainRuns.{starts_in, StartsOnce}
use Rattle.edb_rules.specs.Begins.{IsBeginning}
use Rattle.edb_rules.proofs.Journals.{erased, steps_append}
use Rattle.edb_rules.proofs.Steps.{IsNoLoad, AreNoLoads, started, steps_stay}
use Rattle.edb_rules.proofs.Kept.{no_loads}

-- a legal journal loads nothing
none_loaded : (ls ms : List Label) → AreNoLoads ls → AreNoLoads ms → AreNoLoads (ls ++ ms)
none_loaded [] ms a b = b
none_loaded (l ∷ ls) ms a b = (a.0, none_loaded ls ms a.1 b)

loads_none : (plan : Plan) (f : Facts) (es : List Entry) → LegalFrom plan f es → AreNoLoads (erase es)
loads_none plan f [] legal = tt
loads_none plan f (e ∷ es) legal = none_loaded (labels_of e) (erase es) (no_loads plan f e legal.0) (loads_none plan (note plan f e) es legal.1)

-- a process that has more to do has one of the numbers from 1 to that of the last process
below : (qs : List (Option Run)) (n : ℕ) (t : Run) → (slice_index_or qs n None) ≡ Some t → n < length qs
below [] n t e = absurd (none-some t e)
below (q ∷ qs) zero t e = omega arith
below (q ∷ qs) (suc n) t e = let fewer = below qs n t e in omega arith

is_numbered : (s : Plain) (p : ℕ) (t : Run) → (running_at s p) ≡ Some t → (1 ≤ p) × (p ≤ length s.running)
is_numbered s zero t e = absurd (none-some t e)
is_numbered s (suc n) t e = let fewer = below s.running n t e in (omega arith, omega arith)

-- the label with which a process goes on: its move where a move is next, and else its act
abbrev label_of : ℕ → Run → Label
label_of p t = if is_move (next t) then move p else act p

-- some process that has more to do goes on with this label
record Goes (s : Plain) (l : Label) : Type 0 where
  pub process : ℕ
  pub running : Run
  pub lives : (running_at s process) ≡ Some running
  pub is : l ≡ label_of process running

no_move : (s t : Plain) (p : ℕ) (u : Run) (x : Next) → acted s p u x ≡ Some t → is_move x ≡ false
no_move s t p u (acts k) e = refl
no_move s t p u (begins m l) e = absurd (none-some t e)
no_move s t p u pure e = absurd (none-some t e)

-- each label that is enabled, and neither starts nor loads, is one with which a process goes on
goes : (code : List ModuleTree) (s t : Plain) (l : Label) → IsNoLoad l → started l ≡ 0 → step code s l ≡ Some t → Goes s l
goes code s t (move p) loads starts e =
    option_and_then_some _ _ _ e (λ r living h. record {
      process = p;
      running = r;
      lives = living;
      is = sym (ap (λ (b : Bool). if b then move p else act p) (cond_some (is_move (next r)) (moved_in code s p r) t h).0);
    })
goes code s t (act p) loads starts e =
    option_and_then_some _ _ _ e (λ r living h. record {
      process = p;
      running = r;
      lives = living;
      is = sym (ap (λ (b : Bool). if b then move p else act p) (no_move s t p r (next r) h));
    })
goes code s t signal loads starts e = absurd (none-some t e)
goes code s t (advance c) loads starts e = absurd (none-some t e)
goes code s t (skip who) loads starts e = absurd (none-some t e)
goes code s t (kill who) loads starts e = absurd (none-some t e)
goes code s t (expire who) loads starts e = absurd (none-some t e)
goes code s t (load m k) loads starts e = absurd loads
goes code s t (start m n args) loads starts e = absurd (omega (arith, starts))

-- with one process there is one such label, and with none there is none
one_label : (s : Plain) (l m : Label) → length s.running ≡ 1 → Goes s l → Goes s m → l ≡ m
one_label s l m one x y =
    let a = is_numbered s x.process x.running x.lives in
    let b = is_numbered s y.process y.running y.lives in
    let same : x.process ≡ y.process = omega arith in
    let run : x.running ≡ y.running = same_Some x.running y.running (sym x.lives ∙ (ap (λ (p : ℕ). (running_at s p)) same ∙ y.lives)) in
    x.is ∙ (ap₂ label_of same run ∙ sym y.is)

no_label : (s : Plain) (l : Label) → length s.running ≡ 0 → Goes s l → ⊥
no_label s l none x = let a = is_numbered s x.process x.running x.lives in omega arith

-- how many processes there are after a label
count_after : (code : List ModuleTree) (s t : Plain) (l : Label) → IsNoLoad l → step code s l ≡ Some t → length t.running ≡ length s.running + started l
count_after code s t l loads e =
    let made = (steps_stay code s t (l ∷ []) (loads, tt) (ap (λ (o : Option Plain). option_and_then (λ (u : Plain). steps code u []) o) e)).count in
    omega arith

-- a run that starts nothing
none_first : (l : Label) (ls : List Label) → starts_in (l ∷ ls) ≡ [] → (started l ≡ 0) × (starts_in ls ≡ [])
none_first (start m n args) ls e = absurd (cc)
none_first _ ls e = (refl, e)

-- the same label before two runs
both_begin : (l m : Label) (ls ms : List Label) → l ≡ m → IsBeginning ls ms ⊎ IsBeginning ms ls → IsBeginning (l ∷ ls) (m ∷ ms) ⊎ IsBeginning (m ∷ ms) (l ∷ ls)
both_begin l m ls ms same (inl b) = inl (b.0, ap₂ (λ (z : Label) (zs : List Label). z ∷ zs) same b.1)
both_begin l m ls ms same (inr b) = inr (b.0, ap₂ (λ (z : Label) (zs : List Label). z ∷ zs) (sym same) b.1)

-- where there is one process: of two runs that start none one begins the other
alone : (code : List ModuleTree) (s t u : Plain) (ls ms : List Label) → length s.running ≡ 1 → AreNoLoads ls → AreNoLoads ms
    → starts_in ls ≡ [] → starts_in ms ≡ [] → steps code s ls ≡ Some t → steps code s ms ≡ Some u → IsBeginning ls ms ⊎ IsBeginning ms ls
alone code s t u [] ms one a b x y e h = inl (ms, refl)
alone code s t u (l ∷ ls) [] one a b x y e h = inr (l ∷ ls, refl)
alone code s t u (l ∷ ls) (m ∷ ms) one a b x y e h =
    option_and_then_some _ _ _ e (λ v first rest.
    option_and_then_some _ _ _ h (λ w other further.
    let left = none_first l ls x in
    let right = none_first m ms y in
    let same : l ≡ m = one_label s l m one (goes code s v l a.0 left.0 first) (goes code s w m b.0 right.0 other) in
    let state : w ≡ v = same_Some w v (sym other ∙ (ap (λ (k : Label). step code s k) (sym same) ∙ first)) in
    let made = count_after code s v l a.0 first in
    let still : length v.running ≡ 1 = let none = left.0 in omega arith in
    both_begin l m ls ms same
    (alone code v t u ls ms still a.1 b.1 left.1 right.1 rest (subst (λ (z : Plain). steps code z ms ≡ Some u) state further))))

-- where there is no process, the first label is the start
first_starts : (code : List ModuleTree) (s t : Plain) (l : Label) → length s.running ≡ 0 → IsNoLoad l → step code s l ≡ Some t → started l ≡ 1
first_starts code s t (start m n args) none loads e = refl
first_starts code s t l none loads e = absurd (no_label s l none (goes code s t l loads refl e))

abbrev OneStart : List ℕ → List ℕ → Datum → List Label → Type 0
OneStart m n args ls = (starts_in ls ≡ []) ⊎ (starts_in ls ≡ start m n args ∷ [])

-- and it is the one start
start_first : (m n : List ℕ) (args : Datum) (l : Label) (ls : List Label) → started l ≡ 1 → OneStart m n args (l ∷ ls)
    → (l ≡ start m n args) × (starts_in ls ≡ [])
start_first m n args (start i j xs) ls one (inl e) = absurd (cc)
start_first m n args (start i j xs) ls one (inr e) = (cc, cc)
start_first m n args l ls one x = absurd (omega (arith, one))

-- so of two runs that start one process with one call one begins the other
from_none : (code : List ModuleTree) (s t u : Plain) (m n : List ℕ) (args : Datum) (ls ms : List Label) → length s.running ≡ 0
    → AreNoLoads ls → AreNoLoads ms → OneStart m n args ls → OneStart m n args ms
    → steps code s ls ≡ Some t → steps code s ms ≡ Some u → IsBeginning ls ms ⊎ IsBeginning ms ls
from_none code s t u m n args [] ms none a b x y e h = inl (ms, refl)
from_none code s t u m n args (l ∷ ls) [] none a b x y e h = inr (l ∷ ls, refl)
from_none code s t u m n args (l ∷ ls) (k ∷ ks) none a b x y e h =
    option_and_then_some _ _ _ e (λ v first rest.
    option_and_then_some _ _ _ h (λ w other further.
    let new = first_starts code s v l none a.0 first in
    let left = start_first m n args l ls new x in
    let right = start_first m n args k ks (first_starts code s w k none b.0 other) y in
    let same : l ≡ k = left.0 ∙ sym right.0 in
    let state : w ≡ v = same_Some w v (sym other ∙ (ap (λ (z : Label). step code s z) (sym same) ∙ first)) in
    let made = count_after code s v l a.0 first in
    let one : length v.running ≡ 1 = omega arith in
    both_begin l k ls ks same
    (alone code v t u ls ks one a.1 b.1 left.1 right.1 rest (subst (λ (z : Plain). steps code z ks ≡ Some u) state further))))

-- the run of another plan with the same modules
of_code : (p q : Plan) (k : List Entry) → p.code ≡ q.code → Legal q k → steps p.code (opening p.code) (erase k) ≡ Some (facts q k).plain
of_code p q k same legal = subst (λ (code : List ModuleTree). steps code (opening code) (erase k) ≡ Some (facts q k).plain) (sym same) (erased q k legal)

pub runs_agree : (p q : Plan) (j k : List Entry) (m n : List ℕ) (args : Datum) → p.code ≡ q.code → Legal p j → Legal q k
    → StartsOnce m n args j → StartsOnce m n args k → IsBeginning (erase j) (erase k) ⊎ IsBeginning (erase k) (erase j)
runs_agree p q j k m n args same legal other x y =
    from_none p.code (opening p.code) (facts p j).plain (facts q k).plain m n args (erase j) (erase k) refl
    (loads_none p (at_first p) j legal) (loads_none q (at_first q) k other) x y (erased p j legal) (of_code p q k same other)

-- What was printed stays, and more comes behind it.
prints_none : (s t : Plain) → t.output ≡ s.output → IsBeginning s.output t.output
prints_none s t same = ([], append-nil s.output ∙ sym same)

put_prints : (s t : Plain) (p : ℕ) (q : Option Run) → with_running s p q ≡ t → IsBeginning s.output t.output
put_prints s t zero q e = prints_none s t (ap (λ (z : Plain). z.output) (sym e))
put_prints s t (suc i) q e = prints_none s t (ap (λ (z : Plain). z.output) (sym e))

act_prints : (s t : Plain) (p : ℕ) (u : Run) (x : Next) → acted s p u x ≡ Some t → IsBeginning s.output t.output
act_prints s t p u (acts kind.Print) e = (displayed (redex u).1, ap (λ (z : Plain). z.output) (same_Some _ t e))
act_prints s t p u (acts kind.End) e = prints_none s t (ap (λ (z : Plain). z.output) (sym (same_Some (ended s p (exit_reason u)) t e)))
act_prints s t p u (acts _) e = absurd (none-some t e)
act_prints s t p u (begins m l) e = absurd (none-some t e)
act_prints s t p u pure e = absurd (none-some t e)

label_prints : (code : List ModuleTree) (s t : Plain) (l : Label) → IsNoLoad l → step code s l ≡ Some t → IsBeginning s.output t.output
label_prints code s t (move p) loads e =
    option_and_then_some _ _ _ e (λ r living h. put_prints s t p _ (cond_some (is_move (next r)) (moved_in code s p r) t h).1)
label_prints code s t (act p) loads e = option_and_then_some _ _ _ e (λ r living h. act_prints s t p r (next r) h)
label_prints code s t signal loads e = absurd (none-some t e)
label_prints code s t (advance c) loads e = absurd (none-some t e)
label_prints code s t (skip who) loads e = absurd (none-some t e)
label_prints code s t (kill who) loads e = absurd (none-some t e)
label_prints code s t (expire who) loads e = absurd (none-some t e)
label_prints code s t (load m k) loads e = absurd loads
label_prints code s t (start m n args) loads e =
    prints_none s t (ap (λ (z : Plain). z.output) (sym (cond_some (nat_lt (length s.running) most_processes) _ t e).1))

joined : (xs ys zs : List ℕ) → IsBeginning xs ys → IsBeginning ys zs → IsBeginning xs zs
joined xs ys zs a b = (a.0 ++ b.0, sym (append_assoc xs a.0 b.0) ∙ (ap (λ (l : List ℕ). l ++ b.0) a.1 ∙ b.1))

run_prints : (code : List ModuleTree) (s t : Plain) (ls : List Label) → AreNoLoads ls → steps code s ls ≡ Some t → IsBeginning s.output t.output
run_prints code s t [] loads e = prints_none s t (ap (λ (z : Plain). z.output) (sym (same_Some s t e)))
run_prints code s t (l ∷ ls) loads e =
    option_and_then_some _ _ _ e (λ u first rest.
    joined s.output u.output t.output (label_prints code s u l loads.0 first) (run_prints code u t ls loads.1 rest))

rest_loads : (ls ms : List Label) → AreNoLoads (ls ++ ms) → AreNoLoads ms
rest_loads [] ms a = a
rest_loads (l ∷ ls) ms a = rest_loads ls ms a.1

-- so what a run prints begins what a run prints that it begins
longer_prints : (code : List ModuleTree) (s t u : Plain) (ls ms : List Label) → AreNoLoads ms → steps code s ls ≡ Some t → steps code s ms ≡ Some u
    → IsBeginning ls ms → IsBeginning t.output u.output
longer_prints code s t u ls ms loads e h b =
    let rest : steps code s (ls ++ b.0) ≡ Some u = ap (λ (z : List Label). steps code s z) b.1 ∙ h in
    run_prints code t u b.0 (rest_loads ls b.0 (subst AreNoLoads (sym b.1) loads)) (sym (steps_append code s t ls b.0 e) ∙ rest)

pub outputs_agree : (p q : Plan) (j k : List Entry) (m n : List ℕ) (args : Datum) → p.code ≡ q.code → Legal p j → Legal q k
    → StartsOnce m n args j → StartsOnce m n args k
    → IsBeginning (facts p j).plain.output (facts q k).plain.output ⊎ IsBeginning (facts q k).plain.output (facts p j).plain.output
outputs_agree p q j k m n args same legal other x y =
    let first = erased p j legal in
    let second = of_code p q k same other in
    elim (runs_agree p q j k m n args same legal other x y) [
      | inl b ↦ inl (longer_prints p.code (opening p.code) (facts p j).plain (facts q k).plain (erase j) (erase k) (loads_none q (at_first q) k other) first second b)
      | inr b ↦ inr (longer_prints p.code (opening p.code) (facts q k).plain (facts p j).plain (erase k) (erase j) (loads_none p (at_first p) j legal) second first b)
    ]
