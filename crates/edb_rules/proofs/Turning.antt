-- What a turn tells of its process.

use Rattle.std.proofs.Common.{◌≡◌, ◌⊎◌, inl, inr, Bool, true, false, if◌then◌else◌, ◌||◌, ℕ, Option, None, Some, refl, sym, ap, subst}
use Rattle.std.specs.Option.{option_map}
use Rattle.std.proofs.lemmas.Option.{none-some, same_Some, option_and_then_some}
use Rattle.edb_lang.specs.declared.act.ActKind.{ActKind}
use Rattle.edb_lang.specs.declared.act.ActKind.TheVariants as kind
use Rattle.edb_model.specs.Running.{Run}
use Rattle.edb_model.specs.Move.{Next, begins, acts, pure, next, is_move}
use Rattle.edb_model.specs.Plain.{running_at}
use Rattle.edb_rules.specs.Facts.{Facts, debuggee_at}
use Rattle.edb_rules.specs.Turns.{Act, act_of, Turn, leases, does, turn_at, turn_for, turn_of}

pub record IsReady (f : Facts) (p : ℕ) : Type 0 where
  pub running : Run
  pub lives : running_at f.plain p ≡ Some running
  pub goes : (debuggee_at f p).is_stopped ≡ false
  pub free : (debuggee_at f p).is_out ≡ false

pub record Leases (f : Facts) (p : ℕ) : Type 0 where
  pub ready : IsReady f p
  pub moves : is_move (next ready.running) ≡ true

pub record Acts (f : Facts) (p : ℕ) (a : Act) : Type 0 where
  pub ready : IsReady f p
  pub is_next : next ready.running ≡ acts a.kind
  pub act : act_of a.kind ready.running ≡ Some a

-- where a test lets nothing through
pub unless_some : {A : Type 0} (t : Bool) (o : Option A) (x : A) → (if t then None else o) ≡ Some x → (t ≡ false) × (o ≡ Some x)
unless_some true o x e = absurd (none-some x e)
unless_some false o x e = (refl, e)

neither : (a b : Bool) → a || b ≡ false → (a ≡ false) × (b ≡ false)
neither true b e = absurd (cc)
neither false b e = (refl, e)

-- the act of a turn is of its kind
act_kind : (k : ActKind) (t : Run) (a : Act) → act_of k t ≡ Some a → a.kind ≡ k
act_kind kind.Print t a e = ap (λ (x : Act). x.kind) (sym (same_Some _ a e))
act_kind kind.End t a e = ap (λ (x : Act). x.kind) (sym (same_Some _ a e))
act_kind _ t a e = absurd (none-some a e)

abbrev the_act : Act → Turn → Act
the_act d leases = d
the_act d (does a) = a

pub same_act : (a b : Act) → does a ≡ does b → a ≡ b
same_act a b e = ap (the_act a) e

mapped : (o : Option Act) (a : Act) → option_map does o ≡ Some (does a) → o ≡ Some a
mapped None a e = absurd (none-some _ e)
mapped (Some b) a e = ap Some (same_act b a (same_Some (does b) (does a) e))

pub no_lease : (a : Act) → does a ≡ leases → ⊥
no_lease a e = absurd (cc)

mapped_none : (o : Option Act) → option_map does o ≡ Some leases → ⊥
mapped_none None e = none-some leases e
mapped_none (Some b) e = no_lease b (same_Some (does b) leases e)

lease_moves : (t : Run) (n : Next) → turn_at t n ≡ Some leases → is_move n ≡ true
lease_moves t (acts k) e = absurd (mapped_none (act_of k t) e)
lease_moves t (begins m l) e = refl
lease_moves t pure e = refl

act_next : (t : Run) (n : Next) (a : Act) → turn_at t n ≡ Some (does a) → (n ≡ acts a.kind) × (act_of a.kind t ≡ Some a)
act_next t (acts k) a e =
    let found = mapped (act_of k t) a e in
    let same = act_kind k t a found in
    (ap acts (sym same), subst (λ (x : ActKind). act_of x t ≡ Some a) (sym same) found)
act_next t (begins m l) a e = absurd (no_lease a (sym (same_Some leases (does a) e)))
act_next t pure a e = absurd (no_lease a (sym (same_Some leases (does a) e)))

ready_for : (f : Facts) (p : ℕ) (t : Run) (turn : Turn) → running_at f.plain p ≡ Some t → turn_for (debuggee_at f p) t ≡ Some turn
    → IsReady f p × (turn_at t (next t) ≡ Some turn)
ready_for f p t turn lives h =
    let parts = unless_some ((debuggee_at f p).is_stopped || (debuggee_at f p).is_out) (turn_at t (next t)) turn h in
    let both = neither (debuggee_at f p).is_stopped (debuggee_at f p).is_out parts.0 in
    (record { running = t; lives = lives; goes = both.0; free = both.1 }, parts.1)

pub leases_in : (f : Facts) (p : ℕ) → turn_of f p ≡ Some leases → Leases f p
leases_in f p e =
    option_and_then_some _ _ _ e (λ t lives h.
    let both = ready_for f p t leases lives h in
    let parts = unless_some ((debuggee_at f p).is_stopped || (debuggee_at f p).is_out) (turn_at t (next t)) leases h in
    let free = neither (debuggee_at f p).is_stopped (debuggee_at f p).is_out parts.0 in
    record {
      ready = record { running = t; lives = lives; goes = free.0; free = free.1 };
      moves = lease_moves t (next t) parts.1;
    })

pub acts_in : (f : Facts) (p : ℕ) (a : Act) → turn_of f p ≡ Some (does a) → Acts f p a
acts_in f p a e =
    option_and_then_some _ _ _ e (λ t lives h.
    let parts = unless_some ((debuggee_at f p).is_stopped || (debuggee_at f p).is_out) (turn_at t (next t)) (does a) h in
    let free = neither (debuggee_at f p).is_stopped (debuggee_at f p).is_out parts.0 in
    let told = act_next t (next t) a parts.1 in
    record {
      ready = record { running = t; lives = lives; goes = free.0; free = free.1 };
      is_next = told.0;
      act = told.1;
    })

pub turn_ready : (f : Facts) (p : ℕ) (turn : Turn) → turn_of f p ≡ Some turn → IsReady f p
turn_ready f p leases e = (leases_in f p e).ready
turn_ready f p (does a) e = (acts_in f p a e).ready

-- an act that comes yet prints or ends
pub act_is : (k : ActKind) (t : Run) (a : Act) → act_of k t ≡ Some a → (k ≡ kind.Print) ⊎ (k ≡ kind.End)
act_is kind.Print t a e = inl refl
act_is kind.End t a e = inr refl
act_is _ t a e = absurd (none-some a e)
