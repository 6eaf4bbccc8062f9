-- Which processes owe a trigger, which have a turn, and which of them is first.

use Rattle.std.proofs.Common.{◌≡◌, inl, inr, ℕ, zero, suc, ◌+◌, ◌<◌, ◌≤◌, Bool, true, false, ◌||◌, if◌then◌else◌, leb, List, [], ◌∷◌, length, Option, None, Some, is_some, slice_index_or, refl, sym, ◌∙◌, ap, subst, arith}
use Rattle.std.specs.Option.{MatchOption, option_map, option_and_then}
use Rattle.std.proofs.lemmas.Bool.{cases_lt, leb-true, leb-false, both_ways}
use Rattle.std.proofs.lemmas.Option.{none-some, same_Some}
use Rattle.edb_model.specs.Running.{Run}
use Rattle.edb_model.specs.Move.{next}
use Rattle.edb_model.specs.Plain.{running_at}
use Rattle.edb_model.specs.Procs.{numbered}
use Rattle.edb_rules.specs.Plans.{Plan}
use Rattle.edb_rules.specs.Facts.{OwedTrigger, Debuggee, Facts, unseen, debuggee_at}
use Rattle.edb_rules.specs.Turns as rules
use Rattle.edb_rules.specs.Turns.{turn_at, turn_for, turn_of, IsSooner, IsFirst}
use Rattle.edb_rules.specs.Ranks.{MayBegin, AtCommand}
use Rattle.edb_rules.proofs.Present.{lives_within}
use Rattle.edb_rules.proofs.Turning.{turn_ready}
use Rattle.edb_lang.specs.declared.act.ActKind.{ActKind}
use Rattle.edb_world.specs.declared.turns.Turn.{Turn}
use Rattle.edb_world.specs.declared.turns.Turn.TheVariants as turn
use Rattle.edb_world.specs.Turns.{told_turn, HasTurn, HaveNone, IsActing, IsLeastOwing}

-- no process of these numbers owes a trigger
abbrev pub OweNone : Facts → ℕ → ℕ → Type 0
OweNone f from below = (q : ℕ) → from ≤ q → q < below → (debuggee_at f q).owed ≡ None

owed_past : (ds : List Debuggee) (n : ℕ) → length ds ≤ n → (slice_index_or ds n unseen).owed ≡ None
owed_past [] n past = refl
owed_past (d ∷ ds) zero past = absurd (omega (arith, past))
owed_past (d ∷ ds) (suc n) past = owed_past ds n (omega (arith, past))

none_owing : (f : Facts) (below : ℕ) → below ≡ length f.debuggees + 1 → OweNone f 1 below → (p : ℕ) → (debuggee_at f p).owed ≡ None
none_owing f below count none zero = refl
none_owing f below count none (suc n) = elim (cases_lt n (length f.debuggees)) [
  | inl less ↦ none (suc n) (omega arith) (omega (arith, less, count))
  | inr past ↦ owed_past f.debuggees n past
]

pub at_command : (plan : Plan) (f : Facts) (below : ℕ) → MayBegin plan f → below ≡ length f.debuggees + 1 → OweNone f 1 below → AtCommand plan f
at_command plan f below begin count none = record { begin = begin; no_trigger = none_owing f below count none }

least_before : (f : Facts) (p : ℕ) → OweNone f 1 p → (q : ℕ) → q < p → (debuggee_at f q).owed ≡ None
least_before f p none zero less = refl
least_before f p none (suc n) less = none (suc n) (omega arith) less

some_owed : (o : Option OwedTrigger) → is_some o ≡ true → (t : OwedTrigger) × (o ≡ Some t)
some_owed None h = absurd (both_ways false refl h)
some_owed (Some t) h = (t, refl)

pub least_owing : (f : Facts) (p : ℕ) → OweNone f 1 p → is_some (debuggee_at f p).owed ≡ true → IsLeastOwing f p
least_owing f p none h =
    let owed = some_owed (debuggee_at f p).owed h in
    record { trigger = owed.0; owed = owed.1; first = least_before f p none }

pub owes_none : (f : Facts) (from p : ℕ) → OweNone f from p → is_some (debuggee_at f p).owed ≡ false → OweNone f from (p + 1)
owes_none f from p none h q least less = elim (cases_lt q p) [
  | inl before ↦ none q least before
  | inr here ↦ (let same : q ≡ p = omega (arith, here, less) in ap (λ (n : ℕ). (debuggee_at f n).owed) same ∙ no_owed (debuggee_at f p).owed h)
]
  where
    no_owed : (o : Option OwedTrigger) → is_some o ≡ false → o ≡ None
    no_owed None e = refl
    no_owed (Some t) e = absurd (both_ways true e refl)

-- the turn of a process, by what is known of it and what it has to do
turn_is : (f : Facts) (p : ℕ) (d : Debuggee) (o : Option Run) → running_at f.plain p ≡ o → debuggee_at f p ≡ d → turn_of f p ≡ option_and_then (turn_for d) o
turn_is f p d o lives known = ap (λ (x : Debuggee). option_and_then (turn_for x) (running_at f.plain p)) known ∙ ap (option_and_then (turn_for d)) lives

held_if : (b : Bool) (o : Option rules.Turn) → b ≡ true → (if b then None else o) ≡ None
held_if true o e = refl
held_if false o e = absurd (both_ways false refl e)

held : (d : Debuggee) (o : Option Run) → d.is_stopped || d.is_out ≡ true → option_and_then (turn_for d) o ≡ None
held d None e = refl
held d (Some t) e = held_if (d.is_stopped || d.is_out) (turn_at t (next t)) e

pub no_turn : (f : Facts) (p : ℕ) (d : Debuggee) → debuggee_at f p ≡ d → d.is_stopped || d.is_out ≡ true → None ≡ option_map told_turn (turn_of f p)
no_turn f p d known e = sym (ap (option_map told_turn) (turn_is f p d (running_at f.plain p) refl known ∙ held d (running_at f.plain p) e))

pub ended_turn : (f : Facts) (p : ℕ) → running_at f.plain p ≡ None → None ≡ option_map told_turn (turn_of f p)
ended_turn f p ended = sym (ap (option_map told_turn) (turn_is f p (debuggee_at f p) None ended refl))

goes_for : (d : Debuggee) (t : Run) → d.is_stopped || d.is_out ≡ false → turn_for d t ≡ turn_at t (next t)
goes_for d t e = ap (λ (b : Bool). if b then None else turn_at t (next t)) e

pub goes_turn : (f : Facts) (p : ℕ) (d : Debuggee) (t : Run) (x : Option Turn) → debuggee_at f p ≡ d → running_at f.plain p ≡ Some t → d.is_stopped || d.is_out ≡ false
    → x ≡ option_map told_turn (turn_at t (next t)) → x ≡ option_map told_turn (turn_of f p)
goes_turn f p d t x known lives e told = told ∙ sym (ap (option_map told_turn) (turn_is f p d (Some t) lives known ∙ goes_for d t e))

-- a process that wasn't made has none
past_none : (qs : List (Option Run)) (n : ℕ) → length qs ≤ n → slice_index_or qs n None ≡ None
past_none [] n past = refl
past_none (q ∷ qs) zero past = absurd (omega (arith, past))
past_none (q ∷ qs) (suc n) past = past_none qs n (omega (arith, past))

pub past_turn : (f : Facts) (p : ℕ) → length f.plain.running < p → turn_of f p ≡ None
past_turn f zero past = refl
past_turn f (suc n) past = ap (option_and_then (turn_for (debuggee_at f (suc n)))) (past_none f.plain.running n (omega (arith, past)))

-- what is told of a turn
none_turn : (o : Option rules.Turn) → None ≡ option_map told_turn o → o ≡ None
none_turn None h = refl
none_turn (Some t) h = absurd (none-some _ h)

pub has_turn : (f : Facts) (p : ℕ) (x : Turn) → Some x ≡ option_map told_turn (turn_of f p) → HasTurn f p x
has_turn f p x h = by (turn_of f p) refl h
  where
    by : (o : Option rules.Turn) → turn_of f p ≡ o → Some x ≡ option_map told_turn o → HasTurn f p x
    by None is e = absurd (none-some x (sym e))
    by (Some t) is e = record { turn = t; is = is; told = same_Some x (told_turn t) e }

pub have_none : (f : Facts) (from p : ℕ) → HaveNone f from p → None ≡ option_map told_turn (turn_of f p) → HaveNone f from (p + 1)
have_none f from p none h q least less = elim (cases_lt q p) [
  | inl before ↦ none q least before
  | inr here ↦ (let same : q ≡ p = omega (arith, here, less) in ap (turn_of f) same ∙ none_turn (turn_of f p) h)
]

-- the first that is ready of these numbers
abbrev pub IsFirstOf : Facts → ℕ → ℕ → ℕ × Turn → Type 0
IsFirstOf f from below x = (from ≤ x.0) × (x.0 < below) × HasTurn f x.0 x.1 × HaveNone f from x.0

none_at : (f : Facts) (q : ℕ) (b : Bool) → leb q f.turn ≡ b → HaveNone f (f.turn + 1) (length f.plain.running + 1) → HaveNone f 1 (f.turn + 1) → turn_of f q ≡ None
none_at f zero b e later sooner = refl
none_at f (suc n) true e later sooner = let le : suc n ≤ f.turn = leb-true (suc n) f.turn e in sooner (suc n) (omega arith) (omega (arith, le))
none_at f (suc n) false e later sooner =
    let gt : f.turn < suc n = leb-false (suc n) f.turn e in
    elim (cases_lt (length f.plain.running) (suc n)) [
      | inl past ↦ past_turn f (suc n) past
      | inr within ↦ later (suc n) (omega (arith, gt)) (omega (arith, within))
    ]

made : (f : Facts) (q : ℕ) (turn : rules.Turn) → turn_of f q ≡ Some turn → (1 ≤ q) × (q ≤ length f.plain.running)
made f q turn e = let ready = turn_ready f q turn e in lives_within f.plain q ready.running ready.lives

refuted : (f : Facts) (q : ℕ) (turn : rules.Turn) → turn_of f q ≡ Some turn → turn_of f q ≡ None → ⊥
refuted f q turn e none = none-some turn (sym none ∙ e)

-- the first behind the last turn
pub first_later : (f : Facts) (last below p : ℕ) (x : Turn) → f.turn ≡ last → IsFirstOf f (last + 1) below (p, x) → IsFirst f p
first_later f last below p x same first q turn e (inl h) = refuted f q turn e (first.3 q (let behind = h.0 in omega (arith, behind, same)) h.1)
first_later f last below p x same first q turn e (inr h) = let low = h.0 in let behind = first.0 in absurd (omega (arith, low, behind, same))

not_sooner : (f : Facts) (p q : ℕ) (x : Turn) (turn : rules.Turn) → HaveNone f (f.turn + 1) (length f.plain.running + 1) → IsFirstOf f 1 (f.turn + 1) (p, x) → turn_of f q ≡ Some turn
    → IsSooner f.turn q p → ⊥
not_sooner f p q x turn later first e (inl h) = let a = h.0 in let b = h.1 in let c = first.1 in absurd (omega (arith, a, b, c))
not_sooner f p q x turn later first e (inr (le, inl h)) = let within = (made f q turn e).1 in refuted f q turn e (later q (omega (arith, h)) (omega (arith, within)))
not_sooner f p q x turn later first e (inr (le, inr h)) = refuted f q turn e (first.3 q (made f q turn e).0 h)

round : (f : Facts) (o : Option (ℕ × Turn)) → HaveNone f (f.turn + 1) (length f.plain.running + 1)
    → MatchOption o (HaveNone f 1 (f.turn + 1)) (IsFirstOf f 1 (f.turn + 1))
    → MatchOption o ((p : ℕ) → turn_of f p ≡ None) (λ x. IsFirst f x.0 × HasTurn f x.0 x.1)
round f None later none = λ p. none_at f p (leb p f.turn) refl later none
round f (Some x) later first = (λ q turn e sooner. not_sooner f x.0 q x.1 turn later first e sooner, first.2)

-- where none behind the last turn is ready, the first of the others has the next turn
pub first_round : (f : Facts) (o : Option (ℕ × Turn)) (last below : ℕ) → f.turn ≡ last → below ≡ length f.plain.running + 1 → HaveNone f (last + 1) below
    → MatchOption o (HaveNone f 1 (last + 1)) (IsFirstOf f 1 (last + 1))
    → MatchOption o ((p : ℕ) → turn_of f p ≡ None) (λ x. IsFirst f x.0 × HasTurn f x.0 x.1)
first_round f o last below turn count later first =
    round f o
    (subst (λ (n : ℕ). HaveNone f (f.turn + 1) n) count (subst (λ (n : ℕ). HaveNone f (n + 1) below) (sym turn) later))
    (subst (λ (n : ℕ). MatchOption o (HaveNone f 1 (n + 1)) (IsFirstOf f 1 (n + 1))) (sym turn) first)

-- a process that owes a trigger is known
owed_index : (ds : List Debuggee) (n : ℕ) (o : OwedTrigger) → (slice_index_or ds n unseen).owed ≡ Some o → n < length ds
owed_index [] n o e = absurd (none-some o e)
owed_index (d ∷ ds) zero o e = omega arith
owed_index (d ∷ ds) (suc n) o e = let rest = owed_index ds n o e in omega (arith, rest)

pub owed_within : (ds : List Debuggee) (p : ℕ) (o : OwedTrigger) → (numbered unseen ds p).owed ≡ Some o → p ≤ length ds
owed_within ds zero o e = omega arith
owed_within ds (suc n) o e = let inside = owed_index ds n o e in omega (arith, inside)

-- a turn that is told is a lease's, or an act's of its kind
pub leases_here : (f : Facts) (p : ℕ) (x : Turn) → HasTurn f p x → x ≡ turn.Leases → turn_of f p ≡ Some rules.leases
leases_here f p x has is = by has.turn has.is (sym has.told ∙ is)
  where
    by : (t : rules.Turn) → turn_of f p ≡ Some t → told_turn t ≡ turn.Leases → turn_of f p ≡ Some rules.leases
    by rules.leases at e = at
    by (rules.does a) at e = absurd (cc)

abbrev the_kind : ActKind → Turn → ActKind
the_kind k turn.Leases = k
the_kind k (turn.Does own) = own

pub acting_here : (f : Facts) (p : ℕ) (k : ActKind) (x : Turn) → HasTurn f p x → x ≡ turn.Does k → IsActing f p k
acting_here f p k x has is = by has.turn has.is (sym has.told ∙ is)
  where
    by : (t : rules.Turn) → turn_of f p ≡ Some t → told_turn t ≡ turn.Does k → IsActing f p k
    by rules.leases at e = absurd (cc)
    by (rules.does a) at e = record { act = a; turn = at; kind = sym (ap (the_kind k) e) }
