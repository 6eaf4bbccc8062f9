-- Numbers that are told by a legal journal: no more processes are made than there may be, and the last turn was a process's that
-- was made.

use Rattle.std.proofs.Common.{◌≡◌, inl, inr, ℕ, ◌≤◌, List, length, Some, refl, arith}
use Rattle.edb_model.specs.Running.{Run}
use Rattle.edb_model.specs.Plain.{running_at}
use Rattle.edb_event.specs.declared.entry.Entry.{Entry}
use Rattle.edb_event.specs.declared.entry.Entry.TheVariants as entry
use Rattle.edb_rules.specs.Erasure.{labels_of}
use Rattle.edb_rules.specs.Plans.{Plan}
use Rattle.edb_rules.specs.Facts.{Facts, at_first}
use Rattle.edb_rules.specs.Notes.{note, facts}
use Rattle.edb_rules.specs.Legal.{MayLease, May, Legal}
use Rattle.edb_rules.proofs.Entries.{kept_from}
use Rattle.edb_rules.proofs.Steps.{all_started, none_started}
use Rattle.edb_rules.proofs.Kept.{no_load, no_advance, start_few, note_stays}
use Rattle.edb_rules.proofs.Present.{lives_within}
use Rattle.edb_rules.proofs.Turning.{leases_in, acts_in}

-- an entry that starts nothing makes no more
none_more : (plan : Plan) (f : Facts) (e : Entry) → all_started (labels_of e) ≡ 0 → length f.plain.running ≤ 65536 → May plan f e
    → length (note plan f e).plain.running ≤ 65536
none_more plan f e none few may = let made = (note_stays plan f e may).count in omega arith

few_step : (plan : Plan) (f : Facts) (e : Entry) → length f.plain.running ≤ 65536 → May plan f e → length (note plan f e).plain.running ≤ 65536
few_step plan f (entry.Start c p m n args) few may =
    let made = (note_stays plan f (entry.Start c p m n args) may).count in let under = start_few plan f c p m n args may in omega arith
few_step plan f (entry.Load c m v) few may = absurd (no_load plan f c m v may)
few_step plan f (entry.Skip c p) few may = absurd may.rule
few_step plan f (entry.Kill c p) few may = absurd may.rule
few_step plan f (entry.Expire c p) few may = absurd may.rule
few_step plan f (entry.Ran p n c) few may = none_more plan f (entry.Ran p n c) (none_started p n) few may
few_step plan f (entry.Did p k v bytes) few may = none_more plan f (entry.Did p k v bytes) refl few may
few_step plan f (entry.Signal p r) few may = absurd may.rule
few_step plan f (entry.Advance t) few may = absurd (no_advance plan f t may)
few_step plan f _ few may = none_more plan f _ refl few may

pub few_processes : (plan : Plan) (journal : List Entry) → Legal plan journal → length (facts plan journal).plain.running ≤ 65536
few_processes plan journal legal =
    let first : length (at_first plan).plain.running ≤ 65536 = omega arith in
    kept_from plan (λ f. length f.plain.running ≤ 65536) (few_step plan) (at_first plan) journal first legal

-- the turn stays, or it is a process's that was made
same_turn : (plan : Plan) (f : Facts) (e : Entry) → (note plan f e).turn ≡ f.turn → f.turn ≤ length f.plain.running → May plan f e
    → (note plan f e).turn ≤ length (note plan f e).plain.running
same_turn plan f e same within may = let made = (note_stays plan f e may).count in omega arith

its_turn : (plan : Plan) (f : Facts) (e : Entry) (p : ℕ) (t : Run) → (note plan f e).turn ≡ p → running_at f.plain p ≡ Some t → May plan f e
    → (note plan f e).turn ≤ length (note plan f e).plain.running
its_turn plan f e p t is lives may =
    let made = (note_stays plan f e may).count in
    let inside = (lives_within f.plain p t lives).1 in
    omega arith

leased_lives : (plan : Plan) (f : Facts) (p b : ℕ) → MayLease plan f p b → (t : Run) × (running_at f.plain p ≡ Some t)
leased_lives plan f p b may = elim may.turn [
  | inl turn ↦ (let ready = (leases_in f p turn).ready in (ready.running, ready.lives))
  | inr again ↦ (again.running, again.lives)
]

turn_step : (plan : Plan) (f : Facts) (e : Entry) → f.turn ≤ length f.plain.running → May plan f e → (note plan f e).turn ≤ length (note plan f e).plain.running
turn_step plan f (entry.Lease p b) within may =
    let lives = leased_lives plan f p b may.rule in its_turn plan f (entry.Lease p b) p lives.0 refl lives.1 may
turn_step plan f (entry.Did p k v bytes) within may =
    let ready = (acts_in f p may.rule.act may.rule.turn).ready in its_turn plan f (entry.Did p k v bytes) p ready.running refl ready.lives may
turn_step plan f (entry.Ask p k) within may = absurd may.rule
turn_step plan f (entry.Took p) within may = absurd may.rule
turn_step plan f (entry.Forward p) within may = absurd may.rule
turn_step plan f _ within may = same_turn plan f _ refl within may

pub turn_within : (plan : Plan) (journal : List Entry) → Legal plan journal → (facts plan journal).turn ≤ length (facts plan journal).plain.running
turn_within plan journal legal =
    let first : (at_first plan).turn ≤ length (at_first plan).plain.running = omega arith in
    kept_from plan (λ f. f.turn ≤ length f.plain.running) (turn_step plan) (at_first plan) journal first legal
