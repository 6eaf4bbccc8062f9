-- What a world keeps: a legal journal of one hand, and the facts of it.

use Rattle.std.specs.Prelude.{◌≡◌, ℕ, ◌+◌, ◌-◌, ◌<◌, ◌≤◌, min, Bool, true, false, List, [], ◌∷◌, Some}
use Rattle.edb_event.specs.declared.entry.Entry.{Entry}
use Rattle.edb_model.specs.Running.{Run}
use Rattle.edb_rules.specs.Plans.{Plan}
use Rattle.edb_rules.specs.Facts.{Facts, debuggee_at}
use Rattle.edb_rules.specs.Notes.{facts}
use Rattle.edb_rules.specs.Ranks.{NoLease}
use Rattle.edb_rules.specs.Legal.{Legal, IsOneHanded, IsDone, IsLimit}
use Rattle.edb_world.specs.declared.world.World.{World}
use Rattle.edb_world.specs.Known.{coming, running_at}

-- The journal is legal, one hand made it, and these are its facts.
pub record IsKept (plan : Plan) (journal : List Entry) (f : Facts) : Type 0 where
  pub legal : Legal plan journal
  pub one_hand : IsOneHanded plan journal
  pub facts : facts plan journal ≡ f

-- The state has the facts of the journal, and nothing is to come.
pub record Keeps (w : World) : Type 0 where
  pub kept : IsKept w.state.plan w.journal.entries w.state.facts
  pub whole : w.state.facts.coming ≡ []

-- The state has the facts of the journal, but that these entries are to come, since they end a slice.
pub record Awaits (w : World) (es : List Entry) : Type 0 where
  pub kept : IsKept w.state.plan w.journal.entries (coming es w.state).facts
  pub whole : w.state.facts.coming ≡ []

-- Process p has a lease that is out, as no other has; its budget is that of the lease that was just noted, and no load came
-- since.
pub record IsLeased (w : World) (p : ℕ) : Type 0 where
  pub keeps : Keeps w
  pub light : w.state.facts.weight < w.state.plan.weight_limit
  pub running : Run
  pub lives : running_at w.state p ≡ Some running
  pub out : (debuggee_at w.state.facts p).is_out ≡ true
  pub alone : (q : ℕ) → (debuggee_at w.state.facts q).is_out ≡ true → q ≡ p
  pub budget : (debuggee_at w.state.facts p).handout.budget ≡ min w.state.plan.slice_moves (w.state.plan.weight_limit - w.state.facts.weight)
  pub versions : (debuggee_at w.state.facts p).handout.versions ≡ w.state.facts.plain.versions

-- A slice of process p was made, which left this expression: these entries are to come, since they end it, and no lease is
-- out.
pub record IsEnding (w : World) (p : ℕ) (t : Run) (es : List Entry) : Type 0 where
  pub lives : running_at w.state p ≡ Some t
  pub awaits : Awaits w es
  pub free : NoLease w.state.facts

-- an entry of a slice's end has to stand next
abbrev pub IsEndNext : World → ℕ → (Run → Entry) → Type 0
IsEndNext w p e = (t : Run) × (rest : List Entry) × IsEnding w p t (e t ∷ rest)

-- the slice's end has one entry less to come, which weighs one
pub record IsEndBehind (old new : World) (p : ℕ) (t : Run) (rest : List Entry) : Type 0 where
  pub ending : IsEnding new p t rest
  pub plan : new.state.plan ≡ old.state.plan
  pub heavier : new.state.facts.weight ≡ old.state.facts.weight + 1

abbrev pub IsEndKept : World → World → ℕ → (Run → Entry) → Type 0
IsEndKept old new p e = (t : Run) (rest : List Entry) → IsEnding old p t (e t ∷ rest) → IsEndBehind old new p t rest

-- Between turns nothing is to come, and no lease is out but for one that reached the greatest weight.
pub record IsGoing (w : World) : Type 0 where
  pub keeps : Keeps w
  pub free : w.state.facts.weight < w.state.plan.weight_limit → NoLease w.state.facts

-- the whole end of a slice was kept
pub record HasEnded (old new : World) : Type 0 where
  pub going : IsGoing new
  pub plan : new.state.plan ≡ old.state.plan
  pub heavier : old.state.facts.weight ≤ new.state.facts.weight

-- the world went on by a turn
pub record Went (old new : World) : Type 0 where
  pub going : IsGoing new
  pub plan : new.state.plan ≡ old.state.plan
  pub heavier : old.state.facts.weight < new.state.facts.weight

-- nothing was left to do
pub record Rests (old new : World) : Type 0 where
  pub going : IsGoing new
  pub plan : new.state.plan ≡ old.state.plan
  pub done : IsDone new.state.plan new.state.facts

abbrev pub AfterTurn : World → World → Bool → Type 0
AfterTurn old new true = Went old new
AfterTurn old new false = Rests old new

-- the world is over: nothing is left to do, or the weight was reached
abbrev pub IsStopped : World → World → Bool → Type 0
IsStopped old new true = Rests old new
IsStopped old new false = IsGoing new × (new.state.plan ≡ old.state.plan) × IsLimit new.state.plan new.state.facts
