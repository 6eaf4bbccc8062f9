-- Whose turn it is, and what a turn, a slice and an act come to.

use Rattle.std.specs.Prelude.{◌≡◌, ℕ, ◌<◌, ◌≤◌, if◌then◌else◌, List, [], ◌∷◌, Option, None, Some}
use Rattle.std.specs.Option.{option_map, option_and_then}
use Rattle.edb_lang.specs.declared.act.ActKind.{ActKind}
use Rattle.edb_lang.specs.declared.small.Break.{Break}
use Rattle.edb_lang.specs.Syntax.{ModuleTree}
use Rattle.edb_lang.specs.TermText.{term_text}
use Rattle.edb_model.specs.Running.{Run}
use Rattle.edb_model.specs.Move.{next}
use Rattle.edb_event.specs.declared.entry.Cause.{Cause}
use Rattle.edb_event.specs.declared.entry.Entry.{Entry}
use Rattle.edb_event.specs.declared.entry.Entry.TheVariants as entry
use Rattle.edb_rules.specs.Facts.{Handout, OwedTrigger, Facts, debuggee_at}
use Rattle.edb_rules.specs.Slices as rules
use Rattle.edb_rules.specs.Slices.{Why, broken, asked_of, level_in, IsSlice}
use Rattle.edb_rules.specs.SliceEnds.{place_of, cause_of, enter_entry}
use Rattle.edb_rules.specs.Turns as turns
use Rattle.edb_rules.specs.Turns.{Act, leases, does, turn_of}
use Rattle.edb_world.specs.declared.turns.Turn.{Turn}
use Rattle.edb_world.specs.declared.turns.Turn.TheVariants as turn
use Rattle.edb_world.specs.declared.slices.Slice.{Slice}
use Rattle.edb_world.specs.declared.slices.SliceEnd.{SliceEnd}
use Rattle.edb_world.specs.declared.slices.SliceEnd.TheVariants as end
use Rattle.edb_world.specs.Known.{Known, noted, coming, running_at}

-- a turn, told with the kind of its act alone
abbrev pub told_turn : turns.Turn → Turn
told_turn leases = turn.Leases
told_turn (does a) = turn.Does a.kind

-- process p is ready for this turn
pub record HasTurn (f : Facts) (p : ℕ) (t : Turn) : Type 0 where
  pub turn : turns.Turn
  pub is : turn_of f p ≡ Some turn
  pub told : t ≡ told_turn turn

-- no process of these numbers is ready
abbrev pub HaveNone : Facts → ℕ → ℕ → Type 0
HaveNone f from below = (q : ℕ) → from ≤ q → q < below → turn_of f q ≡ None

-- process p owes a trigger, and none of a lesser number does
pub record IsLeastOwing (f : Facts) (p : ℕ) : Type 0 where
  pub trigger : OwedTrigger
  pub owed : (debuggee_at f p).owed ≡ Some trigger
  pub first : (q : ℕ) → q < p → (debuggee_at f q).owed ≡ None

-- process p is ready to make an act of this kind
pub record IsActing (f : Facts) (p : ℕ) (k : ActKind) : Type 0 where
  pub act : Act
  pub turn : turn_of f p ≡ Some (does act)
  pub kind : k ≡ act.kind

-- the entry by which process p makes an act
abbrev pub act_entry : ℕ → Act → Entry
act_entry p a = entry.Did p a.kind (term_text a.answer) a.prints

-- a breakpoint that was found, where it holds
abbrev pub holding : List ModuleTree → Handout → ℕ → Run → Option Break → Option Why
holding code h p t o = option_and_then (λ (b : Break). if (asked_of code h p t b).holds then Some (broken b) else None) o

-- a slice's end, told with the causes of its stops alone
abbrev pub told_end : rules.SliceEnd → SliceEnd
told_end rules.leaves = end.Leaves
told_end rules.act_next = end.ActNext
told_end (rules.enters why) = end.Enters (option_map cause_of why)
told_end (rules.stops why) = end.Stops (cause_of why)
told_end rules.spent = end.Spent

-- the entry by which process p stops for a cause before an expression
abbrev pub stopped_by : ℕ → Cause → Run → Entry
stopped_by p by t = entry.Stop p (place_of (next t)).0 (place_of (next t)).1 (level_in t) by

-- the entries of an end that was told so, where this expression is left
abbrev pub told_entries : ℕ → Run → SliceEnd → List Entry
told_entries p t end.Leaves = entry.Leave p ∷ []
told_entries p t end.ActNext = []
told_entries p t (end.Enters None) = enter_entry p t ∷ []
told_entries p t (end.Enters (Some by)) = enter_entry p t ∷ (stopped_by p by t ∷ [])
told_entries p t (end.Stops by) = stopped_by p by t ∷ []
told_entries p t end.Spent = []

-- the moves of one slice of process p from an expression on, by what it took in
abbrev pub MakesSlice : List ModuleTree → Handout → ℕ → Run → Slice → Type 0
MakesSlice code h p t s = (e : rules.SliceEnd) × IsSlice code h p t s.moves 0 e × (s.end ≡ told_end e)

-- Process p made the moves of one slice; what has to stand behind it is kept by None yet.
pub record IsSliceOf (old new : Known) (p : ℕ) (s : Slice) : Type 0 where
  pub running : Run
  pub lives : running_at old p ≡ Some running
  pub end : rules.SliceEnd
  pub slice : IsSlice old.plan.code (debuggee_at old.facts p).handout p running s.moves 0 end
  pub told : s.end ≡ told_end end
  pub state : new ≡ coming [] (noted old (entry.Ran p s.moves 0))

-- An entry of a slice's end was noted, whatever stands behind it.
abbrev pub IsEndNoted : Known → Known → Entry → Type 0
IsEndNoted old new e = (new.facts.coming ≡ []) × ((rest : List Entry) → coming rest new ≡ noted (coming (e ∷ rest) old) e)
