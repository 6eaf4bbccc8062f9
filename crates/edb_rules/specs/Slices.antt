-- Slices: how far a process goes under one lease.

use Rattle.std.specs.Prelude.{◌≡◌, ℕ, zero, suc, ◌+◌, ◌<◌, Bool, true, false, if◌then◌else◌, not, ◌&&◌, ◌||◌, nat_eq, nat_le, find, List, Option, None, Some}
use Rattle.std.specs.Option.{option_and_then, option_map, option_map_or}
use Rattle.std.specs.List.{list_any}
use Rattle.edb_lang.specs.declared.small.Break.{Break}
use Rattle.edb_lang.specs.declared.small.BreakRow.{BreakRow}
use Rattle.edb_lang.specs.declared.small.Status.{Status}
use Rattle.edb_lang.specs.declared.small.Status.TheVariants.{Active, Inactive}
use Rattle.edb_lang.specs.Syntax.{ModuleTree}
use Rattle.edb_breaks.specs.Table.{is_at}
use Rattle.edb_frames.specs.declared.mode.Mode.{Mode}
use Rattle.edb_frames.specs.declared.mode.Mode.TheVariants.{Step}
use Rattle.edb_frames.specs.Modes.{asks}
use Rattle.edb_event.specs.declared.call.AutoFlag.{AutoFlag}
use Rattle.edb_event.specs.declared.call.AutoFlag.TheVariants as flag
use Rattle.edb_model.specs.Running.{Info, Run}
use Rattle.edb_model.specs.Innermost.{innermost}
use Rattle.edb_model.specs.Move.{Next, begins, acts, pure, next, moved, redex}
use Rattle.edb_rules.specs.Conditions.{Asked, ask}
use Rattle.edb_rules.specs.Facts.{Handout}
use Rattle.edb_rules.specs.Server.{is_among}

-- the expression after n moves
abbrev pub after_moves : List ModuleTree → List (List ℕ × ℕ) → ℕ → Run → Run
after_moves code versions zero t = t
after_moves code versions (suc n) t = moved code versions (after_moves code versions n t)

-- whether some Body round what is next is one of these modules'
abbrev pub has_body : List (List ℕ) → Run → Bool
has_body ms t = list_any (λ b. is_among b.0 ms) (redex t).0.bodies

-- the level of the innermost Body; 0 if there is none
abbrev pub level_in : Run → ℕ
level_in t = option_map_or (λ (i : Info). i.level) (innermost t) 0

-- THE MODE by which a slice goes: the one that was taken in; but `step` if the process is to be interpreted for the first
-- time, and the flag `init` was taken in.
abbrev pub has_init : List AutoFlag → Bool
has_init flags = list_any is_init flags
  where
    is_init : AutoFlag → Bool
    is_init flag.Init = true
    is_init _ = false

abbrev pub mode_of : Handout → Mode
mode_of h = if h.is_interpreted || (h.was_entered || not (has_init h.flags)) then h.mode else Step

-- the breakpoint at a line of a module, reading the rows from the top, if it is active
abbrev pub row_among : List ℕ → ℕ → List BreakRow → Option Break
row_among m l rows = option_map (λ (r : BreakRow). r.row) (find (is_at m l) rows)

abbrev pub if_active : Break → Option Break
if_active b = by b.status b
  where
    by : Status → Break → Option Break
    by Active b = Some b
    by Inactive b = None

abbrev pub active_among : List ℕ → ℕ → List BreakRow → Option Break
active_among m l rows = option_and_then if_active (row_among m l rows)

-- Where a beginning may stop a process, after i moves: its module is interpreted by what was taken in, and the process
-- wasn't resumed at this very point.
abbrev pub is_stop_point : Handout → ℕ → List ℕ → Bool
is_stop_point h i m = is_among m h.modules && not (h.is_resumed && nat_eq i 0)

-- whether the mode asks to stop before this expression
abbrev pub is_ordered : Handout → Run → Bool
is_ordered h t = asks (mode_of h) (level_in t)

-- The breakpoint that is looked at: the active one there. None is where the process may not stop, nor where the mode asks it
-- to.
abbrev pub row_tried : Handout → ℕ → Run → List ℕ → ℕ → Option Break
row_tried h i t m l = if is_stop_point h i m && not (is_ordered h t) then active_among m l h.rows else None

-- what the condition of a breakpoint comes to; a breakpoint without one holds at once
abbrev pub asked_of : List ModuleTree → Handout → ℕ → Run → Break → Asked
asked_of code h p t b = by b.cond
  where
    by : Option (List ℕ × List ℕ) → Asked
    by None = record { moves = 0; holds = true }
    by (Some c) = ask code h.versions p t c

-- why a beginning is due: an order, or a breakpoint
pub data Why : Type 0 where
  ordered : Why
  broken : Break → Why

-- A BEGINNING of module m at line l IS DUE where it may stop process p, and the mode asks for it or else the table that
-- was taken in does: it has an active breakpoint there, without a condition or with one that holds.
abbrev pub due : List ModuleTree → Handout → ℕ → ℕ → Run → List ℕ → ℕ → Option Why
due code h p i t m l =
    if is_stop_point h i m && is_ordered h t
    then Some ordered
    else option_and_then (λ (b : Break). if (asked_of code h p t b).holds then Some (broken b) else None) (row_tried h i t m l)

-- how many moves the condition that is asked before this expression takes
abbrev pub asked_before : List ModuleTree → Handout → ℕ → ℕ → Run → Next → ℕ
asked_before code h p i t (begins m l) = option_map_or (λ (b : Break). (asked_of code h p t b).moves) (row_tried h i t m l) 0
asked_before code h p i t _ = 0

-- how many all conditions took at the positions up to that after i moves
abbrev pub asked_to : List ModuleTree → Handout → ℕ → Run → ℕ → ℕ
asked_to code h p t zero = asked_before code h p 0 t (next t)
asked_to code h p t (suc i) =
    asked_to code h p t i + asked_before code h p (suc i) (after_moves code h.versions (suc i) t) (next (after_moves code h.versions (suc i) t))

-- How a slice ends: the process leaves interpreted code; a shared act is next; it comes to interpreted code, and
-- stops there where a beginning is due; it stops; its budget is spent.
pub data SliceEnd : Type 0 where
  leaves : SliceEnd
  act_next : SliceEnd
  enters : Option Why → SliceEnd
  stops : Why → SliceEnd
  spent : SliceEnd

-- Its budget is spent once it made a move at least, and its moves with those of the conditions reach the budget.
abbrev pub if_spent : Handout → ℕ → ℕ → Option SliceEnd
if_spent h i all = if nat_le 1 i && nat_le h.budget (i + all) then Some spent else None

-- an interpreted process stops where a beginning is due
abbrev pub if_due : Handout → ℕ → ℕ → Option Why → Option SliceEnd
if_due h i all (Some why) = Some (stops why)
if_due h i all None = if_spent h i all

-- what a beginning of module m ends a slice with, by why it is due, if it is
abbrev pub at_begin : Handout → ℕ → ℕ → List ℕ → Option Why → Option SliceEnd
at_begin h i all m why =
    if h.is_interpreted then if_due h i all why
    else if is_among m h.modules then Some (enters why)
    else if_spent h i all

-- what the next thing ends a slice with, before the expression t
abbrev pub at_next : List ModuleTree → Handout → ℕ → ℕ → ℕ → Run → Next → Option SliceEnd
at_next code h p i all t (acts k) = Some act_next
at_next code h p i all t (begins m l) = at_begin h i all m (due code h p i t m l)
at_next code h p i all t pure = if_spent h i all

-- HOW A SLICE ENDS after i moves, before the expression t, where it does: the first of these that applies. An interpreted
-- process that has no Body of an interpreted module leaves; then what is next decides.
abbrev pub end_before : List ModuleTree → Handout → ℕ → ℕ → ℕ → Run → Option SliceEnd
end_before code h p i all t = if h.is_interpreted && not (has_body h.modules t) then Some leaves else at_next code h p i all t (next t)

-- the same of the slice of process p that begins with the expression t
abbrev pub end_at : List ModuleTree → Handout → ℕ → Run → ℕ → Option SliceEnd
end_at code h p t i = end_before code h p i (asked_to code h p t i) (after_moves code h.versions i t)

-- A SLICE of process p has as many moves as the first position has at which it ends, and the moves of all conditions that
-- were asked up to there.
pub record IsSlice (code : List ModuleTree) (h : Handout) (p : ℕ) (t : Run) (n conditions : ℕ) (end : SliceEnd) : Type 0 where
  pub ends : end_at code h p t n ≡ Some end
  pub goes : (i : ℕ) → i < n → end_at code h p t i ≡ None
  pub asked : conditions ≡ asked_to code h p t n
