-- The entries that a slice ends with.

use Rattle.std.specs.Prelude.{ℕ, unwrap_or, List, [], ◌∷◌, Option, None, Some}
use Rattle.edb_model.specs.Running.{Info, Run}
use Rattle.edb_model.specs.Innermost.{innermost}
use Rattle.edb_model.specs.Move.{Next, begins, acts, pure, next}
use Rattle.edb_model.specs.Plain.{running_at}
use Rattle.edb_event.specs.declared.entry.Cause.{Cause}
use Rattle.edb_event.specs.declared.entry.Cause.TheVariants as cause
use Rattle.edb_event.specs.declared.entry.Entry.{Entry}
use Rattle.edb_event.specs.declared.entry.Entry.TheVariants as entry
use Rattle.edb_rules.specs.Plans.{Plan}
use Rattle.edb_rules.specs.Facts.{Facts, Handout, debuggee_at}
use Rattle.edb_rules.specs.Slices.{SliceEnd, leaves, act_next, enters, stops, spent, Why, ordered, broken, level_in, end_at, after_moves}

-- the module and the line at which something begins
abbrev pub place_of : Next → List ℕ × ℕ
place_of (begins m l) = (m, l)
place_of (acts k) = ([], 0)
place_of pure = ([], 0)

-- what stands for the Body of an expression that has none
abbrev pub no_body : Info
no_body = record { home = []; version = 0; name = []; arity = 0; level = 0; bindings = [] }

abbrev pub body_in : Run → Info
body_in t = unwrap_or (innermost t) no_body

-- the cause of a stop
abbrev pub cause_of : Why → Cause
cause_of ordered = cause.Order
cause_of (broken b) = cause.Break b.serial

-- process p stops before this expression, and comes to interpreted code there
abbrev pub stop_entry : ℕ → Run → Why → Entry
stop_entry p t why = entry.Stop p (place_of (next t)).0 (place_of (next t)).1 (level_in t) (cause_of why)

abbrev pub enter_entry : ℕ → Run → Entry
enter_entry p t = entry.Enter p (body_in t).home (body_in t).name (body_in t).arity

-- the entries of an end, where this expression is left
abbrev pub end_entries : ℕ → Run → SliceEnd → List Entry
end_entries p t leaves = entry.Leave p ∷ []
end_entries p t act_next = []
end_entries p t (enters None) = enter_entry p t ∷ []
end_entries p t (enters (Some why)) = enter_entry p t ∷ (stop_entry p t why ∷ [])
end_entries p t (stops why) = stop_entry p t why ∷ []
end_entries p t spent = []

-- the entries that have to stand behind a slice of n moves of process p
abbrev pub coming_after : Plan → Facts → ℕ → ℕ → List Entry
coming_after plan f p n = by (running_at f.plain p)
  where
    h : Handout
    h = (debuggee_at f p).handout

    of_end : Run → Option SliceEnd → List Entry
    of_end t None = []
    of_end t (Some end) = end_entries p (after_moves plan.code h.versions n t) end

    by : Option Run → List Entry
    by (Some t) = of_end t (end_at plan.code h p t n)
    by None = []
