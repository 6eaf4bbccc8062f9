-- What may stand next, where console 1 alone has commands.

use Rattle.std.proofs.Common.{◌≡◌, ℕ, zero, suc, ◌-◌, ◌<◌, false, List, [], ◌∷◌, Option, None, Some, sym, ◌∙◌, ap, subst, arith}
use Rattle.std.specs.Prelude.{IfSome}
use Rattle.std.specs.List.{slice_get}
use Rattle.std.specs.Option.{option_map}
use Rattle.std.specs.Prelude.{slice_index_or}
use Rattle.edb_event.specs.declared.call.Call.{Call}
use Rattle.edb_event.specs.declared.call.Command.{Command}
use Rattle.edb_event.specs.Books.{Commands, commands_of}
use Rattle.edb_event.specs.Ranges.{IsConsole}
use Rattle.edb_rules.specs.Plans.{Plan}
use Rattle.edb_rules.specs.Facts.{Facts, console_at}
use Rattle.edb_rules.specs.Replies.{resolved, next_call, is_enabled}
use Rattle.edb_rules.specs.Ranks.{AtCommand, AtTurn, AtQuiet, NoLease, IsWaiting, IsNext}
use Rattle.edb_world.specs.Ranks.{IsAllAnswered, IsStill}
use Rattle.edb_world.proofs.Calm.{IsCalm, no_deadline}

-- the other consoles have no commands
other_none : (plan : Plan) (f : Facts) (cs : List Command) (c : ℕ) → plan.commands ≡ cs ∷ [] → 1 < c → next_call plan f c ≡ None
other_none plan f cs zero is more = absurd (omega (arith, more))
other_none plan f cs (suc zero) is more = absurd (omega (arith, more))
other_none plan f cs (suc (suc n)) is more =
    let k = (console_at f (suc (suc n))).served in
    let e : suc (suc n) - 1 ≡ suc n = omega arith in
    ap (λ (x : Commands). option_map (resolved f (suc (suc n))) (slice_get (commands_of (suc (suc n)) x) k)) is
    ∙ ap (λ (m : ℕ). option_map (resolved f (suc (suc n))) (slice_get (slice_index_or (cs ∷ []) m []) k)) e

pub all_answered : (plan : Plan) (f : Facts) (cs : List Command) → plan.commands ≡ cs ∷ [] → next_call plan f 1 ≡ None → IsAllAnswered plan f
all_answered plan f cs is none zero console = absurd (omega (arith, console.0))
all_answered plan f cs is none (suc zero) console = none
all_answered plan f cs is none (suc (suc n)) console = other_none plan f cs (suc (suc n)) is (omega arith)

no_call : (plan : Plan) (f : Facts) (c : ℕ) → next_call plan f c ≡ None → IsWaiting plan f c
no_call plan f c none = subst (λ (o : Option Call). IfSome o (λ x. is_enabled f x ≡ false)) (sym none) tt

all_waiting : (plan : Plan) (f : Facts) (cs : List Command) → plan.commands ≡ cs ∷ [] → IsWaiting plan f 1 → (c : ℕ) → IsConsole c → IsWaiting plan f c
all_waiting plan f cs is waits zero console = absurd (omega (arith, console.0))
all_waiting plan f cs is waits (suc zero) console = waits
all_waiting plan f cs is waits (suc (suc n)) console = no_call plan f (suc (suc n)) (other_none plan f cs (suc (suc n)) is (omega arith))

at_turn : (plan : Plan) (f : Facts) (cs : List Command) → AtCommand plan f → plan.commands ≡ cs ∷ [] → f.plain.procs.bonds.signals ≡ [] → IsWaiting plan f 1 → AtTurn plan f
at_turn plan f cs at is none waits = record { at = record { at = at; no_command = all_waiting plan f cs is waits }; no_signal = none }

-- where the next command of console 1 waits, and where it has none left
pub turn_waiting : (plan : Plan) (f : Facts) (cs : List Command) (x : Call) → AtCommand plan f → plan.commands ≡ cs ∷ [] → f.plain.procs.bonds.signals ≡ []
    → next_call plan f 1 ≡ Some x → is_enabled f x ≡ false → AtTurn plan f
turn_waiting plan f cs x at is none next disabled =
    at_turn plan f cs at is none (subst (λ (o : Option Call). IfSome o (λ y. is_enabled f y ≡ false)) (sym next) disabled)

pub turn_through : (plan : Plan) (f : Facts) (cs : List Command) → AtCommand plan f → plan.commands ≡ cs ∷ [] → f.plain.procs.bonds.signals ≡ []
    → next_call plan f 1 ≡ None → AtTurn plan f
turn_through plan f cs at is none through = at_turn plan f cs at is none (no_call plan f 1 through)

pub next_is : (plan : Plan) (f : Facts) (x : Call) → next_call plan f 1 ≡ Some x → IsNext plan f 1 x
next_is plan f x next = record { console = (omega arith, omega arith); call = next; first = λ d low less. absurd (omega (arith, low, less)) }

-- where nothing more can come
pub at_quiet : (plan : Plan) (f : Facts) → IsCalm f.plain → AtTurn plan f → IsStill f → NoLease f → AtQuiet plan f
at_quiet plan f calm at still none = record { at = record { at = at; still = still; no_lease = none }; no_deadline = no_deadline f.plain calm }
