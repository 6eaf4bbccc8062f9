-- Shared acts: what a process does to the world.

use Rattle.std.specs.Prelude.{ℕ, ◌++◌, ◌∷◌, [], List, Option, None, Some, codes}
use Rattle.edb_lang.specs.declared.small.Class.{Class}
use Rattle.edb_lang.specs.declared.small.Class.TheVariants.{Error, Exit, Throw}
use Rattle.edb_lang.specs.Terms as term
use Rattle.edb_lang.specs.Terms.{Datum, framed}
use Rattle.edb_lang.specs.TermText.{term_text}
use Rattle.edb_lang.specs.declared.act.ActKind.{ActKind}
use Rattle.edb_lang.specs.declared.act.ActKind.TheVariants as act
use Rattle.edb_model.specs.Running.{Run, value, variable, node, match, sequence, body, raised}
use Rattle.edb_model.specs.Move.{Redex, look, apply, bind, begin, follow, finished, Next, begins, acts, pure, next, redex, answered}
use Rattle.edb_model.specs.Plain.{Plain, with_running, ended}

-- the tuple that an error's reason, or an uncaught throw's value, is put into
abbrev pub error_exit : Datum → Datum
error_exit r = term.tuple (term.more r (term.more term.nil term.none))

abbrev pub throw_exit : Datum → Datum
throw_exit v = error_exit (term.tuple (term.more (term.atom (codes "nocatch")) (term.more v term.none)))

-- The reason with which a process ends: `normal` for a value, an exit's own reason, and the tuples above, with the atom
-- `system_limit` in the place of what would pass a limit.
abbrev pub exit_reason : Run → Datum
exit_reason (raised Error r) = framed error_exit r
exit_reason (raised Exit r) = r
exit_reason (raised Throw v) = framed throw_exit v
exit_reason _ = term.atom (codes "normal")

-- what `display` prints: the text of its operand, and a newline
abbrev pub displayed : Redex → List ℕ
displayed (apply o (m ∷ (f ∷ (v ∷ [])))) = term_text v ++ 10 ∷ []
displayed _ = []

-- the answer of `display`
abbrev pub true_term : Datum
true_term = term.atom (codes "true")

-- the state after the act that is next for process p, whose expression is t; none if no act is next, or one that doesn't
-- come yet
abbrev pub acted : Plain → ℕ → Run → Next → Option Plain
acted s p t (acts act.Print) =
    Some (record (with_running s p (Some (answered true_term t))) { output = s.output ++ displayed (redex t).1 })
acted s p t (acts act.End) = Some (ended s p (exit_reason t))
acted s p t _ = None
