-- The transcript: the text of each entry.

use Rattle.std.specs.Prelude.{ℕ, true, List, [], ◌∷◌, ◌++◌, Some, length, codes}
use Rattle.std.specs.List.{flat_map}
use Rattle.std.specs.Fmt.{decimal}
use Rattle.edb_lang.specs.Terms.{elements}
use Rattle.edb_lang.specs.TermText.{atom_text}
use Rattle.edb_lang.specs.declared.small.Action.TheVariants as action
use Rattle.edb_lang.specs.declared.act.ActKind.TheVariants as kind
use Rattle.edb_event.specs.declared.entry.Entry.{Entry}
use Rattle.edb_event.specs.declared.entry.Entry.TheVariants as entry
use Rattle.edb_words.specs.Commands.{call_text}
use Rattle.edb_words.specs.Words.{angled, after_spaces}
use Rattle.edb_report.specs.Places.{place_text, function_text}
use Rattle.edb_report.specs.Replies.{reply_text}

-- a line of the debugger's own: two dashes, words, and the line's end
abbrev pub line : List (List ℕ) → List ℕ
line words = codes "--" ++ after_spaces words ++ codes "\n"

-- the line of a process that ended with this reason
abbrev pub exit_line : ℕ → List ℕ → List ℕ
exit_line p reason = line (angled p ∷ codes "exit" ∷ reason ∷ [])

-- the line of what became of a breakpoint
abbrev pub trigger_line : ℕ → List ℕ → ℕ → List ℕ → List ℕ
trigger_line p m l word = line (angled p ∷ codes "trigger" ∷ place_text m l ∷ word ∷ [])

-- The lines of an entry. What a process printed is as it was, without a line's end of ours. A trigger has
-- a line if it was applied and isn't `enable`. What isn't named here has no line.
abbrev pub entry_text : Entry → List ℕ
entry_text (entry.Start c p m f args) =
    line (decimal c ∷ codes "start" ∷ angled p ∷ function_text m f (length (elements args)) ∷ [])
entry_text (entry.Load c m v) = line (decimal c ∷ codes "load" ∷ atom_text m ∷ decimal v ∷ [])
entry_text (entry.Served c call reply) = line (decimal c ∷ (call_text angled call ++ codes ":") ∷ reply_text reply ∷ [])
entry_text (entry.Did p kind.Print value bytes) = bytes
entry_text (entry.Did p kind.End value bytes) = exit_line p value
entry_text (entry.Signal p (Some reason)) = exit_line p reason
entry_text (entry.Stop p m l n by) =
    line (angled p ∷ codes "stop" ∷ place_text m l ∷ codes "level" ∷ decimal n ∷ [])
entry_text (entry.Trigger p m l serial action.Disable true) = trigger_line p m l (codes "disable")
entry_text (entry.Trigger p m l serial action.Delete true) = trigger_line p m l (codes "delete")
entry_text (entry.Advance t) = line (codes "time" ∷ decimal t ∷ [])
entry_text _ = []

-- the transcript of a journal
abbrev pub transcript : List Entry → List ℕ
transcript journal = flat_map entry_text journal
