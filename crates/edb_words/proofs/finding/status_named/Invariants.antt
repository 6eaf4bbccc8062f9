use Rattle.std.proofs.Common.{◌≡◌, ◌≢◌, [], ◌∷◌, take}
use Rattle.std.specs.Prelude.{All}
use Rattle.edb_event.specs.declared.call.ProcStatus.TheVariants.{Idle, Running, Waiting, Break, Exit}
use Rattle.edb_words.specs.Words.{status_word}
use Rattle.edb_words.proofs.finding.status_named.Given as goal

-- the word is that of no status so far
abbrev pub invariant-loop-status : goal.invariant-loop-status
invariant-loop-status l =
    (l.status-items ≡ Idle ∷ Running ∷ Waiting ∷ Break ∷ Exit ∷ [])
    × All (λ s. l.word ≢ status_word s) (take l.status-index l.status-items)
