use Rattle.std.proofs.Common.{◌≡◌, ◌≢◌, ℕ, List, [], ◌∷◌, take, subst, arith}
use Rattle.std.specs.Prelude.{All}
use Rattle.std.proofs.lemmas.List.Elements.{All-get_or}
use Rattle.edb_event.specs.declared.call.ProcStatus.{ProcStatus}
use Rattle.edb_event.specs.declared.call.ProcStatus.TheVariants.{Idle, Running, Waiting, Break, Exit}
use Rattle.edb_words.specs.Words.{status_word}
use Rattle.edb_words.proofs.finding.status_named.Goals as goal

abbrev statuses : List ProcStatus
statuses = Idle ∷ Running ∷ Waiting ∷ Break ∷ Exit ∷ []

-- the word is not that of a status
abbrev IsOther : List ℕ → ProcStatus → Type 0
IsOther word s = word ≢ status_word s

others : (word : List ℕ) → All (IsOther word) statuses → (s : ProcStatus) → IsOther word s
others word all Idle = All-get_or (IsOther word) statuses 0 Idle (omega arith) all
others word all Running = All-get_or (IsOther word) statuses 1 Idle (omega arith) all
others word all Waiting = All-get_or (IsOther word) statuses 2 Idle (omega arith) all
others word all Break = All-get_or (IsOther word) statuses 3 Idle (omega arith) all
others word all Exit = All-get_or (IsOther word) statuses 4 Idle (omega arith) all

pub returns : goal.returns
returns c =
    let word = c.args.word.now in
    let end : c.loop-status.status-index ≡ 5 = omega (arith, c.loop-status.auto.status-index-end, c.loop-status-test.false) in
    let seen = subst (λ xs. All (IsOther word) (take c.loop-status.status-index xs)) c.loop-status.invariant.0 c.loop-status.invariant.1 in
    others word (subst (λ n. All (IsOther word) (take n statuses)) end seen)
