use Rattle.std.proofs.Common.{◌≡◌, drop}
use Rattle.edb_words.specs.Words.{status_word}
use Rattle.edb_served.specs.Words.{named}
use Rattle.edb_served.proofs.finding.status_among.Given as goal

-- it is not the word of one before
abbrev pub invariant-loop-status : goal.invariant-loop-status
invariant-loop-status l = named status_word (drop l.status-index l.statuses) l.word ≡ named status_word l.statuses l.word
