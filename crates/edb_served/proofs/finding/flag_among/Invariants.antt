use Rattle.std.proofs.Common.{◌≡◌, drop}
use Rattle.edb_words.specs.Words.{flag_word}
use Rattle.edb_served.specs.Words.{named}
use Rattle.edb_served.proofs.finding.flag_among.Given as goal

-- it is not the word of one before
abbrev pub invariant-loop-flag : goal.invariant-loop-flag
invariant-loop-flag l = named flag_word (drop l.flag-index l.flags) l.word ≡ named flag_word l.flags l.word
