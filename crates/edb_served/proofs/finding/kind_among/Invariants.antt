use Rattle.std.proofs.Common.{◌≡◌, drop}
use Rattle.edb_words.specs.Words.{kind_word}
use Rattle.edb_served.specs.Words.{named}
use Rattle.edb_served.proofs.finding.kind_among.Given as goal

-- it is not the word of one before
abbrev pub invariant-loop-kind : goal.invariant-loop-kind
invariant-loop-kind l = named kind_word (drop l.kind-index l.kinds) l.word ≡ named kind_word l.kinds l.word
