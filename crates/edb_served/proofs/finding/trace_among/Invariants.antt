use Rattle.std.proofs.Common.{◌≡◌, drop}
use Rattle.edb_words.specs.Words.{trace_word}
use Rattle.edb_served.specs.Words.{named}
use Rattle.edb_served.proofs.finding.trace_among.Given as goal

-- it is not the word of one before
abbrev pub invariant-loop-trace : goal.invariant-loop-trace
invariant-loop-trace l = named trace_word (drop l.trace-index l.traces) l.word ≡ named trace_word l.traces l.word
