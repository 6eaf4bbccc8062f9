use Rattle.std.proofs.Common.{◌≡◌, drop}
use Rattle.edb_words.specs.Words.{refusal_word}
use Rattle.edb_served.specs.Words.{named}
use Rattle.edb_served.proofs.finding.refusal_among.Given as goal

-- it is not the word of one before
abbrev pub invariant-loop-refusal : goal.invariant-loop-refusal
invariant-loop-refusal l = named refusal_word (drop l.refusal-index l.refusals) l.word ≡ named refusal_word l.refusals l.word
