use Rattle.std.proofs.Common.{◌≡◌, drop}
use Rattle.edb_words.specs.Words.{action_word}
use Rattle.edb_served.specs.Words.{named}
use Rattle.edb_served.proofs.finding.action_among.Given as goal

-- it is not the word of one before
abbrev pub invariant-loop-action : goal.invariant-loop-action
invariant-loop-action l = named action_word (drop l.action-index l.actions) l.word ≡ named action_word l.actions l.word
