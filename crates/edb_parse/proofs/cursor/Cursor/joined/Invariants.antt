use Rattle.std.proofs.Common.{◌≡◌, ◌++◌, length}
use Rattle.edb_grammar.specs.Reading as reading
use Rattle.edb_parse.specs.Cursors.{toks, Stays}
use Rattle.edb_parse.proofs.cursor.Cursor.joined.Given as goal

abbrev pub invariant-loop-more : goal.invariant-loop-more
invariant-loop-more l =
    (l.points.items ++ reading.more_text (toks l.rest) ≡ l.front ++ reading.more_text (toks l.self))
    × (reading.behind_text (toks l.rest) ≡ reading.behind_text (toks l.self))
    × Stays l.self l.rest

abbrev pub decreases-loop-more : goal.decreases-loop-more
decreases-loop-more l = length l.rest.tokens.now
