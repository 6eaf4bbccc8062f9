use Rattle.std.proofs.Common.{◌+◌, ◌*◌, length}
use Rattle.edb_syntax.specs.Patterns.{none, more}
use Rattle.edb_scan.specs.declared.lexeme.Mark.TheVariants as mark
use Rattle.edb_grammar.specs.PatternReading as reading
use Rattle.edb_parse.specs.Cursors.{toks, Moves}
use Rattle.edb_parse.proofs.Turns.{Going}
use Rattle.edb_parse.proofs.patterns.+pattern.Given as goal

abbrev pub decreases-single : goal.decreases-single
decreases-single a = 8 * a.levels + 6

abbrev pub decreases-marked : goal.decreases-marked
decreases-marked a = 8 * a.levels + 5

abbrev pub decreases-tuple : goal.decreases-tuple
decreases-tuple a = 8 * a.levels + 4

abbrev pub decreases-list : goal.decreases-list
decreases-list a = 8 * a.levels + 4

abbrev pub decreases-list_end : goal.decreases-list_end
decreases-list_end a = 8 * a.levels + 3

abbrev pub decreases-patterns : goal.decreases-patterns
decreases-patterns a = 8 * a.levels + 2

abbrev pub decreases-joined : goal.decreases-joined
decreases-joined a = 8 * a.levels + 1

abbrev pub decreases-pattern : goal.decreases-pattern
decreases-pattern a = 8 * a.levels + 0

abbrev pub invariant-patterns-loop-after : goal.invariant-patterns-loop-after
invariant-patterns-loop-after l =
    Going more none mark.Comma (reading.read_pat l.levels) (reading.read_pats (reading.read_pat l.levels) (toks l.tokens)) l.patterns.items (toks l.rest)
    × Moves l.tokens l.rest

abbrev pub decreases-patterns-loop-after : goal.decreases-patterns-loop-after
decreases-patterns-loop-after l = length l.rest.tokens.now
