use Rattle.std.proofs.Common.{◌+◌, ◌*◌, length}
use Rattle.edb_lang.specs.Terms.{none, more}
use Rattle.edb_scan.specs.declared.lexeme.Mark.TheVariants as mark
use Rattle.edb_grammar.specs.LiteralReading as reading
use Rattle.edb_parse.specs.Cursors.{toks, Moves}
use Rattle.edb_parse.proofs.Turns.{Going}
use Rattle.edb_parse.proofs.literals.+literal.Given as goal

abbrev pub decreases-single : goal.decreases-single
decreases-single a = 8 * a.levels + 5

abbrev pub decreases-marked : goal.decreases-marked
decreases-marked a = 8 * a.levels + 4

abbrev pub decreases-tuple : goal.decreases-tuple
decreases-tuple a = 8 * a.levels + 3

abbrev pub decreases-list : goal.decreases-list
decreases-list a = 8 * a.levels + 3

abbrev pub decreases-list_end : goal.decreases-list_end
decreases-list_end a = 8 * a.levels + 2

abbrev pub decreases-terms : goal.decreases-terms
decreases-terms a = 8 * a.levels + 1

abbrev pub decreases-term : goal.decreases-term
decreases-term a = 8 * a.levels + 0

abbrev pub invariant-terms-loop-after : goal.invariant-terms-loop-after
invariant-terms-loop-after l =
    Going more none mark.Comma (reading.read_term l.levels) (reading.read_terms (reading.read_term l.levels) (toks l.tokens)) l.terms.items (toks l.rest)
    × Moves l.tokens l.rest

abbrev pub decreases-terms-loop-after : goal.decreases-terms-loop-after
decreases-terms-loop-after l = length l.rest.tokens.now
