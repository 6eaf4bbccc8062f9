use Rattle.std.proofs.Common.{◌≡◌, ◌+◌, ◌*◌, []}
use Rattle.edb_fields.specs.TermReading.{items_at, term_at}
use Rattle.edb_fields.proofs.terms.+term.Given as goal

-- what the turns that are left give is what all give
abbrev pub invariant-items-loop-turns : goal.invariant-items-loop-turns
invariant-items-loop-turns l =
    items_at (term_at l.levels) l.turns l.found.items l.left l.rest ≡ items_at (term_at l.levels) l.fn.room [] l.fn.room l.fn.bytes

abbrev pub decreases-items-loop-turns : goal.decreases-items-loop-turns
decreases-items-loop-turns l = l.turns

abbrev pub decreases-term : goal.decreases-term
decreases-term a = 8 * a.levels + 4

abbrev pub decreases-list_tail : goal.decreases-list_tail
decreases-list_tail a = 8 * a.levels + 3

abbrev pub decreases-own : goal.decreases-own
decreases-own a = 8 * a.levels + 2

abbrev pub decreases-list : goal.decreases-list
decreases-list a = 8 * a.levels + 1

abbrev pub decreases-cell : goal.decreases-cell
decreases-cell a = 8 * a.levels + 0

abbrev pub decreases-tuple : goal.decreases-tuple
decreases-tuple a = 8 * a.levels + 1

abbrev pub decreases-items : goal.decreases-items
decreases-items a = 8 * a.levels + 6

abbrev pub decreases-item : goal.decreases-item
decreases-item a = 8 * a.levels + 5
