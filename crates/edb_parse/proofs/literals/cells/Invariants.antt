use Rattle.std.proofs.Common.{◌≡◌, length}
use Rattle.edb_lang.specs.Terms.{cons, of_list}
use Rattle.edb_grammar.specs.Literals.{list_term}
use Rattle.edb_parse.proofs.literals.cells.Given as goal

abbrev pub invariant-loop-element : goal.invariant-loop-element
invariant-loop-element l = list_term (of_list l.elements.items) (cons l.head l.tail) ≡ list_term (of_list l.fn.elements.items) l.fn.tail

abbrev pub decreases-loop-element : goal.decreases-loop-element
decreases-loop-element l = length l.elements.items
