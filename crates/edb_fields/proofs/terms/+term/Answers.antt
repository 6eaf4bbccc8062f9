use Rattle.std.proofs.Common.{◌≡◌, true, ◌∙◌, rules}
use Rattle.edb_fields.specs.TermReading.{term_at}
use Rattle.edb_fields.proofs.TermLaws.{own_node, tail_node, item_read}
use Rattle.edb_fields.proofs.terms.+term.Goals as goal

pub term-returns-then-tail : goal.term-returns-then-tail
term-returns-then-tail t c = rw (tail_node c.args.levels c.args.tail c.args.room c.args.bytes.now c.if-tail.true) c.list_tail.ensures

pub term-returns-else-tail : goal.term-returns-else-tail
term-returns-else-tail t c = rw (own_node c.args.levels c.args.tail c.args.room c.args.bytes.now c.if-tail.false) c.own.ensures

pub items-loop-turns-preserved : goal.items-loop-turns-preserved
items-loop-turns-preserved t c =
    let on : c.in_ok-element.more ≡ true = search rules in
    item_read (term_at c.args.levels) c.loop-turns.turns c.loop-turns.found.items c.push.new.self.items c.loop-turns.left c.loop-turns.rest.now c.in_ok-element.element
    c.in_ok-element.fewer c.in_ok-element.more c.in_ok-element.after.now c.loop-turns-test.true c.in_ok-element.ensures on c.in_ok-push.ensures.items
    ∙ c.loop-turns.invariant
