use Rattle.std.proofs.Common.{ap, sym, ◌∙◌, List}
use Rattle.edb_lang.specs.Terms.{Datum, cons, of_list}
use Rattle.edb_lang.specs.declared.term.Cell.{Cell}
use Rattle.edb_grammar.specs.Literals.{list_term}
use Rattle.edb_parse.proofs.LiteralTies.{list_push}
use Rattle.edb_parse.proofs.literals.cells.Goals as goal

pub loop-element-init : goal.loop-element-init
loop-element-init c =
    sym (list_push c.pop.new.self.items c.in-Some.head c.args.tail) ∙ ap (λ (ds : List Datum). list_term (of_list ds) c.args.tail) (sym c.in-Some.ensures.items)

pub loop-element-preserved : goal.loop-element-preserved
loop-element-preserved c =
    let left = c.pop-in-loop-element.new.self.items in
    ap (λ (x : Cell). list_term (of_list left) (cons c.in-Some-pop.element (cons x.head x.tail))) c.in_ok-cell.ensures.ok
    ∙ (sym (list_push left c.in-Some-pop.element (cons c.loop-element.head c.loop-element.tail))
    ∙ (ap (λ (ds : List Datum). list_term (of_list ds) (cons c.loop-element.head c.loop-element.tail)) (sym c.in-Some-pop.ensures.items) ∙ c.loop-element.invariant))
