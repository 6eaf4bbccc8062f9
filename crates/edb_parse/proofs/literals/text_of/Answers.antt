use Rattle.std.proofs.Common.{arith, ap, sym, ◌∙◌, List}
use Rattle.edb_lang.specs.Terms.{Datum, nil, of_list}
use Rattle.edb_grammar.specs.Literals.{list_term}
use Rattle.edb_parse.specs.Cursors.{toks}
use Rattle.edb_parse.proofs.LiteralTies.{text_refused, text_list}
use Rattle.edb_parse.proofs.literals.text_of.Goals as goal

pub returns-then-points-gt-MOST_HIGH-clause-gives : goal.returns-then-points-gt-MOST_HIGH-clause-gives
returns-then-points-gt-MOST_HIGH-clause-gives c = text_refused c.args.points.now (toks c.args.rest) (omega (arith, c.if-points-gt-MOST_HIGH.true))

pub returns-clause-gives : goal.returns-clause-gives
returns-clause-gives c =
    rw (sym (ap (λ (t : Datum). list_term (of_list c.in_ok-characters.characters.items) t) c.nil.ensures
    ∙ (ap (λ (ds : List Datum). list_term (of_list ds) nil) c.in_ok-characters.ensures ∙ text_list c.args.points.now))) c.list_of.ensures.gives
