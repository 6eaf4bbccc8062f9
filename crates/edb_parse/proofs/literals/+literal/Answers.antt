use Rattle.std.proofs.Common.{◌-◌, Some, Err, ◌∙◌, ap}
use Rattle.std.proofs.lemmas.Result.{err_from_is_err_and}
use Rattle.edb_scan.specs.declared.lexeme.Mark.TheVariants as mark
use Rattle.edb_lang.specs.Terms.{of_list, none, more}
use Rattle.edb_grammar.specs.LiteralReading as reading
use Rattle.edb_grammar.proofs.LiteralSound.{term_within}
use Rattle.edb_parse.specs.Cursors.{toks}
use Rattle.edb_parse.proofs.Passing.{passed_on}
use Rattle.edb_parse.proofs.LiteralTies.{term_level, terms_gathered}
use Rattle.edb_parse.proofs.PatternTies.{above}
use Rattle.edb_parse.proofs.Turns.{fewer, moves_on, going_start, going_next, going_fails, going_ends}
use Rattle.edb_parse.proofs.literals.+literal.Goals as goal

pub list_end-list_of-requires-2 : goal.list_end-list_of-requires-2
list_end-list_of-requires-2 t c =
    record { within = term_within c.args.levels (toks c.in_ok-after.after) (c.in_ok-tail.tail, toks c.in_ok-tail.rest) c.in_ok-tail.ensures.gives }

pub term-returns-clause-gives : goal.term-returns-clause-gives
term-returns-clause-gives t c =
    rw (term_level c.args.levels (c.args.levels - 1) (toks c.args.tokens) (above c.args.levels c.if-levels-eq0.false)) c.single.ensures.gives

pub terms-loop-after-init : goal.terms-loop-after-init
terms-loop-after-init t c =
    let read = reading.read_term c.args.levels in (
      rw c.in_ok-terms.ensures.items (going_start more none mark.Comma read (toks c.args.tokens) (toks c.in_ok-first.rest) c.in_ok-first.first c.in_ok-first.ensures.gives
          (fewer c.args.tokens c.in_ok-first.rest c.in_ok-first.ensures.moves)),
      c.in_ok-first.ensures.moves,
    )

pub terms-returns-in_err-next-clause-gives : goal.terms-returns-in_err-next-clause-gives
terms-returns-in_err-next-clause-gives t c =
    let err = err_from_is_err_and c.from_residual-in_err-next.result c.from_residual-in_err-next.ensures.1 in
    let read = reading.read_term c.args.levels in
    passed_on (λ p. p) (λ v. of_list v.items) c.from_residual-in_err-next.result c.in_err-next.field-0.0 (read (toks c.in-Some.after)) (reading.read_terms read (toks c.args.tokens))
    c.in_err-next.ensures.gives (err.1 ∙ ap Err err.2)
    (λ e. going_fails more none mark.Comma read (reading.read_terms read (toks c.args.tokens)) c.loop-after.terms.items (toks c.loop-after.rest) (toks c.in-Some.after) c.loop-after.invariant.0
    c.in-Some.ensures.finds e (fewer c.loop-after.rest c.in-Some.after c.in-Some.ensures.moves))

pub terms-loop-after-preserved : goal.terms-loop-after-preserved
terms-loop-after-preserved t c =
    let read = reading.read_term c.args.levels in (
      rw c.in_ok-push.ensures.items (going_next more none mark.Comma read (reading.read_terms read (toks c.args.tokens)) c.loop-after.terms.items (toks c.loop-after.rest) (toks c.in-Some.after)
          (toks c.in_ok-next.behind) c.in_ok-next.next c.loop-after.invariant.0 c.in-Some.ensures.finds c.in_ok-next.ensures.gives (fewer c.loop-after.rest c.in-Some.after c.in-Some.ensures.moves)
          (fewer c.in-Some.after c.in_ok-next.behind c.in_ok-next.ensures.moves)),
      moves_on (moves_on c.loop-after.invariant.1 c.in-Some.ensures.moves) c.in_ok-next.ensures.moves,
    )

pub terms-returns-clause-gives : goal.terms-returns-clause-gives
terms-returns-clause-gives t c =
    let read = reading.read_term c.args.levels in
    going_ends more none mark.Comma read (reading.read_terms read (toks c.args.tokens)) c.loop-after.terms.items (toks c.loop-after.rest) c.loop-after.invariant.0 c.in_default.ensures.finds
    ∙ ap (λ ds. Some (ds, toks c.loop-after.rest)) (terms_gathered c.loop-after.terms.items)
