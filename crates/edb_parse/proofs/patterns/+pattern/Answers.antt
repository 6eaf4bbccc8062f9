use Rattle.std.proofs.Common.{◌-◌, Some, Err, ◌∙◌, ap}
use Rattle.std.proofs.lemmas.Result.{err_from_is_err_and}
use Rattle.edb_scan.specs.declared.lexeme.Mark.TheVariants as mark
use Rattle.edb_syntax.specs.Patterns.{pats_of, none, more}
use Rattle.edb_grammar.specs.PatternReading as reading
use Rattle.edb_parse.specs.Cursors.{toks}
use Rattle.edb_parse.proofs.Passing.{passed_on}
use Rattle.edb_parse.proofs.PatternTies.{above, pattern_level, pats_gathered}
use Rattle.edb_parse.proofs.Turns.{fewer, moves_on, going_start, going_next, going_fails, going_ends}
use Rattle.edb_parse.proofs.patterns.+pattern.Goals as goal

pub pattern-returns-in_err-left-clause-gives : goal.pattern-returns-in_err-left-clause-gives
pattern-returns-in_err-left-clause-gives t c =
    let err = err_from_is_err_and c.from_residual.result c.from_residual.ensures.1 in
    let n = c.args.levels - 1 in
    passed_on (λ p. p) (λ p. p) c.from_residual.result c.in_err-left.field-0.0 (reading.single_pat (reading.read_pat n) (toks c.args.tokens)) (reading.read_pat c.args.levels (toks c.args.tokens))
    c.in_err-left.ensures.gives (err.1 ∙ ap Err err.2)
    (λ e. pattern_level c.args.levels n (toks c.args.tokens) (above c.args.levels c.if-levels-eq0.false) ∙ ap (reading.joined_pats n (reading.read_pat n)) e)

pub pattern-returns-clause-gives : goal.pattern-returns-clause-gives
pattern-returns-clause-gives t c =
    let n = c.args.levels - 1 in
    rw (pattern_level c.args.levels n (toks c.args.tokens) (above c.args.levels c.if-levels-eq0.false) ∙ ap (reading.joined_pats n (reading.read_pat n)) c.in_ok-left.ensures.gives) c.joined.ensures.gives

pub patterns-loop-after-init : goal.patterns-loop-after-init
patterns-loop-after-init t c =
    let read = reading.read_pat c.args.levels in (
      rw c.in_ok-patterns.ensures.items (going_start more none mark.Comma read (toks c.args.tokens) (toks c.in_ok-first.rest) c.in_ok-first.first c.in_ok-first.ensures.gives
          (fewer c.args.tokens c.in_ok-first.rest c.in_ok-first.ensures.moves)),
      c.in_ok-first.ensures.moves,
    )

pub patterns-returns-in_err-next-clause-gives : goal.patterns-returns-in_err-next-clause-gives
patterns-returns-in_err-next-clause-gives t c =
    let err = err_from_is_err_and c.from_residual-in_err-next.result c.from_residual-in_err-next.ensures.1 in
    let read = reading.read_pat c.args.levels in
    passed_on (λ p. p) (λ v. pats_of v.items) c.from_residual-in_err-next.result c.in_err-next.field-0.0 (read (toks c.in-Some.after)) (reading.read_pats read (toks c.args.tokens))
    c.in_err-next.ensures.gives (err.1 ∙ ap Err err.2)
    (λ e. going_fails more none mark.Comma read (reading.read_pats read (toks c.args.tokens)) c.loop-after.patterns.items (toks c.loop-after.rest) (toks c.in-Some.after) c.loop-after.invariant.0
    c.in-Some.ensures.finds e (fewer c.loop-after.rest c.in-Some.after c.in-Some.ensures.moves))

pub patterns-loop-after-preserved : goal.patterns-loop-after-preserved
patterns-loop-after-preserved t c =
    let read = reading.read_pat c.args.levels in (
      rw c.in_ok-push.ensures.items (going_next more none mark.Comma read (reading.read_pats read (toks c.args.tokens)) c.loop-after.patterns.items (toks c.loop-after.rest) (toks c.in-Some.after)
          (toks c.in_ok-next.behind) c.in_ok-next.next c.loop-after.invariant.0 c.in-Some.ensures.finds c.in_ok-next.ensures.gives (fewer c.loop-after.rest c.in-Some.after c.in-Some.ensures.moves)
          (fewer c.in-Some.after c.in_ok-next.behind c.in_ok-next.ensures.moves)),
      moves_on (moves_on c.loop-after.invariant.1 c.in-Some.ensures.moves) c.in_ok-next.ensures.moves,
    )

pub patterns-returns-clause-gives : goal.patterns-returns-clause-gives
patterns-returns-clause-gives t c =
    let read = reading.read_pat c.args.levels in
    going_ends more none mark.Comma read (reading.read_pats read (toks c.args.tokens)) c.loop-after.patterns.items (toks c.loop-after.rest) c.loop-after.invariant.0 c.in_default.ensures.finds
    ∙ ap (λ ps. Some (ps, toks c.loop-after.rest)) (pats_gathered c.loop-after.patterns.items)
