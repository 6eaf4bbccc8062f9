use Rattle.std.proofs.Common.{[], ◌∷◌, Some, Err, ◌∙◌, ap}
use Rattle.std.proofs.lemmas.Result.{err_from_is_err_and}
use Rattle.edb_scan.specs.declared.lexeme.Mark.TheVariants as mark
use Rattle.edb_grammar.specs.FormReading.{read_entry}
use Rattle.edb_parse.specs.Cursors.{toks}
use Rattle.edb_parse.specs.FormViews.{all_entries}
use Rattle.edb_parse.proofs.FormTies.{entries_gathered}
use Rattle.edb_parse.proofs.Passing.{passed_on}
use Rattle.edb_parse.proofs.Turns.{fewer, moves_on, going_start, going_next, going_fails, going_ends}
use Rattle.edb_parse.proofs.attributes.some_entries.Goals as goal

pub loop-after-init : goal.loop-after-init
loop-after-init c = (
  rw c.in_ok-entries.ensures.items (going_start ◌∷◌ [] mark.Comma read_entry (toks c.args.tokens) (toks c.in_ok-first.behind) c.in_ok-first.first c.in_ok-first.ensures.gives
      (fewer c.args.tokens c.in_ok-first.behind c.in_ok-first.ensures.moves)),
  c.in_ok-first.ensures.moves,
)

pub returns-in_err-next-clause-gives : goal.returns-in_err-next-clause-gives
returns-in_err-next-clause-gives c =
    let err = err_from_is_err_and c.from_residual-in_err-next.result c.from_residual-in_err-next.ensures.1 in
    passed_on (λ x. x) (λ v. v.items) c.from_residual-in_err-next.result c.in_err-next.field-0.0 (read_entry (toks c.in-Some.after)) (all_entries (toks c.args.tokens))
    c.in_err-next.ensures.gives (err.1 ∙ ap Err err.2)
    (λ e. going_fails ◌∷◌ [] mark.Comma read_entry (all_entries (toks c.args.tokens)) c.loop-after.entries.items (toks c.loop-after.rest) (toks c.in-Some.after) c.loop-after.invariant.0
    c.in-Some.ensures.finds e (fewer c.loop-after.rest c.in-Some.after c.in-Some.ensures.moves))

pub loop-after-preserved : goal.loop-after-preserved
loop-after-preserved c = (
  rw c.in_ok-push.ensures.items (going_next ◌∷◌ [] mark.Comma read_entry (all_entries (toks c.args.tokens)) c.loop-after.entries.items (toks c.loop-after.rest) (toks c.in-Some.after)
      (toks c.in_ok-next.behind) c.in_ok-next.next c.loop-after.invariant.0 c.in-Some.ensures.finds c.in_ok-next.ensures.gives (fewer c.loop-after.rest c.in-Some.after c.in-Some.ensures.moves)
      (fewer c.in-Some.after c.in_ok-next.behind c.in_ok-next.ensures.moves)),
  moves_on (moves_on c.loop-after.invariant.1 c.in-Some.ensures.moves) c.in_ok-next.ensures.moves,
)

pub returns-clause-gives : goal.returns-clause-gives
returns-clause-gives c =
    going_ends ◌∷◌ [] mark.Comma read_entry (all_entries (toks c.args.tokens)) c.loop-after.entries.items (toks c.loop-after.rest) c.loop-after.invariant.0 c.in_default.ensures.finds
    ∙ ap (λ xs. Some (xs, toks c.loop-after.rest)) (entries_gathered c.loop-after.entries.items)
