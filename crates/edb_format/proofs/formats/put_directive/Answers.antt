use Rattle.std.proofs.Common.{◌≡◌, ◌∙◌, Err, ap, sym}
use Rattle.std.proofs.lemmas.Result.{err_from_is_err_and}
use Rattle.edb_lang.specs.Terms.{cons}
use Rattle.edb_lang.specs.TermViews.{datum_of}
use Rattle.edb_lang.specs.declared.term.Cell.{Cell}
use Rattle.edb_format.specs.Formats.{shown}
use Rattle.edb_format.specs.Putting.{directed_text_of}
use Rattle.edb_format.proofs.Pieces.{passed_on, not_shown}
use Rattle.edb_format.proofs.formats.put_directive.Goals as goal

pub returns-in_err-put_shown-in-List-clause-err : goal.returns-in_err-put_shown-in-List-clause-err
returns-in_err-put_shown-in-List-clause-err c =
    let format = c.args.format.now in
    let arg = c.deref.result.now in
    let result = c.from_residual-in_err-put_shown-in-List.result in
    let err = err_from_is_err_and result c.from_residual-in_err-put_shown-in-List.ensures.1 in
    let is : c.args.args.now ≡ cons arg.head arg.tail = sym c.args-2.view_is ∙ (ap datum_of c.in-List.is ∙ ap (λ (cell : Cell). cons cell.head cell.tail) (sym c.deref.ensures)) in
    passed_on result c.in_err-put_shown-in-List.field-0.0 (shown c.in-Some.letter arg.head) (directed_text_of (cons format.head format.tail) c.args.args.now)
    c.in_err-put_shown-in-List.ensures.err (err.1 ∙ ap Err err.2)
    (λ none. rw is (not_shown format.head format.tail arg.head arg.tail c.in-Some.letter (sym c.code_point.ensures ∙ c.in-Some.is) c.in-Some.letter-test.0.1 c.in-Some.letter-test.1 none))
