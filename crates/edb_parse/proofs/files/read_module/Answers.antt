use Rattle.std.proofs.Common.{Err, ap, ◌∙◌, length, arith}
use Rattle.std.proofs.lemmas.Result.{err_from_is_err_and}
use Rattle.edb_grammar.specs.FileReading.{read_file}
use Rattle.edb_parse.proofs.FileTies.{first_read, first_fails, next_read, next_fails, cut_off, some_left}
use Rattle.edb_parse.proofs.files.read_module.Goals as goal

pub returns-in_err-line : goal.returns-in_err-line
returns-in_err-line c =
    let err = err_from_is_err_and c.from_residual.result c.from_residual.ensures.1 in
    first_fails c.args.tokens.now c.split_form.result.0.now c.split_form.result.1.now c.from_residual.result c.in_err-line.field-0.0 c.requires.some c.split_form.ensures.form c.split_form.ensures.rest
    c.in_err-line.ensures (err.1 ∙ ap Err err.2)

pub loop-rest-init : goal.loop-rest-init
loop-rest-init c =
    let cut = cut_off c.args.tokens.now c.split_form.result.0.now c.split_form.result.1.now c.requires.some c.split_form.ensures.form c.split_form.ensures.rest in (
      rw (c.new.ensures.items, c.new-2.ensures.items) (first_read c.args.tokens.now c.split_form.result.0.now c.split_form.result.1.now c.in_ok-line.line c.in_ok-line.name c.requires.some
          c.split_form.ensures.form c.split_form.ensures.rest c.in_ok-line.ensures),
      omega (arith, cut.whole, c.requires.few),
      omega (arith, cut.whole, c.requires.few),
    )

pub returns-in_err-funs : goal.returns-in_err-funs
returns-in_err-funs c =
    let err = err_from_is_err_and c.from_residual-in_err-funs.result c.from_residual-in_err-funs.ensures.1 in
    next_fails (read_file c.args.tokens.now) c.loop-rest.number c.loop-rest.funs c.loop-rest.module c.add_form.new.module c.loop-rest.rest.now c.split_form-in-loop-rest.result.0.now
    c.split_form-in-loop-rest.result.1.now c.from_residual-in_err-funs.result c.in_err-funs.field-0.0 (some_left (length c.loop-rest.rest.now) c.is_empty.result c.is_empty.ensures c.loop-rest-test.true) c.split_form-in-loop-rest.ensures.form c.split_form-in-loop-rest.ensures.rest
    c.loop-rest.invariant.0 c.in_err-funs.ensures.adds (err.1 ∙ ap Err err.2)

pub loop-rest-smaller : goal.loop-rest-smaller
loop-rest-smaller c =
    let cut = cut_off c.loop-rest.rest.now c.split_form-in-loop-rest.result.0.now c.split_form-in-loop-rest.result.1.now (some_left (length c.loop-rest.rest.now) c.is_empty.result c.is_empty.ensures c.loop-rest-test.true) c.split_form-in-loop-rest.ensures.form c.split_form-in-loop-rest.ensures.rest in
    omega (arith, cut.whole, cut.some)

pub loop-rest-preserved : goal.loop-rest-preserved
loop-rest-preserved c =
    let cut = cut_off c.loop-rest.rest.now c.split_form-in-loop-rest.result.0.now c.split_form-in-loop-rest.result.1.now (some_left (length c.loop-rest.rest.now) c.is_empty.result c.is_empty.ensures c.loop-rest-test.true) c.split_form-in-loop-rest.ensures.form c.split_form-in-loop-rest.ensures.rest in (
      next_read (read_file c.args.tokens.now) c.loop-rest.number c.loop-rest.funs c.in_ok-funs.funs c.loop-rest.module c.add_form.new.module c.loop-rest.rest.now
          c.split_form-in-loop-rest.result.0.now c.split_form-in-loop-rest.result.1.now (some_left (length c.loop-rest.rest.now) c.is_empty.result c.is_empty.ensures c.loop-rest-test.true) c.split_form-in-loop-rest.ensures.form c.split_form-in-loop-rest.ensures.rest c.loop-rest.invariant.0 c.in_ok-funs.ensures.adds,
      omega (arith, cut.whole, c.in_ok-funs.ensures.few, c.loop-rest.invariant.1),
      omega (arith, cut.whole, cut.some, c.loop-rest.invariant.2),
    )
