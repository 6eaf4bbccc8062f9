use Rattle.std.proofs.Common.{◌∙◌, Bor, true, false, sym, ap, arith}
use Rattle.std.specs.Ordering.{is_eq}
use Rattle.edb_syntax.specs.declared.modules.Function.{Function}
use Rattle.edb_units.specs.Keys.{Signature, signature_cmp, function_key}
use Rattle.edb_units.proofs.Signatures.{signature_order}
use Rattle.edb_units.proofs.Looking.{none_there, read_there}
use Rattle.edb_units.proofs.search.find_function.Goals as goal

pub returns-then-place-functions : goal.returns-then-place-functions
returns-then-place-functions c =
    none_there signature_cmp signature_order function_key (λ (x : Bor Function). x.now) (c.args.name.now, c.args.arity) c.args.functions.now c.requires c.function_place-place.result 0 c.function_place-place.result (omega arith) c.function_place-place.ensures.parted (omega arith)

pub returns-then-is_eq : goal.returns-then-is_eq
returns-then-is_eq c =
    let k : Signature = (c.args.name.now, c.args.arity) in
    let same = sym (ap (λ f. is_eq (signature_cmp (function_key f) k)) c.function.view_is) ∙ ap is_eq (sym c.compare.ensures) ∙ sym c.is_eq.ensures ∙ c.if-is_eq.true in
    sym (read_there signature_cmp signature_order function_key (λ (x : Bor Function). x.now) k c.args.functions.now c.requires c.function_place-place.result 0 c.function_place-place.result (omega arith) c.function_place-place.ensures.parted c.index-functions-place.result (omega arith) c.index-functions-place.is true same)

pub returns : goal.returns
returns c =
    let k : Signature = (c.args.name.now, c.args.arity) in
    let other = sym (ap (λ f. is_eq (signature_cmp (function_key f) k)) c.function.view_is) ∙ ap is_eq (sym c.compare.ensures) ∙ sym c.is_eq.ensures ∙ c.if-is_eq.false in
    sym (read_there signature_cmp signature_order function_key (λ (x : Bor Function). x.now) k c.args.functions.now c.requires c.function_place-place.result 0 c.function_place-place.result (omega arith) c.function_place-place.ensures.parted c.index-functions-place.result (omega arith) c.index-functions-place.is false other)
