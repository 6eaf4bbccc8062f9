use Rattle.std.proofs.Common.{◌∙◌, ◌<◌, map, length, string_bytes, arith, sym, ap}
use Rattle.std.specs.Prelude.{option_and_then}
use Rattle.std.proofs.lemmas.List.{length-map}
use Rattle.std.proofs.lemmas.Result.{IfOk-weaker}
use Rattle.edb_options.specs.Given.{wanted_by}
use Rattle.edb_options.proofs.Counts.{few_names}
use Rattle.edb_options.proofs.Asked.{asked}
use Rattle.edb_options.proofs.request.read_options.Goals as goal

pub returns-in-Ok-clause-words : goal.returns-in-Ok-clause-words
returns-in-Ok-clause-words c =
    let words = map string_bytes c.args.words.now in
    let few : length words < 4294967295 = omega (arith, length-map c.args.words.now string_bytes, c.if-words-ge-WORDS_END.false) in
    let given = c.in-Ok.ensures.given in
    IfOk-weaker c.make_request.result _ _ (λ found is. is ∙ sym (asked words few ∙ ap (option_and_then wanted_by) given.1)) (c.make_request.ensures.wanted given.0 given.2)

pub returns-in-Ok-clause-few : goal.returns-in-Ok-clause-few
returns-in-Ok-clause-few c =
    let words = map string_bytes c.args.words.now in
    let few : length words < 4294967295 = omega (arith, length-map c.args.words.now string_bytes, c.if-words-ge-WORDS_END.false) in
    let given = c.in-Ok.ensures.given in
    IfOk-weaker c.make_request.result _ _ (λ found is. few_names words found (is ∙ sym (asked words few ∙ ap (option_and_then wanted_by) given.1))) (c.make_request.ensures.wanted given.0 given.2)

pub returns : goal.returns
returns c =
    let words = map string_bytes c.args.words.now in
    let few : length words < 4294967295 = omega (arith, length-map c.args.words.now string_bytes, c.if-words-ge-WORDS_END.false) in
    record {
      words = sym (asked words few ∙ ap (option_and_then wanted_by) (c.in-Err.ensures.refused (λ memory. c.in_default.not-OutOfMemory (c.kind.ensures ∙ memory))));
      ranges = tt;
      enough = tt;
      few = tt;
    }
