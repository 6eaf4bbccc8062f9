use Rattle.std.proofs.Common.{◌≡◌, ◌∙◌, true, nat_eq, string_bytes, arith, sym}
use Rattle.std.proofs.lemmas.Bool.{lt-ltb, not-false}
use Rattle.std.proofs.lemmas.List.{take_rest}
use Rattle.std.specs.Cmp.Lexicographic.{pointwise}
use Rattle.edb_tools.proofs.WordLaws.{request_none, request_some}
use Rattle.edb_tools.proofs.words.check_names.Goals as goal

pub returns-then-not-are_names-clause-names : goal.returns-then-not-are_names-clause-names
returns-then-not-are_names-clause-names c =
    request_none string_bytes c.args.words.now _ c.command-item.result (omega arith) c.command-item.is (take_rest c.args.words.now 1)
    (sym c.are_names.ensures ∙ c.if-not-are_names.true)

pub returns-else-words-ge-WORDS_END-clause-names : goal.returns-else-words-ge-WORDS_END-clause-names
returns-else-words-ge-WORDS_END-clause-names c =
    let is : pointwise nat_eq c.as_bytes.result.now c.as_slice.result.now ≡ true = not-false _ (sym c.ne.ensures ∙ c.if-ne.false) in
    request_some string_bytes c.args.words.now _ c.command-item.result (omega arith) c.command-item.is (take_rest c.args.words.now 1)
    (rw (c.as_bytes.ensures.value, c.as_slice.ensures) at is)
    (sym c.are_names.ensures ∙ c.if-not-are_names.false)
    (lt-ltb _ _ c.if-words-ge-WORDS_END.false)
