use Rattle.std.proofs.Common.{◌≡◌, ◌∙◌, ap, rules}
use Rattle.std.specs.Prelude.{chars}
use Rattle.std.specs.Fmt.{signed_decimal}
use Rattle.edb_values.proofs.TextLemmas.{chars_signed}
use Rattle.edb_values.proofs.texts.integer_answer.Goals as goal

-- src/texts.rt: the digits are ASCII
pub returns : goal.returns
returns c =
    let text : c.as_str.result.now ≡ signed_decimal c.args.number = search rules in
    let same : chars c.as_str.result.now ≡ signed_decimal c.args.number = ap chars text ∙ chars_signed c.args.number c.ranges.number.sfits in
    rw same at c.string_answer.ensures
