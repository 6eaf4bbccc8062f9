use Rattle.std.proofs.lemmas.Str.{IsUtf8-string_bytes}
use Rattle.edb_lang.proofs.text.Name.new.Goals as goal

-- src/text.rt: a string is UTF-8
pub invariant_of-result : goal.invariant_of-result
invariant_of-result c = IsUtf8-string_bytes c.args.text
