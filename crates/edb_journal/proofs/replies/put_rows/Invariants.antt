use Rattle.std.proofs.Common.{◌≡◌, ◌++◌, drop, map}
use Rattle.edb_fields.specs.Hexadecimal.{hex_text}
use Rattle.edb_words.specs.Words.{after_spaces}
use Rattle.edb_journal.proofs.replies.put_rows.Given as goal

-- what was put and what is left are all
abbrev pub invariant-loop-row : goal.invariant-loop-row
invariant-loop-row l = l.out.items ++ after_spaces (map hex_text (drop l.row-index l.rows)) ≡ l.fn.out.items ++ after_spaces (map hex_text l.rows)
