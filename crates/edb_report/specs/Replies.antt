-- The text of a reply.

use Rattle.std.specs.Prelude.{ℕ, List, ◌++◌, length, codes}
use Rattle.std.specs.List.{flat_map}
use Rattle.std.specs.Fmt.{decimal}
use Rattle.edb_event.specs.declared.reply.Reply.{Reply}
use Rattle.edb_event.specs.declared.reply.Reply.TheVariants as reply
use Rattle.edb_words.specs.Words.{angled, status_word, refusal_word}

-- how many rows there are, and then each row on a line of its own
abbrev pub rows_text : List (List ℕ) → List ℕ
rows_text rows = decimal (length rows) ++ codes " rows" ++ flat_map (λ row. codes "\n" ++ row) rows

abbrev pub reply_text : Reply → List ℕ
reply_text reply.Ok = codes "ok"
reply_text (reply.Refused why) = refusal_word why
reply_text (reply.Status p s) = angled p ++ codes " " ++ status_word s
reply_text reply.Quiet = codes "quiet"
reply_text (reply.Rows rows) = rows_text rows
