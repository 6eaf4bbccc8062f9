-- Replies, read loosely. What was read is then written again and compared.

use Rattle.std.specs.Prelude.{ℕ, zero, suc, ◌-◌, ◌^◌, if◌then◌else◌, List, [], ◌∷◌, ◌++◌, Option, None, Some, codes}
use Rattle.edb_event.specs.declared.reply.Reply.{Reply}
use Rattle.edb_event.specs.declared.reply.Reply.TheVariants as reply
use Rattle.edb_fields.specs.Chain.{◌>>=◌}
use Rattle.edb_fields.specs.Hexadecimal.{bytes_at}
use Rattle.edb_fields.specs.Numerals.{number_at}
use Rattle.edb_served.specs.Small.{status_at, refusal_at}
use Rattle.edb_served.specs.Words.{word_at, same}

abbrev pub FoundReply : Type 0
FoundReply = Option (Reply × List ℕ)

-- the rows so far with this many more
abbrev pub rows_at : ℕ → List (List ℕ) → List ℕ → Option (List (List ℕ) × List ℕ)
rows_at zero found bytes = Some (found, bytes)
rows_at (suc more) found bytes = bytes_at bytes >>= (λ x. rows_at more (found ++ x.0 ∷ []) x.1)

abbrev pub refused_at : List ℕ → FoundReply
refused_at bytes = refusal_at bytes >>= (λ x. Some (reply.Refused x.0, x.1))

abbrev pub process_status_at : List ℕ → FoundReply
process_status_at bytes = do
  (p, after) ← number_at 0 (2 ^ 32 - 1) bytes
  (s, rest) ← status_at after
  Some (reply.Status p s, rest)

abbrev pub table_at : List ℕ → FoundReply
table_at bytes = do
  (count, after) ← number_at 0 (2 ^ 64 - 1) bytes
  (rows, rest) ← rows_at count [] after
  Some (reply.Rows rows, rest)

-- a reply whose first word was read
abbrev pub answer_at : List ℕ → List ℕ → FoundReply
answer_at word bytes =
    if same word (codes "ok") then Some (reply.Ok, bytes) else if same word (codes "quiet") then Some (reply.Quiet, bytes)
    else if same word (codes "refused") then refused_at bytes else if same word (codes "status") then process_status_at bytes
    else if same word (codes "rows") then table_at bytes else None

-- a reply, however its words are spelled
unfoldable pub reply_at : List ℕ → FoundReply
reply_at bytes = word_at bytes >>= (λ x. answer_at x.0 x.1)
