-- A reply that was written is read again.

use Rattle.std.proofs.Common.{◌≡◌, ℕ, ◌^◌, ◌-◌, List, [], ◌∷◌, ◌++◌, length, map, codes, Some, refl, sym, ap, ◌∙◌, arith, append_assoc, append-nil}
use Rattle.std.specs.Fmt.{decimal}
use Rattle.edb_event.specs.declared.reply.Reply.{Reply}
use Rattle.edb_event.specs.declared.reply.Reply.TheVariants as reply
use Rattle.edb_event.specs.Ranges.{IsReply}
use Rattle.edb_words.specs.Words.{status_word, refusal_word}
use Rattle.edb_fields.specs.Hexadecimal.{hex_text}
use Rattle.edb_fields.specs.Separators.{fields}
use Rattle.edb_fields.proofs.Chains.{got}
use Rattle.edb_fields.proofs.FieldLaws.{number_field, bytes_field}
use Rattle.edb_journal.specs.Replies.{reply_fields}
use Rattle.edb_journal.specs.Wide.{IsWideReply, AreRows}
use Rattle.edb_served.specs.Answers.{reply_at, rows_at}
use Rattle.edb_served.proofs.WordLaws.{word_read, status_read, refusal_read}

rows_again : (rows found : List (List ℕ)) → AreRows rows → (rest : List ℕ) → rows_at (length rows) found (fields (map hex_text rows) ++ rest) ≡ Some (found ++ rows, fields [] ++ rest)
rows_again [] found are rest = ap (λ f. Some (f, fields [] ++ rest)) (sym (append-nil found))
rows_again (row ∷ rows) found are rest =
    rw (bytes_field row are.0 (map hex_text rows) rest)
    (rows_again rows (found ++ row ∷ []) are.1 rest ∙ ap (λ f. Some (f, fields [] ++ rest)) (append_assoc found (row ∷ []) rows))

-- a reply that was written is read again, whatever comes after the line
pub reply_again : (r : Reply) → IsReply r → IsWideReply r → (rest : List ℕ) → reply_at (fields (reply_fields r) ++ rest) ≡ Some (r, fields [] ++ rest)
unfolding reply_at
reply_again reply.Ok is wide rest = rw (word_read (codes "ok") [] rest refl) refl
reply_again (reply.Refused w) is wide rest = rw (word_read (codes "refused") (refusal_word w ∷ []) rest refl) (rw (refusal_read w is [] rest) refl)
reply_again (reply.Status p s) is wide rest =
    rw (word_read (codes "status") (decimal p ∷ status_word s ∷ []) rest refl)
    (rw (number_field 0 (2 ^ 32 - 1) p (omega arith) (omega arith) (omega (arith, wide)) (status_word s ∷ []) rest) (rw (status_read s [] rest) refl))
reply_again reply.Quiet is wide rest = rw (word_read (codes "quiet") [] rest refl) refl
reply_again (reply.Rows rows) is wide rest =
    rw (word_read (codes "rows") (decimal (length rows) ∷ map hex_text rows) rest refl)
    (rw (number_field 0 (2 ^ 64 - 1) (length rows) (omega arith) (omega arith) (omega (arith, wide.0)) (map hex_text rows) rest)
    (rw (rows_again rows [] wide.1 rest) refl))

-- no more fields is the line's end
pub line_ends : (r : Reply) (rest : List ℕ) → got r (fields [] ++ rest) ≡ got r (10 ∷ rest)
unfolding fields
line_ends r rest = refl
