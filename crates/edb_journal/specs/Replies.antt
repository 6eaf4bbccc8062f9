-- The fields of a reply.

use Rattle.std.specs.Prelude.{◌≡◌, ℕ, List, [], ◌∷◌, codes, length, map, refl}
use Rattle.std.specs.Fmt.{decimal, digits}
use Rattle.edb_event.specs.declared.call.ProcStatus.TheVariants as status
use Rattle.edb_event.specs.declared.reply.Refusal.TheVariants as refusal
use Rattle.edb_event.specs.declared.reply.Reply.{Reply}
use Rattle.edb_event.specs.declared.reply.Reply.TheVariants as reply
use Rattle.edb_words.specs.Words.{status_word, refusal_word}
use Rattle.edb_fields.specs.Hexadecimal.{hex_text}

abbrev pub reply_fields : Reply → List (List ℕ)
reply_fields reply.Ok = codes "ok" ∷ []
reply_fields (reply.Refused why) = codes "refused" ∷ refusal_word why ∷ []
reply_fields (reply.Status p s) = codes "status" ∷ decimal p ∷ status_word s ∷ []
reply_fields reply.Quiet = codes "quiet" ∷ []
reply_fields (reply.Rows rows) = codes "rows" ∷ decimal (length rows) ∷ map hex_text rows

refused_row : reply_fields (reply.Refused refusal.NoModule) ≡ codes "refused" ∷ codes "no_module" ∷ []
refused_row = refl

status_row : reply_fields (reply.Status 12 status.Break) ≡ codes "status" ∷ codes "12" ∷ codes "break" ∷ []
unfolding digits
status_row = refl

rows_row : reply_fields (reply.Rows ((10 ∷ 255 ∷ []) ∷ [] ∷ [])) ≡ codes "rows" ∷ codes "2" ∷ codes "0aff" ∷ codes "-" ∷ []
unfolding digits
rows_row = refl
