-- The line of a command that was answered, as its parts are put one after the other.

use Rattle.std.proofs.Common.{◌≡◌, ℕ, List, ◌∷◌, ◌++◌, codes, refl, sym, ap, ◌∙◌, append_assoc}
use Rattle.std.specs.Fmt.{decimal}
use Rattle.std.proofs.lemmas.Grind.{flat_map-append}
use Rattle.edb_event.specs.declared.call.Call.{Call}
use Rattle.edb_event.specs.declared.call.Call.TheVariants as call
use Rattle.edb_event.specs.declared.entry.Entry.TheVariants as entry
use Rattle.edb_event.specs.declared.reply.Reply.{Reply}
use Rattle.edb_words.specs.Commands.{call_words, call_text}
use Rattle.edb_words.specs.Words.{after_spaces, process_word}
use Rattle.edb_words.specs.declared.names.ProcessForm.TheVariants.{Plain}
use Rattle.edb_fields.proofs.FieldLaws.{fields_spaced}
use Rattle.edb_journal.specs.Lines.{line}
use Rattle.edb_journal.specs.Replies.{reply_fields}

-- a command's words after a space are its words after spaces
call_spaced : (x : Call) → codes " " ++ call_text (process_word Plain) x ≡ after_spaces (call_words decimal x)
call_spaced call.Il = refl
call_spaced _ = refl

regrouped : (old served number space command equals reply end : List ℕ)
    → ((((((old ++ served) ++ number) ++ space) ++ command) ++ equals) ++ reply) ++ end ≡ old ++ (served ++ ((number ++ ((space ++ command) ++ (equals ++ reply))) ++ end))
regrouped old served number space command equals reply end = simp append_assoc refl

pub served_line : (old : List ℕ) (c : ℕ) (x : Call) (r : Reply)
    → ((((((old ++ codes "served") ++ (codes " " ++ decimal c)) ++ codes " ") ++ call_text (process_word Plain) x) ++ codes " =") ++ after_spaces (reply_fields r)) ++ codes "\n"
    ≡ old ++ line (entry.Served c x r)
unfolding line
served_line old c x r =
    regrouped old (codes "served") (codes " " ++ decimal c) (codes " ") (call_text (process_word Plain) x) (codes " =") (after_spaces (reply_fields r)) (codes "\n")
    ∙ ap (λ words. old ++ (codes "served" ++ (((codes " " ++ decimal c) ++ (words ++ (codes " =" ++ after_spaces (reply_fields r)))) ++ codes "\n"))) (call_spaced x)
    ∙ ap (λ words. old ++ (codes "served" ++ (((codes " " ++ decimal c) ++ words) ++ codes "\n"))) (sym (flat_map-append (λ word. codes " " ++ word) (call_words decimal x) (codes "=" ∷ reply_fields r)))
    ∙ ap (λ bytes. old ++ (codes "served" ++ bytes)) (sym (fields_spaced (decimal c ∷ (call_words decimal x ++ (codes "=" ∷ reply_fields r)))))
