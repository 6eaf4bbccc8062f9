-- Bytes that come first.

use Rattle.std.proofs.Common.{ℕ, List, [], ◌∷◌, ap, ◌∙◌, refl}
use Rattle.std.proofs.lemmas.Bool.{eq-eqb}
use Rattle.edb_fields.specs.Reading.{byte_at, after_text}
use Rattle.edb_fields.proofs.Chains.{byte_is}
use Rattle.edb_fields.proofs.Texts.{after_text_again, after_text_parts}
use Rattle.edb_fields.proofs.Told.{Parts}

pub byte_follows : (b : ℕ) (bytes : List ℕ) → Parts (b ∷ []) bytes (byte_at b bytes)
byte_follows b bytes = record { sound = byte_is b bytes; complete = λ rest follows. ap (byte_at b) follows ∙ rw (eq-eqb b b refl) refl }

pub text_follows : (text bytes : List ℕ) → Parts text bytes (after_text text bytes)
text_follows text bytes = record { sound = after_text_parts text bytes; complete = λ rest follows. ap (after_text text) follows ∙ after_text_again text rest }
