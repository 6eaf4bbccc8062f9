-- What is still to be put of a format, and what a refusal says.

use Rattle.std.specs.Prelude.{◌≡◌, List, ℕ, Option, None}
use Rattle.std.specs.Option.{option_and_then}
use Rattle.edb_lang.specs.Terms.{Datum}
use Rattle.edb_format.specs.declared.unwritten.Unwritten.{Unwritten}
use Rattle.edb_format.specs.declared.unwritten.Unwritten.TheVariants.{Memory, Refused}
use Rattle.edb_format.specs.Formats.{directed}
use Rattle.edb_lang.specs.ListTerms.{characters_of, elements_of}

-- the text that what follows a tilde makes of the terms that are left
unfoldable pub directed_text_of : Datum → Datum → Option (List ℕ)
directed_text_of format args = option_and_then (λ cs. option_and_then (directed cs) (elements_of args)) (characters_of format)

-- a refusal for another reason than memory: there is no such text
abbrev pub IsRefusal : Unwritten → Option (List ℕ) → Type 0
IsRefusal Memory text = Unit
IsRefusal Refused text = text ≡ None
