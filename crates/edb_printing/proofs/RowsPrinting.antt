-- What prints, and what each prints, by computation.

use Rattle.std.proofs.Common.{◌≡◌, pos, List, [], ◌∷◌, None, Some, Ok, codes, refl}
use Rattle.edb_lang.specs.Terms as term
use Rattle.edb_lang.specs.Terms.{Datum}
use Rattle.edb_lang.specs.ListTerms.{list_of, string_of}
use Rattle.edb_lang.specs.TermText.{text, term_text, plain_text}
use Rattle.edb_pure.specs.Answers.{badarg}
use Rattle.edb_format.specs.Formats.{formatted, directed, format_text_of}
use Rattle.edb_syntax.specs.declared.operation.Operation.TheVariants as operation
use Rattle.edb_moves.specs.Running.{written}
use Rattle.edb_moves.specs.Going.{Redex, apply}
use Rattle.edb_printing.specs.Printing.{printing}
use Rattle.std.specs.Fmt.{digits}
use lib.Utf8.{encode}

abbrev call : List Datum → Redex
call vs = apply (written operation.RemoteCall) vs

abbrev io : List Datum → Redex
io vs = call (term.atom (codes "io") ∷ term.atom (codes "format") ∷ vs)

displays : printing (call (term.atom (codes "erlang") ∷ term.atom (codes "display") ∷ term.int (pos 5) ∷ [])) ≡ Some (53 ∷ 10 ∷ [], Ok (term.atom (codes "true")))
unfolding term_text text digits
displays = refl

formats : printing (io (string_of (codes "~w~n") ∷ list_of (term.int (pos 5) ∷ []) term.nil ∷ [])) ≡ Some (53 ∷ 10 ∷ [], Ok (term.atom (codes "ok")))
unfolding format_text_of formatted directed plain_text text digits
formats = refl

formats_alone : printing (io (string_of (codes "a~~") ∷ [])) ≡ Some (codes "a~", Ok (term.atom (codes "ok")))
unfolding format_text_of formatted directed encode
formats_alone = refl

too_few : printing (io (string_of (codes "~w") ∷ [])) ≡ Some ([], badarg)
unfolding format_text_of formatted directed
too_few = refl

of_three : printing (io (term.nil ∷ term.nil ∷ term.nil ∷ [])) ≡ None
of_three = refl
