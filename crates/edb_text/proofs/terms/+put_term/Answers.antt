use Rattle.std.proofs.Common.{rules, ◌≡◌, eqb, length, false, arith}
use Rattle.std.proofs.lemmas.Grind.{common_steps}
use Rattle.edb_lang.specs.TermText.{text, tuple_text, items_text}
use Rattle.edb_text.proofs.Braces.{braced}
use Rattle.edb_text.proofs.terms.+put_term.Goals as goal

pub put_tuple-returns : goal.put_tuple-returns
unfolding text tuple_text items_text
put_tuple-returns t c =
    let some : eqb (length c.args.items.now) 0 ≡ false = search rules in
    rw (braced c.args.strings c.args.items.now some) (grind (arith, common_steps))
