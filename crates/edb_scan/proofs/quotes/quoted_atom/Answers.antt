use Rattle.std.proofs.Common.{◌∙◌, ap, arith, length}
use Rattle.std.specs.Prelude.{chars}
use Rattle.edb_scan.proofs.QuotedFound.{quoted_atom_found, quoted_atom_too_long, no_quoted_atom}
use Rattle.edb_scan.proofs.quotes.quoted_atom.Goals as goal

pub returns-then-char_count-gt-LONGEST_ATOM : goal.returns-then-char_count-gt-LONGEST_ATOM
returns-then-char_count-gt-LONGEST_ATOM c =
    let found = rw c.in-Some.is at c.in_ok-text.ensures in
    quoted_atom_too_long c.args.bytes.now c.in-Some.after.now found.0 _ found.2 (c.as_str.ensures.value ∙ found.1) (omega (arith, c.char_count.ensures, c.if-char_count-gt-LONGEST_ATOM.true))

pub returns-else-char_count-gt-LONGEST_ATOM : goal.returns-else-char_count-gt-LONGEST_ATOM
returns-else-char_count-gt-LONGEST_ATOM c =
    let found = rw c.in-Some.is at c.in_ok-text.ensures in
    let same = ap (λ t. length (chars t)) (c.as_str.ensures.value) in
    rw c.new.ensures (quoted_atom_found c.args.bytes.now c.in-Some.after.now found.0 _ found.2 found.1 (omega (arith, same, c.char_count.ensures, c.if-char_count-gt-LONGEST_ATOM.false)))

pub returns-in-None : goal.returns-in-None
returns-in-None c = let none = rw c.in-None.is at c.in_ok-text.ensures in no_quoted_atom c.args.bytes.now none
