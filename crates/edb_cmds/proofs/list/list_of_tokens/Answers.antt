use Rattle.std.proofs.Common.{arith, sym, subst}
use Rattle.edb_lang.specs.Terms.{Datum, IsWithin}
use Rattle.edb_cmds.specs.Integers.{ReadsList}
use Rattle.edb_cmds.proofs.ListLaws.{bare, list_within, list_high, list_none}
use Rattle.edb_cmds.proofs.list.list_of_tokens.Goals as goal

pub returns-then-len-gt-MOST_ELEMENTS : goal.returns-then-len-gt-MOST_ELEMENTS
returns-then-len-gt-MOST_ELEMENTS c =
    list_high (bare c.args.tokens.now) c.in-Some.integers.items (rw c.in-Some.is at c.in_ok-integers.ensures) (omega arith)

pub returns-in_ok-list_of-in-Some : goal.returns-in_ok-list_of-in-Some
returns-in_ok-list_of-in-Some c =
    let P : Datum → Type 0 = λ t. ReadsList (bare c.args.tokens.now) t × IsWithin t in
    subst P (sym c.in_ok-list_of-in-Some.ensures)
    (list_within (bare c.args.tokens.now) c.in-Some.integers.items (rw c.in-Some.is at c.in_ok-integers.ensures) (omega arith))

pub returns-in-None : goal.returns-in-None
returns-in-None c = list_none (bare c.args.tokens.now) (rw c.in-None.is at c.in_ok-integers.ensures)
