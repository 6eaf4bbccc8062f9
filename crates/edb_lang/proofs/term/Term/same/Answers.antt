use Rattle.edb_lang.proofs.OrderLaws.{is_eq_term}
use Rattle.edb_lang.proofs.term.Term.same.Goals as goal

pub returns : goal.returns
returns c = rw (c.is_eq.ensures, c.cmp.ensures) (is_eq_term c.args.self.now c.args.other.now)
