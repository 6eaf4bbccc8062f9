use Rattle.edb_lang.proofs.PairsLaws.{ascends_put}
use Rattle.edb_lang.proofs.bindings.Bindings.add.Goals as goal

pub invariant_of-self-in-Some : goal.invariant_of-self-in-Some
invariant_of-self-in-Some c =
    ascends_put c.args.name c.args.value c.self.inside.pairs.items c.deref.result.now c.insert.new.self.items c.in-Some.place
    c.in_ok-insert-in-Some.ensures.items c.deref.ensures.value (c.in-Some.ensures.1 c.args.value) c.self.invariant
