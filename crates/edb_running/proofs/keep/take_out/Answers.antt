use Rattle.std.proofs.Common.{rules, ◌≡◌, ◌∷◌, ◌+◌, ◌≤◌, [], length, ap, sym, ◌∙◌, unwrap_or, arith}
use Rattle.edb_lang.specs.Terms.{nil}
use Rattle.edb_variables.specs.PairStacks.{oldest}
use Rattle.edb_running.proofs.Cuts.{popped}
use Rattle.edb_stack.proofs.MarkLaws.{length_oldest}
use Rattle.edb_running.proofs.keep.take_out.Goals as goal

pub returns-clause-pairs : goal.returns-clause-pairs
returns-clause-pairs c =
    let e : oldest (c.args.place + 1) c.args.variables.now.pairs ≡ (c.in-Some.pair.name, c.in-Some.pair.value) ∷ c.pop.new.self.pairs = search rules in
    let m : oldest c.args.mark c.pop.new.self.pairs ≡ oldest c.args.mark c.args.variables.now.pairs = (popped c.args.place c.args.mark c.args.variables.now.pairs c.pop.new.self.pairs (c.in-Some.pair.name, c.in-Some.pair.value) c.requires.below e c.requires.mark).1 in
    c.cut-2.ensures.pairs ∙ m

pub unreachable-requires-in_default : goal.unreachable-requires-in_default
unreachable-requires-in_default c =
    let e : oldest (c.args.place + 1) c.args.variables.now.pairs ≡ [] = search rules in
    let short : c.args.place + 1 ≤ length c.args.variables.now.pairs = omega (arith, c.requires.below) in
    absurd (omega (arith, sym (length_oldest (c.args.place + 1) c.args.variables.now.pairs short) ∙ ap length e))

pub returns-clause-value : goal.returns-clause-value
returns-clause-value c =
    let e : oldest (c.args.place + 1) c.args.variables.now.pairs ≡ (c.in-Some.pair.name, c.in-Some.pair.value) ∷ c.pop.new.self.pairs = search rules in
    sym (ap (λ o. unwrap_or o nil) (popped c.args.place c.args.mark c.args.variables.now.pairs c.pop.new.self.pairs (c.in-Some.pair.name, c.in-Some.pair.value) c.requires.below e c.requires.mark).0)
