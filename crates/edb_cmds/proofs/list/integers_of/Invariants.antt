use Rattle.std.proofs.Common.{◌≡◌, ◌≤◌, map, drop}
use Rattle.edb_cmds.specs.declared.list.Stage.TheVariants.{AnyList}
use Rattle.edb_cmds.specs.Steps.{onto, run}
use Rattle.edb_cmds.proofs.list.integers_of.Given as goal

abbrev pub invariant-loop-placed : goal.invariant-loop-placed
invariant-loop-placed l = record {
  few : l.place.brackets ≤ l.placed-index;
  rest : run AnyList 0 (map (λ p. p.token) l.tokens) ≡ onto l.integers.items (run l.place.stage l.place.brackets (map (λ p. p.token) (drop l.placed-index l.tokens)));
}
