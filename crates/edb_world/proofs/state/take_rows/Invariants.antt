use Rattle.std.proofs.Common.{◌≡◌, ◌+◌, ◌++◌, length, drop}
use Rattle.edb_model.specs.Bonds.{no_bonds}
use Rattle.edb_model.specs.Procs.{process_rows}
use Rattle.edb_world.proofs.state.take_rows.Given as goal

-- the processes up to this one have their rows, and the others are as they were
abbrev pub invariant-loop-member : goal.invariant-loop-member
invariant-loop-member l = record {
  number : l.pid ≡ l.member-index;
  same : length l.members ≡ length l.initial.members;
  rest : drop l.member-index l.members ≡ drop l.member-index l.initial.members;
  rows : l.rows ++ process_rows no_bonds (l.pid + 1) (drop l.member-index l.initial.members) ≡ process_rows no_bonds 1 l.initial.members;
}
