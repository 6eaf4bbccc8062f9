use Rattle.std.proofs.Common.{◌≡◌, ◌<◌, ◌+◌, ◌-◌, ◌++◌, None, replicate}
use Rattle.std.specs.Vec.{vec_len, vec_capacity}
use Rattle.edb_iserver.proofs.news.place_seen.Given as goal

-- so many places more have no process, and there is room for the others and the new one
abbrev pub invariant-loop-gap : goal.invariant-loop-gap
invariant-loop-gap l = record {
  items : l.seen.items ≡ l.initial.seen.items ++ replicate l.gap None;
  room : vec_len l.seen + (l.missing - l.gap) < vec_capacity l.seen;
}
