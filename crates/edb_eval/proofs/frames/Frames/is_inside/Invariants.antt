use Rattle.std.proofs.Common.{◌≡◌, drop}
use Rattle.std.specs.List.{list_any}
use Rattle.edb_lang.specs.TermText.{same_name}
use Rattle.edb_eval.specs.Bodies.{outer_bodies}
use Rattle.edb_eval.proofs.frames.Frames.is_inside.Given as goal

abbrev pub invariant-loop-depth : goal.invariant-loop-depth
invariant-loop-depth l =
    list_any (λ b. list_any (same_name b.0) l.modules) (outer_bodies (drop l.depth l.self)) ≡ list_any (λ b. list_any (same_name b.0) l.modules) (outer_bodies l.self)
