-- The Bodies of a running expression, which stand one within the other on the way to its redex: the innermost, and what is
-- shown of each.

use Rattle.std.specs.Prelude.{ℕ, List, [], ◌∷◌, ◌++◌, map, unwrap_or, slice_get, Option, None, Some}
use Rattle.std.specs.Option.{option_or, option_map}
use Rattle.edb_lang.specs.Pairs.{Pairs, bindings_of}
use Rattle.edb_syntax.specs.Syntax as syntax
use Rattle.edb_syntax.specs.Syntax.{line_of}
use Rattle.edb_moves.specs.Running.{Info, unbegun, sequence, Run, leaf, node, around, body, Runs, none, more, value_of}
use Rattle.edb_moves.specs.Going.{if_some}

-- The Bodies, innermost first, each with what it stands round. Of operands only the first that is no value is on the way.
abbrev mutual
  pub bodies_on_way : Run → List (Info × Run)
  bodies_on_way (node o ts) = bodies_among ts
  bodies_on_way (around f t) = bodies_on_way t
  bodies_on_way (body i t) = bodies_on_way t ++ ((i, t) ∷ [])
  bodies_on_way _ = []

  pub bodies_among : Runs → List (Info × Run)
  bodies_among none = []
  bodies_among (more t ts) = if_some (value_of t) (λ v. bodies_among ts) (bodies_on_way t)

-- the innermost
abbrev pub innermost : Run → Option Info
innermost t = option_map (λ b. b.0) (slice_get (bodies_on_way t) 0)

-- The line of the innermost sequence on the way to the redex, but not within a Body further in: the line that its first
-- expression has, or had before it was begun.
abbrev mutual
  pub sequence_line : Run → Option ℕ
  sequence_line (leaf (unbegun (syntax.sequence e es))) = Some (line_of e)
  sequence_line (node o ts) = line_among ts
  sequence_line (around (sequence l es) t) = option_or (sequence_line t) (Some l)
  sequence_line (around f t) = sequence_line t
  sequence_line _ = None

  pub line_among : Runs → Option ℕ
  line_among none = None
  line_among (more t ts) = if_some (value_of t) (λ v. line_among ts) (sequence_line t)

-- What is shown of a Body: its level, the module, the function's name and arity, the line, and the bindings by name. Bindings
-- of a scope within it aren't shown.
pub record Shown : Type 0 where
  pub level : ℕ
  pub home : List ℕ
  pub name : List ℕ
  pub arity : ℕ
  pub line : ℕ
  pub bindings : Pairs

abbrev pub shown : Info × Run → Shown
shown b =
    record {
      level = b.0.level;
      home = b.0.home.name;
      name = b.0.name;
      arity = b.0.arity;
      line = unwrap_or (sequence_line b.1) 0;
      bindings = bindings_of b.0.bindings;
    }

-- what is shown of all Bodies, innermost first
abbrev pub frames_of : Run → List Shown
frames_of t = map shown (bodies_on_way t)
