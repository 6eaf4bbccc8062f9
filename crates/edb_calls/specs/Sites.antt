-- Where a call stands, and the place that it is among running expressions.

use Rattle.std.specs.Prelude.{◌≡◌, ℕ, List, []}
use Rattle.std.specs.Option.{option_map_or}
use Rattle.edb_lang.specs.Pairs.{Pairs}
use Rattle.edb_syntax.specs.Syntax.{ModuleTree}
use Rattle.edb_moves.specs.Going.{Place}
use Rattle.edb_stack.specs.Bodies.{modules_of}
use Rattle.edb_stack.specs.Views.{info_of, layers_of}
use Rattle.edb_calls.specs.declared.site.Site.{Site}

-- The module and version of each Body round the call, the innermost first. The call with which a process begins has none
-- round it.
abbrev pub bodies_at : Site → List (ModuleTree × ℕ)
bodies_at s = option_map_or (λ b. modules_of (layers_of s.layers.now.0) (info_of b.now)) s.here []

-- the bindings of the innermost Body
abbrev pub pairs_at : Site → Pairs
pairs_at s = option_map_or (λ b. b.now.variables.pairs) s.here []

-- the level of the innermost Body
abbrev pub level_at : Site → ℕ
level_at s = option_map_or (λ b. b.now.level) s.here 0

-- a place is where a call stands
pub record Stands (s : Site) (p : Place) : Type 0 where
  pub process : p.me ≡ s.me
  pub level : p.level ≡ level_at s
  pub bindings : p.bindings ≡ pairs_at s
  pub tail : p.is_tail ≡ s.is_tail
  pub bodies : p.bodies ≡ bodies_at s

-- there is just one such place
abbrev pub spot : Site → Place
spot s = record { me = s.me; level = level_at s; bindings = pairs_at s; is_tail = s.is_tail; bodies = bodies_at s }
