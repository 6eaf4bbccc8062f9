-- Steps down to a redex: a step ends at a redex, or goes to a part within one more layer.

use Rattle.std.specs.Prelude.{◌<◌, ℕ, Bool, true, false, List, ◌∷◌}
use Rattle.edb_lang.specs.Pairs.{Pairs}
use Rattle.edb_syntax.specs.Syntax as syntax
use Rattle.edb_syntax.specs.Syntax.{Exp}
use Rattle.edb_syntax.specs.Sizes.{size}
use Rattle.edb_moves.specs.Running.{Run, value_of, running}
use Rattle.edb_stack.specs.Parts.{Layer, operands, frame}
use Rattle.edb_stack.specs.Trees.{round}
use Rattle.edb_stack.specs.Marks.{AllBelow}
use Rattle.edb_stack.specs.Views.{layer_of}
use Rattle.edb_stack.specs.Redexes.{redex_tree}
use Rattle.edb_stack.specs.Paths.{RedexBelow, IsFilled}
use Rattle.edb_path.specs.Waiting.{MayStand}
use Rattle.edb_path.specs.declared.steps.Step.{Step}
use Rattle.edb_path.specs.declared.steps.Step.TheVariants.{Ends, Goes}

-- code that is no literal, and of which no part is evaluated before it is the redex
abbrev pub is_leaf : Exp → Bool
is_leaf (syntax.int l i) = false
is_leaf (syntax.atom l a) = false
is_leaf (syntax.float l) = false
is_leaf (syntax.apply l o es) = false
is_leaf (syntax.and_also l a b) = false
is_leaf (syntax.or_else l a b) = false
is_leaf (syntax.match l p e) = false
is_leaf (syntax.case l e cs) = false
is_leaf _ = true

-- what a step finds, as an expression
abbrev pub step_tree : Pairs → Step → Run
step_tree bs (Ends r) = redex_tree bs r
step_tree bs (Goes l e) = round bs (layer_of l) (running e.now)

-- a layer without bindings of its own, with its places among so many pairs
abbrev pub Plain : ℕ → Layer → Type 0
Plain n (operands o done rest) = AllBelow n done
Plain n (frame f) = Unit {0}
Plain n _ = ⊥

-- the places in what a step finds are among so many pairs
abbrev pub StepBelow : ℕ → Step → Type 0
StepBelow n (Ends r) = RedexBelow n r
StepBelow n (Goes l e) = Plain n (layer_of l)

-- what a step finds may stand within layers
abbrev pub StepStands : List Layer → Step → Type 0
StepStands ls (Ends r) = IsFilled ls r
StepStands ls (Goes l e) = MayStand (layer_of l ∷ ls) (value_of (running e.now))

-- a step goes to smaller code
abbrev pub StepShrinks : ℕ → Step → Type 0
StepShrinks n (Ends r) = Unit {0}
StepShrinks n (Goes l e) = size e.now < n
