-- Where a raise lands, as it is told before it is done.

use Rattle.std.specs.Prelude.{◌≡◌, ℕ, zero, suc, List, [], ◌∷◌, ◌++◌, slice_get, Option, None, Some}
use Rattle.std.specs.Option.{option_map_or}
use Rattle.edb_lang.specs.Pairs.{Pairs}
use Rattle.edb_moves.specs.Running.{Info, Run, value, leaf, unbegun, failed}
use Rattle.edb_moves.specs.Clauses.{Choice}
use Rattle.edb_pure.specs.declared.Raise.{Raise}
use Rattle.edb_syntax.specs.Syntax.{Exp}
use Rattle.edb_variables.specs.PairStacks.{oldest}
use Rattle.edb_stack.specs.Landings as raised
use Rattle.edb_stack.specs.Landings.{nowhere, lands}
use Rattle.edb_stack.specs.Parts.{Layer, caught, tried, waiting}
use Rattle.edb_stack.specs.Trees.{outward}
use Rattle.edb_stack.specs.declared.redex.Path.{Path}
use Rattle.edb_running.specs.Rising.{IsNext}
use Rattle.edb_running.specs.declared.landing.Landing.{Landing}
use Rattle.edb_running.specs.declared.landing.Stand.{Stand}
use Rattle.edb_running.specs.declared.landing.Landed.{Landed}
use Rattle.edb_running.specs.declared.landing.Landed.TheVariants.{Value, Clause, After}

-- the innermost Body, as it is seen outside of so many layers
abbrev pub info_at : ℕ → List Layer → Info → Info
info_at zero ls i = i
info_at (suc n) [] i = i
info_at (suc n) (l ∷ ls) i = info_at n ls (outward l i)

-- how many pairs a layer keeps that catches a raise
abbrev pub mark_of : Layer → ℕ
mark_of (caught m) = m
mark_of (tried m cs hs) = m
mark_of (waiting m s) = m
mark_of _ = 0

-- the same of the layer with so many layers within it
abbrev pub mark_at : ℕ → List Layer → ℕ
mark_at d ls = option_map_or mark_of (slice_get ls d) 0

-- the bindings with which it goes on, where these are kept, and the tree
abbrev pub landed_pairs : Landed → Pairs → Pairs
landed_pairs (Clause vs s) kept = vs.pairs
landed_pairs _ kept = kept

abbrev pub landed_tree : Landed → Raise → Run
landed_tree (Value v) r = value v
landed_tree (Clause vs s) r = leaf (unbegun s.now)
landed_tree (After s) r = leaf (failed r.class r.reason s.now)

-- a clause adds to what is kept
abbrev pub Extends : Landed → Pairs → Type 0
Extends (Clause vs s) kept = (new : Pairs) × (vs.pairs ≡ new ++ kept)
Extends _ kept = Unit {0}

-- what is told is where the raise lands
abbrev pub IsLanding : Raise → List Layer → raised.Landing → Option Landing → Type 0
IsLanding r ls nowhere None = Unit {0}
IsLanding r ls (lands d j bs t) (Some l) =
    (l.depth ≡ d) × (l.mark ≡ mark_at d ls) × (bs ≡ landed_pairs l.landed (oldest l.mark j.bindings)) × (t ≡ landed_tree l.landed r)
    × Extends l.landed (oldest l.mark j.bindings)
IsLanding r ls _ _ = ⊥

-- the way that a landing needs: where it leaves a value, the way to the code that is evaluated next
abbrev pub LandsWith : Landed → Option Path → Option Exp → Type 0
LandsWith (Value v) w e = IsNext w e
LandsWith _ w e = Unit {0}

-- what a layer catches a raise with, in the Body that sees it, with so many pairs kept
abbrev pub IsCaught : Raise → Info → ℕ → raised.Landing → Landed → Type 0
IsCaught r i m nowhere k = ⊥
IsCaught r i m (lands d j bs t) k =
    (d ≡ 0) × (j ≡ i) × (bs ≡ landed_pairs k (oldest m i.bindings)) × (t ≡ landed_tree k r) × Extends k (oldest m i.bindings)

-- a clause that is chosen, with its bindings, which add to what is kept
abbrev pub IsChosen : Option Landed → Pairs → Choice → Type 0
IsChosen None kept None = Unit {0}
IsChosen (Some (Clause vs s)) kept (Some k) = (k.0 ≡ vs.pairs) × (k.1 ≡ s.now) × ((new : Pairs) × (vs.pairs ≡ new ++ kept))
IsChosen _ kept _ = ⊥

-- the bindings that are seen where a stand is
abbrev pub stood : Stand → Pairs
stood s = oldest s.mark s.variables.now.pairs
