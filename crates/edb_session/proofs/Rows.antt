-- Rows of the definitions of moves, to be checked by hand: a tail call's level, a match, the limit on nested calls. The
-- moves of a whole run are counted in edb_model's proofs/ShopRun.

use Rattle.std.proofs.Common.{◌≡◌, ℕ, zero, suc, pos, true, false, nat_lt, List, [], ◌∷◌, length, Some, None, refl, codes}
use Rattle.edb_lang.specs.declared.small.Class.TheVariants.{Error}
use Rattle.edb_lang.specs.Terms as term
use Rattle.edb_lang.specs.Syntax.{FunctionTree, ModuleTree}
use Rattle.edb_lang.specs.Syntax as syntax
use Rattle.edb_model.specs.Running.{Info, Run, body, unbegun, opening_call}
use Rattle.edb_model.specs.Lookup.{first_versions}
use Rattle.edb_model.specs.Move.{Place, turns, leaves, raises, go, moved, matched, entered, body_of, most_nested}

-- `go() -> go().`: the call is all that is left of its Body
abbrev loop : FunctionTree
loop = record { name = codes "go"; parameters = []; first = syntax.call 4 (codes "go") syntax.none; rest = syntax.none }

abbrev spin : List ModuleTree
spin = record { name = codes "spin"; exports = record { name = codes "go"; arity = 0 } ∷ []; functions = loop ∷ [] } ∷ []

abbrev after : ℕ → Run
after zero = opening_call (codes "spin") (codes "go") []
after (suc n) = moved spin (first_versions spin) (after n)

abbrev at_level : ℕ → Info
at_level n = record { home = codes "spin"; version = 1; name = codes "go"; arity = 0; level = n; bindings = [] }

-- the first call's Body has level 1
first_level : after 1 ≡ body (at_level 1) (unbegun loop.first loop.rest)
unfolding moved go
first_level = refl

-- it is begun, and the call in it takes its place, with one level more: there is one Body still
tail_level : after 3 ≡ body (at_level 2) (unbegun loop.first loop.rest)
unfolding moved go
tail_level = refl

-- A variable without a value takes it; with a value it matches an equal one alone.
takes_value : matched (syntax.variable 4 (codes "X")) (term.int (pos 5)) [] ≡ Some ((codes "X", term.int (pos 5)) ∷ [])
takes_value = refl

matches_equal : matched (syntax.variable 4 (codes "X")) (term.int (pos 5)) ((codes "X", term.int (pos 5)) ∷ []) ≡ Some ((codes "X", term.int (pos 5)) ∷ [])
matches_equal = refl

matches_no_other : matched (syntax.variable 4 (codes "X")) (term.int (pos 6)) ((codes "X", term.int (pos 5)) ∷ []) ≡ None
matches_no_other = refl

-- A call that isn't all that is left of its Body makes a Body where fewer than 16,384 stand round it, and else raises
-- `system_limit`; one that is takes the innermost Body's place however many there are.
nests : (p : Place) (m : List ℕ) (k : ℕ) → p.is_tail ≡ false → nat_lt (length p.bodies) most_nested ≡ true
    → entered p m k loop [] ≡ turns p.bindings (body_of p m k loop [])
nests p m k inner room = rw (inner, room) refl

nests_no_deeper : (p : Place) (m : List ℕ) (k : ℕ) → p.is_tail ≡ false → nat_lt (length p.bodies) most_nested ≡ false
    → entered p m k loop [] ≡ raises Error (term.atom (codes "system_limit"))
nests_no_deeper p m k inner full = rw (inner, full) refl

takes_the_place : (p : Place) (m : List ℕ) (k : ℕ) → p.is_tail ≡ true → entered p m k loop [] ≡ leaves (body_of p m k loop [])
takes_the_place p m k last = rw last refl
