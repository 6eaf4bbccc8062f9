-- Levels: a move raises them by one at most, and the answer of an act doesn't raise them.

use Rattle.std.proofs.Common.{ℕ, ◌+◌, ◌≤◌, List, arith}
use Rattle.edb_syntax.specs.Syntax.{ModuleTree}
use Rattle.edb_pure.specs.Answers.{Answer}
use Rattle.edb_moves.specs.Running.{Info, Run}
use Rattle.edb_moves.specs.Moves.{moved}
use Rattle.edb_moves.specs.Plugging.{plugged}
use Rattle.edb_moves.proofs.BodiesKept.{AllBodies, Stays, moved_keeps, plugged_keeps}

-- a Body's level is at most n
abbrev pub IsBelow : ℕ → Info → Type 0
IsBelow n i = i.level ≤ n

-- nothing is asked of modules
abbrev pub Any : ModuleTree → ℕ → Type 0
Any x k = Unit {0}

-- each level of an expression is at most n
abbrev pub LevelsBelow : ℕ → Run → Type 0
LevelsBelow n t = AllBodies (IsBelow n) Any t

abbrev Round : ℕ → ℕ → List (ModuleTree × ℕ) → Type 0
Round n l bodies = l ≤ n

rises : (n m : ℕ) → n ≤ m → Stays (IsBelow n) (IsBelow m) Any Any (Round n)
rises n m le = record { of_body = λ i bs h. omega arith; of_module = λ x k h. tt; of_place = λ i l bodies h round. h }

pub moved_level : (code : List ModuleTree) (current : List (List ℕ × ℕ)) (me n : ℕ) (t : Run) → LevelsBelow n t → LevelsBelow (n + 1) (moved code current me t)
moved_level code current me n t all =
    moved_keeps (IsBelow n) (IsBelow (n + 1)) Any Any (Round n) (rises n (n + 1) (omega arith)) code current
    (record { of_code = λ m k x e. tt; of_round = λ x k l bodies h. tt; of_call = λ x k l arity name bodies bs h round named. omega arith })
    me t (omega arith) all

pub plugged_level : (me n : ℕ) (answer : Answer) (t : Run) → LevelsBelow n t → LevelsBelow n (plugged me answer t)
plugged_level me n answer t all = plugged_keeps (IsBelow n) (IsBelow n) Any Any (Round n) (rises n n (omega arith)) me answer t (omega arith) all
