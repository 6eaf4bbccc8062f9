-- Clauses that are entered.

use Rattle.std.proofs.Common.{◌≡◌, ◌≤◌, ◌+◌, ◌∙◌, ℕ, false, if◌then◌else◌, List, [], None, Some, sym, ap, arith, length}
use Rattle.std.specs.Prelude.{codes, nat_lt}
use Rattle.std.proofs.lemmas.Bool.Decides.{nat_tests}
use Rattle.edb_lang.specs.Terms.{Datum}
use Rattle.edb_lang.specs.Pairs.{Pairs}
use Rattle.edb_syntax.specs.Syntax.{Seq, Clauses, ModuleTree}
use Rattle.edb_moves.specs.Running.{Run, body, leaf, unbegun}
use Rattle.edb_moves.specs.Going.{Place, leaves, turns, if_some}
use Rattle.edb_moves.specs.Clauses.{chosen}
use Rattle.edb_moves.specs.Raises.{fails}
use Rattle.edb_moves.specs.Calls.{entered, nested, most_nested}

-- one level more than are allowed
pub nested_refused : (p : Place) (b : Run) → p.is_tail ≡ false → most_nested ≤ length p.bodies → fails (codes "system_limit") ≡ nested p b
nested_refused p b tail deep =
    let over : nat_lt (length p.bodies) most_nested ≡ false = grind (arith, nat_tests) in
    sym (
    ap (λ t. if t then leaves b else if nat_lt (length p.bodies) most_nested then turns p.bindings b else fails (codes "system_limit")) tail
    ∙ ap (λ t. if t then turns p.bindings b else fails (codes "system_limit")) over
    )

-- no clause is chosen
pub entered_none : (p : Place) (x : ModuleTree) (k : ℕ) (name : List ℕ) (arity : ℕ) (cs : Clauses) (hidden : Pairs) (vs : List Datum)
    → None ≡ chosen p.me [] hidden cs vs → fails (codes "function_clause") ≡ entered p x k name arity cs hidden vs
entered_none p x k name arity cs hidden vs e =
    ap (λ o. if_some o
    (λ c. nested p (body (record { home = x; version = k; name = name; arity = arity; level = p.level + 1; bindings = c.0 }) (leaf (unbegun c.1))))
    (fails (codes "function_clause"))) e

-- this one is chosen
pub entered_some : (p : Place) (x : ModuleTree) (k : ℕ) (name : List ℕ) (arity : ℕ) (cs : Clauses) (hidden : Pairs) (vs : List Datum) (level : ℕ) (bs : Pairs) (s : Seq)
    → level ≡ p.level → Some (bs, s) ≡ chosen p.me [] hidden cs vs
    → nested p (body (record { home = x; version = k; name = name; arity = arity; level = level + 1; bindings = bs }) (leaf (unbegun s))) ≡ entered p x k name arity cs hidden vs
entered_some p x k name arity cs hidden vs level bs s l e =
    ap (λ n. nested p (body (record { home = x; version = k; name = name; arity = arity; level = n + 1; bindings = bs }) (leaf (unbegun s)))) l
    ∙ ap (λ o. if_some o
    (λ c. nested p (body (record { home = x; version = k; name = name; arity = arity; level = p.level + 1; bindings = c.0 }) (leaf (unbegun c.1))))
    (fails (codes "function_clause"))) e
