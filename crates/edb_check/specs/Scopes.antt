-- Scopes: which variables are bound at a place, and how surely. What is bound last stands last, and hides what was
-- bound before it under the same name.

use Rattle.std.specs.Prelude.{ℕ, Bool, true, false, ◌||◌, if◌then◌else◌, List, [], ◌∷◌, ◌++◌, map, Option, None, Some, is_some}
use Rattle.std.specs.List.{fold, list_all, list_any}
use Rattle.edb_lang.specs.TermText.{same_name}
use Rattle.edb_check.specs.declared.status.Status.{Status}
use Rattle.edb_check.specs.declared.status.Status.TheVariants.{Sure, Partly}

-- A variable's name, and whether it is bound on each way to the place, or only on some.
pub record Binding : Type 0 where
  pub name : List ℕ
  pub status : Status

abbrev pub Scope : Type 0
Scope = List Binding

abbrev pub sure : List ℕ → Binding
sure x = record { name = x; status = Sure }

abbrev pub partly : Binding → Binding
partly b = record { name = b.name; status = Partly }

-- the first answer, where there is one, else the second
abbrev pub first_of_two : Option Status → Option Status → Option Status
first_of_two (Some s) o = Some s
first_of_two None o = o

-- how a name is bound, if it is
abbrev pub lookup : List ℕ → Scope → Option Status
lookup x [] = None
lookup x (b ∷ bs) = first_of_two (lookup x bs) (if same_name b.name x then Some b.status else None)

abbrev pub has : List ℕ → Scope → Bool
has x bs = is_some (lookup x bs)

-- WHAT CLAUSES BIND, of which one is taken: each variable that any of them binds; surely where each of them binds it
-- surely, else partly.

-- bound surely on this way, and on the other too
abbrev pub both_ways : Status → Option Status → Status
both_ways Sure (Some Sure) = Sure
both_ways s o = Partly

-- a binding of one way, after the other way was looked at
abbrev pub weaken : Scope → Binding → Binding
weaken bs b = record { name = b.name; status = both_ways b.status (lookup b.name bs) }

-- what the second way alone binds
abbrev pub beyond : Scope → Scope → Scope
beyond old [] = []
beyond old (b ∷ bs) = if has b.name old then beyond old bs else partly b ∷ beyond old bs

-- what two ways bind
abbrev pub meet : Scope → Scope → Scope
meet old bs = map (weaken bs) old ++ beyond old bs

-- what several ways bind
abbrev pub join : List Scope → Scope
join [] = []
join (bs ∷ more) = fold meet bs more

-- How each way binds a name, told together: surely where each does so, and not at all where none does. That ways that
-- are joined bind a name so is a law.
abbrev pub is_sure : Option Status → Bool
is_sure None = false
is_sure (Some Sure) = true
is_sure (Some Partly) = false

abbrev pub together : List (Option Status) → Option Status
together os = if list_all is_sure os then Some Sure else if list_any is_some os then Some Partly else None

-- NAMES that parts of an expression share.

-- the names that a scope doesn't have
abbrev pub outer : Scope → List (List ℕ) → List (List ℕ)
outer bs [] = []
outer bs (x ∷ xs) = if has x bs then outer bs xs else x ∷ outer bs xs

-- whether some name is bound there
abbrev pub meets : Scope → List (List ℕ) → Bool
meets bs xs = list_any (λ x. has x bs) xs

-- An operand: what it newly binds, and the names that it has in common with its surroundings.
pub record Operand : Type 0 where
  pub binds : Scope
  pub names : List (List ℕ)

-- an operand has a name in common with others that bind this and have these names, and one side newly binds it
abbrev pub clashes : Scope → List (List ℕ) → Operand → Bool
clashes bs xs p = meets bs p.names || meets p.binds xs

-- two operands have a name in common that one of them newly binds
abbrev pub share : Operand → Operand → Bool
share p q = clashes p.binds p.names q

-- some two of the operands do
abbrev pub any_share : List Operand → Bool
any_share [] = false
any_share (p ∷ ps) = list_any (share p) ps || any_share ps
