-- Patterns: a variable that isn't bound yet is bound, from left to right; one that is bound is matched.

use Rattle.std.specs.Prelude.{ℕ, Option, None, Some, if◌then◌else◌, List, [], ◌∷◌, ◌++◌}
use Rattle.edb_syntax.specs.Patterns.{Pat, Pats, int, atom, string, variable, any, tuple, list, list_with_tail, both, none, more}
use Rattle.edb_check.specs.declared.fault.CheckFault.{CheckFault}
use Rattle.edb_check.specs.declared.fault.CheckKind.TheVariants.{Unsafe}
use Rattle.edb_check.specs.declared.status.Status.{Status}
use Rattle.edb_check.specs.declared.status.Status.TheVariants.{Sure, Partly}
use Rattle.edb_check.specs.Faults.{fault}
use Rattle.edb_check.specs.Scopes.{Scope, sure, lookup, has}

-- what a pattern newly binds in a scope
abbrev mutual
  pub pattern_binds : Scope → Pat → Scope
  pattern_binds bs (int l i) = []
  pattern_binds bs (atom l a) = []
  pattern_binds bs (string l s) = []
  pattern_binds bs (variable l x) = if has x bs then [] else sure x ∷ []
  pattern_binds bs (any l) = []
  pattern_binds bs (tuple l ps) = patterns_binds bs ps
  pattern_binds bs (list l ps) = patterns_binds bs ps
  pattern_binds bs (list_with_tail l ps t) = patterns_binds bs ps ++ pattern_binds (bs ++ patterns_binds bs ps) t
  pattern_binds bs (both l p q) = pattern_binds bs p ++ pattern_binds (bs ++ pattern_binds bs p) q

  pub patterns_binds : Scope → Pats → Scope
  patterns_binds bs none = []
  patterns_binds bs (more p ps) = pattern_binds bs p ++ patterns_binds (bs ++ pattern_binds bs p) ps

-- the names of a pattern's variables
abbrev mutual
  pub pattern_names : Pat → List (List ℕ)
  pattern_names (int l i) = []
  pattern_names (atom l a) = []
  pattern_names (string l s) = []
  pattern_names (variable l x) = x ∷ []
  pattern_names (any l) = []
  pattern_names (tuple l ps) = patterns_names ps
  pattern_names (list l ps) = patterns_names ps
  pattern_names (list_with_tail l ps t) = patterns_names ps ++ pattern_names t
  pattern_names (both l p q) = pattern_names p ++ pattern_names q

  pub patterns_names : Pats → List (List ℕ)
  patterns_names none = []
  patterns_names (more p ps) = pattern_names p ++ patterns_names ps

-- a variable that is bound on some ways alone is not to be matched
abbrev pub matched : ℕ → Option Status → List CheckFault
matched l None = []
matched l (Some Sure) = []
matched l (Some Partly) = fault l Unsafe

-- the faults of a pattern
abbrev mutual
  pub pattern_faults : Scope → Pat → List CheckFault
  pattern_faults bs (int l i) = []
  pattern_faults bs (atom l a) = []
  pattern_faults bs (string l s) = []
  pattern_faults bs (variable l x) = matched l (lookup x bs)
  pattern_faults bs (any l) = []
  pattern_faults bs (tuple l ps) = patterns_faults bs ps
  pattern_faults bs (list l ps) = patterns_faults bs ps
  pattern_faults bs (list_with_tail l ps t) = patterns_faults bs ps ++ pattern_faults (bs ++ patterns_binds bs ps) t
  pattern_faults bs (both l p q) = pattern_faults bs p ++ pattern_faults (bs ++ pattern_binds bs p) q

  pub patterns_faults : Scope → Pats → List CheckFault
  patterns_faults bs none = []
  patterns_faults bs (more p ps) = pattern_faults bs p ++ patterns_faults (bs ++ pattern_binds bs p) ps
