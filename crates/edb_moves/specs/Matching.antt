-- Matching: the bindings that a pattern and a term make. New pairs go in front of the old ones.

use Rattle.std.specs.Prelude.{ℕ, if◌then◌else◌, List, [], ◌∷◌, Option, None, Some}
use Rattle.std.specs.Option.{option_and_then}
use Rattle.edb_lang.specs.Terms as term
use Rattle.edb_lang.specs.Terms.{Datum}
use Rattle.edb_lang.specs.ListTerms.{string_of}
use Rattle.edb_lang.specs.Pairs.{Pairs, bound}
use Rattle.edb_syntax.specs.Patterns.{Pat, Pats, int, atom, string, variable, any, tuple, list, list_with_tail, both, none, more}
use Rattle.edb_pure.specs.Truths.{same_term}
use Rattle.edb_pure.specs.Tuples.{items_of}

-- a term that has to be this one binds nothing
abbrev pub if_same : Datum → Datum → Pairs → Option Pairs
if_same t v bs = if same_term t v then Some bs else None

-- a variable that has a value matches it, and another one takes the term
abbrev pub matched_variable : List ℕ → Datum → Pairs → Option Pairs
matched_variable x v bs = by (bound x bs)
  where
    by : Option Datum → Option Pairs
    by (Some w) = if_same w v bs
    by None = Some ((x, v) ∷ bs)

-- A literal matches itself, and a string its list; a tuple matches a tuple of its size, element by element; a list
-- matches a list cell by cell, and its tail what is left behind them, which is nil where no tail is written; both sides
-- of `P = Q` match. Parts go from left to right, and each sees what those before it bound.
abbrev mutual
  pub matched : Pat → Datum → Pairs → Option Pairs
  matched (int l i) v bs = if_same (term.int i) v bs
  matched (atom l a) v bs = if_same (term.atom a) v bs
  matched (string l s) v bs = if_same (string_of s) v bs
  matched (variable l x) v bs = matched_variable x v bs
  matched (any l) v bs = Some bs
  matched (tuple l ps) (term.tuple ts) bs = all_matched ps (items_of ts) bs
  matched (tuple l ps) _ bs = None
  matched (list l ps) v bs = option_and_then (λ r. if_same term.nil r.0 r.1) (cells_matched ps v bs)
  matched (list_with_tail l ps t) v bs = option_and_then (λ r. matched t r.0 r.1) (cells_matched ps v bs)
  matched (both l p q) v bs = option_and_then (λ cs. matched q v cs) (matched p v bs)

  -- patterns and terms one by one; there are as many of both
  pub all_matched : Pats → List Datum → Pairs → Option Pairs
  all_matched none [] bs = Some bs
  all_matched (more p ps) (v ∷ vs) bs = option_and_then (λ cs. all_matched ps vs cs) (matched p v bs)
  all_matched _ _ bs = None

  -- patterns and the first cells of a list: what is left of the list behind them, and the bindings
  pub cells_matched : Pats → Datum → Pairs → Option (Datum × Pairs)
  cells_matched none v bs = Some (v, bs)
  cells_matched (more p ps) (term.cons h t) bs = option_and_then (λ cs. cells_matched ps t cs) (matched p h bs)
  cells_matched (more p ps) _ bs = None
