-- Patterns, as plain trees. The number that stands first in a node is the line of its first token.

use Rattle.std.specs.Prelude.{ℕ, ℤ, ◌+◌, List, [], ◌∷◌}

mutual
  pub data Pat : Type 0 where
    -- an integer, also one behind `-`, or a character, which stands for its code point
    int : ℕ → ℤ → Pat
    -- an atom
    atom : ℕ → List ℕ → Pat
    -- a string, as its code points
    string : ℕ → List ℕ → Pat
    -- a variable by its name, which isn't `_`
    variable : ℕ → List ℕ → Pat
    -- `_`
    any : ℕ → Pat
    -- `{P, Q}`
    tuple : ℕ → Pats → Pat
    -- `[P, Q]`
    list : ℕ → Pats → Pat
    -- `[P, Q | T]`: the elements, and the tail
    list_with_tail : ℕ → Pats → Pat → Pat
    -- `P = Q`
    both : ℕ → Pat → Pat → Pat

  -- patterns one behind the other
  pub data Pats : Type 0 where
    none : Pats
    more : Pat → Pats → Pats

-- the line of a pattern's first token
abbrev pub pattern_line : Pat → ℕ
pattern_line (int l i) = l
pattern_line (atom l a) = l
pattern_line (string l s) = l
pattern_line (variable l x) = l
pattern_line (any l) = l
pattern_line (tuple l ps) = l
pattern_line (list l ps) = l
pattern_line (list_with_tail l ps t) = l
pattern_line (both l p q) = l

-- the patterns of a list
abbrev pub pats_of : List Pat → Pats
pats_of [] = none
pats_of (p ∷ ps) = more p (pats_of ps)

-- how many there are
abbrev pub pats_count : Pats → ℕ
pats_count none = 0
pats_count (more p ps) = pats_count ps + 1
