-- What a search through a table of spellings answers.
use Rattle.std.specs.Prelude.{◌≡◌, ℕ, ◌≤◌, Bool, true, ◌&&◌, nat_le, List, [], ◌∷◌, ◌++◌, map, length}
use Rattle.std.specs.Borrow.{Bor}
use Rattle.std.specs.List.{list_all}
use Rattle.edb_scan.specs.declared.lexeme.Mark.{Mark}
use Rattle.edb_scan.specs.Spellings.{Lists}

-- the rows of a table that is borrowed
abbrev pub table_of : List (Bor (List ℕ) × Mark) → List (List ℕ × Mark)
table_of table = map (λ row. (row.0.now, row.1)) table

-- each text is no shorter than those after it
abbrev pub longest_first : List (List ℕ × Mark) → Bool
longest_first [] = true
longest_first (row ∷ rows) = list_all (λ other. nat_le (length other.0) (length row.0)) rows && longest_first rows

-- the longest row that begins the text
pub record LongestRow (rows : List (List ℕ × Mark)) (bytes after : List ℕ) (m : Mark) : Type 0 where
  pub text : List ℕ
  pub cut : bytes ≡ text ++ after
  pub listed : Lists rows text m
  pub longest : (other u : List ℕ) (n : Mark) → bytes ≡ other ++ u → Lists rows other n → length other ≤ length text
