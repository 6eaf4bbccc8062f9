-- Numbers as commands write them.

use Rattle.std.specs.Prelude.{◌≡◌, ℕ, ◌≤◌, List, length}
use Rattle.std.specs.Str.Parse.{IsNumeral, digits_value}

-- the text is 1 to 7 decimal digits, and this is their number
pub record WritesNumber (text : List ℕ) (n : ℕ) : Type 0 where
  pub digits : IsNumeral 10 text
  pub short : length text ≤ 7
  pub value : n ≡ digits_value 10 text

-- a line of a source file: 1 to 999,999
pub record WritesLine (text : List ℕ) (n : ℕ) : Type 0 where
  pub number : WritesNumber text n
  pub low : 1 ≤ n
  pub high : n ≤ 999_999
