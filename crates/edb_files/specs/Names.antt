-- Which words name files.

use Rattle.std.specs.Prelude.{ℕ, Bool, false, ◌==◌, List, ◌∷◌}

-- a word of two or more characters that begins with `-` is an option's, and any other is a name
abbrev pub is_option : List ℕ → Bool
is_option (c ∷ (d ∷ cs)) = c == 45
is_option _ = false
