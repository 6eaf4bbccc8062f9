-- The bytes of white space and of names.
use Rattle.std.specs.Prelude.{ℕ, Bool, ◌||◌, ◌==◌}
use Rattle.std.specs.Int.{is_in_range}

-- white space: space, tab, carriage return, newline and form feed
abbrev pub is_space : ℕ → Bool
is_space c = c == 32 || c == 9 || c == 13 || c == 10 || c == 12

abbrev pub is_decimal : ℕ → Bool
is_decimal c = is_in_range 48 57 c

abbrev pub is_lower : ℕ → Bool
is_lower c = is_in_range 97 122 c

-- an upper-case letter or `_`
abbrev pub is_upper : ℕ → Bool
is_upper c = is_in_range 65 90 c || c == 95

-- what can follow the first character of a bare name: letters, digits, `_` and `@`
abbrev pub is_name_char : ℕ → Bool
is_name_char c = is_lower c || is_upper c || is_decimal c || c == 64
