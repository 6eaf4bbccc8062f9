-- How the fields of a line are parted: each comes after one space, and the line ends in a newline.

use Rattle.std.specs.Prelude.{◌≡◌, ℕ, Bool, true, false, ◌||◌, ◌==◌, List, [], ◌∷◌, ◌++◌, codes, refl}

-- these fields, each after a space, and the line's end
unfoldable pub fields : List (List ℕ) → List ℕ
fields [] = 10 ∷ []
fields (f ∷ fs) = 32 ∷ (f ++ fields fs)

-- whether a field ends here: a space or a newline comes next
abbrev pub ends : List ℕ → Bool
ends [] = false
ends (c ∷ cs) = c == 32 || c == 10

two_fields : codes "lease" ++ fields (codes "1" ∷ codes "100" ∷ []) ≡ codes "lease 1 100\n"
unfolding fields
two_fields = refl

no_fields : codes "line" ++ fields [] ≡ codes "line\n"
unfolding fields
no_fields = refl

ends_at_space : ends (codes " 100\n") ≡ true
ends_at_space = refl

ends_at_newline : ends (codes "\n") ≡ true
ends_at_newline = refl

goes_on_with_letter : ends (codes "a\n") ≡ false
goes_on_with_letter = refl

no_newline : ends [] ≡ false
no_newline = refl
