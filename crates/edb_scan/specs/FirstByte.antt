-- The class of a byte: what can begin with it.
use Rattle.std.specs.Prelude.{◌≡◌, ℕ, cond, ◌==◌, List, [], ◌∷◌}
use Rattle.edb_scan.specs.Letters.{is_space, is_decimal, is_lower, is_upper}
use Rattle.edb_scan.specs.declared.classes.Class.{Class}
use Rattle.edb_scan.specs.declared.classes.Class.TheVariants.{Space, Percent, Digit, Lower, Upper, Quote, Tick, Dollar, Other}

-- the class of a first byte
unfoldable pub class_of : ℕ → Class
class_of c =
    cond (is_space c) Space
    (cond (c == 37) Percent
    (cond (is_decimal c) Digit
    (cond (is_lower c) Lower
    (cond (is_upper c) Upper
    (cond (c == 34) Quote
    (cond (c == 39) Tick
    (cond (c == 36) Dollar Other)))))))

-- the text begins with a byte of this class
abbrev pub Heads : Class → List ℕ → Type 0
Heads class [] = ⊥
Heads class (c ∷ cs) = class_of c ≡ class
