-- `next` is the act Print exactly where something prints.

use Rattle.std.proofs.Common.{◌≡◌, ℕ, suc, Bool, true, false, if◌then◌else◌, ◌&&◌, ◌||◌, ◌==◌, List, [], ◌∷◌, length, None, Some, is_some, codes, bytes_eq, refl, arith}
use Rattle.std.proofs.lemmas.Bool.{ne_eqb}
use Rattle.edb_lang.specs.Terms as term
use Rattle.edb_lang.specs.Terms.{Datum}
use Rattle.edb_moves.specs.Next.{prints}
use Rattle.edb_printing.specs.Printing.{Printed, displayed, formatted, printed_by}

-- the names that are asked for, with no argument or more than two, with one, and with two
of_others : (a b c d : Bool) → ((a && (b && false)) || ((c && (d && false)) || (c && (d && false)))) ≡ false
of_others true true true true = refl
of_others true true true false = refl
of_others true true false true = refl
of_others true true false false = refl
of_others true false true true = refl
of_others true false true false = refl
of_others true false false true = refl
of_others true false false false = refl
of_others false true true true = refl
of_others false true true false = refl
of_others false true false true = refl
of_others false true false false = refl
of_others false false true true = refl
of_others false false true false = refl
of_others false false false true = refl
of_others false false false false = refl

of_one : (a b c d : Bool) (x y : Printed)
    → ((a && (b && true)) || ((c && (d && true)) || (c && (d && false)))) ≡ is_some (if a && (b && true) then Some x else if c && (d && true) then Some y else None)
of_one true true true true x y = refl
of_one true true true false x y = refl
of_one true true false true x y = refl
of_one true true false false x y = refl
of_one true false true true x y = refl
of_one true false true false x y = refl
of_one true false false true x y = refl
of_one true false false false x y = refl
of_one false true true true x y = refl
of_one false true true false x y = refl
of_one false true false true x y = refl
of_one false true false false x y = refl
of_one false false true true x y = refl
of_one false false true false x y = refl
of_one false false false true x y = refl
of_one false false false false x y = refl

of_two : (a b c d : Bool) (x : Printed) → ((a && (b && false)) || ((c && (d && false)) || (c && (d && true)))) ≡ is_some (if c && (d && true) then Some x else None)
of_two true true true true x = refl
of_two true true true false x = refl
of_two true true false true x = refl
of_two true true false false x = refl
of_two true false true true x = refl
of_two true false true false x = refl
of_two true false false true x = refl
of_two true false false false x = refl
of_two false true true true x = refl
of_two false true true false x = refl
of_two false true false true x = refl
of_two false true false false x = refl
of_two false false true true x = refl
of_two false false true false x = refl
of_two false false false true x = refl
of_two false false false false x = refl

pub prints_exactly : (m f : List ℕ) (vs : List Datum) → prints (m, (f, length vs)) ≡ is_some (printed_by (m, (f, length vs)) vs)
prints_exactly m f [] = of_others (bytes_eq m (codes "erlang")) (bytes_eq f (codes "display")) (bytes_eq m (codes "io")) (bytes_eq f (codes "format"))
prints_exactly m f (v ∷ []) =
    of_one (bytes_eq m (codes "erlang")) (bytes_eq f (codes "display")) (bytes_eq m (codes "io")) (bytes_eq f (codes "format")) (displayed v) (formatted v term.nil)
prints_exactly m f (v ∷ (w ∷ [])) =
    of_two (bytes_eq m (codes "erlang")) (bytes_eq f (codes "display")) (bytes_eq m (codes "io")) (bytes_eq f (codes "format")) (formatted v w)
prints_exactly m f (v ∷ (w ∷ (x ∷ vs))) =
    let one : (suc (suc (suc (length vs))) == 1) ≡ false = ne_eqb (suc (suc (suc (length vs)))) 1 (omega arith) in
    let two : (suc (suc (suc (length vs))) == 2) ≡ false = ne_eqb (suc (suc (suc (length vs)))) 2 (omega arith) in
    rw (one, two) (of_others (bytes_eq m (codes "erlang")) (bytes_eq f (codes "display")) (bytes_eq m (codes "io")) (bytes_eq f (codes "format")))
