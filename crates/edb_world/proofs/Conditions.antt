-- No condition is asked yet: no moves are made for one, and none holds.

use Rattle.std.proofs.Common.{◌≡◌, ℕ, zero, suc, List, Option, None, Some, refl, arith}
use Rattle.std.specs.Option.{option_map_or}
use Rattle.edb_lang.specs.declared.small.Break.{Break}
use Rattle.edb_lang.specs.Syntax.{ModuleTree}
use Rattle.edb_model.specs.Running.{Run}
use Rattle.edb_model.specs.Move.{Next, acts, begins, pure, next}
use Rattle.edb_rules.specs.Facts.{Handout}
use Rattle.edb_rules.specs.Slices.{asked_of, asked_before, asked_to, after_moves, row_tried}

free : (code : List ModuleTree) (h : Handout) (p : ℕ) (t : Run) (b : Break) → (asked_of code h p t b).moves ≡ 0
free code h p t b = by b.cond refl
  where
    by : (o : Option (List ℕ × List ℕ)) → b.cond ≡ o → (asked_of code h p t b).moves ≡ 0
    by None is = rw is refl
    by (Some c) is = rw is refl

tried : (code : List ModuleTree) (h : Handout) (p : ℕ) (t : Run) (o : Option Break) → option_map_or (λ (b : Break). (asked_of code h p t b).moves) o 0 ≡ 0
tried code h p t None = refl
tried code h p t (Some b) = free code h p t b

before : (code : List ModuleTree) (h : Handout) (p i : ℕ) (t : Run) (x : Next) → asked_before code h p i t x ≡ 0
before code h p i t (acts k) = refl
before code h p i t (begins m l) = tried code h p t (row_tried h i t m l)
before code h p i t pure = refl

pub none_asked : (code : List ModuleTree) (h : Handout) (p : ℕ) (t : Run) (n : ℕ) → asked_to code h p t n ≡ 0
none_asked code h p t zero = before code h p 0 t (next t)
none_asked code h p t (suc n) =
    let u = after_moves code h.versions (suc n) t in
    let so_far = none_asked code h p t n in
    let here = before code h p (suc n) u (next u) in
    omega (arith, so_far, here)
