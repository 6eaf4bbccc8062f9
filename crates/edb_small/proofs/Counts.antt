-- How many expressions there are, and that each has a depth.

use Rattle.std.proofs.Common.{◌≡◌, ◌<◌, List, [], ◌∷◌, length, refl, arith}
use Rattle.edb_lang.specs.Syntax.{Exp, exps_of}
use Rattle.edb_lang.specs.Syntax as syntax
use Rattle.edb_small.specs.Conditions.{count_of, depth}

pub count-exps : (es : List Exp) → count_of (exps_of es) ≡ length es
count-exps [] = refl
count-exps (e ∷ es) = omega (arith, count-exps es)

pub depth_some : (e : Exp) → 0 < depth e
depth_some (syntax.int l i) = omega arith
depth_some (syntax.atom l a) = omega arith
depth_some (syntax.variable l y) = omega arith
depth_some (syntax.match l p e) = omega arith
depth_some (syntax.binary l op a b) = omega arith
depth_some (syntax.call l f es) = omega arith
depth_some (syntax.remote l m f es) = omega arith

pub ruleset counts = (count-exps, depth_some)
