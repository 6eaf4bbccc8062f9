-- A term is no higher than large.

use Rattle.std.proofs.Common.{◌≤◌, arith}
use Rattle.edb_lang.specs.Terms.{Datum, int, atom, reference, made, named, pid, tuple, nil, cons, Datums, none, more, Captures, uncaptured, captured, height, heights, captures_height, size, sizes, captures_size}

mutual
  pub height_le-size : (t : Datum) → height t ≤ size t
  height_le-size (int i) = omega arith
  height_le-size (atom a) = omega arith
  height_le-size (reference r) = omega arith
  height_le-size (made m v i a cs) = omega (arith, captures_height_le-size cs)
  height_le-size (named m f a) = omega arith
  height_le-size (pid p) = omega arith
  height_le-size (tuple ts) = omega (arith, heights_le-sizes ts)
  height_le-size nil = omega arith
  height_le-size (cons h t) = omega (arith, height_le-size h, height_le-size t)

  heights_le-sizes : (ts : Datums) → heights ts ≤ sizes ts
  heights_le-sizes none = omega arith
  heights_le-sizes (more t ts) = omega (arith, height_le-size t, heights_le-sizes ts)

  captures_height_le-size : (cs : Captures) → captures_height cs ≤ captures_size cs
  captures_height_le-size uncaptured = omega arith
  captures_height_le-size (captured x t cs) = omega (arith, height_le-size t, captures_height_le-size cs)
