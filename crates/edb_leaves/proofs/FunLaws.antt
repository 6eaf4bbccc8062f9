-- Funs that are made: how high and how large they are, and whose form they are of.

use Rattle.std.proofs.Common.{◌≡◌, ◌+◌, ◌&&◌, nat_le, max, Bool, true, false, ℕ, List, [], ◌∷◌, map, cond, Some, Ok, Err, is_ok, slice_get, codes, refl, ap, sym, ◌∙◌}
use Rattle.edb_lang.specs.declared.term.Captured.{Captured}
use Rattle.edb_lang.specs.declared.term.Limit.{Limit}
use Rattle.edb_lang.specs.Pairs.{Pairs, captures_of}
use Rattle.edb_lang.specs.Terms.{Datum, made, tuple, of_list, height, size, heights, sizes, captures_height, captures_size, is_within, most_high, most_large}
use Rattle.edb_lang.specs.TermViews.{captures_in}
use Rattle.edb_lang.specs.Limits.{limited}
use Rattle.edb_pure.specs.Answers.{system_limit}
use Rattle.edb_moves.specs.Going.{Place, turns}
use Rattle.edb_moves.specs.Moves.{made_in}
use Rattle.edb_moves.specs.Raises.{fails}
use Rattle.edb_moves.specs.Running.{value}
use Rattle.edb_moves.specs.Calls as calls
use Rattle.edb_syntax.specs.Syntax.{ModuleTree}

heights_same : (cs : List Captured) → captures_height (captures_in cs) ≡ heights (of_list (map (λ c. c.value) cs))
heights_same [] = refl
heights_same (c ∷ cs) = ap (max (height c.value)) (heights_same cs)

sizes_same : (cs : List Captured) → captures_size (captures_in cs) ≡ sizes (of_list (map (λ c. c.value) cs))
sizes_same [] = refl
sizes_same (c ∷ cs) = ap (λ s. size c.value + s) (sizes_same cs)

-- A FUN is as high and as large as the tuple of the values that it takes along
pub within_same : (m : List ℕ) (k i a : ℕ) (cs : List Captured) → is_within (tuple (of_list (map (λ c. c.value) cs))) ≡ is_within (made m k i a (captures_in cs))
within_same m k i a cs = sym (by_height ∙ by_size)
  where
    by_height : is_within (made m k i a (captures_in cs)) ≡ (nat_le (heights (of_list (map (λ c. c.value) cs)) + 1) most_high && nat_le (captures_size (captures_in cs) + 1) most_large)
    by_height = ap (λ h. nat_le (h + 1) most_high && nat_le (captures_size (captures_in cs) + 1) most_large) (heights_same cs)

    by_size : (nat_le (heights (of_list (map (λ c. c.value) cs)) + 1) most_high && nat_le (captures_size (captures_in cs) + 1) most_large) ≡ is_within (tuple (of_list (map (λ c. c.value) cs)))
    by_size = ap (λ s. nat_le (heights (of_list (map (λ c. c.value) cs)) + 1) most_high && nat_le (s + 1) most_large) (sizes_same cs)

is_made : (t : Datum) (b : Bool) → is_ok {E = Limit} (cond b (Ok t) (Err (record {}))) ≡ b
is_made t true = refl
is_made t false = refl

pub made_within : (t : Datum) → is_ok (limited t) ≡ is_within t
made_within t = is_made t (is_within t)

-- THE FORM is of the innermost module
made_here : (p : Place) (bs : List (ModuleTree × ℕ)) (x : ModuleTree) (k i n : ℕ) (along : Pairs) → slice_get bs 0 ≡ Some (x, k) → made_in p bs i n along ≡ calls.limited p (made x.name k i n (captures_of along))
made_here p [] x k i n along h = absurd (cc)
made_here p (b ∷ bs) x k i n along h =
    let e : b ≡ (x, k) = cc in
    ap (λ (c : ModuleTree × ℕ). calls.limited p (made c.0.name c.1 i n (captures_of along))) e

limit_passed : (p : Place) (t : Datum) (b : Bool) → b ≡ false → calls.answered p (cond b (Ok t) system_limit) ≡ fails (codes "system_limit")
limit_passed p t true e = absurd (cc)
limit_passed p t false e = refl

limit_kept : (p : Place) (t : Datum) (b : Bool) → b ≡ true → calls.answered p (cond b (Ok t) system_limit) ≡ turns p.bindings (value t)
limit_kept p t true e = refl
limit_kept p t false e = absurd (cc)

pub form_refused : (p : Place) (bs : List (ModuleTree × ℕ)) (x : ModuleTree) (k i n : ℕ) (along : Pairs) → slice_get bs 0 ≡ Some (x, k) → is_within (made x.name k i n (captures_of along)) ≡ false → fails (codes "system_limit") ≡ made_in p bs i n along
form_refused p bs x k i n along h e =
    let t : Datum = made x.name k i n (captures_of along) in
    sym (made_here p bs x k i n along h ∙ limit_passed p t (is_within t) e)

pub form_made : (p : Place) (bs : List (ModuleTree × ℕ)) (x : ModuleTree) (k i n : ℕ) (along : Pairs) → slice_get bs 0 ≡ Some (x, k) → is_within (made x.name k i n (captures_of along)) ≡ true → turns p.bindings (value (made x.name k i n (captures_of along))) ≡ made_in p bs i n along
form_made p bs x k i n along h e =
    let t : Datum = made x.name k i n (captures_of along) in
    sym (made_here p bs x k i n along h ∙ limit_kept p t (is_within t) e)
