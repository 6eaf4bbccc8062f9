-- Lists of names as the code has them: parts of what contracts see are parts of what the code has.

use Rattle.std.specs.Prelude.{ℕ, List, take, drop}
use denote.Bor.{Bor}
use Rattle.std.proofs.Common.{◌≡◌, sym, ap, ◌∙◌}
use Rattle.std.proofs.lemmas.List.{take-map, drop-map}
use Rattle.edb_check.specs.Views.{names_of}

pub views_take : (ns : List (Bor (List ℕ))) (n : ℕ) (xs : List (List ℕ)) → names_of ns ≡ xs → names_of (take n ns) ≡ take n xs
views_take ns n xs is = sym (take-map (λ m. m.now) n ns) ∙ ap (take n) is

pub views_drop : (ns : List (Bor (List ℕ))) (n : ℕ) (xs : List (List ℕ)) → names_of ns ≡ xs → names_of (drop n ns) ≡ drop n xs
views_drop ns n xs is = sym (drop-map (λ m. m.now) n ns) ∙ ap (drop n) is

pub ruleset views = (views_take, views_drop)
