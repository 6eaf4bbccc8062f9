-- Stacks of pairs behind one another.

use Rattle.std.proofs.Common.{◌≡◌, refl, ap, sym, ◌∙◌, List, [], ◌∷◌, ◌++◌}
use Rattle.edb_lang.specs.declared.term.Captured.{Captured}
use Rattle.edb_lang.specs.Pairs.{Pairs}
use Rattle.edb_match.specs.Newest.{newest_first}

newest_first-behind : (cs : List Captured) (ps qs : Pairs) → newest_first cs (ps ++ qs) ≡ newest_first cs ps ++ qs
newest_first-behind [] ps qs = refl
newest_first-behind (c ∷ cs) ps qs = newest_first-behind cs ((c.name, c.value) ∷ ps) qs

-- what stands behind a stack may as well stand behind all
pub stack_behind : (new sees : List Captured) (hidden : Pairs) → newest_first new (newest_first sees []) ++ hidden ≡ newest_first new (newest_first sees hidden)
stack_behind new sees hidden =
    sym (newest_first-behind new (newest_first sees []) hidden) ∙ ap (newest_first new) (sym (newest_first-behind sees [] hidden))

-- pairs that come later are newer
pub stack_joined : (cs ds : List Captured) (bs : Pairs) → newest_first (cs ++ ds) bs ≡ newest_first ds (newest_first cs bs)
stack_joined [] ds bs = refl
stack_joined (c ∷ cs) ds bs = stack_joined cs ds ((c.name, c.value) ∷ bs)
