-- Two ways to say it: pairs that stand the newest last, the newest first in front of others.

use Rattle.std.proofs.Common.{◌≡◌, List, [], ◌∷◌, ◌++◌, refl, ap, sym, ◌∙◌, append_assoc}
use Rattle.std.proofs.lemmas.List.{reverse-append}
use Rattle.edb_lang.specs.declared.term.Captured.{Captured}
use Rattle.edb_lang.specs.Pairs.{Pairs}
use Rattle.edb_lang.specs.TermViews.{pairs_of}
use Rattle.edb_match.specs.Newest as match
use Rattle.edb_variables.specs.PairStacks.{newest_first}

pub newest_first_same : (cs : List Captured) (bs : Pairs) → match.newest_first cs bs ≡ newest_first cs ++ bs
newest_first_same [] bs = refl
newest_first_same (c ∷ cs) bs =
    newest_first_same cs ((c.name, c.value) ∷ bs)
    ∙ sym (append_assoc (newest_first cs) ((c.name, c.value) ∷ []) bs)
    ∙ ap (λ ps. ps ++ bs) (sym (reverse-append ((c.name, c.value) ∷ []) (pairs_of cs)))
