use Rattle.std.proofs.Common.{◌∙◌, sym, ap, pos, map}
use Rattle.std.proofs.lemmas.Iterator.{YieldsList-from_chars}
use Rattle.std.proofs.lemmas.Iterator.Consumers.{YieldsList-end}
use Rattle.edb_lang.specs.Terms.{int}
use Rattle.edb_values.proofs.TextLemmas.{map_same}
use Rattle.edb_values.proofs.texts.characters.Goals as goal

-- src/texts.rt: all characters were read
pub returns : goal.returns
returns c =
    let all = YieldsList-end (YieldsList-from_chars c.args.text.now c.utf8.text cc) c.loop-c.yielded _ c.loop-c.yielded_by _ _ c.in-None.is c.next.ensures.steps in
    c.loop-c.invariant ∙ ap (λ cs. map (λ k. int (pos k)) cs) (sym (map_same c.loop-c.yielded) ∙ all.0)
