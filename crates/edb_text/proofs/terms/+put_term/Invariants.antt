use Rattle.std.proofs.Common.{◌≡◌, ◌++◌, drop}
use Rattle.edb_lang.specs.Terms.{of_list}
use Rattle.edb_lang.specs.TermText.{items_text}
use Rattle.edb_text.proofs.terms.+put_term.Given as goal

-- what was put and what is left are all
abbrev pub invariant-put_tuple-loop-item : goal.invariant-put_tuple-loop-item
invariant-put_tuple-loop-item l =
    l.out.items ++ items_text l.strings l.mark (of_list (drop l.item-index l.items)) ≡ l.fn.out.items ++ items_text l.strings 123 (of_list l.items)
