-- Comprehensions: an opened comprehension is a scope round its qualifiers, which are worked from left to right. What the
-- last of them lets through gives a list of one element; a generator puts the lists of its elements together.

use Rattle.std.specs.Prelude.{if◌then◌else◌, List, [], ◌++◌, codes}
use Rattle.edb_lang.specs.Terms as term
use Rattle.edb_lang.specs.Terms.{Datum, is_within, elements}
use Rattle.edb_lang.specs.ListTerms.{list_of}
use Rattle.edb_syntax.specs.Syntax as syntax
use Rattle.edb_syntax.specs.Syntax.{Exp, Qualifiers}
use Rattle.edb_pure.specs.Truths.{truth_of}
use Rattle.edb_moves.specs.Running.{Drawing, collecting, drawing, generate, filter, gather, scope, Run, value, leaf, around, running}
use Rattle.edb_moves.specs.Matching.{matched}
use Rattle.edb_moves.specs.Going.{Place, Effect, turns, if_some}
use Rattle.edb_moves.specs.Raises.{fails, fails_with}

-- the list of an element's expression, with these qualifiers still to be worked
abbrev pub listed : Exp → Qualifiers → Run
listed e syntax.no_qualifiers = leaf (collecting e)
listed e (syntax.more_qualifiers (syntax.generator q x) qs) = around (generate q e qs) (running x)
listed e (syntax.more_qualifiers (syntax.filter x) qs) = around (filter e qs) (running x)

-- a generator that has gathered these elements too
abbrev pub with_more : Drawing → List Datum → Drawing
with_more d vs = record d { gathered = d.gathered ++ vs }

-- The next element of a generator, of whose list this is left. Where there is none, the list gathered; where the pattern
-- matches, which sees no bindings, so that its variables are fresh, what follows is worked in a scope of its own; an
-- element that it doesn't match is left out. What is left has to be a list.
abbrev pub drawn : Place → Drawing → Datum → Effect Run
drawn p d term.nil = turns p.bindings (value (list_of d.gathered term.nil))
drawn p d (term.cons h t) =
    if_some (matched d.pattern h [])
    (λ new. turns p.bindings (around (gather d t) (around (scope (new ++ p.bindings)) (listed d.element d.rest))))
    (turns p.bindings (leaf (drawing d t)))
drawn p d v = fails_with (codes "bad_generator") v

-- A generator's current part is this list: it is put behind what was gathered, within the limits of a term.
abbrev pub appended : Place → Drawing → Datum → Datum → Effect Run
appended p d rest v =
    let e : Drawing = with_more d (elements v) in
    if is_within (list_of e.gathered term.nil) then turns p.bindings (leaf (drawing e rest)) else fails (codes "system_limit")

-- a filter with this value
abbrev pub filtered : Place → Exp → Qualifiers → Datum → Effect Run
filtered p e qs v =
    if_some (truth_of v)
    (λ b. if b then turns p.bindings (listed e qs) else turns p.bindings (value term.nil))
    (fails_with (codes "bad_filter") v)
