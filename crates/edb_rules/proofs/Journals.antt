-- A journal that grows by one entry, and what is left of it without the debugger.

use Rattle.std.proofs.Common.{◌≡◌, List, [], ◌∷◌, ◌++◌, Option, None, Some, refl, sym, ◌∙◌, ap, unwrap_or}
use Rattle.std.specs.Option.{option_and_then}
use Rattle.edb_lang.specs.Syntax.{ModuleTree}
use Rattle.edb_model.specs.Plain.{Plain}
use Rattle.edb_model.specs.Labels.{Label, step, steps, IsPlainRun}
use Rattle.edb_event.specs.declared.entry.Entry.{Entry}
use Rattle.edb_rules.specs.Erasure.{labels_of, erase}
use Rattle.edb_rules.specs.Plans.{Plan}
use Rattle.edb_rules.specs.Facts.{Facts, at_first}
use Rattle.edb_rules.specs.Notes.{note, after, facts}
use Rattle.edb_rules.specs.Legal.{May, LegalFrom, Legal}

pub after_push : (plan : Plan) (f : Facts) (es : List Entry) (e : Entry) → after plan f (es ++ e ∷ []) ≡ note plan (after plan f es) e
after_push plan f [] e = refl
after_push plan f (d ∷ es) e = after_push plan (note plan f d) es e

pub legal_push : (plan : Plan) (f : Facts) (es : List Entry) (e : Entry) → LegalFrom plan f es → May plan (after plan f es) e → LegalFrom plan f (es ++ e ∷ [])
legal_push plan f [] e l m = (m, tt)
legal_push plan f (d ∷ es) e l m = (l.0, legal_push plan (note plan f d) es e l.1 m)

-- what follows a step that was made
onward : (code : List ModuleTree) (t : Plain) (ls ms : List Label) (o : Option Plain)
    → ((u : Plain) → steps code u ls ≡ Some t → steps code u (ls ++ ms) ≡ steps code t ms)
    → option_and_then (λ (u : Plain). steps code u ls) o ≡ Some t
    → option_and_then (λ (u : Plain). steps code u (ls ++ ms)) o ≡ steps code t ms
onward code t ls ms None go e = absurd (cc)
onward code t ls ms (Some u) go e = go u e

-- labels one list after the other
pub steps_append : (code : List ModuleTree) (s t : Plain) (ls ms : List Label) → steps code s ls ≡ Some t → steps code s (ls ++ ms) ≡ steps code t ms
steps_append code s t [] ms h = ap (λ (o : Option Plain). option_and_then (λ (u : Plain). steps code u ms) o) h
steps_append code s t (l ∷ ls) ms h = onward code t ls ms (step code s l) (λ u e. steps_append code u t ls ms e) h

-- a legal journal without the debugger's entries is a plain run to the plain state of its facts
pub erased_from : (plan : Plan) (f : Facts) (es : List Entry) → LegalFrom plan f es → steps plan.code f.plain (erase es) ≡ Some (after plan f es).plain
erased_from plan f [] l = refl
erased_from plan f (e ∷ es) l =
    let is : (note plan f e).plain ≡ l.0.plain = ap (λ (o : Option Plain). unwrap_or o f.plain) l.0.enabled in
    steps_append plan.code f.plain l.0.plain (labels_of e) (erase es) l.0.enabled
    ∙ (ap (λ (s : Plain). steps plan.code s (erase es)) (sym is) ∙ erased_from plan (note plan f e) es l.1)

pub erased : (plan : Plan) (journal : List Entry) → Legal plan journal → IsPlainRun plan.code (erase journal) (facts plan journal).plain
erased plan journal l = erased_from plan (at_first plan) journal l
