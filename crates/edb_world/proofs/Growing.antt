-- A journal that grows by an entry of its turn stays legal and of one hand, and has the facts of one entry more.

use Rattle.std.proofs.Common.{◌≡◌, ◌<◌, ◌≤◌, Bool, true, false, List, [], ◌∷◌, ◌++◌, refl, sym, ◌∙◌, ap, subst, arith}
use Rattle.std.proofs.lemmas.Bool.{both_ways}
use Rattle.edb_event.specs.declared.entry.Entry.{Entry}
use Rattle.edb_event.specs.declared.entry.Entry.TheVariants as entry
use Rattle.edb_event.specs.Weights.{weight_of}
use Rattle.edb_rules.specs.Plans.{Plan}
use Rattle.edb_rules.specs.Facts.{Facts, at_first, debuggee_at}
use Rattle.edb_rules.specs.Notes.{note, after}
use Rattle.edb_rules.specs.Ranks.{NoLease}
use Rattle.edb_rules.specs.Legal.{May, MayAlone, JudgedFrom}
use Rattle.edb_rules.proofs.Journals.{after_push, legal_push}
use Rattle.edb_rules.proofs.Endings.{IsNoLease}
use Rattle.edb_rules.proofs.OneJournal.{none_new}
use Rattle.edb_world.specs.Worlds.{IsKept}

pub judged_push : (judge : Plan → Facts → Entry → Type 0) (plan : Plan) (f : Facts) (es : List Entry) (e : Entry)
    → JudgedFrom judge plan f es → judge plan (after plan f es) e → JudgedFrom judge plan f (es ++ e ∷ [])
judged_push judge plan f [] e l m = (m, tt)
judged_push judge plan f (d ∷ es) e l m = (l.0, judged_push judge plan (note plan f d) es e l.1 m)

pub grown : (plan : Plan) (journal : List Entry) (f : Facts) (e : Entry) → IsKept plan journal f → May plan f e → MayAlone plan f e
    → IsKept plan (journal ++ e ∷ []) (note plan f e)
grown plan journal f e k may alone =
    record {
      legal = legal_push plan (at_first plan) journal e k.legal (subst (λ (g : Facts). May plan g e) (sym k.facts) may);
      one_hand = judged_push MayAlone plan (at_first plan) journal e k.one_hand (subst (λ (g : Facts). MayAlone plan g e) (sym k.facts) alone);
      facts = after_push plan (at_first plan) journal e ∙ ap (λ (g : Facts). note plan g e) k.facts;
    }

-- each entry weighs something
pub weighs : (e : Entry) → 1 ≤ weight_of e
weighs (entry.Start c p m n args) = omega arith
weighs (entry.Load c m v) = omega arith
weighs (entry.Skip con who) = omega arith
weighs (entry.Kill con who) = omega arith
weighs (entry.Expire con who) = omega arith
weighs (entry.Lease p b) = omega arith
weighs (entry.Ran p n c) = omega arith
weighs (entry.Ask p k) = omega arith
weighs (entry.Did p k v bytes) = omega arith
weighs (entry.Took p) = omega arith
weighs (entry.Forward p) = omega arith
weighs (entry.Leave p) = omega arith
weighs (entry.Enter p m n a) = omega arith
weighs (entry.Signal p r) = omega arith
weighs (entry.Advance t) = omega arith
weighs (entry.Stop p m l n by) = omega arith
weighs (entry.Trigger p m l s a applied) = omega arith
weighs (entry.Served c x r) = omega arith

pub heavier : (plan : Plan) (f : Facts) (e : Entry) → f.weight < (note plan f e).weight
heavier plan f e = omega (arith, weighs e)

-- what isn't true is false
pub is_false : (b : Bool) → (b ≡ true → ⊥) → b ≡ false
is_false true denied = absurd (denied refl)
is_false false denied = refl

pub free_after : (plan : Plan) (f : Facts) (e : Entry) → NoLease f → May plan f e → IsNoLease e → NoLease (note plan f e)
free_after plan f e none may other q = is_false (debuggee_at (note plan f e) q).is_out (λ o. both_ways _ (none q) (none_new plan f e may other q o))
