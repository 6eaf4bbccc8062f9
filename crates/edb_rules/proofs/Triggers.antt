-- In a one-handed legal journal each Stop at a breakpoint is directly followed by its trigger.

use Rattle.std.proofs.Common.{◌≡◌, ◌⊎◌, inl, inr, ℕ, zero, suc, ◌+◌, Bool, true, false, List, [], ◌∷◌, length, Option, None, Some, take, refl, sym, ◌∙◌, ap, subst, arith}
use Rattle.std.specs.List.{slice_get}
use Rattle.std.specs.Option.{option_map}
use Rattle.std.proofs.lemmas.Bool.{both_ways}
use Rattle.std.proofs.lemmas.Option.{none-some, same_Some}
use Rattle.edb_lang.specs.declared.small.Action.{Action}
use Rattle.edb_lang.specs.declared.small.Action.TheVariants as action
use Rattle.edb_lang.specs.declared.small.Break.{Break}
use Rattle.edb_breaks.specs.Table.{has_row}
use Rattle.edb_event.specs.declared.entry.Cause.{Cause}
use Rattle.edb_event.specs.declared.entry.Cause.TheVariants as cause
use Rattle.edb_event.specs.declared.entry.Entry.{Entry}
use Rattle.edb_event.specs.declared.entry.Entry.TheVariants as entry
use Rattle.edb_rules.specs.Plans.{Plan}
use Rattle.edb_rules.specs.Facts.{OwedTrigger, Debuggee, Facts, at_first, debuggee_at}
use Rattle.edb_rules.specs.Slices.{row_among}
use Rattle.edb_rules.specs.Ranks.{NoLease}
use Rattle.edb_rules.specs.Orders.{order_of}
use Rattle.edb_rules.specs.Notes.{debuggee_with, owed_for, owed_by, behind_first, note, after, facts}
use Rattle.edb_rules.specs.Legal.{May, JudgedFrom, LegalFrom, Legal, MayAlone, IsOneHanded}
use Rattle.edb_rules.proofs.Entries.{may_at}
use Rattle.edb_rules.proofs.Between.{facts_next}
use Rattle.edb_rules.proofs.Kept.{no_load, no_advance}
use Rattle.edb_rules.proofs.Changes.{Changed, IsKept, each, changed_or, order_keeps, act_keeps}
use Rattle.edb_rules.proofs.OneJournal.{IsOneOut, none_new, out_step, first_out}
use Rattle.edb_rules.proofs.Fresh.{Keeps, keeps_step, first_keeps, IsLastStop, stop_last, ran_exact, last_stop}
use Rattle.edb_rules.proofs.Stops.{stop_due}
use Rattle.edb_rules.proofs.Halted.{stop_exact}
use Rattle.edb_rules.proofs.Rows.{known_at, taken_row, active_row}

-- no trigger is owed
abbrev NoOwed : Facts → Type 0
NoOwed f = (q : ℕ) → (debuggee_at f q).owed ≡ None

-- With one hand at most one lease is out, and none while something is to come; and then no trigger is owed.
record IsCalm (f : Facts) : Type 0 where
  pub keeps : Keeps f
  pub one : IsOneOut f
  pub ends : (d : Entry) (rest : List Entry) → f.coming ≡ d ∷ rest → NoLease f
  pub leased : (p : ℕ) → (debuggee_at f p).is_out ≡ true → NoOwed f
  pub clear : (d : Entry) (rest : List Entry) → f.coming ≡ d ∷ rest → NoOwed f

none_first : (es : List Entry) (d : Entry) (rest : List Entry) → es ≡ [] → es ≡ d ∷ rest → ⊥
none_first es d rest none is = let e : 0 ≡ suc (length rest) = ap (λ (xs : List Entry). length xs) (sym none ∙ is) in omega arith

nothing_ends : (g : Facts) → g.coming ≡ [] → (d : Entry) (rest : List Entry) → g.coming ≡ d ∷ rest → NoLease g
nothing_ends g none d rest is = absurd (none_first g.coming d rest none is)

off : (b : Bool) → (b ≡ true → ⊥) → b ≡ false
off true not = absurd (not refl)
off false not = refl

fewer_out : (f g : Facts) → NoLease f → ((q : ℕ) → (debuggee_at g q).is_out ≡ true → (debuggee_at f q).is_out ≡ true) → NoLease g
fewer_out f g none less q = off _ (λ e. both_ways _ (none q) (less q e))

-- the one lease that was out is no more
ran_out : (f g : Facts) (p : ℕ) → IsOneOut f → (debuggee_at f p).is_out ≡ true → (debuggee_at g p).is_out ≡ false
    → ((q : ℕ) → (debuggee_at g q).is_out ≡ true → (debuggee_at f q).is_out ≡ true) → NoLease g
ran_out f g p one was here less q = off _ (λ e.
    let same = one q p (less q e) was in
    both_ways _ here (subst (λ (n : ℕ). (debuggee_at g n).is_out ≡ true) same e))

ends_step : (plan : Plan) (f : Facts) (e : Entry) → IsCalm f → May plan f e
    → (d : Entry) (rest : List Entry) → (note plan f e).coming ≡ d ∷ rest → NoLease (note plan f e)
ends_step plan f (entry.Start c p m n args) calm may = nothing_ends (note plan f (entry.Start c p m n args)) may.rule.at.begin.whole
ends_step plan f (entry.Load c m v) calm may = absurd (no_load plan f c m v may)
ends_step plan f (entry.Skip c p) calm may = absurd may.rule
ends_step plan f (entry.Kill c p) calm may = absurd may.rule
ends_step plan f (entry.Expire c p) calm may = absurd may.rule
ends_step plan f (entry.Lease p b) calm may = nothing_ends (note plan f (entry.Lease p b)) may.rule.at.at.at.begin.whole
ends_step plan f (entry.Ran p n c) calm may = λ d rest is.
    ran_out f (note plan f (entry.Ran p n c)) p calm.one may.rule.out (ap (λ (x : Debuggee). x.is_out) (ran_exact plan f p n c calm.keeps.holds may))
    (none_new plan f (entry.Ran p n c) may tt)
ends_step plan f (entry.Ask p k) calm may = absurd may.rule
ends_step plan f (entry.Did p k v bytes) calm may = nothing_ends (note plan f (entry.Did p k v bytes)) may.rule.at.at.at.begin.whole
ends_step plan f (entry.Took p) calm may = absurd may.rule
ends_step plan f (entry.Forward p) calm may = absurd may.rule
ends_step plan f (entry.Leave p) calm may = λ d rest is.
    fewer_out f (note plan f (entry.Leave p)) (calm.ends _ _ may.rule.1) (none_new plan f (entry.Leave p) may tt)
ends_step plan f (entry.Enter p m n b) calm may = λ d rest is.
    fewer_out f (note plan f (entry.Enter p m n b)) (calm.ends _ _ may.rule.1) (none_new plan f (entry.Enter p m n b) may tt)
ends_step plan f (entry.Signal p r) calm may = absurd may.rule
ends_step plan f (entry.Advance t) calm may = absurd (no_advance plan f t may)
ends_step plan f (entry.Stop p m l n by) calm may = λ d rest is.
    fewer_out f (note plan f (entry.Stop p m l n by)) (calm.ends _ _ may.rule.1) (none_new plan f (entry.Stop p m l n by) may tt)
ends_step plan f (entry.Trigger p m l s a applied) calm may = nothing_ends (note plan f (entry.Trigger p m l s a applied)) may.rule.begin.whole
ends_step plan f (entry.Served c x r) calm may = nothing_ends (note plan f (entry.Served c x r)) (elim may.rule.answer [
  | inl a ↦ a.at.begin.whole
  | inr q ↦ q.at.at.at.at.at.begin.whole
])

-- an entry that is neither a Stop nor a Trigger leaves what is owed
abbrev IsPlainEntry : Entry → Type 0
IsPlainEntry (entry.Stop p m l n by) = ⊥
IsPlainEntry (entry.Trigger p m l s a applied) = ⊥
IsPlainEntry _ = Unit {0}

owed_with : (f : Facts) (e : Entry) (d : Debuggee) → IsPlainEntry e → (debuggee_with f e d).owed ≡ d.owed
owed_with f (entry.Stop p m l n by) d plain = absurd plain
owed_with f (entry.Trigger p m l s a applied) d plain = absurd plain
owed_with f (entry.Did p k v bytes) d plain = act_keeps (λ (x : Debuggee). x.owed) (λ x b. refl) (λ x. refl) k d
owed_with f (entry.Served c x r) d plain = order_keeps (λ (y : Debuggee). y.owed) (λ y m. refl) (λ y m. refl) (order_of f.plain x) d
owed_with f (entry.Signal p (Some r)) d plain = refl
owed_with f (entry.Signal p None) d plain = refl
owed_with f _ d plain = refl

still_clear : (plan : Plan) (f : Facts) (e : Entry) → IsPlainEntry e → NoOwed f → NoOwed (note plan f e)
still_clear plan f e plain none q =
    sym (each (λ (d x : Debuggee). d.owed ≡ x.owed) (λ d. refl) (λ d. refl) plan f e q (λ same. sym (owed_with f e (debuggee_at f q) plain))) ∙ none q

-- behind an entry that may stand while no lease is out none is out, unless it is a lease; a lease stands where nothing is owed
leased_step : (plan : Plan) (f : Facts) (e : Entry) → IsCalm f → May plan f e → MayAlone plan f e → (p : ℕ) → (debuggee_at (note plan f e) p).is_out ≡ true → NoOwed (note plan f e)
leased_step plan f (entry.Lease q b) calm may alone p out = still_clear plan f (entry.Lease q b) tt may.rule.at.at.at.no_trigger
leased_step plan f (entry.Start c q m n args) calm may alone p out = absurd (both_ways _ (alone p) (none_new plan f (entry.Start c q m n args) may tt p out))
leased_step plan f (entry.Load c m v) calm may alone p out = absurd (no_load plan f c m v may)
leased_step plan f (entry.Skip c q) calm may alone p out = absurd may.rule
leased_step plan f (entry.Kill c q) calm may alone p out = absurd may.rule
leased_step plan f (entry.Expire c q) calm may alone p out = absurd may.rule
leased_step plan f (entry.Ran q n c) calm may alone p out =
    still_clear plan f (entry.Ran q n c) tt (calm.leased p (none_new plan f (entry.Ran q n c) may tt p out))
leased_step plan f (entry.Ask q k) calm may alone p out = absurd may.rule
leased_step plan f (entry.Did q k v bytes) calm may alone p out = absurd (both_ways _ (alone p) (none_new plan f (entry.Did q k v bytes) may tt p out))
leased_step plan f (entry.Took q) calm may alone p out = absurd may.rule
leased_step plan f (entry.Forward q) calm may alone p out = absurd may.rule
leased_step plan f (entry.Leave q) calm may alone p out = absurd (both_ways _ (calm.ends _ _ may.rule.1 p) (none_new plan f (entry.Leave q) may tt p out))
leased_step plan f (entry.Enter q m n a) calm may alone p out = absurd (both_ways _ (calm.ends _ _ may.rule.1 p) (none_new plan f (entry.Enter q m n a) may tt p out))
leased_step plan f (entry.Signal q r) calm may alone p out = absurd may.rule
leased_step plan f (entry.Advance t) calm may alone p out = absurd (no_advance plan f t may)
leased_step plan f (entry.Stop q m l n by) calm may alone p out = absurd (both_ways _ (calm.ends _ _ may.rule.1 p) (none_new plan f (entry.Stop q m l n by) may tt p out))
leased_step plan f (entry.Trigger q m l s a applied) calm may alone p out = absurd (both_ways _ (alone p) (none_new plan f (entry.Trigger q m l s a applied) may tt p out))
leased_step plan f (entry.Served c x r) calm may alone p out = absurd (both_ways _ (alone p) (none_new plan f (entry.Served c x r) may tt p out))

nothing_clear : (g : Facts) → g.coming ≡ [] → (d : Entry) (rest : List Entry) → g.coming ≡ d ∷ rest → NoOwed g
nothing_clear g none d rest is = absurd (none_first g.coming d rest none is)

clear_step : (plan : Plan) (f : Facts) (e : Entry) → IsCalm f → May plan f e → (last : IsLastStop f e) → (d : Entry) (rest : List Entry) → (note plan f e).coming ≡ d ∷ rest → NoOwed (note plan f e)
clear_step plan f (entry.Start c p m n args) calm may last = nothing_clear (note plan f (entry.Start c p m n args)) may.rule.at.begin.whole
clear_step plan f (entry.Load c m v) calm may last = absurd (no_load plan f c m v may)
clear_step plan f (entry.Skip c p) calm may last = absurd may.rule
clear_step plan f (entry.Kill c p) calm may last = absurd may.rule
clear_step plan f (entry.Expire c p) calm may last = absurd may.rule
clear_step plan f (entry.Lease p b) calm may last = nothing_clear (note plan f (entry.Lease p b)) may.rule.at.at.at.begin.whole
clear_step plan f (entry.Ran p n c) calm may last = λ d rest is. still_clear plan f (entry.Ran p n c) tt (calm.leased p may.rule.out)
clear_step plan f (entry.Ask p k) calm may last = absurd may.rule
clear_step plan f (entry.Did p k v bytes) calm may last = nothing_clear (note plan f (entry.Did p k v bytes)) may.rule.at.at.at.begin.whole
clear_step plan f (entry.Took p) calm may last = absurd may.rule
clear_step plan f (entry.Forward p) calm may last = absurd may.rule
clear_step plan f (entry.Leave p) calm may last = λ d rest is. still_clear plan f (entry.Leave p) tt (calm.clear _ _ may.rule.1)
clear_step plan f (entry.Enter p m n b) calm may last = λ d rest is. still_clear plan f (entry.Enter p m n b) tt (calm.clear _ _ may.rule.1)
clear_step plan f (entry.Signal p r) calm may last = absurd may.rule
clear_step plan f (entry.Advance t) calm may last = absurd (no_advance plan f t may)
clear_step plan f (entry.Stop p m l n by) calm may last = nothing_clear (note plan f (entry.Stop p m l n by)) (ap behind_first last)
clear_step plan f (entry.Trigger p m l s a applied) calm may last = nothing_clear (note plan f (entry.Trigger p m l s a applied)) may.rule.begin.whole
clear_step plan f (entry.Served c x r) calm may last = nothing_clear (note plan f (entry.Served c x r)) (elim may.rule.answer [
  | inl a ↦ a.at.begin.whole
  | inr q ↦ q.at.at.at.at.at.begin.whole
])

calm_step : (plan : Plan) (f : Facts) (e : Entry) → IsCalm f → May plan f e → MayAlone plan f e → IsCalm (note plan f e)
calm_step plan f e calm may alone = record {
  keeps = keeps_step plan f e calm.keeps may;
  leased = leased_step plan f e calm may alone;
  clear = clear_step plan f e calm may (stop_last plan f e calm.keeps may);
  one = out_step plan f e calm.one may alone;
  ends = ends_step plan f e calm may;
}

calm_from : (plan : Plan) (f : Facts) (es : List Entry) (k : ℕ) → IsCalm f → LegalFrom plan f es → JudgedFrom MayAlone plan f es → IsCalm (after plan f (take k es))
calm_from plan f [] zero calm legal alone = calm
calm_from plan f [] (suc k) calm legal alone = calm
calm_from plan f (e ∷ es) zero calm legal alone = calm
calm_from plan f (e ∷ es) (suc k) calm legal alone = calm_from plan (note plan f e) es k (calm_step plan f e calm legal.0 alone.0) legal.1 alone.1

first_owed : (plan : Plan) → NoOwed (at_first plan)
first_owed plan zero = refl
first_owed plan (suc n) = refl

first_calm : (plan : Plan) → IsCalm (at_first plan)
first_calm plan = record {
  keeps = first_keeps plan;
  one = λ p q x y. absurd (both_ways _ (first_out plan p) x);
  ends = λ d rest is. first_out plan;
  leased = λ p out. first_owed plan;
  clear = λ d rest is. first_owed plan;
}

-- so none is out before a Stop, nor behind it
none_out : (plan : Plan) (journal : List Entry) (k : ℕ) → Legal plan journal → IsOneHanded plan journal
    → (d : Entry) (rest : List Entry) → (facts plan (take k journal)).coming ≡ d ∷ rest → NoLease (facts plan (take k journal))
none_out plan journal k legal alone =
    (calm_from plan (at_first plan) journal k
    (first_calm plan) legal alone).ends

-- and none is owed
none_owed : (plan : Plan) (journal : List Entry) (k : ℕ) → Legal plan journal → IsOneHanded plan journal
    → (d : Entry) (rest : List Entry) → (facts plan (take k journal)).coming ≡ d ∷ rest → NoOwed (facts plan (take k journal))
none_owed plan journal k legal alone = (calm_from plan (at_first plan) journal k (first_calm plan) legal alone).clear

-- A trigger of an `enable` is owed whose row the server has, and nothing else may stand.
record IsOwed (g : Facts) (p : ℕ) (m : List ℕ) (l serial : ℕ) : Type 0 where
  pub free : NoLease g
  pub whole : g.coming ≡ []
  pub owed : (debuggee_at g p).owed ≡ Some (record { home = m; line = l; serial = serial; action = action.Enable })
  pub has : has_row serial m l g.server.table ≡ true
  pub alone : (q : ℕ) (o : OwedTrigger) → (debuggee_at g q).owed ≡ Some o → q ≡ p

abbrev trigger_of : ℕ → OwedTrigger → Bool → Entry
trigger_of p o applied = entry.Trigger p o.home o.line o.serial o.action applied

its_trigger : (plan : Plan) (g : Facts) (p : ℕ) (m : List ℕ) (l serial : ℕ) (e : Entry) → IsOwed g p m l serial → May plan g e
    → e ≡ entry.Trigger p m l serial action.Enable true
its_trigger plan g p m l serial (entry.Start c q h n args) is may = absurd (none-some _ (sym (may.rule.at.no_trigger p) ∙ is.owed))
its_trigger plan g p m l serial (entry.Load c h v) is may = absurd (no_load plan g c h v may)
its_trigger plan g p m l serial (entry.Skip c q) is may = absurd may.rule
its_trigger plan g p m l serial (entry.Kill c q) is may = absurd may.rule
its_trigger plan g p m l serial (entry.Expire c q) is may = absurd may.rule
its_trigger plan g p m l serial (entry.Lease q b) is may = absurd (none-some _ (sym (may.rule.at.at.at.no_trigger p) ∙ is.owed))
its_trigger plan g p m l serial (entry.Ran q n c) is may = absurd (both_ways _ (is.free q) may.rule.out)
its_trigger plan g p m l serial (entry.Ask q k) is may = absurd may.rule
its_trigger plan g p m l serial (entry.Did q k v bytes) is may = absurd (none-some _ (sym (may.rule.at.at.at.no_trigger p) ∙ is.owed))
its_trigger plan g p m l serial (entry.Took q) is may = absurd may.rule
its_trigger plan g p m l serial (entry.Forward q) is may = absurd may.rule
its_trigger plan g p m l serial (entry.Leave q) is may = absurd (none_first g.coming _ _ is.whole may.rule.1)
its_trigger plan g p m l serial (entry.Enter q h n a) is may = absurd (none_first g.coming _ _ is.whole may.rule.1)
its_trigger plan g p m l serial (entry.Signal q r) is may = absurd may.rule
its_trigger plan g p m l serial (entry.Advance t) is may = absurd (no_advance plan g t may)
its_trigger plan g p m l serial (entry.Stop q h k n by) is may = absurd (none_first g.coming _ _ is.whole may.rule.1)
its_trigger plan g p m l serial (entry.Trigger q h k s a applied) is may =
    let process : q ≡ p = is.alone q _ may.rule.owed in
    let same = same_Some _ _ (sym may.rule.owed ∙ (ap (λ (n : ℕ). (debuggee_at g n).owed) process ∙ is.owed)) in
    let done : applied ≡ true = may.rule.done ∙ (ap (λ (o : OwedTrigger). has_row o.serial o.home o.line g.server.table) same ∙ is.has) in
    (λ i. trigger_of (process i) (same i) (done i))
its_trigger plan g p m l serial (entry.Served c x r) is may = absurd (elim may.rule.answer [
  | inl a ↦ none-some _ (sym (a.at.no_trigger p) ∙ is.owed)
  | inr q ↦ none-some _ (sym (q.at.at.at.at.at.no_trigger p) ∙ is.owed)
])

-- what the stop's row owes
owes : (d : Debuggee) (m : List ℕ) (l serial : ℕ) (b : Break) → row_among m l d.handout.rows ≡ Some b → b.trigger ≡ action.Enable
    → owed_by d.handout.rows m l (cause.Break serial) ≡ Some (record { home = m; line = l; serial = serial; action = action.Enable })
owes d m l serial b is enable =
    ap (option_map (owed_for m l serial)) is
    ∙ ap (λ (a : Action). Some (record { home = m; line = l; serial = serial; action = a })) enable

-- none is owed before an end of a slice, and a Stop owes one of its process alone
stop_alone : (plan : Plan) (f : Facts) (p : ℕ) (m : List ℕ) (l n : ℕ) (by : Cause) (q : ℕ) (o : OwedTrigger) → ((r : ℕ) → (debuggee_at f r).owed ≡ None)
    → (debuggee_at (note plan f (entry.Stop p m l n by)) q).owed ≡ Some o → q ≡ p
stop_alone plan f p m l n by q o none owed = of (changed_or plan f (entry.Stop p m l n by) q)
  where
    d : Debuggee
    d = debuggee_at (note plan f (entry.Stop p m l n by)) q

    of_kept : IsKept (debuggee_at f q) d → q ≡ p
    of_kept (inl is) = absurd (none-some o (sym (none q) ∙ (ap (λ (x : Debuggee). x.owed) (sym is) ∙ owed)))
    of_kept (inr is) = absurd (none-some o (sym (none q) ∙ (ap (λ (x : Debuggee). x.owed) (sym is) ∙ owed)))

    of : Changed f (entry.Stop p m l n by) q d → q ≡ p
    of (inl both) = sym both.0
    of (inr kept) = of_kept kept

owed_here : (plan : Plan) (journal : List Entry) (k p : ℕ) (m : List ℕ) (l n serial : ℕ) → Legal plan journal → IsOneHanded plan journal
    → slice_get journal k ≡ Some (entry.Stop p m l n (cause.Break serial)) → IsOwed (facts plan (take (suc k) journal)) p m l serial
owed_here plan journal k p m l n serial legal alone at =
    let stop = entry.Stop p m l n (cause.Break serial) in
    let f = facts plan (take k journal) in
    let last = last_stop plan journal k p m l n (cause.Break serial) legal at in
    let next : facts plan (take (suc k) journal) ≡ note plan f stop = facts_next plan journal k stop at in
    let is = stop_exact plan journal k p m l n (cause.Break serial) legal at in
    let due = stop_due plan journal k p m l n (cause.Break serial) legal at in
    let row = active_row (row_among m l (debuggee_at f p).handout.rows) due.breakpoint due.active in
    let both = taken_row f p m l due.breakpoint (known_at plan journal k legal) row in
    let may = may_at plan journal k stop legal at in
    record {
      free = subst NoLease (sym next) (fewer_out f (note plan f stop) (none_out plan journal k legal alone stop [] last) (none_new plan f stop may tt));
      whole = ap (λ (g : Facts). g.coming) next ∙ ap behind_first last;
      owed = ap (λ (d : Debuggee). d.owed) is ∙ owes (debuggee_at f p) m l serial due.breakpoint row both.0;
      has = ap (λ (g : Facts). has_row serial m l g.server.table) next ∙ subst (λ (s : ℕ). has_row s m l f.server.table ≡ true) due.same both.1;
      alone = λ q o owed. stop_alone plan f p m l n (cause.Break serial) q o (none_owed plan journal k legal alone stop [] last) (ap (λ (g : Facts). (debuggee_at g q).owed) (sym next) ∙ owed);
    }

-- the entry behind, where there is one
follows : (plan : Plan) (journal : List Entry) (p : ℕ) (m : List ℕ) (l serial j : ℕ) (o : Option Entry) → Legal plan journal
    → slice_get journal j ≡ o → IsOwed (facts plan (take j journal)) p m l serial
    → (slice_get journal j ≡ None) ⊎ (slice_get journal j ≡ Some (entry.Trigger p m l serial action.Enable true))
follows plan journal p m l serial j None legal is owed = inl is
follows plan journal p m l serial j (Some e) legal is owed =
    inr (is ∙ ap (λ (x : Entry). Some x) (its_trigger plan (facts plan (take j journal)) p m l serial e owed (may_at plan journal j e legal is)))

pub trigger_follows : (plan : Plan) (journal : List Entry) (k p : ℕ) (m : List ℕ) (l n serial : ℕ) → Legal plan journal → IsOneHanded plan journal
    → slice_get journal k ≡ Some (entry.Stop p m l n (cause.Break serial))
    → (slice_get journal (k + 1) ≡ None) ⊎ (slice_get journal (k + 1) ≡ Some (entry.Trigger p m l serial action.Enable true))
trigger_follows plan journal k p m l n serial legal alone at =
    let there = owed_here plan journal k p m l n serial legal alone at in
    let next : suc k ≡ k + 1 = omega arith in
    subst (λ (j : ℕ). (slice_get journal j ≡ None) ⊎ (slice_get journal j ≡ Some (entry.Trigger p m l serial action.Enable true))) next
    (follows plan journal p m l serial (suc k) (slice_get journal (suc k)) legal refl there)
