-- A console's own processes after a legal journal are told by the journal's entries.

use Rattle.std.proofs.Common.{◌≡◌, ℕ, zero, suc, Bool, true, false, if◌then◌else◌, nat_eq, List, [], ◌∷◌, ◌++◌, Option, None, Some, length, replicate, slice_index_or, refl, sym, ◌∙◌, ap, subst}
use Rattle.std.specs.List.{fold}
use Rattle.std.proofs.lemmas.Bool.{eqb-true}
use Rattle.std.proofs.lemmas.Option.{none-some, same_Some}
use Rattle.edb_model.specs.Procs.{numbered}
use Rattle.edb_event.specs.declared.call.Call.{Call}
use Rattle.edb_event.specs.declared.reply.Reply.TheVariants as reply
use Rattle.edb_event.specs.declared.entry.Entry.{Entry}
use Rattle.edb_event.specs.declared.entry.Entry.TheVariants as entry
use Rattle.edb_rules.specs.Plans.{Plan}
use Rattle.edb_rules.specs.Facts.{Console, Facts, at_first, new_console, console_at}
use Rattle.edb_rules.specs.Consoles.{command_of, console_with, consoles_by}
use Rattle.edb_rules.specs.Notes.{facts}
use Rattle.edb_rules.specs.Legal.{May, Legal}
use Rattle.edb_rules.specs.Own.{starts_with, starts_of, last_with, last_of}
use Rattle.edb_rules.proofs.Between.{folded}
use Rattle.edb_rules.proofs.Commanded.{IsEight, eight_step, next_command, console_within}
use Rattle.edb_rules.proofs.Present.{with_exact}

-- A part of console c is what a fold over the entries makes, if the fold does at each entry what the entry does to its
-- console.
module _ {A : Type 0} (c : ℕ) (h : Console → A) (step : A → Entry → A)
    (its : (e : Entry) (x : ℕ × Call) (k : Console) → command_of e ≡ Some x → (if nat_eq x.0 c then h (console_with e k) else h k) ≡ step (h k) e)
    (none : (e : Entry) (a : A) → command_of e ≡ None → a ≡ step a e) where
  part_if : (b : Bool) (x y : Console) → h (if b then x else y) ≡ (if b then h x else h y)
  part_if true x y = refl
  part_if false x y = refl

  at_its : (b : Bool) (e : Entry) (j k : Console) → (b ≡ true → j ≡ k) → (if b then h (console_with e j) else h k) ≡ (if b then h (console_with e k) else h k)
  at_its true e j k same = ap (λ (x : Console). h (console_with e x)) (same refl)
  at_its false e j k same = refl

  told_by : (plan : Plan) (f : Facts) (e : Entry) (o : Option (ℕ × Call)) → command_of e ≡ o → IsEight f → May plan f e
      → h (numbered new_console (consoles_by f.consoles e o) c) ≡ step (h (console_at f c)) e
  told_by plan f e None is here may = none e (h (console_at f c)) is
  told_by plan f e (Some x) is here may =
      let within = console_within (length f.consoles) x.0 here.eight (next_command plan f e x.0 x.1 may is).console in
      ap h (with_exact new_console f.consoles x.0 (console_with e (numbered new_console f.consoles x.0)) c within)
      ∙ (part_if (nat_eq x.0 c) _ _
      ∙ (at_its (nat_eq x.0 c) e (numbered new_console f.consoles x.0) (console_at f c) (λ same. ap (numbered new_console f.consoles) (eqb-true x.0 c same))
      ∙ its e x (console_at f c) is))

  pub told : (plan : Plan) (journal : List Entry) → Legal plan journal → h (console_at (facts plan journal) c) ≡ fold step (h (console_at (at_first plan) c)) journal
  told plan journal legal =
      folded plan (λ f. h (console_at f c)) step IsEight (eight_step plan) (λ f e here may. told_by plan f e (command_of e) refl here may) (at_first plan) journal (record { eight = refl }) legal

first_console : (plan : Plan) (c : ℕ) → console_at (at_first plan) c ≡ new_console
first_console plan c = replicated 8 c
  where
    at : (n m : ℕ) → slice_index_or (replicate n new_console) m new_console ≡ new_console
    at zero m = refl
    at (suc n) zero = refl
    at (suc n) (suc m) = at n m

    replicated : (n c : ℕ) → numbered new_console (replicate n new_console) c ≡ new_console
    replicated n zero = refl
    replicated n (suc m) = at n m

same_both : {A : Type 0} (b : Bool) (x : A) → (if b then x else x) ≡ x
same_both true x = refl
same_both false x = refl

-- its own starts
own_its : (c : ℕ) (e : Entry) (x : ℕ × Call) (k : Console) → command_of e ≡ Some x → (if nat_eq x.0 c then (console_with e k).own else k.own) ≡ starts_with c k.own e
own_its c (entry.Start d p m n args) x k is = subst (λ (y : ℕ × Call). (if nat_eq y.0 c then k.own ++ p ∷ [] else k.own) ≡ starts_with c k.own (entry.Start d p m n args)) (same_Some _ x is) refl
own_its c (entry.Served d y (reply.Status p s)) x k is = same_both (nat_eq x.0 c) k.own
own_its c (entry.Served d y reply.Ok) x k is = same_both (nat_eq x.0 c) k.own
own_its c (entry.Served d y (reply.Refused r)) x k is = same_both (nat_eq x.0 c) k.own
own_its c (entry.Served d y reply.Quiet) x k is = same_both (nat_eq x.0 c) k.own
own_its c (entry.Served d y (reply.Rows rs)) x k is = same_both (nat_eq x.0 c) k.own
own_its c _ x k is = same_both (nat_eq x.0 c) k.own

own_none : (c : ℕ) (e : Entry) (ps : List ℕ) → command_of e ≡ None → ps ≡ starts_with c ps e
own_none c (entry.Start d p m n args) ps is = absurd (none-some _ (sym is))
own_none c _ ps is = refl

pub own_is : (plan : Plan) (journal : List Entry) (c : ℕ) → Legal plan journal → (console_at (facts plan journal) c).own ≡ starts_of c journal
own_is plan journal c legal =
    told c (λ (k : Console). k.own) (starts_with c) (own_its c) (own_none c) plan journal legal
    ∙ ap (λ (k : Console). fold (starts_with c) k.own journal) (first_console plan c)

-- its last await
last_its : (c : ℕ) (e : Entry) (x : ℕ × Call) (k : Console) → command_of e ≡ Some x → (if nat_eq x.0 c then (console_with e k).last else k.last) ≡ last_with c k.last e
last_its c (entry.Served d y (reply.Status p s)) x k is = subst (λ (z : ℕ × Call). (if nat_eq z.0 c then p else k.last) ≡ last_with c k.last (entry.Served d y (reply.Status p s))) (same_Some _ x is) refl
last_its c (entry.Served d y reply.Ok) x k is = same_both (nat_eq x.0 c) k.last
last_its c (entry.Served d y (reply.Refused r)) x k is = same_both (nat_eq x.0 c) k.last
last_its c (entry.Served d y reply.Quiet) x k is = same_both (nat_eq x.0 c) k.last
last_its c (entry.Served d y (reply.Rows rs)) x k is = same_both (nat_eq x.0 c) k.last
last_its c _ x k is = same_both (nat_eq x.0 c) k.last

last_none : (c : ℕ) (e : Entry) (q : ℕ) → command_of e ≡ None → q ≡ last_with c q e
last_none c (entry.Served d y r) q is = absurd (none-some _ (sym is))
last_none c _ q is = refl

pub last_is : (plan : Plan) (journal : List Entry) (c : ℕ) → Legal plan journal → (console_at (facts plan journal) c).last ≡ last_of c journal
last_is plan journal c legal =
    told c (λ (k : Console). k.last) (last_with c) (last_its c) (last_none c) plan journal legal
    ∙ ap (λ (k : Console). fold (last_with c) k.last journal) (first_console plan c)
