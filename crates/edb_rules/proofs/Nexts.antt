-- What is due is stopped at: behind a slice stands what its end brings. And turns go round.

use Rattle.std.proofs.Common.{◌≡◌, ◌⊎◌, inl, inr, ℕ, suc, ◌+◌, Bool, true, false, if◌then◌else◌, not, ◌&&◌, List, [], ◌∷◌, Option, None, Some, take, refl, sym, ◌∙◌, ap, subst, arith}
use Rattle.std.specs.Prelude.{is_some}
use Rattle.std.specs.Option.{option_map_or}
use Rattle.std.specs.List.{slice_get, fold}
use Rattle.std.proofs.lemmas.Bool.{both_ways}
use Rattle.std.proofs.lemmas.Option.{same_Some}
use Rattle.edb_model.specs.Running.{Run}
use Rattle.edb_model.specs.Move.{Next, begins, next}
use Rattle.edb_model.specs.Plain.{running_at}
use Rattle.edb_event.specs.declared.entry.Entry.{Entry}
use Rattle.edb_event.specs.declared.entry.Entry.TheVariants as entry
use Rattle.edb_event.specs.Ranges.{IsConsole}
use Rattle.edb_rules.specs.Plans.{Plan}
use Rattle.edb_rules.specs.Facts.{Handout, Facts, at_first, debuggee_at}
use Rattle.edb_rules.specs.Server.{is_among}
use Rattle.edb_rules.specs.Slices.{after_moves, has_body, level_in, asked_to, Why, due, SliceEnd, leaves, enters, stops, if_due, if_spent, at_next, end_before, end_at}
use Rattle.edb_rules.specs.SliceEnds.{place_of, cause_of, enter_entry, stop_entry, end_entries}
use Rattle.edb_rules.specs.Turns.{Turn, turn_of, IsSooner, IsFirst}
use Rattle.edb_rules.specs.Ranks.{AtTurn, AtQuiet, IsWaiting}
use Rattle.edb_rules.specs.Notes.{turn_with, behind_first, note, after, facts}
use Rattle.edb_rules.specs.Legal.{MayEnd, IsAnswer, May, Legal}
use Rattle.edb_rules.specs.Refusals.{refused}
use Rattle.edb_rules.specs.Answers.{enables, has_status, first_with, answer, reply_of}
use Rattle.edb_rules.specs.Server.{Server}
use Rattle.edb_event.specs.declared.call.Call.{Call}
use Rattle.edb_event.specs.declared.call.Call.TheVariants as command
use Rattle.edb_event.specs.declared.call.ProcStatus.{ProcStatus}
use Rattle.edb_event.specs.declared.reply.Refusal.{Refusal}
use Rattle.edb_event.specs.declared.reply.Reply.TheVariants as reply
use Rattle.edb_rules.specs.Between.{IsTurnOf}
use Rattle.edb_rules.specs.Nexts.{StandsNext, StandNext, turn_by, last_turn}
use Rattle.edb_rules.proofs.Entries.{may_at}
use Rattle.edb_rules.proofs.Between.{facts_next}
use Rattle.edb_rules.proofs.Present.{coming_is}
use Rattle.edb_rules.proofs.Endings.{ran_lives, whole}

-- what has to stand next does
first_is : (f : Facts) (e d : Entry) (rest : List Entry) → f.coming ≡ d ∷ rest → (f.coming ≡ []) ⊎ MayEnd f e → e ≡ d
first_is f e d rest is (inl none) = absurd (let both : [] ≡ d ∷ rest = sym none ∙ is in cc)
first_is f e d rest is (inr ends) = let both : e ∷ ends.0 ≡ d ∷ rest = sym ends.1 ∙ is in cc

next_at : (plan : Plan) (journal : List Entry) (j : ℕ) (o : Option Entry) (d : Entry) (rest : List Entry) → Legal plan journal → slice_get journal j ≡ o
    → (facts plan (take j journal)).coming ≡ d ∷ rest → (slice_get journal j ≡ None) ⊎ (slice_get journal j ≡ Some d)
next_at plan journal j None d rest legal at is = inl at
next_at plan journal j (Some e) d rest legal at is =
    let f = facts plan (take j journal) in
    inr (at ∙ ap (λ (x : Entry). Some x) (first_is f e d rest is (whole plan f e (may_at plan journal j e legal at))))

stands : (plan : Plan) (journal : List Entry) (k : ℕ) (d : Entry) (rest : List Entry) → Legal plan journal → (facts plan (take (suc k) journal)).coming ≡ d ∷ rest → StandsNext journal k d
stands plan journal k d rest legal is =
    let next : suc k ≡ k + 1 = omega arith in
    subst (λ (j : ℕ). (slice_get journal j ≡ None) ⊎ (slice_get journal j ≡ Some d)) next (next_at plan journal (suc k) (slice_get journal (suc k)) d rest legal refl is)

-- behind an Enter what it was to be followed by still is to come
two : (plan : Plan) (journal : List Entry) (k p : ℕ) (m n : List ℕ) (a : ℕ) (e : Entry) → Legal plan journal
    → (facts plan (take (suc k) journal)).coming ≡ entry.Enter p m n a ∷ e ∷ [] → StandNext journal k (entry.Enter p m n a) e
two plan journal k p m n a e legal is = by (stands plan journal k (entry.Enter p m n a) (e ∷ []) legal is)
  where
    by : StandsNext journal k (entry.Enter p m n a) → StandNext journal k (entry.Enter p m n a) e
    by (inl none) = inl none
    by (inr at) =
        let here : slice_get journal (suc k) ≡ Some (entry.Enter p m n a) = (let next : k + 1 ≡ suc k = omega arith in subst (λ (j : ℕ). slice_get journal j ≡ Some (entry.Enter p m n a)) next at) in
        let later : (facts plan (take (suc (suc k)) journal)).coming ≡ e ∷ [] =
        ap (λ (g : Facts). g.coming) (facts_next plan journal (suc k) (entry.Enter p m n a) here) ∙ ap behind_first is in
        let next : suc k ≡ k + 1 = omega arith in
        inr (at, subst (λ (j : ℕ). StandsNext journal j e) next (stands plan journal (suc k) e [] legal later))

-- How a slice of n moves ended, by what is next behind it.
module _ (plan : Plan) (journal : List Entry) (k p n c : ℕ) (legal : Legal plan journal) (at : slice_get journal k ≡ Some (entry.Ran p n c)) (t : Run)
    (lives : running_at (facts plan (take (k + 1) journal)).plain p ≡ Some t) where
  abbrev f : Facts
  f = facts plan (take k journal)

  abbrev h : Handout
  h = (debuggee_at f p).handout

  abbrev its_may : May plan f (entry.Ran p n c)
  its_may = may_at plan journal k (entry.Ran p n c) legal at

  abbrev g : Facts
  g = note plan f (entry.Ran p n c)

  behind_is : facts plan (take (suc k) journal) ≡ g
  behind_is = facts_next plan journal k (entry.Ran p n c) at

  here : running_at g.plain p ≡ Some t
  here =
      let next : suc k ≡ k + 1 = omega arith in
      ap (λ (x : Facts). running_at x.plain p) (sym behind_is) ∙ subst (λ (j : ℕ). running_at (facts plan (take j journal)).plain p ≡ Some t) (sym next) lives

  is_left : after_moves plan.code h.versions n its_may.rule.running ≡ t
  is_left = same_Some _ t (sym (ran_lives plan f p n c its_may) ∙ here)

  abbrev all : ℕ
  all = asked_to plan.code h p its_may.rule.running n

  ended_so : (end : SliceEnd) → end_before plan.code h p n all t ≡ Some end → (facts plan (take (suc k) journal)).coming ≡ end_entries p t end
  ended_so end is =
      let same : end_at plan.code h p its_may.rule.running n ≡ Some end = ap (end_before plan.code h p n all) is_left ∙ is in
      ap (λ (x : Facts). x.coming) behind_is
      ∙ (coming_is plan f p n its_may.rule.running end its_may.rule.lives same
      ∙ ap (λ (u : Run). end_entries p u end) is_left)

  -- not left
  inside_is : (has_body h.modules t ≡ true) ⊎ (h.is_interpreted ≡ false) → (h.is_interpreted && not (has_body h.modules t)) ≡ false
  inside_is (inl body) = and_right h.is_interpreted (not (has_body h.modules t)) (ap not body)
    where
      and_right : (a b : Bool) → b ≡ false → (a && b) ≡ false
      and_right true b e = e
      and_right false b e = refl
  inside_is (inr off) = ap (λ (b : Bool). b && not (has_body h.modules t)) off

  goes_to : (x : Next) → next t ≡ x → (h.is_interpreted && not (has_body h.modules t)) ≡ false → end_before plan.code h p n all t ≡ at_next plan.code h p n all t x
  goes_to x is stays =
      ap (λ (b : Bool). if b then Some leaves else at_next plan.code h p n all t (next t)) stays ∙ ap (at_next plan.code h p n all t) is

  pub stops_next : (m : List ℕ) (l : ℕ) (why : Why) → next t ≡ begins m l → due plan.code h p n t m l ≡ Some why → h.is_interpreted ≡ true → has_body h.modules t ≡ true
      → StandsNext journal k (entry.Stop p m l (level_in t) (cause_of why))
  stops_next m l why is is_due on body =
      let end : end_before plan.code h p n all t ≡ Some (stops why) =
      goes_to (begins m l) is (inside_is (inl body))
      ∙ (ap (λ (b : Bool). if b then if_due h n all (due plan.code h p n t m l) else if is_among m h.modules then Some (enters (due plan.code h p n t m l)) else if_spent h n all) on
      ∙ ap (if_due h n all) is_due) in
      let named : stop_entry p t why ≡ entry.Stop p m l (level_in t) (cause_of why) = ap (λ (x : Next). entry.Stop p (place_of x).0 (place_of x).1 (level_in t) (cause_of why)) is in
      stands plan journal k _ [] legal (ended_so (stops why) end ∙ ap (λ (e : Entry). e ∷ []) named)

  pub enters_next : (m : List ℕ) (l : ℕ) → next t ≡ begins m l → due plan.code h p n t m l ≡ None → h.is_interpreted ≡ false → is_among m h.modules ≡ true
      → StandsNext journal k (enter_entry p t)
  enters_next m l is undue off_ among =
      let end : end_before plan.code h p n all t ≡ Some (enters None) =
      goes_to (begins m l) is (inside_is (inr off_))
      ∙ (ap (λ (b : Bool). if b then if_due h n all (due plan.code h p n t m l) else if is_among m h.modules then Some (enters (due plan.code h p n t m l)) else if_spent h n all) off_
      ∙ (ap (λ (b : Bool). if b then Some (enters (due plan.code h p n t m l)) else if_spent h n all) among
      ∙ ap (λ (o : Option Why). Some (enters o)) undue)) in
      stands plan journal k _ [] legal (ended_so (enters None) end)

  pub enters_and_stops : (m : List ℕ) (l : ℕ) (why : Why) → next t ≡ begins m l → due plan.code h p n t m l ≡ Some why → h.is_interpreted ≡ false → is_among m h.modules ≡ true
      → StandNext journal k (enter_entry p t) (entry.Stop p m l (level_in t) (cause_of why))
  enters_and_stops m l why is is_due off_ among =
      let end : end_before plan.code h p n all t ≡ Some (enters (Some why)) =
      goes_to (begins m l) is (inside_is (inr off_))
      ∙ (ap (λ (b : Bool). if b then if_due h n all (due plan.code h p n t m l) else if is_among m h.modules then Some (enters (due plan.code h p n t m l)) else if_spent h n all) off_
      ∙ (ap (λ (b : Bool). if b then Some (enters (due plan.code h p n t m l)) else if_spent h n all) among
      ∙ ap (λ (o : Option Why). Some (enters o)) is_due)) in
      let named : stop_entry p t why ≡ entry.Stop p m l (level_in t) (cause_of why) = ap (λ (x : Next). entry.Stop p (place_of x).0 (place_of x).1 (level_in t) (cause_of why)) is in
      two plan journal k p _ _ _ _ legal (ended_so (enters (Some why)) end ∙ ap (λ (e : Entry). enter_entry p t ∷ e ∷ []) named)

  pub leaves_next : h.is_interpreted ≡ true → has_body h.modules t ≡ false → StandsNext journal k (entry.Leave p)
  leaves_next on body =
      let end : end_before plan.code h p n all t ≡ Some leaves =
      (λ i. if on i && not (body i) then Some leaves else at_next plan.code h p n all t (next t)) in
      stands plan journal k _ [] legal (ended_so leaves end)

-- Turns go round: the last turn is told by the entries.
turn_step : (t : ℕ) (e : Entry) → turn_with t e ≡ turn_by t e
turn_step t (entry.Lease p b) = refl
turn_step t (entry.Ask p k) = refl
turn_step t (entry.Did p k v bytes) = refl
turn_step t (entry.Took p) = refl
turn_step t (entry.Forward p) = refl
turn_step t _ = refl

turn_from : (plan : Plan) (f : Facts) (es : List Entry) → (after plan f es).turn ≡ fold turn_by f.turn es
turn_from plan f [] = refl
turn_from plan f (e ∷ es) = turn_from plan (note plan f e) es ∙ ap (λ (t : ℕ). fold turn_by t es) (turn_step f.turn e)

pub turn_is : (plan : Plan) (journal : List Entry) → (facts plan journal).turn ≡ last_turn journal
turn_is plan journal = turn_from plan (at_first plan) journal

first_of : (plan : Plan) (f : Facts) (e : Entry) (p : ℕ) → May plan f e → IsTurnOf p e → AtTurn plan f × IsFirst f p
first_of plan f (entry.Lease q b) p may is = (may.rule.at, subst (IsFirst f) is may.rule.first)
first_of plan f (entry.Did q k v bytes) p may is = (may.rule.at, subst (IsFirst f) is may.rule.first)
first_of plan f (entry.Ask q k) p may is = absurd may.rule
first_of plan f (entry.Took q) p may is = absurd may.rule
first_of plan f (entry.Forward q) p may is = absurd may.rule
first_of plan f _ p may is = absurd is

pub no_sooner : (plan : Plan) (journal : List Entry) (k p : ℕ) (e : Entry) (q : ℕ) (turn : Turn) → Legal plan journal → slice_get journal k ≡ Some e → IsTurnOf p e
    → turn_of (facts plan (take k journal)) q ≡ Some turn → IsSooner (last_turn (take k journal)) q p → ⊥
no_sooner plan journal k p e q turn legal at is ready sooner =
    (first_of plan (facts plan (take k journal)) e p (may_at plan journal k e legal at) is).1 q turn ready
    (subst (λ (t : ℕ). IsSooner t q p) (sym (turn_is plan (take k journal))) sooner)

-- commands go before turns
pub commands_first : (plan : Plan) (journal : List Entry) (k p : ℕ) (e : Entry) (c : ℕ) → Legal plan journal → slice_get journal k ≡ Some e → IsTurnOf p e → IsConsole c
    → IsWaiting plan (facts plan (take k journal)) c
commands_first plan journal k p e c legal at is console =
    (first_of plan (facts plan (take k journal)) e p (may_at plan journal k e legal at) is).0.at.no_command c console

-- No reply of the server's to a command that is enabled is `quiet`: one stands only where nothing else can come.
await_not_quiet : (b : Bool) (p : ℕ) (t : ProcStatus) → b ≡ true → (if b then reply.Status p t else reply.Quiet) ≡ reply.Quiet → ⊥
await_not_quiet true p t enabled e = cc
await_not_quiet false p t enabled e = both_ways false refl enabled

any_not_quiet : (o : Option ℕ) (t : ProcStatus) → is_some o ≡ true → option_map_or (λ (p : ℕ). reply.Status p t) o reply.Quiet ≡ reply.Quiet → ⊥
any_not_quiet None t enabled e = both_ways false refl enabled
any_not_quiet (Some p) t enabled e = cc

answer_not_quiet : (s : Server) (x : Call) → enables s x ≡ true → answer s x ≡ reply.Quiet → ⊥
answer_not_quiet s (command.Await p t) enabled e = await_not_quiet (has_status s p t) p t enabled e
answer_not_quiet s (command.AwaitAny t) enabled e = any_not_quiet (first_with s t) t enabled e
answer_not_quiet s _ enabled e = cc

reply_not_quiet : (s : Server) (c : ℕ) (x : Call) (o : Option Refusal) → refused s c x ≡ o → enables s x ≡ true → reply_of s c x ≡ reply.Quiet → ⊥
reply_not_quiet s c x None is enabled e = answer_not_quiet s x enabled (let here : reply_of s c x ≡ answer s x = rw is refl in sym here ∙ e)
reply_not_quiet s c x (Some why) is enabled e = (let here : reply_of s c x ≡ reply.Refused why = rw is refl in let both : reply.Refused why ≡ reply.Quiet = sym here ∙ e in cc)

quiet_at : (plan : Plan) (f : Facts) (c : ℕ) (x : Call) → IsAnswer plan f c x reply.Quiet → AtQuiet plan f
quiet_at plan f c x (inl a) = absurd (reply_not_quiet f.server c x (refused f.server c x) refl a.enabled (sym a.same))
quiet_at plan f c x (inr q) = q.at

pub quiet_is : (plan : Plan) (journal : List Entry) (k c : ℕ) (x : Call) → Legal plan journal → slice_get journal k ≡ Some (entry.Served c x reply.Quiet)
    → AtQuiet plan (facts plan (take k journal))
quiet_is plan journal k c x legal at =
    quiet_at plan (facts plan (take k journal)) c x (may_at plan journal k (entry.Served c x reply.Quiet) legal at).rule.answer
