-- What the interpreter server has of the modules, of the current versions and of the processes that were made.

use Rattle.std.proofs.Common.{◌≡◌, ◌⊎◌, inl, inr, ℕ, zero, suc, ◌+◌, ◌≤◌, Bool, true, false, if◌then◌else◌, not, is_some, List, [], ◌∷◌, ◌++◌, length, Option, None, Some, slice_index_or, refl, sym, ◌∙◌, ap, subst, arith}
use Rattle.std.specs.Option.{option_map}
use Rattle.std.proofs.lemmas.Bool.{both_ways}
use Rattle.edb_lang.specs.Terms.{Datum}
use Rattle.edb_lang.specs.declared.act.ActKind.{ActKind}
use Rattle.edb_lang.specs.declared.act.ActKind.TheVariants as kind
use Rattle.edb_model.specs.Procs.{numbered, with_numbered}
use Rattle.edb_model.specs.Plain.{Plain}
use Rattle.edb_event.specs.declared.call.Call.{Call}
use Rattle.edb_event.specs.declared.call.Call.TheVariants as command
use Rattle.edb_event.specs.declared.entry.Entry.{Entry}
use Rattle.edb_event.specs.declared.entry.Entry.TheVariants as entry
use Rattle.edb_rules.specs.Plans.{Plan}
use Rattle.edb_rules.specs.Facts.{Facts, at_first}
use Rattle.edb_rules.specs.Seen.{Seen, new_seen}
use Rattle.edb_rules.specs.Server.{Server, seen_at, is_made}
use Rattle.edb_rules.specs.Replies.{is_served, is_accepted}
use Rattle.edb_rules.specs.Called.{called}
use Rattle.edb_rules.specs.Noted.{with_process, is_new}
use Rattle.edb_rules.specs.Noted as news
use Rattle.edb_rules.specs.News.{act_news, told}
use Rattle.edb_rules.specs.Notes.{plain_with, note, facts}
use Rattle.edb_rules.specs.Legal.{May, Legal}
use Rattle.edb_rules.specs.Erasure.{labels_of}
use Rattle.edb_rules.proofs.Entries.{kept_from}
use Rattle.edb_rules.proofs.Steps.{all_started, none_started}
use Rattle.edb_rules.proofs.Changes.{with_or}
use Rattle.edb_rules.proofs.Kept.{no_load, no_advance, act_comes, note_stays}
use Rattle.edb_rules.proofs.Made.{kept_if}
use Rattle.edb_rules.proofs.SeenLists.{made_within, process_last, listed_step}
use Rattle.edb_rules.proofs.PlainSteps.{pushed}

-- a part of the server that no act changes but by what it tells of an end
did_part : {A : Type 0} (h : Server → A) (plan : Plan) (f : Facts) (p : ℕ) (k : ActKind) (v bytes : List ℕ) → May plan f (entry.Did p k v bytes)
    → h (told f.server (Some (news.ended p v))) ≡ h f.server → h (note plan f (entry.Did p k v bytes)).server ≡ h f.server
did_part h plan f p k v bytes may ends = by (act_comes plan f p k v bytes may.rule)
  where
    new : Plain
    new = plain_with plan f.plain (entry.Did p k v bytes)

    by : (k ≡ kind.Print) ⊎ (k ≡ kind.End) → h (told f.server (act_news k f.plain new p v)) ≡ h f.server
    by (inl is) = ap (λ (x : ActKind). h (told f.server (act_news x f.plain new p v))) is
    by (inr is) = ap (λ (x : ActKind). h (told f.server (act_news x f.plain new p v))) is ∙ ends

-- THE MODULES stay.
code_step : (plan : Plan) (f : Facts) (e : Entry) → f.server.code ≡ plan.code → May plan f e → (note plan f e).server.code ≡ plan.code
code_step plan f (entry.Served c x r) same may = kept_if (λ (s : Server). s.code) (is_accepted r) (called f.server c x) f.server (called_code f.server c x) ∙ same
  where
    called_code : (s : Server) (c : ℕ) (x : Call) → (called s c x).code ≡ s.code
    called_code s c (command.Ii m) = refl
    called_code s c _ = refl
code_step plan f (entry.Did p k v bytes) same may = did_part (λ (s : Server). s.code) plan f p k v bytes may refl ∙ same
code_step plan f (entry.Signal p r) same may = absurd may.rule
code_step plan f _ same may = same

pub code_is : (plan : Plan) (journal : List Entry) → Legal plan journal → (facts plan journal).server.code ≡ plan.code
code_is plan journal legal = kept_from plan (λ f. f.server.code ≡ plan.code) (code_step plan) (at_first plan) journal refl legal

-- THE CURRENT VERSIONS are those of the plain state.
kept_current : (plan : Plan) (f : Facts) (e : Entry) → (note plan f e).server.current ≡ f.server.current → f.server.current ≡ f.plain.versions → May plan f e
    → (note plan f e).server.current ≡ (note plan f e).plain.versions
kept_current plan f e kept same may = kept ∙ (same ∙ sym (note_stays plan f e may).versions)

current_step : (plan : Plan) (f : Facts) (e : Entry) → f.server.current ≡ f.plain.versions → May plan f e → (note plan f e).server.current ≡ (note plan f e).plain.versions
current_step plan f (entry.Load c m v) same may = absurd (no_load plan f c m v may)
current_step plan f (entry.Served c x r) same may =
    kept_current plan f (entry.Served c x r) (kept_if (λ (s : Server). s.current) (is_accepted r) (called f.server c x) f.server (called_current f.server c x)) same may
  where
    called_current : (s : Server) (c : ℕ) (x : Call) → (called s c x).current ≡ s.current
    called_current s c (command.Ii m) = refl
    called_current s c _ = refl
current_step plan f (entry.Did p k v bytes) same may = kept_current plan f (entry.Did p k v bytes) (did_part (λ (s : Server). s.current) plan f p k v bytes may refl) same may
current_step plan f (entry.Signal p r) same may = absurd may.rule
current_step plan f _ same may = kept_current plan f _ refl same may

pub current_is : (plan : Plan) (journal : List Entry) → Legal plan journal → (facts plan journal).server.current ≡ (facts plan journal).plain.versions
current_is plan journal legal = kept_from plan (λ f. f.server.current ≡ f.plain.versions) (current_step plan) (at_first plan) journal refl legal

-- THE PROCESSES that were made: as many as have something to do, or had, and each is listed.
pub record Counted (f : Facts) : Type 0 where
  pub listed : length f.server.seen ≡ length f.plain.running
  pub made : f.server.made ≡ length f.server.seen
  pub each : (q : ℕ) → 1 ≤ q → q ≤ length f.server.seen → is_made f.server q ≡ true

past : {A : Type 0} (xs : List (Option A)) (n : ℕ) → length xs ≤ n → slice_index_or xs n None ≡ None
past [] n less = refl
past (x ∷ xs) zero less = absurd (omega arith)
past (x ∷ xs) (suc n) less = past xs n (omega arith)

pub new_one : (s : Server) (p n : ℕ) → p ≡ n + 1 → length s.seen ≡ n → is_new s p ≡ true
new_one s zero n next same = absurd (omega arith)
new_one s (suc m) n next same = ap (λ (o : Option Seen). not (is_some o)) (past s.seen m (omega arith))

one_more : {A : Type 0} (xs : List A) (x : A) → length (xs ++ x ∷ []) ≡ length xs + 1
one_more [] x = refl
one_more (y ∷ ys) x = let rest = one_more ys x in omega arith

some_kept : (o : Option Seen) (change : Seen → Seen) → is_some (option_map change o) ≡ is_some o
some_kept None change = refl
some_kept (Some x) change = refl

-- what is seen of a process that was made, changed, is so
made_kept : (s : Server) (p q : ℕ) (change : Seen → Seen) → is_made s q ≡ true → is_some (numbered None (with_numbered s.seen p (option_map change (seen_at s p))) q) ≡ true
made_kept s p q change made = elim (with_or None s.seen p (option_map change (seen_at s p)) q) [
  | inl both ↦ ap (λ (o : Option Seen). is_some o) both.1 ∙ (some_kept (seen_at s p) change ∙ (ap (λ (n : ℕ). is_made s n) both.0 ∙ made))
  | inr same ↦ ap (λ (o : Option Seen). is_some o) same ∙ made
]

-- what an entry but a start makes of the list
abbrev pub SeenKept : Server → Server → Type 0
SeenKept s t = (t.made ≡ s.made) × ((q : ℕ) → is_made s q ≡ true → is_made t q ≡ true)

seen_same : (s t : Server) → t.made ≡ s.made → t.seen ≡ s.seen → SeenKept s t
seen_same s t made seen = (made, λ q is. ap (λ (xs : List (Option Seen)). is_some (numbered None xs q)) seen ∙ is)

called_kept : (s : Server) (c : ℕ) (x : Call) → is_served x ≡ true → SeenKept s (called s c x)
called_kept s c command.Ic known = absurd (both_ways false refl known)
called_kept s c (command.Step p) known = (refl, λ q is. made_kept s p q _ is)
called_kept s c (command.Next p) known = (refl, λ q is. made_kept s p q _ is)
called_kept s c (command.Finish p) known = (refl, λ q is. made_kept s p q _ is)
called_kept s c (command.Continue p) known = (refl, λ q is. made_kept s p q _ is)
called_kept s c (command.Skip p) known = (refl, λ q is. made_kept s p q _ is)
called_kept s c _ known = (refl, λ q is. is)

abbrev pub StartsNone : Entry → Type 0
StartsNone (entry.Start c p m n args) = ⊥
StartsNone _ = Unit {0}

pub entry_kept : (plan : Plan) (f : Facts) (e : Entry) → StartsNone e → May plan f e → SeenKept f.server (note plan f e).server
entry_kept plan f (entry.Start c p m n args) none may = absurd none
entry_kept plan f (entry.Served c x r) none may = by (is_accepted r)
  where
    by : (b : Bool) → SeenKept f.server (if b then called f.server c x else f.server)
    by true = called_kept f.server c x may.rule.known
    by false = (refl, λ q is. is)
entry_kept plan f (entry.Did p k v bytes) none may = by (act_comes plan f p k v bytes may.rule)
  where
    new : Plain
    new = plain_with plan f.plain (entry.Did p k v bytes)

    by : (k ≡ kind.Print) ⊎ (k ≡ kind.End) → SeenKept f.server (told f.server (act_news k f.plain new p v))
    by (inl is) = subst (λ (x : ActKind). SeenKept f.server (told f.server (act_news x f.plain new p v))) (sym is) (refl, λ q made. made)
    by (inr is) = subst (λ (x : ActKind). SeenKept f.server (told f.server (act_news x f.plain new p v))) (sym is) (refl, λ q made. made_kept f.server p q _ made)
entry_kept plan f (entry.Leave p) none may = (refl, λ q is. made_kept f.server p q _ is)
entry_kept plan f (entry.Enter p m n a) none may = (refl, λ q is. made_kept f.server p q _ is)
entry_kept plan f (entry.Stop p m l n by) none may = (refl, λ q is. made_kept f.server p q _ is)
entry_kept plan f (entry.Load c m v) none may = absurd (no_load plan f c m v may)
entry_kept plan f (entry.Skip c p) none may = absurd may.rule
entry_kept plan f (entry.Kill c p) none may = absurd may.rule
entry_kept plan f (entry.Ask p k) none may = absurd may.rule
entry_kept plan f (entry.Took p) none may = absurd may.rule
entry_kept plan f (entry.Signal p r) none may = absurd may.rule
entry_kept plan f _ none may = (refl, λ q is. is)

counted_kept : (plan : Plan) (f : Facts) (e : Entry) → Counted f → StartsNone e → May plan f e → length (note plan f e).plain.running ≡ length f.plain.running → Counted (note plan f e)
counted_kept plan f e k none may same =
    let kept = entry_kept plan f e none may in
    let listed = listed_step plan f e k.listed may in
    let was = k.listed in
    let made = k.made in
    let now = kept.0 in
    record {
      listed = listed;
      made = omega arith;
      each = λ q least most. kept.1 q (k.each q least (omega arith));
    }

counted_start : (plan : Plan) (f : Facts) (c p : ℕ) (m n : List ℕ) (args : Datum) → Counted f → May plan f (entry.Start c p m n args) → Counted (note plan f (entry.Start c p m n args))
counted_start plan f c p m n args k may =
    let e = entry.Start c p m n args in
    let seen : (note plan f e).server.seen ≡ f.server.seen ++ Some new_seen ∷ [] = process_last f.server.seen p (length f.plain.running) may.rule.number k.listed in
    let more = one_more f.server.seen (Some new_seen) in
    let count = ap (λ (xs : List (Option Seen)). length xs) seen ∙ more in
    let fresh : (note plan f e).server.made ≡ suc f.server.made = ap (λ (b : Bool). if b then suc f.server.made else f.server.made) (new_one f.server p (length f.plain.running) may.rule.number k.listed) in
    let made = k.made in
    record {
      listed = listed_step plan f e k.listed may;
      made = omega arith;
      each = λ q least most. ap (λ (xs : List (Option Seen)). is_some (numbered None xs q)) seen ∙ (elim (pushed None f.server.seen (Some new_seen) q (length f.server.seen) refl) [
        | inl both ↦ ap (λ (o : Option Seen). is_some o) both.1
        | inr both ↦ (let other = both.0 in ap (λ (o : Option Seen). is_some o) both.1 ∙ k.each q least (by_other q (length f.server.seen) (omega arith) other))
      ]);
    }
  where
    by_other : (q n : ℕ) → q ≤ n + 1 → (q ≡ n + 1 → ⊥) → q ≤ n
    by_other zero n less not = omega arith
    by_other (suc q) zero less not = absurd (not (omega arith))
    by_other (suc q) (suc n) less not = let rest = by_other q n (omega arith) (λ e. not (omega arith)) in omega arith

no_more : (plan : Plan) (f : Facts) (e : Entry) → May plan f e → all_started (labels_of e) ≡ 0 → length (note plan f e).plain.running ≡ length f.plain.running
no_more plan f e may none = let count = (note_stays plan f e may).count in omega arith

pub counted_step : (plan : Plan) (f : Facts) (e : Entry) → Counted f → May plan f e → Counted (note plan f e)
counted_step plan f (entry.Start c p m n args) k may = counted_start plan f c p m n args k may
counted_step plan f (entry.Load c m v) k may = absurd (no_load plan f c m v may)
counted_step plan f (entry.Skip c p) k may = absurd may.rule
counted_step plan f (entry.Kill c p) k may = absurd may.rule
counted_step plan f (entry.Expire c p) k may = absurd may.rule
counted_step plan f (entry.Ran p n c) k may = counted_kept plan f (entry.Ran p n c) k tt may (no_more plan f (entry.Ran p n c) may (none_started p n))
counted_step plan f (entry.Did p x v bytes) k may = counted_kept plan f (entry.Did p x v bytes) k tt may (no_more plan f (entry.Did p x v bytes) may refl)
counted_step plan f (entry.Signal p r) k may = absurd may.rule
counted_step plan f (entry.Advance t) k may = absurd (no_advance plan f t may)
counted_step plan f _ k may = counted_kept plan f _ k tt may refl

pub first_counted : (plan : Plan) → Counted (at_first plan)
first_counted plan = record { listed = refl; made = refl; each = λ q least most. absurd (omega arith) }

counted_at : (plan : Plan) (journal : List Entry) → Legal plan journal → Counted (facts plan journal)
counted_at plan journal legal = kept_from plan Counted (counted_step plan) (at_first plan) journal (first_counted plan) legal

pub made_is : (plan : Plan) (journal : List Entry) → Legal plan journal → (facts plan journal).server.made ≡ length (facts plan journal).plain.running
made_is plan journal legal = let k = counted_at plan journal legal in k.made ∙ k.listed

pub made_listed : (plan : Plan) (journal : List Entry) (p : ℕ) → Legal plan journal → 1 ≤ p → p ≤ length (facts plan journal).plain.running → is_made (facts plan journal).server p ≡ true
made_listed plan journal p legal least most = let k = counted_at plan journal legal in let listed = k.listed in k.each p least (omega arith)

pub listed_made : (plan : Plan) (journal : List Entry) (p : ℕ) → Legal plan journal → is_made (facts plan journal).server p ≡ true → (1 ≤ p) × (p ≤ length (facts plan journal).plain.running)
listed_made plan journal p legal made =
    let inside = made_within (facts plan journal).server p made in
    let low = inside.0 in
    let high = inside.1 in
    let listed = (counted_at plan journal legal).listed in
    (omega arith, omega arith)
