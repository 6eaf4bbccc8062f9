-- What was seen is listed for each process that was made, and for no other.

use Rattle.std.proofs.Common.{◌≡◌, ◌⊎◌, inl, inr, ℕ, zero, suc, ◌+◌, ◌<◌, ◌≤◌, true, false, List, [], ◌∷◌, ◌++◌, length, Option, None, Some, is_some, slice_index_or, refl, ◌∙◌, ap, arith}
use Rattle.std.proofs.lemmas.Bool.{both_ways}
use Rattle.edb_lang.specs.declared.act.ActKind.{ActKind}
use Rattle.edb_lang.specs.declared.act.ActKind.TheVariants as kind
use Rattle.edb_model.specs.Plain.{Plain}
use Rattle.edb_event.specs.declared.call.Call.{Call}
use Rattle.edb_event.specs.declared.call.Call.TheVariants as command
use Rattle.edb_event.specs.declared.entry.Entry.{Entry}
use Rattle.edb_event.specs.declared.entry.Entry.TheVariants as entry
use Rattle.edb_rules.specs.Erasure.{labels_of}
use Rattle.edb_rules.specs.Plans.{Plan}
use Rattle.edb_rules.specs.Facts.{Facts}
use Rattle.edb_rules.specs.Seen.{Seen, new_seen}
use Rattle.edb_rules.specs.Server.{Server, is_made}
use Rattle.edb_rules.specs.Replies.{is_served, is_accepted}
use Rattle.edb_rules.specs.Called.{called}
use Rattle.edb_rules.specs.Noted.{placed, with_process}
use Rattle.edb_rules.specs.News.{act_news, told}
use Rattle.edb_rules.specs.Notes.{plain_with, note}
use Rattle.edb_rules.specs.Legal.{May}
use Rattle.edb_rules.proofs.Steps.{all_started, none_started}
use Rattle.edb_rules.proofs.Kept.{no_load, no_advance, act_comes, note_stays, with_length}
use Rattle.edb_rules.proofs.Made.{kept_if}

-- a process that was made is within the list
some_within : {A : Type 0} (xs : List (Option A)) (n : ℕ) → is_some (slice_index_or xs n None) ≡ true → n < length xs
some_within [] n some = absurd (both_ways false refl some)
some_within (x ∷ xs) zero some = omega arith
some_within (x ∷ xs) (suc n) some = let rest = some_within xs n some in omega arith

pub made_within : (s : Server) (p : ℕ) → is_made s p ≡ true → (1 ≤ p) × (p ≤ length s.seen)
made_within s zero made = absurd (both_ways false refl made)
made_within s (suc n) made = let inside = some_within s.seen n made in (omega arith, omega arith)

-- a process behind the others is put behind them
pub placed_last : {A : Type 0} (xs : List (Option A)) (n : ℕ) (x : A) → n ≡ length xs → placed n x xs ≡ xs ++ Some x ∷ []
placed_last [] zero x same = refl
placed_last [] (suc n) x same = absurd (omega arith)
placed_last (y ∷ ys) zero x same = absurd (omega arith)
placed_last (y ∷ ys) (suc n) x same = let rest = placed_last ys n x (omega arith) in λ i. y ∷ rest i

pub process_last : (seen : List (Option Seen)) (p n : ℕ) → p ≡ n + 1 → length seen ≡ n → with_process p seen ≡ seen ++ Some new_seen ∷ []
process_last seen zero n next same = absurd (omega arith)
process_last seen (suc m) n next same = placed_last seen m new_seen (omega arith)

one_more : {A : Type 0} (xs : List A) (x : A) → length (xs ++ x ∷ []) ≡ length xs + 1
one_more [] x = refl
one_more (y ∷ ys) x = let rest = one_more ys x in omega arith

abbrev AreListed : Facts → Type 0
AreListed f = length f.server.seen ≡ length f.plain.running

called_length : (s : Server) (c : ℕ) (x : Call) → is_served x ≡ true → length (called s c x).seen ≡ length s.seen
called_length s c command.Ic known = absurd (both_ways false refl known)
called_length s c (command.Step p) known = with_length s.seen p _
called_length s c (command.Next p) known = with_length s.seen p _
called_length s c (command.Finish p) known = with_length s.seen p _
called_length s c (command.Continue p) known = with_length s.seen p _
called_length s c (command.Skip p) known = with_length s.seen p _
called_length s c _ known = refl

act_length : (s : Server) (k : ActKind) (old new : Plain) (p : ℕ) (value : List ℕ) → (k ≡ kind.Print) ⊎ (k ≡ kind.End) → length (told s (act_news k old new p value)).seen ≡ length s.seen
act_length s k old new p value (inl is) = ap (λ (x : ActKind). length (told s (act_news x old new p value)).seen) is
act_length s k old new p value (inr is) = ap (λ (x : ActKind). length (told s (act_news x old new p value)).seen) is ∙ with_length s.seen p _

-- no process is made, and none is seen
none_more : (plan : Plan) (f : Facts) (e : Entry) → AreListed f → May plan f e → all_started (labels_of e) ≡ 0 → length (note plan f e).server.seen ≡ length f.server.seen
    → AreListed (note plan f e)
none_more plan f e listed may none same = let made = (note_stays plan f e may).count in omega arith

pub listed_step : (plan : Plan) (f : Facts) (e : Entry) → AreListed f → May plan f e → AreListed (note plan f e)
listed_step plan f (entry.Start c p m n args) listed may =
    let made = (note_stays plan f (entry.Start c p m n args) may).count in
    let more = ap (λ (xs : List (Option Seen)). length xs) (process_last f.server.seen p (length f.plain.running) may.rule.number listed) ∙ one_more f.server.seen (Some new_seen) in
    omega arith
listed_step plan f (entry.Load c m v) listed may = absurd (no_load plan f c m v may)
listed_step plan f (entry.Skip c p) listed may = absurd may.rule
listed_step plan f (entry.Kill c p) listed may = absurd may.rule
listed_step plan f (entry.Expire c p) listed may = absurd may.rule
listed_step plan f (entry.Lease p b) listed may = none_more plan f (entry.Lease p b) listed may refl refl
listed_step plan f (entry.Ran p n c) listed may = none_more plan f (entry.Ran p n c) listed may (none_started p n) refl
listed_step plan f (entry.Ask p k) listed may = absurd may.rule
listed_step plan f (entry.Did p k v bytes) listed may =
    none_more plan f (entry.Did p k v bytes) listed may refl (act_length f.server k f.plain (plain_with plan f.plain (entry.Did p k v bytes)) p v (act_comes plan f p k v bytes may.rule))
listed_step plan f (entry.Took p) listed may = absurd may.rule
listed_step plan f (entry.Forward p) listed may = absurd may.rule
listed_step plan f (entry.Leave p) listed may = none_more plan f (entry.Leave p) listed may refl (with_length f.server.seen p _)
listed_step plan f (entry.Enter p m n a) listed may = none_more plan f (entry.Enter p m n a) listed may refl (with_length f.server.seen p _)
listed_step plan f (entry.Signal p r) listed may = absurd may.rule
listed_step plan f (entry.Advance t) listed may = absurd (no_advance plan f t may)
listed_step plan f (entry.Stop p m l n by) listed may = none_more plan f (entry.Stop p m l n by) listed may refl (with_length f.server.seen p _)
listed_step plan f (entry.Trigger p m l s a applied) listed may = none_more plan f (entry.Trigger p m l s a applied) listed may refl refl
listed_step plan f (entry.Served c x r) listed may =
    none_more plan f (entry.Served c x r) listed may refl
    (kept_if (λ (s : Server). length s.seen) (is_accepted r) (called f.server c x) f.server (called_length f.server c x may.rule.known))
