-- The interpreter server agrees with the facts in each legal journal.

use Rattle.std.proofs.Common.{◌≡◌, ◌⊎◌, inl, inr, ℕ, Bool, true, false, if◌then◌else◌, is_some, is_none, List, Option, None, Some, refl, sym, ◌∙◌, ap, subst}
use Rattle.std.specs.Option.{option_map, option_and_then}
use Rattle.std.proofs.lemmas.Bool.{both_ways}
use Rattle.std.proofs.lemmas.Option.{none-some, same_Some}
use Rattle.edb_lang.specs.Terms.{Datum}
use Rattle.edb_lang.specs.TermText.{term_text}
use Rattle.edb_frames.specs.declared.mode.Mode.{Mode}
use Rattle.edb_model.specs.Running.{Run}
use Rattle.edb_rules.specs.Facts.{Debuggee}
use Rattle.edb_rules.specs.Seen.{Seen, SeenStop, SeenCall}
use Rattle.edb_rules.specs.Orders.{resumes, with_order}
use Rattle.edb_rules.specs.Called.{resumed_seen}
use Rattle.edb_rules.specs.Noted.{while_lives, entered_seen, left_seen, stopped_seen, ended_seen}
use Rattle.edb_rules.specs.Agrees.{seen_inside, seen_living, seen_stop, StandsAt, Agrees}
use Rattle.edb_rules.proofs.Changes.{order_keeps}
use Rattle.edb_rules.proofs.Told.{resumed_stopped}

-- Besides, one that doesn't live isn't interpreted, and no lease of one that is stopped is out.
pub record Matches (o : Option Seen) (d : Debuggee) (t : Option Run) (x : Option Datum) : Type 0 where
  pub agrees : Agrees o d t x
  pub over : seen_living o ≡ false → seen_inside o ≡ false
  pub still : d.is_stopped ≡ true → d.is_out ≡ false

not_stopped : (o : Option Seen) (d : Debuggee) (t : Option Run) (x : Option Datum) (stop : SeenStop) → Agrees o d t x → d.is_stopped ≡ false → seen_stop o ≡ Some stop → ⊥
not_stopped o d t x stop a free is = both_ways d.is_stopped free (sym a.stopped ∙ ap is_some is)

-- what an entry leaves of one that isn't stopped
pub matches_free : (o : Option Seen) (d e : Debuggee) (t u : Run) (x : Option Datum) → e.is_interpreted ≡ d.is_interpreted → e.is_stopped ≡ d.is_stopped → d.is_stopped ≡ false
    → Matches o d (Some t) x → Matches o e (Some u) x
matches_free o d e t u x inside stopped free m = record {
  agrees = record {
    interpreted = m.agrees.interpreted ∙ sym inside;
    stopped = m.agrees.stopped ∙ sym stopped;
    lives = m.agrees.lives;
    ended = m.agrees.ended;
    stands = λ stop is. absurd (not_stopped o d (Some t) x stop m.agrees free is);
  };
  over = m.over;
  still = λ is. absurd (both_ways e.is_stopped (stopped ∙ free) is);
}

-- what an entry leaves that changes nothing of this
pub matches_same : (o : Option Seen) (d e : Debuggee) (t : Option Run) (x : Option Datum) → e.is_interpreted ≡ d.is_interpreted → e.is_stopped ≡ d.is_stopped → e.is_out ≡ d.is_out
    → Matches o d t x → Matches o e t x
matches_same o d e t x inside stopped out m = record {
  agrees = record {
    interpreted = m.agrees.interpreted ∙ sym inside;
    stopped = m.agrees.stopped ∙ sym stopped;
    lives = m.agrees.lives;
    ended = m.agrees.ended;
    stands = m.agrees.stands;
  };
  over = m.over;
  still = λ is. out ∙ m.still (sym stopped ∙ is);
}

-- news of a process that lives changes what was seen of it
none_some : {A : Type 0} (o : Option A) → is_none o ≡ true → is_some o ≡ false
none_some None e = refl
none_some (Some a) e = absurd (both_ways false refl e)

some_none : {A : Type 0} (o : Option A) → is_none o ≡ false → is_some o ≡ true
some_none None e = absurd (both_ways true e refl)
some_none (Some a) e = refl

pub record IsLiving (o : Option Seen) (change : Seen → Seen) : Type 0 where
  pub seen : Seen
  pub is : o ≡ Some seen
  pub changed : option_map (while_lives change) o ≡ Some (change seen)

pub living : (o : Option Seen) (change : Seen → Seen) → seen_living o ≡ true → IsLiving o change
living None change lives = absurd (both_ways false refl lives)
living (Some x) change lives = record {
  seen = x;
  is = refl;
  changed = ap (λ (b : Bool). Some (if b then x else change x)) (none_some x.ended lives);
}

dead : (o : Option Seen) (change : Seen → Seen) → seen_living o ≡ false → option_map (while_lives change) o ≡ o
dead None change lives = refl
dead (Some x) change lives = ap (λ (b : Bool). Some (if b then x else change x)) (some_none x.ended lives)

lives_or : (b : Bool) → (b ≡ true) ⊎ (b ≡ false)
lives_or true = inl refl
lives_or false = inr refl

-- it comes to interpreted code
pub matches_enter : (o : Option Seen) (f : SeenCall) (d e : Debuggee) (t : Run) (x : Option Datum) → e.is_interpreted ≡ true → e.is_stopped ≡ d.is_stopped → e.is_out ≡ d.is_out
    → Matches o d (Some t) x → Matches (option_map (while_lives (entered_seen f)) o) e (Some t) x
matches_enter o f d e t x inside stopped out m =
    let l = living o (entered_seen f) m.agrees.lives in
    let n = subst (λ (y : Option Seen). Matches y d (Some t) x) l.is m in
    subst (λ (y : Option Seen). Matches y e (Some t) x) (sym l.changed) (record {
      agrees = record {
        interpreted = sym inside;
        stopped = n.agrees.stopped ∙ sym stopped;
        lives = n.agrees.lives;
        ended = n.agrees.ended;
        stands = n.agrees.stands;
      };
      over = λ no. absurd (both_ways (is_none l.seen.ended) no n.agrees.lives);
      still = λ is. out ∙ n.still (sym stopped ∙ is);
    })

-- it leaves interpreted code
pub matches_leave : (o : Option Seen) (d e : Debuggee) (t : Option Run) (x : Option Datum) → e.is_interpreted ≡ false → e.is_stopped ≡ d.is_stopped → e.is_out ≡ d.is_out
    → Matches o d t x → Matches (option_map (while_lives left_seen) o) e t x
matches_leave o d e t x inside stopped out m = elim (lives_or (seen_living o)) [
  | inl lives ↦
      (let l = living o left_seen lives in
      let n = subst (λ (y : Option Seen). Matches y d t x) l.is m in
      subst (λ (y : Option Seen). Matches y e t x) (sym l.changed) (record {
        agrees = record {
          interpreted = sym inside;
          stopped = n.agrees.stopped ∙ sym stopped;
          lives = n.agrees.lives;
          ended = n.agrees.ended;
          stands = n.agrees.stands;
        };
        over = λ no. refl;
        still = λ is. out ∙ n.still (sym stopped ∙ is);
      }))
  | inr none ↦
      subst (λ (y : Option Seen). Matches y e t x) (sym (dead o left_seen none)) (record {
        agrees = record {
          interpreted = m.over none ∙ sym inside;
          stopped = m.agrees.stopped ∙ sym stopped;
          lives = m.agrees.lives;
          ended = m.agrees.ended;
          stands = m.agrees.stands;
        };
        over = m.over;
        still = λ is. out ∙ m.still (sym stopped ∙ is);
      })
]

-- it stops
pub matches_stop : (o : Option Seen) (stop : SeenStop) (d e : Debuggee) (t : Run) (x : Option Datum) → e.is_interpreted ≡ d.is_interpreted → e.is_stopped ≡ true → e.is_out ≡ false
    → StandsAt (Some t) stop → Matches o d (Some t) x → Matches (option_map (while_lives (stopped_seen stop)) o) e (Some t) x
matches_stop o stop d e t x inside stopped out stands m =
    let l = living o (stopped_seen stop) m.agrees.lives in
    let n = subst (λ (y : Option Seen). Matches y d (Some t) x) l.is m in
    subst (λ (y : Option Seen). Matches y e (Some t) x) (sym l.changed) (record {
      agrees = record {
        interpreted = n.agrees.interpreted ∙ sym inside;
        stopped = sym stopped;
        lives = n.agrees.lives;
        ended = n.agrees.ended;
        stands = λ other is. subst (StandsAt (Some t)) (same_Some stop other is) stands;
      };
      over = n.over;
      still = λ is. out;
    })

-- it ends
pub matches_end : (o : Option Seen) (text : List ℕ) (d e : Debuggee) (t : Run) (x : Option Datum) (reason : Datum) → e.is_interpreted ≡ false → e.is_stopped ≡ false → text ≡ term_text reason
    → Matches o d (Some t) x → Matches (option_map (while_lives (ended_seen text)) o) e None (Some reason)
matches_end o text d e t x reason inside stopped is m =
    let l = living o (ended_seen text) m.agrees.lives in
    subst (λ (y : Option Seen). Matches y e None (Some reason)) (sym l.changed) (record {
      agrees = record {
        interpreted = sym inside;
        stopped = sym stopped;
        lives = refl;
        ended = ap (λ (y : List ℕ). Some y) is;
        stands = λ stop none. absurd (none-some stop none);
      };
      over = λ no. refl;
      still = λ no. absurd (both_ways e.is_stopped stopped no);
    })

-- it is let go on
resumed_inside : (o : Option Seen) → seen_inside (option_map resumed_seen o) ≡ seen_inside o
resumed_inside None = refl
resumed_inside (Some x) = refl

resumed_stop : (o : Option Seen) → seen_stop (option_map resumed_seen o) ≡ None
resumed_stop None = refl
resumed_stop (Some x) = refl

resumed_living : (o : Option Seen) → seen_living (option_map resumed_seen o) ≡ seen_living o
resumed_living None = refl
resumed_living (Some x) = refl

resumed_ended : (o : Option Seen) → option_and_then (λ (x : Seen). x.ended) (option_map resumed_seen o) ≡ option_and_then (λ (x : Seen). x.ended) o
resumed_ended None = refl
resumed_ended (Some x) = refl

pub matches_resume : (o : Option Seen) (mode : Mode) (d : Debuggee) (t : Option Run) (x : Option Datum) → Matches o d t x → Matches (option_map resumed_seen o) (with_order (resumes mode) d) t x
matches_resume o mode d t x m =
    let free : (with_order (resumes mode) d).is_stopped ≡ false = resumed_stopped mode d d.is_stopped refl in
    record {
      agrees = record {
        interpreted = resumed_inside o ∙ (m.agrees.interpreted ∙ sym (order_keeps (λ (e : Debuggee). e.is_interpreted) (λ e n. refl) (λ e n. refl) (resumes mode) d));
        stopped = ap is_some (resumed_stop o) ∙ sym free;
        lives = resumed_living o ∙ m.agrees.lives;
        ended = resumed_ended o ∙ m.agrees.ended;
        stands = λ stop is. absurd (none-some stop (sym (resumed_stop o) ∙ is));
      };
      over = λ no. resumed_inside o ∙ m.over (sym (resumed_living o) ∙ no);
      still = λ is. absurd (both_ways _ free is);
    }
