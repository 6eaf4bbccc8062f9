-- A Stop of a legal journal was due, and no move passes a beginning that is due; what is due is stopped at.

use Rattle.std.proofs.Common.{◌≡◌, ◌⊎◌, inl, inr, ℕ, Bool, true, false, if◌then◌else◌, not, ◌&&◌, List, Option, None, Some, take, refl, sym, ◌∙◌, ap, subst}
use Rattle.std.specs.List.{slice_get}
use Rattle.std.proofs.lemmas.Bool.{both_ways}
use Rattle.std.proofs.lemmas.Option.{none-some}
use Rattle.edb_lang.specs.declared.small.Break.{Break}
use Rattle.edb_lang.specs.Syntax.{ModuleTree}
use Rattle.edb_model.specs.Running.{Run}
use Rattle.edb_model.specs.Move.{begins, next}
use Rattle.edb_event.specs.declared.entry.Cause.{Cause}
use Rattle.edb_event.specs.declared.entry.Entry.{Entry}
use Rattle.edb_event.specs.declared.entry.Entry.TheVariants as entry
use Rattle.edb_rules.specs.Plans.{Plan}
use Rattle.edb_rules.specs.Facts.{Handout, debuggee_at}
use Rattle.edb_rules.specs.Server.{is_among}
use Rattle.edb_rules.specs.Slices.{after_moves, has_body, level_in, is_ordered, active_among, asked_to, Why, ordered, broken, due, SliceEnd, leaves, enters, stops, if_spent, if_due, at_next, end_at}
use Rattle.edb_rules.specs.SliceEnds.{cause_of}
use Rattle.edb_rules.specs.Notes.{facts}
use Rattle.edb_rules.specs.Legal.{Legal}
use Rattle.edb_rules.specs.Stops.{WasDue, StandsBefore, GoesOn, PassesNone}
use Rattle.edb_rules.specs.Tells.{TellsLevel, TellsCall}
use Rattle.edb_rules.proofs.Entries.{may_at}
use Rattle.edb_rules.proofs.Endings.{stop_there, enter_there}
use Rattle.edb_rules.proofs.Fresh.{DueMeans, due_means, point_means}

-- what a Stop tells of why it is
was_due : (code : List ModuleTree) (h : Handout) (p i : ℕ) (t : Run) (m : List ℕ) (l : ℕ) (why : Why) → DueMeans code h p i t m l why → WasDue h m l (level_in t) (cause_of why)
was_due code h p i t m l why d = by d.cause
  where
    inside : is_among m h.modules ≡ true
    inside = (point_means h i m d.point).0

    by : ((why ≡ ordered) × (is_ordered h t ≡ true)) ⊎ ((b : Break) × ((why ≡ broken b) × (active_among m l h.rows ≡ Some b)) × (is_ordered h t ≡ false)) → WasDue h m l (level_in t) (cause_of why)
    by (inl is) = subst (λ (w : Why). WasDue h m l (level_in t) (cause_of w)) (sym is.0) (record { asks = is.1; interpreted = inside })
    by (inr is) =
        subst (λ (w : Why). WasDue h m l (level_in t) (cause_of w)) (sym is.1.0)
        (record { breakpoint = is.0; active = is.1.1; same = refl; interpreted = inside; unasked = is.2 })

pub stop_due : (plan : Plan) (journal : List Entry) (k p : ℕ) (m : List ℕ) (l n : ℕ) (by : Cause) → Legal plan journal
    → slice_get journal k ≡ Some (entry.Stop p m l n by) → WasDue (debuggee_at (facts plan (take k journal)) p).handout m l n by
stop_due plan journal k p m l n by legal at =
    let told = stop_there plan journal k p m l n by legal at in
    let h = (debuggee_at (facts plan (take k journal)) p).handout in
    let means = due_means plan.code h p told.moves told.running m l told.why told.due in
    subst (λ (c : Cause). WasDue h m l n c) (sym told.cause)
    (subst (λ (x : ℕ). WasDue h m l x (cause_of told.why)) (sym told.level_is) (was_due plan.code h p told.moves told.running m l told.why means))

pub stands_before : (plan : Plan) (journal : List Entry) (k p : ℕ) (m : List ℕ) (l n : ℕ) (by : Cause) → Legal plan journal
    → slice_get journal k ≡ Some (entry.Stop p m l n by) → StandsBefore (facts plan (take k journal)).plain p m l
stands_before plan journal k p m l n by legal at =
    let told = stop_there plan journal k p m l n by legal at in record { running = told.running; lives = told.lives; at = told.at }

pub stop_level : (plan : Plan) (journal : List Entry) (k p : ℕ) (m : List ℕ) (l n : ℕ) (by : Cause) → Legal plan journal
    → slice_get journal k ≡ Some (entry.Stop p m l n by) → TellsLevel (facts plan (take k journal)).plain p n
stop_level plan journal k p m l n by legal at =
    let told = stop_there plan journal k p m l n by legal at in record { running = told.running; lives = told.lives; same = told.level_is }

pub enter_call : (plan : Plan) (journal : List Entry) (k p : ℕ) (m f : List ℕ) (a : ℕ) → Legal plan journal
    → slice_get journal k ≡ Some (entry.Enter p m f a) → TellsCall (facts plan (take k journal)).plain p m f a
enter_call plan journal k p m f a legal at =
    let told = enter_there plan journal k p m f a legal at in record { running = told.running; lives = told.lives; home = told.home; name = told.name; arity = told.arity }

-- Where a slice goes on, it ends by none of its rules.
pub else_none : (t : Bool) (x : SliceEnd) (o : Option SliceEnd) → (if t then Some x else o) ≡ None → (t ≡ false) × (o ≡ None)
else_none true x o e = absurd (none-some x (sym e))
else_none false x o e = (refl, e)

due_undue : (h : Handout) (i all : ℕ) (o : Option Why) → if_due h i all o ≡ None → o ≡ None
due_undue h i all (Some why) e = absurd (none-some (stops why) (sym e))
due_undue h i all None e = refl

enters_undue : (h : Handout) (i all : ℕ) (b : Bool) (o : Option Why) → (if b then Some (enters o) else if_spent h i all) ≡ None → b ≡ false
enters_undue h i all true o e = absurd (none-some (enters o) (sym e))
enters_undue h i all false o e = refl

-- what a beginning means by which the slice doesn't end
record Undue (h : Handout) (m : List ℕ) (o : Option Why) : Type 0 where
  pub inside : h.is_interpreted ≡ true → o ≡ None
  pub outside : h.is_interpreted ≡ false → is_among m h.modules ≡ false

begin_undue : (h : Handout) (i all : ℕ) (m : List ℕ) (o : Option Why) (b : Bool) → h.is_interpreted ≡ b
    → (if b then if_due h i all o else if is_among m h.modules then Some (enters o) else if_spent h i all) ≡ None → Undue h m o
begin_undue h i all m o true is e = record { inside = λ yes_. due_undue h i all o e; outside = λ other. absurd (both_ways h.is_interpreted other is) }
begin_undue h i all m o false is e = record { inside = λ other. absurd (both_ways h.is_interpreted is other); outside = λ same. enters_undue h i all (is_among m h.modules) o e }

-- no beginning of a module that isn't interpreted by what was taken in is due
not_due : (code : List ModuleTree) (h : Handout) (p i : ℕ) (t : Run) (m : List ℕ) (l : ℕ) (o : Option Why) → due code h p i t m l ≡ o → is_among m h.modules ≡ false → o ≡ None
not_due code h p i t m l None is out = refl
not_due code h p i t m l (Some why) is out = absurd (both_ways (is_among m h.modules) out (point_means h i m (due_means code h p i t m l why is).point).0)

goes_on : (plan : Plan) (h : Handout) (p : ℕ) (t : Run) (i : ℕ) → end_at plan.code h p t i ≡ None → GoesOn plan h p t i
goes_on plan h p t i e = record {
  goes = e;
  undue = λ m l is. undue_at m l is (told m l is) h.is_interpreted refl;
  inside = λ on. inside on;
  outside = λ m l is off. (told m l is).outside off;
}
  where
    u : Run
    u = after_moves plan.code h.versions i t

    all : ℕ
    all = asked_to plan.code h p t i

    parts : ((h.is_interpreted && not (has_body h.modules u)) ≡ false) × (at_next plan.code h p i all u (next u) ≡ None)
    parts = else_none (h.is_interpreted && not (has_body h.modules u)) leaves (at_next plan.code h p i all u (next u)) e

    told : (m : List ℕ) (l : ℕ) → next u ≡ begins m l → Undue h m (due plan.code h p i u m l)
    told m l is =
        let there : at_next plan.code h p i all u (begins m l) ≡ None = ap (at_next plan.code h p i all u) (sym is) ∙ parts.1 in
        begin_undue h i all m (due plan.code h p i u m l) h.is_interpreted refl there

    undue_at : (m : List ℕ) (l : ℕ) → next u ≡ begins m l → Undue h m (due plan.code h p i u m l) → (b : Bool) → h.is_interpreted ≡ b → due plan.code h p i u m l ≡ None
    undue_at m l is d true on = d.inside on
    undue_at m l is d false off = not_due plan.code h p i u m l (due plan.code h p i u m l) refl (d.outside off)

    inside : h.is_interpreted ≡ true → has_body h.modules u ≡ true
    inside on = has_one (has_body h.modules u) (ap (λ (b : Bool). b && not (has_body h.modules u)) (sym on) ∙ parts.0)
      where
        has_one : (b : Bool) → not b ≡ false → b ≡ true
        has_one true e = refl
        has_one false e = absurd (both_ways true e refl)

pub none_passed : (plan : Plan) (journal : List Entry) (k p n c : ℕ) → Legal plan journal → slice_get journal k ≡ Some (entry.Ran p n c) → PassesNone plan (facts plan (take k journal)) p n
none_passed plan journal k p n c legal at =
    let rule = (may_at plan journal k (entry.Ran p n c) legal at).rule in
    record { running = rule.running; lives = rule.lives; each = λ i less. goes_on plan (debuggee_at (facts plan (take k journal)) p).handout p rule.running i (rule.slice.goes i less) }
