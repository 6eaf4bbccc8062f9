-- The act that is next for a process: what it makes of the state, and that its entry may stand.

use Rattle.std.proofs.Common.{◌≡◌, inl, inr, ◌≤◌, ◌+◌, ◌-◌, ℕ, zero, suc, false, List, [], ◌++◌, Option, None, Some, IsSome, slice_set, refl, sym, ◌∙◌, ap, subst, arith}
use Rattle.std.specs.Option.{IsSomeAnd}
use Rattle.std.proofs.lemmas.Option.{same_Some}
use Rattle.edb_lang.specs.declared.act.ActKind.{ActKind}
use Rattle.edb_lang.specs.declared.act.ActKind.TheVariants as kind
use Rattle.edb_lang.specs.TermText.{term_text}
use Rattle.edb_lang.specs.Terms.{Datum}
use Rattle.edb_model.specs.Running.{Run}
use Rattle.edb_model.specs.Move.{acts, next, redex, answered}
use Rattle.edb_model.specs.Acts.{displayed, true_term, exit_reason}
use Rattle.edb_model.specs.Bonds.{no_bonds}
use Rattle.edb_model.specs.Procs.{Member, new_member, numbered, ended_member}
use Rattle.edb_model.specs.Plain as model
use Rattle.edb_event.specs.declared.entry.Entry.TheVariants as entry
use Rattle.edb_rules.specs.Plans.{Plan}
use Rattle.edb_rules.specs.Facts.{Debuggee, Facts, debuggee_at}
use Rattle.edb_rules.specs.Server.{Server}
use Rattle.edb_rules.specs.Noted as news
use Rattle.edb_rules.specs.Turns.{Act, does, act_of, turn_of, IsFirst}
use Rattle.edb_rules.specs.Ranks.{AtTurn}
use Rattle.edb_rules.specs.Notes.{acted_debuggee, ended_debuggee}
use Rattle.edb_rules.specs.Legal.{MayAct, May}
use Rattle.edb_rules.proofs.Turning.{acts_in, act_is, same_act}
use Rattle.edb_world.specs.Known.{Known, noted, running_at}
use Rattle.edb_world.specs.Turns.{IsActing, act_entry}

-- a process that is ready for an act has that act next
pub record IsNextAct (f : Facts) (p : ℕ) (k : ActKind) (a : Act) : Type 0 where
  pub running : Run
  pub lives : model.running_at f.plain p ≡ Some running
  pub is_next : next running ≡ acts k
  pub act : act_of k running ≡ Some a

pub next_act : (f : Facts) (p : ℕ) (k : ActKind) (acting : IsActing f p k) → IsNextAct f p k acting.act
next_act f p k acting =
    let told = acts_in f p acting.act acting.turn in
    record {
      running = told.ready.running;
      lives = told.ready.lives;
      is_next = told.is_next ∙ ap acts (sym acting.kind);
      act = subst (λ (x : ActKind). act_of x told.ready.running ≡ Some acting.act) (sym acting.kind) told.act;
    }

pub acting_lives : (f : Facts) (p : ℕ) (k : ActKind) → IsActing f p k → IsSome (model.running_at f.plain p)
acting_lives f p k acting = subst (λ (o : Option Run). IsSome o) (sym (next_act f p k acting).lives) refl

-- what is next for the process that was found there
pub next_here : (f : Facts) (p : ℕ) (k : ActKind) (acting : IsActing f p k) (t : Run) → model.running_at f.plain p ≡ Some t → next t ≡ acts k
next_here f p k acting t lives =
    let told = next_act f p k acting in subst (λ (x : Run). next x ≡ acts k) (same_Some told.running t (sym told.lives ∙ lives)) told.is_next

-- the act of the turn, by the expression
same_turn : (f : Facts) (p : ℕ) (k : ActKind) → IsActing f p k → (t : Run) (a : Act) → model.running_at f.plain p ≡ Some t → turn_of f p ≡ Some (does a) → act_of k t ≡ Some a
same_turn f p k acting t a lives turn =
    let told = next_act f p k acting in
    let same : acting.act ≡ a = same_act acting.act a (same_Some (does acting.act) (does a) (sym acting.turn ∙ turn)) in
    ap (act_of k) (sym (same_Some told.running t (sym told.lives ∙ lives))) ∙ (told.act ∙ ap (λ (x : Act). Some x) same)

pub print_is : (f : Facts) (p : ℕ) (acting : IsActing f p kind.Print) (t : Run) (a : Act) → model.running_at f.plain p ≡ Some t → turn_of f p ≡ Some (does a)
    → entry.Did p kind.Print (term_text true_term) (displayed (redex t).1) ≡ act_entry p a
print_is f p acting t a lives turn = ap (act_entry p) (same_Some _ a (same_turn f p kind.Print acting t a lives turn))

pub end_is : (f : Facts) (p : ℕ) (acting : IsActing f p kind.End) (t : Run) (a : Act) → model.running_at f.plain p ≡ Some t → turn_of f p ≡ Some (does a)
    → entry.Did p kind.End (term_text (exit_reason t)) [] ≡ act_entry p a
end_is f p acting t a lives turn = ap (act_entry p) (same_Some _ a (same_turn f p kind.End acting t a lives turn))

-- an act that isn't a print is the end
pub end_acting : (f : Facts) (p : ℕ) (k : ActKind) → IsActing f p k → (k ≡ kind.Print → ⊥) → IsActing f p kind.End
end_acting f p k acting other =
    let told = next_act f p k acting in
    elim (act_is k told.running acting.act told.act) [
      | inl print ↦ absurd (other print)
      | inr end ↦ record { act = acting.act; turn = acting.turn; kind = sym end ∙ acting.kind }
    ]

-- the answer was put into the process that is there
pub answered_is : (o : Option Run) (t : Run) (q : Option Run) (v : Datum) → o ≡ Some t → IsSomeAnd o (λ u. q ≡ Some (answered v u)) → q ≡ Some (answered v t)
answered_is o t q v is there = subst (λ (x : Option Run). IsSomeAnd x (λ u. q ≡ Some (answered v u))) is there

-- the state after each, by what stands at the process's place in each list
pub print_noted : (k new : Known) (p : ℕ) (t : Run) (value bytes : List ℕ) (d e : Debuggee) (q : Option Run)
    → 1 ≤ p → running_at k p ≡ Some t → next t ≡ acts kind.Print → k.facts.has_quit ≡ false
    → debuggee_at k.facts p ≡ d → e ≡ acted_debuggee kind.Print d → q ≡ Some (answered true_term t) → bytes ≡ displayed (redex t).1
    → new ≡ record k {
      facts = record k.facts {
        debuggees = slice_set k.facts.debuggees (p - 1) e;
        turn = p;
        weight = k.facts.weight + 1;
        plain = record k.facts.plain { running = slice_set k.facts.plain.running (p - 1) q; output = k.facts.plain.output ++ bytes };
      };
    }
    → new ≡ noted k (entry.Did p kind.Print value bytes)
print_noted k new zero t value bytes d e q some lives is open_ known after next_ printed same = absurd (omega (arith, some))
print_noted k new (suc i) t value bytes d e q some lives is open_ known after next_ printed same =
    let back : suc i - 1 ≡ i = omega arith in
    same ∙ rw (back, next_, printed, after, ← known, lives, is, open_) refl

pub end_noted : (k new : Known) (p : ℕ) (t : Run) (value : List ℕ) (m : Member) (d e : Debuggee) (q : Option Run) (n : Member) (s : Server)
    → 1 ≤ p → running_at k p ≡ Some t → next t ≡ acts kind.End → k.facts.has_quit ≡ false
    → k.facts.plain.procs.names ≡ [] → k.facts.plain.procs.bonds ≡ no_bonds
    → numbered new_member k.facts.plain.procs.members p ≡ m → n ≡ ended_member (exit_reason t) m
    → debuggee_at k.facts p ≡ d → e ≡ ended_debuggee d → q ≡ None → s ≡ news.noted k.facts.server (news.ended p value)
    → new ≡ record k {
      facts = record k.facts {
        server = s;
        debuggees = slice_set k.facts.debuggees (p - 1) e;
        turn = p;
        weight = k.facts.weight + 1;
        plain = record k.facts.plain {
          procs = record k.facts.plain.procs { members = slice_set k.facts.plain.procs.members (p - 1) n };
          running = slice_set k.facts.plain.running (p - 1) q;
        };
      };
    }
    → new ≡ noted k (entry.Did p kind.End value [])
end_noted k new zero t value m d e q n s some lives is open_ names bonds member ends known after none told same = absurd (omega (arith, some))
end_noted k new (suc i) t value m d e q n s some lives is open_ names bonds member ends known after none told same =
    let back : suc i - 1 ≡ i = omega arith in
    same ∙ rw (back, none, told, ends, ← member, after, ← known, lives, is, open_, names, bonds) refl

-- the entry of an act of the process that has the turn may stand
pub act_may : (plan : Plan) (f : Facts) (p : ℕ) (k : ActKind) (acting : IsActing f p k) → AtTurn plan f → IsFirst f p → May plan f (act_entry p acting.act)
act_may plan f p k acting at first =
    let told = next_act f p k acting in
    let t = told.running in
    let rule : MayAct plan f p acting.act.kind (term_text acting.act.answer) acting.act.prints
    = record { at = at; first = first; act = acting.act; turn = acting.turn; kind = refl; answer = refl; prints = refl } in
    elim (act_is k t acting.act told.act) [
      | inl print ↦ (
          let is : next t ≡ acts kind.Print = told.is_next ∙ ap acts print in
          record {
            rule = rule;
            plain = record (model.with_running f.plain p (Some (answered true_term t))) { output = f.plain.output ++ displayed (redex t).1 };
            enabled = rw told.lives (rw is refl);
          })
      | inr end ↦ (
          let is : next t ≡ acts kind.End = told.is_next ∙ ap acts end in
          record { rule = rule; plain = model.ended f.plain p (exit_reason t); enabled = rw told.lives (rw is refl) })
    ]
