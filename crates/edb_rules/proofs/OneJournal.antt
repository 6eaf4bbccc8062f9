-- With one hand the rules leave one next entry at each place, so of two legal journals of a plan one begins the other.

use Rattle.std.proofs.Common.{◌≡◌, ◌⊎◌, inl, inr, ℕ, zero, suc, ◌<◌, Bool, true, false, List, [], ◌∷◌, ◌++◌, Option, None, Some, refl, sym, ◌∙◌, ap, ap₂, subst, append-nil, arith}
use Rattle.std.specs.Prelude.{IfSome}
use Rattle.std.proofs.lemmas.Bool.{both_ways, cases_order}
use Rattle.std.proofs.lemmas.Option.{none-some, same_Some}
use Rattle.edb_lang.specs.declared.small.Action.{Action}
use Rattle.edb_lang.specs.Syntax.{ModuleTree}
use Rattle.edb_lang.specs.Terms.{Datum}
use Rattle.edb_lang.specs.declared.act.ActKind.{ActKind}
use Rattle.edb_lang.specs.declared.act.ActKind.TheVariants as kind
use Rattle.edb_model.specs.Running.{Run}
use Rattle.edb_model.specs.Plain.{running_at}
use Rattle.edb_event.specs.declared.entry.Entry.{Entry}
use Rattle.edb_event.specs.declared.entry.Entry.TheVariants as entry
use Rattle.edb_event.specs.declared.call.Call.{Call}
use Rattle.edb_event.specs.declared.call.Call.TheVariants as command
use Rattle.edb_event.specs.declared.reply.Reply.{Reply}
use Rattle.edb_event.specs.declared.reply.Reply.TheVariants as reply
use Rattle.edb_event.specs.Ranges.{MayAnswer}
use Rattle.edb_rules.specs.Plans.{Plan}
use Rattle.edb_rules.specs.Facts.{Handout, Debuggee, OwedTrigger, Facts, at_first, debuggee_at}
use Rattle.edb_rules.specs.Slices.{SliceEnd, asked_to, IsSlice}
use Rattle.edb_rules.specs.Replies.{next_call, is_enabled}
use Rattle.edb_rules.specs.Server.{Server}
use Rattle.edb_rules.specs.Refusals.{refused}
use Rattle.edb_rules.specs.Answers.{reply_of}
use Rattle.edb_rules.specs.Turns.{Turn, leases, does, turn_of, IsSooner, IsFirst}
use Rattle.edb_rules.specs.Ranks.{MayBegin, AtCommand, AtSignal, NoLease, IsWaiting, IsNext}
use Rattle.edb_rules.specs.Orders.{order_of}
use Rattle.edb_rules.specs.Notes.{debuggee_with, acted_debuggee, note, after, facts}
use Rattle.edb_rules.specs.Legal.{MayStart, IsAnswered, IsQuiet, MayServe, IsLeasedAgain, MayLease, MayRun, MayAct, MayEnd, MayTrigger, May, JudgedFrom, LegalFrom, Legal, MayAlone, IsOneHanded, HasQuit, IsThrough, IsLimit, IsOver}
use Rattle.edb_rules.specs.Begins.{IsBeginning}
use Rattle.edb_rules.proofs.Changes.{Changed, IsKept, each, changed_or, order_keeps}
use Rattle.edb_rules.proofs.Kept.{no_load, no_advance}
use Rattle.edb_rules.proofs.Turning.{same_act, no_lease}
use Rattle.edb_rules.proofs.Endings.{IsNoLease}

-- At most one lease is out.
abbrev pub IsOneOut : Facts → Type 0
IsOneOut f = (p q : ℕ) → (debuggee_at f p).is_out ≡ true → (debuggee_at f q).is_out ≡ true → p ≡ q

abbrev IsNew : Debuggee → Debuggee → Type 0
IsNew d e = e.is_out ≡ true → d.is_out ≡ true

act_new : (k : ActKind) (d : Debuggee) → IsNew d (acted_debuggee k d)
act_new kind.End d out = absurd (both_ways false refl out)
act_new kind.Wait d out = out
act_new _ d out = out

none_new_with : (plan : Plan) (f : Facts) (e : Entry) (d : Debuggee) → May plan f e → IsNoLease e → IsNew d (debuggee_with f e d)
none_new_with plan f (entry.Lease p b) d may none out = absurd none
none_new_with plan f (entry.Ran p n c) d may none out = absurd (both_ways false refl out)
none_new_with plan f (entry.Did p k v bytes) d may none out = act_new k d out
none_new_with plan f (entry.Served c x r) d may none out = sym (order_keeps (λ (y : Debuggee). y.is_out) (λ y m. refl) (λ y m. refl) (order_of f.plain x) d) ∙ out
none_new_with plan f (entry.Signal p r) d may none out = absurd may.rule
none_new_with plan f (entry.Kill c p) d may none out = absurd may.rule
none_new_with plan f _ d may none out = out

pub none_new : (plan : Plan) (f : Facts) (e : Entry) → May plan f e → IsNoLease e → (q : ℕ) → (debuggee_at (note plan f e) q).is_out ≡ true → (debuggee_at f q).is_out ≡ true
none_new plan f e may none q = each IsNew (λ d out. out) (λ d out. out) plan f e q (λ same. none_new_with plan f e (debuggee_at f q) may none)

fewer : (f g : Facts) → IsOneOut f → ((q : ℕ) → (debuggee_at g q).is_out ≡ true → (debuggee_at f q).is_out ≡ true) → IsOneOut g
fewer f g a none p q x y = a p q (none p x) (none q y)

-- the one that a lease takes out
only : (plan : Plan) (f : Facts) (p b : ℕ) → NoLease f → (q : ℕ) → (debuggee_at (note plan f (entry.Lease p b)) q).is_out ≡ true → p ≡ q
only plan f p b none q out = by (changed_or plan f (entry.Lease p b) q)
  where
    d : Debuggee
    d = debuggee_at (note plan f (entry.Lease p b)) q

    of_kept : IsKept (debuggee_at f q) d → p ≡ q
    of_kept (inl is) = absurd (both_ways _ (none q) (ap (λ (x : Debuggee). x.is_out) (sym is) ∙ out))
    of_kept (inr is) = absurd (both_ways _ (none q) (ap (λ (x : Debuggee). x.is_out) (sym is) ∙ out))

    by : Changed f (entry.Lease p b) q d → p ≡ q
    by (inl both) = both.0
    by (inr kept) = of_kept kept

pub out_step : (plan : Plan) (f : Facts) (e : Entry) → IsOneOut f → May plan f e → MayAlone plan f e → IsOneOut (note plan f e)
out_step plan f (entry.Lease p b) a may alone = λ q r x y. sym (only plan f p b alone q x) ∙ only plan f p b alone r y
out_step plan f (entry.Start c p m n args) a may alone = fewer f (note plan f (entry.Start c p m n args)) a (none_new plan f (entry.Start c p m n args) may tt)
out_step plan f (entry.Load c m v) a may alone = absurd (no_load plan f c m v may)
out_step plan f (entry.Skip c p) a may alone = absurd may.rule
out_step plan f (entry.Kill c p) a may alone = absurd may.rule
out_step plan f (entry.Expire c p) a may alone = absurd may.rule
out_step plan f (entry.Ran p n c) a may alone = fewer f (note plan f (entry.Ran p n c)) a (none_new plan f (entry.Ran p n c) may tt)
out_step plan f (entry.Ask p k) a may alone = absurd may.rule
out_step plan f (entry.Did p k v bytes) a may alone = fewer f (note plan f (entry.Did p k v bytes)) a (none_new plan f (entry.Did p k v bytes) may tt)
out_step plan f (entry.Took p) a may alone = absurd may.rule
out_step plan f (entry.Forward p) a may alone = absurd may.rule
out_step plan f (entry.Leave p) a may alone = fewer f (note plan f (entry.Leave p)) a (none_new plan f (entry.Leave p) may tt)
out_step plan f (entry.Enter p m n b) a may alone = fewer f (note plan f (entry.Enter p m n b)) a (none_new plan f (entry.Enter p m n b) may tt)
out_step plan f (entry.Signal p r) a may alone = absurd may.rule
out_step plan f (entry.Advance t) a may alone = absurd (no_advance plan f t may)
out_step plan f (entry.Stop p m l n by) a may alone = fewer f (note plan f (entry.Stop p m l n by)) a (none_new plan f (entry.Stop p m l n by) may tt)
out_step plan f (entry.Trigger p m l s t applied) a may alone = fewer f (note plan f (entry.Trigger p m l s t applied)) a (none_new plan f (entry.Trigger p m l s t applied) may tt)
out_step plan f (entry.Served c x r) a may alone = fewer f (note plan f (entry.Served c x r)) a (none_new plan f (entry.Served c x r) may tt)

-- an entry of each kind, with its rule
record Runs (plan : Plan) (f : Facts) (e : Entry) : Type 0 where
  pub process : ℕ
  pub moves : ℕ
  pub conditions : ℕ
  pub is : e ≡ entry.Ran process moves conditions
  pub may : MayRun plan f process moves conditions

record Triggers (plan : Plan) (f : Facts) (e : Entry) : Type 0 where
  pub process : ℕ
  pub home : List ℕ
  pub line : ℕ
  pub serial : ℕ
  pub action : Action
  pub applied : Bool
  pub is : e ≡ entry.Trigger process home line serial action applied
  pub may : MayTrigger plan f process home line serial action applied
  pub alone : NoLease f

record Starts (plan : Plan) (f : Facts) (e : Entry) : Type 0 where
  pub console : ℕ
  pub process : ℕ
  pub home : List ℕ
  pub name : List ℕ
  pub args : Datum
  pub is : e ≡ entry.Start console process home name args
  pub may : MayStart plan f console process home name args
  pub alone : NoLease f

record Serves (plan : Plan) (f : Facts) (e : Entry) : Type 0 where
  pub console : ℕ
  pub command : Call
  pub answer : Reply
  pub is : e ≡ entry.Served console command answer
  pub may : IsAnswered plan f console command answer
  pub served : MayAnswer command answer
  pub alone : NoLease f

record Leases (plan : Plan) (f : Facts) (e : Entry) : Type 0 where
  pub process : ℕ
  pub budget : ℕ
  pub is : e ≡ entry.Lease process budget
  pub may : MayLease plan f process budget
  pub turn : turn_of f process ≡ Some leases
  pub alone : NoLease f

record Acts (plan : Plan) (f : Facts) (e : Entry) : Type 0 where
  pub process : ℕ
  pub act : ActKind
  pub value : List ℕ
  pub bytes : List ℕ
  pub is : e ≡ entry.Did process act value bytes
  pub may : MayAct plan f process act value bytes
  pub alone : NoLease f

record Quiets (plan : Plan) (f : Facts) (e : Entry) : Type 0 where
  pub console : ℕ
  pub command : Call
  pub answer : Reply
  pub is : e ≡ entry.Served console command answer
  pub may : IsQuiet plan f console command answer
  pub alone : NoLease f

abbrev Commands : Plan → Facts → Entry → Type 0
Commands plan f e = Starts plan f e ⊎ Serves plan f e

abbrev Turns : Plan → Facts → Entry → Type 0
Turns plan f e = Leases plan f e ⊎ Acts plan f e

abbrev Late : Plan → Facts → Entry → Type 0
Late plan f e = Turns plan f e ⊎ Quiets plan f e

abbrev Calm : Plan → Facts → Entry → Type 0
Calm plan f e = Commands plan f e ⊎ Late plan f e

abbrev Alone : Plan → Facts → Entry → Type 0
Alone plan f e = Triggers plan f e ⊎ Calm plan f e

abbrev Later : Plan → Facts → Entry → Type 0
Later plan f e = Runs plan f e ⊎ Alone plan f e

abbrev Sorted : Plan → Facts → Entry → Type 0
Sorted plan f e = MayEnd f e ⊎ Later plan f e

turn_alone : (plan : Plan) (f : Facts) (p b : ℕ) → NoLease f → MayLease plan f p b → turn_of f p ≡ Some leases
turn_alone plan f p b alone may = by may.turn
  where
    by : (turn_of f p ≡ Some leases) ⊎ IsLeasedAgain f p → turn_of f p ≡ Some leases
    by (inl turn) = turn
    by (inr again) = absurd (both_ways _ (alone p) again.out)

served_sorted : (plan : Plan) (f : Facts) (c : ℕ) (x : Call) (r : Reply) → NoLease f → MayServe plan f c x r → Calm plan f (entry.Served c x r)
served_sorted plan f c x r alone may = by may.answer
  where
    by : IsAnswered plan f c x r ⊎ IsQuiet plan f c x r → Calm plan f (entry.Served c x r)
    by (inl a) = inl (inr (record { console = c; command = x; answer = r; is = refl; may = a; served = may.served; alone = alone }))
    by (inr q) = inr (inr (record { console = c; command = x; answer = r; is = refl; may = q; alone = alone }))

sorted : (plan : Plan) (f : Facts) (e : Entry) → May plan f e → MayAlone plan f e → Sorted plan f e
sorted plan f (entry.Start c p m n args) may alone =
    inr (inr (inr (inl (inl (record { console = c; process = p; home = m; name = n; args = args; is = refl; may = may.rule; alone = alone })))))
sorted plan f (entry.Load c m v) may alone = absurd (no_load plan f c m v may)
sorted plan f (entry.Skip c p) may alone = absurd may.rule
sorted plan f (entry.Kill c p) may alone = absurd may.rule
sorted plan f (entry.Expire c p) may alone = absurd may.rule
sorted plan f (entry.Lease p b) may alone =
    inr (inr (inr (inr (inl (inl (record { process = p; budget = b; is = refl; may = may.rule; turn = turn_alone plan f p b alone may.rule; alone = alone }))))))
sorted plan f (entry.Ran p n c) may alone = inr (inl (record { process = p; moves = n; conditions = c; is = refl; may = may.rule }))
sorted plan f (entry.Ask p k) may alone = absurd may.rule
sorted plan f (entry.Did p k v bytes) may alone =
    inr (inr (inr (inr (inl (inr (record { process = p; act = k; value = v; bytes = bytes; is = refl; may = may.rule; alone = alone }))))))
sorted plan f (entry.Took p) may alone = absurd may.rule
sorted plan f (entry.Forward p) may alone = absurd may.rule
sorted plan f (entry.Leave p) may alone = inl may.rule
sorted plan f (entry.Enter p m n a) may alone = inl may.rule
sorted plan f (entry.Signal p r) may alone = absurd may.rule
sorted plan f (entry.Advance t) may alone = absurd (no_advance plan f t may)
sorted plan f (entry.Stop p m l n by) may alone = inl may.rule
sorted plan f (entry.Trigger p m l s a applied) may alone =
    inr (inr (inl (record { process = p; home = m; line = l; serial = s; action = a; applied = applied; is = refl; may = may.rule; alone = alone })))
sorted plan f (entry.Served c x r) may alone = inr (inr (inr (served_sorted plan f c x r alone may.rule)))

-- two entries of one kind are one, and no two stand at one place that are of two kinds
one_of : (A B : Entry → Type 0) (e d : Entry) → (A e → A d → e ≡ d) → (B e → B d → e ≡ d) → (A e → B d → ⊥) → (A d → B e → ⊥)
    → A e ⊎ B e → A d ⊎ B d → e ≡ d
one_of A B e d first second left right (inl x) (inl y) = first x y
one_of A B e d first second left right (inl x) (inr y) = absurd (left x y)
one_of A B e d first second left right (inr x) (inl y) = absurd (right y x)
one_of A B e d first second left right (inr x) (inr y) = second x y

-- two numbers of which neither is less are the same
same_least : (p q : ℕ) → (p < q → ⊥) → (q < p → ⊥) → p ≡ q
same_least p q under over = elim (cases_order p q) [
  | inl same ↦ same
  | inr (inl less) ↦ absurd (under less)
  | inr (inr more) ↦ absurd (over more)
]

-- turns go round, so one process has the turn
nearer : (last p q : ℕ) → p < q → IsSooner last p q ⊎ IsSooner last q p
nearer last p q less = elim (cases_order last p) [
  | inl same ↦ inr (inr (omega arith, inl (omega arith)))
  | inr (inl below) ↦ inl (inl (below, less))
  | inr (inr above) ↦ elim (cases_order last q) [
    | inl other ↦ inl (inr (omega arith, inr less))
    | inr (inl below) ↦ inr (inr (omega arith, inl below))
    | inr (inr over) ↦ inl (inr (omega arith, inr less))
  ]
]

record HasTurn (f : Facts) (p : ℕ) : Type 0 where
  pub turn : Turn
  pub is : turn_of f p ≡ Some turn
  pub first : IsFirst f p

not_before : (f : Facts) (p q : ℕ) → HasTurn f p → HasTurn f q → p < q → ⊥
not_before f p q x y less = elim (nearer f.turn p q less) [
  | inl sooner ↦ y.first p x.turn x.is sooner
  | inr sooner ↦ x.first q y.turn y.is sooner
]

same_process : (f : Facts) (p q : ℕ) → HasTurn f p → HasTurn f q → p ≡ q
same_process f p q x y = same_least p q (not_before f p q x y) (not_before f q p y x)

lease_turn : (plan : Plan) (f : Facts) (e : Entry) (x : Leases plan f e) → HasTurn f x.process
lease_turn plan f e x = record { turn = leases; is = x.turn; first = x.may.first }

act_turn : (plan : Plan) (f : Facts) (e : Entry) (x : Acts plan f e) → HasTurn f x.process
act_turn plan f e x = record { turn = does x.may.act; is = x.may.turn; first = x.may.first }

one_lease : (plan : Plan) (f : Facts) (e d : Entry) → Leases plan f e → Leases plan f d → e ≡ d
one_lease plan f e d x y =
    let same = same_process f x.process y.process (lease_turn plan f e x) (lease_turn plan f d y) in
    let budget : x.budget ≡ y.budget = x.may.allowed ∙ sym y.may.allowed in
    x.is ∙ (ap₂ (λ (p b : ℕ). entry.Lease p b) same budget ∙ sym y.is)

same_turn : (f : Facts) (p q : ℕ) (t u : Turn) → p ≡ q → turn_of f p ≡ Some t → turn_of f q ≡ Some u → t ≡ u
same_turn f p q t u same x y = same_Some t u (sym x ∙ (ap (turn_of f) same ∙ y))

one_act : (plan : Plan) (f : Facts) (e d : Entry) → Acts plan f e → Acts plan f d → e ≡ d
one_act plan f e d x y =
    let same = same_process f x.process y.process (act_turn plan f e x) (act_turn plan f d y) in
    let act = same_act x.may.act y.may.act (same_turn f x.process y.process (does x.may.act) (does y.may.act) same x.may.turn y.may.turn) in
    cc (x.is, y.is, x.may.kind, y.may.kind, x.may.answer, y.may.answer, x.may.prints, y.may.prints)

lease_no_act : (plan : Plan) (f : Facts) (e d : Entry) → Leases plan f e → Acts plan f d → ⊥
lease_no_act plan f e d x y =
    let same = same_process f x.process y.process (lease_turn plan f e x) (act_turn plan f d y) in
    no_lease y.may.act (sym (same_turn f x.process y.process leases (does y.may.act) same x.turn y.may.turn))

one_turn : (plan : Plan) (f : Facts) (e d : Entry) → Turns plan f e → Turns plan f d → e ≡ d
one_turn plan f e d = one_of (Leases plan f) (Acts plan f) e d (one_lease plan f e d) (one_act plan f e d) (lease_no_act plan f e d) (lease_no_act plan f d e)

-- the least console that has a command answers it
waits_none : (plan : Plan) (f : Facts) (c : ℕ) (x : Call) → next_call plan f c ≡ Some x → is_enabled f x ≡ true → IsWaiting plan f c → ⊥
waits_none plan f c x call enabled waits = both_ways _ (subst (λ (o : Option Call). IfSome o (λ y. is_enabled f y ≡ false)) call waits) enabled

next_below : (plan : Plan) (f : Facts) (c d : ℕ) (x y : Call) → IsNext plan f c x → is_enabled f x ≡ true → IsNext plan f d y → c < d → ⊥
next_below plan f c d x y a enabled b less = waits_none plan f c x a.call enabled (b.first c a.console.0 less)

same_call : (plan : Plan) (f : Facts) (c d : ℕ) (x y : Call) → c ≡ d → next_call plan f c ≡ Some x → next_call plan f d ≡ Some y → x ≡ y
same_call plan f c d x y same a b = same_Some x y (sym a ∙ (ap (next_call plan f) same ∙ b))

same_next : (plan : Plan) (f : Facts) (c d : ℕ) (x y : Call) → IsNext plan f c x → is_enabled f x ≡ true → IsNext plan f d y → is_enabled f y ≡ true → c ≡ d
same_next plan f c d x y a on b other = same_least c d (next_below plan f c d x y a on b) (next_below plan f d c y x b other a)

one_start : (plan : Plan) (f : Facts) (e d : Entry) → Starts plan f e → Starts plan f d → e ≡ d
one_start plan f e d x y =
    let console = same_next plan f x.console y.console _ _ x.may.next refl y.may.next refl in
    let same : command.Start x.home x.name x.args ≡ command.Start y.home y.name y.args = same_call plan f x.console y.console _ _ console x.may.next.call y.may.next.call in
    cc (x.is, y.is, x.may.number, y.may.number)

one_serve : (plan : Plan) (f : Facts) (e d : Entry) → Serves plan f e → Serves plan f d → e ≡ d
one_serve plan f e d x y =
    let console = same_next plan f x.console y.console x.command y.command x.may.next x.may.enabled y.may.next y.may.enabled in
    let same = same_call plan f x.console y.console x.command y.command console x.may.next.call y.may.next.call in
    let answer : x.answer ≡ y.answer = x.may.same ∙ (ap₂ (λ (n : ℕ) (z : Call). reply_of f.server n z) console same ∙ sym y.may.same) in
    cc (x.is, y.is)

-- a start that is accepted isn't refused
start_accepted : (s : Server) (c d : ℕ) (m n : List ℕ) (args : Datum) → refused s d (command.Start m n args) ≡ None → reply_of s c (command.Start m n args) ≡ reply.Ok
start_accepted s c d m n args none = let same : refused s c (command.Start m n args) ≡ None = none in rw same refl

start_no_serve : (plan : Plan) (f : Facts) (e d : Entry) → Starts plan f e → Serves plan f d → ⊥
start_no_serve plan f e d x y =
    let console = same_next plan f x.console y.console _ y.command x.may.next refl y.may.next y.may.enabled in
    let same = same_call plan f x.console y.console _ y.command console x.may.next.call y.may.next.call in
    let answer : y.answer ≡ reply.Ok = y.may.same ∙ (ap (reply_of f.server y.console) (sym same) ∙ start_accepted f.server y.console x.console x.home x.name x.args x.may.allowed) in
    subst (λ (r : Reply). MayAnswer (command.Start x.home x.name x.args) r) answer (subst (λ (z : Call). MayAnswer z y.answer) (sym same) y.served)

one_command : (plan : Plan) (f : Facts) (e d : Entry) → Commands plan f e → Commands plan f d → e ≡ d
one_command plan f e d = one_of (Starts plan f) (Serves plan f) e d (one_start plan f e d) (one_serve plan f e d) (start_no_serve plan f e d) (start_no_serve plan f d e)

-- one await is answered `quiet`
quiet_below : (plan : Plan) (f : Facts) (e d : Entry) (x : Quiets plan f e) (y : Quiets plan f d) → x.console < y.console → ⊥
quiet_below plan f e d x y less = none-some _ (sym (y.may.first x.console x.may.console.0 less) ∙ x.may.call)

one_quiet : (plan : Plan) (f : Facts) (e d : Entry) → Quiets plan f e → Quiets plan f d → e ≡ d
one_quiet plan f e d x y =
    let console : x.console ≡ y.console = same_least x.console y.console (quiet_below plan f e d x y) (quiet_below plan f d e y x) in
    let same = same_call plan f x.console y.console x.command y.command console x.may.call y.may.call in
    cc (x.is, y.is, x.may.same, y.may.same)

turn_no_quiet : (plan : Plan) (f : Facts) (e d : Entry) → Turns plan f e → Quiets plan f d → ⊥
turn_no_quiet plan f e d (inl x) y = none-some _ (sym (y.may.at.at.still x.process) ∙ x.turn)
turn_no_quiet plan f e d (inr x) y = none-some _ (sym (y.may.at.at.still x.process) ∙ x.may.turn)

one_late : (plan : Plan) (f : Facts) (e d : Entry) → Late plan f e → Late plan f d → e ≡ d
one_late plan f e d = one_of (Turns plan f) (Quiets plan f) e d (one_turn plan f e d) (one_quiet plan f e d) (turn_no_quiet plan f e d) (turn_no_quiet plan f d e)

-- commands go before those
at_signal : (plan : Plan) (f : Facts) (e : Entry) → Late plan f e → AtSignal plan f
at_signal plan f e (inl (inl x)) = x.may.at.at
at_signal plan f e (inl (inr x)) = x.may.at.at
at_signal plan f e (inr x) = x.may.at.at.at.at

command_first : (plan : Plan) (f : Facts) (e d : Entry) → Commands plan f e → Late plan f d → ⊥
command_first plan f e d (inl x) y = waits_none plan f x.console _ x.may.next.call refl ((at_signal plan f d y).no_command x.console x.may.next.console)
command_first plan f e d (inr x) y = waits_none plan f x.console x.command x.may.next.call x.may.enabled ((at_signal plan f d y).no_command x.console x.may.next.console)

one_calm : (plan : Plan) (f : Facts) (e d : Entry) → Calm plan f e → Calm plan f d → e ≡ d
one_calm plan f e d = one_of (Commands plan f) (Late plan f) e d (one_command plan f e d) (one_late plan f e d) (command_first plan f e d) (command_first plan f d e)

-- a trigger that is owed stands before those
at_command : (plan : Plan) (f : Facts) (e : Entry) → Calm plan f e → AtCommand plan f
at_command plan f e (inl (inl x)) = x.may.at
at_command plan f e (inl (inr x)) = x.may.at
at_command plan f e (inr x) = (at_signal plan f e x).at

trigger_first : (plan : Plan) (f : Facts) (e d : Entry) → Triggers plan f e → Calm plan f d → ⊥
trigger_first plan f e d x y = none-some _ (sym ((at_command plan f d y).no_trigger x.process) ∙ x.may.owed)

trigger_below : (plan : Plan) (f : Facts) (e d : Entry) (x : Triggers plan f e) (y : Triggers plan f d) → x.process < y.process → ⊥
trigger_below plan f e d x y less = none-some _ (sym (y.may.first x.process less) ∙ x.may.owed)

one_trigger : (plan : Plan) (f : Facts) (e d : Entry) → Triggers plan f e → Triggers plan f d → e ≡ d
one_trigger plan f e d x y =
    let process : x.process ≡ y.process = same_least x.process y.process (trigger_below plan f e d x y) (trigger_below plan f d e y x) in
    let same = same_Some _ _ (sym x.may.owed ∙ (ap (λ (p : ℕ). (debuggee_at f p).owed) process ∙ y.may.owed)) in
    let home : x.home ≡ y.home = ap (λ (o : OwedTrigger). o.home) same in
    let line : x.line ≡ y.line = ap (λ (o : OwedTrigger). o.line) same in
    let serial : x.serial ≡ y.serial = ap (λ (o : OwedTrigger). o.serial) same in
    let action : x.action ≡ y.action = ap (λ (o : OwedTrigger). o.action) same in
    cc (x.is, y.is, x.may.done, y.may.done)

one_alone : (plan : Plan) (f : Facts) (e d : Entry) → Alone plan f e → Alone plan f d → e ≡ d
one_alone plan f e d = one_of (Triggers plan f) (Calm plan f) e d (one_trigger plan f e d) (one_calm plan f e d) (trigger_first plan f e d) (trigger_first plan f d e)

-- what was leased runs before those
none_out : (plan : Plan) (f : Facts) (e : Entry) → Alone plan f e → NoLease f
none_out plan f e (inl x) = x.alone
none_out plan f e (inr (inl (inl x))) = x.alone
none_out plan f e (inr (inl (inr x))) = x.alone
none_out plan f e (inr (inr (inl (inl x)))) = x.alone
none_out plan f e (inr (inr (inl (inr x)))) = x.alone
none_out plan f e (inr (inr (inr x))) = x.alone

run_first : (plan : Plan) (f : Facts) (e d : Entry) → Runs plan f e → Alone plan f d → ⊥
run_first plan f e d x y = both_ways _ (none_out plan f d y x.process) x.may.out

-- a slice has one number of moves, and one of the conditions'
not_fewer : (code : List ModuleTree) (h : Handout) (p : ℕ) (t : Run) (n m c k : ℕ) (end other : SliceEnd) → IsSlice code h p t n c end → IsSlice code h p t m k other → n < m → ⊥
not_fewer code h p t n m c k end other a b less = none-some end (sym (b.goes n less) ∙ a.ends)

one_number : (code : List ModuleTree) (h : Handout) (p : ℕ) (t : Run) (n m c k : ℕ) (end other : SliceEnd) → IsSlice code h p t n c end → IsSlice code h p t m k other → n ≡ m
one_number code h p t n m c k end other a b = same_least n m (not_fewer code h p t n m c k end other a b) (not_fewer code h p t m n k c other end b a)

same_run : (f : Facts) (p q : ℕ) (t u : Run) → p ≡ q → running_at f.plain p ≡ Some t → running_at f.plain q ≡ Some u → t ≡ u
same_run f p q t u same x y = same_Some t u (sym x ∙ (ap (running_at f.plain) same ∙ y))

one_run : (plan : Plan) (f : Facts) (e d : Entry) → IsOneOut f → Runs plan f e → Runs plan f d → e ≡ d
one_run plan f e d a x y =
    let process : x.process ≡ y.process = a x.process y.process x.may.out y.may.out in
    let run = same_run f x.process y.process x.may.running y.may.running process x.may.lives y.may.lives in
    let there = subst (λ (r : ℕ). IsSlice plan.code (debuggee_at f r).handout r y.may.running y.moves y.conditions y.may.end) (sym process) y.may.slice in
    let slice = subst (λ (t : Run). IsSlice plan.code (debuggee_at f x.process).handout x.process t y.moves y.conditions y.may.end) (sym run) there in
    let number : x.moves ≡ y.moves = one_number plan.code (debuggee_at f x.process).handout x.process x.may.running x.moves y.moves x.conditions y.conditions x.may.end y.may.end x.may.slice slice in
    let conditions : x.conditions ≡ y.conditions = x.may.slice.asked ∙ (ap (asked_to plan.code (debuggee_at f x.process).handout x.process x.may.running) number ∙ sym slice.asked) in
    cc (x.is, y.is)

one_later : (plan : Plan) (f : Facts) (e d : Entry) → IsOneOut f → Later plan f e → Later plan f d → e ≡ d
one_later plan f e d a = one_of (Runs plan f) (Alone plan f) e d (one_run plan f e d a) (one_alone plan f e d) (run_first plan f e d) (run_first plan f d e)

-- the end of a slice stands before everything else
begins : (plan : Plan) (f : Facts) (e : Entry) → Later plan f e → MayBegin plan f
begins plan f e (inl x) = x.may.begin
begins plan f e (inr (inl x)) = x.may.begin
begins plan f e (inr (inr x)) = (at_command plan f e x).begin

not_whole : (f : Facts) (e : Entry) → MayEnd f e → f.coming ≡ [] → ⊥
not_whole f e x whole = let both : [] ≡ e ∷ x.0 = sym whole ∙ x.1 in cc

end_first : (plan : Plan) (f : Facts) (e d : Entry) → MayEnd f e → Later plan f d → ⊥
end_first plan f e d x y = not_whole f e x (begins plan f d y).whole

one_end : (f : Facts) (e d : Entry) → MayEnd f e → MayEnd f d → e ≡ d
one_end f e d x y = let both : e ∷ x.0 ≡ d ∷ y.0 = sym x.1 ∙ y.1 in cc

one_sorted : (plan : Plan) (f : Facts) (e d : Entry) → IsOneOut f → Sorted plan f e → Sorted plan f d → e ≡ d
one_sorted plan f e d a = one_of (MayEnd f) (Later plan f) e d (one_end f e d) (one_later plan f e d a) (end_first plan f e d) (end_first plan f d e)

-- so of two legal journals one begins the other
agree_from : (plan : Plan) (f : Facts) (es ds : List Entry) → IsOneOut f → LegalFrom plan f es → LegalFrom plan f ds
    → JudgedFrom MayAlone plan f es → JudgedFrom MayAlone plan f ds → IsBeginning es ds ⊎ IsBeginning ds es
agree_from plan f [] ds a l m x y = inl (ds, refl)
agree_from plan f (e ∷ es) [] a l m x y = inr (e ∷ es, refl)
agree_from plan f (e ∷ es) (d ∷ ds) a l m x y =
    let same : e ≡ d = one_sorted plan f e d a (sorted plan f e l.0 x.0) (sorted plan f d m.0 y.0) in
    let legal : LegalFrom plan (note plan f e) ds = rw same m.1 in
    let alone : JudgedFrom MayAlone plan (note plan f e) ds = rw same y.1 in
    elim (agree_from plan (note plan f e) es ds (out_step plan f e a l.0 x.0) l.1 legal x.1 alone) [
      | inl b ↦ inl (b.0, ap₂ (λ (z : Entry) (zs : List Entry). z ∷ zs) same b.1)
      | inr b ↦ inr (b.0, ap₂ (λ (z : Entry) (zs : List Entry). z ∷ zs) (sym same) b.1)
    ]

-- at first no lease is out
pub first_out : (plan : Plan) (q : ℕ) → (debuggee_at (at_first plan) q).is_out ≡ false
first_out plan zero = refl
first_out plan (suc n) = refl

pub agree : (plan : Plan) (j k : List Entry) → Legal plan j → Legal plan k → IsOneHanded plan j → IsOneHanded plan k → IsBeginning j k ⊎ IsBeginning k j
agree plan j k l m x y = agree_from plan (at_first plan) j k (λ p q out other. absurd (both_ways _ (first_out plan p) out)) l m x y

-- Nothing follows a journal that is over.
through_stops : (plan : Plan) (f : Facts) (e : Entry) → IsThrough plan f → Sorted plan f e → ⊥
through_stops plan f e done (inl x) = not_whole f e x done.at.at.at.at.at.begin.whole
through_stops plan f e done (inr (inl x)) = both_ways _ (done.at.at.no_lease x.process) x.may.out
through_stops plan f e done (inr (inr (inl x))) = none-some _ (sym (done.at.at.at.at.at.no_trigger x.process) ∙ x.may.owed)
through_stops plan f e done (inr (inr (inr (inl (inl x))))) = none-some _ (sym (done.through x.console x.may.next.console) ∙ x.may.next.call)
through_stops plan f e done (inr (inr (inr (inl (inr x))))) = none-some _ (sym (done.through x.console x.may.next.console) ∙ x.may.next.call)
through_stops plan f e done (inr (inr (inr (inr (inl (inl x)))))) = none-some _ (sym (done.at.at.still x.process) ∙ x.turn)
through_stops plan f e done (inr (inr (inr (inr (inl (inr x)))))) = none-some _ (sym (done.at.at.still x.process) ∙ x.may.turn)
through_stops plan f e done (inr (inr (inr (inr (inr x))))) = none-some _ (sym (done.through x.console x.may.console) ∙ x.may.call)

quit_stops : (plan : Plan) (f : Facts) (e : Entry) → HasQuit f → Sorted plan f e → ⊥
quit_stops plan f e quit (inl x) = not_whole f e x quit.whole
quit_stops plan f e quit (inr x) = both_ways _ (begins plan f e x).no_quit quit.quit

limit_stops : (plan : Plan) (f : Facts) (e : Entry) → IsLimit plan f → Sorted plan f e → ⊥
limit_stops plan f e limit (inl x) = not_whole f e x limit.whole
limit_stops plan f e limit (inr x) = let light = (begins plan f e x).light in let full = limit.full in omega arith

over_stops : (plan : Plan) (f : Facts) (e : Entry) → IsOver plan f → Sorted plan f e → ⊥
over_stops plan f e (inl (inl quit)) x = quit_stops plan f e quit x
over_stops plan f e (inl (inr done)) x = through_stops plan f e done x
over_stops plan f e (inr limit) x = limit_stops plan f e limit x

nothing_follows : (plan : Plan) (f : Facts) (es : List Entry) → IsOver plan f → LegalFrom plan f es → JudgedFrom MayAlone plan f es → es ≡ []
nothing_follows plan f [] over l x = refl
nothing_follows plan f (e ∷ es) over l x = absurd (over_stops plan f e over (sorted plan f e l.0 x.0))

judged_rest : (judge : Plan → Facts → Entry → Type 0) (plan : Plan) (f : Facts) (es ds : List Entry) → JudgedFrom judge plan f (es ++ ds) → JudgedFrom judge plan (after plan f es) ds
judged_rest judge plan f [] ds l = l
judged_rest judge plan f (e ∷ es) ds l = judged_rest judge plan (note plan f e) es ds l.1

-- a journal that is over begins no other journal than itself
begins_all : (plan : Plan) (j k : List Entry) → Legal plan k → IsOneHanded plan k → IsOver plan (facts plan j) → IsBeginning j k → j ≡ k
begins_all plan j k l x over b =
    let rest = judged_rest May plan (at_first plan) j b.0 (rw b.1 l) in
    let alone = judged_rest MayAlone plan (at_first plan) j b.0 (rw b.1 x) in
    sym (append-nil j) ∙ (ap (λ (es : List Entry). j ++ es) (sym (nothing_follows plan (facts plan j) b.0 over rest alone)) ∙ b.1)

pub one : (plan : Plan) (j k : List Entry) → Legal plan j → Legal plan k → IsOneHanded plan j → IsOneHanded plan k
    → IsOver plan (facts plan j) → IsOver plan (facts plan k) → j ≡ k
one plan j k l m x y over done = elim (agree plan j k l m x y) [
  | inl b ↦ begins_all plan j k m y over b
  | inr b ↦ sym (begins_all plan k j l x done b)
]
