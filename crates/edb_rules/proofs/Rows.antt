-- Each row that a process took in has the action `enable` and stands in the server's table.

use Rattle.std.proofs.Common.{◌≡◌, ℕ, zero, suc, ◌+◌, Bool, true, false, ◌||◌, cond, if◌then◌else◌, List, [], ◌∷◌, Option, None, Some, map, take, refl, sym, ◌∙◌, ap, ap₂, subst}
use Rattle.std.specs.List.{All, list_any, find}
use Rattle.std.specs.Option.{option_map, option_and_then}
use Rattle.std.proofs.lemmas.Bool.{and_from, or_left, or_right, eq-eqb}
use Rattle.std.proofs.lemmas.List.Elements.{All-nil, All-head, All-tail, All-push, All-map, All-weaker}
use Rattle.std.proofs.lemmas.List.Folds.{list_any-append}
use Rattle.std.proofs.lemmas.Option.{none-some, same_Some}
use Rattle.edb_lang.specs.declared.small.Action.{Action}
use Rattle.edb_lang.specs.declared.small.Action.TheVariants as action
use Rattle.edb_lang.specs.declared.small.Break.{Break}
use Rattle.edb_lang.specs.declared.small.BreakRow.{BreakRow}
use Rattle.edb_lang.specs.declared.small.Status.{Status}
use Rattle.edb_lang.specs.declared.small.Status.TheVariants.{Active, Inactive}
use Rattle.edb_breaks.specs.Table.{Table, is_at, new_row, with_row, is_row, has_row, enabled_row, with_enabled}
use Rattle.edb_event.specs.declared.call.Call.TheVariants as command
use Rattle.edb_event.specs.declared.entry.Cause.{Cause}
use Rattle.edb_event.specs.declared.entry.Cause.TheVariants as cause
use Rattle.edb_event.specs.declared.entry.Entry.{Entry}
use Rattle.edb_event.specs.declared.entry.Entry.TheVariants as entry
use Rattle.edb_rules.specs.Plans.{Plan}
use Rattle.edb_rules.specs.Facts.{Handout, OwedTrigger, Debuggee, Facts, at_first, debuggee_at}
use Rattle.edb_rules.specs.Server.{Server}
use Rattle.edb_rules.specs.Slices.{if_active, row_among}
use Rattle.edb_rules.specs.TableEdits.{triggered}
use Rattle.edb_rules.specs.Replies.{is_accepted}
use Rattle.edb_rules.specs.Called.{called}
use Rattle.edb_rules.specs.Orders.{order_of}
use Rattle.edb_rules.specs.Notes.{owed_for, owed_by, debuggee_with, note, facts}
use Rattle.edb_rules.specs.Legal.{May, Legal}
use Rattle.edb_rules.proofs.Entries.{kept_from, legal_take}
use Rattle.edb_rules.proofs.Changes.{each, order_keeps, act_keeps}
use Rattle.edb_rules.proofs.Made.{kept_if, table_kept, did_table}

-- the row has the action `enable`, and the table has one at its place with its serial
pub record IsKnownRow (u : Table) (r : BreakRow) : Type 0 where
  pub enable : r.row.trigger ≡ action.Enable
  pub stands : (m : List ℕ) (l : ℕ) → is_at m l r ≡ true → has_row r.row.serial m l u ≡ true

-- so does each of these rows
abbrev pub IsKnown : Table → List BreakRow → Type 0
IsKnown u rs = All (IsKnownRow u) rs

-- where one table has a row another has it too
abbrev IsKept : Table → Table → Type 0
IsKept u v = (serial : ℕ) (m : List ℕ) (l : ℕ) → has_row serial m l u ≡ true → has_row serial m l v ≡ true

row_more : (u v : Table) (r : BreakRow) → IsKept u v → IsKnownRow u r → IsKnownRow v r
row_more u v r kept k = record { enable = k.enable; stands = λ m l at. kept r.row.serial m l (k.stands m l at) }

more : (u v : Table) (rs : List BreakRow) → IsKept u v → IsKnown u rs → IsKnown v rs
more u v rs kept known = All-weaker (IsKnownRow u) (IsKnownRow v) (λ r k. row_more u v r kept k) rs known

-- a new row
row_kept : (m : List ℕ) (l : ℕ) (t : Table) → IsKept t (with_row m l t)
row_kept m l t serial n k has = list_any-append (is_row serial n k) t.rows (new_row m l (t.given + 1) ∷ []) ∙ or_left _ _ has

new_known : (m : List ℕ) (l : ℕ) (t : Table) → IsKnownRow (with_row m l t) (new_row m l (t.given + 1))
new_known m l t = record {
  enable = refl;
  stands = λ n k at. list_any-append (is_row (t.given + 1) n k) t.rows (new_row m l (t.given + 1) ∷ [])
      ∙ or_right _ _ (or_left _ false (and_from _ _ at (eq-eqb (t.given + 1) (t.given + 1) refl)));
}

row_known : (m : List ℕ) (l : ℕ) (t : Table) → IsKnown t t.rows → IsKnown (with_row m l t) (with_row m l t).rows
row_known m l t known = All-push (IsKnownRow (with_row m l t)) t.rows (new_row m l (t.given + 1)) (more t (with_row m l t) t.rows (row_kept m l t) known) (new_known m l t)

-- a row that is made active keeps its place, its serial and its action
enabled_is : (s : ℕ) (n : List ℕ) (k : ℕ) (serial : ℕ) (m : List ℕ) (l : ℕ) (r : BreakRow) (t : Bool) → is_row serial m l r ≡ t
    → is_row s n k (enabled_row serial m l r) ≡ is_row s n k r
enabled_is s n k serial m l r true is = ap (λ (b : Bool). is_row s n k (cond b (record r { row = record r.row { status = Active } }) r)) is
enabled_is s n k serial m l r false is = ap (λ (b : Bool). is_row s n k (cond b (record r { row = record r.row { status = Active } }) r)) is

enabled_any : (s : ℕ) (n : List ℕ) (k : ℕ) (serial : ℕ) (m : List ℕ) (l : ℕ) (rs : List BreakRow)
    → list_any (is_row s n k) (map (enabled_row serial m l) rs) ≡ list_any (is_row s n k) rs
enabled_any s n k serial m l [] = refl
enabled_any s n k serial m l (r ∷ rs) =
    ap₂ (λ (a b : Bool). a || b) (enabled_is s n k serial m l r (is_row serial m l r) refl) (enabled_any s n k serial m l rs)

enabled_kept : (serial : ℕ) (m : List ℕ) (l : ℕ) (t : Table) → IsKept t (with_enabled serial m l t)
enabled_kept serial m l t s n k has = enabled_any s n k serial m l t.rows ∙ has

enabled_row_known : (u : Table) (serial : ℕ) (m : List ℕ) (l : ℕ) (r : BreakRow) (t : Bool) → is_row serial m l r ≡ t → IsKnownRow u r
    → IsKnownRow u (enabled_row serial m l r)
enabled_row_known u serial m l r true is k =
    subst (λ (b : Bool). IsKnownRow u (cond b (record r { row = record r.row { status = Active } }) r)) (sym is)
    (record { enable = k.enable; stands = k.stands })
enabled_row_known u serial m l r false is k =
    subst (λ (b : Bool). IsKnownRow u (cond b (record r { row = record r.row { status = Active } }) r)) (sym is) k

enabled_known : (serial : ℕ) (m : List ℕ) (l : ℕ) (t : Table) → IsKnown t t.rows → IsKnown (with_enabled serial m l t) (with_enabled serial m l t).rows
enabled_known serial m l t known =
    let u = with_enabled serial m l t in
    All-map (IsKnownRow u) (enabled_row serial m l) t.rows
    (All-weaker (IsKnownRow t) (λ r. IsKnownRow u (enabled_row serial m l r))
    (λ r k. enabled_row_known u serial m l r (is_row serial m l r) refl (row_more t u r (enabled_kept serial m l t) k)) t.rows known)

-- The rows of the server's table, and those that each process took in, are known to the server.
abbrev pub AreKnown : Facts → Type 0
AreKnown f = IsKnown f.server.table f.server.table.rows × ((q : ℕ) → IsKnown f.server.table (debuggee_at f q).handout.rows)

-- WHAT AN ENTRY MAKES OF THE TABLE: no row goes, and its rows are known.
record Grows (t u : Table) : Type 0 where
  pub kept : IsKept t u
  pub known : IsKnown u u.rows

stays : (t : Table) → IsKnown t t.rows → Grows t t
stays t known = record { kept = λ serial m l has. has; known = known }

triggered_grows : (a : Action) (serial : ℕ) (m : List ℕ) (l : ℕ) (t : Table) → a ≡ action.Enable → IsKnown t t.rows → Grows t (triggered a serial m l t)
triggered_grows a serial m l t is known =
    subst (λ (b : Action). Grows t (triggered b serial m l t)) (sym is) (record { kept = enabled_kept serial m l t; known = enabled_known serial m l t known })

-- what a change that keeps the table makes of it
same_grows : (t u : Table) → u ≡ t → IsKnown t t.rows → Grows t u
same_grows t u same known = subst (Grows t) (sym same) (stays t known)

ib_grows : (b : Bool) (c : ℕ) (m : List ℕ) (l : ℕ) (s : Server) → IsKnown s.table s.table.rows → Grows s.table (if b then called s c (command.Ib m l) else s).table
ib_grows true c m l s known = record { kept = row_kept m l s.table; known = row_known m l s.table known }
ib_grows false c m l s known = stays s.table known

-- a trigger that is owed has the action `enable`
abbrev pub OwesEnable : Debuggee → Type 0
OwesEnable d = (o : OwedTrigger) → d.owed ≡ Some o → o.action ≡ action.Enable

abbrev pub AreOwed : Facts → Type 0
AreOwed f = (q : ℕ) → OwesEnable (debuggee_at f q)

grows : (plan : Plan) (f : Facts) (e : Entry) → AreOwed f → May plan f e → IsKnown f.server.table f.server.table.rows → Grows f.server.table (note plan f e).server.table
grows plan f (entry.Trigger p m l serial a applied) owed may known = triggered_grows a serial m l f.server.table (owed p _ may.rule.owed) known
grows plan f (entry.Served c (command.Ib m l) r) owed may known = ib_grows (is_accepted r) c m l f.server known
grows plan f (entry.Served c x r) owed may known =
    same_grows f.server.table _ (kept_if (λ (s : Server). s.table) (is_accepted r) (called f.server c x) f.server (table_kept f.server c x may.rule.known refl)) known
grows plan f (entry.Did p k v bytes) owed may known = same_grows f.server.table _ (did_table plan f p k v bytes) known
grows plan f (entry.Skip c p) owed may known = absurd may.rule
grows plan f (entry.Signal p r) owed may known = absurd may.rule
grows plan f _ owed may known = stays f.server.table known

-- what is handed out is the server's, or what was handed out before
handed_known : (plan : Plan) (f : Facts) (e : Entry) (q : ℕ) → AreKnown f → IsKnown f.server.table (debuggee_at (note plan f e) q).handout.rows
handed_known plan f e q a =
    each (λ (d x : Debuggee). IsKnown f.server.table d.handout.rows → IsKnown f.server.table x.handout.rows) (λ d k. k) (λ d k. k) plan f e q
    (λ same. with_known f e (debuggee_at f q) a.0) (a.1 q)
  where
    of_handout : (d x : Debuggee) → x.handout ≡ d.handout → IsKnown f.server.table d.handout.rows → IsKnown f.server.table x.handout.rows
    of_handout d x same k = subst (λ (h : Handout). IsKnown f.server.table h.rows) (sym same) k

    with_known : (f : Facts) (e : Entry) (d : Debuggee) → IsKnown f.server.table f.server.table.rows → IsKnown f.server.table d.handout.rows → IsKnown f.server.table (debuggee_with f e d).handout.rows
    with_known f (entry.Lease p b) d table k = table
    with_known f (entry.Did p kk v bytes) d table k = subst (λ (h : Handout). IsKnown f.server.table h.rows) (sym (act_keeps (λ (x : Debuggee). x.handout) (λ x b. refl) (λ x. refl) kk d)) k
    with_known f (entry.Served c x r) d table k = subst (λ (h : Handout). IsKnown f.server.table h.rows) (sym (order_keeps (λ (y : Debuggee). y.handout) (λ y m. refl) (λ y m. refl) (order_of f.plain x) d)) k
    with_known f (entry.Signal p (Some r)) d table k = k
    with_known f (entry.Signal p None) d table k = k
    with_known f _ d table k = k

known_step : (plan : Plan) (f : Facts) (e : Entry) → AreOwed f → AreKnown f → May plan f e → AreKnown (note plan f e)
known_step plan f e owed a may =
    let g = grows plan f e owed may a.0 in
    (g.known, λ q. more f.server.table (note plan f e).server.table (debuggee_at (note plan f e) q).handout.rows g.kept (handed_known plan f e q a))

first_known : (plan : Plan) (q : ℕ) → (debuggee_at (at_first plan) q).handout.rows ≡ []
first_known plan zero = refl
first_known plan (suc n) = refl

-- The breakpoint has the action `enable`, and the table lists one at the place with its serial.
abbrev pub IsListed : Table → List ℕ → ℕ → Break → Type 0
IsListed u m l b = (b.trigger ≡ action.Enable) × (has_row b.serial m l u ≡ true)

found_here : (u : Table) (m : List ℕ) (l : ℕ) (r : BreakRow) (o : Option BreakRow) (b : Break) (t : Bool) → is_at m l r ≡ t → IsKnownRow u r
    → (option_map (λ (x : BreakRow). x.row) o ≡ Some b → IsListed u m l b)
    → option_map (λ (x : BreakRow). x.row) (cond t (Some r) o) ≡ Some b → IsListed u m l b
found_here u m l r o b true at here rest is =
    let same = same_Some r.row b is in
    (subst (λ (x : Break). x.trigger ≡ action.Enable) same here.enable, subst (λ (x : Break). has_row x.serial m l u ≡ true) same (here.stands m l at))
found_here u m l r o b false at here rest is = rest is

-- a breakpoint that is found by its place is a row's
found_row : (u : Table) (m : List ℕ) (l : ℕ) (rs : List BreakRow) (b : Break) → All (IsKnownRow u) rs
    → option_map (λ (r : BreakRow). r.row) (find (is_at m l) rs) ≡ Some b → IsListed u m l b
found_row u m l [] b known is = absurd (none-some b is)
found_row u m l (r ∷ rs) b known is =
    found_here u m l r (find (is_at m l) rs) b (is_at m l r) refl (All-head (IsKnownRow u) r rs known)
    (found_row u m l rs b (All-tail (IsKnownRow u) r rs known)) is

-- what a stop owes has the action of the row that was taken in
owed_enable : (t : Table) (m : List ℕ) (l : ℕ) (rows : List BreakRow) (by : Cause) (o : OwedTrigger) → IsKnown t rows → owed_by rows m l by ≡ Some o → o.action ≡ action.Enable
owed_enable t m l rows cause.Order o known is = absurd (none-some o is)
owed_enable t m l rows (cause.Break serial) o known is = of_row (row_among m l rows) refl is
  where
    of_row : (b : Option Break) → row_among m l rows ≡ b → option_map (owed_for m l serial) b ≡ Some o → o.action ≡ action.Enable
    of_row None none e = absurd (none-some o e)
    of_row (Some b) some e = sym (ap (λ (x : OwedTrigger). x.action) (same_Some (owed_for m l serial b) o e)) ∙ (found_row t m l rows b known some).0

with_owed : (f : Facts) (e : Entry) (d : Debuggee) → IsKnown f.server.table d.handout.rows → OwesEnable d → OwesEnable (debuggee_with f e d)
with_owed f (entry.Stop p m l n by) d known owes = λ o is. owed_enable f.server.table m l d.handout.rows by o known is
with_owed f (entry.Trigger p m l s a applied) d known owes = λ o is. absurd (none-some o is)
with_owed f (entry.Did p kk v bytes) d known owes = λ o is. owes o (sym (act_keeps (λ (x : Debuggee). x.owed) (λ x b. refl) (λ x. refl) kk d) ∙ is)
with_owed f (entry.Served c x r) d known owes = λ o is. owes o (sym (order_keeps (λ (y : Debuggee). y.owed) (λ y m. refl) (λ y m. refl) (order_of f.plain x) d) ∙ is)
with_owed f (entry.Signal p (Some r)) d known owes = owes
with_owed f (entry.Signal p None) d known owes = owes
with_owed f _ d known owes = owes

owed_step : (plan : Plan) (f : Facts) (e : Entry) → AreOwed f → AreKnown f → AreOwed (note plan f e)
owed_step plan f e owed a q =
    each (λ (d x : Debuggee). OwesEnable d → OwesEnable x) (λ d k. k) (λ d k. k) plan f e q (λ same. with_owed f e (debuggee_at f q) (a.1 q)) (owed q)

first_owed : (plan : Plan) → AreOwed (at_first plan)
first_owed plan zero = λ o is. absurd (none-some o is)
first_owed plan (suc n) = λ o is. absurd (none-some o is)

-- so they are, both, from entry to entry
abbrev pub AreBoth : Facts → Type 0
AreBoth f = AreKnown f × AreOwed f

pub both_step : (plan : Plan) (f : Facts) (e : Entry) → AreBoth f → May plan f e → AreBoth (note plan f e)
both_step plan f e all may = (known_step plan f e all.1 all.0 may, owed_step plan f e all.1 all.0)

pub first_both : (plan : Plan) → AreBoth (at_first plan)
first_both plan = ((All-nil _, λ q. subst (λ (rs : List BreakRow). IsKnown (at_first plan).server.table rs) (sym (first_known plan q)) (All-nil _)), first_owed plan)

both_are : (plan : Plan) (journal : List Entry) → Legal plan journal → AreBoth (facts plan journal)
both_are plan journal legal = kept_from plan AreBoth (both_step plan) (at_first plan) journal (first_both plan) legal

pub known_at : (plan : Plan) (journal : List Entry) (k : ℕ) → Legal plan journal → AreKnown (facts plan (take k journal))
known_at plan journal k legal = (both_are plan (take k journal) (legal_take plan journal k legal)).0

-- a trigger that is owed after a legal journal has the action `enable`
pub owed_is : (plan : Plan) (journal : List Entry) → Legal plan journal → AreOwed (facts plan journal)
owed_is plan journal legal = (both_are plan journal legal).1

-- what was taken in at a place has the action `enable`, and the server has it
pub taken_row : (f : Facts) (p : ℕ) (m : List ℕ) (l : ℕ) (b : Break) → AreKnown f → row_among m l (debuggee_at f p).handout.rows ≡ Some b
    → IsListed f.server.table m l b
taken_row f p m l b a is = found_row f.server.table m l (debuggee_at f p).handout.rows b (a.1 p) is

-- an active breakpoint is the row's
active_is : (c b : Break) (s : Status) → c.status ≡ s → if_active c ≡ Some b → c ≡ b
active_is c b Active is e = let here : if_active c ≡ Some c = rw is refl in same_Some c b (sym here ∙ e)
active_is c b Inactive is e = let here : if_active c ≡ None = rw is refl in absurd (none-some b (sym here ∙ e))

pub active_row : (o : Option Break) (b : Break) → option_and_then if_active o ≡ Some b → o ≡ Some b
active_row None b e = absurd (none-some b e)
active_row (Some c) b e = ap (λ (x : Break). Some x) (active_is c b c.status refl e)
