-- A command is refused after a legal journal exactly where the modules and the journal's entries refuse it, and by the same.

use Rattle.std.proofs.Common.{◌≡◌, ◌⊎◌, inl, inr, ℕ, suc, Bool, true, false, if◌then◌else◌, cond, not, ◌&&◌, ◌||◌, nat_eq, nat_lt, is_some, List, [], ◌∷◌, ◌++◌, map, length, find, Option, None, Some, take, refl, sym, ◌∙◌, ap, subst}
use Rattle.std.specs.List.{slice_get}
use Rattle.std.specs.Option.{option_map}
use Rattle.std.proofs.lemmas.Bool.{both_ways, eq-eqb, ne_eqb}
use Rattle.std.proofs.lemmas.List.Folds.{list_any-append}
use Rattle.std.proofs.lemmas.Option.{none-some, same_Some}
use Rattle.edb_lang.specs.Syntax.{ModuleTree}
use Rattle.edb_lang.specs.TermText.{same_name}
use Rattle.edb_lang.specs.declared.small.Action.{Action}
use Rattle.edb_lang.specs.declared.small.Action.TheVariants as action
use Rattle.edb_lang.specs.declared.small.Break.{Break}
use Rattle.edb_lang.specs.declared.small.BreakRow.{BreakRow}
use Rattle.edb_breaks.specs.Table.{Table, is_at, row_at, new_row, is_row}
use Rattle.edb_event.specs.declared.call.Call.{Call}
use Rattle.edb_event.specs.declared.call.Call.TheVariants as command
use Rattle.edb_event.specs.declared.call.ProcStatus.{ProcStatus}
use Rattle.edb_event.specs.declared.reply.Refusal.{Refusal}
use Rattle.edb_event.specs.declared.reply.Refusal.TheVariants as refusal
use Rattle.edb_event.specs.declared.reply.Reply.{Reply}
use Rattle.edb_event.specs.declared.reply.Reply.TheVariants as reply
use Rattle.edb_event.specs.declared.entry.Entry.{Entry}
use Rattle.edb_event.specs.declared.entry.Entry.TheVariants as entry
use Rattle.edb_rules.specs.Plans.{Plan}
use Rattle.edb_rules.specs.Facts.{Facts, at_first}
use Rattle.edb_rules.specs.Seen.{Seen, status_of}
use Rattle.edb_rules.specs.Server.{Server, seen_at, is_made, is_interpreted, stop_at, console_of, is_console_of, is_held}
use Rattle.edb_rules.specs.TableEdits.{changed_row, active}
use Rattle.edb_rules.specs.Refusals.{first_case, refused, not_interpreted}
use Rattle.edb_rules.specs.Answers.{has_status, answer, reply_of}
use Rattle.edb_rules.specs.Consoles.{command_of}
use Rattle.edb_rules.specs.Replies.{is_enabled, is_served}
use Rattle.edb_rules.specs.Notes.{note, facts}
use Rattle.edb_rules.specs.Legal.{IsAnswer, May, Legal}
use Rattle.edb_rules.specs.Made.{table_with, attached_with}
use Rattle.edb_rules.specs.Statuses.{status_by, is_inside, is_halted}
use Rattle.edb_rules.specs.Refused.{processes_with, processes_by, break_with, has_break_by, console_with, console_by, has_module, unless_made, unless_interpreted, unless_attached, unless_free, refused_by, refusal_in}
use Rattle.edb_rules.proofs.Entries.{kept_from, may_at, legal_take}
use Rattle.edb_rules.proofs.Between.{folded}
use Rattle.edb_rules.proofs.Kept.{no_load}
use Rattle.edb_rules.proofs.Made.{table_step, attached_step, no_flags}
use Rattle.edb_rules.proofs.Present.{here_or, accepted_unrefused, first_none, rest_none}
use Rattle.edb_rules.proofs.Rows.{AreOwed, AreBoth, both_step, first_both}
use Rattle.edb_rules.proofs.ServerCounts.{Counted, counted_step, first_counted, new_one, entry_kept, code_is}
use Rattle.edb_rules.proofs.Standings.{status_is, inside_is, halted_is}
use Rattle.edb_rules.proofs.Awaits.{quiet_waits}

-- THE PROCESSES that were started
made_step : (plan : Plan) (f : Facts) (e : Entry) → Counted f → May plan f e → (note plan f e).server.made ≡ processes_with f.server.made e
made_step plan f (entry.Start c p m n args) k may =
    ap (λ (b : Bool). if b then suc f.server.made else f.server.made) (new_one f.server p (length f.plain.running) may.rule.number k.listed)
made_step plan f _ k may = (entry_kept plan f _ tt may).0

started_is : (plan : Plan) (journal : List Entry) → Legal plan journal → (facts plan journal).server.made ≡ processes_by journal
started_is plan journal legal = folded plan (λ f. f.server.made) processes_with Counted (counted_step plan) (made_step plan) (at_first plan) journal (first_counted plan) legal

-- A BREAKPOINT at a line of a module
pushed_some : (m : List ℕ) (l : ℕ) (rs : List BreakRow) (r : BreakRow) → is_some (option_map (λ (x : BreakRow). x.row) (find (is_at m l) (rs ++ r ∷ [])))
    ≡ (if is_at m l r then true else is_some (option_map (λ (x : BreakRow). x.row) (find (is_at m l) rs)))
pushed_some m l [] r = by (is_at m l r)
  where
    by : (b : Bool) → is_some (option_map (λ (x : BreakRow). x.row) (cond b (Some r) None)) ≡ (if b then true else false)
    by true = refl
    by false = refl
pushed_some m l (x ∷ xs) r = by (is_at m l x) (pushed_some m l xs r)
  where
    pushed : Bool
    pushed = is_some (option_map (λ (y : BreakRow). y.row) (find (is_at m l) (xs ++ r ∷ [])))

    was : Bool
    was = is_some (option_map (λ (y : BreakRow). y.row) (find (is_at m l) xs))

    all : (b : Bool) → true ≡ (if b then true else true)
    all true = refl
    all false = refl

    by : (b : Bool) → pushed ≡ (if is_at m l r then true else was)
        → is_some (option_map (λ (y : BreakRow). y.row) (cond b (Some x) (find (is_at m l) (xs ++ r ∷ []))))
        ≡ (if is_at m l r then true else is_some (option_map (λ (y : BreakRow). y.row) (cond b (Some x) (find (is_at m l) xs))))
    by true rest = all (is_at m l r)
    by false rest = rest

changed_at : (m : List ℕ) (l : ℕ) (change : Break → Break) (r : BreakRow) (b : Bool) → is_at m l (if b then record r { row = change r.row } else r) ≡ is_at m l r
changed_at m l change r true = refl
changed_at m l change r false = refl

changed_some : (m : List ℕ) (l : ℕ) (is : BreakRow → Bool) (change : Break → Break) (rs : List BreakRow)
    → is_some (option_map (λ (x : BreakRow). x.row) (find (is_at m l) (map (changed_row is change) rs))) ≡ is_some (option_map (λ (x : BreakRow). x.row) (find (is_at m l) rs))
changed_some m l is change [] = refl
changed_some m l is change (r ∷ rs) =
    ap (λ (b : Bool). is_some (option_map (λ (x : BreakRow). x.row) (cond b (Some (changed_row is change r)) (find (is_at m l) (map (changed_row is change) rs))))) (changed_at m l change r (is r))
    ∙ by (is_at m l r) (changed_some m l is change rs)
  where
    by : (b : Bool) → is_some (option_map (λ (x : BreakRow). x.row) (find (is_at m l) (map (changed_row is change) rs))) ≡ is_some (option_map (λ (x : BreakRow). x.row) (find (is_at m l) rs))
        → is_some (option_map (λ (x : BreakRow). x.row) (cond b (Some (changed_row is change r)) (find (is_at m l) (map (changed_row is change) rs))))
        ≡ is_some (option_map (λ (x : BreakRow). x.row) (cond b (Some r) (find (is_at m l) rs)))
    by true rest = refl
    by false rest = rest

break_made : (plan : Plan) (m : List ℕ) (l : ℕ) (f : Facts) (e : Entry) → AreOwed f → May plan f e
    → is_some (row_at m l (table_with f.server.table e)) ≡ break_with m l (is_some (row_at m l f.server.table)) e
break_made plan m l f (entry.Served c (command.Ib n k) reply.Ok) owed may = pushed_some m l f.server.table.rows (new_row n k _)
break_made plan m l f (entry.Served c (command.Ib n k) (reply.Refused why)) owed may = refl
break_made plan m l f (entry.Served c (command.Ib n k) reply.Quiet) owed may = refl
break_made plan m l f (entry.Served c (command.Ib n k) (reply.Status p s)) owed may = refl
break_made plan m l f (entry.Served c (command.Ib n k) (reply.Rows rs)) owed may = refl
break_made plan m l f (entry.Trigger p n k serial a true) owed may =
    subst (λ (x : Action). is_some (row_at m l (table_with f.server.table (entry.Trigger p n k serial x true))) ≡ break_with m l (is_some (row_at m l f.server.table)) (entry.Trigger p n k serial x true))
    (sym (owed p _ may.rule.owed)) (changed_some m l (is_row serial n k) active f.server.table.rows)
break_made plan m l f (entry.Trigger p n k serial action.Enable false) owed may = refl
break_made plan m l f (entry.Trigger p n k serial action.Disable false) owed may = refl
break_made plan m l f (entry.Trigger p n k serial action.Delete false) owed may = refl
break_made plan m l f _ owed may = refl

break_is : (plan : Plan) (journal : List Entry) (m : List ℕ) (l : ℕ) → Legal plan journal → is_some (row_at m l (facts plan journal).server.table) ≡ has_break_by m l journal
break_is plan journal m l legal =
    folded plan (λ f. is_some (row_at m l f.server.table)) (break_with m l) AreBoth (both_step plan)
    (λ f e both may. ap (λ (t : Table). is_some (row_at m l t)) (table_step plan f e tt may) ∙ break_made plan m l f e both.1 may)
    (at_first plan) journal (first_both plan) legal

-- THE CONSOLE of a process: there is one at most.
abbrev is_its : ℕ → Option ℕ → Bool
is_its c None = false
is_its c (Some d) = nat_eq d c

abbrev IsOne : List (ℕ × ℕ) → Type 0
IsOne pairs = (c p : ℕ) → is_console_of c p pairs ≡ is_its c (console_of p pairs)

find_past : {A : Type 0} (is : A → Bool) (xs : List A) (y : A) → is y ≡ false → find is (xs ++ y ∷ []) ≡ find is xs
find_past is [] y other = ap (λ (b : Bool). cond b (Some y) None) other
find_past is (x ∷ xs) y other = ap (λ o. cond (is x) (Some x) o) (find_past is xs y other)

find_last : {A : Type 0} (is : A → Bool) (xs : List A) (y : A) → find is xs ≡ None → is y ≡ true → find is (xs ++ y ∷ []) ≡ Some y
find_last is [] y none same = ap (λ (b : Bool). cond b (Some y) None) same
find_last is (x ∷ xs) y none same = by (is x) none (λ rest. find_last is xs y rest same)
  where
    by : (b : Bool) → cond b (Some x) (find is xs) ≡ None → (find is xs ≡ None → find is (xs ++ y ∷ []) ≡ Some y) → cond b (Some x) (find is (xs ++ y ∷ [])) ≡ Some y
    by true none past = absurd (none-some x (sym none))
    by false none past = past none

none_found : {A : Type 0} {B : Type 0} (g : A → B) (o : Option A) → option_map g o ≡ None → o ≡ None
none_found g None e = refl
none_found g (Some a) e = absurd (none-some (g a) (sym e))

-- one more pair, of a process that no console was attached to
pushed_console : (pairs : List (ℕ × ℕ)) (q d p : ℕ) → console_of q pairs ≡ None → console_of p (pairs ++ (q, d) ∷ []) ≡ (if nat_eq q p then Some d else console_of p pairs)
pushed_console pairs q d p free = elim (here_or q p) [
  | inl same ↦
      (let yes = eq-eqb q p same in
      ap (option_map (λ (a : ℕ × ℕ). a.1))
      (find_last (λ (a : ℕ × ℕ). nat_eq a.0 p) pairs (q, d) (none_found (λ (a : ℕ × ℕ). a.1) _ (subst (λ (n : ℕ). console_of n pairs ≡ None) same free)) yes)
      ∙ sym (ap (λ (b : Bool). if b then Some d else console_of p pairs) yes))
  | inr other ↦
      (let no = ne_eqb q p other in
      ap (option_map (λ (a : ℕ × ℕ). a.1)) (find_past (λ (a : ℕ × ℕ). nat_eq a.0 p) pairs (q, d) no)
      ∙ sym (ap (λ (b : Bool). if b then Some d else console_of p pairs) no))
]

pushed_one : (pairs : List (ℕ × ℕ)) (q d : ℕ) → console_of q pairs ≡ None → IsOne pairs → IsOne (pairs ++ (q, d) ∷ [])
pushed_one pairs q d free one c p =
    list_any-append (λ (a : ℕ × ℕ). nat_eq a.0 p && nat_eq a.1 c) pairs ((q, d) ∷ [])
    ∙ (by (here_or q p) ∙ sym (ap (is_its c) (pushed_console pairs q d p free)))
  where
    or_none : (b : Bool) → (b || false) ≡ b
    or_none true = refl
    or_none false = refl

    last : Bool
    last = (nat_eq q p && nat_eq d c) || false

    by : (q ≡ p) ⊎ (q ≡ p → ⊥) → (is_console_of c p pairs || last) ≡ is_its c (if nat_eq q p then Some d else console_of p pairs)
    by (inl same) =
        let yes = eq-eqb q p same in
        let first = one c p ∙ ap (is_its c) (subst (λ (n : ℕ). console_of n pairs ≡ None) same free) in
        ap (λ (b : Bool). b || last) first
        ∙ (ap (λ (b : Bool). (b && nat_eq d c) || false) yes ∙ (or_none (nat_eq d c) ∙ sym (ap (λ (b : Bool). is_its c (if b then Some d else console_of p pairs)) yes)))
    by (inr other) =
        let no = ne_eqb q p other in
        ap (λ (b : Bool). is_console_of c p pairs || ((b && nat_eq d c) || false)) no
        ∙ (or_none (is_console_of c p pairs) ∙ (one c p ∙ sym (ap (λ (b : Bool). is_its c (if b then Some d else console_of p pairs)) no)))

-- an entry attaches a console, or it leaves who is attached
record Attaches (e : Entry) : Type 0 where
  pub console : ℕ
  pub process : ℕ
  pub is : e ≡ entry.Served console (command.Ia process) reply.Ok

abbrev LeavesThem : Entry → Type 0
LeavesThem e = ((pairs : List (ℕ × ℕ)) → attached_with pairs e ≡ pairs) × ((p : ℕ) (o : Option ℕ) → console_with p o e ≡ o)

attaches_or : (e : Entry) → Attaches e ⊎ LeavesThem e
attaches_or (entry.Served c (command.Ia q) reply.Ok) = inl (record { console = c; process = q; is = refl })
attaches_or (entry.Served c (command.Ia q) (reply.Refused why)) = inr (λ pairs. refl, λ p o. refl)
attaches_or (entry.Served c (command.Ia q) reply.Quiet) = inr (λ pairs. refl, λ p o. refl)
attaches_or (entry.Served c (command.Ia q) (reply.Status n s)) = inr (λ pairs. refl, λ p o. refl)
attaches_or (entry.Served c (command.Ia q) (reply.Rows rs)) = inr (λ pairs. refl, λ p o. refl)
attaches_or _ = inr (λ pairs. refl, λ p o. refl)

not_some : {A : Type 0} (o : Option A) → is_some o ≡ false → o ≡ None
not_some None e = refl
not_some (Some a) e = absurd (both_ways true e refl)

free_of : (plan : Plan) (f : Facts) (c q : ℕ) → May plan f (entry.Served c (command.Ia q) reply.Ok) → console_of q f.server.attached ≡ None
free_of plan f c q may =
    let s = f.server in
    let third : List (Bool × Refusal) = (is_some (console_of q s.attached), refusal.AlreadyAttached) ∷ [] in
    let none = accepted_unrefused plan f c (command.Ia q) reply.Ok may.rule.answer refl in
    let second = rest_none (not (is_made s q)) refusal.NoProcess (not_interpreted s q ∷ third) none in
    not_some _ (first_none (is_some (console_of q s.attached)) refusal.AlreadyAttached [] (rest_none (not (is_interpreted s q)) refusal.NotInterpreted third second))

abbrev AreOne : Facts → Type 0
AreOne f = (f.server.flags ≡ []) × IsOne f.server.attached

with_one : (plan : Plan) (f : Facts) (e : Entry) → AreOne f → May plan f e → IsOne (attached_with f.server.attached e)
with_one plan f e k may = elim (attaches_or e) [
  | inl a ↦
      subst (λ (x : Entry). May plan f x → IsOne (attached_with f.server.attached x)) (sym a.is)
      (λ m. pushed_one f.server.attached a.process a.console (free_of plan f a.console a.process m) k.1) may
  | inr same ↦ subst IsOne (sym (same.0 f.server.attached)) k.1
]

one_step : (plan : Plan) (f : Facts) (e : Entry) → AreOne f → May plan f e → AreOne (note plan f e)
one_step plan f e k may = (no_flags plan f e k.0 may, subst IsOne (sym (attached_step plan f e k.0 may)) (with_one plan f e k may))

console_made : (plan : Plan) (p : ℕ) (f : Facts) (e : Entry) → May plan f e → console_of p (attached_with f.server.attached e) ≡ console_with p (console_of p f.server.attached) e
console_made plan p f e may = elim (attaches_or e) [
  | inl a ↦
      subst (λ (x : Entry). May plan f x → console_of p (attached_with f.server.attached x) ≡ console_with p (console_of p f.server.attached) x) (sym a.is)
      (λ m. pushed_console f.server.attached a.process a.console p (free_of plan f a.console a.process m)) may
  | inr same ↦ ap (console_of p) (same.0 f.server.attached) ∙ sym (same.1 p (console_of p f.server.attached))
]

console_is : (plan : Plan) (journal : List Entry) (p : ℕ) → Legal plan journal → console_of p (facts plan journal).server.attached ≡ console_by p journal
console_is plan journal p legal =
    folded plan (λ f. console_of p f.server.attached) (console_with p) AreOne (one_step plan)
    (λ f e k may. ap (console_of p) (attached_step plan f e k.0 may) ∙ console_made plan p f e may)
    (at_first plan) journal (refl, λ c q. refl) legal

its_console : (plan : Plan) (journal : List Entry) (c p : ℕ) → Legal plan journal → is_console_of c p (facts plan journal).server.attached ≡ is_its c (console_by p journal)
its_console plan journal c p legal =
    (kept_from plan AreOne (one_step plan) (at_first plan) journal (refl, λ d q. refl) legal).1 c p ∙ ap (is_its c) (console_is plan journal p legal)

-- A MODULE of this name
held_is : (m : List ℕ) (code : List ModuleTree) → is_held code m ≡ has_module m code
held_is m [] = refl
held_is m (x ∷ xs) = by (same_name x.name m) (held_is m xs)
  where
    by : (b : Bool) → is_held xs m ≡ has_module m xs → (b || is_held xs m) ≡ (if b then true else has_module m xs)
    by true rest = refl
    by false rest = rest

-- THE REFUSALS, by what they ask
some_kept : (o : Option Seen) → is_some o ≡ is_some (option_map status_of o)
some_kept None = refl
some_kept (Some x) = refl

made_told : (plan : Plan) (journal : List Entry) (p : ℕ) → Legal plan journal → is_made (facts plan journal).server p ≡ is_some (status_by p journal)
made_told plan journal p legal = some_kept (seen_at (facts plan journal).server p) ∙ ap (λ (s : Option ProcStatus). is_some s) (status_is plan journal p legal)

refused_unless : (b : Bool) (r : Refusal) → first_case ((not b, r) ∷ []) ≡ (if b then None else Some r)
refused_unless true r = refl
refused_unless false r = refl

-- what is asked first decides before what is asked behind it
abbrev told_cases : Bool → Bool → Option Refusal → Option Refusal
told_cases made inside rest = if not made then Some refusal.NoProcess else if not inside then Some refusal.NotInterpreted else rest

told_unless : (s : Option ProcStatus) (rest : Option Refusal) → told_cases (is_some s) (is_inside s) rest ≡ unless_made s (unless_interpreted s rest)
told_unless None rest = refl
told_unless (Some s) rest = by (is_inside (Some s))
  where
    by : (b : Bool) → (if not b then Some refusal.NotInterpreted else rest) ≡ (if b then rest else Some refusal.NotInterpreted)
    by true = refl
    by false = refl

attached_unless : (c : ℕ) (o : Option ℕ) (halted : Bool) → first_case ((not (is_its c o), refusal.NotAttached) ∷ ((not halted, refusal.NotStopped) ∷ []))
    ≡ unless_attached c o (if halted then None else Some refusal.NotStopped)
attached_unless c None halted = refl
attached_unless c (Some d) halted = by (nat_eq d c)
  where
    by : (b : Bool) → (if not b then Some refusal.NotAttached else first_case ((not halted, refusal.NotStopped) ∷ [])) ≡ (if b then (if halted then None else Some refusal.NotStopped) else Some refusal.NotAttached)
    by true = refused_unless halted refusal.NotStopped
    by false = refl

free_unless : (o : Option ℕ) → first_case ((is_some o, refusal.AlreadyAttached) ∷ []) ≡ unless_free o None
free_unless None = refl
free_unless (Some d) = refl

told_is : (plan : Plan) (journal : List Entry) (p : ℕ) (rest other : Option Refusal) → Legal plan journal → rest ≡ other
    → told_cases (is_made (facts plan journal).server p) (is_interpreted (facts plan journal).server p) rest ≡ unless_made (status_by p journal) (unless_interpreted (status_by p journal) other)
told_is plan journal p rest other legal same =
    ap (λ (b : Bool). told_cases b (is_interpreted (facts plan journal).server p) rest) (made_told plan journal p legal)
    ∙ (ap (λ (b : Bool). told_cases (is_some (status_by p journal)) b rest) (inside_is plan journal p legal)
    ∙ (ap (told_cases (is_some (status_by p journal)) (is_inside (status_by p journal))) same ∙ told_unless (status_by p journal) other))

pub refused_is : (plan : Plan) (journal : List Entry) (c : ℕ) (x : Call) → Legal plan journal → is_served x ≡ true → refused (facts plan journal).server c x ≡ refused_by plan.code journal c x
refused_is plan journal c (command.Start m n args) legal known =
    ap (λ (k : ℕ). first_case ((not (nat_lt k 65_536), refusal.SystemLimit) ∷ [])) (started_is plan journal legal) ∙ refused_unless _ refusal.SystemLimit
refused_is plan journal c (command.Ii m) legal known =
    ap (λ (b : Bool). first_case ((not b, refusal.NoModule) ∷ [])) (ap (λ (ms : List ModuleTree). is_held ms m) (code_is plan journal legal) ∙ held_is m plan.code) ∙ refused_unless _ refusal.NoModule
refused_is plan journal c (command.Ib m l) legal known = ap (λ (b : Bool). if b then Some refusal.BreakExists else None) (break_is plan journal m l legal)
refused_is plan journal c (command.Ia p) legal known =
    told_is plan journal p _ _ legal (ap (λ (o : Option ℕ). first_case ((is_some o, refusal.AlreadyAttached) ∷ [])) (console_is plan journal p legal) ∙ free_unless (console_by p journal))
refused_is plan journal c (command.Continue p) legal known = told_is plan journal p None None legal refl
refused_is plan journal c (command.Bindings p) legal known =
    told_is plan journal p _ _ legal
    (ap (λ (b : Bool). first_case ((not b, refusal.NotAttached) ∷ ((not (is_some (stop_at (facts plan journal).server p)), refusal.NotStopped) ∷ []))) (its_console plan journal c p legal)
    ∙ (ap (λ (b : Bool). first_case ((not (is_its c (console_by p journal)), refusal.NotAttached) ∷ ((not b, refusal.NotStopped) ∷ []))) (halted_is plan journal p legal)
    ∙ attached_unless c (console_by p journal) (is_halted (status_by p journal))))
refused_is plan journal c (command.Await p s) legal known = refl
refused_is plan journal c _ legal known = absurd (both_ways false refl known)

-- EACH ENTRY that answers a command
unrefused_answer : (s : Server) (c : ℕ) (x : Call) → is_served x ≡ true → refusal_in (entry.Served c x (answer s x)) ≡ None
unrefused_answer s c (command.Await p t) known = by (has_status s p t)
  where
    by : (b : Bool) → refusal_in (entry.Served c (command.Await p t) (if b then reply.Status p t else reply.Quiet)) ≡ None
    by true = refl
    by false = refl
unrefused_answer s c (command.AwaitAny t) known = absurd (both_ways false refl known)
unrefused_answer s c _ known = refl

refusal_is : (s : Server) (c : ℕ) (x : Call) (o : Option Refusal) → is_served x ≡ true → refused s c x ≡ o → refusal_in (entry.Served c x (reply_of s c x)) ≡ o
refusal_is s c x None known is = rw is (unrefused_answer s c x known)
refusal_is s c x (Some why) known is = rw is refl

quiet_none : (f : Facts) (code : List ModuleTree) (journal : List Entry) (c : ℕ) (x : Call) → is_enabled f x ≡ false → refused_by code journal c x ≡ None
quiet_none f code journal c (command.Await p t) waits = refl
quiet_none f code journal c (command.AwaitAny t) waits = refl
quiet_none f code journal c _ waits = absurd (both_ways true waits refl)

answer_told : (plan : Plan) (journal : List Entry) (c : ℕ) (x : Call) (r : Reply) → Legal plan journal → is_served x ≡ true → IsAnswer plan (facts plan journal) c x r
    → refusal_in (entry.Served c x r) ≡ refused_by plan.code journal c x
answer_told plan journal c x r legal known (inl a) =
    ap (λ (y : Reply). refusal_in (entry.Served c x y)) a.same ∙ (refusal_is (facts plan journal).server c x _ known refl ∙ refused_is plan journal c x legal known)
answer_told plan journal c x r legal known (inr q) =
    ap (λ (y : Reply). refusal_in (entry.Served c x y)) q.same ∙ sym (quiet_none (facts plan journal) plan.code journal c x (quiet_waits plan (facts plan journal) c x r q))

entry_told : (plan : Plan) (journal : List Entry) (e : Entry) (y : ℕ × Call) → Legal plan journal → May plan (facts plan journal) e → command_of e ≡ Some y
    → refusal_in e ≡ refused_by plan.code journal y.0 y.1
entry_told plan journal (entry.Start c p m n args) y legal may is =
    subst (λ (z : ℕ × Call). None ≡ refused_by plan.code journal z.0 z.1) (same_Some _ y is)
    (sym may.rule.allowed ∙ refused_is plan journal c (command.Start m n args) legal refl)
entry_told plan journal (entry.Served c x r) y legal may is =
    subst (λ (z : ℕ × Call). refusal_in (entry.Served c x r) ≡ refused_by plan.code journal z.0 z.1) (same_Some _ y is)
    (answer_told plan journal c x r legal may.rule.known may.rule.answer)
entry_told plan journal (entry.Load c m v) y legal may is = absurd (no_load plan (facts plan journal) c m v may)
entry_told plan journal (entry.Skip c p) y legal may is = absurd may.rule
entry_told plan journal (entry.Kill c p) y legal may is = absurd may.rule
entry_told plan journal (entry.Expire c p) y legal may is = absurd may.rule
entry_told plan journal _ y legal may is = absurd (none-some y is)

pub refusal_told : (plan : Plan) (journal : List Entry) (k : ℕ) (e : Entry) (c : ℕ) (x : Call) → Legal plan journal → slice_get journal k ≡ Some e → command_of e ≡ Some (c, x)
    → refusal_in e ≡ refused_by plan.code (take k journal) c x
refusal_told plan journal k e c x legal at is = entry_told plan (take k journal) e (c, x) (legal_take plan journal k legal) (may_at plan journal k e legal at) is
