-- What a slice's end says of the moves before it.

use Rattle.std.proofs.Common.{◌≡◌, ℕ, ◌<◌, ◌≤◌, ◌+◌, List, true, Option, None, Some, refl, sym, ◌∙◌, ap, subst, add-one}
use Rattle.std.specs.Option.{option_map}
use Rattle.std.proofs.lemmas.Option.{none-some, same_Some}
use Rattle.std.specs.Prelude.{Result, Ok, Err, IfOk}
use borrow.Author.Count.{below_more}
use Rattle.edb_lang.specs.Syntax.{ModuleTree}
use Rattle.edb_model.specs.Running.{Run}
use Rattle.edb_model.specs.Move.{next, is_move, moved}
use Rattle.edb_rules.specs.Facts.{Handout}
use Rattle.edb_rules.specs.Slices as rules
use Rattle.edb_rules.specs.Slices.{IsSlice, asked_to, end_before, end_at, after_moves}
use Rattle.edb_world.specs.declared.slices.SliceEnd.{SliceEnd}
use Rattle.edb_world.specs.Turns.{told_end, MakesSlice}
use Rattle.edb_world.proofs.Conditions.{none_asked}
use Rattle.edb_world.proofs.Ends.{goes_move, ends_here}

-- where no end is told, the slice doesn't end
pub none_told : (o : Option rules.SliceEnd) → None ≡ option_map told_end o → o ≡ None
none_told None h = refl
none_told (Some e) h = absurd (none-some _ h)

some_told : (o : Option rules.SliceEnd) (x : SliceEnd) → Some x ≡ option_map told_end o → (e : rules.SliceEnd) × (o ≡ Some e) × (x ≡ told_end e)
some_told None x h = absurd (none-some x (sym h))
some_told (Some e) x h = (e, refl, same_Some x (told_end e) h)

-- the slice ends after none of these moves
abbrev pub GoesOn : List ModuleTree → Handout → Run → ℕ → Type 0
GoesOn code h t n = (p i : ℕ) → i < n → end_at code h p t i ≡ None

-- what is told of the expression that the moves lead to
here : (code : List ModuleTree) (h : Handout) (p : ℕ) (t u : Run) (n : ℕ) → u ≡ after_moves code h.versions n t → end_before code h p n 0 u ≡ end_at code h p t n
here code h p t u n is =
    ap (end_before code h p n 0) is ∙ ap (λ (m : ℕ). end_before code h p n m (after_moves code h.versions n t)) (sym (none_asked code h p t n))

-- a slice ends where its moves lead
pub slice_made : (code : List ModuleTree) (h : Handout) (t u : Run) (n m : ℕ) (x : SliceEnd) → n ≡ m → u ≡ after_moves code h.versions n t → GoesOn code h t n
    → ((c : List ModuleTree) (p : ℕ) → Some x ≡ option_map told_end (end_before c h p m 0 u))
    → (p : ℕ) → MakesSlice code h p t (record { moves = m; end = x })
slice_made code h t u n m x same is goes told p =
    let found = some_told (end_at code h p t m) x (told code p ∙ ap (option_map told_end) (here code h p t u m (subst (λ (k : ℕ). u ≡ after_moves code h.versions k t) same is))) in
    (found.0, record { ends = found.1; goes = subst (λ (k : ℕ). GoesOn code h t k) same goes p; asked = sym (none_asked code h p t m) }, found.2)

-- one move more
pub one_more : (code : List ModuleTree) (versions current : List (List ℕ × ℕ)) (n : ℕ) (t u v : Run) → versions ≡ current → u ≡ after_moves code versions n t
    → v ≡ moved code current u → v ≡ after_moves code versions (n + 1) t
one_more code versions current n t u v same is next =
    rw add-one (next ∙ (ap (λ (vs : List (List ℕ × ℕ)). moved code vs u) (sym same) ∙ ap (moved code versions) is))

pub goes_on : (code : List ModuleTree) (h : Handout) (t u : Run) (n : ℕ) → u ≡ after_moves code h.versions n t → GoesOn code h t n
    → ((c : List ModuleTree) (p : ℕ) → None ≡ option_map told_end (end_before c h p n 0 u)) → GoesOn code h t (n + 1)
goes_on code h t u n is goes none p =
    below_more (λ (i : ℕ). end_at code h p t i ≡ None) n (goes p)
    (none_told (end_at code h p t n) (none code p ∙ ap (option_map told_end) (here code h p t u n is)))

-- where no end is told a move is next, and the budget isn't reached
pub move_next : (code : List ModuleTree) (h : Handout) (n : ℕ) (u : Run) → ((c : List ModuleTree) (p : ℕ) → None ≡ option_map told_end (end_before c h p n 0 u))
    → is_move (next u) ≡ true
move_next code h n u none = goes_move code h 0 n 0 u (none_told (end_before code h 0 n 0 u) (none code 0))

pub not_full : (code : List ModuleTree) (h : Handout) (n : ℕ) (u : Run) → ((c : List ModuleTree) (p : ℕ) → None ≡ option_map told_end (end_before c h p n 0 u))
    → 1 ≤ n → h.budget ≤ n → ⊥
not_full code h n u none some full = ends_here code h 0 n 0 u some full (none_told (end_before code h 0 n 0 u) (none code 0))

-- what an answer says, said more weakly
pub ok_weaker : {A E : Type 0} (r : Result A E) (P Q : A → Type 0) → ((x : A) → P x → Q x) → IfOk r P → IfOk r Q
ok_weaker (Ok x) P Q weaker h = weaker x h
ok_weaker (Err e) P Q weaker h = tt
