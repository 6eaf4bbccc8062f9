-- Where a raise lands, found layer by layer.

use Rattle.std.proofs.Common.{◌≡◌, ◌≤◌, ◌+◌, ◌-◌, ℕ, zero, suc, List, [], ◌∷◌, ◌++◌, length, drop, slice_get, Option, None, Some, MatchOption, Result, Ok, Err, IfOk, Bor, append-nil, refl, ap, sym, subst, ◌∙◌, arith}
use Rattle.std.specs.Option.{option_map, option_map_or}
use Rattle.edb_lang.specs.declared.small.Class.{Class}
use Rattle.edb_lang.specs.declared.term.Captured.{Captured}
use Rattle.edb_lang.specs.Terms.{Datum}
use Rattle.edb_lang.specs.Pairs.{Pairs}
use Rattle.edb_moves.specs.Running.{Info, Run, value, leaf, unbegun}
use Rattle.edb_moves.specs.Going.{if_some, caught_value}
use Rattle.edb_moves.specs.Clauses.{Choice, handler}
use Rattle.edb_syntax.specs.Syntax.{Seq, ClauseTree, Clauses, CatchTree, Catches}
use Rattle.edb_match.specs.Newest as newest
use Rattle.edb_guards.specs.Choices.{choice_of}
use Rattle.edb_guards.specs.declared.choice.Choice as choices
use Rattle.edb_path.proofs.Newest.{newest_first_same}
use Rattle.edb_pure.specs.declared.Raise.{Raise}
use Rattle.edb_variables.specs.PairStacks.{PairStack, newest_first, oldest}
use Rattle.edb_stack.specs.Landings.{Landing, nowhere, lands, deeper, landing}
use Rattle.edb_stack.specs.Parts.{Layer, caught, tried, waiting}
use Rattle.edb_stack.specs.Trees.{outward}
use Rattle.edb_stack.specs.Views.{layer_of}
use Rattle.edb_stack.specs.declared.layer.Layer as code
use Rattle.edb_stack.specs.declared.layer.Layer.TheVariants as layer
use Rattle.edb_running.specs.Landed.{mark_of, mark_at, landed_pairs, landed_tree, Extends, IsLanding, IsCaught, IsChosen}
use Rattle.edb_running.specs.declared.landing.Landed.{Landed}
use Rattle.edb_running.specs.declared.landing.Landed.TheVariants.{Value, Clause, After}

-- so many layers further out
abbrev pub within : ℕ → Landing → Landing
within zero x = x
within (suc n) x = within n (deeper x)

within_nowhere : (n : ℕ) → within n nowhere ≡ nowhere
within_nowhere zero = refl
within_nowhere (suc n) = within_nowhere n

within_lands : (n d : ℕ) (j : Info) (bs : Pairs) (t : Run) → within n (lands d j bs t) ≡ lands (n + d) j bs t
within_lands zero d j bs t = let e : d ≡ 0 + d = omega arith in ap (λ m. lands m j bs t) e
within_lands (suc n) d j bs t = let e : n + suc d ≡ suc n + d = omega arith in within_lands n (suc d) j bs t ∙ ap (λ m. lands m j bs t) e

within_more : (n : ℕ) (x : Landing) → within n (deeper x) ≡ within (n + 1) x
within_more n x = let e : suc n ≡ n + 1 = omega arith in ap (λ m. within m x) e

-- A scan that has come outward past n layers, none of which catches the raise; it sees these bindings.
pub record Reached (me : ℕ) (r : Raise) (ls : List Layer) (i : Info) (n : ℕ) (rest : List Layer) (bs : Pairs) : Type 0 where
  pub at : Info
  pub sees : at.bindings ≡ bs
  pub lands : landing me ls i r.class r.reason ≡ within n (landing me rest at r.class r.reason)
  pub behind : drop n ls ≡ rest

pub reached_first : (me : ℕ) (r : Raise) (ls : List Layer) (i : Info) (n : ℕ) (bs : Pairs) → n ≡ 0 → i.bindings ≡ bs → Reached me r ls i n ls bs
reached_first me r ls i n bs none e =
    subst (λ m. Reached me r ls i m ls bs) (sym none) (record { at = i; sees = e; lands = refl; behind = refl })

drop_more : (n : ℕ) (ls : List Layer) (l : Layer) (rest : List Layer) → drop n ls ≡ l ∷ rest → (drop (suc n) ls ≡ rest) × (slice_get ls n ≡ Some l)
drop_more zero [] l rest e = absurd (cc)
drop_more (suc n) [] l rest e = absurd (cc)
drop_more zero (k ∷ ls) l rest e = (cc, cc)
drop_more (suc n) (k ∷ ls) l rest e = drop_more n ls l rest e

pub reached_next : (me : ℕ) (r : Raise) (ls : List Layer) (i : Info) (n m : ℕ) (l : Layer) (rest : List Layer) (bs cs : Pairs) (s : Reached me r ls i n (l ∷ rest) bs) → m ≡ n + 1
    → landing me (l ∷ rest) s.at r.class r.reason ≡ deeper (landing me rest (outward l s.at) r.class r.reason) → (outward l s.at).bindings ≡ cs → Reached me r ls i m rest cs
reached_next me r ls i n m l rest bs cs s more passes sees =
    let e : suc n ≡ n + 1 = omega arith in
    subst (λ k. Reached me r ls i k rest cs) (sym more) (record {
      at = outward l s.at;
      sees = sees;
      lands = s.lands ∙ ap (within n) passes ∙ within_more n (landing me rest (outward l s.at) r.class r.reason);
      behind = ap (λ k. drop k ls) (sym e) ∙ (drop_more n ls l rest s.behind).0;
    })

pub reached_caught : (me : ℕ) (r : Raise) (ls : List Layer) (i : Info) (n m : ℕ) (l : Layer) (rest : List Layer) (bs : Pairs) (k : Landed) (s : Reached me r ls i n (l ∷ rest) bs) → m ≡ mark_of l
    → IsCaught r s.at (mark_of l) (landing me (l ∷ rest) s.at r.class r.reason) k
    → IsLanding r ls (landing me ls i r.class r.reason) (Some (record { depth = n; mark = m; landed = k }))
reached_caught me r ls i n m l rest bs k s same takes =
    subst (λ x. IsLanding r ls x (Some (record { depth = n; mark = m; landed = k }))) (sym s.lands)
    (subst (λ a. IsLanding r ls (within n (landing me (l ∷ rest) s.at r.class r.reason)) (Some (record { depth = n; mark = a; landed = k }))) (sym same)
    (go (landing me (l ∷ rest) s.at r.class r.reason) takes))
  where
    marked : mark_of l ≡ mark_at n ls
    marked = ap (λ o. option_map_or mark_of o 0) (sym (drop_more n ls l rest s.behind).1)

    go : (x : Landing) → IsCaught r s.at (mark_of l) x k → IsLanding r ls (within n x) (Some (record { depth = n; mark = mark_of l; landed = k }))
    go nowhere e = absurd e
    go (lands d j bs t) e =
        let z : n ≡ n + d = omega (arith, e.0) in
        subst (λ x. IsLanding r ls x (Some (record { depth = n; mark = mark_of l; landed = k }))) (sym (within_lands n d j bs t)) (
          z,
          marked ∙ ap (λ a. mark_at a ls) z,
          e.2 ∙ ap (λ a. landed_pairs k (oldest (mark_of l) a.bindings)) (sym e.1),
          e.3,
          subst (λ a. Extends k (oldest (mark_of l) a.bindings)) (sym e.1) e.4,
        )

pub reached_end : (me : ℕ) (r : Raise) (ls : List Layer) (i : Info) (n : ℕ) (rest : List Layer) (bs : Pairs) → rest ≡ [] → Reached me r ls i n rest bs
    → IsLanding r ls (landing me ls i r.class r.reason) None
unfolding landing
reached_end me r ls i n rest bs none s =
    subst (λ x. IsLanding r ls x None) (sym (s.lands ∙ ap (λ xs. within n (landing me xs s.at r.class r.reason)) none ∙ within_nowhere n)) tt

-- AN OPENED CATCH takes every exception
pub catch_lands : (me : ℕ) (r : Raise) (ls : List Layer) (i : Info) (m : ℕ) (w : Datum) → w ≡ caught_value r.class r.reason → IsCaught r i m (landing me (caught m ∷ ls) i r.class r.reason) (Value w)
unfolding landing
catch_lands me r ls i m w e = (refl, refl, refl, ap value (sym e), tt)

-- so does an `after` that waits
pub after_lands : (me : ℕ) (r : Raise) (ls : List Layer) (i : Info) (m : ℕ) (s : Bor Seq) → IsCaught r i m (landing me (waiting m s.now ∷ ls) i r.class r.reason) (After s)
unfolding landing
after_lands me r ls i m s = (refl, refl, refl, refl, tt)

-- an opened `try` takes what a clause of it is chosen for
pub try_lands : (me : ℕ) (r : Raise) (ls : List Layer) (i : Info) (m : ℕ) (cs : Clauses) (hs : Catches) (o : Option Landed) → IsChosen o (oldest m i.bindings) (handler me (oldest m i.bindings) hs r.class r.reason)
    → MatchOption o (landing me (tried m cs hs ∷ ls) i r.class r.reason ≡ deeper (landing me ls i r.class r.reason)) (IsCaught r i m (landing me (tried m cs hs ∷ ls) i r.class r.reason))
unfolding landing
try_lands me r ls i m cs hs o e = go (handler me (oldest m i.bindings) hs r.class r.reason) o e
  where
    lands_by : Choice → Landing
    lands_by k = if_some k (λ b. lands 0 i b.0 (leaf (unbegun b.1))) (deeper (landing me ls i r.class r.reason))

    go : (k : Choice) (o : Option Landed) → IsChosen o (oldest m i.bindings) k → MatchOption o (lands_by k ≡ deeper (landing me ls i r.class r.reason)) (IsCaught r i m (lands_by k))
    go None None e = refl
    go None (Some (Clause vs s)) e = absurd e
    go None (Some (Value v)) e = absurd e
    go None (Some (After s)) e = absurd e
    go (Some k) None e = absurd e
    go (Some k) (Some (Clause vs s)) e = (refl, refl, e.0, ap (λ u. leaf (unbegun u)) e.1, e.2)
    go (Some k) (Some (Value v)) e = absurd e
    go (Some k) (Some (After s)) e = absurd e

-- all other layers let it pass
pub layer_passes : (me : ℕ) (r : Raise) (ls : List Layer) (i : Info) (l : code.Layer) → ((m : ℕ) → l ≡ layer.Caught m → ⊥) → ((m : ℕ) (cs : Bor (List ClauseTree)) (hs : Bor (List CatchTree)) → l ≡ layer.Tried m cs hs → ⊥)
    → ((m : ℕ) (s : Bor Seq) → l ≡ layer.Waiting m s → ⊥) → landing me (layer_of l ∷ ls) i r.class r.reason ≡ deeper (landing me ls (outward (layer_of l) i) r.class r.reason)
unfolding landing
layer_passes me r ls i (layer.Operands o) f g h = refl
layer_passes me r ls i (layer.Body b) f g h = refl
layer_passes me r ls i (layer.Sequence l es) f g h = refl
layer_passes me r ls i (layer.Match q) f g h = refl
layer_passes me r ls i (layer.Select cs) f g h = refl
layer_passes me r ls i (layer.AndThen e) f g h = refl
layer_passes me r ls i (layer.OrThen e) f g h = refl
layer_passes me r ls i (layer.Generate q e qs) f g h = refl
layer_passes me r ls i (layer.Filter e qs) f g h = refl
layer_passes me r ls i (layer.Gather d v) f g h = refl
layer_passes me r ls i (layer.Resume o) f g h = refl
layer_passes me r ls i (layer.Scope m) f g h = refl
layer_passes me r ls i (layer.Caught m) f g h = absurd (f m refl)
layer_passes me r ls i (layer.Tried m cs hs) f g h = absurd (g m cs hs refl)
layer_passes me r ls i (layer.Waiting m s) f g h = absurd (h m s refl)

-- WHAT IS CHOSEN, by the pairs as the code has them
pub chosen_kept : (me : ℕ) (hs : Catches) (c : Class) (v : Datum) (kept : Pairs) (ps : List Captured) (found : Option choices.Choice) → newest_first ps ≡ kept
    → option_map (choice_of (newest.newest_first ps [])) found ≡ handler me (newest.newest_first ps []) hs c v → option_map (choice_of kept) found ≡ handler me kept hs c v
chosen_kept me hs c v kept ps found e chosen =
    let same : newest.newest_first ps [] ≡ kept = newest_first_same ps [] ∙ append-nil (newest_first ps) ∙ e in
    subst (λ bs. option_map (choice_of bs) found ≡ handler me bs hs c v) same chosen

pub none_chosen : (kept : Pairs) (k : Choice) (found : Option choices.Choice) → found ≡ None → option_map (choice_of kept) found ≡ k → IsChosen None kept k
none_chosen kept k found none e = subst (IsChosen None kept) (ap (option_map (choice_of kept)) (sym none) ∙ e) tt

pub one_chosen : (kept : Pairs) (k : Choice) (found : Option choices.Choice) (x : choices.Choice) (vs : PairStack) → found ≡ Some x → option_map (choice_of kept) found ≡ k → vs.pairs ≡ newest_first x.pairs.items ++ kept
    → IsChosen (Some (Clause vs x.body)) kept k
one_chosen kept k found x vs one e bound =
    subst (IsChosen (Some (Clause vs x.body)) kept) (ap (option_map (choice_of kept)) (sym one) ∙ e)
    (newest_first_same x.pairs.items kept ∙ sym bound, refl, (newest_first x.pairs.items, bound))

pub ok_map : {A E : Type 0} {P Q : A → Type 0} (x : Result A E) → IfOk x P → ((a : A) → P a → Q a) → IfOk x Q
ok_map (Ok a) p f = f a p
ok_map (Err e) p f = p
