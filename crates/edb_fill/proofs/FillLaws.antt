-- Rows of the table of moves, by what the code finds out.

use Rattle.std.proofs.Common.{◌≡◌, [], ◌∷◌, ◌++◌, Bool, true, false, if◌then◌else◌, nat_eq, length, codes, List, None, refl, ap, sym, ◌∙◌}
use Rattle.edb_lang.specs.ListTerms.{list_of}
use Rattle.edb_lang.specs.Pairs.{Pairs}
use Rattle.edb_lang.specs.Terms.{Datum, nil, is_within, elements}
use Rattle.edb_syntax.specs.Syntax.{Exp, Qualifiers, ClauseTree, Catches, clauses_of}
use Rattle.edb_moves.specs.Clauses.{chosen}
use Rattle.edb_moves.specs.Going.{Place, turns, if_some, taken}
use Rattle.edb_moves.specs.Comprehensions.{listed, filtered, with_more, appended}
use Rattle.edb_pure.specs.Truths.{truth_of}
use Rattle.edb_moves.specs.Moves.{frame_move}
use Rattle.edb_moves.specs.Raises.{fails, fails_with}
use Rattle.edb_moves.specs.Running.{Drawing, drawing, value, leaf, tried}

-- an opened `try` with clauses behind `of`
pub try_chooses : (p : Place) (kept : Pairs) (cs : List ClauseTree) (hs : Catches) (v : Datum) → (cs ≡ [] → ⊥)
    → if_some (chosen p.me p.bindings [] (clauses_of cs) (v ∷ [])) taken (fails_with (codes "try_clause") v) ≡ frame_move p (tried kept (clauses_of cs) hs) v
try_chooses p kept [] hs v some = absurd (some refl)
try_chooses p kept (c ∷ cs) hs v some = refl

-- a filter whose value is no truth value
pub not_filtered : (p : Place) (e : Exp) (qs : Qualifiers) (v : Datum) → truth_of v ≡ None → fails_with (codes "bad_filter") v ≡ filtered p e qs v
not_filtered p e qs v h = sym (ap (λ o. if_some o (λ b. if b then turns p.bindings (listed e qs) else turns p.bindings (value nil)) (fails_with (codes "bad_filter") v)) h)

pub not_empty : (cs : List ClauseTree) (b : Bool) → b ≡ nat_eq (length cs) 0 → b ≡ false → cs ≡ [] → ⊥
not_empty cs b e f g = let none : b ≡ true = e ∙ ap (λ xs. nat_eq (length xs) 0) g in absurd (cc)

-- what a generator gathers, past the limits of a term
pub not_appended : (p : Place) (d : Drawing) (rest v : Datum) (b : Bool) → b ≡ is_within (list_of (d.gathered ++ elements v) nil) → b ≡ false → fails (codes "system_limit") ≡ appended p d rest v
not_appended p d rest v b e f =
    ap (λ c. if c then turns p.bindings (leaf (drawing (with_more d (elements v)) rest)) else fails (codes "system_limit")) (sym f ∙ e)
