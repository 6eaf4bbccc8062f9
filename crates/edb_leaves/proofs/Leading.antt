-- Paths that a plan may put into a hole.

use Rattle.std.proofs.Common.{◌≡◌, ◌≤◌, ◌+◌, ℕ, List, [], ◌∷◌, ◌++◌, length, reverse, ap, sym, subst, ◌∙◌, arith, Vec, Global}
use Rattle.std.proofs.lemmas.List.{reverse-append}
use Rattle.edb_lang.specs.declared.term.Captured.{Captured}
use Rattle.edb_lang.specs.Pairs.{Pairs}
use Rattle.edb_lang.specs.Terms.{Datum}
use Rattle.edb_moves.specs.Going.{Place, turns}
use Rattle.edb_path.specs.Plans.{effect}
use Rattle.edb_path.specs.declared.plan.Plan.TheVariants.{Turns}
use Rattle.edb_stack.specs.Redexes.{redex_tree}
use Rattle.edb_variables.specs.PairStacks.{newest_first, oldest}
use Rattle.edb_syntax.specs.Syntax.{Seq, Clauses, Catches}
use Rattle.edb_moves.specs.Running.{Run}
use Rattle.edb_stack.specs.Parts as parts
use Rattle.edb_stack.specs.Parts.{frame, scope, caught, tried, waiting}
use Rattle.edb_stack.specs.Paths.{Fit, Leads, outer, wrapped, path_layers, path_tree}
use Rattle.edb_stack.specs.Views.{layer_of, layers_of}
use Rattle.edb_stack.specs.declared.layer.Layer.{Layer}
use Rattle.edb_stack.specs.declared.redex.Path.{Path}
use Rattle.edb_stack.proofs.MarkLaws.{oldest_all, oldest_behind}
use Rattle.edb_stack.proofs.Fits.{fit_none, fit_scope, fit_caught, fit_tried, fit_waiting}

-- no pairs are new
pub none_new : (n : ℕ) (new : List Captured) (w : Path) → new ≡ [] → Leads n n w → Leads n (length new + n) w
none_new n new w e l =
    let none : length new ≡ 0 = ap length e in
    let same : n ≡ length new + n = omega arith in
    subst (λ m. Leads n m w) same l

-- no layers
pub bare : (n : ℕ) → Fit n n []
bare n = fit_none n n (omega arith)

pub no_layers : (n : ℕ) (ls : List Layer) → ls ≡ [] → Fit n n (layers_of (reverse ls))
no_layers n ls e = subst (λ ms. Fit n n (layers_of (reverse ms))) (sym e) (bare n)

-- one layer more
pub pushed : (k n : ℕ) (ls ms : List Layer) (l : Layer) → ms ≡ ls ++ l ∷ [] → Fit k n (layer_of l ∷ layers_of (reverse ls)) → Fit k n (layers_of (reverse ms))
pushed k n ls ms l e f = subst (λ ks. Fit k n (layers_of ks)) (sym (ap reverse e ∙ reverse-append ls (l ∷ []))) f

-- layers that keep all pairs of the hole
pub keeps_caught : (n m : ℕ) (ls : List parts.Layer) → m ≡ n → Fit n n ls → Fit n n (caught m ∷ ls)
keeps_caught n m ls e f = subst (λ k. Fit n n (caught k ∷ ls)) (sym e) (fit_caught n n ls f)

pub keeps_tried : (n m : ℕ) (ls : List parts.Layer) (cs : Clauses) (hs : Catches) → m ≡ n → Fit n n ls → Fit n n (tried m cs hs ∷ ls)
keeps_tried n m ls cs hs e f = subst (λ k. Fit n n (tried k cs hs ∷ ls)) (sym e) (fit_tried n n ls cs hs f)

pub keeps_waiting : (n m : ℕ) (ls : List parts.Layer) (s : Seq) → m ≡ n → Fit n n ls → Fit n n (waiting m s ∷ ls)
keeps_waiting n m ls s e f = subst (λ k. Fit n n (waiting k s ∷ ls)) (sym e) (fit_waiting n n ls s f)

-- a scope in which newer pairs are its own
pub scoped : (k n m : ℕ) (ls : List parts.Layer) → m ≡ k → k ≤ n → Fit k k ls → Fit k n (scope m ∷ ls)
scoped k n m ls e h f = subst (λ j. Fit k n (scope j ∷ ls)) (sym e) (fit_scope k n ls h f)

-- A PATH OF NO LAYERS, as a plan
pub bare_turns : (p : Place) (v : Datum) (new : Vec Captured Global) (w : Path) → w.layers.items ≡ [] → effect p v (Turns new w) ≡ turns (newest_first new.items ++ p.bindings) (redex_tree (newest_first new.items ++ p.bindings) w.redex)
bare_turns p v new w e =
    let bs : Pairs = newest_first new.items ++ p.bindings in
    ap (λ ls. turns (outer (layers_of (reverse ls)) bs) (wrapped (layers_of (reverse ls)) bs (redex_tree bs w.redex))) e

-- newer pairs
pub bare_newer : (n : ℕ) (new : List Captured) (ls : List Layer) → ls ≡ [] → Fit n (length new + n) (layers_of (reverse ls))
bare_newer n new ls e = subst (λ ms. Fit n (length new + n) (layers_of (reverse ms))) (sym e) (fit_none n (length new + n) (omega arith))

-- A PATH within some layers, as a plan without new pairs
pub path_turns : (p : Place) (v : Datum) (new : Vec Captured Global) (w : Path) (ls : List parts.Layer) (t : Run) → new.items ≡ []
    → ((bs : Pairs) → path_tree bs w ≡ wrapped ls bs t) → ((bs : Pairs) → outer (path_layers w) bs ≡ outer ls bs)
    → effect p v (Turns new w) ≡ turns (outer ls p.bindings) (wrapped ls p.bindings t)
path_turns p v new w ls t e tree out =
    ap (λ ns. turns (outer (path_layers w) (newest_first ns ++ p.bindings)) (path_tree (newest_first ns ++ p.bindings) w)) e
    ∙ ap (λ bs. turns bs (path_tree p.bindings w)) (out p.bindings)
    ∙ ap (turns (outer ls p.bindings)) (tree p.bindings)

-- layers that were pushed
pub one_pushed : (ls ms : List Layer) (l : Layer) → ls ≡ [] → ms ≡ ls ++ l ∷ [] → layers_of (reverse ms) ≡ layer_of l ∷ []
one_pushed ls ms l none e = ap (λ ks. layers_of (reverse ks)) (e ∙ ap (λ ks. ks ++ l ∷ []) none)

pub two_pushed : (ls ms ns : List Layer) (l m : Layer) → ls ≡ [] → ms ≡ ls ++ l ∷ [] → ns ≡ ms ++ m ∷ [] → layers_of (reverse ns) ≡ layer_of m ∷ layer_of l ∷ []
two_pushed ls ms ns l m none e f = ap (λ ks. layers_of (reverse ks)) (f ∙ ap (λ ks. ks ++ m ∷ []) (e ∙ ap (λ ks. ks ++ l ∷ []) none))

-- pairs that a scope keeps to itself
pub oldest_newer : (new bs cs : Pairs) (m : ℕ) → m ≡ length cs → bs ≡ cs → oldest m (new ++ bs) ≡ bs
oldest_newer new bs cs m e same =
    let count : m ≡ length bs = e ∙ ap length (sym same) in
    ap (λ k. oldest k (new ++ bs)) count ∙ oldest_behind (length bs) new bs (omega arith) ∙ oldest_all bs
