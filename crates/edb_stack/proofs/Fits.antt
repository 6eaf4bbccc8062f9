-- Layers that may be put into a hole, put together.

use Rattle.std.proofs.Common.{◌≡◌, ◌≤◌, ℕ, List, [], ◌∷◌, length, ap, sym, subst, ◌∙◌, arith}
use Rattle.edb_lang.specs.Pairs.{Pairs}
use Rattle.edb_syntax.specs.Syntax.{Exps, Seq, Clauses, Catches}
use Rattle.edb_variables.specs.PairStacks.{oldest}
use Rattle.edb_moves.specs.Running.{Doing, Frame}
use Rattle.edb_stack.specs.Parts.{Item, Layer, operands, frame, scope, caught, tried, waiting}
use Rattle.edb_stack.specs.Marks.{Agree, AllBelow, Marked}
use Rattle.edb_stack.specs.Paths.{outer, Fit}
use Rattle.edb_stack.proofs.MarkLaws.{oldest_all, length_oldest, widen, agree_cut}

same_count : {m n : ℕ} (bs : Pairs) → length bs ≡ n → m ≤ n → m ≤ length bs
same_count {m = m} bs e h = subst (λ k. m ≤ k) (sym e) h

-- NO LAYERS, and newer pairs
pub fit_none : (k n : ℕ) → k ≤ n → Fit k n []
fit_none k n h = record { within = tt; keeps = λ bs fs e m. agree_cut fs k bs (same_count bs e h) m; marked = λ fs m. widen fs k n h m }

-- ONE LAYER MORE, within the others
pub fit_operands : (k n : ℕ) (ls : List Layer) (o : Doing) (done : List Item) (rest : Exps) → AllBelow n done → Fit k n ls → Fit k n (operands o done rest ∷ ls)
fit_operands k n ls o done rest b f = record { within = f.within; keeps = f.keeps; marked = λ fs m. (b, f.marked fs m) }

pub fit_frame : (k n : ℕ) (ls : List Layer) (g : Frame) → Fit k n ls → Fit k n (frame g ∷ ls)
fit_frame k n ls g f = record { within = f.within; keeps = f.keeps; marked = f.marked }

itself : (n : ℕ) → n ≤ n
itself n = omega arith

pub fit_caught : (k n : ℕ) (ls : List Layer) → Fit k n ls → Fit k n (caught n ∷ ls)
fit_caught k n ls f = record { within = f.within; keeps = f.keeps; marked = λ fs m. (itself n, f.marked fs m) }

pub fit_tried : (k n : ℕ) (ls : List Layer) (cs : Clauses) (hs : Catches) → Fit k n ls → Fit k n (tried n cs hs ∷ ls)
fit_tried k n ls cs hs f = record { within = f.within; keeps = f.keeps; marked = λ fs m. (itself n, f.marked fs m) }

pub fit_waiting : (k n : ℕ) (ls : List Layer) (s : Seq) → Fit k n ls → Fit k n (waiting n s ∷ ls)
fit_waiting k n ls s f = record { within = f.within; keeps = f.keeps; marked = λ fs m. (itself n, f.marked fs m) }

-- A SCOPE whose own pairs are all that are newer than those at the hole
pub fit_scope : (k n : ℕ) (ls : List Layer) → k ≤ n → Fit k k ls → Fit k n (scope k ∷ ls)
fit_scope k n ls h f = record { within = f.within; keeps = λ bs fs e m. keeps bs fs e m; marked = λ fs m. (h, f.marked fs m) }
  where
    keeps : (bs : Pairs) (fs : List Layer) → length bs ≡ n → Marked fs k → Agree fs (oldest k bs) (outer ls (oldest k bs))
    keeps bs fs e m =
        let count : length (oldest k bs) ≡ k = length_oldest k bs (same_count bs e h) in
        let twice : oldest k (oldest k bs) ≡ oldest k bs = ap (λ j. oldest j (oldest k bs)) (sym count) ∙ oldest_all (oldest k bs) in
        subst (λ cs. Agree fs cs (outer ls (oldest k bs))) twice (f.keeps (oldest k bs) fs count m)
