-- Steps down to a redex, and the layers that they add.

use Rattle.std.proofs.Common.{◌≡◌, ◌≢◌, ◌+◌, ◌<◌, ℕ, List, [], ◌∷◌, ◌++◌, length, reverse, slice_get, Option, None, Some, unwrap_or, refl, ap, sym, subst, ◌∙◌, arith}
use Rattle.std.proofs.lemmas.List.{reverse-append}
use Rattle.edb_lang.specs.Terms.{Datum}
use Rattle.edb_lang.specs.Pairs.{Pairs}
use Rattle.edb_syntax.specs.Patterns.{Pat, pats_of}
use Rattle.edb_syntax.specs.Sizes.{size, sizes}
use Rattle.edb_syntax.specs.Syntax.{Exp, Guards, Seq, ClauseTree, clause, more_clauses, exps_of, clauses_of}
use Rattle.edb_syntax.proofs.Lists.{count-pats_of}
use Rattle.edb_syntax.specs.declared.operation.Operation.{Operation}
use Rattle.edb_syntax.specs.declared.operation.Operation.TheVariants as operation
use Rattle.edb_moves.specs.Running.{Runs, written, node, arity_of, value_of, running, done_with}
use Rattle.edb_stack.specs.Feeding.{open_or, first_open}
use Rattle.edb_stack.specs.Parts as parts
use Rattle.edb_stack.specs.Parts.{operands, frame, scope, caught, tried, waiting, body}
use Rattle.edb_stack.specs.Paths.{outer, Fit}
use Rattle.edb_stack.specs.Views.{layer_of, layers_of, doing_of}
use Rattle.edb_stack.specs.declared.doing.Doing.{Doing}
use Rattle.edb_stack.specs.declared.layer.Layer.{Layer}
use Rattle.edb_stack.proofs.Fits.{fit_operands, fit_frame}
use Rattle.edb_path.specs.Steps.{Plain}
use Rattle.edb_path.specs.Waiting.{MayStand}

-- what is written and no send is done with its operands
written_done : (o : Operation) (ts : Runs) → o ≢ operation.Send → node (written o) ts ≡ done_with o ts
written_done operation.Send ts h = absurd (h refl)
written_done operation.Tuple ts h = refl
written_done operation.List ts h = refl
written_done operation.ListWithTail ts h = refl
written_done (operation.Unary u) ts h = refl
written_done (operation.Binary b) ts h = refl
written_done (operation.LocalCall f) ts h = refl
written_done operation.RemoteCall ts h = refl
written_done operation.FunCall ts h = refl

pub doing_done : (d : Doing) (o : Operation) (ts : Runs) → doing_of d ≡ written o → o ≢ operation.Send → node (doing_of d) ts ≡ done_with o ts
doing_done d o ts e h = ap (λ x. node x ts) e ∙ written_done o ts h

-- THE FIRST OPERAND THAT IS NO LITERAL is none, and is smaller than all
abbrev Found : List Exp → Exp → Type 0
Found es e = (value_of (running e) ≡ None) × (size e < sizes (exps_of es) + 1)

found : (x : Exp) (o : Option Datum) (es : List Exp) (e : Exp) → value_of (running x) ≡ o → open_or x o (first_open es) ≡ Some e → (first_open es ≡ Some e → Found es e) → Found (x ∷ es) e
found x (Some v) es e is h rest = let r : Found es e = rest h in (r.0, omega (arith, r.1))
found x None es e is h rest =
    let same : x ≡ e = ap (λ o. unwrap_or o x) h in
    (subst (λ y. value_of (running y) ≡ None) same is, subst (λ y. size y < (size x + sizes (exps_of es)) + 1) same (omega arith))

pub open_found : (es : List Exp) (e : Exp) → first_open es ≡ Some e → Found es e
open_found [] e h = absurd (cc)
open_found (x ∷ es) e h = found x (value_of (running x)) es e refl h (open_found es e)

-- the parameters of a fun are those of its first clause
pub parameters_counted : (cs : List ClauseTree) (ps : List Pat) (g : Guards) (s : Seq) → Some (clause (pats_of ps) g s) ≡ slice_get cs 0 → length ps ≡ arity_of (clauses_of cs)
parameters_counted [] ps g s h = absurd (cc)
parameters_counted (c ∷ cs) ps g s h = sym (count-pats_of ps) ∙ ap (λ o. arity_of (more_clauses (unwrap_or o c) (clauses_of cs))) h

pub may_stand : (ls : List parts.Layer) (o : Option Datum) → o ≡ None → MayStand ls o
may_stand ls o h = subst (MayStand ls) (sym h) tt

-- ONE LAYER MORE, the innermost
pub one_more : (ls : List Layer) (l : Layer) → layers_of (reverse (ls ++ l ∷ [])) ≡ layer_of l ∷ layers_of (reverse ls)
one_more ls l = ap layers_of (reverse-append ls (l ∷ []))

pub plain_outer : (n : ℕ) (l : parts.Layer) (ls : List parts.Layer) (bs : Pairs) → Plain n l → outer (l ∷ ls) bs ≡ outer ls bs
plain_outer n (operands o done rest) ls bs h = refl
plain_outer n (frame f) ls bs h = refl
plain_outer n (scope m) ls bs h = absurd h
plain_outer n (caught m) ls bs h = absurd h
plain_outer n (tried m cs hs) ls bs h = absurd h
plain_outer n (waiting m s) ls bs h = absurd h
plain_outer n (body o) ls bs h = absurd h

pub plain_fits : (k n : ℕ) (l : parts.Layer) (ls : List parts.Layer) → Plain n l → Fit k n ls → Fit k n (l ∷ ls)
plain_fits k n (operands o done rest) ls h f = fit_operands k n ls o done rest h f
plain_fits k n (frame g) ls h f = fit_frame k n ls g f
plain_fits k n (scope m) ls h f = absurd h
plain_fits k n (caught m) ls h f = absurd h
plain_fits k n (tried m cs hs) ls h f = absurd h
plain_fits k n (waiting m s) ls h f = absurd h
plain_fits k n (body o) ls h f = absurd h
