-- The way to the code that is evaluated next.

use Rattle.std.proofs.Common.{◌≡◌, ℕ, List, [], ◌∷◌, reverse, Vec, Global, Option, None, Some, refl, ap, sym, subst, ◌∙◌, arith}
use Rattle.edb_lang.specs.declared.term.Captured.{Captured}
use Rattle.edb_lang.specs.Pairs.{Pairs}
use Rattle.edb_lang.specs.Terms.{Datum}
use Rattle.edb_syntax.specs.Syntax.{Exp}
use Rattle.edb_moves.specs.Running.{value_of, running}
use Rattle.edb_stack.specs.Feeding.{open_or, first_open}
use Rattle.edb_stack.specs.Paths.{outer, wrapped, path_layers, path_tree, Fit, Leads}
use Rattle.edb_stack.specs.Views.{layers_of}
use Rattle.edb_stack.specs.declared.layer.Layer.{Layer}
use Rattle.edb_stack.specs.declared.layer.Layer.TheVariants as layer
use Rattle.edb_stack.specs.declared.redex.Path.{Path}
use Rattle.edb_stack.specs.declared.item.Item.{Item}
use Rattle.edb_stack.proofs.Fits.{fit_none}
use Rattle.edb_path.specs.declared.plan.Plan.{Plan}
use Rattle.edb_path.specs.declared.plan.Plan.TheVariants.{Gives, Passes, Turns, Enters, Replaces, Raises}
use Rattle.edb_running.specs.Rising.{next_code, Serves}
use Rattle.edb_running.specs.Vacant.{HasWay}

same_code : (e f : Exp) → Some e ≡ Some f → e ≡ f
same_code e f h = cc

found_here : (e f : Exp) (o : Option Datum) (behind : Option Exp) → o ≡ value_of (running e) → open_or e o behind ≡ Some f → (behind ≡ Some f → value_of (running f) ≡ None) → value_of (running f) ≡ None
found_here e f (Some v) behind is h later = later h
found_here e f None behind is h later = ap (λ x. value_of (running x)) (sym (same_code e f h)) ∙ sym is

first_open_is : (es : List Exp) (f : Exp) → first_open es ≡ Some f → value_of (running f) ≡ None
first_open_is [] f h = absurd (cc)
first_open_is (e ∷ es) f h = found_here e f (value_of (running e)) (first_open es) refl h (first_open_is es f)

-- THE CODE THAT IS NEXT is no literal
pub next_is_open : (ls : List Layer) (f : Exp) → next_code ls ≡ Some f → value_of (running f) ≡ None
next_is_open [] f h = absurd (cc)
next_is_open (layer.Operands o ∷ ls) f h = first_open_is o.2 f h
next_is_open (layer.Body b ∷ ls) f h = next_is_open ls f h
next_is_open (layer.Sequence l es ∷ ls) f h = absurd (cc)
next_is_open (layer.Match q ∷ ls) f h = absurd (cc)
next_is_open (layer.Select cs ∷ ls) f h = absurd (cc)
next_is_open (layer.AndThen e ∷ ls) f h = absurd (cc)
next_is_open (layer.OrThen e ∷ ls) f h = absurd (cc)
next_is_open (layer.Generate q e qs ∷ ls) f h = absurd (cc)
next_is_open (layer.Filter e qs ∷ ls) f h = absurd (cc)
next_is_open (layer.Gather d v ∷ ls) f h = absurd (cc)
next_is_open (layer.Resume o ∷ ls) f h = absurd (cc)
next_is_open (layer.Scope m ∷ ls) f h = absurd (cc)
next_is_open (layer.Caught m ∷ ls) f h = absurd (cc)
next_is_open (layer.Tried m cs hs ∷ ls) f h = absurd (cc)
next_is_open (layer.Waiting m s ∷ ls) f h = absurd (cc)

-- a way that begins with no layers serves wherever it is put
pub serves : (e : Exp) (p : Path) (ls : List Layer) → ls ≡ []
    → ((bs : Pairs) → path_tree bs p ≡ wrapped (layers_of (reverse ls)) bs (running e)) → ((bs : Pairs) → outer (path_layers p) bs ≡ outer (layers_of (reverse ls)) bs)
    → ((k n : ℕ) → Fit k n (layers_of (reverse ls)) → Leads k n p) → Serves e p
serves e p ls none tree out leads = record {
  tree = λ bs. tree bs ∙ ap (λ ms. wrapped (layers_of (reverse ms)) bs (running e)) none;
  outer = λ bs. out bs ∙ ap (λ ms. outer (layers_of (reverse ms)) bs) none;
  leads = λ n. leads n n (subst (λ ms. Fit n n (layers_of (reverse ms))) (sym none) (fit_none n n (omega arith)));
}

-- a plan that leaves no value needs no way
pub no_way : (a : Plan) (w : Option Path) (e : Option Exp) → ((x : Item) → a ≡ Gives x → ⊥) → ((new : Vec Captured Global) → a ≡ Passes new → ⊥) → HasWay a w e
no_way (Gives x) w e f g = absurd (f x refl)
no_way (Passes new) w e f g = absurd (g new refl)
no_way (Turns new p) w e f g = tt
no_way (Enters b s) w e f g = tt
no_way (Replaces b s) w e f g = tt
no_way (Raises r) w e f g = tt
