-- Calls by name, part by part.

use Rattle.std.proofs.Common.{◌≡◌, ◌∙◌, ℕ, true, false, if◌then◌else◌, ◌&&◌, ◌||◌, List, [], ◌∷◌, length, None, refl, sym, ap}
use Rattle.std.specs.Prelude.{codes}
use Rattle.std.proofs.Math.Bool.{and-false}
use Rattle.edb_lang.specs.Terms as term
use Rattle.edb_lang.specs.Terms.{Datum}
use Rattle.edb_lang.specs.Pairs.{Pairs}
use Rattle.edb_pure.specs.Table.{rows}
use Rattle.edb_syntax.specs.Syntax.{Clauses, ModuleTree}
use Rattle.edb_syntax.specs.Lookup.{function_in}
use Rattle.edb_syntax.specs.declared.operation.Operation.TheVariants.{RemoteCall}
use Rattle.edb_table.specs.BuiltIns as table
use Rattle.edb_table.specs.BuiltIns.{same_built_in}
use Rattle.edb_table.specs.Marking.{is_auto}
use Rattle.edb_moves.specs.Running.{written}
use Rattle.edb_moves.specs.Going.{Place, if_some}
use Rattle.edb_moves.specs.Moves.{operation_move}
use Rattle.edb_moves.specs.Raises.{fails}
use Rattle.edb_moves.specs.Calls.{apply_key, built_in, called_module, entered, is_unshared, own_call, remote_call}
use Rattle.edb_calls.specs.Exported.{exported_call, target_of}
use Rattle.edb_calls.specs.Listed.{key_of, IsListed}
use Rattle.edb_calls.specs.declared.built_ins.BuiltIn.{BuiltIn}
use Rattle.edb_calls.specs.declared.built_ins.BuiltIn.TheVariants.{ApplyFun, ApplyName, Computes}

unshared_apply_fun : is_unshared (apply_key 2) ≡ true
unfolding rows
unshared_apply_fun = refl

unshared_apply_name : is_unshared (apply_key 3) ≡ true
unfolding rows
unshared_apply_name = refl

pub listed_unshared : (b : BuiltIn) → IsListed b → is_unshared (key_of b) ≡ true
listed_unshared ApplyFun l = unshared_apply_fun
listed_unshared ApplyName l = unshared_apply_name
listed_unshared (Computes i) l = ap (λ t. t || (same_built_in (key_of (Computes i)) (apply_key 2) || same_built_in (key_of (Computes i)) (apply_key 3))) l.1

-- A BUILT-IN that is called without its module
pub auto_there : (p : Place) (key : table.BuiltIn) (vs : List Datum) (b : BuiltIn) → key_of b ≡ key → IsListed b → is_auto (key_of b) ≡ true
    → built_in p (key_of b) vs ≡ (if is_auto key && is_unshared key then built_in p key vs else fails (codes "undef"))
auto_there p key vs b e l auto =
    let first : is_auto key ≡ true = ap is_auto (sym e) ∙ auto in
    let second : is_unshared key ≡ true = ap is_unshared (sym e) ∙ listed_unshared b l in
    ap (λ k. built_in p k vs) e ∙ sym (ap (λ t. if t && is_unshared key then built_in p key vs else fails (codes "undef")) first
    ∙ ap (λ t. if t then built_in p key vs else fails (codes "undef")) second)

pub auto_barred : (p : Place) (key other : table.BuiltIn) (vs : List Datum) → other ≡ key → is_auto other ≡ false
    → fails (codes "undef") ≡ (if is_auto key && is_unshared key then built_in p key vs else fails (codes "undef"))
auto_barred p key other vs e barred =
    sym (ap (λ t. if t && is_unshared key then built_in p key vs else fails (codes "undef")) (ap is_auto (sym e) ∙ barred))

pub auto_nowhere : (p : Place) (key : table.BuiltIn) (vs : List Datum) → is_unshared key ≡ false
    → fails (codes "undef") ≡ (if is_auto key && is_unshared key then built_in p key vs else fails (codes "undef"))
auto_nowhere p key vs none =
    sym (ap (λ t. if is_auto key && t then built_in p key vs else fails (codes "undef")) none
    ∙ ap (λ t. if t then built_in p key vs else fails (codes "undef")) (and-false (is_auto key)))

-- A CALL WITHOUT A MODULE, where the module has no such function
pub own_else : (p : Place) (x : ModuleTree) (k : ℕ) (f : List ℕ) (n : ℕ) (vs : List Datum) → n ≡ length vs → None ≡ function_in x.functions f n
    → (if is_auto (codes "erlang", (f, n)) && is_unshared (codes "erlang", (f, n)) then built_in p (codes "erlang", (f, n)) vs else fails (codes "undef")) ≡ own_call p x k f vs
own_else p x k f n vs e none =
    ap (λ j. if is_auto (codes "erlang", (f, j)) && is_unshared (codes "erlang", (f, j)) then built_in p (codes "erlang", (f, j)) vs else fails (codes "undef")) e
    ∙ ap (λ o. if_some o (λ g. entered p x k g.name g.arity g.clauses [] vs)
    (if is_auto (codes "erlang", (f, length vs)) && is_unshared (codes "erlang", (f, length vs)) then built_in p (codes "erlang", (f, length vs)) vs else fails (codes "undef")))
    (none ∙ ap (function_in x.functions f) e)

-- A CALL WITH A MODULE: of a built-in, and of what a module exports
pub remote_there : (code : List ModuleTree) (current : List (List ℕ × ℕ)) (p : Place) (m f : List ℕ) (n : ℕ) (vs : List Datum) (b : BuiltIn) → n ≡ length vs → key_of b ≡ (m, (f, n)) → IsListed b
    → built_in p (key_of b) vs ≡ remote_call code current p m f vs
remote_there code current p m f n vs b e there l =
    let key : key_of b ≡ (m, (f, length vs)) = there ∙ ap (λ j. (m, (f, j))) e in
    ap (λ k. built_in p k vs) key
    ∙ sym (ap (λ t. if t then built_in p (m, (f, length vs)) vs else exported_call p (called_module code current p m) f vs) (ap is_unshared (sym key) ∙ listed_unshared b l))

pub remote_past : (code : List ModuleTree) (current : List (List ℕ × ℕ)) (p : Place) (m f : List ℕ) (n : ℕ) (vs : List Datum) → n ≡ length vs → is_unshared (m, (f, n)) ≡ false
    → exported_call p (called_module code current p m) f vs ≡ remote_call code current p m f vs
remote_past code current p m f n vs e none =
    sym (ap (λ t. if t then built_in p (m, (f, length vs)) vs else exported_call p (called_module code current p m) f vs) (ap (λ j. is_unshared (m, (f, j))) (sym e) ∙ none))

-- WHAT IS NAMED
pub target_move : (code : List ModuleTree) (current : List (List ℕ × ℕ)) (p : Place) (vs : List Datum)
    → if_some (target_of vs) (λ t. remote_call code current p t.0 t.1.0 t.1.1) (fails (codes "badarg")) ≡ operation_move code current p (written RemoteCall) vs
target_move code current p [] = refl
target_move code current p ((term.int i) ∷ vs) = refl
target_move code current p ((term.reference r) ∷ vs) = refl
target_move code current p ((term.made m v i a cs) ∷ vs) = refl
target_move code current p ((term.named m f a) ∷ vs) = refl
target_move code current p ((term.pid q) ∷ vs) = refl
target_move code current p ((term.tuple ts) ∷ vs) = refl
target_move code current p ((term.nil) ∷ vs) = refl
target_move code current p ((term.cons h t) ∷ vs) = refl
target_move code current p (term.atom m0 ∷ []) = refl
target_move code current p (term.atom m0 ∷ ((term.int i) ∷ vs)) = refl
target_move code current p (term.atom m0 ∷ ((term.reference r) ∷ vs)) = refl
target_move code current p (term.atom m0 ∷ ((term.made m v i a cs) ∷ vs)) = refl
target_move code current p (term.atom m0 ∷ ((term.named m f a) ∷ vs)) = refl
target_move code current p (term.atom m0 ∷ ((term.pid q) ∷ vs)) = refl
target_move code current p (term.atom m0 ∷ ((term.tuple ts) ∷ vs)) = refl
target_move code current p (term.atom m0 ∷ ((term.nil) ∷ vs)) = refl
target_move code current p (term.atom m0 ∷ ((term.cons h t) ∷ vs)) = refl
target_move code current p (term.atom m0 ∷ (term.atom f0 ∷ vs)) = refl

-- the same of the same parts
pub entered_same : (p : Place) (x : ModuleTree) (k : ℕ) (name name_2 : List ℕ) (arity arity_2 : ℕ) (cs cs_2 : Clauses) (hidden hidden_2 : Pairs) (vs : List Datum)
    → name ≡ name_2 → arity ≡ arity_2 → cs ≡ cs_2 → hidden ≡ hidden_2 → entered p x k name arity cs hidden vs ≡ entered p x k name_2 arity_2 cs_2 hidden_2 vs
entered_same p x k name name_2 arity arity_2 cs cs_2 hidden hidden_2 vs d e f g = cc
