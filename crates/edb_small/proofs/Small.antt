-- The conditions on a tree, and the tests on one whose forms stand where they may.

use Rattle.std.proofs.Common.{◌≡◌, ◌≢◌, ◌⊎◌, inl, inr, ℕ, ◌≤◌, Bool, true, false, List, [], ◌∷◌, length, refl, arith, length-append}
use Rattle.std.specs.Prelude.{◌&&◌, ◌||◌, ◌==◌, not, nat_le, nat_lt}
use Rattle.std.specs.List.{list_all}
use Rattle.std.proofs.lemmas.Bool.{eqb-true}
use Rattle.std.proofs.lemmas.Bool.Decides.{nat_tests}
use Rattle.std.specs.Cmp.Derive.{both_true}
use Rattle.edb_lang.specs.Syntax.{Pat, FunctionTree, ModuleTree, more}
use Rattle.edb_lang.specs.declared.syntax.FunctionName.{FunctionName}
use Rattle.edb_lang.specs.TermText.{same_name}
use Rattle.edb_small.specs.Grammar.{Written, written_parameters, written_function, written_functions, written_module}
use Rattle.edb_small.specs.Conditions.{is_capital, name_of, names_of, differ, are_lines, are_scoped, all_calls_known, all_depth, deepest, has_function, is_among, taken_names, defined_once, is_small_function, is_small_module}
use Rattle.edb_small.specs.Checks.{function_passes, functions_pass, exports_pass, module_passes}
use Rattle.edb_small.proofs.Spelled.{Each, both}
use Rattle.edb_small.proofs.SoundModule.{IsFormed}
use Rattle.edb_small.proofs.CompleteModule.{IsReadable, IsSmall, IsReadableModule}

module _ (fs : List FunctionTree) (f : FunctionTree) where
  small_function : IsFormed f → function_passes fs f ≡ true → is_small_function fs f ≡ true
  unfolding function_passes
  small_function forms h =
      let names_calls = both (differ (names_of f.parameters) && are_scoped (names_of f.parameters) (more f.first f.rest)) (all_calls_known fs (more f.first f.rest) && nat_le (all_depth (more f.first f.rest)) deepest) h in
      let names = both (differ (names_of f.parameters)) (are_scoped (names_of f.parameters) (more f.first f.rest)) names_calls.0 in
      both_true (both_true (both_true forms.parameters names.0) (both_true forms.lines names.1)) names_calls.1

  passes_function : is_small_function fs f ≡ true → IsReadable f × (function_passes fs f ≡ true)
  unfolding function_passes
  passes_function h =
      let capitals = list_all (λ p. is_capital (name_of p)) f.parameters in
      let differs = differ (names_of f.parameters) in
      let lines = are_lines (more f.first f.rest) in
      let scoped = are_scoped (names_of f.parameters) (more f.first f.rest) in
      let known = all_calls_known fs (more f.first f.rest) in
      let within = nat_le (all_depth (more f.first f.rest)) deepest in
      let parts = both ((capitals && differs) && (lines && scoped)) (known && within) h in
      let forms = both (capitals && differs) (lines && scoped) parts.0 in
      let names = both capitals differs forms.0 in
      let bodies = both lines scoped forms.1 in
      let calls = both known within parts.1 in
      let depth_fits : all_depth (more f.first f.rest) ≤ 200 = grind (arith, nat_tests, calls.1) in
      (record { parameters = names.0; lines = bodies.0; within = depth_fits }, both_true (both_true names.1 bodies.1) parts.1)

small_functions : (all fs : List FunctionTree) → Each FunctionTree IsFormed fs → functions_pass all fs ≡ true → list_all (is_small_function all) fs ≡ true
unfolding functions_pass
small_functions all [] forms h = refl
small_functions all (f ∷ fs) forms h =
    let parts = both (function_passes all f) (functions_pass all fs) h in
    both_true (small_function all f forms.0 parts.0) (small_functions all fs forms.1 parts.1)

passes_functions : (all fs : List FunctionTree) → list_all (is_small_function all) fs ≡ true → Each FunctionTree IsReadable fs × (functions_pass all fs ≡ true)
unfolding functions_pass
passes_functions all [] h = (tt, refl)
passes_functions all (f ∷ fs) h =
    let parts = both (is_small_function all f) (list_all (is_small_function all) fs) h in
    let one = passes_function all f parts.0 in
    let others = passes_functions all fs parts.1 in
    ((one.0, others.0), both_true one.1 others.1)

-- a module that was read and passes is small
pub small_module : (m : ModuleTree) → Each FunctionTree IsFormed m.functions → module_passes m ≡ true → is_small_module m ≡ true
unfolding module_passes exports_pass
small_module m forms h =
    let exported = list_all (λ e. has_function m.functions e.name e.arity) m.exports in
    let parts = both (not (is_among m.name taken_names) && exported) (defined_once m.functions && functions_pass m.functions m.functions) h in
    let functions = both (defined_once m.functions) (functions_pass m.functions m.functions) parts.1 in
    both_true parts.0 (both_true functions.0 (small_functions m.functions m.functions forms functions.1))

-- An export's arity is that of a function, which has no more parameters than the module has tokens.

parameters_few : (ps : List Pat) → length ps ≤ length (written_parameters ps)
parameters_few [] = omega arith
parameters_few (Pat.variable l x ∷ []) = omega arith
parameters_few (Pat.variable l x ∷ (q ∷ ps)) = omega (arith, parameters_few (q ∷ ps))

function_few : (f : FunctionTree) → length f.parameters ≤ length (written_function f)
function_few f = omega (arith, parameters_few f.parameters, length-append {A = Written})

pub functions_few : (fs : List FunctionTree) (n : ℕ) → length (written_functions fs) ≤ n → Each FunctionTree (λ f. length f.parameters ≤ n) fs
functions_few [] n h = tt
functions_few (f ∷ fs) n h =
    let whole = length-append (written_function f) (written_functions fs) in
    let one : length f.parameters ≤ n = omega (arith, function_few f) in
    let others : length (written_functions fs) ≤ n = omega arith in
    (one, functions_few fs n others)

either_true : (a b : Bool) → (a || b) ≡ true → (a ≡ true) ⊎ (b ≡ true)
either_true true b e = inl refl
either_true false b e = inr e

arity_few : (fs : List FunctionTree) (f : List ℕ) (a n : ℕ) → Each FunctionTree (λ g. length g.parameters ≤ n) fs → has_function fs f a ≡ true → a ≤ n
arity_few [] f a n few h = absurd (cc)
arity_few (g ∷ fs) f a n few h = found (either_true (same_name f g.name && length g.parameters == a) (has_function fs f a) h) (λ k. arity_few fs f a n few.1 k)
  where
    found : ((same_name f g.name && length g.parameters == a) ≡ true) ⊎ (has_function fs f a ≡ true) → (has_function fs f a ≡ true → a ≤ n) → a ≤ n
    found (inl e) again = let is = eqb-true (length g.parameters) a (both (same_name f g.name) (length g.parameters == a) e).1 in let first = few.0 in omega arith
    found (inr e) again = again e

exports_small : (fs : List FunctionTree) (n : ℕ) → n ≤ 1000000 → Each FunctionTree (λ g. length g.parameters ≤ n) fs → (es : List FunctionName)
    → list_all (λ e. has_function fs e.name e.arity) es ≡ true → Each FunctionName IsSmall es
exports_small fs n few each [] h = tt
exports_small fs n few each (e ∷ es) h =
    let parts = both (has_function fs e.name e.arity) (list_all (λ e. has_function fs e.name e.arity) es) h in
    let arity = arity_few fs e.name e.arity n each parts.0 in
    let small : nat_lt e.arity 4294967296 ≡ true = grind (arith, nat_tests, arity, few) in
    (small, exports_small fs n few each es parts.1)

pub functions_within : (m : ModuleTree) → length (written_functions m.functions) ≤ length (written_module m)
functions_within m = omega (arith, length-append {A = Written})

-- a small module that a text can hold is read again, and passes
pub readable_module : (m : ModuleTree) → m.exports ≢ [] → is_small_module m ≡ true → length (written_module m) ≤ 1000000 → IsReadableModule m × (module_passes m ≡ true)
unfolding module_passes exports_pass
readable_module m some h few =
    let exported = list_all (λ e. has_function m.functions e.name e.arity) m.exports in
    let parts = both (not (is_among m.name taken_names) && exported) (defined_once m.functions && list_all (is_small_function m.functions) m.functions) h in
    let heads = both (not (is_among m.name taken_names)) exported parts.0 in
    let bodies = both (defined_once m.functions) (list_all (is_small_function m.functions) m.functions) parts.1 in
    let functions = passes_functions m.functions m.functions bodies.1 in
    let each = functions_few m.functions (length (written_module m)) (functions_within m) in (
      record { some = some; exports = exports_small m.functions (length (written_module m)) few each m.exports heads.1; functions = functions.0 },
      both_true parts.0 (both_true bodies.0 functions.1),
    )
