-- What a tree of the small language must be, beside its spelling.

use Rattle.std.specs.Prelude.{ℕ, ◌+◌, max, pos, Bool, true, false, not, ◌&&◌, ◌==◌, nat_le, List, [], ◌∷◌, length, codes}
use Rattle.std.specs.List.{list_any, list_all}
use Rattle.edb_lang.specs.declared.small.Op.TheVariants.{Add}
use Rattle.edb_lang.specs.Syntax.{Pat, Exp, Exps, FunctionTree, ModuleTree, line_of}
use Rattle.edb_lang.specs.Syntax as syntax
use Rattle.edb_lang.specs.TermText.{same_name}

-- a variable begins with an upper-case letter
abbrev pub is_capital : List ℕ → Bool
is_capital [] = false
is_capital (c ∷ cs) = nat_le 65 c && nat_le c 90

-- Where each form may stand: an operand is no sum, a sum no match; the only call of another module is
-- `erlang:display` of one sum. A node has the line of its first token.
abbrev mutual
  pub is_operand : Exp → Bool
  is_operand (syntax.int l (pos n)) = true
  is_operand (syntax.variable l x) = is_capital x
  is_operand (syntax.call l f es) = are_sums es
  is_operand (syntax.remote l (syntax.atom k m) (syntax.atom j f) (syntax.more e syntax.none)) =
      (l == k && (same_name m (codes "erlang") && same_name f (codes "display"))) && is_sum e
  is_operand _ = false

  pub is_sum : Exp → Bool
  is_sum (syntax.binary l Add a b) = l == line_of a && (is_operand a && is_operand b)
  is_sum (syntax.int l (pos n)) = true
  is_sum (syntax.variable l x) = is_capital x
  is_sum (syntax.call l f es) = are_sums es
  is_sum (syntax.remote l (syntax.atom k m) (syntax.atom j f) (syntax.more e syntax.none)) =
      (l == k && (same_name m (codes "erlang") && same_name f (codes "display"))) && is_sum e
  is_sum _ = false

  pub are_sums : Exps → Bool
  are_sums syntax.none = true
  are_sums (syntax.more e es) = is_sum e && are_sums es

abbrev pub is_line : Exp → Bool
is_line (syntax.match l (syntax.variable k x) e) = l == k && (is_capital x && is_sum e)
is_line e = is_sum e

abbrev pub are_lines : Exps → Bool
are_lines syntax.none = true
are_lines (syntax.more e es) = is_line e && are_lines es

-- the name that a parameter binds
abbrev pub name_of : Pat → List ℕ
name_of (syntax.variable l x) = x

abbrev pub is_among : List ℕ → List (List ℕ) → Bool
is_among x xs = list_any (same_name x) xs

-- each variable that an expression uses is among these
abbrev mutual
  pub is_closed : List (List ℕ) → Exp → Bool
  is_closed xs (syntax.int l i) = true
  is_closed xs (syntax.atom l a) = true
  is_closed xs (syntax.variable l x) = is_among x xs
  is_closed xs (syntax.match l p e) = is_closed xs e
  is_closed xs (syntax.binary l o a b) = is_closed xs a && is_closed xs b
  is_closed xs (syntax.call l f es) = are_closed xs es
  is_closed xs (syntax.remote l m f es) = (is_closed xs m && is_closed xs f) && are_closed xs es

  pub are_closed : List (List ℕ) → Exps → Bool
  are_closed xs syntax.none = true
  are_closed xs (syntax.more e es) = is_closed xs e && are_closed xs es

-- the names that are bound once a line is done
abbrev pub bound_by : List (List ℕ) → Exp → List (List ℕ)
bound_by xs (syntax.match l p e) = name_of p ∷ xs
bound_by xs e = xs

-- a variable left of `=` isn't bound before, each other one is
abbrev pub is_scoped : List (List ℕ) → Exp → Bool
is_scoped xs (syntax.match l p e) = not (is_among (name_of p) xs) && is_closed xs e
is_scoped xs e = is_closed xs e

abbrev pub are_scoped : List (List ℕ) → Exps → Bool
are_scoped xs syntax.none = true
are_scoped xs (syntax.more e es) = is_scoped xs e && are_scoped (bound_by xs e) es

-- no name stands twice
abbrev pub differ : List (List ℕ) → Bool
differ [] = true
differ (x ∷ xs) = not (is_among x xs) && differ xs

-- the names that parameters bind
abbrev pub names_of : List Pat → List (List ℕ)
names_of [] = []
names_of (p ∷ ps) = name_of p ∷ names_of ps

-- whether the functions have one of this name and arity
abbrev pub has_function : List FunctionTree → List ℕ → ℕ → Bool
has_function fs f n = list_any (λ g. same_name f g.name && length g.parameters == n) fs

abbrev pub count_of : Exps → ℕ
count_of syntax.none = 0
count_of (syntax.more e es) = count_of es + 1

-- each function that an expression calls is there
abbrev mutual
  pub calls_known : List FunctionTree → Exp → Bool
  calls_known fs (syntax.int l i) = true
  calls_known fs (syntax.atom l a) = true
  calls_known fs (syntax.variable l x) = true
  calls_known fs (syntax.match l p e) = calls_known fs e
  calls_known fs (syntax.binary l o a b) = calls_known fs a && calls_known fs b
  calls_known fs (syntax.call l f es) = has_function fs f (count_of es) && all_calls_known fs es
  calls_known fs (syntax.remote l m f es) = (calls_known fs m && calls_known fs f) && all_calls_known fs es

  pub all_calls_known : List FunctionTree → Exps → Bool
  all_calls_known fs syntax.none = true
  all_calls_known fs (syntax.more e es) = calls_known fs e && all_calls_known fs es

-- depth: 1 for an integer, an atom or a variable, and else one more than the deepest part; the name of a
-- call and the variable left of `=` are parts
abbrev mutual
  pub depth : Exp → ℕ
  depth (syntax.int l i) = 1
  depth (syntax.atom l a) = 1
  depth (syntax.variable l x) = 1
  depth (syntax.match l p e) = max 1 (depth e) + 1
  depth (syntax.binary l o a b) = max (depth a) (depth b) + 1
  depth (syntax.call l f es) = max 1 (all_depth es) + 1
  depth (syntax.remote l m f es) = max (max (depth m) (depth f)) (all_depth es) + 1

  pub all_depth : Exps → ℕ
  all_depth syntax.none = 0
  all_depth (syntax.more e es) = max (depth e) (all_depth es)

abbrev pub deepest : ℕ
deepest = 200

-- a function among all of the module's
abbrev pub is_small_function : List FunctionTree → FunctionTree → Bool
is_small_function fs f =
    ((list_all (λ p. is_capital (name_of p)) f.parameters && differ (names_of f.parameters))
    && (are_lines (syntax.more f.first f.rest) && are_scoped (names_of f.parameters) (syntax.more f.first f.rest)))
    && (all_calls_known fs (syntax.more f.first f.rest) && nat_le (all_depth (syntax.more f.first f.rest)) deepest)

-- no function is defined twice
abbrev pub defined_once : List FunctionTree → Bool
defined_once [] = true
defined_once (f ∷ fs) = not (has_function fs f.name (length f.parameters)) && defined_once fs

-- the modules whose names are taken
abbrev pub taken_names : List (List ℕ)
taken_names = codes "erlang" ∷ codes "lists" ∷ codes "io" ∷ codes "int" ∷ []

abbrev pub is_small_module : ModuleTree → Bool
is_small_module m =
    (not (is_among m.name taken_names) && list_all (λ e. has_function m.functions e.name e.arity) m.exports)
    && (defined_once m.functions && list_all (is_small_function m.functions) m.functions)
