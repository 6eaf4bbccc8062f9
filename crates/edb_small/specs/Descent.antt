-- The reading of tokens by descent: a tree and the tokens behind it, as functions on lists.

use Rattle.std.specs.Prelude.{◌≡◌, ℕ, zero, suc, pos, Bool, true, false, if◌then◌else◌, ◌&&◌, nat_lt, List, [], ◌∷◌, ◌++◌, length, Option, None, Some, option_and_then, codes}
use denote.Enum.Bare.{sameb}
use Rattle.edb_lang.specs.declared.small.Op.TheVariants.{Add}
use Rattle.edb_lang.specs.Syntax.{Pat, Exp, exps_of, line_of, FunctionTree, ModuleTree}
use Rattle.edb_lang.specs.Syntax as syntax
use Rattle.edb_lang.specs.declared.syntax.FunctionName.{FunctionName}
use Rattle.edb_lang.specs.TermText.{same_name}
use Rattle.edb_scan.specs.declared.lexeme.Mark.TheVariants as mark
use Rattle.edb_scan.specs.declared.lexeme.Mark.{Mark}
use Rattle.edb_scan.specs.contracts.lexeme.Mark.{the_type}
use Rattle.edb_scan.specs.declared.lexeme.Token.{Token}
use Rattle.edb_scan.specs.declared.lexeme.Token.TheVariants as token
use Rattle.edb_scan.specs.declared.lexeme.Placed.{Placed}
use Rattle.edb_small.specs.Conditions.{is_capital}

infixl 10 ◌>>=◌
abbrev pub ◌>>=◌ : {A B : Type 0} → Option A → (A → Option B) → Option B
o >>= f = option_and_then f o

abbrev pub Read : Type 0 → Type 0
Read A = List Placed → Option (A × List Placed)

-- what an answer of the code finds, seen by a view, is what is read
abbrev pub Finds : {X Y : Type 0} → (X → Y) → Option X → Option Y → Type 0
Finds view None read = read ≡ None
Finds view (Some x) read = read ≡ Some (view x)

-- Single tokens.

unfoldable pub same_mark : Mark → Mark → Bool
same_mark x y = sameb the_type x y

abbrev pub is_mark : Mark → Token → Bool
is_mark x (token.Mark y) = same_mark x y
is_mark x _ = false

abbrev pub is_dot : Token → Bool
is_dot token.Dot = true
is_dot _ = false

-- the tokens behind this mark, where they begin with it
unfoldable pub behind : Mark → List Placed → Option (List Placed)
behind x [] = None
behind x (p ∷ ps) = if is_mark x p.token then Some ps else None

unfoldable pub behind_dot : List Placed → Option (List Placed)
behind_dot [] = None
behind_dot (p ∷ ps) = if is_dot p.token then Some ps else None

-- all of the tokens, where there are some
unfoldable pub all_left : List Placed → Option (List Placed)
all_left [] = None
all_left (p ∷ ps) = Some (p ∷ ps)

-- a name with its line
abbrev pub Found : Type 0
Found = ℕ × List ℕ

abbrev pub atom_in : ℕ → Token → List Placed → Option (Found × List Placed)
atom_in l (token.Atom a) ps = Some ((l, a), ps)
atom_in l _ ps = None

unfoldable pub atom_at : Read Found
atom_at [] = None
atom_at (p ∷ ps) = atom_in p.line p.token ps

abbrev pub variable_in : ℕ → Token → List Placed → Option (Found × List Placed)
variable_in l (token.Var x) ps = if is_capital x then Some ((l, x), ps) else None
variable_in l _ ps = None

unfoldable pub variable_at : Read Found
variable_at [] = None
variable_at (p ∷ ps) = variable_in p.line p.token ps

abbrev pub arity_in : Token → List Placed → Option (ℕ × List Placed)
arity_in (token.Int n) ps = if nat_lt n 4294967296 then Some (n, ps) else None
arity_in _ ps = None

-- an integer that fits 32 bits
unfoldable pub arity_at : Read ℕ
arity_at [] = None
arity_at (p ∷ ps) = arity_in p.token ps

-- the tokens behind this atom
unfoldable pub behind_word : List ℕ → List Placed → Option (List Placed)
behind_word w ts = do
  a ← atom_at ts
  if same_name a.0.1 w then Some a.1 else None

-- Lists.

-- Further things, each where `next` finds one, put behind those that are there; `turns` bounds their number.
unfoldable pub more : {A : Type 0} → (List Placed → Option (List Placed)) → Read A → (turns : ℕ) → List A → Read (List A)
more next f zero xs ts = None
more next f (suc turns) xs ts =
    elim (next ts) [
      | None ↦ Some (xs, ts)
      | Some us ↦ option_and_then (λ q. more next f turns (xs ++ (q.0 ∷ [])) q.1) (f us)
    ]

-- the things behind those that are there, each behind a comma
unfoldable pub others : {A : Type 0} → Read A → List A → Read (List A)
others f xs ts = more (behind mark.Comma) f (suc (length ts)) xs ts

-- one thing or more, and the mark that closes them
unfoldable pub some_closed : {A : Type 0} → Read A → Mark → Read (List A)
some_closed f close ts = do
  x ← f ts
  xs ← others f (x.0 ∷ []) x.1
  rest ← behind close xs.1
  Some (xs.0, rest)

-- things or none, and the mark that closes them
unfoldable pub closed : {A : Type 0} → Read A → Mark → Read (List A)
closed f close ts =
    elim (behind close ts) [
      | Some rest ↦ Some ([], rest)
      | None ↦ some_closed f close ts
    ]

-- Expressions; `sub` reads the arguments of a call.

-- the arguments of a call, behind its opening parenthesis
unfoldable pub called_at : Read Exp → ℕ → List ℕ → Read Exp
called_at sub l f ts = do
  es ← closed sub mark.ParenClose ts
  Some (syntax.call l f (exps_of es.0), es.1)

abbrev pub is_display : List ℕ → List ℕ → Bool
is_display m f = same_name m (codes "erlang") && same_name f (codes "display")

-- the name of the function behind the colon, and its opening parenthesis
unfoldable pub display_name_at : List ℕ → Read Found
display_name_at m ts = do
  named ← behind mark.Colon ts
  f ← atom_at named
  inner ← behind mark.ParenOpen f.1
  if is_display m f.0.1 then Some (f.0, inner) else None

-- the call of `display`, behind the name of its module
unfoldable pub displayed_at : Read Exp → ℕ → List ℕ → Read Exp
displayed_at sub l m ts = do
  f ← display_name_at m ts
  e ← sub f.1
  rest ← behind mark.ParenClose e.1
  Some (syntax.remote l (syntax.atom l m) (syntax.atom f.0.0 f.0.1) (syntax.more e.0 syntax.none), rest)

-- what begins with an atom
unfoldable pub applied_at : Read Exp → ℕ → List ℕ → Read Exp
applied_at sub l f ts =
    elim (behind mark.ParenOpen ts) [
      | Some inner ↦ called_at sub l f inner
      | None ↦ displayed_at sub l f ts
    ]

-- 2 ^ 127
abbrev pub beyond_int : ℕ
beyond_int = 170141183460469231731687303715884105728

abbrev pub operand_in : Read Exp → ℕ → Token → Read Exp
operand_in sub l (token.Int n) ps = if nat_lt n beyond_int then Some (syntax.int l (pos n), ps) else None
operand_in sub l (token.Var x) ps = if is_capital x then Some (syntax.variable l x, ps) else None
operand_in sub l (token.Atom a) ps = applied_at sub l a ps
operand_in sub l _ ps = None

unfoldable pub operand_at : Read Exp → Read Exp
operand_at sub [] = None
operand_at sub (p ∷ ps) = operand_in sub p.line p.token ps

-- a sum of this operand and the one behind the `+`
unfoldable pub added_at : Read Exp → Exp → Read Exp
added_at sub a ts = do
  b ← operand_at sub ts
  Some (syntax.binary (line_of a) Add a b.0, b.1)

unfoldable pub sum_with : Read Exp → Read Exp
sum_with sub ts = do
  a ← operand_at sub ts
  elim (behind mark.Plus a.1) [ Some after ↦ added_at sub a.0 after | None ↦ Some a ]

-- a sum with at most so many levels of calls
unfoldable pub sum_at : ℕ → Read Exp
sum_at zero ts = None
sum_at (suc levels) ts = sum_with (sum_at levels) ts

abbrev pub most_levels : ℕ
most_levels = 200

-- the variable left of `=`
unfoldable pub target_at : Read Found
target_at ts = do
  x ← variable_at ts
  value ← behind mark.Match x.1
  Some (x.0, value)

unfoldable pub line_at : Read Exp
line_at ts =
    elim (target_at ts) [
      | None ↦ sum_at most_levels ts
      | Some x ↦ option_and_then (λ e. Some (syntax.match x.0.0 (Pat.variable x.0.0 x.0.1) e.0, e.1)) (sum_at most_levels x.1)
    ]

-- Functions and the module.

unfoldable pub parameter_at : Read Pat
parameter_at ts = do
  x ← variable_at ts
  Some (Pat.variable x.0.0 x.0.1, x.1)

-- a function's name and parameters, up to its arrow
unfoldable pub head_at : Read (List ℕ × List Pat)
head_at ts = do
  f ← atom_at ts
  inner ← behind mark.ParenOpen f.1
  ps ← closed parameter_at mark.ParenClose inner
  rest ← behind mark.Arrow ps.1
  Some ((f.0.1, ps.0), rest)

-- the lines of a function
unfoldable pub body_at : Read (Exp × List Exp)
body_at ts = do
  e ← line_at ts
  es ← others line_at [] e.1
  rest ← behind_dot es.1
  Some ((e.0, es.0), rest)

unfoldable pub function_at : Read FunctionTree
function_at ts = do
  h ← head_at ts
  b ← body_at h.1
  Some (record { name = h.0.0; parameters = h.0.1; first = b.0.0; rest = exps_of b.0.1 }, b.1)

unfoldable pub functions_at : Read (List FunctionTree)
functions_at ts = more all_left function_at (suc (length ts)) [] ts

unfoldable pub export_at : Read FunctionName
export_at ts = do
  f ← atom_at ts
  slash ← behind mark.Slash f.1
  n ← arity_at slash
  Some (record { name = f.0.1; arity = n.0 }, n.1)

-- `-`, this word and `(`
unfoldable pub attribute_at : List ℕ → List Placed → Option (List Placed)
attribute_at w ts = do
  name ← behind mark.Minus ts
  paren ← behind_word w name
  behind mark.ParenOpen paren

-- `)` and a dot
unfoldable pub attribute_end : List Placed → Option (List Placed)
attribute_end ts = do
  end ← behind mark.ParenClose ts
  behind_dot end

unfoldable pub module_name_at : Read (List ℕ)
module_name_at ts = do
  inner ← attribute_at (codes "module") ts
  a ← atom_at inner
  rest ← attribute_end a.1
  Some (a.0.1, rest)

unfoldable pub exports_at : Read (List FunctionName)
exports_at ts = do
  inner ← attribute_at (codes "export") ts
  names ← behind mark.BracketOpen inner
  es ← some_closed export_at mark.BracketClose names
  rest ← attribute_end es.1
  Some (es.0, rest)

unfoldable pub module_at : List Placed → Option ModuleTree
module_at ts = do
  name ← module_name_at ts
  es ← exports_at name.1
  fs ← functions_at es.1
  Some (record { name = name.0; exports = es.0; functions = fs.0 })
