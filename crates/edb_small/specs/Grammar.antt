-- The grammar of the small language: how a tree is written in tokens. A tree has one spelling.
--
-- file     = "-" module "(" atom ")" dot "-" export "(" "[" fa {"," fa} "]" ")" dot {function}
-- fa       = atom "/" integer
-- function = atom "(" [var {"," var}] ")" "->" line {"," line} dot
-- line     = [var "="] sum
-- sum      = operand ["+" operand]
-- operand  = integer | var | atom "(" [sum {"," sum}] ")" | erlang ":" display "(" sum ")"

use Rattle.std.specs.Prelude.{◌≡◌, ℕ, pos, negsuc, List, [], ◌∷◌, ◌++◌, Option, None, Some, codes}
use Rattle.edb_lang.specs.Syntax.{Pat, Exp, Exps, FunctionTree, ModuleTree}
use Rattle.edb_lang.specs.Syntax as syntax
use Rattle.edb_lang.specs.declared.syntax.FunctionName.{FunctionName}
use Rattle.edb_scan.specs.declared.lexeme.Mark.TheVariants as mark
use Rattle.edb_scan.specs.declared.lexeme.Mark.{Mark}
use Rattle.edb_scan.specs.declared.lexeme.Token.{Token}
use Rattle.edb_scan.specs.declared.lexeme.Token.TheVariants as token
use Rattle.edb_scan.specs.declared.lexeme.Placed.{Placed}

-- a token as a tree writes it: with its line, where the tree has that
abbrev pub Written : Type 0
Written = Option ℕ × Token

abbrev pub sign : Mark → Written
sign m = (None, token.Mark m)

abbrev pub word : List ℕ → Written
word name = (None, token.Atom name)

abbrev pub dot : Written
dot = (None, token.Dot)

abbrev pub written_pattern : Pat → List Written
written_pattern (syntax.variable l x) = (Some l, token.Var x) ∷ []

abbrev mutual
  pub written : Exp → List Written
  written (syntax.int l (pos n)) = (Some l, token.Int n) ∷ []
  written (syntax.int l (negsuc n)) = []
  written (syntax.atom l a) = (Some l, token.Atom a) ∷ []
  written (syntax.variable l x) = (Some l, token.Var x) ∷ []
  written (syntax.match l p e) = written_pattern p ++ (sign mark.Match ∷ written e)
  written (syntax.binary l o a b) = written a ++ (sign mark.Plus ∷ written b)
  written (syntax.call l f es) = (Some l, token.Atom f) ∷ (sign mark.ParenOpen ∷ (all_written es ++ (sign mark.ParenClose ∷ [])))
  written (syntax.remote l m f es) =
      written m ++ (sign mark.Colon ∷ (written f ++ (sign mark.ParenOpen ∷ (all_written es ++ (sign mark.ParenClose ∷ [])))))

  -- arguments, parted by commas
  pub all_written : Exps → List Written
  all_written syntax.none = []
  all_written (syntax.more e es) = written e ++ rest_written es

  -- what stands behind the first argument, or behind the first line of a body
  pub rest_written : Exps → List Written
  rest_written syntax.none = []
  rest_written (syntax.more e es) = sign mark.Comma ∷ (written e ++ rest_written es)

-- parameters, parted by commas
abbrev pub written_parameters : List Pat → List Written
written_parameters [] = []
written_parameters (p ∷ []) = written_pattern p
written_parameters (p ∷ (q ∷ ps)) = written_pattern p ++ (sign mark.Comma ∷ written_parameters (q ∷ ps))

-- a function's name has no line in the tree
abbrev pub written_function : FunctionTree → List Written
written_function f =
    word f.name ∷ (sign mark.ParenOpen ∷ (written_parameters f.parameters ++ (sign mark.ParenClose ∷ (sign mark.Arrow
    ∷ (written f.first ++ (rest_written f.rest ++ (dot ∷ [])))))))

abbrev pub written_functions : List FunctionTree → List Written
written_functions [] = []
written_functions (f ∷ fs) = written_function f ++ written_functions fs

abbrev pub written_exports : List FunctionName → List Written
written_exports [] = []
written_exports (e ∷ []) = word e.name ∷ (sign mark.Slash ∷ ((None, token.Int e.arity) ∷ []))
written_exports (e ∷ (d ∷ es)) = word e.name ∷ (sign mark.Slash ∷ ((None, token.Int e.arity) ∷ (sign mark.Comma ∷ written_exports (d ∷ es))))

abbrev pub written_module : ModuleTree → List Written
written_module m =
    sign mark.Minus ∷ (word (codes "module") ∷ (sign mark.ParenOpen ∷ (word m.name ∷ (sign mark.ParenClose ∷ (dot
    ∷ (sign mark.Minus ∷ (word (codes "export") ∷ (sign mark.ParenOpen ∷ (sign mark.BracketOpen
    ∷ (written_exports m.exports ++ (sign mark.BracketClose ∷ (sign mark.ParenClose ∷ (dot ∷ written_functions m.functions)))))))))))))

-- the tokens of a text are those that a tree writes, each on its line
abbrev pub IsOnLine : Option ℕ → ℕ → Type 0
IsOnLine None line = Unit {0}
IsOnLine (Some l) line = l ≡ line

abbrev pub Agrees : List Placed → List Written → Type 0
Agrees [] [] = Unit {0}
Agrees (p ∷ ps) (w ∷ ws) = (p.token ≡ w.1) × IsOnLine w.0 p.line × Agrees ps ws
Agrees _ _ = ⊥
