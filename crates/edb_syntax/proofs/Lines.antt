-- A tree has the line that its struct has.

use Rattle.std.proofs.Common.{◌≡◌, ℕ, refl}
use Rattle.edb_syntax.specs.declared.expression.ExprNode.{ExprNode}
use Rattle.edb_syntax.specs.declared.expression.ExprNode.TheVariants as node
use Rattle.edb_syntax.specs.declared.pattern.PatternNode.{PatternNode}
use Rattle.edb_syntax.specs.declared.pattern.PatternNode.TheVariants as pattern
use Rattle.edb_syntax.specs.Patterns.{pattern_line}
use Rattle.edb_syntax.specs.PatternViews.{pat_of}
use Rattle.edb_syntax.specs.Syntax.{line_of}
use Rattle.edb_syntax.specs.Views.{exp_of}

pub line_of-exp_of : (l : ℕ) (n : ExprNode) → line_of (exp_of l n) ≡ l
line_of-exp_of l (node.Int i) = refl
line_of-exp_of l (node.Atom a) = refl
line_of-exp_of l (node.Str s) = refl
line_of-exp_of l node.Float = refl
line_of-exp_of l (node.Var x) = refl
line_of-exp_of l (node.Apply o es) = refl
line_of-exp_of l (node.AndAlso a b) = refl
line_of-exp_of l (node.OrElse a b) = refl
line_of-exp_of l (node.Match p e) = refl
line_of-exp_of l (node.Catch e) = refl
line_of-exp_of l (node.Begin s) = refl
line_of-exp_of l (node.Case e cs) = refl
line_of-exp_of l (node.If cs) = refl
line_of-exp_of l (node.Receive cs) = refl
line_of-exp_of l (node.ReceiveAfter cs e s) = refl
line_of-exp_of l (node.Try s cs hs a) = refl
line_of-exp_of l (node.Fun i cs) = refl
line_of-exp_of l (node.FunLocal i f n) = refl
line_of-exp_of l (node.FunRemote m f n) = refl
line_of-exp_of l (node.Comprehension e qs) = refl

pub pattern_line-pat_of : (l : ℕ) (n : PatternNode) → pattern_line (pat_of l n) ≡ l
pattern_line-pat_of l (pattern.Int i) = refl
pattern_line-pat_of l (pattern.Atom a) = refl
pattern_line-pat_of l (pattern.Str s) = refl
pattern_line-pat_of l (pattern.Var x) = refl
pattern_line-pat_of l pattern.Any = refl
pattern_line-pat_of l (pattern.Tuple ps) = refl
pattern_line-pat_of l (pattern.List ps) = refl
pattern_line-pat_of l (pattern.ListWithTail ps t) = refl
pattern_line-pat_of l (pattern.Both p q) = refl

pub ruleset lines = (line_of-exp_of, pattern_line-pat_of)
