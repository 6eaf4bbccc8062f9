-- Kinds of nodes: each is copied by a function of its own.

use Rattle.std.specs.Prelude.{Bool, true, false}
use Rattle.edb_syntax.specs.declared.expression.ExprNode.{ExprNode}
use Rattle.edb_syntax.specs.declared.expression.ExprNode.TheVariants as node

-- nodes whose parts are operands or a value
abbrev pub has_operands : ExprNode → Bool
has_operands (node.Apply o es) = true
has_operands (node.AndAlso a b) = true
has_operands (node.OrElse a b) = true
has_operands (node.Match p e) = true
has_operands (node.Catch e) = true
has_operands _ = false

-- nodes whose parts are sequences or clauses
abbrev pub is_choice : ExprNode → Bool
is_choice (node.Begin s) = true
is_choice (node.Case e cs) = true
is_choice (node.If cs) = true
is_choice (node.Receive cs) = true
is_choice (node.ReceiveAfter cs e s) = true
is_choice (node.Try s cs hs a) = true
is_choice _ = false

-- fun forms
abbrev pub is_fun : ExprNode → Bool
is_fun (node.Fun i cs) = true
is_fun (node.FunLocal i f n) = true
is_fun (node.FunRemote m f n) = true
is_fun _ = false
