-- The readers that stand for the descent of the code.

use Rattle.std.specs.Prelude.{ℕ, zero, suc, pos, ◌&&◌, ◌++◌, nat_le, None, Some}
use Rattle.edb_scan.specs.declared.lexeme.Token.{Token}
use Rattle.edb_scan.specs.declared.lexeme.Token.TheVariants.{Int, Float, Char, Atom, Var, Str}
use Rattle.edb_scan.specs.declared.lexeme.Mark.TheVariants as mark
use Rattle.edb_syntax.specs.Depths.{depth}
use Rattle.edb_syntax.specs.Forms.{remote_call, call}
use Rattle.edb_syntax.specs.Syntax.{Exp, int, atom, string, float, variable, comprehension}
use Rattle.edb_grammar.specs.Toks.{Place, most_integer}
use Rattle.edb_grammar.specs.Reading.{Read, behind, more_text, behind_text, fork, closed, made, onward, provided}
use Rattle.edb_grammar.specs.ExpressionReading.{read_expression, read_primary, read_arguments, read_qualifiers, step, within}

-- what reads a part of a node, whose parts are at most n deep, with at most m round brackets open at once
abbrev pub part : ℕ → ℕ → Read Exp
part n m ts = read_expression n m 10 ts

-- what reads the inside of parentheses, where m round brackets may be open, the outer one included
abbrev pub inside : ℕ → ℕ → Read Exp
inside n zero ts = None
inside n (suc m) ts = within n (read_expression n) m 10 ts

-- what reads a node whose parts are at most n deep, no looser than l
abbrev pub node : ℕ → ℕ → ℕ → Read Exp
node n m l ts = step n (read_expression n) (inside n m) m l ts

-- the expression that a token is, on this line; the strings behind a string belong to it
abbrev pub plain_of : ℕ → Token → Read Exp
plain_of l (Var x) ts = Some (variable l x, ts)
plain_of l (Atom a) ts = Some (atom l a, ts)
plain_of l (Int k) ts = provided (nat_le k most_integer) (λ us. Some (int l (pos k), us)) ts
plain_of l (Char c) ts = Some (int l (pos c), ts)
plain_of l Float ts = Some (float l, ts)
plain_of l (Str cs) ts = Some (string l (cs ++ more_text ts), behind_text ts)
plain_of l _ ts = None

-- the call of the expression f, on this line, behind its parenthesis
abbrev pub local_of : ℕ → ℕ → ℕ → Exp → Read Exp
local_of n m line f ts = provided (nat_le (depth f) n) (λ us. made (call line f) (read_arguments m (read_expression n) us)) ts

-- the call of a function of another module, behind the colon
abbrev pub remote_of : ℕ → ℕ → ℕ → Exp → Read Exp
remote_of n m line f ts =
    onward (closed mark.ParenOpen (read_primary m n (part n m) (inside n m) ts)) (λ g us.
    provided (nat_le (depth f) n && nat_le (depth g) n) (λ vs. made (remote_call line f g) (read_arguments m (read_expression n) vs)) us)

-- the expression f, or a call of it
abbrev pub called_of : ℕ → ℕ → ℕ → Exp → Read Exp
called_of n m line f ts =
    fork (behind mark.ParenOpen ts) (local_of n m line f) (λ us. fork (behind mark.Colon us) (remote_of n m line f) (λ vs. Some (f, vs)) us) ts

-- the qualifiers of a comprehension of e, and its closing bracket
abbrev pub comprehension_of : ℕ → ℕ → Place → Exp → Read Exp
comprehension_of n m s e ts = made (comprehension s.line e) (closed mark.BracketClose (read_qualifiers n (part n m) ts))
