-- Reading literals, forms and files at work on small lists of tokens, by computation.

use Rattle.std.proofs.Common.{◌≡◌, ℕ, pos, neg_ℤ, List, [], ◌∷◌, ◌++◌, None, Some, refl, codes}
use Rattle.edb_scan.specs.declared.lexeme.Mark.{Mark}
use Rattle.edb_scan.specs.declared.lexeme.Mark.TheVariants as mark
use Rattle.edb_scan.specs.declared.lexeme.Token.{Token}
use Rattle.edb_scan.specs.declared.lexeme.Token.TheVariants as token
use Rattle.edb_scan.specs.declared.lexeme.Token.TheVariants.{Int, Str, Atom, Dot}
use Rattle.edb_scan.specs.declared.lexeme.Placed.{Placed}
use Rattle.edb_lang.specs.Terms as term
use Rattle.edb_syntax.specs.Patterns as pattern
use Rattle.edb_syntax.specs.Syntax.{Clauses, int, none, sequence, no_guard, clause, no_clauses, more_clauses}
use Rattle.edb_grammar.specs.Toks.{Place, Tok, tok, word}
use Rattle.edb_grammar.specs.Forms.{exports, skipped}
use Rattle.edb_grammar.specs.LiteralReading.{read_literal}
use Rattle.edb_grammar.specs.FormReading.{read_form}
use Rattle.edb_grammar.specs.FileReading.{accepted, refused, read_file}

abbrev q : Place
q = record { line = 3; funs = 0 }

abbrev one : Tok
one = tok q (Int 1)

abbrev name : List ℕ → Tok
name a = tok q (Atom a)

abbrev w : Mark → Tok
w m = word q m

abbrev dot : Tok
dot = tok q Dot

-- `{a, [1 | -1], "b"}`
a_literal : read_literal (w mark.BraceOpen ∷ name (codes "a") ∷ w mark.Comma ∷ w mark.BracketOpen ∷ one ∷ w mark.Bar ∷ w mark.Minus ∷ one
    ∷ w mark.BracketClose ∷ w mark.Comma ∷ tok q (Str (codes "b")) ∷ w mark.BraceClose ∷ [])
    ≡ Some (term.tuple (term.more (term.atom (codes "a")) (term.more (term.cons (term.int (pos 1)) (term.int (neg_ℤ (pos 1))))
    (term.more (term.cons (term.int (pos 98)) term.nil) term.none))))
a_literal = refl

-- nothing may be left over
no_literal : read_literal (one ∷ dot ∷ []) ≡ None
no_literal = refl

-- `-export([f/1, g/1]).`, `-export([]).`
an_export : read_form (w mark.Minus ∷ name (codes "export") ∷ w mark.ParenOpen ∷ w mark.BracketOpen ∷ name (codes "f") ∷ w mark.Slash ∷ one
    ∷ w mark.Comma ∷ name (codes "g") ∷ w mark.Slash ∷ one ∷ w mark.BracketClose ∷ w mark.ParenClose ∷ dot ∷ [])
    ≡ Some (exports (record { name = codes "f"; arity = 1; line = 3 } ∷ record { name = codes "g"; arity = 1; line = 3 } ∷ []))
an_export = refl

no_entries : read_form (w mark.Minus ∷ name (codes "export") ∷ w mark.ParenOpen ∷ w mark.BracketOpen ∷ w mark.BracketClose ∷ w mark.ParenClose ∷ dot ∷ [])
    ≡ Some (exports [])
no_entries = refl

-- `-vsn(1.` is passed over, and `-import(1).` is not; without a dot nothing is
passed_over : read_form (w mark.Minus ∷ name (codes "vsn") ∷ w mark.ParenOpen ∷ one ∷ dot ∷ []) ≡ Some skipped
passed_over = refl

not_passed_over : read_form (w mark.Minus ∷ name (codes "import") ∷ w mark.ParenOpen ∷ one ∷ w mark.ParenClose ∷ dot ∷ []) ≡ None
not_passed_over = refl

no_dot : read_form (w mark.Minus ∷ name (codes "vsn") ∷ w mark.ParenOpen ∷ one ∷ w mark.ParenClose ∷ []) ≡ None
no_dot = refl

-- `-module(m).` on line l; `f() -> 1.`
abbrev at : ℕ → Token → Placed
at l t = record { line = l; token = t }

abbrev named : ℕ → List Placed
named l = at l (token.Mark mark.Minus) ∷ at l (Atom (codes "module")) ∷ at l (token.Mark mark.ParenOpen) ∷ at l (Atom (codes "m"))
    ∷ at l (token.Mark mark.ParenClose) ∷ at l Dot ∷ []

abbrev function : ℕ → List Placed
function l = at l (Atom (codes "f")) ∷ at l (token.Mark mark.ParenOpen) ∷ at l (token.Mark mark.ParenClose) ∷ at l (token.Mark mark.Arrow)
    ∷ at l (Int 1) ∷ at l Dot ∷ []

abbrev body : Clauses
body = more_clauses (clause pattern.none no_guard (sequence (int 2 (pos 1)) none)) no_clauses

a_file : read_file (named 1 ++ function 2)
    ≡ accepted (record {
      name = codes "m";
      line = 1;
      exports = [];
      functions = record { name = codes "f"; arity = 0; line = 2; clauses = body } ∷ [];
    })
a_file = refl

-- no tokens; no module form before the first function; a second module form; and a dot alone
no_tokens : read_file [] ≡ refused 1 1
no_tokens = refl

no_module_form : read_file (function 2 ++ named 3) ≡ refused 1 2
no_module_form = refl

named_twice : read_file (named 1 ++ (function 2 ++ named 3)) ≡ refused 3 3
named_twice = refl

a_dot_alone : read_file (named 1 ++ at 4 Dot ∷ []) ≡ refused 2 4
a_dot_alone = refl
