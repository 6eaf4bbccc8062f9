-- The layout of modules: the pieces of which the text of a module consists. In all of these, g is the gap before the
-- first piece, and d says how many spaces deep the line is on which the first piece is. What is laid out on
-- several lines ends on a line as deep as the one on which it begins, so what follows is d deep too.

use Rattle.std.specs.Prelude.{ℕ, ℤ, pos, negsuc, suc, ◌+◌, Bool, true, false, ◌||◌, List, [], ◌∷◌, ◌++◌, Option, None, Some, codes}
use Rattle.edb_scan.specs.declared.lexeme.Mark.{Mark}
use Rattle.edb_scan.specs.declared.lexeme.Mark.TheVariants as mark
use Rattle.edb_scan.specs.declared.lexeme.Token.TheVariants.{Int, Float, Atom, Var, Str, Dot}
use Rattle.edb_lang.specs.declared.operators.UnaryOp.{UnaryOp}
use Rattle.edb_lang.specs.declared.operators.UnaryOp.TheVariants as unary
use Rattle.edb_lang.specs.declared.operators.BinaryOp.{BinaryOp}
use Rattle.edb_lang.specs.declared.operators.BinaryOp.TheVariants as binary
use Rattle.edb_syntax.specs.declared.operation.Operation.TheVariants.{Tuple, ListWithTail, Unary, Binary, Send, LocalCall, RemoteCall, FunCall}
use Rattle.edb_syntax.specs.declared.operation.Operation.TheVariants as operation
use Rattle.edb_syntax.specs.declared.modules.Export.{Export}
use Rattle.edb_syntax.specs.Patterns as pattern
use Rattle.edb_syntax.specs.Patterns.{Pat, Pats}
use Rattle.edb_syntax.specs.Syntax.{Exp, Exps, Seq, After, Guards, ClauseTree, Clauses, CatchTree, Catches, QualifierTree, Qualifiers, FunctionTree, ModuleTree, int, atom, string, float, variable, apply, and_also, or_else, match, catch, begin, case, if_clauses, receive, receive_after, try, fun_clauses, fun_local, fun_remote, comprehension, none, more, sequence, no_after, after, no_guard, alternative, clause, no_clauses, more_clauses, catch_clause, no_catches, more_catches, generator, filter, no_qualifiers, more_qualifiers}
use Rattle.edb_print.specs.Pieces.{Gap, tight, blank, line, Piece, piece, sign, bytes_of}

-- integers: a negative one is `-` and its digits
abbrev pub lay_integer : Gap → ℤ → List Piece
lay_integer g (pos n) = piece g (Int n) ∷ []
lay_integer g (negsuc n) = sign g mark.Minus ∷ piece tight (Int (suc n)) ∷ []

-- patterns: no part of one is in parentheses
abbrev mutual
  pub lay_pattern : Gap → Pat → List Piece
  lay_pattern g (pattern.int l i) = lay_integer g i
  lay_pattern g (pattern.atom l a) = piece g (Atom a) ∷ []
  lay_pattern g (pattern.string l s) = piece g (Str s) ∷ []
  lay_pattern g (pattern.variable l x) = piece g (Var x) ∷ []
  lay_pattern g (pattern.any l) = piece g (Var (codes "_")) ∷ []
  lay_pattern g (pattern.tuple l ps) = sign g mark.BraceOpen ∷ (lay_patterns tight ps ++ sign tight mark.BraceClose ∷ [])
  lay_pattern g (pattern.list l ps) = sign g mark.BracketOpen ∷ (lay_patterns tight ps ++ sign tight mark.BracketClose ∷ [])
  lay_pattern g (pattern.list_with_tail l ps t) =
      sign g mark.BracketOpen ∷ (lay_patterns tight ps ++ sign blank mark.Bar ∷ (lay_pattern blank t ++ sign tight mark.BracketClose ∷ []))
  lay_pattern g (pattern.both l p q) = lay_pattern g p ++ sign blank mark.Match ∷ lay_pattern blank q

  -- patterns with `, ` between them
  pub lay_patterns : Gap → Pats → List Piece
  lay_patterns g pattern.none = []
  lay_patterns g (pattern.more p ps) = lay_pattern g p ++ lay_more_patterns ps

  -- those that follow a first one
  pub lay_more_patterns : Pats → List Piece
  lay_more_patterns pattern.none = []
  lay_more_patterns (pattern.more p ps) = sign tight mark.Comma ∷ (lay_pattern blank p ++ lay_more_patterns ps)

-- an operator before its operand: a word has a space after it, `-` and `+` have none
abbrev pub prefix_mark : UnaryOp → Mark
prefix_mark unary.Plus = mark.Plus
prefix_mark unary.Minus = mark.Minus
prefix_mark unary.BitNot = mark.BitNot
prefix_mark unary.Not = mark.Not

abbrev pub prefix_gap : UnaryOp → Gap
prefix_gap unary.Plus = tight
prefix_gap unary.Minus = tight
prefix_gap unary.BitNot = blank
prefix_gap unary.Not = blank

-- an operator between its operands
abbrev pub infix_mark : BinaryOp → Mark
infix_mark binary.Divide = mark.Slash
infix_mark binary.Multiply = mark.Star
infix_mark binary.Div = mark.Div
infix_mark binary.Rem = mark.Rem
infix_mark binary.BitAnd = mark.BitAnd
infix_mark binary.And = mark.And
infix_mark binary.Add = mark.Plus
infix_mark binary.Subtract = mark.Minus
infix_mark binary.BitOr = mark.BitOr
infix_mark binary.BitXor = mark.BitXor
infix_mark binary.ShiftLeft = mark.ShiftLeft
infix_mark binary.ShiftRight = mark.ShiftRight
infix_mark binary.Or = mark.Or
infix_mark binary.Xor = mark.Xor
infix_mark binary.Append = mark.PlusPlus
infix_mark binary.Remove = mark.MinusMinus
infix_mark binary.Equal = mark.Equal
infix_mark binary.Unequal = mark.Unequal
infix_mark binary.AtMost = mark.AtMost
infix_mark binary.LessThan = mark.LessThan
infix_mark binary.AtLeast = mark.AtLeast
infix_mark binary.GreaterThan = mark.GreaterThan
infix_mark binary.ExactlyEqual = mark.ExactlyEqual
infix_mark binary.ExactlyUnequal = mark.ExactlyUnequal

-- an operator, a send, a match or a catch: it is in parentheses if it is an operand. A negative integer, which no
-- text has, is laid out as `-` on an integer, so it is in parentheses too.
abbrev pub is_operator : Exp → Bool
is_operator (int l (negsuc n)) = true
is_operator (apply l (Unary o) es) = true
is_operator (apply l (Binary o) es) = true
is_operator (apply l Send es) = true
is_operator (and_also l a b) = true
is_operator (or_else l a b) = true
is_operator (match l p e) = true
is_operator (catch l e) = true
is_operator _ = false

abbrev pub is_call : Exp → Bool
is_call (apply l (LocalCall f) es) = true
is_call (apply l RemoteCall es) = true
is_call (apply l FunCall es) = true
is_call _ = false

-- what is in parentheses when it is called, or is the module or the name of a call
abbrev pub is_open : Exp → Bool
is_open e = is_operator e || is_call e

-- what is laid out so, in parentheses or not
abbrev pub grouped : Bool → (Gap → List Piece) → Gap → List Piece
grouped true inner g = sign g mark.ParenOpen ∷ (inner tight ++ sign tight mark.ParenClose ∷ [])
grouped false inner g = inner g

-- how the clauses of an expression or of a function begin: with a pattern, as in `case`; with a guard, as in `if`;
-- with patterns in parentheses, as in a fun; or with a name before these, as in a function
pub data Opening : Type 0 where
  with_pattern : Opening
  with_guard : Opening
  with_parameters : Opening
  with_name : List ℕ → Opening

-- patterns in parentheses
abbrev pub lay_parameters : Gap → Pats → List Piece
lay_parameters g ps = sign g mark.ParenOpen ∷ (lay_patterns tight ps ++ sign tight mark.ParenClose ∷ [])

-- the variable for the stack of a clause after `catch`, if it has one
abbrev pub lay_stack : Option Pat → List Piece
lay_stack None = []
lay_stack (Some x) = sign tight mark.Colon ∷ lay_pattern tight x

-- `end` on a line of its own
abbrev pub lay_end : ℕ → List Piece
lay_end d = sign (line d) mark.End ∷ []

abbrev mutual
  pub lay : Gap → ℕ → Exp → List Piece
  lay g d (int l i) = lay_integer g i
  lay g d (atom l a) = piece g (Atom a) ∷ []
  lay g d (string l s) = piece g (Str s) ∷ []
  lay g d (float l) = piece g Float ∷ []
  lay g d (variable l x) = piece g (Var x) ∷ []
  lay g d (apply l Tuple es) = sign g mark.BraceOpen ∷ (lay_all tight blank d es ++ sign tight mark.BraceClose ∷ [])
  lay g d (apply l operation.List es) = sign g mark.BracketOpen ∷ (lay_all tight blank d es ++ sign tight mark.BracketClose ∷ [])
  lay g d (apply l ListWithTail (more e es)) =
      sign g mark.BracketOpen ∷ (lay tight d e ++ (lay_to_tail d es ++ sign tight mark.BracketClose ∷ []))
  lay g d (apply l (Unary o) (more e es)) = sign g (prefix_mark o) ∷ grouped (is_operator e) (λ h. lay h d e) (prefix_gap o)
  lay g d (apply l (Binary o) (more a (more b es))) =
      grouped (is_operator a) (λ h. lay h d a) g ++ sign blank (infix_mark o) ∷ grouped (is_operator b) (λ h. lay h d b) blank
  lay g d (apply l Send (more a (more b es))) =
      grouped (is_operator a) (λ h. lay h d a) g ++ sign blank mark.Bang ∷ grouped (is_operator b) (λ h. lay h d b) blank
  lay g d (apply l (LocalCall f) es) =
      piece g (Atom f) ∷ sign tight mark.ParenOpen ∷ (lay_all tight blank d es ++ sign tight mark.ParenClose ∷ [])
  lay g d (apply l RemoteCall (more m (more f es))) =
      grouped (is_open m) (λ h. lay h d m) g ++ sign tight mark.Colon ∷ (grouped (is_open f) (λ h. lay h d f) tight
      ++ sign tight mark.ParenOpen ∷ (lay_all tight blank d es ++ sign tight mark.ParenClose ∷ []))
  lay g d (apply l FunCall (more e es)) =
      grouped (is_open e) (λ h. lay h d e) g ++ sign tight mark.ParenOpen ∷ (lay_all tight blank d es ++ sign tight mark.ParenClose ∷ [])
  -- an operation on fewer operands than it takes, which no text has, is laid out as a tuple of them
  lay g d (apply l o es) = sign g mark.BraceOpen ∷ (lay_all tight blank d es ++ sign tight mark.BraceClose ∷ [])
  lay g d (and_also l a b) =
      grouped (is_operator a) (λ h. lay h d a) g ++ sign blank mark.AndAlso ∷ grouped (is_operator b) (λ h. lay h d b) blank
  lay g d (or_else l a b) =
      grouped (is_operator a) (λ h. lay h d a) g ++ sign blank mark.OrElse ∷ grouped (is_operator b) (λ h. lay h d b) blank
  -- the right side of a match is in no parentheses, so that `A = B = C` is a match in a match
  lay g d (match l p e) = lay_pattern g p ++ sign blank mark.Match ∷ lay blank d e
  lay g d (catch l e) = sign g mark.Catch ∷ grouped (is_operator e) (λ h. lay h d e) blank
  lay g d (begin l s) = sign g mark.Begin ∷ (lay_body (d + 4) s ++ lay_end d)
  lay g d (case l e cs) =
      sign g mark.Case ∷ (lay blank d e ++ sign blank mark.Of ∷ (lay_clauses with_pattern (line (d + 4)) (d + 4) (d + 4) cs ++ lay_end d))
  lay g d (if_clauses l cs) = sign g mark.If ∷ (lay_clauses with_guard (line (d + 4)) (d + 4) (d + 4) cs ++ lay_end d)
  lay g d (receive l cs) = sign g mark.Receive ∷ (lay_clauses with_pattern (line (d + 4)) (d + 4) (d + 4) cs ++ lay_end d)
  lay g d (receive_after l cs e s) =
      sign g mark.Receive ∷ (lay_clauses with_pattern (line (d + 4)) (d + 4) (d + 4) cs
      ++ sign (line d) mark.After ∷ (lay blank d e ++ sign blank mark.Arrow ∷ (lay_body (d + 4) s ++ lay_end d)))
  lay g d (try l s cs hs a) =
      sign g mark.Try ∷ (lay_body (d + 4) s ++ (lay_of d cs ++ (lay_catch d hs ++ (lay_after d a ++ lay_end d))))
  -- the first clause follows `fun` on its line
  lay g d (fun_clauses l i cs) = sign g mark.Fun ∷ (lay_clauses with_parameters tight d (d + 4) cs ++ lay_end d)
  lay g d (fun_local l i f n) = sign g mark.Fun ∷ piece blank (Atom f) ∷ sign tight mark.Slash ∷ piece tight (Int n) ∷ []
  lay g d (fun_remote l m f n) =
      sign g mark.Fun ∷ piece blank (Atom m) ∷ sign tight mark.Colon ∷ piece tight (Atom f) ∷ sign tight mark.Slash ∷ piece tight (Int n) ∷ []
  lay g d (comprehension l e qs) =
      sign g mark.BracketOpen ∷ (lay tight d e ++ sign blank mark.BarBar ∷ (lay_qualifiers d qs ++ sign tight mark.BracketClose ∷ []))

  -- expressions with commas between them: the first one after the gap g, each other one after the gap h
  pub lay_all : Gap → Gap → ℕ → Exps → List Piece
  lay_all g h d none = []
  lay_all g h d (more e es) = lay g d e ++ lay_more h d es

  -- those that follow a first one
  pub lay_more : Gap → ℕ → Exps → List Piece
  lay_more h d none = []
  lay_more h d (more e es) = sign tight mark.Comma ∷ (lay h d e ++ lay_more h d es)

  -- what follows the first element of a list with a tail: the other elements, and the tail after a bar
  pub lay_to_tail : ℕ → Exps → List Piece
  lay_to_tail d none = []
  lay_to_tail d (more t none) = sign blank mark.Bar ∷ lay blank d t
  lay_to_tail d (more e es) = sign tight mark.Comma ∷ (lay blank d e ++ lay_to_tail d es)

  -- a body: each expression on a line of its own, so deep
  pub lay_body : ℕ → Seq → List Piece
  lay_body d (sequence e es) = lay (line d) d e ++ lay_more (line d) d es

  -- a guard: its alternatives with `; ` between them, the tests of each with `, ` between them
  pub lay_guard : Gap → ℕ → Guards → List Piece
  lay_guard g d no_guard = []
  lay_guard g d (alternative es gs) = lay_all g blank d es ++ lay_alternatives d gs

  pub lay_alternatives : ℕ → Guards → List Piece
  lay_alternatives d no_guard = []
  lay_alternatives d (alternative es gs) = sign tight mark.Semicolon ∷ (lay_all blank blank d es ++ lay_alternatives d gs)

  -- the guard of a clause after its patterns, if it has one
  pub lay_when : ℕ → Guards → List Piece
  lay_when d no_guard = []
  lay_when d (alternative es gs) = sign blank mark.When ∷ (lay_all blank blank d es ++ lay_alternatives d gs)

  -- a clause: its head and `->`, and its body on lines four deeper
  pub lay_clause : Opening → Gap → ℕ → ClauseTree → List Piece
  lay_clause with_pattern g d (clause ps gs s) = lay_patterns g ps ++ (lay_when d gs ++ sign blank mark.Arrow ∷ lay_body (d + 4) s)
  lay_clause with_guard g d (clause ps gs s) = lay_guard g d gs ++ sign blank mark.Arrow ∷ lay_body (d + 4) s
  lay_clause with_parameters g d (clause ps gs s) = lay_parameters g ps ++ (lay_when d gs ++ sign blank mark.Arrow ∷ lay_body (d + 4) s)
  lay_clause (with_name f) g d (clause ps gs s) =
      piece g (Atom f) ∷ (lay_parameters tight ps ++ (lay_when d gs ++ sign blank mark.Arrow ∷ lay_body (d + 4) s))

  -- clauses with `;` between them: the first one after the gap g on a line d deep, the others on lines of their own,
  -- e deep
  pub lay_clauses : Opening → Gap → ℕ → ℕ → Clauses → List Piece
  lay_clauses o g d e no_clauses = []
  lay_clauses o g d e (more_clauses c cs) = lay_clause o g d c ++ lay_more_clauses o e cs

  pub lay_more_clauses : Opening → ℕ → Clauses → List Piece
  lay_more_clauses o e no_clauses = []
  lay_more_clauses o e (more_clauses c cs) = sign tight mark.Semicolon ∷ (lay_clause o (line e) e c ++ lay_more_clauses o e cs)

  -- the parts of a `try` from `of`, from `catch` and from `after` on, if there are any
  pub lay_of : ℕ → Clauses → List Piece
  lay_of d no_clauses = []
  lay_of d (more_clauses c cs) =
      sign (line d) mark.Of ∷ (lay_clause with_pattern (line (d + 4)) (d + 4) c ++ lay_more_clauses with_pattern (d + 4) cs)

  pub lay_catch : ℕ → Catches → List Piece
  lay_catch d no_catches = []
  lay_catch d (more_catches h hs) = sign (line d) mark.Catch ∷ (lay_handler (d + 4) h ++ lay_more_handlers (d + 4) hs)

  pub lay_after : ℕ → After → List Piece
  lay_after d no_after = []
  lay_after d (after s) = sign (line d) mark.After ∷ lay_body (d + 4) s

  -- a clause after `catch`, always with its class
  pub lay_handler : ℕ → CatchTree → List Piece
  lay_handler d (catch_clause c p v gs s) =
      lay_pattern (line d) c ++ sign tight mark.Colon ∷ (lay_pattern tight p ++ (lay_stack v
      ++ (lay_when d gs ++ sign blank mark.Arrow ∷ lay_body (d + 4) s)))

  pub lay_more_handlers : ℕ → Catches → List Piece
  lay_more_handlers d no_catches = []
  lay_more_handlers d (more_catches h hs) = sign tight mark.Semicolon ∷ (lay_handler d h ++ lay_more_handlers d hs)

  -- qualifiers with `, ` between them
  pub lay_qualifiers : ℕ → Qualifiers → List Piece
  lay_qualifiers d no_qualifiers = []
  lay_qualifiers d (more_qualifiers q qs) = lay_qualifier d q ++ lay_more_qualifiers d qs

  pub lay_more_qualifiers : ℕ → Qualifiers → List Piece
  lay_more_qualifiers d no_qualifiers = []
  lay_more_qualifiers d (more_qualifiers q qs) = sign tight mark.Comma ∷ (lay_qualifier d q ++ lay_more_qualifiers d qs)

  pub lay_qualifier : ℕ → QualifierTree → List Piece
  lay_qualifier d (generator p e) = lay_pattern blank p ++ sign blank mark.From ∷ lay blank d e
  lay_qualifier d (filter e) = lay blank d e

-- the dot after the clauses of a function: none if it has no clause, as in no text
abbrev pub lay_dot : Clauses → List Piece
lay_dot no_clauses = []
lay_dot (more_clauses c cs) = piece tight Dot ∷ []

-- a function: its clauses, each on lines of its own, and the dot
abbrev pub lay_function : FunctionTree → List Piece
lay_function f = lay_clauses (with_name f.name) (line 0) 0 0 f.clauses ++ lay_dot f.clauses

abbrev pub lay_functions : List FunctionTree → List Piece
lay_functions [] = []
lay_functions (f ∷ fs) = lay_function f ++ lay_functions fs

-- an entry of the export, `f/2`
abbrev pub lay_entry : Gap → Export → List Piece
lay_entry g x = piece g (Atom x.name) ∷ sign tight mark.Slash ∷ piece tight (Int x.arity) ∷ []

-- entries with `, ` between them: the first one, and those that follow it
abbrev pub lay_more_entries : List Export → List Piece
lay_more_entries [] = []
lay_more_entries (x ∷ xs) = sign tight mark.Comma ∷ (lay_entry blank x ++ lay_more_entries xs)

-- the export line, if something is exported
abbrev pub lay_exports : List Export → List Piece
lay_exports [] = []
lay_exports (x ∷ xs) =
    sign (line 0) mark.Minus ∷ piece tight (Atom (codes "export")) ∷ sign tight mark.ParenOpen ∷ sign tight mark.BracketOpen
    ∷ (lay_entry tight x ++ (lay_more_entries xs ++ sign tight mark.BracketClose ∷ sign tight mark.ParenClose ∷ piece tight Dot ∷ []))

-- the module line
abbrev pub lay_module_line : List ℕ → List Piece
lay_module_line m =
    sign tight mark.Minus ∷ piece tight (Atom (codes "module")) ∷ sign tight mark.ParenOpen ∷ piece tight (Atom m)
    ∷ sign tight mark.ParenClose ∷ piece tight Dot ∷ []

-- a module: the module line, the export line, and its functions
abbrev pub lay_module : ModuleTree → List Piece
lay_module m = lay_module_line m.name ++ (lay_exports m.exports ++ lay_functions m.functions)

-- the text of a module, which ends with a newline
unfoldable pub text_of : ModuleTree → List ℕ
text_of m = bytes_of (lay_module m) ++ 10 ∷ []
