-- The syntax of a module, as plain trees. The number that stands first in a node is the line of its first token:
-- `(a)` is `a` with its line, and a node whose first part is in parentheses begins with the `(`. What differs in
-- writing but not in meaning leaves no trace: parentheses, comments, skipped attributes, the parts of a string, a
-- character in place of its code point, a class `throw` that isn't written.

use Rattle.std.specs.Prelude.{ℕ, ℤ, ◌+◌, List, [], ◌∷◌, Option}
use Rattle.edb_syntax.specs.declared.operation.Operation.{Operation}
use Rattle.edb_syntax.specs.declared.modules.Export.{Export}
use Rattle.edb_syntax.specs.Patterns.{Pat, Pats}

mutual
  -- expressions
  pub data Exp : Type 0 where
    -- an integer, or a character, which stands for its code point
    int : ℕ → ℤ → Exp
    -- an atom
    atom : ℕ → List ℕ → Exp
    -- a string, as its code points
    string : ℕ → List ℕ → Exp
    -- a number with a fraction: refused wherever it stands, so its value isn't kept
    float : ℕ → Exp
    -- a variable by its name; `_` is one too, which nothing binds
    variable : ℕ → List ℕ → Exp
    -- an operation on operands, which are evaluated from left to right: an operator, a tuple, a list, a send or a
    -- call; specs/Forms tells which operand is which
    apply : ℕ → Operation → Exps → Exp
    -- `A andalso B`
    and_also : ℕ → Exp → Exp → Exp
    -- `A orelse B`
    or_else : ℕ → Exp → Exp → Exp
    -- `P = E`
    match : ℕ → Pat → Exp → Exp
    -- `catch E`
    catch : ℕ → Exp → Exp
    -- `begin .. end`
    begin : ℕ → Seq → Exp
    -- `case E of .. end`: each clause has one pattern
    case : ℕ → Exp → Clauses → Exp
    -- `if .. end`: the clauses have no pattern
    if_clauses : ℕ → Clauses → Exp
    -- `receive .. end`: each clause has one pattern
    receive : ℕ → Clauses → Exp
    -- `receive .. after E -> .. end`: the clauses, of which there may be none, the timeout, and what follows it
    receive_after : ℕ → Clauses → Exp → Seq → Exp
    -- `try .. of .. catch .. after .. end`: the body, the clauses behind `of` and those behind `catch`, of each of
    -- which there may be none, and what stands behind `after`
    try : ℕ → Seq → Clauses → Catches → After → Exp
    -- `fun (..) -> ..; (..) -> .. end`: its place among the fun forms of the module, counted from 0 in the order
    -- of their `fun` tokens, and its clauses
    fun_clauses : ℕ → ℕ → Clauses → Exp
    -- `fun f/2`: its place, the name and the arity
    fun_local : ℕ → ℕ → List ℕ → ℕ → Exp
    -- `fun m:f/2`: the module, the name and the arity
    fun_remote : ℕ → List ℕ → List ℕ → ℕ → Exp
    -- `[E || Q, ..]`
    comprehension : ℕ → Exp → Qualifiers → Exp

  -- expressions one behind the other
  pub data Exps : Type 0 where
    none : Exps
    more : Exp → Exps → Exps

  -- a sequence: a first expression, and those that follow
  pub data Seq : Type 0 where
    sequence : Exp → Exps → Seq

  -- what stands behind the `after` of a `try`, where it has one
  pub data After : Type 0 where
    no_after : After
    after : Seq → After

  -- A guard: alternatives, of which one has to hold; each is a row of tests, all of which have to hold. A clause
  -- without a guard has none, and passes.
  pub data Guards : Type 0 where
    no_guard : Guards
    alternative : Exps → Guards → Guards

  -- a clause: its patterns, its guard and its body
  pub data ClauseTree : Type 0 where
    clause : Pats → Guards → Seq → ClauseTree

  -- clauses one behind the other; likewise below
  pub data Clauses : Type 0 where
    no_clauses : Clauses
    more_clauses : ClauseTree → Clauses → Clauses

  -- a clause behind `catch`: its class, an atom or a variable; its pattern; the variable for the stack, where it
  -- has one; its guard and its body
  pub data CatchTree : Type 0 where
    catch_clause : Pat → Pat → Option Pat → Guards → Seq → CatchTree

  pub data Catches : Type 0 where
    no_catches : Catches
    more_catches : CatchTree → Catches → Catches

  -- a qualifier of a comprehension: `P <- E`, or a filter
  pub data QualifierTree : Type 0 where
    generator : Pat → Exp → QualifierTree
    filter : Exp → QualifierTree

  pub data Qualifiers : Type 0 where
    no_qualifiers : Qualifiers
    more_qualifiers : QualifierTree → Qualifiers → Qualifiers

-- A function: its name, how many parameters it has, the line of its first token, and its clauses.
pub record FunctionTree : Type 0 where
  pub name : List ℕ
  pub arity : ℕ
  pub line : ℕ
  pub clauses : Clauses

-- A module: its name, the line of its module form, what it exports (each a name, an arity and a line), and its
-- functions, in the order of the text.
pub record ModuleTree : Type 0 where
  pub name : List ℕ
  pub line : ℕ
  pub exports : List Export
  pub functions : List FunctionTree

-- the line of an expression
abbrev pub line_of : Exp → ℕ
line_of (int l i) = l
line_of (atom l a) = l
line_of (string l s) = l
line_of (float l) = l
line_of (variable l x) = l
line_of (apply l o es) = l
line_of (and_also l a b) = l
line_of (or_else l a b) = l
line_of (match l p e) = l
line_of (catch l e) = l
line_of (begin l s) = l
line_of (case l e cs) = l
line_of (if_clauses l cs) = l
line_of (receive l cs) = l
line_of (receive_after l cs e s) = l
line_of (try l s cs hs a) = l
line_of (fun_clauses l i cs) = l
line_of (fun_local l i f n) = l
line_of (fun_remote l m f n) = l
line_of (comprehension l e qs) = l

-- the parts of a list, one behind the other
abbrev pub exps_of : List Exp → Exps
exps_of [] = none
exps_of (e ∷ es) = more e (exps_of es)

abbrev pub guards_of : List Exps → Guards
guards_of [] = no_guard
guards_of (es ∷ gs) = alternative es (guards_of gs)

abbrev pub clauses_of : List ClauseTree → Clauses
clauses_of [] = no_clauses
clauses_of (c ∷ cs) = more_clauses c (clauses_of cs)

abbrev pub catches_of : List CatchTree → Catches
catches_of [] = no_catches
catches_of (c ∷ cs) = more_catches c (catches_of cs)

abbrev pub qualifiers_of : List QualifierTree → Qualifiers
qualifiers_of [] = no_qualifiers
qualifiers_of (q ∷ qs) = more_qualifiers q (qualifiers_of qs)

-- how many expressions there are
abbrev pub count : Exps → ℕ
count none = 0
count (more e es) = count es + 1
