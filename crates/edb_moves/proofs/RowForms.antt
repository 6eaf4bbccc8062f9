-- Small programs for the rows: `main() -> E.` in a module m with `id(X) -> X.` and `f(0) -> zero; f(N) when N > 0 -> N.`,
-- and how many moves its expression makes. All tokens stand on line 1.

use Rattle.std.proofs.Common.{◌≡◌, ℕ, zero, suc, ◌+◌, pos, Bool, true, false, List, [], ◌∷◌, Option, codes}
use Prim.Native.String.{String}
use Rattle.edb_lang.specs.declared.operators.BinaryOp.TheVariants.{GreaterThan}
use Rattle.edb_lang.specs.Terms as term
use Rattle.edb_lang.specs.Terms.{Datum}
use Rattle.edb_lang.specs.ListTerms.{list_of}
use Rattle.edb_lang.specs.declared.small.Class.TheVariants.{Error}
use Rattle.edb_syntax.specs.Patterns as pattern
use Rattle.edb_syntax.specs.Patterns.{Pat, pats_of}
use Rattle.edb_syntax.specs.Syntax as syntax
use Rattle.edb_syntax.specs.Syntax.{Exp, Seq, ClauseTree, CatchTree, FunctionTree, ModuleTree, exps_of, clauses_of, catches_of, qualifiers_of}
use Rattle.edb_syntax.specs.Forms as forms
use Rattle.edb_syntax.specs.Lookup.{first_versions}
use Rattle.edb_moves.specs.Running.{Run, raised, opening_call}
use Rattle.edb_moves.specs.Moves.{moved}
use Rattle.edb_moves.specs.Next.{next, is_move}

-- Expressions.

abbrev pub num : ℕ → Exp
num n = syntax.int 1 (pos n)

abbrev pub word : String → Exp
word name = syntax.atom 1 (codes name)

abbrev pub var : String → Exp
var name = syntax.variable 1 (codes name)

abbrev pub tuple : List Exp → Exp
tuple es = forms.tuple 1 (exps_of es)

abbrev pub list : List Exp → Exp
list es = forms.list 1 (exps_of es)

abbrev pub local : String → List Exp → Exp
local name es = forms.call 1 (word name) (exps_of es)

abbrev pub remote : Exp → String → List Exp → Exp
remote home name es = forms.remote_call 1 home (word name) (exps_of es)

abbrev pub fun_call : Exp → List Exp → Exp
fun_call f es = forms.call 1 f (exps_of es)

abbrev pub assign : String → Exp → Exp
assign name e = syntax.match 1 (pattern.variable 1 (codes name)) e

-- Sequences, patterns and clauses.

abbrev pub seq : Exp → List Exp → Seq
seq e es = syntax.sequence e (exps_of es)

abbrev pub pnum : ℕ → Pat
pnum n = pattern.int 1 (pos n)

abbrev pub pword : String → Pat
pword name = pattern.atom 1 (codes name)

abbrev pub pvar : String → Pat
pvar name = pattern.variable 1 (codes name)

abbrev pub any : Pat
any = pattern.any 1

abbrev pub clause : List Pat → Exp → ClauseTree
clause ps e = syntax.clause (pats_of ps) syntax.no_guard (seq e [])

abbrev pub guarded : List Pat → Exp → Exp → ClauseTree
guarded ps test e = syntax.clause (pats_of ps) (syntax.alternative (exps_of (test ∷ [])) syntax.no_guard) (seq e [])

-- a clause behind `catch`
abbrev pub handling : Pat → Pat → Option Pat → Exp → CatchTree
handling class p stack e = syntax.catch_clause class p stack syntax.no_guard (seq e [])

abbrev pub greater : Exp → Exp → Exp
greater a b = forms.binary 1 GreaterThan a b

-- The program.

abbrev function : String → ℕ → List ClauseTree → FunctionTree
function name arity cs = record { name = codes name; arity = arity; line = 1; clauses = clauses_of cs }

abbrev pub program : Seq → ModuleTree
program s =
    record {
      name = codes "m";
      line = 1;
      exports = record { name = codes "main"; arity = 0; line = 1 } ∷ record { name = codes "id"; arity = 1; line = 1 } ∷ [];
      functions =
          record { name = codes "main"; arity = 0; line = 1; clauses = syntax.more_clauses (syntax.clause pattern.none syntax.no_guard s) syntax.no_clauses }
          ∷ function "id" 1 (clause (pvar "X" ∷ []) (var "X") ∷ [])
          ∷ function "f" 1 (clause (pnum 0 ∷ []) (word "zero") ∷ guarded (pvar "N" ∷ []) (greater (var "N") (num 0)) (var "N") ∷ [])
          ∷ [];
    }

-- one move of process 7
abbrev pub move_of : Seq → Run → Run
move_of s t = moved (program s ∷ []) (first_versions (program s ∷ [])) 7 t

-- how many moves are made, at most so many, until none is next, and what is there then
abbrev pub counted : Seq → ℕ → Run → ℕ × Run
counted s zero t = (0, t)
counted s (suc n) t = by (is_move (next t)) (counted s n (move_of s t)) t
  where
    by : Bool → ℕ × Run → Run → ℕ × Run
    by true rest t = (rest.0 + 1, rest.1)
    by false rest t = (0, t)

-- `main`, called, makes exactly so many moves, and then this is there
abbrev pub Makes : ℕ → Seq → Run → Type 0
Makes n s t = counted s (n + 1) (opening_call (codes "m") (codes "main") []) ≡ (n, t)

-- Ends.

abbrev pub number : ℕ → Datum
number n = term.int (pos n)

abbrev pub atom : String → Datum
atom name = term.atom (codes name)

abbrev pub terms : List Datum → Datum
terms ts = list_of ts term.nil

abbrev pub tuple_of : List Datum → Datum
tuple_of ts = term.tuple (term.of_list ts)

abbrev pub fails : Datum → Run
fails reason = raised Error reason
