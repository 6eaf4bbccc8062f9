-- Small modules for the rows: `f(X) -> E.`, and behind it `link(X) -> X.`, whose name and arity are a built-in's too. All
-- tokens stand on line 1.

use Rattle.std.proofs.Common.{ℕ, pos, Bool, List, [], ◌∷◌, codes}
use Prim.Native.String.{String}
use Rattle.edb_syntax.specs.Patterns as pattern
use Rattle.edb_syntax.specs.Patterns.{Pat, pats_of}
use Rattle.edb_syntax.specs.Syntax as syntax
use Rattle.edb_syntax.specs.Syntax.{Exp, Seq, ClauseTree, FunctionTree, ModuleTree, exps_of, clauses_of}
use Rattle.edb_syntax.specs.Forms as forms
use Rattle.edb_notyet.specs.Beyond.{is_beyond}

abbrev pub num : ℕ → Exp
num n = syntax.int 1 (pos n)

abbrev pub word : String → Exp
word name = syntax.atom 1 (codes name)

abbrev pub var : String → Exp
var name = syntax.variable 1 (codes name)

abbrev pub tuple : List Exp → Exp
tuple es = forms.tuple 1 (exps_of es)

abbrev pub local : String → List Exp → Exp
local name es = forms.call 1 (word name) (exps_of es)

abbrev pub remote : Exp → Exp → List Exp → Exp
remote home name es = forms.remote_call 1 home name (exps_of es)

-- `m:f(..)`
abbrev pub named : String → String → List Exp → Exp
named home name es = remote (word home) (word name) es

abbrev pub fun_call : Exp → List Exp → Exp
fun_call f es = forms.call 1 f (exps_of es)

abbrev pub seq : Exp → List Exp → Seq
seq e es = syntax.sequence e (exps_of es)

abbrev pub pvar : String → Pat
pvar name = pattern.variable 1 (codes name)

abbrev pub clause : List Pat → Exp → ClauseTree
clause ps e = syntax.clause (pats_of ps) syntax.no_guard (seq e [])

abbrev pub guarded : List Pat → Exp → Exp → ClauseTree
guarded ps test e = syntax.clause (pats_of ps) (syntax.alternative (exps_of (test ∷ [])) syntax.no_guard) (seq e [])

abbrev function : String → List ClauseTree → FunctionTree
function name cs = record { name = codes name; arity = 1; line = 1; clauses = clauses_of cs }

-- the module whose two functions have these clauses
abbrev pub module_with : List ClauseTree → List ClauseTree → ModuleTree
module_with cs ds = record { name = codes "m"; line = 1; exports = []; functions = function "f" cs ∷ function "link" ds ∷ [] }

-- the module whose first function has these clauses
abbrev pub module_of : List ClauseTree → ModuleTree
module_of cs = module_with cs (clause (pvar "X" ∷ []) (var "X") ∷ [])

-- whether the module is beyond the machine if its first function comes to this
abbrev pub beyond : Exp → Bool
beyond e = is_beyond (module_of (clause (pvar "X" ∷ []) e ∷ []))
