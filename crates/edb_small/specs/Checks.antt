-- What is tested on a tree that was read, whose forms stand where they may.

use Rattle.std.specs.Prelude.{Bool, not, ◌&&◌, nat_le, List}
use Rattle.std.specs.List.{list_all}
use Rattle.edb_lang.specs.Syntax.{FunctionTree, ModuleTree, more}
use Rattle.edb_small.specs.Conditions.{is_among, are_scoped, differ, names_of, has_function, all_calls_known, all_depth, deepest, defined_once, taken_names}

unfoldable pub function_passes : List FunctionTree → FunctionTree → Bool
function_passes fs f =
    (differ (names_of f.parameters) && are_scoped (names_of f.parameters) (more f.first f.rest))
    && (all_calls_known fs (more f.first f.rest) && nat_le (all_depth (more f.first f.rest)) deepest)

unfoldable pub functions_pass : List FunctionTree → List FunctionTree → Bool
functions_pass all fs = list_all (function_passes all) fs

unfoldable pub exports_pass : ModuleTree → Bool
exports_pass m = list_all (λ e. has_function m.functions e.name e.arity) m.exports

unfoldable pub module_passes : ModuleTree → Bool
module_passes m = (not (is_among m.name taken_names) && exports_pass m) && (defined_once m.functions && functions_pass m.functions m.functions)
