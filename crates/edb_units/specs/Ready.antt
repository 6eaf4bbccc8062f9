-- What is kept beside a module: its functions and exports by name and arity, and its fun forms by their places.

use Rattle.std.specs.Prelude.{List}
use Rattle.std.specs.Ordering.{nat_cmp}
use Rattle.edb_syntax.specs.declared.modules.Export.{Export}
use Rattle.edb_syntax.specs.FunForms.{Form, forms as forms_of, place_of}
use Rattle.edb_syntax.specs.Syntax.{FunctionTree, ModuleTree}
use Rattle.edb_units.specs.Keys.{signature_cmp, function_key, export_key}
use Rattle.edb_units.specs.Orders.{IsInOrder}

pub record IsReady (tree : ModuleTree) (functions : List FunctionTree) (exports : List Export) (forms : List Form) : Type 0 where
  pub functions_found : IsInOrder signature_cmp function_key tree.functions functions
  pub exports_found : IsInOrder signature_cmp export_key tree.exports exports
  pub forms_found : IsInOrder nat_cmp place_of (forms_of tree) forms
