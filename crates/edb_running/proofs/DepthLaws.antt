-- How many Bodies there are, whatever the bindings, and with layers that add none.

use Rattle.std.proofs.Common.{◌≡◌, List, [], ◌∷◌, ◌++◌, refl, sym, ◌∙◌}
use Rattle.edb_lang.specs.Pairs.{Pairs}
use Rattle.edb_moves.specs.Running.{Info}
use Rattle.edb_stack.specs.Parts.{Layer, operands, frame, scope, caught, tried, waiting, body}
use Rattle.edb_stack.specs.Bodies.{modules_of}
use Rattle.edb_stack.specs.Trees.{outward}
use Rattle.edb_stack.specs.Paths.{OneBody}
use Rattle.edb_stack.specs.Feeding.{operands_layer}
use Rattle.edb_stack.specs.declared.doing.Doing.{Doing}
use Rattle.edb_stack.specs.declared.item.Item.{Item}
use Rattle.edb_syntax.specs.Syntax.{Exp}

pub modules_same : (ls : List Layer) (i : Info) (bs : Pairs) → modules_of ls (record i { bindings = bs }) ≡ modules_of ls i
unfolding modules_of
modules_same [] i bs = refl
modules_same (body o ∷ ls) i bs = refl
modules_same (scope m ∷ ls) i bs = modules_same ls i _ ∙ sym (modules_same ls i _)
modules_same (operands o done rest ∷ ls) i bs = modules_same ls i bs
modules_same (frame f ∷ ls) i bs = modules_same ls i bs
modules_same (caught m ∷ ls) i bs = modules_same ls i bs
modules_same (tried m cs hs ∷ ls) i bs = modules_same ls i bs
modules_same (waiting m s ∷ ls) i bs = modules_same ls i bs

-- LAYERS OF ONE BODY add none
pub modules_behind : (ls fs : List Layer) (i : Info) → OneBody ls → modules_of (ls ++ fs) i ≡ modules_of fs i
unfolding modules_of
modules_behind [] fs i b = refl
modules_behind (body o ∷ ls) fs i b = absurd b
modules_behind (scope m ∷ ls) fs i b = modules_behind ls fs (outward (scope m) i) b ∙ modules_same fs i _
modules_behind (operands o done rest ∷ ls) fs i b = modules_behind ls fs i b
modules_behind (frame f ∷ ls) fs i b = modules_behind ls fs i b
modules_behind (caught m ∷ ls) fs i b = modules_behind ls fs i b
modules_behind (tried m cs hs ∷ ls) fs i b = modules_behind ls fs i b
modules_behind (waiting m s ∷ ls) fs i b = modules_behind ls fs i b

pub modules_on : (o : Doing × List Item × List Exp) (ls : List Layer) (i : Info) → modules_of ls i ≡ modules_of (operands_layer o ∷ ls) i
unfolding modules_of
modules_on o ls i = refl
