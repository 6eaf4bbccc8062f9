-- The parts that contracts see, by the types of src/.

use Rattle.std.specs.Prelude.{List, map, codes, unwrap_or}
use Rattle.std.specs.Option.{option_map}
use Rattle.edb_lang.specs.Terms as term
use Rattle.edb_lang.specs.Terms.{Datum}
use Rattle.edb_syntax.specs.Syntax.{Exp, exps_of, clauses_of, catches_of, qualifiers_of, sequence}
use Rattle.edb_syntax.specs.Views.{after_of}
use Rattle.edb_syntax.specs.declared.operation.Operation.TheVariants as operation
use Rattle.edb_moves.specs.Running as run
use Rattle.edb_moves.specs.Running.{Info, value_of, running}
use Rattle.edb_stack.specs.Parts as parts
use Rattle.edb_stack.specs.declared.item.Item.{Item}
use Rattle.edb_stack.specs.declared.item.Item.TheVariants as item
use Rattle.edb_stack.specs.declared.doing.Doing.{Doing}
use Rattle.edb_stack.specs.declared.doing.Doing.TheVariants as doing
use Rattle.edb_stack.specs.declared.body.Body.{Body}
use Rattle.edb_stack.specs.declared.layer.Outcome.{Outcome}
use Rattle.edb_stack.specs.declared.layer.Outcome.TheVariants as outcome
use Rattle.edb_stack.specs.declared.layer.Drawing.{Drawing}
use Rattle.edb_stack.specs.declared.layer.Layer.{Layer}
use Rattle.edb_stack.specs.declared.layer.Layer.TheVariants as layer
use Rattle.edb_stack.specs.declared.redex.Leaf.{Leaf}
use Rattle.edb_stack.specs.declared.redex.Leaf.TheVariants as leaf

-- the value that an integer or an atom is
abbrev pub literal : Exp → Datum
literal e = unwrap_or (value_of (running e)) term.nil

abbrev pub item_of : Item → parts.Item
item_of (item.Value v) = parts.held v
item_of (item.Placed k) = parts.placed k
item_of (item.Literal e) = parts.held (literal e.now)

abbrev pub doing_of : Doing → run.Doing
doing_of doing.Tuple = run.written operation.Tuple
doing_of doing.List = run.written operation.List
doing_of doing.ListWithTail = run.written operation.ListWithTail
doing_of (doing.Unary o) = run.written (operation.Unary o)
doing_of (doing.Binary o) = run.written (operation.Binary o)
doing_of (doing.LocalCall f) = run.written (operation.LocalCall f.now)
doing_of (doing.CallIn x k f) = run.call_in x.now k f.now
doing_of doing.RemoteCall = run.written operation.RemoteCall
doing_of doing.FunCall = run.written operation.FunCall

-- the name of a Body's function; a fun has the name `fun`
abbrev pub info_of : Body → Info
info_of b =
    record {
      home = b.unit.now;
      version = b.version;
      name = unwrap_or (option_map (λ f. f.now) b.name) (codes "fun");
      arity = b.arity;
      level = b.level;
      bindings = b.variables.pairs;
    }

abbrev pub outcome_of : Outcome → run.Outcome
outcome_of (outcome.Gave v) = run.gave v
outcome_of (outcome.Threw r) = run.threw r.class r.reason

abbrev pub drawing_of : Drawing → run.Drawing
drawing_of d = record { gathered = d.gathered.items; pattern = d.pattern.now; element = d.element.now; rest = qualifiers_of d.rest.now }

abbrev pub layer_of : Layer → parts.Layer
layer_of (layer.Operands o) = parts.operands (doing_of o.0) (map item_of o.1) (exps_of o.2)
layer_of (layer.Sequence l es) = parts.frame (run.sequence l (exps_of es.now))
layer_of (layer.Match q) = parts.frame (run.match q.now)
layer_of (layer.Select cs) = parts.frame (run.select (clauses_of cs.now))
layer_of (layer.AndThen e) = parts.frame (run.and_then e.now)
layer_of (layer.OrThen e) = parts.frame (run.or_then e.now)
layer_of (layer.Generate q e qs) = parts.frame (run.generate q.now e.now (qualifiers_of qs.now))
layer_of (layer.Filter e qs) = parts.frame (run.filter e.now (qualifiers_of qs.now))
layer_of (layer.Gather d v) = parts.frame (run.gather (drawing_of d) v)
layer_of (layer.Resume o) = parts.frame (run.resume (outcome_of o))
layer_of (layer.Scope m) = parts.scope m
layer_of (layer.Caught m) = parts.caught m
layer_of (layer.Tried m cs hs) = parts.tried m (clauses_of cs.now) (catches_of hs.now)
layer_of (layer.Waiting m s) = parts.waiting m s.now
layer_of (layer.Body b) = parts.body (info_of b)

-- layers, the innermost first
abbrev pub layers_of : List Layer → List parts.Layer
layers_of ls = map layer_of ls

abbrev pub leaf_of : Leaf → run.Leaf
leaf_of (leaf.Text s) = run.string s.now
leaf_of (leaf.Variable x) = run.variable x.now
leaf_of (leaf.Unbegun e es) = run.unbegun (sequence e.now (exps_of es.now))
leaf_of (leaf.Conditions cs) = run.conditions (clauses_of cs.now)
leaf_of (leaf.Making i n) = run.making i n
leaf_of (leaf.MakingLocal i n) = run.making_local i n
leaf_of (leaf.MakingRemote m f n) = run.making_remote m.now f.now n
leaf_of (leaf.Catching e) = run.catching e.now
leaf_of (leaf.Trying s cs hs a) = run.trying s.now (clauses_of cs.now) (catches_of hs.now) (after_of a.now)
leaf_of (leaf.Failed r s) = run.failed r.class r.reason s.now
leaf_of (leaf.Comprehension e qs) = run.comprehension e.now (qualifiers_of qs.now)
leaf_of (leaf.Collecting e) = run.collecting e.now
leaf_of (leaf.Drawing d v) = run.drawing (drawing_of d) v
leaf_of (leaf.Missing k) = run.missing k
