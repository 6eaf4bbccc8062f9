use Rattle.std.proofs.Common.{◌≡◌, IfOk, length, ap, sym, subst, ◌∙◌}
use Rattle.edb_moves.specs.Moves.{frame_move}
use Rattle.edb_path.specs.Plans.{effect}
use Rattle.edb_stack.specs.Paths.{frame_of}
use Rattle.edb_stack.specs.Trees.{outward}
use Rattle.edb_stack.specs.Views.{info_of, layer_of}
use Rattle.edb_syntax.specs.Syntax.{catches_of}
use Rattle.edb_variables.specs.PairStacks.{oldest}
use Rattle.edb_fill.proofs.fill.filled_plan.Goals as goal

pub returns-in-Sequence-clause-suits : goal.returns-in-Sequence-clause-suits
returns-in-Sequence-clause-suits c = c.follow.ensures.suits (length (outward (layer_of c.args.layer.now) (info_of c.args.here.now)).bindings)

pub returns-in-Match-clause-suits : goal.returns-in-Match-clause-suits
returns-in-Match-clause-suits c = c.match_value.ensures.suits (length (outward (layer_of c.args.layer.now) (info_of c.args.here.now)).bindings)

pub returns-in-AndThen-clause-suits : goal.returns-in-AndThen-clause-suits
returns-in-AndThen-clause-suits c = c.and_then_plan.ensures.suits (length (outward (layer_of c.args.layer.now) (info_of c.args.here.now)).bindings)

pub returns-in-OrThen-clause-suits : goal.returns-in-OrThen-clause-suits
returns-in-OrThen-clause-suits c = c.or_then_plan.ensures.suits (length (outward (layer_of c.args.layer.now) (info_of c.args.here.now)).bindings)

pub returns-in-Filter-clause-suits : goal.returns-in-Filter-clause-suits
returns-in-Filter-clause-suits c = c.filter.ensures.suits (length (outward (layer_of c.args.layer.now) (info_of c.args.here.now)).bindings)

pub returns-in-Gather-clause-suits : goal.returns-in-Gather-clause-suits
returns-in-Gather-clause-suits c = c.append.ensures.suits (length (outward (layer_of c.args.layer.now) (info_of c.args.here.now)).bindings)

pub returns-in-Resume-clause-suits : goal.returns-in-Resume-clause-suits
returns-in-Resume-clause-suits c = c.end_after.ensures.suits (length (outward (layer_of c.args.layer.now) (info_of c.args.here.now)).bindings)

pub returns-in-Scope-clause-suits : goal.returns-in-Scope-clause-suits
returns-in-Scope-clause-suits c = c.pass.ensures.suits (length (outward (layer_of c.args.layer.now) (info_of c.args.here.now)).bindings)

pub returns-in-Caught-clause-suits : goal.returns-in-Caught-clause-suits
returns-in-Caught-clause-suits c = c.pass-in-Caught.ensures.suits (length (outward (layer_of c.args.layer.now) (info_of c.args.here.now)).bindings)

pub returns-in_ok-copy-in-Waiting-clause-suits : goal.returns-in_ok-copy-in-Waiting-clause-suits
returns-in_ok-copy-in-Waiting-clause-suits c = c.resume.ensures.suits (length (outward (layer_of c.args.layer.now) (info_of c.args.here.now)).bindings)

pub returns-in-Generate-clause-effect : goal.returns-in-Generate-clause-effect
returns-in-Generate-clause-effect c = λ p s.
    let v = c.args.value.now in
    let pairs = c.args.here.now.variables.pairs in
    let same = s.bindings ∙ ap (λ l. (outward (layer_of l) (info_of c.args.here.now)).bindings) c.in-Generate.is in
    subst (λ l. IfOk c.generate.result (λ plan. effect p v plan ≡ frame_move p (frame_of pairs (layer_of l)) v)) (sym c.in-Generate.is) (c.generate.ensures.effect p same)

pub returns-in-Filter-clause-effect : goal.returns-in-Filter-clause-effect
returns-in-Filter-clause-effect c = λ p s.
    let v = c.args.value.now in
    let pairs = c.args.here.now.variables.pairs in
    subst (λ l. IfOk c.filter.result (λ plan. effect p v plan ≡ frame_move p (frame_of pairs (layer_of l)) v)) (sym c.in-Filter.is) (c.filter.ensures.effect p)

pub returns-in-Tried-clause-effect : goal.returns-in-Tried-clause-effect
returns-in-Tried-clause-effect c = λ p s.
    let v = c.args.value.now in
    let pairs = c.args.here.now.variables.pairs in
    let same = s.bindings ∙ ap (λ l. (outward (layer_of l) (info_of c.args.here.now)).bindings) c.in-Tried.is in
    subst (λ l. IfOk c.end_try.result (λ plan. effect p v plan ≡ frame_move p (frame_of pairs (layer_of l)) v)) (sym c.in-Tried.is)
    (c.end_try.ensures.effect p (oldest c.in-Tried.field-0 pairs) (catches_of c.in-Tried.field-2.now) s.process same)
