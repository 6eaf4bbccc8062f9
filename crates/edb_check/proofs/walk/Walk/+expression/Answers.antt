-- What is left of the walk: the steps of its loops, and the parts of what has several.

use Rattle.std.proofs.Common.{◌≡◌, ◌+◌, ◌++◌, ◌||◌, [], ◌∷◌, None, refl, sym, ap, subst, ◌∙◌, arith, drop, length}
use Rattle.std.specs.Prelude.{fold}
use Rattle.std.proofs.lemmas.List.{append-nil, length-append, drop-append-le}
use Rattle.edb_syntax.specs.Syntax.{exps_of, guards_of, clauses_of, catches_of}
use Rattle.edb_syntax.specs.Views.{after_of}
use Rattle.edb_check.specs.Scopes.{join}
use Rattle.edb_check.specs.Binds.{sequence_binds, ways, catch_ways, clause_binds, catch_binds}
use Rattle.edb_check.specs.Names.{sequence_names, clauses_names, operands}
use Rattle.edb_check.specs.Rules.{sequence_faults, clauses_faults}
use Rattle.edb_check.specs.Joins.{with_way, or_none}
use Rattle.edb_check.specs.Parts.{head_part, expression_part, operands_part, sequence_part, test_part, tests_part, guard_part, clause_part, clauses_part, inner_part, heads_part, catch_part, catches_part, qualifier_part, qualifiers_part}
use Rattle.edb_check.specs.Walking.{Walks, part, followed_by}
use Rattle.edb_check.proofs.Items.{exp_within, clause_within, catch_within, qualifier_within}
use Rattle.edb_check.proofs.Going.{goes_on, item_first}
use Rattle.edb_check.proofs.Composing.{walks_as, walks_then, nothing_since, goes_by}
use Rattle.edb_check.proofs.Clashes.{clash, clash_all, clash_step}
use Rattle.edb_check.proofs.Joining.{join_is, join_more, attempted, comprehended, tested, either_sides}
use Rattle.edb_check.proofs.walk.Walk.+expression.Goals as goal

pub exprs-expr-requires : goal.exprs-expr-requires
exprs-expr-requires t c = (omega (arith, exp_within c.args.exprs.now c.loop-expr.expr-index c.expr-item.result (omega arith) c.expr-item.is), tt)

pub exprs-loop-expr-preserved : goal.exprs-loop-expr-preserved
exprs-loop-expr-preserved t c =
    goes_on (λ bs es. operands_part c.args.known.now bs es) (expression_part c.args.known.now c.loop-expr.self.scope c.expr-item.result) c.args.exprs.now c.loop-expr.expr-index c.expr-item.result
    c.expr-item.is (omega arith) c.in_ok-expr.ensures refl c.loop-expr.invariant

pub operands-operand-requires : goal.operands-operand-requires
operands-operand-requires t c = (
  omega (arith, exp_within c.args.operands.now c.loop-operand.operand-index c.operand-item.result (omega arith) c.operand-item.is),
  (c.loop-operand.invariant.within, c.loop-operand.invariant.names_within),
)

pub operands-loop-operand-init : goal.operands-loop-operand-init
operands-loop-operand-init t c =
    let old = c.args.self.now in
    let ops = operands old.scope (exps_of c.args.operands.now) in
    record {
      within = omega (arith, c.mark-start.ensures);
      names_within = omega (arith, c.mark-names_start.ensures);
      goes = record { scope = refl; names = refl; first = refl };
      shared = (λ i. clash (nothing_since old.scope c.mark-start.result c.mark-start.ensures i) (nothing_since old.names c.mark-names_start.result c.mark-names_start.ensures i) ops) ∙ clash_all ops;
    }

pub operands-loop-operand-preserved : goal.operands-loop-operand-preserved
operands-loop-operand-preserved t c =
    let keys = c.args.known.now in
    let now = c.loop-operand.self in
    let next = c.operand.new.self in
    let i = c.loop-operand.operand-index in
    let es = c.args.operands.now in
    let e = c.operand-item.result in
    let rest = drop (i + 1) es in
    let s = c.mark-start.result in
    let n = c.mark-names_start.result in
    let one = expression_part keys now.scope e in
    let w : Walks now next one = c.in_ok-shares.ensures.walks in
    let step = clash_step keys now next e rest s n c.loop-operand.shared c.in_ok-shares.shares w c.loop-operand.invariant.within c.loop-operand.invariant.names_within c.in_ok-shares.ensures.shares in
    record {
      within = omega (arith, ap length w.scope, length-append now.scope one.binds, c.loop-operand.invariant.within);
      names_within = omega (arith, ap length w.names, length-append now.names one.names, c.loop-operand.invariant.names_within);
      goes = goes_on (λ bs es. operands_part keys bs es) one es i e c.operand-item.is (omega arith) w refl c.loop-operand.invariant.goes;
      shared =
          ap (λ b. b || clash (drop s next.scope) (drop n next.names) (operands next.scope (exps_of rest))) c.one_of-shared.ensures
          ∙ sym step
          ∙ ap (λ ds. c.loop-operand.shared || clash (drop s now.scope) (drop n now.names) (operands now.scope (exps_of ds))) (sym (item_first es i e c.operand-item.is (omega arith)))
          ∙ c.loop-operand.invariant.shared;
    }

pub alternative-loop-test-preserved : goal.alternative-loop-test-preserved
alternative-loop-test-preserved t c =
    goes_by (λ bs es. tests_part c.args.known.now bs (exps_of es)) (test_part c.args.known.now c.loop-test.self.scope c.test-item.result) c.deref-test-items.result.now c.loop-test.test-index c.test-item.result
    c.test-item.is (omega arith) c.in_ok-test.ensures refl refl c.loop-test.invariant

pub guard-loop-alternative-preserved : goal.guard-loop-alternative-preserved
guard-loop-alternative-preserved t c =
    let bs = c.loop-alternative.self.scope in
    let es = c.alternative-item.result in
    goes_by (λ bs gs. guard_part c.args.known.now bs (guards_of gs)) (tests_part c.args.known.now bs es) c.deref-alternative-items.result.now c.loop-alternative.alternative-index es
    c.alternative-item.is (omega arith) c.in_ok-alternative.ensures refl refl c.loop-alternative.invariant

pub test-returns : goal.test-returns
test-returns t c =
    subst (λ e. Walks c.args.self.now c.leave.new.self (test_part c.args.known.now c.args.self.now.scope e)) c.test.view_is
    (tested c.args.known.now c.test.inside.expr c.mark-mark.result c.mark-names_mark.result c.mark-mark.ensures c.mark-names_mark.ensures c.in_ok-expr.ensures c.misplaced.ensures
    c.in_ok-hide.ensures.scope c.in_ok-hide.ensures.names c.in_ok-hide.ensures.first c.leave.ensures.scope c.leave.ensures.names c.leave.ensures.first)

pub heads-head-requires : goal.heads-head-requires
heads-head-requires t c = (omega (arith, clause_within c.args.clauses.now c.loop-clause.clause-index c.clause-item.result (omega arith) c.clause-item.is), tt)

pub heads-loop-clause-preserved : goal.heads-loop-clause-preserved
heads-loop-clause-preserved t c =
    let bs = c.loop-clause.self.scope in
    let one = head_part c.args.known.now bs c.clause-item.result in
    goes_by (λ bs cs. heads_part c.args.known.now bs cs) one c.args.clauses.now c.loop-clause.clause-index c.clause-item.result
    c.clause-item.is (omega arith) c.in_ok-head.ensures refl refl c.loop-clause.invariant

pub ways-way-requires : goal.ways-way-requires
ways-way-requires t c = (omega (arith, clause_within c.args.clauses.now c.loop-clause.clause-index c.clause-item.result (omega arith) c.clause-item.is), tt)

pub ways-loop-clause-preserved : goal.ways-loop-clause-preserved
ways-loop-clause-preserved t c =
    let bs = c.loop-clause.self.scope in
    let one = inner_part (clause_part c.args.known.now bs bs c.clause-item.result) in
    let w : Walks c.loop-clause.self c.way.new.self one = c.in_ok-way.ensures.walks in
    let old = c.args.self.now.scope in
    let rest = drop (c.loop-clause.clause-index + 1) c.args.clauses.now in
    record {
      scope = w.scope ∙ append-nil bs ∙ c.loop-clause.invariant.scope;
      goes = goes_by (λ bs cs. clauses_part c.args.known.now bs cs) one c.args.clauses.now c.loop-clause.clause-index c.clause-item.result
          c.clause-item.is (omega arith) w refl refl c.loop-clause.invariant.goes;
      joined =
          ap (λ o. fold with_way o (ways old (clauses_of rest))) (c.in_ok-joined.ensures ∙ ap (with_way c.loop-clause.joined) (c.in_ok-way.ensures.binds ∙ ap (λ z. clause_binds z z c.clause-item.result) c.loop-clause.invariant.scope))
          ∙ ap (λ cs. fold with_way c.loop-clause.joined (ways old (clauses_of cs))) (sym (item_first c.args.clauses.now c.loop-clause.clause-index c.clause-item.result c.clause-item.is (omega arith)))
          ∙ c.loop-clause.invariant.joined;
    }

pub catch_ways-catch_way-requires : goal.catch_ways-catch_way-requires
catch_ways-catch_way-requires t c = (omega (arith, catch_within c.args.clauses.now c.loop-clause.clause-index c.clause-item.result (omega arith) c.clause-item.is), tt)

pub catch_ways-loop-clause-preserved : goal.catch_ways-loop-clause-preserved
catch_ways-loop-clause-preserved t c =
    let bs = c.loop-clause.self.scope in
    let one = inner_part (catch_part c.args.known.now bs c.clause-item.result) in
    let w : Walks c.loop-clause.self c.catch_way.new.self one = c.in_ok-way.ensures.walks in
    let old = c.args.self.now.scope in
    let rest = drop (c.loop-clause.clause-index + 1) c.args.clauses.now in
    record {
      scope = w.scope ∙ append-nil bs ∙ c.loop-clause.invariant.scope;
      goes = goes_by (λ bs cs. catches_part c.args.known.now bs cs) one c.args.clauses.now c.loop-clause.clause-index c.clause-item.result
          c.clause-item.is (omega arith) w refl refl c.loop-clause.invariant.goes;
      joined =
          ap (λ o. fold with_way o (catch_ways old (catches_of rest))) (c.in_ok-joined.ensures ∙ ap (with_way c.loop-clause.joined) (c.in_ok-way.ensures.binds ∙ ap (λ z. catch_binds z c.clause-item.result) c.loop-clause.invariant.scope))
          ∙ ap (λ cs. fold with_way c.loop-clause.joined (catch_ways old (catches_of cs))) (sym (item_first c.args.clauses.now c.loop-clause.clause-index c.clause-item.result c.clause-item.is (omega arith)))
          ∙ c.loop-clause.invariant.joined;
    }

pub qualifiers-qualifier-requires : goal.qualifiers-qualifier-requires
qualifiers-qualifier-requires t c =
    (omega (arith, qualifier_within c.args.qualifiers.now c.loop-qualifier.qualifier-index c.qualifier-item.result (omega arith) c.qualifier-item.is), c.loop-qualifier.invariant.within)

pub qualifiers-loop-qualifier-preserved : goal.qualifiers-loop-qualifier-preserved
qualifiers-loop-qualifier-preserved t c =
    let m = c.args.start in
    let now = c.loop-qualifier.self in
    let one = qualifier_part c.args.known.now now.scope (drop m now.scope) c.qualifier-item.result in
    let w : Walks now c.qualifier.new.self one = c.in_ok-qualifier.ensures in
    let rest = drop (c.loop-qualifier.qualifier-index + 1) c.args.qualifiers.now in
    let own = sym (drop-append-le m now.scope one.binds c.loop-qualifier.invariant.within) in
    record {
      within = omega (arith, ap length w.scope, length-append now.scope one.binds, c.loop-qualifier.invariant.within);
      goes = goes_on (λ bs qs. qualifiers_part c.args.known.now bs (drop m bs) qs) one c.args.qualifiers.now c.loop-qualifier.qualifier-index c.qualifier-item.result
          c.qualifier-item.is (omega arith) w (ap (λ z. followed_by one (qualifiers_part c.args.known.now (now.scope ++ one.binds) z rest)) own) c.loop-qualifier.invariant.goes;
    }

pub comprehension-returns : goal.comprehension-returns
comprehension-returns t c =
    comprehended c.args.known.now c.args.value.now c.args.qualifiers.now c.mark-start.result c.mark-start.ensures c.in_ok-qualifiers.ensures c.in_ok-local.ensures
    c.leave.ensures.scope c.leave.ensures.names c.leave.ensures.first

pub either-returns : goal.either-returns
either-returns t c =
    either_sides c.args.known.now c.args.line c.args.left.now c.args.right.now c.in_ok-shares.shares c.mark-start.result c.mark-names_start.result c.mark-mark.result
    c.mark-start.ensures c.mark-names_start.ensures c.mark-mark.ensures c.in_ok-expr.ensures c.in_ok-shares.ensures.walks c.in_ok-shares.ensures.shares
    c.weaken.ensures.scope c.weaken.ensures.names c.weaken.ensures.first c.report_if.ensures

pub choice-returns : goal.choice-returns
choice-returns t c =
    let keys = c.args.known.now in
    let bs = c.args.self.now.scope in
    let cs = clauses_of c.args.clauses.now in
    let joined : or_none c.in_ok-joined.joined ≡ join (ways bs cs) = ap or_none c.in_ok-joined.ensures.binds ∙ join_is (ways bs cs) in
    walks_as (λ i. part (join (ways bs cs)) (append-nil (clauses_names bs cs) i) (append-nil (clauses_faults keys bs cs) i))
    (walks_then c.in_ok-joined.ensures.walks (subst (λ z. Walks c.ways.new.self c.add.new.self (part z [] [])) joined c.in_ok-add.ensures))

pub timed_choice-returns : goal.timed_choice-returns
timed_choice-returns t c =
    let keys = c.args.known.now in
    let old = c.args.self.now in
    let s = c.args.body.now in
    let ws = ways old.scope (clauses_of c.args.clauses.now) in
    let w : Walks old c.ways.new.self (clauses_part keys old.scope c.args.clauses.now) = c.in_ok-joined.ensures.walks in
    let same : c.ways.new.self.scope ≡ old.scope = w.scope ∙ append-nil old.scope in
    let way_is : c.in_ok-way.way ≡ sequence_binds old.scope s = c.in_ok-way.ensures.binds ∙ ap (λ z. sequence_binds z s) same in
    let joined : or_none c.in_ok-joined-2.joined ≡ join (ws ++ sequence_binds old.scope s ∷ []) =
    ap or_none (c.in_ok-joined-2.ensures ∙ ap (λ o. with_way o c.in_ok-way.way) c.in_ok-joined.ensures.binds ∙ ap (with_way (fold with_way None ws)) way_is) ∙ join_more ws (sequence_binds old.scope s) in
    let cs = clauses_of c.args.clauses.now in
    walks_as
    (λ i. part (join (ws ++ sequence_binds old.scope s ∷ [])) (append-nil (clauses_names old.scope cs ++ sequence_names old.scope s) i)
    (append-nil (clauses_faults keys old.scope cs ++ sequence_faults keys old.scope s) i))
    (walks_then
    (walks_then w (subst (λ z. Walks c.ways.new.self c.aside.new.self (inner_part (sequence_part keys z s))) same c.in_ok-way.ensures.walks))
    (subst (λ z. Walks c.aside.new.self c.add.new.self (part z [] [])) joined c.in_ok-add.ensures))

pub attempt-returns : goal.attempt-returns
attempt-returns t c =
    attempted c.args.known.now c.args.body.now c.args.of.now c.args.catches.now (after_of c.args.after.now) c.in_ok-of_ways.of_ways c.in_ok-catch_ways.catch_ways
    c.mark-mark.result c.mark-mark.ensures c.in_ok-sequence.ensures c.in_ok-of_ways.ensures.walks c.in_ok-of_ways.ensures.binds
    c.weaken.ensures.scope c.weaken.ensures.names c.weaken.ensures.first c.in_ok-catch_ways.ensures.walks c.in_ok-catch_ways.ensures.binds
    c.in_ok-add_partly.ensures c.in_ok-add_partly-2.ensures c.in_ok-after.ensures
