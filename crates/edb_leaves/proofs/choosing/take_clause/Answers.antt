use Rattle.std.proofs.Common.{[], Some, None, map, length, ap, sym, ◌∙◌}
use Rattle.std.specs.Option.{option_map}
use Rattle.edb_guards.specs.Choices.{choice_of}
use Rattle.edb_match.specs.Newest as match
use Rattle.edb_syntax.specs.Syntax.{clauses_of}
use Rattle.edb_leaves.proofs.ClauseLaws.{clause_taken}
use Rattle.edb_leaves.proofs.choosing.take_clause.Goals as goal

pub returns-in-Some-clause-effect : goal.returns-in-Some-clause-effect
returns-in-Some-clause-effect c = λ p v none em eb.
    let found = sym (ap (option_map (choice_of (match.newest_first c.pairs.result.now []))) c.in-Some.is) ∙ c.in_ok-choice.ensures in
    c.begin_clause.ensures.effect p v
    ∙ clause_taken p c.args.me c.args.variables.now.pairs c.pairs.result.now (clauses_of c.args.clauses.now) (map (λ t. t.now) c.args.arguments.now) (Some c.in-Some.choice) none em eb c.pairs.ensures found

pub returns-in-Some-clause-suits : goal.returns-in-Some-clause-suits
returns-in-Some-clause-suits c = c.begin_clause.ensures.suits (length c.args.variables.now.pairs)

pub returns-in-None-clause-effect : goal.returns-in-None-clause-effect
returns-in-None-clause-effect c = λ p v none em eb.
    let found = sym (ap (option_map (choice_of (match.newest_first c.pairs.result.now []))) c.in-None.is) ∙ c.in_ok-choice.ensures in
    clause_taken p c.args.me c.args.variables.now.pairs c.pairs.result.now (clauses_of c.args.clauses.now) (map (λ t. t.now) c.args.arguments.now) None none em eb c.pairs.ensures found
