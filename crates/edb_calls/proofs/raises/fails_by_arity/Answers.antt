use Rattle.std.proofs.Common.{map}
use Rattle.edb_lang.specs.ListTerms.{list_of}
use Rattle.edb_lang.specs.Terms.{nil}
use Rattle.edb_pure.specs.Lists.{pair}
use Rattle.edb_calls.proofs.raises.fails_by_arity.Goals as goal

pub returns-clause-effect : goal.returns-clause-effect
returns-clause-effect c p v = c.fails_with.ensures.effect p v (pair c.args.fun.now (list_of (map (λ t. t.now) c.args.args.now) nil)) c.in_ok-call.ensures
