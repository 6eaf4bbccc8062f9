use Rattle.edb_parse.specs.Cursors.{toks}
use Rattle.edb_parse.proofs.FormTies.{function_named}
use Rattle.edb_parse.proofs.functions.function.Goals as goal

pub returns-in-Atom : goal.returns-in-Atom
returns-in-Atom c = rw (function_named _ c.in_ok-place.token.now c.in-Atom.name _ (toks c.args.tokens) c.in_ok-place.ensures.first c.in-Atom.is) c.named_function.ensures
