use Rattle.std.proofs.Common.{[], ◌∷◌, Some, None}
use Rattle.std.proofs.lemmas.Bool.Decides.{Decides-eqb}
use Rattle.std.proofs.lemmas.Slice.Eq.{strip_prefix_is}
use Rattle.edb_scan.proofs.EscapeLemmas.{escape_found, nothing_escaped, nothing_written}
use Rattle.edb_scan.proofs.quotes.written.Goals as goal

pub returns-in-Some-escape : goal.returns-in-Some-escape
returns-in-Some-escape c =
    escape_found c.args.quote c.args.bytes.now c.in-Some.rest.now c.in-Some-escape.after.now c.in-Some-escape.ensures.0 c.in-Some-escape.c
    (strip_prefix_is Decides-eqb c.args.bytes.now (92 ∷ []) (Some c.in-Some.rest) c.in-Some.ensures.cases) c.in-Some-escape.ensures.1 c.in-Some-escape.ensures.2

pub returns-in-None-escape : goal.returns-in-None-escape
returns-in-None-escape c =
    nothing_escaped c.args.quote c.args.bytes.now c.in-Some.rest.now
    (strip_prefix_is Decides-eqb c.args.bytes.now (92 ∷ []) (Some c.in-Some.rest) c.in-Some.ensures.cases) c.in-None-escape.ensures

pub returns-in-None-plain : goal.returns-in-None-plain
returns-in-None-plain c =
    nothing_written c.args.quote c.args.bytes.now (strip_prefix_is Decides-eqb c.args.bytes.now (92 ∷ []) None c.in-None.ensures.cases) c.in-None-plain.ensures
