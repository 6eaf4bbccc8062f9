use Rattle.std.proofs.Common.{sym, ap, ◌∙◌, ◌+◌, option_map}
use Rattle.edb_table.proofs.Indexes.{indexed, in_erlang, in_int, in_io, in_lists, in_none}
use Rattle.edb_table.proofs.built_ins.find_built_in.Goals as goal

pub returns-in-erlang : goal.returns-in-erlang
returns-in-erlang c = indexed _ _ (c.find_erlang.ensures.place ∙ sym (in_erlang c.args.module.now (c.args.name.now, c.args.arity) c.in-erlang.is))

pub returns-in-int : goal.returns-in-int
returns-in-int c = indexed _ _ (c.behind.ensures ∙ ap (option_map (λ at. 50 + at)) c.find_int.ensures.place ∙ sym (in_int c.args.module.now (c.args.name.now, c.args.arity) c.in-int.is))

pub returns-in-io : goal.returns-in-io
returns-in-io c = indexed _ _ (c.behind-in-io.ensures ∙ ap (option_map (λ at. 51 + at)) c.find_io.ensures.place ∙ sym (in_io c.args.module.now (c.args.name.now, c.args.arity) c.in-io.is))

pub returns-in-lists : goal.returns-in-lists
returns-in-lists c = indexed _ _ (c.behind-in-lists.ensures ∙ ap (option_map (λ at. 53 + at)) c.find_lists.ensures.place ∙ sym (in_lists c.args.module.now (c.args.name.now, c.args.arity) c.in-lists.is))

pub returns-in_default : goal.returns-in_default
returns-in_default c = indexed _ _ (sym (in_none c.args.module.now (c.args.name.now, c.args.arity) c.in_default.not-erlang c.in_default.not-int c.in_default.not-io c.in_default.not-lists))
