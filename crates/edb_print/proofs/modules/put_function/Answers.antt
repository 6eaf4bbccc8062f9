use Rattle.std.proofs.Common.{rules, ◌≡◌, ◌++◌, eqb, false, length}
use Rattle.edb_scan.specs.declared.lexeme.Token.TheVariants as token
use Rattle.edb_syntax.specs.Syntax.{clauses_of}
use Rattle.edb_print.specs.Pieces.{tight, line, piece, piece_text, bytes_of}
use Rattle.edb_print.specs.Layout.{with_name, lay_clauses, lay_function}
use Rattle.edb_print.proofs.Laid.{ends2, function_text}
use Rattle.edb_print.proofs.modules.put_function.Goals as goal

pub returns : goal.returns
returns c =
    let some : eqb (length c.function.inside.clauses.items) 0 ≡ false = search rules in
    let view : c.args.function.now.clauses ≡ clauses_of c.function.inside.clauses.items = search rules in
    let clauses = bytes_of (lay_clauses (with_name c.args.function.now.name) (line 0) 0 0 c.args.function.now.clauses) in
    let put : c.put_named_clauses.new.out.items ≡ c.args.out.now.items ++ clauses = search rules in
    ends2 c.put_dot.result c.args.out.now.items c.put_named_clauses.new.out.items c.put_dot.new.out.items clauses
    (piece_text (piece tight token.Dot)) (bytes_of (lay_function c.args.function.now)) put
    (function_text c.args.function.now c.function.inside.clauses.items view some) c.put_dot.ensures
