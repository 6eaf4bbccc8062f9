-- What a cursor stands for.

use Rattle.std.specs.Prelude.{◌+◌, ◌≤◌, ◌<◌, List, length}
use Rattle.edb_grammar.specs.Toks.{Place, Tok, places}
use Rattle.edb_parse.specs.declared.cursor.Cursor.{Cursor}
use Rattle.edb_parse.specs.declared.cursor.Place as the

-- the tokens at their places
abbrev pub toks : Cursor → List Tok
toks c = places c.funs c.tokens.now

-- where a token stands, as the grammar has it
abbrev pub at_place : the.Place → Place
at_place p = record { line = p.line; funs = p.funs }

-- the places of the `fun`s among these tokens are numbers of 32 bits
abbrev pub Fits : Cursor → Type 0
Fits c = c.funs + length c.tokens.now ≤ 4_294_967_295

-- what is left of these tokens: fewer
pub record Moves (from to : Cursor) : Type 0 where
  pub fewer : length to.tokens.now < length from.tokens.now
  pub funs : to.funs + length to.tokens.now ≤ from.funs + length from.tokens.now

-- what is left of these tokens, or all of them
pub record Stays (from to : Cursor) : Type 0 where
  pub fewer : length to.tokens.now ≤ length from.tokens.now
  pub funs : to.funs + length to.tokens.now ≤ from.funs + length from.tokens.now
