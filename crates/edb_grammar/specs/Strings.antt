-- Strings: one or more string tokens in a row are one string, of all their characters in order.

use Rattle.std.specs.Prelude.{ℕ, List, [], ◌∷◌, ◌++◌}
use Rattle.edb_scan.specs.declared.lexeme.Token.TheVariants.{Str}
use Rattle.edb_grammar.specs.Toks.{Place, Tok, tok}

pub data ReadsString : List Tok → List ℕ → Type 0 where
  last_string : {s : Place} {cs : List ℕ} → ReadsString (tok s (Str cs) ∷ []) cs
  next_string : {ts : List Tok} {ds : List ℕ} (s : Place) (cs : List ℕ)
      → ReadsString ts ds → ReadsString (tok s (Str cs) ∷ ts) (cs ++ ds)
