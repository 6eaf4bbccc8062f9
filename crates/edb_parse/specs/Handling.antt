-- The parts of a clause behind `catch`.

use Rattle.std.specs.Prelude.{◌≡◌, ℕ, List, length, Option, None, Some, MatchOption, codes}
use Rattle.edb_scan.specs.declared.lexeme.Mark.TheVariants as mark
use Rattle.edb_syntax.specs.Patterns as pattern
use Rattle.edb_syntax.specs.Patterns.{Pat, pattern_line}
use Rattle.edb_syntax.specs.Syntax.{CatchTree, Catches, no_catches, more_catches}
use Rattle.edb_grammar.specs.Toks.{Tok}
use Rattle.edb_grammar.specs.Reading.{Read, behind, items, onward, made, fork}
use Rattle.edb_grammar.specs.PatternReading.{read_pat}
use Rattle.edb_grammar.specs.ExpressionReading.{read_stack, read_rest, read_handler, catch_of}
use Rattle.edb_parse.specs.declared.cursor.Cursor.{Cursor}
use Rattle.edb_parse.specs.Cursors.{toks}
use Rattle.edb_parse.specs.Descent.{part}

-- something stands first, and this is what is behind it; or nothing does
abbrev pub Tries : {A : Type 0} → Option (A × Cursor) → Option (A × List Tok) → Type 0
Tries found read = MatchOption found (read ≡ None) (λ x. read ≡ Some (x.0, toks x.1))

abbrev pub handlers_at : ℕ → ℕ → Read Catches
handlers_at n m ts = items more_catches no_catches mark.Semicolon (read_handler n (part n m)) (length ts) ts

-- behind a class
abbrev pub classed_at : ℕ → ℕ → Pat → Read CatchTree
classed_at n m c us =
    onward (read_pat n us) (λ p vs.
    fork (behind mark.Colon vs)
    (λ ws. onward (read_stack ws) (λ v xs. made (catch_of c p (Some v)) (read_rest (part n m) xs)))
    (λ ws. made (catch_of c p None) (read_rest (part n m) ws)) vs)

-- without one
abbrev pub thrown_at : ℕ → ℕ → Read CatchTree
thrown_at n m us =
    onward (read_pat n us) (λ p vs. made (catch_of (pattern.atom (pattern_line p) (codes "throw")) p None) (read_rest (part n m) vs))
