-- Tokens that a text may have.

use Rattle.std.proofs.Common.{◌≡◌, ℕ, ◌≤◌, true, List, [], ◌∷◌, ◌++◌, length, refl, sym, ◌∙◌, ap, subst, arith, codes}
use Rattle.std.specs.Prelude.{chars, IsUtf8, encode_utf8_all}
use Rattle.std.specs.Char.{IsScalar}
use Rattle.std.specs.Str.{all_scalars}
use Rattle.std.proofs.lemmas.Bool.{and_from, and_parts}
use Rattle.std.proofs.Math.Utf8.{encode}
use Rattle.std.proofs.lemmas.Str.{chars-encodes}
use lib.Utf8.{scalar, scalars, scalar_cases}
use Rattle.edb_scan.specs.Letters.{is_upper}
use Rattle.edb_scan.specs.Lexis.{IsName}
use Rattle.edb_scan.specs.declared.lexeme.Token.{Token}
use Rattle.edb_scan.specs.declared.lexeme.Token.TheVariants.{Int, Char, Atom, Var, Str}
use Rattle.edb_scan.specs.declared.lexeme.Placed.{Placed}
use Rattle.edb_grammar.specs.Toks.{most_integer}

-- An integer has at most 127 bits, an atom is UTF-8 of at most 255 characters, a variable begins with a capital or
-- `_`, and characters are code points.
abbrev pub Sound : Token → Type 0
Sound (Int n) = n ≤ most_integer
Sound (Char c) = IsScalar c
Sound (Atom a) = IsUtf8 a × (length (chars a) ≤ 255)
Sound (Var x) = IsName is_upper x
Sound (Str cs) = all_scalars cs ≡ true
Sound _ = Unit {0}

abbrev pub AllSound : List Placed → Type 0
AllSound [] = Unit {0}
AllSound (t ∷ ts) = Sound t.token × AllSound ts

-- a character's code point is an integer
pub scalar_small : (c : ℕ) → IsScalar c → c ≤ most_integer
scalar_small c h = let range = scalar_cases c h in grind (arith, range)

pub scalars_append : (cs ds : List ℕ) → all_scalars cs ≡ true → all_scalars ds ≡ true → all_scalars (cs ++ ds) ≡ true
scalars_append [] ds h j = j
scalars_append (c ∷ cs) ds h j =
    let p = and_parts (scalar c) (all_scalars cs) h in and_from (scalar c) (all_scalars (cs ++ ds)) p.0 (scalars_append cs ds p.1 j)

-- the atoms that the layout adds, each of which is its own characters
sound_atom : (a : List ℕ) → scalars a ≡ true → encode_utf8_all a ≡ a → length a ≤ 255 → Sound (Atom a)
sound_atom a s e h =
    let same = sym (ap chars e) ∙ chars-encodes a s in
    ((a, (s, e)), subst (λ (cs : List ℕ). length cs ≤ 255) (sym same) h)

pub sound_throw : Sound (Atom (codes "throw"))
unfolding encode
sound_throw = sound_atom (codes "throw") refl refl (omega arith)

pub sound_export : Sound (Atom (codes "export"))
unfolding encode
sound_export = sound_atom (codes "export") refl refl (omega arith)

pub sound_module : Sound (Atom (codes "module"))
unfolding encode
sound_module = sound_atom (codes "module") refl refl (omega arith)
