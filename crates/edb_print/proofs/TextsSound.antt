-- The tokens into which a text parts are ones that a text may have.

use Rattle.std.proofs.Common.{◌≡◌, ℕ, ◌<◌, true, List, [], ◌∷◌, IsUtf8, Bool, Option, Some, None, inl, inr, refl, sym, subst, arith}
use Rattle.std.specs.Char.{IsScalar}
use Rattle.std.specs.Str.{all_scalars}
use Rattle.std.proofs.lemmas.Bool.{and_from}
use Rattle.std.proofs.lemmas.Bool.Decides.{nat_tests}
use Rattle.std.proofs.lemmas.Str.{IsUtf8-from_ascii}
use lib.Utf8.{scalar, low_scalar}
use Rattle.edb_scan.specs.declared.lexeme.Token.{Token}
use Rattle.edb_scan.specs.declared.lexeme.Token.TheVariants as token
use Rattle.edb_scan.specs.declared.lexeme.Token.TheVariants.{Int, Float, Char, Atom, Var, Str, Dot}
use Rattle.edb_scan.specs.declared.lexeme.Placed.{Placed}
use Rattle.edb_scan.specs.Letters.{is_lower, is_upper, is_name_char}
use Rattle.edb_scan.specs.Quotation.{escaped, Writes, Quotes}
use Rattle.edb_scan.specs.Lexis.{IsName, Spells, Fits}
use Rattle.edb_scan.specs.Parting.{Parted, at_end, at_fault, next_piece, placed, AreTokens}
use Rattle.edb_scan.proofs.NameLemmas.{name_ascii}
use Rattle.edb_syntax.specs.Syntax.{ModuleTree}
use Rattle.edb_grammar.specs.Files.{ReadsFile}
use Rattle.edb_print.proofs.SoundTokens.{Sound, AllSound}
use Rattle.edb_print.proofs.FilesAgain.{ReadAgain, written_reads}

-- what is written is a character
escape_low : (letter c : ℕ) → escaped letter ≡ Some c → c < 128
escape_low letter c e = grind (arith, nat_tests)

writes_scalar : (q : ℕ) (one : List ℕ) (c : ℕ) → Writes q one c → IsScalar c
writes_scalar q one c (inl h) = h.scalar
writes_scalar q one c (inr (inl h)) = let low = escape_low h.letter c h.value in low_scalar c (omega arith)
writes_scalar q one c (inr (inr h)) = let high = h.high_digit in let low = h.low_digit in let value = h.value in low_scalar c (omega arith)

quotes_scalars : (q : ℕ) (inner cs : List ℕ) → Quotes q inner cs → all_scalars cs ≡ true
quotes_scalars q inner [] h = refl
quotes_scalars q inner (c ∷ cs) (one, rest, cut, writes, quotes) =
    and_from (scalar c) (all_scalars cs) (writes_scalar q one c writes) (quotes_scalars q rest cs quotes)

-- a bare atom is ASCII
lower_is_name : (c : ℕ) → is_lower c ≡ true → is_name_char c ≡ true
lower_is_name c h = rw h refl

spelled_sound : (t : Token) (text after : List ℕ) → Spells text after (Some t) → Fits (Some t) → Sound t
spelled_sound (Int n) text after s f = omega (arith, f)
spelled_sound Float text after s f = tt
spelled_sound (Char c) text after s f = writes_scalar _ s.one c s.writes
spelled_sound (Atom a) [] after (inl s) f = absurd s.1
spelled_sound (Atom a) (c ∷ text) after (inl s) f = (
  subst (λ (b : List ℕ). IsUtf8 b) (sym s.0)
      (IsUtf8-from_ascii (c ∷ text) (name_ascii (c ∷ text) (and_from (is_name_char c) _ (lower_is_name c s.1.0) s.1.1))),
  f,
)
spelled_sound (Atom a) text after (inr s) f = ((s.characters, (quotes_scalars 39 s.quoted.inner s.characters s.quoted.quotes, sym s.named)), f)
spelled_sound (Var x) text after s f = subst (λ (b : List ℕ). IsName is_upper b) (sym s.0) s.1
spelled_sound (Str cs) text after s f = quotes_scalars 34 s.inner cs s.quotes
spelled_sound (token.Mark m) text after s f = tt
spelled_sound Dot text after s f = tt

placed_sound : (line : ℕ) (piece : Option Token) (text after : List ℕ) (tokens : List Placed) → Spells text after piece → Fits piece
    → AllSound tokens → AllSound (placed line piece tokens)
placed_sound line None text after tokens s f r = r
placed_sound line (Some t) text after tokens s f r = (spelled_sound t text after s f, r)

parted_sound : {front : List ℕ} {b : Bool} {rest : List ℕ} {tokens : List Placed} {stop : Option ℕ} → Parted front b rest tokens stop → AllSound tokens
parted_sound (at_end front b) = tt
parted_sound (at_fault front b rest some none) = tt
parted_sound (next_piece front b rest after next piece tokens all stop begins may moves adds r) =
    subst AllSound (sym adds) (placed_sound _ piece begins.text after tokens begins.spells may.0 (parted_sound r))

pub tokens_sound : (bytes : List ℕ) (tokens : List Placed) → AreTokens bytes tokens → AllSound tokens
unfolding AreTokens
tokens_sound bytes tokens h = parted_sound h.1

-- A module that the grammar reads from a text's tokens is read again from its layout.
pub text_reads : (bytes : List ℕ) (tokens : List Placed) (m : ModuleTree) → AreTokens bytes tokens → ReadsFile tokens m → ReadAgain m
text_reads bytes tokens m h r = written_reads tokens m (tokens_sound bytes tokens h) r
