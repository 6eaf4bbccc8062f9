-- The fields of a command are in range.
use Rattle.std.proofs.Common.{◌≡◌, ◌⊎◌, Bool, false, ℕ, zero, suc, ◌^◌, ◌<◌, ◌≤◌, List, [], ◌∷◌, ◌++◌, map, Option, Some, None, sym, subst, inl, inr, arith}
use Rattle.std.specs.Prelude.{ℤ, pos, neg_ℤ}
use Rattle.std.specs.Char.{IsScalar}
use Rattle.std.proofs.lemmas.Bool.Decides.{nat_tests}
use lib.Utf8.{low_scalar, scalar_cases}
use Rattle.edb_lang.specs.Terms as term
use Rattle.edb_lang.specs.Terms.{Datum, IsWithin}
use Rattle.edb_scan.specs.declared.lexeme.Placed.{Placed}
use Rattle.edb_scan.specs.declared.lexeme.Mark.TheVariants as mark
use Rattle.edb_scan.specs.declared.lexeme.Token.{Token}
use Rattle.edb_scan.specs.declared.lexeme.Token.TheVariants as token
use Rattle.edb_scan.specs.Lexis.{Fits, Spells}
use Rattle.edb_scan.specs.Parting.{Parted, at_end, at_fault, next_piece, placed, AreTokens}
use Rattle.edb_scan.specs.Quotation.{Writes, Quotes, escaped, no_quote}
use Rattle.edb_event.specs.declared.call.Call.{Call}
use Rattle.edb_event.specs.declared.call.Call.TheVariants as call
use Rattle.edb_event.specs.declared.call.Command.{Command}
use Rattle.edb_event.specs.declared.call.Word.{Word}
use Rattle.edb_event.specs.declared.call.Word.TheVariants as word
use Rattle.edb_event.specs.Ranges.{IsNumber, IsWritten, IsLiteral, IsProper, IsCall, IsWord, AreCommands}
use Rattle.edb_cmds.specs.CommandLines.{IsCallLine}
use Rattle.edb_cmds.specs.Fields.{status, WritesProcess}
use Rattle.edb_cmds.specs.Integers.{ReadsInteger, plain, negative, character, ReadsStrings, one, further, string_term, ReadsItems, last, next, ReadsList, empty, string, items, tailed}
use Rattle.edb_cmds.specs.Listing.{ReadsLines, none, blank, command, IsScriptOf}
use Rattle.edb_cmds.specs.Numbers.{WritesNumber}
use Rattle.edb_cmds.specs.Script.{IsStart}
use Rattle.edb_cmds.proofs.FieldLaws.{atom_line_says, atom_says, process_says}
use Rattle.edb_cmds.proofs.NumberLaws.{small_value}

-- what is written is a character
escaped_low : (letter c : ℕ) → escaped letter ≡ Some c → c < 128
escaped_low letter c e = grind (arith, nat_tests)

writes_scalar : (q : ℕ) (text : List ℕ) (c : ℕ) → Writes q text c → IsScalar c
writes_scalar q text c (inl h) = h.scalar
writes_scalar q text c (inr (inl h)) = let low = escaped_low h.letter c h.value in low_scalar c (omega arith)
writes_scalar q text c (inr (inr h)) = let high = h.high_digit in let low = h.low_digit in let value = h.value in low_scalar c (omega arith)

abbrev IsSmall : ℕ → Type 0
IsSmall n = n < 2 ^ 127

scalar_small : (c : ℕ) → IsScalar c → IsSmall c
scalar_small c h = by (scalar_cases c h)
  where
    by : (c < 0xD800) ⊎ ((0xE000 ≤ c) × (c < 0x11_0000)) → IsSmall c
    by (inl k) = omega arith
    by (inr k) = omega arith

abbrev AreSmall : List ℕ → Type 0
AreSmall [] = Unit {0}
AreSmall (c ∷ cs) = IsSmall c × AreSmall cs

quotes_small : (q : ℕ) (inner cs : List ℕ) → Quotes q inner cs → AreSmall cs
quotes_small q inner [] h = tt
quotes_small q inner (c ∷ cs) (text, rest, cut, writes, quotes) = (scalar_small c (writes_scalar q text c writes), quotes_small q rest cs quotes)

-- the numbers of a token are small
abbrev TokenSmall : Token → Type 0
TokenSmall (token.Int n) = IsSmall n
TokenSmall (token.Char c) = IsSmall c
TokenSmall (token.Str cs) = AreSmall cs
TokenSmall _ = Unit {0}

abbrev TokensSmall : List Token → Type 0
TokensSmall [] = Unit {0}
TokensSmall (t ∷ ts) = TokenSmall t × TokensSmall ts

token_small : (text after : List ℕ) (t : Token) → Spells text after (Some t) → Fits (Some t) → TokenSmall t
token_small text after (token.Int n) h fits = fits
token_small text after (token.Char c) h fits = scalar_small c (writes_scalar no_quote h.one c h.writes)
token_small text after (token.Str cs) h fits = quotes_small 34 h.inner cs h.quotes
token_small text after _ h fits = tt

abbrev tokens_of : List Placed → List Token
tokens_of ts = map (λ p. p.token) ts

placed_small : (text after : List ℕ) (at : ℕ) (p : Option Token) (ts : List Placed) → Spells text after p → Fits p → TokensSmall (tokens_of ts) → TokensSmall (tokens_of (placed at p ts))
placed_small text after at None ts h fits more = more
placed_small text after at (Some t) ts h fits more = (token_small text after t h fits, more)

parted_small : (front : List ℕ) (b : Bool) (rest : List ℕ) (ts : List Placed) (stop : Option ℕ) → Parted front b rest ts stop → TokensSmall (tokens_of ts)
parted_small front b rest ts stop (at_end f c) = tt
parted_small front b rest ts stop (at_fault f c r some nothing) = tt
parted_small front b rest ts stop (next_piece f c r after more p us all stop' begins may n l parted) =
    let P : List Placed → Type 0 = λ xs. TokensSmall (tokens_of xs) in
    subst P (sym l) (placed_small begins.text after _ p us begins.spells may.0 (parted_small more _ after us stop' parted))

tokens_small : (text : List ℕ) (ts : List Placed) → AreTokens text ts → TokensSmall (tokens_of ts)
unfolding AreTokens
tokens_small text ts h = parted_small [] false text ts None h.1

small_parts : (ts us : List Token) → TokensSmall (ts ++ us) → TokensSmall ts × TokensSmall us
small_parts [] us h = (tt, h)
small_parts (t ∷ ts) us h = let more = small_parts ts us h.1 in ((h.0, more.0), more.1)

-- a list that is read is proper and literal
abbrev IsGood : Datum → Type 0
IsGood d = IsProper d × IsLiteral d

negated : (n : ℕ) → IsSmall n → IsWritten (neg_ℤ (pos n))
negated zero h = h
negated (suc n) h = omega arith

integer_written : (ts : List Token) (i : ℤ) → ReadsInteger ts i → TokensSmall ts → IsWritten i
integer_written ts i (plain n) h = h.0
integer_written ts i (negative n) h = negated n h.1.0
integer_written ts i (character c) h = h.0

strings_small : (ts : List Token) (cs : List ℕ) → ReadsStrings ts cs → TokensSmall ts → AreSmall cs
strings_small ts cs (one ds) h = h.0
strings_small ts cs (further ds es us r) h = both ds es h.0 (strings_small us es r h.1)
  where
    both : (xs ys : List ℕ) → AreSmall xs → AreSmall ys → AreSmall (xs ++ ys)
    both [] ys a b = b
    both (x ∷ xs) ys a b = (a.0, both xs ys a.1 b)

string_good : (cs : List ℕ) → AreSmall cs → IsGood (string_term cs)
string_good [] h = (tt, tt)
string_good (c ∷ cs) h = let more = string_good cs h.1 in (more.0, (h.0, more.1))

items_good : (ts : List Token) (end d : Datum) → ReadsItems ts end d → TokensSmall ts → IsGood end → IsGood d
items_good ts end d (last us i e r) h good = (good.0, (integer_written us i r h, good.1))
items_good ts end d (next us vs i e k r more) h good =
    let parts = small_parts us (token.Mark mark.Comma ∷ vs) h in
    let rest = items_good vs e k more parts.1.1 good in
    (rest.0, (integer_written us i r parts.0, rest.1))

list_good : (ts : List Token) (d : Datum) → ReadsList ts d → TokensSmall ts → IsGood d
list_good ts d empty h = (tt, tt)
list_good ts d (string us cs r) h = string_good cs (strings_small us cs r h)
list_good ts d (items us k r) h = items_good us term.nil k r (small_parts us (token.Mark mark.BracketClose ∷ []) h.1).0 (tt, tt)
list_good ts d (tailed us vs end k r more) h =
    let parts = small_parts us (token.Mark mark.Bar ∷ (vs ++ (token.Mark mark.BracketClose ∷ []))) h.1 in
    let inner = small_parts vs (token.Mark mark.BracketClose ∷ []) parts.1.1 in
    items_good us end k more parts.0 (list_good vs end r inner.0)

number_range : (text : List ℕ) (n : ℕ) → WritesNumber text n → IsNumber n
number_range text n h = omega (arith, h.value, small_value text h.digits.1 h.short)

process_range : (text : List ℕ) (w : Word) → WritesProcess text w → IsWord w
process_range text (word.Number n) h = number_range text n h
process_range text (word.Own k) h = number_range h.0 k h.2
process_range text _ h = absurd h

start_range : (text : List ℕ) (m f : List ℕ) (args : Datum) → IsStart text (record { home = m; name = f; args = args }) → IsCall (call.Start m f args)
start_range text m f args h =
    let good = list_good (tokens_of h.tokens) args h.list (tokens_small h.list_text h.tokens h.scanned) in
    (h.home.fits, h.name.fits, (good.0, good.1, h.within))

absent_range : (w : Word) → w ≡ word.Absent → IsWord w
absent_range w e = subst (λ x. IsWord x) (sym e) tt

zero_range : (n : ℕ) → n ≡ 0 → IsNumber n
zero_range n e = omega arith

call_range : (text : List ℕ) (c : Call) (w : Word) → IsCallLine text c w → IsCall c × IsWord w
call_range text (call.Start m f args) w g = (start_range text m f args g.1, absent_range w g.0)
call_range text (call.Ii m) w g = (atom_says g.1.rest m [] g.1.behind, absent_range w g.0)
call_range text (call.Ib m l) w g =
    let says = atom_line_says g.1.rest m l g.1.behind in
    ((says.0, (says.1.2.low, says.1.2.high)), absent_range w g.0)
call_range text (call.Await pid s) w g =
    let says = process_says g.names.rest w (status s ∷ []) g.names.behind in
    (zero_range pid g.open_pid, process_range says.0 w says.1)
call_range text (call.Ia pid) w g = let says = process_says g.names.rest w [] g.names.behind in (zero_range pid g.open_pid, process_range says.0 w says.1)
call_range text (call.Bindings pid) w g = let says = process_says g.names.rest w [] g.names.behind in (zero_range pid g.open_pid, process_range says.0 w says.1)
call_range text (call.Continue pid) w g = let says = process_says g.names.rest w [] g.names.behind in (zero_range pid g.open_pid, process_range says.0 w says.1)
call_range text _ w g = absurd g

lines_range : (ls : List (List ℕ)) (cs : List Command) → ReadsLines ls cs → AreCommands cs
lines_range ls cs none = tt
lines_range ls cs (blank l more ds b r) = lines_range more ds r
lines_range ls cs (command l more c ds b r) = (call_range l c.call c.word b, lines_range more ds r)

pub script_range : (bytes : List ℕ) (cs : List Command) → IsScriptOf bytes cs → AreCommands cs
script_range bytes cs h = lines_range _ cs h.read
