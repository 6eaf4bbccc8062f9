-- How a reader of a list goes over the tokens: what each of them leads to, and the integers that it adds.

use Rattle.std.specs.Prelude.{ℕ, zero, suc, ℤ, pos, neg_ℤ, Bool, false, cond, ◌==◌, List, [], ◌∷◌, ◌++◌, map, Option, Some, None, option_map, option_and_then}
use Rattle.edb_lang.specs.Terms as term
use Rattle.edb_lang.specs.Terms.{Datum}
use Rattle.edb_scan.specs.declared.lexeme.Mark.{Mark}
use Rattle.edb_scan.specs.declared.lexeme.Mark.TheVariants as mark
use Rattle.edb_scan.specs.declared.lexeme.Token.{Token}
use Rattle.edb_scan.specs.declared.lexeme.Token.TheVariants as token
use Rattle.edb_cmds.specs.declared.list.Stage.{Stage}
use Rattle.edb_cmds.specs.declared.list.Stage.TheVariants.{AnyList, FirstItem, Item, Number, ItemEnd, StringEnd, ListEnd}
use Rattle.edb_cmds.specs.declared.list.Place.{Place}

-- the list of these integers
abbrev pub list_of : List ℤ → Datum
list_of [] = term.nil
list_of (i ∷ is) = term.cons (term.int i) (list_of is)

-- what a mark does in a list
pub data Sign : Type 0 where
  opens : Sign
  closes : Sign
  parts : Sign
  bars : Sign
  negates : Sign
  another : Sign

abbrev pub sign_of : Mark → Sign
sign_of mark.BracketOpen = opens
sign_of mark.BracketClose = closes
sign_of mark.Comma = parts
sign_of mark.Bar = bars
sign_of mark.Minus = negates
sign_of _ = another

abbrev pub place : Stage → ℕ → Option Place
place stage brackets = Some (record { stage = stage; brackets = brackets })

-- behind a number or a character
abbrev pub behind_integer : Stage → ℕ → Option Place
behind_integer FirstItem n = place ItemEnd n
behind_integer Item n = place ItemEnd n
behind_integer _ n = None

abbrev pub behind_number : Stage → ℕ → Option Place
behind_number FirstItem n = place ItemEnd n
behind_number Item n = place ItemEnd n
behind_number Number n = place ItemEnd n
behind_number _ n = None

abbrev pub behind_string : Stage → ℕ → Option Place
behind_string AnyList n = place StringEnd n
behind_string StringEnd n = place StringEnd n
behind_string _ n = None

abbrev pub behind_open : Stage → ℕ → Option Place
behind_open AnyList n = place FirstItem (suc n)
behind_open _ n = None

-- a bracket less is open
abbrev pub closed : ℕ → Option Place
closed zero = None
closed (suc n) = place ListEnd n

abbrev pub behind_close : Stage → ℕ → Option Place
behind_close FirstItem n = closed n
behind_close ItemEnd n = closed n
behind_close StringEnd n = closed n
behind_close ListEnd n = closed n
behind_close _ n = None

abbrev pub behind_comma : Stage → ℕ → Option Place
behind_comma ItemEnd n = place Item n
behind_comma _ n = None

abbrev pub behind_bar : Stage → ℕ → Option Place
behind_bar ItemEnd n = place AnyList n
behind_bar _ n = None

abbrev pub behind_minus : Stage → ℕ → Option Place
behind_minus FirstItem n = place Number n
behind_minus Item n = place Number n
behind_minus _ n = None

abbrev pub behind_sign : Sign → Stage → ℕ → Option Place
behind_sign opens s n = behind_open s n
behind_sign closes s n = behind_close s n
behind_sign parts s n = behind_comma s n
behind_sign bars s n = behind_bar s n
behind_sign negates s n = behind_minus s n
behind_sign another s n = None

-- the place behind a token at this stage with so many brackets open, where it may stand there
abbrev pub behind : Token → Stage → ℕ → Option Place
behind (token.Int k) s n = behind_number s n
behind (token.Char c) s n = behind_integer s n
behind (token.Str cs) s n = behind_string s n
behind (token.Mark m) s n = behind_sign (sign_of m) s n
behind _ s n = None

abbrev pub number_of : Stage → ℕ → ℤ
number_of Number k = neg_ℤ (pos k)
number_of _ k = pos k

-- the integers that a token adds at this stage
abbrev pub integers_of : Token → Stage → List ℤ
integers_of (token.Int k) s = number_of s k ∷ []
integers_of (token.Char c) s = pos c ∷ []
integers_of (token.Str cs) s = map pos cs
integers_of _ s = []

-- a list may end here
abbrev pub is_end : Stage → ℕ → Bool
is_end StringEnd n = n == 0
is_end ListEnd n = n == 0
is_end _ n = false

-- these integers, and then those that come
abbrev pub onto : List ℤ → Option (List ℤ) → Option (List ℤ)
onto is rest = option_map (λ js. is ++ js) rest

-- the integers of a list that goes on with these tokens
unfoldable pub run : Stage → ℕ → List Token → Option (List ℤ)
run s n [] = cond (is_end s n) (Some []) None
run s n (t ∷ ts) = option_and_then (λ (p : Place). onto (integers_of t s) (run p.stage p.brackets ts)) (behind t s n)
