-- What the loops over a list's tokens and integers keep, and what their answers say.
use Rattle.std.proofs.Common.{◌≡◌, ℕ, zero, suc, ◌+◌, ◌≤◌, ◌<◌, ◌*◌, Bool, true, false, cond, List, [], ◌∷◌, ◌++◌, map, length, drop, get_or, Option, Some, None, refl, sym, ap, ◌∙◌, subst, arith, add-one, append-nil}
use Rattle.std.specs.Prelude.{ℤ, All}
use Rattle.std.specs.Option.{option_and_then}
use Rattle.std.proofs.Math.Seq.{drop-cons}
use Rattle.std.proofs.Math.ListN.{drop_of_length-le}
use Rattle.std.proofs.lemmas.List.Elements.{All-nil, All-cons}
use Rattle.edb_lang.specs.Terms as term
use Rattle.edb_lang.specs.Terms.{Datum, IsWithin, height, size}
use Rattle.edb_scan.specs.declared.lexeme.Placed.{Placed}
use Rattle.edb_scan.specs.declared.lexeme.Token.{Token}
use Rattle.edb_scan.specs.declared.lexeme.Token.TheVariants as token
use Rattle.edb_scan.specs.Lexis.{Fits}
use Rattle.edb_scan.specs.Parting.{Parted, at_end, at_fault, next_piece, placed, AreTokens}
use Rattle.edb_cmds.specs.declared.list.Place.{Place}
use Rattle.edb_cmds.specs.declared.list.Stage.{Stage}
use Rattle.edb_cmds.specs.declared.list.Stage.TheVariants.{AnyList, FirstItem, Item, Number, ItemEnd, StringEnd, ListEnd}
use Rattle.edb_cmds.specs.Integers.{ReadsList}
use Rattle.edb_cmds.specs.Steps.{list_of, place, behind_integer, behind_number, behind_string, behind_open, closed, behind_close, behind_comma, behind_bar, behind_minus, behind_sign, Sign, opens, closes, parts, bars, negates, another, sign_of, behind, integers_of, is_end, onto, run}
use Rattle.edb_cmds.proofs.ListRuns.{before, onto_twice, complete}
use Rattle.edb_cmds.proofs.ListSound.{sound}

-- no more than a bracket more is open
abbrev Few : ℕ → Option Place → Type 0
Few n o = (p : Place) → o ≡ Some p → p.brackets ≤ n + 1

few_place : (s : Stage) (k n : ℕ) → k ≤ n + 1 → Few n (place s k)
few_place s k n h p e =
    let whole : Place = record { stage = s; brackets = k } in
    let same : whole ≡ p = cc in
    omega (arith, ap (λ (q : Place). q.brackets) same)

few_none : (n : ℕ) → Few n None
few_none n p e = absurd (cc)

number_few : (s : Stage) (n : ℕ) → Few n (behind_number s n)
number_few FirstItem n = few_place ItemEnd n n (omega arith)
number_few Item n = few_place ItemEnd n n (omega arith)
number_few Number n = few_place ItemEnd n n (omega arith)
number_few _ n = few_none n

character_few : (s : Stage) (n : ℕ) → Few n (behind_integer s n)
character_few FirstItem n = few_place ItemEnd n n (omega arith)
character_few Item n = few_place ItemEnd n n (omega arith)
character_few _ n = few_none n

string_few : (s : Stage) (n : ℕ) → Few n (behind_string s n)
string_few AnyList n = few_place StringEnd n n (omega arith)
string_few StringEnd n = few_place StringEnd n n (omega arith)
string_few _ n = few_none n

open_few : (s : Stage) (n : ℕ) → Few n (behind_open s n)
open_few AnyList n = few_place FirstItem (suc n) n (omega arith)
open_few _ n = few_none n

closed_few : (n : ℕ) → Few n (closed n)
closed_few zero = few_none zero
closed_few (suc n) = few_place ListEnd n (suc n) (omega arith)

close_few : (s : Stage) (n : ℕ) → Few n (behind_close s n)
close_few FirstItem n = closed_few n
close_few ItemEnd n = closed_few n
close_few StringEnd n = closed_few n
close_few ListEnd n = closed_few n
close_few _ n = few_none n

comma_few : (s : Stage) (n : ℕ) → Few n (behind_comma s n)
comma_few ItemEnd n = few_place Item n n (omega arith)
comma_few _ n = few_none n

bar_few : (s : Stage) (n : ℕ) → Few n (behind_bar s n)
bar_few ItemEnd n = few_place AnyList n n (omega arith)
bar_few _ n = few_none n

minus_few : (s : Stage) (n : ℕ) → Few n (behind_minus s n)
minus_few FirstItem n = few_place Number n n (omega arith)
minus_few Item n = few_place Number n n (omega arith)
minus_few _ n = few_none n

sign_few : (g : Sign) (s : Stage) (n : ℕ) → Few n (behind_sign g s n)
sign_few opens s n = open_few s n
sign_few closes s n = close_few s n
sign_few parts s n = comma_few s n
sign_few bars s n = bar_few s n
sign_few negates s n = minus_few s n
sign_few another s n = few_none n

pub few : (t : Token) (s : Stage) (n : ℕ) → Few n (behind t s n)
few (token.Int k) s n = number_few s n
few (token.Char c) s n = character_few s n
few (token.Str cs) s n = string_few s n
few (token.Mark m) s n = sign_few (sign_of m) s n
few _ s n = few_none n

-- the tokens themselves
abbrev pub bare : List Placed → List Token
bare ts = map (λ p. p.token) ts

-- a token more
run_on : (s : Stage) (n : ℕ) (t : Token) (ts : List Token) (p : Place) → behind t s n ≡ Some p → run s n (t ∷ ts) ≡ onto (integers_of t s) (run p.stage p.brackets ts)
unfolding run
run_on s n t ts p e = ap (λ o. option_and_then (λ (q : Place). onto (integers_of t s) (run q.stage q.brackets ts)) o) e

run_off : (s : Stage) (n : ℕ) (t : Token) (ts : List Token) → behind t s n ≡ None → run s n (t ∷ ts) ≡ None
unfolding run
run_off s n t ts e = ap (λ o. option_and_then (λ (q : Place). onto (integers_of t s) (run q.stage q.brackets ts)) o) e

next_token : (all : List Placed) (i : ℕ) (x : Placed) → i < length all → x ≡ get_or all i x → bare (drop i all) ≡ x.token ∷ bare (drop (i + 1) all)
next_token all i x h is =
    ap bare (drop-cons all i x h) ∙ ap (λ (y : Placed). y.token ∷ bare (drop (suc i) all)) (sym is) ∙ ap (λ k. x.token ∷ bare (drop k all)) (sym (add-one i))

pub token_more : (all : List Placed) (i : ℕ) (x : Placed) (s : Stage) (n : ℕ) (p : Place) (is js : List ℤ) → i < length all → x ≡ get_or all i x → behind x.token s n ≡ Some p → js ≡ is ++ integers_of x.token s
    → run AnyList 0 (bare all) ≡ onto is (run s n (bare (drop i all))) → run AnyList 0 (bare all) ≡ onto js (run p.stage p.brackets (bare (drop (i + 1) all)))
token_more all i x s n p is js h at leads adds so_far =
    so_far ∙ ap (λ ts. onto is (run s n ts)) (next_token all i x h at) ∙ ap (onto is) (run_on s n x.token (bare (drop (i + 1) all)) p leads)
    ∙ onto_twice is (integers_of x.token s) (run p.stage p.brackets (bare (drop (i + 1) all))) ∙ ap (λ ks. onto ks (run p.stage p.brackets (bare (drop (i + 1) all)))) (sym adds)

pub token_off : (all : List Placed) (i : ℕ) (x : Placed) (s : Stage) (n : ℕ) (is : List ℤ) → i < length all → x ≡ get_or all i x → behind x.token s n ≡ None
    → run AnyList 0 (bare all) ≡ onto is (run s n (bare (drop i all))) → run AnyList 0 (bare all) ≡ None
token_off all i x s n is h at leads so_far =
    so_far ∙ ap (λ ts. onto is (run s n ts)) (next_token all i x h at) ∙ ap (onto is) (run_off s n x.token (bare (drop (i + 1) all)) leads)

at_last : (s : Stage) (n : ℕ) (b : Bool) → is_end s n ≡ b → run s n [] ≡ cond b (Some []) None
unfolding run
at_last s n b e = ap (λ c. cond c (Some []) None) e

all_passed : (all : List Placed) (i : ℕ) → length all ≤ i → bare (drop i all) ≡ []
all_passed all i h = ap bare (drop_of_length-le all h)

pub token_end : (all : List Placed) (i : ℕ) (s : Stage) (n : ℕ) (is : List ℤ) → length all ≤ i → is_end s n ≡ true → run AnyList 0 (bare all) ≡ onto is (run s n (bare (drop i all))) → run AnyList 0 (bare all) ≡ Some is
token_end all i s n is h e so_far = so_far ∙ ap (λ ts. onto is (run s n ts)) (all_passed all i h) ∙ ap (onto is) (at_last s n true e) ∙ ap Some (append-nil is)

pub token_stop : (all : List Placed) (i : ℕ) (s : Stage) (n : ℕ) (is : List ℤ) → length all ≤ i → is_end s n ≡ false → run AnyList 0 (bare all) ≡ onto is (run s n (bare (drop i all))) → run AnyList 0 (bare all) ≡ None
token_stop all i s n is h e so_far = so_far ∙ ap (λ ts. onto is (run s n ts)) (all_passed all i h) ∙ ap (onto is) (at_last s n false e)

-- the list is built from its end
before_push : (is : List ℤ) (i : ℤ) (end : Datum) → before (is ++ i ∷ []) end ≡ before is (term.cons (term.int i) end)
before_push [] i end = refl
before_push (j ∷ is) i end = ap (λ t. term.cons (term.int j) t) (before_push is i end)

pub built_more : (is js ks : List ℤ) (i : ℤ) (end : Datum) → is ≡ js ++ i ∷ [] → before is end ≡ list_of ks → before js (term.cons (term.int i) end) ≡ list_of ks
built_more is js ks i end e h = sym (ap (λ x. before x end) e ∙ before_push js i end) ∙ h

-- the limits
list_height : (is : List ℤ) → height (list_of is) ≡ length is
list_height [] = refl
list_height (i ∷ is) = omega (arith, list_height is)

list_size : (is : List ℤ) → size (list_of is) ≡ 2 * length is + 1
list_size [] = refl
list_size (i ∷ is) = omega (arith, list_size is)

pub list_within : (ts : List Token) (is : List ℤ) → run AnyList 0 ts ≡ Some is → length is ≤ 4000 → ReadsList ts (list_of is) × IsWithin (list_of is)
list_within ts is h few = (sound ts is h, record { height = omega (arith, list_height is); size = omega (arith, list_size is) })

pub list_high : (ts : List Token) (is : List ℤ) → run AnyList 0 ts ≡ Some is → 4000 < length is → (t : Datum) → ReadsList ts t → IsWithin t → ⊥
list_high ts is h many t reads within =
    let k = complete ts t reads in
    let same : is ≡ k.0 = cc (h, k.2) in
    omega (arith, within.height, ap height k.1, list_height k.0, ap length same)

pub list_none : (ts : List Token) → run AnyList 0 ts ≡ None → (t : Datum) → ReadsList ts t → IsWithin t → ⊥
list_none ts h t reads within = let k = complete ts t reads in absurd (cc (h, k.2))

-- the tokens of a text are within their limits
placed_fit : (line : ℕ) (p : Option Token) (ts : List Placed) → Fits p → All (λ (x : Placed). Fits (Some x.token)) ts → All (λ (x : Placed). Fits (Some x.token)) (placed line p ts)
placed_fit line None ts fits h = h
placed_fit line (Some t) ts fits h = All-cons (λ (x : Placed). Fits (Some x.token)) (record { line = line; token = t }) ts fits h

parted_fit : (front : List ℕ) (b : Bool) (rest : List ℕ) (ts : List Placed) (stop : Option ℕ) → Parted front b rest ts stop → All (λ (x : Placed). Fits (Some x.token)) ts
parted_fit front b rest ts stop (at_end f c) = All-nil (λ (x : Placed). Fits (Some x.token))
parted_fit front b rest ts stop (at_fault f c r some none) = All-nil (λ (x : Placed). Fits (Some x.token))
parted_fit front b rest ts stop (next_piece f c r after next p us all stop' begins may n l parted) =
    let P : List Placed → Type 0 = λ xs. All (λ (x : Placed). Fits (Some x.token)) xs in
    subst P (sym l) (placed_fit _ p us may.0 (parted_fit next _ after us stop' parted))

pub tokens_fit : (text : List ℕ) (ts : List Placed) → AreTokens text ts → All (λ (x : Placed). Fits (Some x.token)) ts
unfolding AreTokens
tokens_fit text ts h = parted_fit [] false text ts None h.1
