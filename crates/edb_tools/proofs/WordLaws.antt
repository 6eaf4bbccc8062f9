-- The request of words that are two or more.

use Rattle.std.proofs.Common.{◌≡◌, ◌∙◌, ℕ, ◌+◌, ◌<◌, ◌≤◌, Bool, true, false, ◌&&◌, if◌then◌else◌, nat_eq, nat_lt, List, [], ◌∷◌, ◌++◌, length, take, drop, get_or, map, codes, Option, Some, None, refl, sym, ap, arith}
use Rattle.std.proofs.lemmas.List.{length-map, map_more, map-append}
use Rattle.std.proofs.lemmas.List.Folds.{list_all-map}
use Rattle.std.specs.List.{list_all}
use Rattle.std.specs.Cmp.Lexicographic.{pointwise}
use Rattle.edb_files.specs.InOrder.{Asked, text_file}
use Rattle.edb_tools.specs.declared.words.Tool.TheVariants.{Check}
use Rattle.edb_tools.specs.Requests.{Request, request, is_name, check_request, format_request, generate_request, either_request, request_of, words_end}

-- the command first and then the names
request_is : {A : Type 0} (f : A → List ℕ) (ws : List A) (c : A) → 2 ≤ length ws → c ≡ get_or ws 0 c
    → check_request (map f ws) ≡ (if pointwise nat_eq (f c) (codes "check") && list_all (λ w. is_name (f w)) (drop 1 ws) && nat_lt (length ws) words_end then Some (request Check (map f (drop 1 ws))) else None)
request_is f [] c h e = absurd (omega arith)
request_is f (w ∷ []) c h e = absurd (omega arith)
request_is f (w ∷ (v ∷ vs)) c h e = rw (e, list_all-map is_name f vs, length-map vs f) refl

no_check : (a b c : Bool) (r : Request) → b ≡ false → None ≡ (if a && b && c then Some r else None)
no_check true b c r h = rw h refl
no_check false b c r h = refl

-- a word after the command is no name
pub request_none : {A : Type 0} (f : A → List ℕ) (ws names : List A) (c : A) → 2 ≤ length ws → c ≡ get_or ws 0 c → names ≡ drop 1 ws
    → list_all (λ w. is_name (f w)) names ≡ false → None ≡ check_request (map f ws)
request_none f ws names c h e n bad =
    no_check (pointwise nat_eq (f c) (codes "check")) (list_all (λ w. is_name (f w)) (drop 1 ws)) (nat_lt (length ws) words_end) (request Check (map f (drop 1 ws))) (rw n at bad)
    ∙ sym (request_is f ws c h e)

-- `check`, names, and few words
pub request_some : {A : Type 0} (f : A → List ℕ) (ws names : List A) (c : A) → 2 ≤ length ws → c ≡ get_or ws 0 c → names ≡ drop 1 ws
    → pointwise nat_eq (f c) (codes "check") ≡ true → list_all (λ w. is_name (f w)) names ≡ true → nat_lt (length ws) words_end ≡ true
    → Some (request Check (map f names)) ≡ check_request (map f ws)
request_some f ws names c h e n is good few = rw n (rw (request_is f ws c h e, is, rw n at good, few) refl)

-- one file more
pub files_more : {A B : Type 0} (f : A → Asked) (g : B → Asked) (xs : List B) (i : ℕ) (x : B) (so_far : List A) (a : A)
    → i < length xs → x ≡ get_or xs i x → map f so_far ≡ map g (take i xs) → f a ≡ g x → map f (so_far ++ a ∷ []) ≡ map g (take (i + 1) xs)
files_more f g xs i x so_far a lt is same one =
    map-append f so_far (a ∷ [])
    ∙ (ap (λ (t : List Asked). t ++ f a ∷ []) same
    ∙ (ap (λ (b : Asked). map g (take i xs) ++ b ∷ []) (one ∙ ap g is) ∙ sym (map_more g xs i x lt)))

files_are : {A : Type 0} (f : A → List ℕ) (xs : List A) → map (λ x. text_file (f x)) xs ≡ map text_file (map f xs)
files_are f [] = refl
files_are f (x ∷ xs) = ap (λ (t : List Asked). text_file (f x) ∷ t) (files_are f xs)

-- what is asked for, if it is a check
pub found_check : {A : Type 0} (f : A → List ℕ) (words : List (List ℕ)) (names : List A) (files : List Asked)
    → Some (request Check (map f names)) ≡ check_request words → files ≡ map (λ x. text_file (f x)) names
    → Some (record { command = Check; files = files }) ≡ request_of words
found_check f words names files is same =
    ap (λ (fs : List Asked). Some (record { command = Check; files = fs })) (same ∙ files_are f names) ∙ ap (λ (o : Option Request). either_request o (either_request (format_request words) (generate_request words))) is
