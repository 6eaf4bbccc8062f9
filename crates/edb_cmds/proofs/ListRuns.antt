-- What a list is made of leads a run through its tokens, and adds its integers.
use Rattle.std.proofs.Common.{◌≡◌, ℕ, zero, suc, List, [], ◌∷◌, ◌++◌, map, Option, Some, None, refl, sym, ap, ◌∙◌, append_assoc, append-nil}
use Rattle.std.specs.Prelude.{ℤ, pos}
use Rattle.std.proofs.lemmas.List.{map-append}
use Rattle.edb_lang.specs.Terms as term
use Rattle.edb_lang.specs.Terms.{Datum}
use Rattle.edb_scan.specs.declared.lexeme.Mark.TheVariants as mark
use Rattle.edb_scan.specs.declared.lexeme.Token.{Token}
use Rattle.edb_scan.specs.declared.lexeme.Token.TheVariants as token
use Rattle.edb_cmds.specs.declared.list.Stage.TheVariants.{AnyList, FirstItem, Item, Number, ItemEnd, StringEnd, ListEnd}
use Rattle.edb_cmds.specs.Integers.{ReadsInteger, plain, negative, character, ReadsStrings, one, further, string_term, ReadsItems, last, next, ReadsList, empty, string, items, tailed}
use Rattle.edb_cmds.specs.Steps.{list_of, onto, run}

abbrev pub close : Token
close = token.Mark mark.BracketClose

abbrev pub comma : Token
comma = token.Mark mark.Comma

abbrev pub bar : Token
bar = token.Mark mark.Bar

-- so many closing brackets
abbrev pub closing : ℕ → List Token
closing zero = []
closing (suc n) = close ∷ closing n

pub onto_twice : (is js : List ℤ) (o : Option (List ℤ)) → onto is (onto js o) ≡ onto (is ++ js) o
onto_twice is js None = refl
onto_twice is js (Some ks) = ap Some (sym (append_assoc is js ks))

onto_none : (o : Option (List ℤ)) → onto [] o ≡ o
onto_none None = refl
onto_none (Some ks) = refl

ends_list : (n : ℕ) → run ListEnd n (closing n) ≡ Some []
unfolding run
ends_list zero = refl
ends_list (suc n) = onto_none (run ListEnd n (closing n)) ∙ ends_list n

ends_string : (n : ℕ) → run StringEnd n (closing n) ≡ Some []
unfolding run
ends_string zero = refl
ends_string (suc n) = onto_none (run ListEnd n (closing n)) ∙ ends_list n

ends_items : (n : ℕ) → run ItemEnd (suc n) (close ∷ closing n) ≡ Some []
unfolding run
ends_items n = onto_none (run ListEnd n (closing n)) ∙ ends_list n

integer_first : (ts : List Token) (i : ℤ) → ReadsInteger ts i → (n : ℕ) (rest : List Token) → run FirstItem n (ts ++ rest) ≡ onto (i ∷ []) (run ItemEnd n rest)
unfolding run
integer_first ts i (plain k) n rest = refl
integer_first ts i (negative k) n rest = onto_none (run Number n (token.Int k ∷ rest))
integer_first ts i (character c) n rest = refl

integer_item : (ts : List Token) (i : ℤ) → ReadsInteger ts i → (n : ℕ) (rest : List Token) → run Item n (ts ++ rest) ≡ onto (i ∷ []) (run ItemEnd n rest)
unfolding run
integer_item ts i (plain k) n rest = refl
integer_item ts i (negative k) n rest = onto_none (run Number n (token.Int k ∷ rest))
integer_item ts i (character c) n rest = refl

comma_item : (n : ℕ) (rest : List Token) → run ItemEnd n (comma ∷ rest) ≡ run Item n rest
unfolding run
comma_item n rest = onto_none (run Item n rest)

bar_list : (n : ℕ) (rest : List Token) → run ItemEnd n (bar ∷ rest) ≡ run AnyList n rest
unfolding run
bar_list n rest = onto_none (run AnyList n rest)

open_first : (n : ℕ) (rest : List Token) → run AnyList n (token.Mark mark.BracketOpen ∷ rest) ≡ run FirstItem (suc n) rest
unfolding run
open_first n rest = onto_none (run FirstItem (suc n) rest)

close_first : (n : ℕ) (rest : List Token) → run FirstItem (suc n) (close ∷ rest) ≡ run ListEnd n rest
unfolding run
close_first n rest = onto_none (run ListEnd n rest)

-- integers before what a list ends in
abbrev pub before : List ℤ → Datum → Datum
before [] end = end
before (i ∷ is) end = term.cons (term.int i) (before is end)

before_list : (is js : List ℤ) → before is (list_of js) ≡ list_of (is ++ js)
before_list [] js = refl
before_list (i ∷ is) js = ap (λ t. term.cons (term.int i) t) (before_list is js)

-- with nothing behind them they are the list
pub before_nil : (is : List ℤ) → before is term.nil ≡ list_of is
before_nil [] = refl
before_nil (i ∷ is) = ap (λ t. term.cons (term.int i) t) (before_nil is)

record ItemsRun (ts : List Token) (end d : Datum) : Type 0 where
  is : List ℤ
  reads : d ≡ before is end
  first : (n : ℕ) (rest : List Token) → run FirstItem n (ts ++ rest) ≡ onto is (run ItemEnd n rest)
  item : (n : ℕ) (rest : List Token) → run Item n (ts ++ rest) ≡ onto is (run ItemEnd n rest)

items_run : (ts : List Token) (end d : Datum) → ReadsItems ts end d → ItemsRun ts end d
items_run ts end d (last us i e r) = record { is = i ∷ []; reads = refl; first = integer_first us i r; item = integer_item us i r }
items_run ts end d (next us vs i e t r more) =
    let h = items_run vs e t more in
    record {
      is = i ∷ h.is;
      reads = ap (λ x. term.cons (term.int i) x) h.reads;
      first = λ n rest. ap (run FirstItem n) (append_assoc us (comma ∷ vs) rest) ∙ integer_first us i r n (comma ∷ (vs ++ rest)) ∙ ap (onto (i ∷ [])) (comma_item n (vs ++ rest) ∙ h.item n rest) ∙ onto_twice (i ∷ []) h.is (run ItemEnd n rest);
      item = λ n rest. ap (run Item n) (append_assoc us (comma ∷ vs) rest) ∙ integer_item us i r n (comma ∷ (vs ++ rest)) ∙ ap (onto (i ∷ [])) (comma_item n (vs ++ rest) ∙ h.item n rest) ∙ onto_twice (i ∷ []) h.is (run ItemEnd n rest);
    }

record StringsRun (ts : List Token) (cs : List ℕ) : Type 0 where
  whole : (n : ℕ) (rest : List Token) → run AnyList n (ts ++ rest) ≡ onto (map pos cs) (run StringEnd n rest)
  more : (n : ℕ) (rest : List Token) → run StringEnd n (ts ++ rest) ≡ onto (map pos cs) (run StringEnd n rest)

strings_run : (ts : List Token) (cs : List ℕ) → ReadsStrings ts cs → StringsRun ts cs
unfolding run
strings_run ts cs (one ds) = record { whole = λ n rest. refl; more = λ n rest. refl }
strings_run ts cs (further ds es us r) =
    let h = strings_run us es r in
    let both : (n : ℕ) (rest : List Token) → onto (map pos ds) (run StringEnd n (us ++ rest)) ≡ onto (map pos (ds ++ es)) (run StringEnd n rest) =
    λ n rest. ap (onto (map pos ds)) (h.more n rest) ∙ onto_twice (map pos ds) (map pos es) (run StringEnd n rest) ∙ ap (λ is. onto is (run StringEnd n rest)) (sym (map-append pos ds es)) in
    record { whole = both; more = both }

pub string_list : (cs : List ℕ) → string_term cs ≡ list_of (map pos cs)
string_list [] = refl
string_list (c ∷ cs) = ap (λ t. term.cons (term.int (pos c)) t) (string_list cs)

record ListRun (ts : List Token) (d : Datum) : Type 0 where
  is : List ℤ
  reads : d ≡ list_of is
  runs : (n : ℕ) → run AnyList n (ts ++ closing n) ≡ Some is

list_run : (ts : List Token) (d : Datum) → ReadsList ts d → ListRun ts d
list_run ts d empty = record { is = []; reads = refl; runs = λ n. open_first n (close ∷ closing n) ∙ close_first n (closing n) ∙ ends_list n }
list_run ts d (string us cs r) = record {
  is = map pos cs;
  reads = string_list cs;
  runs = λ n. (strings_run us cs r).whole n (closing n) ∙ ap (onto (map pos cs)) (ends_string n) ∙ ap Some (append-nil (map pos cs));
}
list_run ts d (items us t r) =
    let h = items_run us term.nil t r in
    record {
      is = h.is;
      reads = h.reads ∙ before_nil h.is;
      runs = λ n. open_first n ((us ++ (close ∷ [])) ++ closing n) ∙ ap (run FirstItem (suc n)) (append_assoc us (close ∷ []) (closing n)) ∙ h.first (suc n) (close ∷ closing n) ∙ ap (onto h.is) (ends_items n) ∙ ap Some (append-nil h.is);
    }
list_run ts d (tailed us vs end t l r) =
    let h = items_run us end t r in
    let k = list_run vs end l in
    record {
      is = h.is ++ k.is;
      reads = h.reads ∙ ap (before h.is) k.reads ∙ before_list h.is k.is;
      runs = λ n.
          open_first n ((us ++ (bar ∷ (vs ++ (close ∷ [])))) ++ closing n)
          ∙ ap (run FirstItem (suc n)) (append_assoc us (bar ∷ (vs ++ (close ∷ []))) (closing n))
          ∙ h.first (suc n) (bar ∷ ((vs ++ (close ∷ [])) ++ closing n))
          ∙ ap (onto h.is) (bar_list (suc n) ((vs ++ (close ∷ [])) ++ closing n) ∙ ap (run AnyList (suc n)) (append_assoc vs (close ∷ []) (closing n)) ∙ k.runs (suc n));
    }

-- the tokens of a list lead to its integers
pub complete : (ts : List Token) (d : Datum) → ReadsList ts d → (is : List ℤ) × (d ≡ list_of is) × (run AnyList 0 ts ≡ Some is)
complete ts d r =
    let h = list_run ts d r in
    (h.is, h.reads, ap (run AnyList 0) (sym (append-nil ts)) ∙ h.runs 0)

-- the tokens are one list at most
pub one_list : (ts : List Token) (d e : Datum) → ReadsList ts d → ReadsList ts e → d ≡ e
one_list ts d e r s =
    let h = complete ts d r in
    let k = complete ts e s in
    let same : h.0 ≡ k.0 = cc (h.2, k.2) in
    h.1 ∙ ap list_of same ∙ sym k.1
