-- Tokens through which a run leads are a list, of the integers that it adds.
use Rattle.std.proofs.Common.{◌≡◌, ◌⊎◌, ℕ, zero, suc, List, [], ◌∷◌, ◌++◌, map, Option, Some, None, refl, sym, ap, ◌∙◌, subst, inl, inr, append_assoc, append-nil, eqb-true, arith}
use Rattle.std.specs.Prelude.{ℤ, pos, neg_ℤ, nat_eq}
use Rattle.std.specs.Option.{option_and_then}
use Rattle.std.proofs.lemmas.Option.{cond_some}
use Rattle.std.proofs.lemmas.List.{map-append}
use Rattle.edb_lang.specs.Terms as term
use Rattle.edb_lang.specs.Terms.{Datum}
use Rattle.edb_scan.specs.declared.lexeme.Mark.{Mark}
use Rattle.edb_scan.specs.declared.lexeme.Mark.TheVariants as mark
use Rattle.edb_scan.specs.declared.lexeme.Token.{Token}
use Rattle.edb_scan.specs.declared.lexeme.Token.TheVariants as token
use Rattle.edb_cmds.specs.declared.list.Place.{Place}
use Rattle.edb_cmds.specs.declared.list.Stage.{Stage}
use Rattle.edb_cmds.specs.declared.list.Stage.TheVariants.{AnyList, FirstItem, Item, Number, ItemEnd, StringEnd, ListEnd}
use Rattle.edb_cmds.specs.Integers.{ReadsInteger, plain, negative, character, ReadsStrings, one, further, ReadsItems, last, next, ReadsList, empty, string, items, tailed}
use Rattle.edb_cmds.specs.Steps.{list_of, onto, run, behind_sign, sign_of, Sign, opens, closes, parts, bars, negates, another}
use Rattle.edb_cmds.proofs.ListRuns.{close, comma, bar, closing, string_list}

-- a list, and the brackets that are open
record LeftList (n : ℕ) (ts : List Token) (is : List ℤ) : Type 0 where
  us : List Token
  cut : ts ≡ us ++ closing n
  reads : ReadsList us (list_of is)

-- what stands between the brackets of a list that is not empty
abbrev Inside : List Token → Datum → Type 0
Inside us d = ReadsItems us term.nil d ⊎ ((ts : List Token) × (ws : List Token) × (end : Datum) × (us ≡ ts ++ (bar ∷ ws)) × ReadsList ws end × ReadsItems ts end d)

record LeftItems (m : ℕ) (ts : List Token) (is : List ℤ) : Type 0 where
  us : List Token
  cut : ts ≡ us ++ (close ∷ closing m)
  inside : Inside us (list_of is)

-- what stands behind an integer
data LeftEnd : ℕ → List Token → List ℤ → Type 0 where
  at_close : (m : ℕ) → LeftEnd m (close ∷ closing m) []
  at_comma : (m : ℕ) (ts : List Token) (is : List ℤ) → LeftItems m ts is → LeftEnd m (comma ∷ ts) is
  at_bar : (m : ℕ) (ts : List Token) (is : List ℤ) → LeftList (suc m) ts is → LeftEnd m (bar ∷ ts) is

record LeftNumber (m : ℕ) (ts : List Token) (is : List ℤ) : Type 0 where
  k : ℕ
  us : List Token
  js : List ℤ
  cut : ts ≡ token.Int k ∷ us
  adds : is ≡ neg_ℤ (pos k) ∷ js
  ends : LeftEnd m us js

record LeftStrings (n : ℕ) (ts : List Token) (is : List ℤ) : Type 0 where
  us : List Token
  cs : List ℕ
  cut : ts ≡ us ++ closing n
  reads : ReadsStrings us cs
  adds : is ≡ map pos cs

abbrev Nothing : ℕ → List Token → List ℤ → Type 0
Nothing n ts is = (ts ≡ closing n) × (is ≡ [])

-- what the tokens are where a run comes to their end with these integers
abbrev Left : Stage → ℕ → List Token → List ℤ → Type 0
Left AnyList n ts is = LeftList n ts is
Left FirstItem n ts is = (m : ℕ) → n ≡ suc m → Nothing n ts is ⊎ LeftItems m ts is
Left Item n ts is = (m : ℕ) → n ≡ suc m → LeftItems m ts is
Left Number n ts is = (m : ℕ) → n ≡ suc m → LeftNumber m ts is
Left ItemEnd n ts is = (m : ℕ) → n ≡ suc m → LeftEnd m ts is
Left StringEnd n ts is = Nothing n ts is ⊎ LeftStrings n ts is
Left ListEnd n ts is = Nothing n ts is

inside_more : (us vs : List Token) (i : ℤ) (d : Datum) → ReadsInteger us i → Inside vs d → Inside (us ++ (comma ∷ vs)) (term.cons (term.int i) d)
inside_more us vs i d r (inl more) = inl (next us vs i term.nil d r more)
inside_more us vs i d r (inr h) =
    inr (us ++ (comma ∷ h.0), h.1, h.2, ap (λ t. us ++ (comma ∷ t)) h.3 ∙ sym (append_assoc us (comma ∷ h.0) (bar ∷ h.1)), h.4, next us h.0 i h.2 d r h.5)

-- an integer before what stands behind it
element : (us : List Token) (i : ℤ) → ReadsInteger us i → (m : ℕ) (ts : List Token) (is : List ℤ) → LeftEnd m ts is → LeftItems m (us ++ ts) (i ∷ is)
element us i r m ts is (at_close n) = record { us = us; cut = refl; inside = inl (last us i term.nil r) }
element us i r m ts is (at_comma n vs js h) = record {
  us = us ++ (comma ∷ h.us);
  cut = ap (λ t. us ++ (comma ∷ t)) h.cut ∙ sym (append_assoc us (comma ∷ h.us) (close ∷ closing n));
  inside = inside_more us h.us i (list_of js) r h.inside;
}
element us i r m ts is (at_bar n vs js h) = record {
  us = us ++ (bar ∷ h.us);
  cut = ap (λ t. us ++ (bar ∷ t)) h.cut ∙ sym (append_assoc us (bar ∷ h.us) (close ∷ closing n));
  inside = inr (us, h.us, list_of js, refl, h.reads, last us i (list_of js) r);
}

-- a list in brackets
bracketed : (us : List Token) (d : Datum) → Inside us d → ReadsList (token.Mark mark.BracketOpen ∷ (us ++ (close ∷ []))) d
bracketed us d (inl r) = items us d r
bracketed us d (inr h) =
    let same : h.0 ++ (bar ∷ (h.1 ++ (close ∷ []))) ≡ us ++ (close ∷ []) = sym (append_assoc h.0 (bar ∷ h.1) (close ∷ [])) ∙ ap (λ t. t ++ (close ∷ [])) (sym h.3) in
    let P : List Token → Type 0 = λ t. ReadsList (token.Mark mark.BracketOpen ∷ t) d in
    subst P same (tailed h.0 h.1 h.2 d h.4 h.5)

record Adds (is : List ℤ) (o : Option (List ℤ)) (js : List ℤ) : Type 0 where
  ks : List ℤ
  rest : o ≡ Some ks
  all : js ≡ is ++ ks

onto_some : (is : List ℤ) (o : Option (List ℤ)) (js : List ℤ) → onto is o ≡ Some js → Adds is o js
onto_some is None js h = absurd (cc)
onto_some is (Some ks) js h = record { ks = ks; rest = refl; all = cc }

abbrev Signs : Sign → Mark → Type 0
Signs opens m = m ≡ mark.BracketOpen
Signs closes m = m ≡ mark.BracketClose
Signs parts m = m ≡ mark.Comma
Signs bars m = m ≡ mark.Bar
Signs negates m = m ≡ mark.Minus
Signs another m = Unit {0}

sign_is : (m : Mark) → Signs (sign_of m) m
sign_is mark.BracketOpen = refl
sign_is mark.BracketClose = refl
sign_is mark.Comma = refl
sign_is mark.Bar = refl
sign_is mark.Minus = refl
sign_is _ = tt

abbrev Sound : List Token → Type 0
Sound ts = (s : Stage) (n : ℕ) (is : List ℤ) → run s n ts ≡ Some is → Left s n ts is

-- a mark, as its sign leads on
abbrev MarkLeads : Sign → Stage → ℕ → List Token → List ℤ → Type 0
MarkLeads g s n ts is = option_and_then (λ (p : Place). onto [] (run p.stage p.brackets ts)) (behind_sign g s n) ≡ Some is

at_end : (s : Stage) (n : ℕ) (is : List ℤ) → run s n [] ≡ Some is → Left s n [] is
unfolding run
at_end AnyList n is h = absurd (cc)
at_end FirstItem n is h = absurd (cc)
at_end Item n is h = absurd (cc)
at_end Number n is h = absurd (cc)
at_end ItemEnd n is h = absurd (cc)
at_end StringEnd n is h =
    let e = cond_some (nat_eq n 0) [] is h in
    inl (ap closing (sym (eqb-true n 0 e.0)), sym e.1)
at_end ListEnd n is h =
    let e = cond_some (nat_eq n 0) [] is h in
    (ap closing (sym (eqb-true n 0 e.0)), sym e.1)

-- a string before what stands behind it
string_left : (cs : List ℕ) (n : ℕ) (ts : List Token) (is : List ℤ) → Nothing n ts is ⊎ LeftStrings n ts is → LeftStrings n (token.Str cs ∷ ts) (map pos cs ++ is)
string_left cs n ts is (inl h) = record {
  us = token.Str cs ∷ [];
  cs = cs;
  cut = ap (λ t. token.Str cs ∷ t) h.0;
  reads = one cs;
  adds = ap (λ js. map pos cs ++ js) h.1 ∙ append-nil (map pos cs);
}
string_left cs n ts is (inr h) = record {
  us = token.Str cs ∷ h.us;
  cs = cs ++ h.cs;
  cut = ap (λ t. token.Str cs ∷ t) h.cut;
  reads = further cs h.cs h.us h.reads;
  adds = ap (λ js. map pos cs ++ js) h.adds ∙ sym (map-append pos cs h.cs);
}

strings_list : (n : ℕ) (ts : List Token) (is : List ℤ) → LeftStrings n ts is → LeftList n ts is
strings_list n ts is h =
    let P : Datum → Type 0 = λ d. ReadsList h.us d in
    record { us = h.us; cut = h.cut; reads = subst P (string_list h.cs ∙ ap list_of (sym h.adds)) (string h.us h.cs h.reads) }

opened_list : (n : ℕ) (ts : List Token) (is : List ℤ) → Nothing (suc n) ts is ⊎ LeftItems n ts is → LeftList n (token.Mark mark.BracketOpen ∷ ts) is
opened_list n ts is (inl h) =
    let P : Datum → Type 0 = λ d. ReadsList (token.Mark mark.BracketOpen ∷ close ∷ []) d in
    record {
      us = token.Mark mark.BracketOpen ∷ close ∷ [];
      cut = ap (λ t. token.Mark mark.BracketOpen ∷ t) h.0;
      reads = subst P (ap list_of (sym h.1)) empty;
    }
opened_list n ts is (inr h) = record {
  us = token.Mark mark.BracketOpen ∷ (h.us ++ (close ∷ []));
  cut = ap (λ t. token.Mark mark.BracketOpen ∷ t) (h.cut ∙ sym (append_assoc h.us (close ∷ []) (closing n)));
  reads = bracketed h.us (list_of is) h.inside;
}

list_mark : (g : Sign) (n : ℕ) (m : Mark) (ts : List Token) (is : List ℤ) → Signs g m → Sound ts → MarkLeads g AnyList n ts is → LeftList n (token.Mark m ∷ ts) is
list_mark opens n m ts is e ih h =
    let a = onto_some [] (run FirstItem (suc n) ts) is h in
    let P : Mark → Type 0 = λ x. LeftList n (token.Mark x ∷ ts) is in
    let Q : List ℤ → Type 0 = λ js. LeftList n (token.Mark mark.BracketOpen ∷ ts) js in
    subst P (sym e) (subst Q (sym a.all) (opened_list n ts a.ks (ih FirstItem (suc n) a.ks a.rest n refl)))
list_mark _ n m ts is e ih h = absurd (cc)

-- a number behind `-`, and what stands behind it
minus_item : (m : Mark) (ts : List Token) (is : List ℤ) → m ≡ mark.Minus → (k : ℕ) (ks : List ℤ) → is ≡ ks → LeftNumber k ts ks → LeftItems k (token.Mark m ∷ ts) is
minus_item m ts is e k ks same h =
    let P : List ℤ → Type 0 = λ js. LeftItems k (token.Mark m ∷ ts) js in
    let Q : List Token → Type 0 = λ us. LeftItems k us (neg_ℤ (pos h.k) ∷ h.js) in
    let there : token.Mark m ∷ ts ≡ token.Mark mark.Minus ∷ token.Int h.k ∷ h.us = ap (λ x. token.Mark x ∷ ts) e ∙ ap (λ us. token.Mark mark.Minus ∷ us) h.cut in
    subst P (sym (same ∙ h.adds)) (subst Q (sym there) (element (token.Mark mark.Minus ∷ token.Int h.k ∷ []) (neg_ℤ (pos h.k)) (negative h.k) k h.us h.js h.ends))

-- the marks that may stand before an integer or within a list, as they lead on
first_mark : (g : Sign) (n : ℕ) (m : Mark) (ts : List Token) (is : List ℤ) → Signs g m → Sound ts → MarkLeads g FirstItem n ts is
    → (k : ℕ) → n ≡ suc k → Nothing n (token.Mark m ∷ ts) is ⊎ LeftItems k (token.Mark m ∷ ts) is
first_mark closes zero m ts is e ih h k same = absurd (cc)
first_mark closes (suc n) m ts is e ih h k same =
    let a = onto_some [] (run ListEnd n ts) is h in
    let none = ih ListEnd n a.ks a.rest in
    inl (ap (λ x. token.Mark x ∷ ts) e ∙ ap (λ t. close ∷ t) none.0, a.all ∙ none.1)
first_mark negates n m ts is e ih h k same =
    let a = onto_some [] (run Number n ts) is h in
    let left = ih Number n a.ks a.rest k same in
    inr (minus_item m ts is e k a.ks a.all left)
first_mark _ n m ts is e ih h k same = absurd (cc)

item_mark : (g : Sign) (n : ℕ) (m : Mark) (ts : List Token) (is : List ℤ) → Signs g m → Sound ts → MarkLeads g Item n ts is
    → (k : ℕ) → n ≡ suc k → LeftItems k (token.Mark m ∷ ts) is
item_mark negates n m ts is e ih h k same =
    let a = onto_some [] (run Number n ts) is h in
    minus_item m ts is e k a.ks a.all (ih Number n a.ks a.rest k same)
item_mark _ n m ts is e ih h k same = absurd (cc)

number_mark : (g : Sign) (n : ℕ) (m : Mark) (ts : List Token) (is : List ℤ) → Signs g m → Sound ts → MarkLeads g Number n ts is
    → (k : ℕ) → n ≡ suc k → LeftNumber k (token.Mark m ∷ ts) is
number_mark opens n m ts is e ih h k same = absurd (cc)
number_mark closes n m ts is e ih h k same = absurd (cc)
number_mark parts n m ts is e ih h k same = absurd (cc)
number_mark bars n m ts is e ih h k same = absurd (cc)
number_mark negates n m ts is e ih h k same = absurd (cc)
number_mark another n m ts is e ih h k same = absurd (cc)

end_mark : (g : Sign) (n : ℕ) (m : Mark) (ts : List Token) (is : List ℤ) → Signs g m → Sound ts → MarkLeads g ItemEnd n ts is
    → (k : ℕ) → n ≡ suc k → LeftEnd k (token.Mark m ∷ ts) is
end_mark closes zero m ts is e ih h k same = absurd (cc)
end_mark closes (suc n) m ts is e ih h k same =
    let a = onto_some [] (run ListEnd n ts) is h in
    let none = ih ListEnd n a.ks a.rest in
    let fewer : n ≡ k = omega arith in
    let there : close ∷ closing k ≡ token.Mark m ∷ ts = ap (λ j. close ∷ closing j) (sym fewer) ∙ ap (λ t. close ∷ t) (sym none.0) ∙ ap (λ x. token.Mark x ∷ ts) (sym e) in
    let P : List Token → Type 0 = λ us. LeftEnd k us is in
    let Q : List ℤ → Type 0 = λ js. LeftEnd k (close ∷ closing k) js in
    subst P there (subst Q (sym (a.all ∙ none.1)) (at_close k))
end_mark parts n m ts is e ih h k same =
    let a = onto_some [] (run Item n ts) is h in
    let P : Mark → Type 0 = λ x. LeftEnd k (token.Mark x ∷ ts) is in
    let Q : List ℤ → Type 0 = λ js. LeftEnd k (comma ∷ ts) js in
    subst P (sym e) (subst Q (sym a.all) (at_comma k ts a.ks (ih Item n a.ks a.rest k same)))
end_mark bars n m ts is e ih h k same =
    let a = onto_some [] (run AnyList n ts) is h in
    let P : Mark → Type 0 = λ x. LeftEnd k (token.Mark x ∷ ts) is in
    let Q : List ℤ → Type 0 = λ js. LeftEnd k (bar ∷ ts) js in
    let R : ℕ → Type 0 = λ j. LeftList j ts a.ks in
    subst P (sym e) (subst Q (sym a.all) (at_bar k ts a.ks (subst R same (ih AnyList n a.ks a.rest))))
end_mark _ n m ts is e ih h k same = absurd (cc)

string_mark : (g : Sign) (n : ℕ) (m : Mark) (ts : List Token) (is : List ℤ) → Signs g m → Sound ts → MarkLeads g StringEnd n ts is → Nothing n (token.Mark m ∷ ts) is
string_mark closes zero m ts is e ih h = absurd (cc)
string_mark closes (suc n) m ts is e ih h =
    let a = onto_some [] (run ListEnd n ts) is h in
    let none = ih ListEnd n a.ks a.rest in
    (ap (λ x. token.Mark x ∷ ts) e ∙ ap (λ t. close ∷ t) none.0, a.all ∙ none.1)
string_mark _ n m ts is e ih h = absurd (cc)

closed_mark : (g : Sign) (n : ℕ) (m : Mark) (ts : List Token) (is : List ℤ) → Signs g m → Sound ts → MarkLeads g ListEnd n ts is → Nothing n (token.Mark m ∷ ts) is
closed_mark closes zero m ts is e ih h = absurd (cc)
closed_mark closes (suc n) m ts is e ih h =
    let a = onto_some [] (run ListEnd n ts) is h in
    let none = ih ListEnd n a.ks a.rest in
    (ap (λ x. token.Mark x ∷ ts) e ∙ ap (λ t. close ∷ t) none.0, a.all ∙ none.1)
closed_mark _ n m ts is e ih h = absurd (cc)

-- a number or a character, and what stands behind it
integer_item : (t : Token) (i : ℤ) → ReadsInteger (t ∷ []) i → (n k : ℕ) (ts : List Token) (is : List ℤ) → n ≡ suc k → Sound ts → onto (i ∷ []) (run ItemEnd n ts) ≡ Some is → LeftItems k (t ∷ ts) is
integer_item t i r n k ts is same ih h =
    let a = onto_some (i ∷ []) (run ItemEnd n ts) is h in
    let P : List ℤ → Type 0 = λ js. LeftItems k (t ∷ ts) js in
    subst P (sym a.all) (element (t ∷ []) i r k ts a.ks (ih ItemEnd n a.ks a.rest k same))

-- a string, and what stands behind it
string_item : (cs : List ℕ) (n : ℕ) (ts : List Token) (is : List ℤ) → Sound ts → onto (map pos cs) (run StringEnd n ts) ≡ Some is → LeftStrings n (token.Str cs ∷ ts) is
string_item cs n ts is ih h =
    let a = onto_some (map pos cs) (run StringEnd n ts) is h in
    let P : List ℤ → Type 0 = λ js. LeftStrings n (token.Str cs ∷ ts) js in
    subst P (sym a.all) (string_left cs n ts a.ks (ih StringEnd n a.ks a.rest))

step : (t : Token) (ts : List Token) → Sound ts → Sound (t ∷ ts)
unfolding run
step (token.Mark m) ts ih AnyList n is h = list_mark (sign_of m) n m ts is (sign_is m) ih h
step (token.Mark m) ts ih FirstItem n is h = first_mark (sign_of m) n m ts is (sign_is m) ih h
step (token.Mark m) ts ih Item n is h = item_mark (sign_of m) n m ts is (sign_is m) ih h
step (token.Mark m) ts ih Number n is h = number_mark (sign_of m) n m ts is (sign_is m) ih h
step (token.Mark m) ts ih ItemEnd n is h = end_mark (sign_of m) n m ts is (sign_is m) ih h
step (token.Mark m) ts ih StringEnd n is h = inl (string_mark (sign_of m) n m ts is (sign_is m) ih h)
step (token.Mark m) ts ih ListEnd n is h = closed_mark (sign_of m) n m ts is (sign_is m) ih h
step (token.Int k) ts ih FirstItem n is h = λ j same. inr (integer_item (token.Int k) (pos k) (plain k) n j ts is same ih h)
step (token.Int k) ts ih Item n is h = λ j same. integer_item (token.Int k) (pos k) (plain k) n j ts is same ih h
step (token.Int k) ts ih Number n is h =
    let a = onto_some (neg_ℤ (pos k) ∷ []) (run ItemEnd n ts) is h in
    λ j same. record { k = k; us = ts; js = a.ks; cut = refl; adds = a.all; ends = ih ItemEnd n a.ks a.rest j same }
step (token.Char c) ts ih FirstItem n is h = λ j same. inr (integer_item (token.Char c) (pos c) (character c) n j ts is same ih h)
step (token.Char c) ts ih Item n is h = λ j same. integer_item (token.Char c) (pos c) (character c) n j ts is same ih h
step (token.Str cs) ts ih AnyList n is h = strings_list n (token.Str cs ∷ ts) is (string_item cs n ts is ih h)
step (token.Str cs) ts ih StringEnd n is h = inr (string_item cs n ts is ih h)
step _ ts ih s n is h = absurd (cc)

left : (ts : List Token) → Sound ts
left [] = at_end
left (t ∷ ts) = step t ts (left ts)

-- the tokens are the list of the integers to which they lead
pub sound : (ts : List Token) (is : List ℤ) → run AnyList 0 ts ≡ Some is → ReadsList ts (list_of is)
sound ts is h =
    let l = left ts AnyList 0 is h in
    let P : List Token → Type 0 = λ us. ReadsList us (list_of is) in
    subst P (sym (l.cut ∙ append-nil l.us)) l.reads
