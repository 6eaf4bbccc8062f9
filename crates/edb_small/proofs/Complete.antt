-- What is written is read again: single tokens and lists.

use Rattle.std.proofs.Common.{◌≡◌, ℕ, zero, suc, ◌+◌, ◌<◌, true, false, List, [], ◌∷◌, ◌++◌, length, Option, None, Some, refl, sym, ap, ◌∙◌, subst, append_assoc, arith, length-append}
use Rattle.std.specs.Prelude.{nat_lt}
use Rattle.std.proofs.lemmas.List.{append-nil}
use Rattle.std.proofs.lemmas.Bool.{eq-eqb}
use denote.Enum.Bare.{true_same}
use Rattle.edb_scan.specs.contracts.lexeme.Mark.{the_type}
use Rattle.edb_scan.specs.declared.lexeme.Mark.{Mark}
use Rattle.edb_scan.specs.declared.lexeme.Token.{Token}
use Rattle.edb_scan.specs.declared.lexeme.Token.TheVariants as token
use Rattle.edb_scan.specs.declared.lexeme.Placed.{Placed}
use Rattle.edb_lang.specs.TermText.{same_name}
use Rattle.edb_small.specs.Grammar.{Written, sign, word, dot, IsOnLine}
use Rattle.edb_small.specs.Conditions.{is_capital}
use Rattle.edb_small.specs.Descent.{Read, Found, same_mark, is_mark, is_dot, behind, behind_dot, atom_at, variable_in, variable_at, arity_at, behind_word, beyond_int, more, others, some_closed, closed}
use Rattle.edb_small.proofs.Spelled.{Each, run}

-- an integer is below 2 ^ 127
abbrev pub IsFine : Token → Type 0
IsFine (token.Int n) = n < beyond_int
IsFine _ = Unit {0}

-- the tokens agree with what is written, and their integers fit
abbrev pub Meets : List Placed → List Written → Type 0
Meets [] [] = Unit {0}
Meets (p ∷ ps) (w ∷ ws) = (p.token ≡ w.1) × IsOnLine w.0 p.line × IsFine w.1 × Meets ps ws
Meets _ _ = ⊥

pub meets_length : (ts : List Placed) (ws : List Written) → Meets ts ws → length ts ≡ length ws
meets_length [] [] h = refl
meets_length [] (w ∷ ws) h = absurd h
meets_length (p ∷ ps) [] h = absurd h
meets_length (p ∷ ps) (w ∷ ws) h = ap suc (meets_length ps ws h.3)

pub meets_as : (ts : List Placed) (vs ws : List Written) → vs ≡ ws → Meets ts vs → Meets ts ws
meets_as ts vs ws e h = subst (λ xs. Meets ts xs) e h

-- the tokens behind what was read
pub record Goes (answer : Option (List Placed)) (tail : List Written) : Type 0 where
  pub rest : List Placed
  pub found : answer ≡ Some rest
  pub meets : Meets rest tail

-- the tree that was read, and the tokens behind it
pub record Reads {A : Type 0} (answer : Option (A × List Placed)) (x : A) (tail : List Written) : Type 0 where
  pub rest : List Placed
  pub found : answer ≡ Some (x, rest)
  pub meets : Meets rest tail

-- Single tokens.

same_mark_self : (x : Mark) → same_mark x x ≡ true
unfolding same_mark
same_mark_self x = true_same the_type x x refl

pub behind_goes : (x : Mark) (ts : List Placed) (ws : List Written) → Meets ts (sign x ∷ ws) → Goes (behind x ts) ws
unfolding behind
behind_goes x [] ws h = absurd h
behind_goes x (p ∷ ps) ws h =
    let here : is_mark x p.token ≡ true = ap (is_mark x) h.0 ∙ same_mark_self x in
    record { rest = ps; found = rw here refl; meets = h.3 }

pub dot_goes : (ts : List Placed) (ws : List Written) → Meets ts (dot ∷ ws) → Goes (behind_dot ts) ws
unfolding behind_dot
dot_goes [] ws h = absurd h
dot_goes (p ∷ ps) ws h =
    let here : is_dot p.token ≡ true = ap is_dot h.0 in
    record { rest = ps; found = rw here refl; meets = h.3 }

-- the tokens begin with something else
pub behind_none : (x : Mark) (w : Written) (ts : List Placed) (ws : List Written) → is_mark x w.1 ≡ false → Meets ts (w ∷ ws) → behind x ts ≡ None
unfolding behind
behind_none x w [] ws e h = absurd h
behind_none x w (p ∷ ps) ws e h = let here : is_mark x p.token ≡ false = ap (is_mark x) h.0 ∙ e in rw here refl

pub atom_reads : (l : ℕ) (a : List ℕ) (ts : List Placed) (ws : List Written) → Meets ts ((Some l, token.Atom a) ∷ ws) → Reads (atom_at ts) (l, a) ws
unfolding atom_at
atom_reads l a [] ws h = absurd h
atom_reads l a (p ∷ ps) ws h = record { rest = ps; found = rw h.0 (ap (λ k. Some ((k, a), ps)) (sym h.1)); meets = h.3 }

-- an atom without a line in the tree
pub record ReadsWord (answer : Option (Found × List Placed)) (a : List ℕ) (tail : List Written) : Type 0 where
  pub line : ℕ
  pub rest : List Placed
  pub found : answer ≡ Some ((line, a), rest)
  pub meets : Meets rest tail

pub word_reads : (a : List ℕ) (ts : List Placed) (ws : List Written) → Meets ts (word a ∷ ws) → ReadsWord (atom_at ts) a ws
unfolding atom_at
word_reads a [] ws h = absurd h
word_reads a (p ∷ ps) ws h = record { line = p.line; rest = ps; found = rw h.0 refl; meets = h.3 }

same_name_self : (a : List ℕ) → same_name a a ≡ true
same_name_self [] = refl
same_name_self (x ∷ a) = rw (eq-eqb x x refl) (same_name_self a)

pub behind_word_goes : (a : List ℕ) (ts : List Placed) (ws : List Written) → Meets ts (word a ∷ ws) → Goes (behind_word a ts) ws
unfolding behind_word
behind_word_goes a ts ws h =
    let r = word_reads a ts ws h in
    record { rest = r.rest; found = rw r.found (rw (same_name_self a) refl); meets = r.meets }

pub variable_reads : (l : ℕ) (x : List ℕ) (ts : List Placed) (ws : List Written) → is_capital x ≡ true → Meets ts ((Some l, token.Var x) ∷ ws) → Reads (variable_at ts) (l, x) ws
unfolding variable_at
variable_reads l x [] ws c h = absurd h
variable_reads l x (p ∷ ps) ws c h = record { rest = ps; found = rw (h.0, c) (ap (λ k. Some ((k, x), ps)) (sym h.1)); meets = h.3 }

-- the tokens begin with no variable
pub variable_none : (w : Written) (ts : List Placed) (ws : List Written) → ((l : ℕ) (ps : List Placed) → variable_in l w.1 ps ≡ None) → Meets ts (w ∷ ws) → variable_at ts ≡ None
unfolding variable_at
variable_none w [] ws e h = absurd h
variable_none w (p ∷ ps) ws e h = ap (λ t. variable_in p.line t ps) h.0 ∙ e p.line ps

pub arity_reads : (n : ℕ) (ts : List Placed) (ws : List Written) → nat_lt n 4294967296 ≡ true → Meets ts ((None, token.Int n) ∷ ws) → Reads (arity_at ts) n ws
unfolding arity_at
arity_reads n [] ws small h = absurd h
arity_reads n (p ∷ ps) ws small h = record { rest = ps; found = rw (h.0, small) refl; meets = h.3 }

-- Lists.

module _ (A : Type 0) (f : Read A) (w : A → List Written) (next : List Placed → Option (List Placed)) (before : List Written) (Follows : List Written → Type 0) where
  -- a thing is read where it is written and something that may follow is written behind it
  pub record IsRead (x : A) : Type 0 where
    pub reads : (ts : List Placed) (tail : List Written) → Follows tail → Meets ts (w x ++ tail) → Reads (f ts) x tail

  -- what parts the things, and what ends them
  pub record Parts (tail : List Written) : Type 0 where
    pub goes : (x : A) (ts : List Placed) (ws : List Written) → Meets ts (before ++ (w x ++ ws)) → Goes (next ts) (w x ++ ws)
    pub grows : (x : A) → 0 < length before + length (w x)
    pub follows : (x : A) (ws : List Written) → Follows (before ++ (w x ++ ws))
    pub follows_end : Follows tail
    pub ends : (ts : List Placed) → Meets ts tail → next ts ≡ None

  pub record ReadsAll (turns : ℕ) (xs : List A) (ts : List Placed) (ys : List A) (tail : List Written) : Type 0 where
    pub rest : List Placed
    pub found : more next f turns xs ts ≡ Some (xs ++ ys, rest)
    pub meets : Meets rest tail

  after_all : (tail : List Written) → Parts tail → (ys : List A) → Follows (run A before w ys ++ tail)
  after_all tail p [] = p.follows_end
  after_all tail p (y ∷ ys) = subst Follows (sym (append_assoc before (w y ++ run A before w ys) tail ∙ ap (λ ws. before ++ ws) (append_assoc (w y) (run A before w ys) tail))) (p.follows y (run A before w ys ++ tail))

  end_found : (turns : ℕ) (xs : List A) (ts : List Placed) → length ts < turns → next ts ≡ None → more next f turns xs ts ≡ Some (xs ++ [], ts)
  unfolding more
  end_found zero xs ts h n = absurd (omega arith)
  end_found (suc turns) xs ts h n = rw (n, more) (ap (λ zs. Some (zs, ts)) (sym (append-nil xs)))

  turn_found : (turns : ℕ) (xs : List A) (y : A) (ts us vs : List Placed) → next ts ≡ Some us → f us ≡ Some (y, vs) → more next f (suc turns) xs ts ≡ more next f turns (xs ++ (y ∷ [])) vs
  unfolding more
  turn_found turns xs y ts us vs n k = rw (n, k, more) refl

  pub reads_all : (tail : List Written) → Parts tail → (ys : List A) → Each A IsRead ys → (turns : ℕ) (xs : List A) (ts : List Placed) → length ts < turns
      → Meets ts (run A before w ys ++ tail) → ReadsAll turns xs ts ys tail
  reads_all tail p [] each turns xs ts enough h = record { rest = ts; found = end_found turns xs ts enough (p.ends ts h); meets = h }
  reads_all tail p (y ∷ ys) each zero xs ts enough h = absurd (omega arith)
  reads_all tail p (y ∷ ys) each (suc turns) xs ts enough h =
      let grouped = append_assoc before (w y ++ run A before w ys) tail ∙ ap (λ ws. before ++ ws) (append_assoc (w y) (run A before w ys) tail) in
      let here = meets_as ts ((before ++ (w y ++ run A before w ys)) ++ tail) (before ++ (w y ++ (run A before w ys ++ tail))) grouped h in
      let us = p.goes y ts (run A before w ys ++ tail) here in
      let one = each.0.reads us.rest (run A before w ys ++ tail) (after_all tail p ys) us.meets in
      let whole_is = meets_length ts (before ++ (w y ++ (run A before w ys ++ tail))) here in
      let rest_is = meets_length one.rest (run A before w ys ++ tail) one.meets in
      let enough_left : length one.rest < turns =
      omega (arith, p.grows y, length-append before (w y ++ (run A before w ys ++ tail)), length-append (w y) (run A before w ys ++ tail)) in
      let others = reads_all tail p ys each.1 turns (xs ++ (y ∷ [])) one.rest enough_left one.meets in
      record {
        rest = others.rest;
        found = turn_found turns xs y ts us.rest one.rest us.found one.found ∙ others.found ∙ ap (λ zs. Some (zs, others.rest)) (append_assoc xs (y ∷ []) ys);
        meets = others.meets;
      }

module _ (A : Type 0) (f : Read A) (close : Mark) where
  pub closed_empty : (ts rest : List Placed) → behind close ts ≡ Some rest → closed f close ts ≡ Some ([], rest)
  unfolding closed
  closed_empty ts rest n = rw (n, closed) refl

  pub some_closed_found : (ts us vs rest : List Placed) (x : A) (xs : List A) → f ts ≡ Some (x, us) → others f (x ∷ []) us ≡ Some (xs, vs)
      → behind close vs ≡ Some rest → some_closed f close ts ≡ Some (xs, rest)
  unfolding some_closed
  some_closed_found ts us vs rest x xs one all end = rw (one, all, end) refl

  pub closed_some : (ts us vs rest : List Placed) (x : A) (xs : List A) → behind close ts ≡ None → f ts ≡ Some (x, us) → others f (x ∷ []) us ≡ Some (xs, vs)
      → behind close vs ≡ Some rest → closed f close ts ≡ Some (xs, rest)
  unfolding closed
  closed_some ts us vs rest x xs n one all end = rw (n, closed) (some_closed_found ts us vs rest x xs one all end)
