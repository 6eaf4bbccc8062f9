-- Loops over items with a mark between them: what has been read so far, and what is still to be read, are the whole.

use Rattle.std.proofs.Common.{◌≡◌, ℕ, zero, suc, ◌≤◌, ◌<◌, List, [], ◌∷◌, ◌++◌, length, Option, Some, None, refl, sym, ◌∙◌, ap, arith}
use Rattle.edb_scan.specs.declared.lexeme.Mark.{Mark}
use Rattle.edb_scan.specs.declared.lexeme.Placed.{Placed}
use Rattle.edb_grammar.specs.Toks.{Tok, places, funs_with}
use Rattle.edb_grammar.specs.Reading.{Read, behind, items, joined, last_or_more, after_item}
use Rattle.edb_parse.specs.declared.cursor.Cursor.{Cursor}
use Rattle.edb_parse.specs.Cursors.{toks, Moves}
use Rattle.edb_parse.specs.Lists.{gather}

places_length : (n : ℕ) (ts : List Placed) → length (places n ts) ≡ length ts
places_length n [] = refl
places_length n (t ∷ ts) = ap suc (places_length (funs_with n t.token) ts)

-- fewer tokens are left
pub fewer : (from to : Cursor) → Moves from to → length (toks to) < length (toks from)
fewer from to m = omega (arith, m.fewer, places_length from.funs from.tokens.now, places_length to.funs to.tokens.now)

pub moves_on : {a b c : Cursor} → Moves a b → Moves b c → Moves a c
moves_on m n = record { fewer = omega (arith, m.fewer, n.fewer); funs = omega (arith, m.funs, n.funs) }

-- what is read later, behind these items
abbrev pub onto : {A L : Type 0} → (A → L → L) → List A → Option (L × List Tok) → Option (L × List Tok)
onto cons [] o = o
onto cons (a ∷ xs) o = joined cons a (onto cons xs o)

onto_push : {A L : Type 0} (cons : A → L → L) (xs : List A) (a : A) (o : Option (L × List Tok)) → onto cons (xs ++ a ∷ []) o ≡ onto cons xs (joined cons a o)
onto_push cons [] a o = refl
onto_push cons (b ∷ xs) a o = ap (joined cons b) (onto_push cons xs a o)

onto_none : {A L : Type 0} (cons : A → L → L) (xs : List A) → onto cons xs None ≡ None
onto_none cons [] = refl
onto_none cons (a ∷ xs) = ap (joined cons a) (onto_none cons xs)

onto_some : {A L : Type 0} (cons : A → L → L) (nil : L) (xs : List A) (a : A) (rest : List Tok)
    → onto cons xs (Some (cons a nil, rest)) ≡ Some (gather cons nil (xs ++ a ∷ []), rest)
onto_some cons nil [] a rest = refl
onto_some cons nil (b ∷ xs) a rest = ap (joined cons b) (onto_some cons nil xs a rest)

-- these items have been read, and with what `rest` gives they are the whole
pub record Going {A L : Type 0} (cons : A → L → L) (nil : L) (x : Mark) (read : Read A) (whole : Option (L × List Tok)) (xs : List A) (rest : List Tok) : Type 0 where
  pub front : List A
  pub last : A
  pub turns : ℕ
  pub all : xs ≡ front ++ last ∷ []
  pub enough : length rest ≤ turns
  pub so_far : whole ≡ onto cons front (last_or_more cons nil (items cons nil x read turns) last rest (behind x rest))

pub going_start : {A L : Type 0} (cons : A → L → L) (nil : L) (x : Mark) (read : Read A) (ts rest : List Tok) (a : A) → read ts ≡ Some (a, rest) → length rest < length ts
    → Going cons nil x read (items cons nil x read (length ts) ts) (a ∷ []) rest
going_start cons nil x read [] rest a e fewer = absurd (omega (arith, fewer))
going_start cons nil x read (t ∷ ts) rest a e fewer =
    record {
      front = [];
      last = a;
      turns = length ts;
      all = refl;
      enough = omega (arith, fewer);
      so_far = ap (after_item cons nil (items cons nil x read (length ts)) x) e;
    }

pub start_fails : {A L : Type 0} (cons : A → L → L) (nil : L) (x : Mark) (read : Read A) (ts : List Tok) → read ts ≡ None
    → items cons nil x read (length ts) ts ≡ None
start_fails cons nil x read [] e = refl
start_fails cons nil x read (t ∷ ts) e = ap (after_item cons nil (items cons nil x read (length ts)) x) e

-- one turn more: the mark stands first, and behind it another item
turn : {A L : Type 0} (cons : A → L → L) (nil : L) (x : Mark) (read : Read A) (whole : Option (L × List Tok)) (xs : List A) (rest after next : List Tok) (b : A)
    (g : Going cons nil x read whole xs rest) (turns : ℕ) → g.turns ≡ turns → behind x rest ≡ Some after → read after ≡ Some (b, next)
    → length after < length rest → length next < length after → Going cons nil x read whole (xs ++ b ∷ []) next
turn cons nil x read whole xs rest after next b g zero e here more fewer less = absurd (omega (arith, g.enough, e, fewer))
turn cons nil x read whole xs rest after next b g (suc turns) e here more fewer less =
    let at : last_or_more cons nil (items cons nil x read g.turns) g.last rest (behind x rest) ≡ joined cons g.last (last_or_more cons nil (items cons nil x read turns) b next (behind x next)) =
    ap (λ n. last_or_more cons nil (items cons nil x read n) g.last rest (behind x rest)) e
    ∙ (ap (last_or_more cons nil (items cons nil x read (suc turns)) g.last rest) here
    ∙ ap (λ o. joined cons g.last (after_item cons nil (items cons nil x read turns) x o)) more) in
    record {
      front = xs;
      last = b;
      turns = turns;
      all = refl;
      enough = omega (arith, g.enough, e, fewer, less);
      so_far = g.so_far ∙ (ap (onto cons g.front) at
          ∙ (sym (onto_push cons g.front g.last (last_or_more cons nil (items cons nil x read turns) b next (behind x next)))
          ∙ ap (λ l. onto cons l (last_or_more cons nil (items cons nil x read turns) b next (behind x next))) (sym g.all)));
    }

pub going_next : {A L : Type 0} (cons : A → L → L) (nil : L) (x : Mark) (read : Read A) (whole : Option (L × List Tok)) (xs : List A) (rest after next : List Tok) (b : A)
    → Going cons nil x read whole xs rest → behind x rest ≡ Some after → read after ≡ Some (b, next)
    → length after < length rest → length next < length after → Going cons nil x read whole (xs ++ b ∷ []) next
going_next cons nil x read whole xs rest after next b g here more fewer less = turn cons nil x read whole xs rest after next b g g.turns refl here more fewer less

fails : {A L : Type 0} (cons : A → L → L) (nil : L) (x : Mark) (read : Read A) (whole : Option (L × List Tok)) (xs : List A) (rest after : List Tok)
    (g : Going cons nil x read whole xs rest) (turns : ℕ) → g.turns ≡ turns → behind x rest ≡ Some after → read after ≡ None
    → length after < length rest → whole ≡ None
fails cons nil x read whole xs rest after g zero e here more fewer = absurd (omega (arith, g.enough, e, fewer))
fails cons nil x read whole xs rest after g (suc turns) e here more fewer =
    let at : last_or_more cons nil (items cons nil x read g.turns) g.last rest (behind x rest) ≡ None =
    ap (λ n. last_or_more cons nil (items cons nil x read n) g.last rest (behind x rest)) e
    ∙ (ap (last_or_more cons nil (items cons nil x read (suc turns)) g.last rest) here
    ∙ ap (λ o. joined cons g.last (after_item cons nil (items cons nil x read turns) x o)) more) in
    g.so_far ∙ (ap (onto cons g.front) at ∙ onto_none cons g.front)

pub going_fails : {A L : Type 0} (cons : A → L → L) (nil : L) (x : Mark) (read : Read A) (whole : Option (L × List Tok)) (xs : List A) (rest after : List Tok)
    → Going cons nil x read whole xs rest → behind x rest ≡ Some after → read after ≡ None → length after < length rest → whole ≡ None
going_fails cons nil x read whole xs rest after g here more fewer = fails cons nil x read whole xs rest after g g.turns refl here more fewer

pub going_ends : {A L : Type 0} (cons : A → L → L) (nil : L) (x : Mark) (read : Read A) (whole : Option (L × List Tok)) (xs : List A) (rest : List Tok)
    → Going cons nil x read whole xs rest → behind x rest ≡ None → whole ≡ Some (gather cons nil xs, rest)
going_ends cons nil x read whole xs rest g none_here =
    g.so_far ∙ (ap (λ o. onto cons g.front (last_or_more cons nil (items cons nil x read g.turns) g.last rest o)) none_here
    ∙ (onto_some cons nil g.front g.last rest ∙ ap (λ l. Some (gather cons nil l, rest)) (sym g.all)))
