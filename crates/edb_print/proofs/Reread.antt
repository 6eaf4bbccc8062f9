-- Pieces beside the tokens for which they stand: the pieces, wherever they are put, are read again.

use Rattle.std.proofs.Common.{◌≡◌, ℕ, ◌≤◌, false, List, [], ◌∷◌, ◌++◌, refl, sym, ◌∙◌, ap, subst, append-nil}
use Rattle.edb_scan.specs.declared.lexeme.Mark.{Mark}
use Rattle.edb_scan.specs.declared.lexeme.Mark.TheVariants as mark
use Rattle.edb_scan.specs.declared.lexeme.Token.{Token}
use Rattle.edb_scan.specs.declared.lexeme.Token.TheVariants as token
use Rattle.edb_scan.specs.declared.lexeme.Token.TheVariants.{Int, Char}
use Rattle.edb_scan.specs.declared.lexeme.Placed.{Placed}
use Rattle.edb_grammar.specs.Toks.{Place, Tok, tok, word, funs_with, places, funs_behind, most_integer}
use Rattle.edb_grammar.specs.Files.{is_dot}
use Rattle.edb_grammar.proofs.FormSteps.{WithoutDot}
use Rattle.edb_print.proofs.SoundTokens.{Sound, AllSound, scalar_small}
use Rattle.edb_print.specs.Pieces.{Gap, tight, Piece, piece, sign, line_behind, tokens_of}

-- the places of these tokens count their `fun`s: so many stand before the first; and each token is one
-- that a text may have
abbrev pub Counts : ℕ → List Tok → Type 0
Counts n [] = Unit {0}
Counts n (tok s t ∷ ts) = (s.funs ≡ n) × Sound t × Counts (funs_with n t) ts

-- how many `fun`s stand before what comes after these tokens, or pieces
abbrev pub funs_past : ℕ → List Tok → ℕ
funs_past n [] = n
funs_past n (tok s t ∷ ts) = funs_past (funs_with n t) ts

abbrev pub funs_laid : ℕ → List Piece → ℕ
funs_laid n [] = n
funs_laid n (p ∷ ps) = funs_laid (funs_with n p.token) ps

-- the line on which these pieces end
abbrev pub line_past : ℕ → List Piece → ℕ
line_past l [] = l
line_past l (p ∷ ps) = line_past (line_behind l p.gap) ps

-- no piece is a dot
abbrev pub Undotted : List Piece → Type 0
Undotted [] = Unit {0}
Undotted (p ∷ ps) = (is_dot p.token ≡ false) × Undotted ps

-- the token of each piece is one that a text may have
abbrev pub SoundPieces : List Piece → Type 0
SoundPieces [] = Unit {0}
SoundPieces (p ∷ ps) = Sound p.token × SoundPieces ps

-- the tokens of pieces at their places, if so many `fun`s stand before them, and what stands before them ends on
-- line l
abbrev pub put : ℕ → ℕ → List Piece → List Tok
put n l ps = places n (tokens_of l ps)

pub counts_front : (n : ℕ) (ts us : List Tok) → Counts n (ts ++ us) → Counts n ts
counts_front n [] us c = tt
counts_front n (tok s t ∷ ts) us c = (c.0, c.1, counts_front (funs_with n t) ts us c.2)

counts_back : (n : ℕ) (ts us : List Tok) → Counts n (ts ++ us) → Counts (funs_past n ts) us
counts_back n [] us c = c
counts_back n (tok s t ∷ ts) us c = counts_back (funs_with n t) ts us c.2

pub funs_past_append : (n : ℕ) (ts us : List Tok) → funs_past n (ts ++ us) ≡ funs_past (funs_past n ts) us
funs_past_append n [] us = refl
funs_past_append n (tok s t ∷ ts) us = funs_past_append (funs_with n t) ts us

pub funs_laid_append : (n : ℕ) (ps qs : List Piece) → funs_laid n (ps ++ qs) ≡ funs_laid (funs_laid n ps) qs
funs_laid_append n [] qs = refl
funs_laid_append n (p ∷ ps) qs = funs_laid_append (funs_with n p.token) ps qs

pub put_append : (n l : ℕ) (ps qs : List Piece) → put n l (ps ++ qs) ≡ put n l ps ++ put (funs_laid n ps) (line_past l ps) qs
put_append n l [] qs = refl
put_append n l (p ∷ ps) qs =
    ap (λ ts. tok (record { line = line_behind l p.gap; funs = n }) p.token ∷ ts) (put_append (funs_with n p.token) (line_behind l p.gap) ps qs)

undotted_append : (ps qs : List Piece) → Undotted ps → Undotted qs → Undotted (ps ++ qs)
undotted_append [] qs u v = v
undotted_append (p ∷ ps) qs u v = (u.0, undotted_append ps qs u.1 v)

pub sound_append : (ps qs : List Piece) → SoundPieces ps → SoundPieces qs → SoundPieces (ps ++ qs)
sound_append [] qs u v = v
sound_append (p ∷ ps) qs u v = (u.0, sound_append ps qs u.1 v)

-- Pieces at one place: P holds of their tokens, they have as many `fun`s as the tokens for which they stand, and no
-- dot, and each token is one that a text may have.
pub record Found (P : List Tok → Type 0) (ps : List Piece) (ts : List Tok) (n l : ℕ) : Type 0 where
  pub holds : P (put n l ps)
  pub funs : funs_laid n ps ≡ funs_past n ts
  pub calm : Undotted ps
  pub sound : SoundPieces ps

-- the same at each place, if the tokens for which they stand count their `fun`s
pub record Reread (P : List Tok → Type 0) (ps : List Piece) (ts : List Tok) : Type 0 where
  pub at_each : (n l : ℕ) → Counts n ts → Found P ps ts n l

-- nothing
pub done : {P : List Tok → Type 0} → P [] → Reread P [] []
done p = record { at_each = λ n l c. record { holds = p; funs = refl; calm = tt; sound = tt } }

-- a token that stands for one with the same effect on the count of `fun`s
pub swap : {P : List Tok → Type 0} {g : Gap} {s : Place} {t u : Token} {ps : List Piece} {ts : List Tok}
    → is_dot t ≡ false → ((n : ℕ) → funs_with n t ≡ funs_with n u) → (Sound u → Sound t)
    → ((q : Place) → Reread (λ us. P (tok q t ∷ us)) ps ts) → Reread P (piece g t ∷ ps) (tok s u ∷ ts)
swap {g} {t} {u} {ps} {ts} calm e fits k = record {
  at_each = λ n l c.
      let q : Place = record { line = line_behind l g; funs = n } in
      let r = (k q).at_each (funs_with n t) (line_behind l g) (subst (λ m. Counts m ts) (sym (e n)) c.2) in
      record {
        holds = r.holds;
        funs = r.funs ∙ ap (λ m. funs_past m ts) (e n);
        calm = (calm, r.calm);
        sound = (fits c.1, r.sound);
      };
}

-- a mark that stands for itself; its place has as many `fun`s before it
pub mark_then : {P : List Tok → Type 0} {g : Gap} {s : Place} {x : Mark} {ps : List Piece} {ts : List Tok}
    → ((q : Place) → q.funs ≡ s.funs → Reread (λ us. P (word q x ∷ us)) ps ts) → Reread P (sign g x ∷ ps) (word s x ∷ ts)
mark_then {g} {x} k = record {
  at_each = λ n l c.
      let q : Place = record { line = line_behind l g; funs = n } in
      let r = (k q (sym c.0)).at_each (funs_with n (token.Mark x)) (line_behind l g) c.2 in
      record { holds = r.holds; funs = r.funs; calm = (refl, r.calm); sound = (tt, r.sound) };
}

-- a token that stands for none
pub added : {P : List Tok → Type 0} {g : Gap} {t : Token} {ps : List Piece} {ts : List Tok}
    → is_dot t ≡ false → ((n : ℕ) → funs_with n t ≡ n) → Sound t
    → ((q : Place) → Reread (λ us. P (tok q t ∷ us)) ps ts) → Reread P (piece g t ∷ ps) ts
added {g} {t} {ts} calm e fits k = record {
  at_each = λ n l c.
      let q : Place = record { line = line_behind l g; funs = n } in
      let r = (k q).at_each (funs_with n t) (line_behind l g) (subst (λ m. Counts m ts) (sym (e n)) c) in
      record {
        holds = r.holds;
        funs = r.funs ∙ ap (λ m. funs_past m ts) (e n);
        calm = (calm, r.calm);
        sound = (fits, r.sound);
      };
}

-- tokens for which no pieces stand: before the others, and after them
pub left_out : {P : List Tok → Type 0} {s : Place} {u : Token} {ps : List Piece} {ts : List Tok}
    → ((n : ℕ) → funs_with n u ≡ n) → Reread P ps ts → Reread P ps (tok s u ∷ ts)
left_out {u} {ts} e r = record {
  at_each = λ n l c.
      let f = r.at_each n l (subst (λ m. Counts m ts) (e n) c.2) in
      record { holds = f.holds; funs = f.funs ∙ ap (λ m. funs_past m ts) (sym (e n)); calm = f.calm; sound = f.sound };
}

-- an integer that stands for a character
pub character : {P : List Tok → Type 0} {g : Gap} {s : Place} {c : ℕ}
    → (c ≤ most_integer → (q : Place) → P (tok q (Int c) ∷ [])) → Reread P (piece g (Int c) ∷ []) (tok s (Char c) ∷ [])
character {g} {c = c} f = record {
  at_each = λ n l d.
      let small = scalar_small c d.1 in
      record { holds = f small (record { line = line_behind l g; funs = n }); funs = refl; calm = (refl, tt); sound = (small, tt) };
}

-- one part after another
pub join : {A P : List Tok → Type 0} {ps qs : List Piece} {ts us : List Tok}
    → Reread A ps ts → ((vs : List Tok) → A vs → Reread (λ ws. P (vs ++ ws)) qs us) → Reread P (ps ++ qs) (ts ++ us)
join {P} {ps} {qs} {ts} {us} r k = record {
  at_each = λ n l c.
      let a = r.at_each n l (counts_front n ts us c) in
      let b = (k (put n l ps) a.holds).at_each (funs_laid n ps) (line_past l ps) (subst (λ m. Counts m us) (sym a.funs) (counts_back n ts us c)) in
      record {
        holds = subst P (sym (put_append n l ps qs)) b.holds;
        funs = funs_laid_append n ps qs ∙ b.funs ∙ ap (λ m. funs_past m us) a.funs ∙ sym (funs_past_append n ts us);
        calm = undotted_append ps qs a.calm b.calm;
        sound = sound_append ps qs a.sound b.sound;
      };
}

-- a tree that the rule R reads, the tree x but for lines
pub record Twin {T : Type 0} (R : List Tok → T → Type 0) (bare : T → T) (x : T) (us : List Tok) : Type 0 where
  pub tree : T
  pub reads : R us tree
  pub same : bare tree ≡ bare x

-- what follows from what holds
pub mapped : {A P : List Tok → Type 0} {ps : List Piece} {ts : List Tok}
    → ((us : List Tok) → A us → P us) → Reread A ps ts → Reread P ps ts
mapped {ps} f r = record {
  at_each = λ n l c. let a = r.at_each n l c in record { holds = f (put n l ps) a.holds; funs = a.funs; calm = a.calm; sound = a.sound };
}

-- the same pieces, and the same tokens, otherwise written
pub relaid : {P : List Tok → Type 0} {ps qs : List Piece} {ts : List Tok} → ps ≡ qs → Reread P qs ts → Reread P ps ts
relaid {P} {ts} e r = subst (λ (vs : List Piece). Reread P vs ts) (sym e) r

pub alone : {P : List Tok → Type 0} {ps : List Piece} {ts : List Tok} → Reread P ps ts → Reread P (ps ++ []) ts
alone {ps} r = relaid (append-nil ps) r

pub beside : {P : List Tok → Type 0} {ps : List Piece} {ts us : List Tok} → ts ≡ us → Reread P ps us → Reread P ps ts
beside {P} {ps} e r = subst (λ (vs : List Tok). Reread P ps vs) (sym e) r

-- pieces for tokens in parentheses, which are in none themselves
pub bared : {P : List Tok → Type 0} {o : Place} {ps : List Piece} {ts : List Tok} (c : Place)
    → Reread P ps ts → Reread P ps (word o mark.ParenOpen ∷ (ts ++ word c mark.ParenClose ∷ []))
bared {P} {ps} {ts} c r = left_out (λ n. refl) (relaid (sym (append-nil ps)) (join r (λ us p.
    left_out (λ n. refl) (done (subst P (sym (append-nil us)) p)))))

-- pieces in parentheses for tokens that are in none
pub wrapped : {A P : List Tok → Type 0} {g : Gap} {ps : List Piece} {ts : List Tok}
    → ((o c : Place) (us : List Tok) → A us → P (word o mark.ParenOpen ∷ (us ++ word c mark.ParenClose ∷ [])))
    → Reread A ps ts → Reread P (sign g mark.ParenOpen ∷ (ps ++ sign tight mark.ParenClose ∷ [])) ts
wrapped {ts} f r = added refl (λ n. refl) tt (λ o. beside (sym (append-nil ts)) (join r (λ us a.
    added refl (λ n. refl) tt (λ c. done (f o c us a)))))

-- tokens put at their places count their `fun`s
pub counts_places : (n : ℕ) (ts : List Placed) → AllSound ts → Counts n (places n ts)
counts_places n [] f = tt
counts_places n (t ∷ ts) f = (refl, f.0, counts_places (funs_with n t.token) ts f.1)

pub funs_past_places : (n : ℕ) (ts : List Placed) → funs_past n (places n ts) ≡ funs_behind n ts
funs_past_places n [] = refl
funs_past_places n (t ∷ ts) = funs_past_places (funs_with n t.token) ts

pub funs_behind_tokens : (n l : ℕ) (ps : List Piece) → funs_behind n (tokens_of l ps) ≡ funs_laid n ps
funs_behind_tokens n l [] = refl
funs_behind_tokens n l (p ∷ ps) = funs_behind_tokens (funs_with n p.token) (line_behind l p.gap) ps

pub tokens_append : (l : ℕ) (ps qs : List Piece) → tokens_of l (ps ++ qs) ≡ tokens_of l ps ++ tokens_of (line_past l ps) qs
tokens_append l [] qs = refl
tokens_append l (p ∷ ps) qs =
    ap (λ (ts : List Placed). record { line = line_behind l p.gap; token = p.token } ∷ ts) (tokens_append (line_behind l p.gap) ps qs)

pub sound_tokens : (l : ℕ) (ps : List Piece) → SoundPieces ps → AllSound (tokens_of l ps)
sound_tokens l [] u = tt
sound_tokens l (p ∷ ps) u = (u.0, sound_tokens (line_behind l p.gap) ps u.1)

pub without_dot : (l : ℕ) (ps : List Piece) → Undotted ps → WithoutDot (tokens_of l ps)
without_dot l [] u = tt
without_dot l (p ∷ ps) u = (u.0, without_dot (line_behind l p.gap) ps u.1)

pub sound_pieces : (l : ℕ) (ps : List Piece) → AllSound (tokens_of l ps) → SoundPieces ps
sound_pieces l [] u = tt
sound_pieces l (p ∷ ps) u = (u.0, sound_pieces (line_behind l p.gap) ps u.1)
