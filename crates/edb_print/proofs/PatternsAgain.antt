-- Patterns and strings are read again from their layout.

use Rattle.std.proofs.Common.{◌≡◌, ℕ, ◌+◌, zero, suc, pos, neg_ℤ, List, [], ◌∷◌, ◌++◌, refl, ap}
use Rattle.edb_scan.specs.declared.lexeme.Mark.TheVariants as mark
use Rattle.edb_scan.specs.declared.lexeme.Token.TheVariants.{Str}
use Rattle.edb_syntax.specs.Patterns.{Pat, Pats, int, atom, string, variable, any, tuple, list, list_with_tail, both, none, more, pats_count}
use Rattle.edb_grammar.specs.Toks.{Tok, line_at}
use Rattle.edb_grammar.specs.Strings.{ReadsString, last_string, next_string}
use Rattle.edb_grammar.specs.Patterns.{ReadsVariable, a_variable, anything, ReadsPat, p_variable, p_integer, p_negative, p_character, p_atom, p_string, p_tuple, p_list, p_list_with_tail, p_both, ReadsPats, one_pattern, more_patterns, ReadsPatsOrNone, no_patterns, some_patterns}
use Rattle.edb_print.specs.Pieces.{Gap, tight, blank, Piece, piece, sign}
use Rattle.edb_print.specs.Layout.{lay_pattern, lay_patterns, lay_more_patterns}
use Rattle.edb_print.specs.Unlined.{unlined_pattern, unlined_patterns}
use Rattle.edb_print.proofs.SoundTokens.{scalars_append}
use Rattle.edb_print.proofs.Reread.{Reread, Twin, done, swap, mark_then, left_out, character, join, mapped, relaid, alone}

-- strings in a row are one
pub string_again : {ts : List Tok} {cs : List ℕ} → ReadsString ts cs → (g : Gap) → Reread (λ us. ReadsString us cs) (piece g (Str cs) ∷ []) ts
string_again last_string g = swap refl (λ n. refl) (λ w. w) (λ q. done last_string)
string_again (next_string {ds = ds} s cs r) g = record {
  at_each = λ n l c.
      let a = (string_again r g).at_each n l c.2 in
      record { holds = last_string; funs = a.funs; calm = (refl, tt); sound = (scalars_append cs ds c.1 a.sound.0, tt) };
}

-- a variable or `_`, and what follows it
pub variable_then : {P : List Tok → Type 0} {t : Tok} {p : Pat} (g : Gap) {ps : List Piece} {ts : List Tok} → ReadsVariable t p
    → ((v : Tok) (q : Pat) → ReadsVariable v q → unlined_pattern q ≡ unlined_pattern p → Reread (λ us. P (v ∷ us)) ps ts)
    → Reread P (lay_pattern g p ++ ps) (t ∷ ts)
variable_then g (a_variable named) k = swap refl (λ n. refl) (λ w. w) (λ q. k _ _ (a_variable named) refl)
variable_then g anything k = swap refl (λ n. refl) (λ w. w) (λ q. k _ _ anything refl)

-- what follows a first pattern is a comma and the others
more_patterns_laid : {ts : List Tok} {ps : Pats} → ReadsPats ts ps → lay_more_patterns ps ≡ sign tight mark.Comma ∷ lay_patterns blank ps
more_patterns_laid (one_pattern r) = refl
more_patterns_laid (more_patterns s r rs) = refl

mutual
  pub pattern_again : {k : ℕ} {ts : List Tok} {p : Pat} → ReadsPat k ts p → (g : Gap) → Reread (Twin (ReadsPat k) unlined_pattern p) (lay_pattern g p) ts
  pattern_again (p_variable (a_variable {s} {x} named)) g =
      swap refl (λ n. refl) (λ w. w) (λ q. done (record { tree = variable q.line x; reads = p_variable (a_variable named); same = refl }))
  pattern_again (p_variable anything) g =
      swap refl (λ n. refl) (λ w. w) (λ q. done (record { tree = any q.line; reads = p_variable anything; same = refl }))
  pattern_again (p_integer {n = n} h) g =
      swap refl (λ m. refl) (λ w. w) (λ q. done (record { tree = int q.line (pos n); reads = p_integer h; same = refl }))
  pattern_again (p_negative {n = zero} h) g = left_out (λ m. refl) (swap refl (λ m. refl) (λ w. w) (λ q.
      done (record { tree = int q.line (pos zero); reads = p_integer h; same = refl })))
  pattern_again (p_negative {n = suc n} h) g = mark_then (λ q e. swap refl (λ m. refl) (λ w. w) (λ z.
      done (record { tree = int q.line (neg_ℤ (pos (suc n))); reads = p_negative h; same = refl })))
  pattern_again (p_character {c = c}) g =
      character (λ h q. record { tree = int q.line (pos c); reads = p_integer h; same = refl })
  pattern_again (p_atom {a = a}) g =
      swap refl (λ m. refl) (λ w. w) (λ q. done (record { tree = atom q.line a; reads = p_atom; same = refl }))
  pattern_again (p_string {cs = cs} r) g =
      mapped (λ us s. record { tree = string (line_at us) cs; reads = p_string s; same = refl }) (string_again r g)
  pattern_again (p_tuple o c r) g = mark_then (λ q e. join (patterns_or_none_again r tight) (λ us a. mark_then (λ z f.
      done (record { tree = tuple q.line a.tree; reads = p_tuple q z a.reads; same = λ i. tuple 0 (a.same i) }))))
  pattern_again (p_list o c r) g = mark_then (λ q e. join (patterns_or_none_again r tight) (λ us a. mark_then (λ z f.
      done (record { tree = list q.line a.tree; reads = p_list q z a.reads; same = λ i. list 0 (a.same i) }))))
  pattern_again (p_list_with_tail o b c rs r) g = mark_then (λ q e. join (patterns_again rs tight) (λ us a. mark_then (λ y f.
      join (pattern_again r blank) (λ vs t. mark_then (λ z f.
      done (record {
        tree = list_with_tail q.line a.tree t.tree;
        reads = p_list_with_tail q y z a.reads t.reads;
        same = λ i. list_with_tail 0 (a.same i) (t.same i);
      }))))))
  pattern_again (p_both s r rs) g = join (pattern_again r g) (λ us a. mark_then (λ y f. mapped (λ vs b.
      record { tree = both (line_at us) a.tree b.tree; reads = p_both y a.reads b.reads; same = λ i. both 0 (a.same i) (b.same i) })
      (pattern_again rs blank)))

  pub patterns_again : {ts : List Tok} {ps : Pats} → ReadsPats ts ps → (g : Gap) → Reread (Twin ReadsPats unlined_patterns ps) (lay_patterns g ps) ts
  patterns_again (one_pattern r) g =
      alone (mapped (λ us a. record { tree = more a.tree none; reads = one_pattern a.reads; same = λ i. more (a.same i) none }) (pattern_again r g))
  patterns_again (more_patterns {p = p} s r rs) g = relaid (ap (λ v. lay_pattern g p ++ v) (more_patterns_laid rs))
      (join (pattern_again r g) (λ us a. mark_then (λ y f. mapped (λ vs b.
      record { tree = more a.tree b.tree; reads = more_patterns y a.reads b.reads; same = λ i. more (a.same i) (b.same i) })
      (patterns_again rs blank))))

  pub patterns_or_none_again : {ts : List Tok} {ps : Pats} → ReadsPatsOrNone ts ps → (g : Gap)
      → Reread (Twin ReadsPatsOrNone unlined_patterns ps) (lay_patterns g ps) ts
  patterns_or_none_again no_patterns g = done (record { tree = none; reads = no_patterns; same = refl })
  patterns_or_none_again (some_patterns r) g =
      mapped (λ us a. record { tree = a.tree; reads = some_patterns a.reads; same = a.same }) (patterns_again r g)

-- patterns that are the same but for lines are as many
pub count_unlined : (ps : Pats) → pats_count (unlined_patterns ps) ≡ pats_count ps
count_unlined none = refl
count_unlined (more p ps) = ap (λ n. n + 1) (count_unlined ps)
