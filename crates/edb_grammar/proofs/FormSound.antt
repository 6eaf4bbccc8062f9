-- Each form that is read is one by the grammar; and each form ends in a dot.

use Rattle.std.proofs.Common.{◌≡◌, ℕ, suc, ◌≤◌, Bool, true, false, if◌then◌else◌, ◌&&◌, ◌==◌, nat_le, max, List, [], ◌∷◌, ◌++◌, length, Option, Some, None, refl, sym, ◌∙◌, ap, subst, append_assoc, codes, arith}
use Rattle.std.specs.Option.{option_map}
use Rattle.std.proofs.lemmas.Bool.{eqb-true, false≢true}
use Rattle.edb_scan.specs.declared.lexeme.Mark.TheVariants as mark
use Rattle.edb_scan.specs.declared.lexeme.Token.TheVariants.{Int, Atom, Dot}
use Rattle.edb_lang.specs.TermText.{same_name}
use Rattle.edb_syntax.specs.Depths.{clauses_depth}
use Rattle.edb_syntax.specs.declared.modules.Export.{Export}
use Rattle.edb_syntax.specs.Syntax.{Exp, ClauseTree, Clauses, FunctionTree, no_clauses, more_clauses}
use Rattle.edb_grammar.specs.Toks.{Place, Tok, tok, word, line_at, open_behind, most_open}
use Rattle.edb_grammar.specs.Expressions.{ReadsClause, ReadsClauses, named, named_clause, last_clause, next_clause, most_parameters}
use Rattle.edb_grammar.specs.Forms.{FormTree, ReadsForm, names, exports, skipped, defines, a_module, an_export, an_attribute, a_function, ReadsEntries, ReadsEntriesOrNone, last_entry, next_entry, no_entries, some_entries, is_passed_over, deepest, most_brackets}
use Rattle.edb_grammar.specs.Reading.{Read, behind, closed, items, made, fork, refuse, provided}
use Rattle.edb_grammar.specs.ExpressionReading.{read_parameters_clause, read_clauses, first_arity, clause_arity, all_have, is_fun, read_name, read_arity}
use Rattle.edb_grammar.specs.FormReading.{read_named_clause, is_end, part_of_form, function_of, function_at, read_function, ended, entry_of, read_entry, read_entries, read_export, read_naming, last_is_dot, is_skipped, read_attribute, form_at, read_form}
use Rattle.edb_grammar.proofs.Parts.{Got, Sound, some_is, none_no, answered, behind_some, closed_some, items_sound}
use Rattle.edb_grammar.proofs.ClimbSound.{onward_some, provided_some, both_true, le_of}
use Rattle.edb_grammar.proofs.ClauseSound.{Any, Closed, closed_sound, made_some, fork_sound, parameters_clause_sound}
use Rattle.edb_grammar.proofs.NodeSound.{name_some, arity_some}
use Rattle.edb_grammar.proofs.ExpressionSound.{part_sound, expression_sound}
use Rattle.edb_grammar.specs.ExpressionReading.{read_expression}

-- a form ends in a dot, so a last list of tokens without one is no form
pub ends_in_dot : {ts : List Tok} {f : FormTree} → ReadsForm ts f → (front : List Tok) × (d : Place) × (ts ≡ front ++ tok d Dot ∷ [])
ends_in_dot (a_module {m} h a o s c d) =
    (word h mark.Minus ∷ tok a (Atom (codes "module")) ∷ word o mark.ParenOpen ∷ tok s (Atom m) ∷ word c mark.ParenClose ∷ [], d, refl)
ends_in_dot (an_export {ts} h a o p q c d r) = (
  word h mark.Minus ∷ tok a (Atom (codes "export")) ∷ word o mark.ParenOpen ∷ word p mark.BracketOpen
      ∷ (ts ++ word q mark.BracketClose ∷ word c mark.ParenClose ∷ []),
  d,
  ap (λ v. word h mark.Minus ∷ tok a (Atom (codes "export")) ∷ word o mark.ParenOpen ∷ word p mark.BracketOpen ∷ v)
      (sym (append_assoc ts (word q mark.BracketClose ∷ word c mark.ParenClose ∷ []) (tok d Dot ∷ []))),
)
ends_in_dot (an_attribute {a} ts h s d p l) = (word h mark.Minus ∷ tok s (Atom a) ∷ ts, d, refl)
ends_in_dot (a_function {ts} d r n l) = (ts, d, refl)

same_name_is : (x y : List ℕ) → same_name x y ≡ true → x ≡ y
same_name_is [] [] h = refl
same_name_is (a ∷ x) (b ∷ y) h =
    let p = both_true (a == b) (same_name x y) h in
    λ i. eqb-true a b p.0 i ∷ same_name_is x y p.1 i
same_name_is _ _ h = absurd (false≢true h)

-- clauses of a function of this name
abbrev NamedClause : ℕ → List ℕ → List Tok → ClauseTree → Type 0
NamedClause m f ts c = ReadsClause m (named f (clause_arity c)) ts c

abbrev NamedClauses : ℕ → List ℕ → List Tok → Clauses → Type 0
NamedClauses m f ts cs = (n : ℕ) → all_have n cs ≡ true → ReadsClauses m (named f n) ts cs

named_clause_sound : (m n : ℕ) (f : List ℕ) (part : Read Exp) → Sound (Any (suc m)) part → Sound (NamedClause (suc m) f) (read_named_clause f n part)
named_clause_sound m n f part sound ts q h =
    let o = onward_some (read_name ts) (λ g us. provided (same_name g f) (read_parameters_clause n part) us) q h in
    let i = name_some ts o.0 o.1 in
    let p = provided_some (same_name o.0.0 f) (read_parameters_clause n part) o.0.1 q o.2 in
    let g = parameters_clause_sound m n part sound o.0.1 q p.1 in
    let t : Tok = tok i.0 (Atom f) in
    record {
      used = t ∷ g.used;
      reads = named_clause i.0 g.reads;
      parted = i.1 ∙ ((λ k. tok i.0 (Atom (same_name_is o.0.0 f p.0 k)) ∷ o.0.1) ∙ ap (λ v. t ∷ v) g.parted);
    }

has_arity : (m n : ℕ) (f : List ℕ) (ts : List Tok) (c : ClauseTree) (cs : Clauses) → all_have n (more_clauses c cs) ≡ true → NamedClause m f ts c
    → ReadsClause m (named f n) ts c
has_arity m n f ts c cs h r =
    subst (λ j. ReadsClause m (named f j) ts c) (eqb-true (clause_arity c) n (both_true (clause_arity c == n) (all_have n cs) h).0) r

named_clauses_sound : (m : ℕ) (f : List ℕ) (one : Read ClauseTree) → Sound (NamedClause m f) one → Sound (NamedClauses m f) (read_clauses one)
named_clauses_sound m f one sound ts =
    items_sound (NamedClause m f) (NamedClauses m f) more_clauses no_clauses mark.Semicolon
    (λ us c r n h. last_clause (has_arity m n f us c no_clauses h r))
    (λ s us vs c cs r rs n h. next_clause s (has_arity m n f us c cs h r)
    (rs n (both_true (clause_arity c == n) (all_have n cs) h).1))
    one sound (length ts) ts

end_some : (ts : List Tok) → is_end ts ≡ true → (d : Place) × (ts ≡ tok d Dot ∷ [])
end_some (tok d Dot ∷ []) h = (d, refl)
end_some _ h = absurd (false≢true h)

clause_first : {m n : ℕ} {f : List ℕ} {ts : List Tok} {c : ClauseTree} → ReadsClause m (named f n) ts c
    → (rest : List Tok) → line_at (ts ++ rest) ≡ line_at ts
clause_first (named_clause s r) rest = refl

clauses_first : {m n : ℕ} {f : List ℕ} {ts : List Tok} {cs : Clauses} → ReadsClauses m (named f n) ts cs
    → (rest : List Tok) → line_at (ts ++ rest) ≡ line_at ts
clauses_first (last_clause r) rest = clause_first r rest
clauses_first (next_clause {ts} {us} s r rs) rest =
    ap line_at (append_assoc ts (word s mark.Semicolon ∷ us) rest)
    ∙ (clause_first r ((word s mark.Semicolon ∷ us) ++ rest) ∙ sym (clause_first r (word s mark.Semicolon ∷ us)))

-- a function that is read is one by the grammar
pub function_sound : (ts : List Tok) (f : FunctionTree) → read_function ts ≡ Some f → ReadsForm ts (defines f)
function_sound (tok s (Atom f) ∷ ts) tree h = by (read_clauses (read_named_clause f deepest part_of_form) (tok s (Atom f) ∷ ts)) refl h
  where
    whole : List Tok
    whole = tok s (Atom f) ∷ ts

    parts : Sound (Any most_brackets) part_of_form
    parts = part_sound (read_expression deepest) (expression_sound deepest) most_brackets

    by : (o : Option (Clauses × List Tok)) → read_clauses (read_named_clause f deepest part_of_form) whole ≡ o
        → function_at s.line f o ≡ Some tree → ReadsForm whole (defines tree)
    by None e k = absurd (none_no tree k)
    by (Some q) e k = tested ((is_fun q.0 && is_end q.1) && nat_le (clauses_depth q.0) deepest) refl k
      where
        tested : (b : Bool) → (is_fun q.0 && is_end q.1) && nat_le (clauses_depth q.0) deepest ≡ b
            → (if b then Some (function_of s.line f q.0) else None) ≡ Some tree → ReadsForm whole (defines tree)
        tested false c l = absurd (none_no tree l)
        tested true c l =
            let t = both_true (is_fun q.0 && is_end q.1) (nat_le (clauses_depth q.0) deepest) c in
            let u = both_true (is_fun q.0) (is_end q.1) t.0 in
            let v = both_true (all_have (first_arity q.0) q.0) (nat_le (first_arity q.0) most_parameters) u.0 in
            let g = named_clauses_sound most_brackets f (read_named_clause f deepest part_of_form)
            (named_clause_sound 499 deepest f part_of_form parts) whole q e in
            let d = end_some q.1 u.1 in
            let r = g.reads (first_arity q.0) v.0 in
            subst (λ w. ReadsForm whole (defines w)) (some_is (function_of s.line f q.0) tree l)
            (subst (λ w. ReadsForm w (defines (function_of s.line f q.0))) (sym (g.parted ∙ ap (λ w. g.used ++ w) d.1))
            (subst (λ i. ReadsForm (g.used ++ tok d.0 Dot ∷ []) (defines (function_of i f q.0)))
            (sym (ap line_at g.parted ∙ clauses_first r q.1))
            (a_function d.0 r (le_of (first_arity q.0) most_parameters v.1) (le_of (clauses_depth q.0) deepest t.1))))
function_sound _ tree h = absurd (none_no tree h)

-- what was read, and the dot behind it
ended_some : {A : Type 0} (o : Option (A × List Tok)) (a : A) → ended o ≡ Some a → (d : Place) × (o ≡ Some (a, tok d Dot ∷ []))
ended_some None a h = absurd (none_no a h)
ended_some (Some q) a h = by (is_end q.1) refl h
  where
    by : (b : Bool) → is_end q.1 ≡ b → (if b then Some q.0 else None) ≡ Some a → (d : Place) × (Some q ≡ Some (a, tok d Dot ∷ []))
    by false e k = absurd (none_no a k)
    by true e k = let d = end_some q.1 e in (d.0, λ i. Some (some_is q.0 a k i, d.1 i))

option_map_some : {A B : Type 0} (f : A → B) (o : Option A) (b : B) → option_map f o ≡ Some b → (a : A) × (o ≡ Some a) × (f a ≡ b)
option_map_some f None b h = absurd (none_no b h)
option_map_some f (Some a) b h = (a, refl, some_is (f a) b h)

-- one entry of an export
pub data ReadsEntry : List Tok → Export → Type 0 where
  an_entry : {n : ℕ} {f : List ℕ} (s d a : Place) → n ≤ most_parameters
      → ReadsEntry (tok s (Atom f) ∷ word d mark.Slash ∷ tok a (Int n) ∷ []) (entry_of s.line f n)

entry_sound : Sound ReadsEntry read_entry
entry_sound (tok s (Atom f) ∷ ts) q h =
    fork_sound (Got ReadsEntry (name ∷ ts)) mark.Slash (λ us. made (entry_of s.line f) (read_arity us)) refuse ts q
    (λ d us e k.
    let p = made_some (entry_of s.line f) (read_arity us) q k in
    let a = arity_some us p.0 p.1 in
    answered ReadsEntry (name ∷ ts) (name ∷ word d mark.Slash ∷ tok a.0 (Int p.0.0) ∷ []) p.0.1 (entry_of s.line f p.0.0) q p.2
    (an_entry s d a.0 a.2) (ap (λ v. name ∷ v) (e ∙ ap (λ v. word d mark.Slash ∷ v) a.1)))
    (λ k. absurd (none_no q k))
    h
  where
    name : Tok
    name = tok s (Atom f)
entry_sound _ q h = absurd (none_no q h)

one_entry : (ts : List Tok) (x : Export) → ReadsEntry ts x → ReadsEntries ts (x ∷ [])
one_entry ts x (an_entry s d a l) = last_entry s d a l

more_entries : (c : Place) (ts us : List Tok) (x : Export) (xs : List Export) → ReadsEntry ts x → ReadsEntries us xs
    → ReadsEntries (ts ++ word c mark.Comma ∷ us) (x ∷ xs)
more_entries c ts us x xs (an_entry s d a l) r = next_entry s d a c l r

entries_sound : (ts : List Tok) (q : List Export × List Tok) → read_entries ts ≡ Some q → Closed ReadsEntriesOrNone mark.BracketClose ts q
entries_sound ts q h =
    fork_sound (Closed ReadsEntriesOrNone mark.BracketClose ts) mark.BracketClose (λ us. Some ([], us))
    (λ us. closed mark.BracketClose (items ◌∷◌ [] mark.Comma read_entry (length us) us)) ts q
    (λ s us e k. subst (Closed ReadsEntriesOrNone mark.BracketClose ts) (some_is ([], us) q k)
    (record { place = s; used = []; reads = no_entries; parted = e }))
    (λ k.
    let c = closed_sound ReadsEntries mark.BracketClose (items ◌∷◌ [] mark.Comma read_entry (length ts))
    (items_sound ReadsEntry ReadsEntries ◌∷◌ [] mark.Comma one_entry more_entries read_entry entry_sound (length ts)) ts q k in
    record { place = c.place; used = c.used; reads = some_entries c.reads; parted = c.parted })
    h

export_sound : (h a : Place) (ts : List Tok) (xs : List Export) → read_export ts ≡ Some xs
    → ReadsForm (word h mark.Minus ∷ tok a (Atom (codes "export")) ∷ ts) (exports xs)
export_sound h a ts xs e =
    let d = ended_some (fork (behind mark.ParenOpen ts) bracketed refuse ts) xs e in
    fork_sound (λ q. Exported ts) mark.ParenOpen bracketed refuse ts (xs, tok d.0 Dot ∷ [])
    (λ o us f k. fork_sound (λ q. Exported ts) mark.BracketOpen entered refuse us (xs, tok d.0 Dot ∷ [])
    (λ p vs g l.
    let c = closed_some mark.ParenClose (read_entries vs) (xs, tok d.0 Dot ∷ []) l in
    let r = entries_sound vs (xs, word c.0 mark.ParenClose ∷ tok d.0 Dot ∷ []) c.1 in
    subst Exported (sym (f ∙ ap (λ v. word o mark.ParenOpen ∷ v) (g ∙ ap (λ v. word p mark.BracketOpen ∷ v) r.parted)))
    (an_export h a o p r.place c.0 d.0 r.reads))
    (λ l. absurd (none_no (xs, tok d.0 Dot ∷ []) l))
    k)
    (λ k. absurd (none_no (xs, tok d.0 Dot ∷ []) k))
    d.1
  where
    entered : Read (List Export)
    entered vs = closed mark.ParenClose (read_entries vs)

    bracketed : Read (List Export)
    bracketed us = fork (behind mark.BracketOpen us) entered refuse us

    Exported : List Tok → Type 0
    Exported v = ReadsForm (word h mark.Minus ∷ tok a (Atom (codes "export")) ∷ v) (exports xs)

naming_sound : (h a : Place) (ts : List Tok) (m : List ℕ) → read_naming ts ≡ Some m
    → ReadsForm (word h mark.Minus ∷ tok a (Atom (codes "module")) ∷ ts) (names h.line m)
naming_sound h a ts m e =
    let d = ended_some (fork (behind mark.ParenOpen ts) named_in refuse ts) m e in
    fork_sound (λ q. Named ts) mark.ParenOpen named_in refuse ts (m, tok d.0 Dot ∷ [])
    (λ o us f k.
    let c = closed_some mark.ParenClose (read_name us) (m, tok d.0 Dot ∷ []) k in
    let n = name_some us (m, word c.0 mark.ParenClose ∷ tok d.0 Dot ∷ []) c.1 in
    subst Named (sym (f ∙ ap (λ v. word o mark.ParenOpen ∷ v) n.1)) (a_module h a o n.0 c.0 d.0))
    (λ k. absurd (none_no (m, tok d.0 Dot ∷ []) k))
    d.1
  where
    named_in : Read (List ℕ)
    named_in us = closed mark.ParenClose (read_name us)

    Named : List Tok → Type 0
    Named v = ReadsForm (word h mark.Minus ∷ tok a (Atom (codes "module")) ∷ v) (names h.line m)

-- attributes that are passed over
last_dot_some : (ts : List Tok) → last_is_dot ts ≡ true → (front : List Tok) × (d : Place) × (ts ≡ front ++ tok d Dot ∷ [])
last_dot_some [] h = absurd (false≢true h)
last_dot_some (t ∷ []) h = let d = end_some (t ∷ []) h in ([], d.0, d.1)
last_dot_some (t ∷ u ∷ ts) h = let r = last_dot_some (u ∷ ts) h in (t ∷ r.0, r.1, ap (λ v. t ∷ v) r.2)

pub most_open_dot : (n : ℕ) (front : List Tok) (d : Place) → most_open n (front ++ tok d Dot ∷ []) ≡ most_open n front
most_open_dot n [] d = omega arith
most_open_dot n (t ∷ front) d = ap (max n) (most_open_dot (open_behind n t) front d)

attribute_sound : (h : Place) (ts : List Tok) (f : FormTree) → read_attribute h.line ts ≡ Some f → ReadsForm (word h mark.Minus ∷ ts) f
attribute_sound h (tok s (Atom a) ∷ ts) f e = by (same_name a (codes "module")) (same_name a (codes "export")) refl refl e
  where
    begun : List ℕ → List Tok → List Tok
    begun n v = word h mark.Minus ∷ tok s (Atom n) ∷ v

    passed : (b : Bool) → is_passed_over a && is_skipped ts ≡ b → (if b then Some skipped else None) ≡ Some f → ReadsForm (begun a ts) f
    passed false c k = absurd (none_no f k)
    passed true c k =
        let t = both_true (is_passed_over a) (is_skipped ts) c in
        let u = both_true (last_is_dot ts) (nat_le (most_open 0 ts) most_brackets) t.1 in
        let l = last_dot_some ts u.0 in
        subst (ReadsForm (begun a ts)) (some_is skipped f k)
        (subst (λ v. ReadsForm (begun a v) skipped) (sym l.2)
        (an_attribute l.0 h s l.1 t.0
        (subst (λ n. n ≤ most_brackets) (ap (most_open 0) l.2 ∙ most_open_dot 0 l.0 l.1) (le_of (most_open 0 ts) most_brackets u.1))))

    by : (b c : Bool) → same_name a (codes "module") ≡ b → same_name a (codes "export") ≡ c
        → (if b then option_map (names h.line) (read_naming ts)
        else if c then option_map exports (read_export ts) else if is_passed_over a && is_skipped ts then Some skipped else None) ≡ Some f
        → ReadsForm (begun a ts) f
    by true c p q k =
        let r = option_map_some (names h.line) (read_naming ts) f k in
        subst (ReadsForm (begun a ts)) r.2
        (subst (λ n. ReadsForm (begun n ts) (names h.line r.0)) (sym (same_name_is a (codes "module") p)) (naming_sound h s ts r.0 r.1))
    by false true p q k =
        let r = option_map_some exports (read_export ts) f k in
        subst (ReadsForm (begun a ts)) r.2
        (subst (λ n. ReadsForm (begun n ts) (exports r.0)) (sym (same_name_is a (codes "export") q)) (export_sound h s ts r.0 r.1))
    by false false p q k = passed (is_passed_over a && is_skipped ts) refl k
attribute_sound h _ f e = absurd (none_no f e)

-- a form that is read is one by the grammar
pub form_sound : (ts : List Tok) (f : FormTree) → read_form ts ≡ Some f → ReadsForm ts f
form_sound ts f h = by (behind mark.Minus ts) refl h
  where
    by : (o : Option (List Tok)) → behind mark.Minus ts ≡ o → form_at ts o ≡ Some f → ReadsForm ts f
    by None e k =
        let r = option_map_some defines (read_function ts) f k in
        subst (ReadsForm ts) r.2 (function_sound ts r.0 r.1)
    by (Some us) e k =
        let b = behind_some mark.Minus ts us e in
        subst (λ v. ReadsForm v f) (sym b.1) (attribute_sound b.0 us f (ap (λ v. read_attribute (line_at v) us) (sym b.1) ∙ k))

pub dot_last : (front : List Tok) (d : Place) → last_is_dot (front ++ tok d Dot ∷ []) ≡ true
dot_last [] d = refl
dot_last (t ∷ []) d = refl
dot_last (t ∷ u ∷ front) d = dot_last (u ∷ front) d

pub without_dot : {ts : List Tok} {f : FormTree} → last_is_dot ts ≡ false → ReadsForm ts f → ⊥
without_dot h r = let e = ends_in_dot r in false≢true (sym h ∙ (ap last_is_dot e.2 ∙ dot_last e.0 e.1))
