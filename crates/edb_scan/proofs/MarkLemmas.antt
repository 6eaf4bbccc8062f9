-- Marks and dots: what the scanner finds is the longest of its class.
use Rattle.std.proofs.Common.{◌≡◌, ℕ, ◌≤◌, ◌<◌, true, false, List, [], ◌∷◌, ◌++◌, length, Option, Some, refl, ap, ◌∙◌, inl, inr, ⊎_elim, arith, length-append}
use Rattle.std.specs.Prelude.{bytes_eq}
use Rattle.std.specs.List.{list_any}
use Rattle.std.specs.Cmp.Lexicographic.{bytes_decides}
use Rattle.std.proofs.lemmas.Bool.{or_cases}
use Rattle.edb_scan.specs.declared.classes.Class.TheVariants.{Other}
use Rattle.edb_scan.specs.declared.lexeme.Mark.{Mark}
use Rattle.edb_scan.specs.declared.lexeme.Token.{Token}
use Rattle.edb_scan.specs.declared.lexeme.Token.TheVariants as token
use Rattle.edb_scan.specs.declared.lexeme.Token.TheVariants.{Dot}
use Rattle.edb_scan.specs.FirstByte.{Heads}
use Rattle.edb_scan.specs.Fronts.{NothingFits}
use Rattle.edb_scan.specs.RowFronts.{LongestRow}
use Rattle.edb_scan.specs.Lexis.{Begins, Fits, Spells, ends_form}
use Rattle.edb_scan.specs.Spellings.{Lists, mark_rows, IsMark}
use Rattle.edb_scan.proofs.ByClass.{Only}
use Rattle.edb_scan.proofs.OnePiece.{nothing_by}
use Rattle.edb_scan.proofs.Rows.{mark_some}
use Rattle.edb_scan.proofs.ShortKinds.{begins_by}

-- a text that a row has is listed with some mark
listed : (rows : List (List ℕ × Mark)) (text : List ℕ) → list_any (λ row. bytes_eq row.0 text) rows ≡ true → (m : Mark) × Lists rows text m
listed [] text h = absurd (cc)
listed (row ∷ rows) text h =
    ⊎_elim
    (λ (here : bytes_eq row.0 text ≡ true). (row.1, inl ((bytes_decides row.0 text).0 here, refl)))
    (λ (later : list_any (λ other. bytes_eq other.0 text) rows ≡ true). let more = listed rows text later in (more.0, inr more.1))
    (or_cases (bytes_eq row.0 text) (list_any (λ other. bytes_eq other.0 text) rows) h)

-- a `.` is a mark too
point_listed : (m : Mark) × IsMark (46 ∷ []) m
unfolding IsMark
point_listed = listed mark_rows (46 ∷ []) refl

-- no row has no text
row_some : (bytes after : List ℕ) (m : Mark) (row : LongestRow mark_rows bytes after m) → 0 < length row.text
unfolding IsMark
row_some bytes after m row = some row.text row.listed
  where
    some : (t : List ℕ) → Lists mark_rows t m → 0 < length t
    some [] h = absurd (mark_some m h)
    some (c ∷ t) h = omega arith

longest_other : (bytes after : List ℕ) (m : Mark) (row : LongestRow mark_rows bytes after m) (t u : List ℕ) (o : Option Token) → bytes ≡ t ++ u → Only Other t u o → length t ≤ length row.text
unfolding IsMark
longest_other bytes after m row t u o e (inl h) = row.longest t u h.0 e h.1
longest_other bytes after m row t u o e (inr h) = let some = row_some bytes after m row in omega (arith, ap length h.0)

pub mark_found : (bytes after : List ℕ) (m : Mark) → Heads Other bytes → LongestRow mark_rows bytes after m → (bytes ≡ 46 ∷ after → ends_form after ≡ false)
    → Begins bytes after (Some (token.Mark m)) × Fits (Some (token.Mark m))
unfolding IsMark
mark_found [] after m head row no_dot = absurd head
mark_found (c ∷ cs) after m head row no_dot =
    let spells : Spells row.text after (Some (token.Mark m)) = inr (row.listed, λ point. no_dot (row.cut ∙ ap (λ t. t ++ after) point)) in
    (begins_by Other c cs row.text after (Some (token.Mark m)) head row.cut spells (longest_other (c ∷ cs) after m row), tt)

pub dot_found : (bytes after : List ℕ) (m : Mark) → Heads Other bytes → LongestRow mark_rows bytes after m → bytes ≡ 46 ∷ after → ends_form after ≡ true → Begins bytes after (Some Dot) × Fits (Some Dot)
dot_found [] after m head row point dot = absurd head
dot_found (c ∷ cs) after m head row point dot =
    let longest : (t u : List ℕ) (o : Option Token) → c ∷ cs ≡ t ++ u → Only Other t u o → length t ≤ length {A = ℕ} (46 ∷ []) =
    λ t u o e h. let shorter = longest_other (c ∷ cs) after m row t u o e h in
    omega (arith, ap length row.cut, ap length point, length-append row.text after) in
    (begins_by Other c cs (46 ∷ []) after (Some Dot) head point (refl, dot) longest, tt)

pub no_mark : (bytes : List ℕ) → Heads Other bytes → ((text after : List ℕ) (m : Mark) → bytes ≡ text ++ after → Lists mark_rows text m → ⊥) → NothingFits bytes
unfolding IsMark
no_mark [] head none = absurd head
no_mark (c ∷ cs) head none = nothing_by Other c cs head nothing
  where
    nothing : (t u : List ℕ) (o : Option Token) → c ∷ cs ≡ t ++ u → Only Other t u o → ⊥
    nothing t u o e (inl h) = none t u h.0 e h.1
    nothing t u o e (inr h) = let point = point_listed in none (46 ∷ []) u point.0 (e ∙ ap (λ x. x ++ u) h.0) point.1
