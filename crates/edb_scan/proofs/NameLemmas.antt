-- Bare atoms, reserved words and variables: what the scanner finds is the longest of its class.
use Rattle.std.proofs.Common.{◌≡◌, ℕ, zero, suc, ◌≤◌, ◌<◌, Bool, true, false, List, [], ◌∷◌, ◌++◌, length, Option, Some, refl, sym, ap, ◌∙◌, inl, inr, arith}
use Rattle.std.specs.Prelude.{IsAscii, chars}
use Rattle.std.specs.List.{list_all}
use Rattle.std.proofs.lemmas.Bool.{and_parts, and_from}
use Rattle.std.proofs.lemmas.Bool.Decides.{nat_tests}
use Rattle.std.proofs.lemmas.Str.{chars-IsAscii}
use Rattle.edb_scan.specs.declared.classes.Class.TheVariants.{Lower, Upper}
use Rattle.edb_scan.specs.declared.lexeme.Mark.{Mark}
use Rattle.edb_scan.specs.declared.lexeme.Token.{Token}
use Rattle.edb_scan.specs.declared.lexeme.Token.TheVariants as token
use Rattle.edb_scan.specs.declared.lexeme.Token.TheVariants.{Atom, Var}
use Rattle.edb_scan.specs.FirstByte.{class_of, Heads}
use Rattle.edb_scan.specs.Fronts.{NothingFits, SplitsRun}
use Rattle.edb_scan.specs.Letters.{is_lower, is_upper, is_name_char}
use Rattle.edb_scan.specs.Lexis.{Begins, Fits, IsName}
use Rattle.edb_scan.specs.Spellings.{IsWord}
use Rattle.edb_scan.proofs.ByClass.{Only}
use Rattle.edb_scan.proofs.FrontLemmas.{run_longest}
use Rattle.edb_scan.proofs.OnePiece.{past_limit}
use Rattle.edb_scan.proofs.Rows.{word_name}
use Rattle.edb_scan.proofs.ShortKinds.{begins_by}

is_lower_of : (c : ℕ) → class_of c ≡ Lower → is_lower c ≡ true
unfolding class_of
is_lower_of c h = grind (arith, nat_tests)

is_upper_of : (c : ℕ) → class_of c ≡ Upper → is_upper c ≡ true
unfolding class_of
is_upper_of c h = grind (arith, nat_tests)

lower_in_name : (c : ℕ) → is_lower c ≡ true → is_name_char c ≡ true
lower_in_name c h = grind (arith, nat_tests)

upper_in_name : (c : ℕ) → is_upper c ≡ true → is_name_char c ≡ true
upper_in_name c h = grind (arith, nat_tests)

-- the bytes of a name are ASCII
name_char_ascii : (c : ℕ) → is_name_char c ≡ true → c < 128
name_char_ascii c h = grind (arith, nat_tests)

pub name_ascii : (t : List ℕ) → list_all is_name_char t ≡ true → IsAscii t
name_ascii [] h i = omega arith
name_ascii (c ∷ t) h zero = name_char_ascii c (and_parts (is_name_char c) (list_all is_name_char t) h).0
name_ascii (c ∷ t) h (suc i) = name_ascii t (and_parts (is_name_char c) (list_all is_name_char t) h).1 i

name_run : (first : ℕ → Bool) (t : List ℕ) → ((c : ℕ) → first c ≡ true → is_name_char c ≡ true) → IsName first t → list_all is_name_char t ≡ true
name_run first [] in_name h = absurd h
name_run first (c ∷ t) in_name h = and_from (is_name_char c) (list_all is_name_char t) (in_name c h.0) h.1

-- the run of bytes of names is a name, if its first byte may begin one
name_of_run : (first : ℕ → Bool) (c : ℕ) (cs text after : List ℕ) → first c ≡ true → is_name_char c ≡ true → SplitsRun is_name_char (c ∷ cs) text after → IsName first text
name_of_run first c cs [] [] is in_name split = let cut = split.cut in absurd (cc)
name_of_run first c cs [] (d ∷ after) is in_name split =
    let cut = split.cut in
    let same : c ≡ d = cc in
    let fails : is_name_char d ≡ false = split.stops in
    let passes : is_name_char d ≡ true = ap is_name_char (sym same) ∙ in_name in
    absurd (cc)
name_of_run first c cs (d ∷ text) after is in_name split =
    let cut = split.cut in
    let same : c ≡ d = cc in
    (ap first (sym same) ∙ is, (and_parts (is_name_char d) (list_all is_name_char text) split.passes).1)

longest_name : (bytes text after t u : List ℕ) → SplitsRun is_name_char bytes text after → bytes ≡ t ++ u → list_all is_name_char t ≡ true → length t ≤ length text
longest_name bytes text after t u split e all = run_longest is_name_char text after t u (sym split.cut ∙ e) split.stops all

longest_lower : (bytes text after : List ℕ) → SplitsRun is_name_char bytes text after → (t u : List ℕ) (o : Option Token) → bytes ≡ t ++ u → Only Lower t u o → length t ≤ length text
longest_lower bytes text after split t u o e (inl h) = longest_name bytes text after t u split e (name_run is_lower t lower_in_name (word_name t h.0 h.1))
longest_lower bytes text after split t u o e (inr h) = longest_name bytes text after t u split e (name_run is_lower t lower_in_name h.1.1)

pub word_found : (bytes text after : List ℕ) (m : Mark) → Heads Lower bytes → SplitsRun is_name_char bytes text after → IsWord text m → Begins bytes after (Some (token.Mark m)) × Fits (Some (token.Mark m))
word_found [] text after m head split word = absurd head
word_found (c ∷ cs) text after m head split word =
    (begins_by Lower c cs text after (Some (token.Mark m)) head split.cut (inl word) (longest_lower (c ∷ cs) text after split), tt)

atom_begins : (bytes text after : List ℕ) → Heads Lower bytes → SplitsRun is_name_char bytes text after → ((m : Mark) → IsWord text m → ⊥) → Begins bytes after (Some (Atom text))
atom_begins [] text after head split other = absurd head
atom_begins (c ∷ cs) text after head split other =
    let lower = is_lower_of c head in
    begins_by Lower c cs text after (Some (Atom text)) head split.cut (inl (refl, name_of_run is_lower c cs text after lower (lower_in_name c lower) split, other)) (longest_lower (c ∷ cs) text after split)

pub atom_found : (bytes text after : List ℕ) → Heads Lower bytes → SplitsRun is_name_char bytes text after → ((m : Mark) → IsWord text m → ⊥) → length text ≤ 255 → Begins bytes after (Some (Atom text)) × Fits (Some (Atom text))
atom_found bytes text after head split other short =
    let same : chars text ≡ text = chars-IsAscii text (name_ascii text split.passes) in
    (atom_begins bytes text after head split other, omega (arith, ap length same))

pub atom_too_long : (bytes text after : List ℕ) → Heads Lower bytes → SplitsRun is_name_char bytes text after → ((m : Mark) → IsWord text m → ⊥) → 255 < length text → NothingFits bytes
atom_too_long bytes text after head split other long =
    let same : chars text ≡ text = chars-IsAscii text (name_ascii text split.passes) in
    past_limit bytes after (Some (Atom text)) (atom_begins bytes text after head split other) (λ (fits : length (chars text) ≤ 255). absurd (omega (arith, ap length same)))

pub variable_found : (bytes text after : List ℕ) → Heads Upper bytes → SplitsRun is_name_char bytes text after → Begins bytes after (Some (Var text)) × Fits (Some (Var text))
variable_found [] text after head split = absurd head
variable_found (c ∷ cs) text after head split =
    let upper = is_upper_of c head in (
      begins_by Upper c cs text after (Some (Var text)) head split.cut (refl, name_of_run is_upper c cs text after upper (upper_in_name c upper) split)
          (λ t u o e h. longest_name (c ∷ cs) text after t u split e (name_run is_upper t upper_in_name h.0)),
      tt,
    )
