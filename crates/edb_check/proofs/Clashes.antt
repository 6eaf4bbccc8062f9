-- Operands that share a name, found one after the other: each with all before it.

use Rattle.std.specs.Prelude.{ℕ, ◌≤◌, Bool, true, false, ◌||◌, if◌then◌else◌, List, [], ◌∷◌, ◌++◌, Option, None, Some, is_some, length, drop}
use Rattle.std.proofs.Common.{◌≡◌, refl, sym, ap, ◌∙◌}
use Rattle.std.specs.List.{list_any}
use Rattle.std.proofs.lemmas.List.{drop-append-le}
use Rattle.edb_lang.specs.TermText.{same_name}
use Rattle.edb_syntax.specs.Syntax.{Exp, exps_of}
use Rattle.edb_table.specs.Keys.{Key}
use Rattle.edb_check.specs.declared.status.Status.{Status}
use Rattle.edb_check.specs.declared.walk.Walk.{Walk}
use Rattle.edb_check.specs.Scopes.{Scope, Operand, first_of_two, lookup, has, meets, clashes, share, any_share}
use Rattle.edb_check.specs.Names.{operands}
use Rattle.edb_check.specs.Parts.{expression_part}
use Rattle.edb_check.specs.Walking.{Walks}

-- some operand does
abbrev pub clash : Scope → List (List ℕ) → List Operand → Bool
clash bs xs [] = false
clash bs xs (p ∷ ps) = clashes bs xs p || clash (bs ++ p.binds) (xs ++ p.names) ps

or_assoc : (a b c : Bool) → ((a || b) || c) ≡ (a || (b || c))
or_assoc true b c = refl
or_assoc false b c = refl

or_cross : (a b c d : Bool) → ((a || b) || (c || d)) ≡ ((a || c) || (b || d))
or_cross true b c d = refl
or_cross false true true d = refl
or_cross false true false d = refl
or_cross false false c d = refl

has-append : (x : List ℕ) (cs bs : Scope) → has x (cs ++ bs) ≡ (has x cs || has x bs)
has-append x [] bs = refl
has-append x (a ∷ cs) bs = by (lookup x (cs ++ bs)) (lookup x cs) (if same_name a.name x then Some a.status else None) (has-append x cs bs)
  where
    by : (o p q : Option Status) → is_some o ≡ (is_some p || has x bs) → is_some (first_of_two o q) ≡ (is_some (first_of_two p q) || has x bs)
    by (Some r) (Some s) q e = refl
    by None (Some s) q e = cc
    by (Some r) None None e = e
    by (Some r) None (Some s) e = refl
    by None None None e = e
    by None None (Some s) e = refl

meets-scopes : (cs bs : Scope) (xs : List (List ℕ)) → meets (cs ++ bs) xs ≡ (meets cs xs || meets bs xs)
meets-scopes cs bs [] = refl
meets-scopes cs bs (x ∷ xs) = (λ i. has-append x cs bs i || meets-scopes cs bs xs i) ∙ or_cross (has x cs) (has x bs) (meets cs xs) (meets bs xs)

meets-names : (bs : Scope) (xs ys : List (List ℕ)) → meets bs (xs ++ ys) ≡ (meets bs xs || meets bs ys)
meets-names bs [] ys = refl
meets-names bs (x ∷ xs) ys = ap (λ b. has x bs || b) (meets-names bs xs ys) ∙ sym (or_assoc (has x bs) (meets bs xs) (meets bs ys))

-- with one operand more before it
clashes_more : (bs : Scope) (xs : List (List ℕ)) (p q : Operand) → clashes (bs ++ p.binds) (xs ++ p.names) q ≡ (clashes bs xs q || share p q)
clashes_more bs xs p q =
    (λ i. meets-scopes bs p.binds q.names i || meets-names q.binds xs p.names i)
    ∙ or_cross (meets bs q.names) (meets p.binds q.names) (meets q.binds xs) (meets q.binds p.names)

any_clashes_more : (bs : Scope) (xs : List (List ℕ)) (p : Operand) (qs : List Operand) →
    list_any (clashes (bs ++ p.binds) (xs ++ p.names)) qs ≡ (list_any (clashes bs xs) qs || list_any (share p) qs)
any_clashes_more bs xs p [] = refl
any_clashes_more bs xs p (q ∷ qs) =
    (λ i. clashes_more bs xs p q i || any_clashes_more bs xs p qs i)
    ∙ or_cross (clashes bs xs q) (share p q) (list_any (clashes bs xs) qs) (list_any (share p) qs)

clash_is : (bs : Scope) (xs : List (List ℕ)) (ps : List Operand) → clash bs xs ps ≡ (list_any (clashes bs xs) ps || any_share ps)
clash_is bs xs [] = refl
clash_is bs xs (p ∷ ps) =
    ap (λ b. clashes bs xs p || b) (clash_is (bs ++ p.binds) (xs ++ p.names) ps ∙ ap (λ b. b || any_share ps) (any_clashes_more bs xs p ps)
    ∙ or_assoc (list_any (clashes bs xs) ps) (list_any (share p) ps) (any_share ps))
    ∙ sym (or_assoc (clashes bs xs p) (list_any (clashes bs xs) ps) (list_any (share p) ps || any_share ps))

-- where nothing was before, these are the operands of which some two share
pub clash_all : (ps : List Operand) → clash [] [] ps ≡ any_share ps
clash_all ps = clash_is [] [] ps ∙ ap (λ b. b || any_share ps) (nothing ps)
  where
    none_met : (xs : List (List ℕ)) → meets [] xs ≡ false
    none_met [] = refl
    none_met (x ∷ xs) = none_met xs

    nothing : (ps : List Operand) → list_any (clashes [] []) ps ≡ false
    nothing [] = refl
    nothing (p ∷ ps) = λ i. (none_met p.names i || false) || nothing ps i

-- one operand is gone through
pub clash_step : (keys : List Key) (now next : Walk) (e : Exp) (rest : List Exp) (s n : ℕ) (shared b : Bool) → Walks now next (expression_part keys now.scope e) →
    s ≤ length now.scope → n ≤ length now.names →
    b ≡ clashes (drop s now.scope) (drop n now.names) (record { binds = (expression_part keys now.scope e).binds; names = (expression_part keys now.scope e).names }) →
    (shared || clash (drop s now.scope) (drop n now.names) (operands now.scope (exps_of (e ∷ rest))))
    ≡ ((shared || b) || clash (drop s next.scope) (drop n next.names) (operands next.scope (exps_of rest)))
clash_step keys now next e rest s n shared b w les len tells =
    let one = expression_part keys now.scope e in
    let scope : drop s next.scope ≡ drop s now.scope ++ one.binds = ap (drop s) w.scope ∙ drop-append-le s now.scope one.binds les in
    let names : drop n next.names ≡ drop n now.names ++ one.names = ap (drop n) w.names ∙ drop-append-le n now.names one.names len in
    ap (λ c. shared || (c || clash (drop s now.scope ++ one.binds) (drop n now.names ++ one.names) (operands (now.scope ++ one.binds) (exps_of rest)))) (sym tells)
    ∙ sym (or_assoc shared b _)
    ∙ ap (λ c. (shared || b) || c) (sym (λ i. clash (scope i) (names i) (operands (w.scope i) (exps_of rest))))
