-- Lists of commands: what lines give is one, and so is the first bad line.
use Rattle.std.proofs.Common.{◌≡◌, ◌⊎◌, ℕ, ◌+◌, ◌≤◌, Bool, cond, List, [], ◌∷◌, ◌++◌, length, refl, sym, ap, ◌∙◌, subst, inl, inr, arith, append-nil, length-append}
use Rattle.std.proofs.lemmas.List.Sums.{sum_by-cons}
use Rattle.edb_event.specs.declared.call.Command.{Command}
use Rattle.edb_cmds.specs.CommandLines.{IsBlankLine, IsCommandLine}
use Rattle.edb_cmds.specs.Listing.{ReadsLines, none, blank, command, is_start, starts, IsBad, IsFirstBad, IsScriptOf, IsScriptFault}
use Rattle.edb_cmds.specs.Lines.{lines}
use Rattle.edb_cmds.specs.Progress.{GoesOn}
use Rattle.edb_cmds.specs.Script.{line_past, longest_script}
use Rattle.edb_cmds.proofs.KindLaws.{blank_or_command, command_one, same_start}
use Rattle.edb_cmds.proofs.LinesLaws.{AllShort, lines_short}

abbrev one_if : Bool → ℕ
one_if b = cond b 1 0

starts-cons : (c : Command) (cs : List Command) → starts (c ∷ cs) ≡ one_if (is_start c) + starts cs
starts-cons c cs = sum_by-cons (λ d. cond (is_start d) 1 0) c cs

-- a line more at the end
pub blank_last : (ls : List (List ℕ)) (cs : List Command) (line : List ℕ) → ReadsLines ls cs → IsBlankLine line → ReadsLines (ls ++ (line ∷ [])) cs
blank_last ls cs line none h = blank line [] [] h none
blank_last ls cs line (blank l more ds b r) h = blank l (more ++ (line ∷ [])) ds b (blank_last more ds line r h)
blank_last ls cs line (command l more c ds b r) h = command l (more ++ (line ∷ [])) c ds b (blank_last more ds line r h)

pub command_last : (ls : List (List ℕ)) (cs : List Command) (line : List ℕ) (c : Command) → ReadsLines ls cs → IsCommandLine line c → ReadsLines (ls ++ (line ∷ [])) (cs ++ (c ∷ []))
command_last ls cs line c none h = command line [] c [] h none
command_last ls cs line c (blank l more ds b r) h = blank l (more ++ (line ∷ [])) (ds ++ (c ∷ [])) b (command_last more ds line c r h)
command_last ls cs line c (command l more d ds b r) h = command l (more ++ (line ∷ [])) d (ds ++ (c ∷ [])) b (command_last more ds line c r h)

pub goes_on : (ls : List (List ℕ)) (cs : List Command) (line : List ℕ) (ds : List Command) → ReadsLines ls cs → GoesOn cs line ds → ReadsLines (ls ++ (line ∷ [])) ds
goes_on ls cs line ds r (inl h) = subst (λ x. ReadsLines (ls ++ (line ∷ [])) x) (sym h.1) (blank_last ls cs line r h.0)
goes_on ls cs line ds r (inr h) = subst (λ x. ReadsLines (ls ++ (line ∷ [])) x) (sym h.2) (command_last ls cs line h.0 r h.1)

-- lines give one number of starts
pub starts_one : (ls ms : List (List ℕ)) (cs ds : List Command) → ls ≡ ms → ReadsLines ls cs → ReadsLines ms ds → starts cs ≡ starts ds
starts_one ls ms cs ds e none none = refl
starts_one ls ms cs ds e none (blank m ms' ds' b r) = absurd (cc)
starts_one ls ms cs ds e none (command m ms' d ds' b r) = absurd (cc)
starts_one ls ms cs ds e (blank l ls' cs' b r) none = absurd (cc)
starts_one ls ms cs ds e (command l ls' c cs' b r) none = absurd (cc)
starts_one ls ms cs ds e (blank l ls' cs' b r) (blank m ms' ds' k s) = starts_one ls' ms' cs' ds' (cc) r s
starts_one ls ms cs ds e (blank l ls' cs' b r) (command m ms' d ds' k s) =
    let same : l ≡ m = cc in
    absurd (blank_or_command m d (subst (λ x. IsBlankLine x) same b) k)
starts_one ls ms cs ds e (command l ls' c cs' b r) (blank m ms' ds' k s) =
    let same : m ≡ l = cc in
    absurd (blank_or_command l c (subst (λ x. IsBlankLine x) same k) b)
starts_one ls ms cs ds e (command l ls' c cs' b r) (command m ms' d ds' k s) =
    let same : m ≡ l = cc in
    let one : is_start c ≡ is_start d = same_start l c d b (subst (λ x. IsCommandLine x d) same k) in
    let more = starts_one ls' ms' cs' ds' (cc) r s in
    let here : one_if (is_start c) ≡ one_if (is_start d) = ap one_if one in
    omega (arith, starts-cons c cs', starts-cons d ds')

-- a line that is read is not bad
bad_blank : (before : ℕ) (line : List ℕ) (more : List (List ℕ)) → IsBlankLine line → IsBad before (line ∷ more) → ⊥
bad_blank before line more b (inl h) = h.0 b
bad_blank before line more b (inr h) = blank_or_command line h.1.0 b h.1.1

bad_command : (before : ℕ) (line : List ℕ) (more : List (List ℕ)) (c : Command) → IsCommandLine line c → before + one_if (is_start c) ≤ 1 → IsBad before (line ∷ more) → ⊥
bad_command before line more c b few (inl h) = h.1 c b
bad_command before line more c b few (inr h) =
    let one : one_if (is_start c) ≡ 1 = ap one_if (same_start line c h.1.0 b h.1.1 ∙ h.1.2) in
    absurd (omega arith)

-- what is read comes before a bad line
no_earlier : (f rest g more : List (List ℕ)) (cs ds : List Command) (k : ℕ) → f ++ rest ≡ g ++ more → ReadsLines f cs → k + starts cs ≤ 1 → ReadsLines g ds → IsBad (k + starts ds) more → length f ≤ length g
no_earlier f rest g more cs ds k e none few s bad = omega arith
no_earlier f rest [] more cs ds k e (blank l f' cs' b r) few none bad =
    absurd (bad_blank (k + starts []) l (f' ++ rest) b (subst (λ x. IsBad (k + starts []) x) (sym e) bad))
no_earlier f rest [] more cs ds k e (command l f' c cs' b r) few none bad =
    let nothing : starts [] ≡ 0 = refl in
    absurd (bad_command (k + starts []) l (f' ++ rest) c b (omega (arith, starts-cons c cs')) (subst (λ x. IsBad (k + starts []) x) (sym e) bad))
no_earlier f rest g more cs ds k e (blank l f' cs' b r) few (blank m g' ds' q s) bad =
    let tails : f' ++ rest ≡ g' ++ more = cc in
    omega (arith, no_earlier f' rest g' more cs' ds' k tails r few s bad)
no_earlier f rest g more cs ds k e (blank l f' cs' b r) few (command m g' d ds' q s) bad =
    let same : l ≡ m = cc in
    absurd (blank_or_command m d (subst (λ x. IsBlankLine x) same b) q)
no_earlier f rest g more cs ds k e (command l f' c cs' b r) few (blank m g' ds' q s) bad =
    let same : m ≡ l = cc in
    absurd (blank_or_command l c (subst (λ x. IsBlankLine x) same q) b)
no_earlier f rest g more cs ds k e (command l f' c cs' b r) few (command m g' d ds' q s) bad =
    let tails : f' ++ rest ≡ g' ++ more = cc in
    let same : m ≡ l = cc in
    let here : one_if (is_start c) ≡ one_if (is_start d) = ap one_if (same_start l c d b (subst (λ x. IsCommandLine x d) same q)) in
    let count : k + starts (d ∷ ds') ≡ (k + one_if (is_start c)) + starts ds' = omega (arith, starts-cons d ds') in
    omega (arith, no_earlier f' rest g' more cs' ds' (k + one_if (is_start c)) tails r (omega (arith, starts-cons c cs')) s (subst (λ n. IsBad n more) count bad))

pub bad_behind : (bytes : List ℕ) (n : ℕ) (f rest : List (List ℕ)) (cs : List Command) → lines bytes ≡ f ++ rest → ReadsLines f cs → starts cs ≤ 1 → IsFirstBad bytes n → length f + 1 ≤ n
bad_behind bytes n f rest cs e r few h =
    let zero_more : starts h.commands ≡ 0 + starts h.commands = omega arith in
    omega (arith, h.at, no_earlier f rest h.front h.rest cs h.commands 0 (sym e ∙ h.parts) r (omega arith) h.read (subst (λ n. IsBad n h.rest) zero_more h.bad))

first_bad_one : (bytes : List ℕ) (n k : ℕ) → IsFirstBad bytes n → IsFirstBad bytes k → n ≡ k
first_bad_one bytes n k h j =
    omega (arith, h.at, j.at, bad_behind bytes k h.front h.rest h.commands h.parts h.read h.at_most_one j, bad_behind bytes n j.front j.rest j.commands j.parts j.read j.at_most_one h)

pub fault_one : (bytes : List ℕ) (n k : ℕ) → IsScriptFault bytes n → IsScriptFault bytes k → n ≡ k
fault_one bytes n k (inl h) (inl j) = first_bad_one bytes n k h.1 j.1
fault_one bytes n k (inl h) (inr j) = absurd (omega arith)
fault_one bytes n k (inr h) (inl j) = absurd (omega arith)
fault_one bytes n k (inr h) (inr j) = by h.1 j.1
  where
    by : ((IsFirstBad bytes n × (n ≤ line_past bytes)) ⊎ ((n ≡ line_past bytes) × ((bad : ℕ) → IsFirstBad bytes bad → line_past bytes ≤ bad)))
        → ((IsFirstBad bytes k × (k ≤ line_past bytes)) ⊎ ((k ≡ line_past bytes) × ((bad : ℕ) → IsFirstBad bytes bad → line_past bytes ≤ bad))) → n ≡ k
    by (inl x) (inl y) = first_bad_one bytes n k x.0 y.0
    by (inl x) (inr y) = let least = y.1 n x.0 in omega arith
    by (inr x) (inl y) = let least = x.1 k y.0 in omega arith
    by (inr x) (inr y) = x.0 ∙ sym y.0

-- a script has no bad line
script_good : (bytes : List ℕ) (cs : List Command) (n : ℕ) → IsScriptOf bytes cs → IsFirstBad bytes n → ⊥
script_good bytes cs n h k =
    at k.rest k.parts k.bad (bad_behind bytes n (lines bytes) [] cs (sym (append-nil (lines bytes))) h.read (omega (arith, h.one_start)) k)
  where
    at : (rest : List (List ℕ)) → lines bytes ≡ k.front ++ rest → IsBad (starts k.commands) rest → length (lines bytes) + 1 ≤ n → ⊥
    at [] e bad le =
        let same = starts_one (lines bytes) k.front cs k.commands (e ∙ append-nil k.front) h.read k.read in
        let one = h.one_start in
        absurd (omega arith)
    at (x ∷ rest) e bad le = absurd (omega (arith, ap length e, length-append k.front (x ∷ rest), k.at))

pub script_or_fault : (bytes : List ℕ) (cs : List Command) (n : ℕ) → IsScriptOf bytes cs → IsScriptFault bytes n → ⊥
script_or_fault bytes cs n h (inl k) = script_good bytes cs n h k.1
script_or_fault bytes cs n h (inr k) = let short = h.short in absurd (omega arith)

-- short lines give one list of commands
commands_one : (ls ms : List (List ℕ)) (cs ds : List Command) → ls ≡ ms → AllShort longest_script ls → ReadsLines ls cs → ReadsLines ms ds → cs ≡ ds
commands_one ls ms cs ds e short none none = refl
commands_one ls ms cs ds e short none (blank m ms' ds' b r) = absurd (cc)
commands_one ls ms cs ds e short none (command m ms' d ds' b r) = absurd (cc)
commands_one ls ms cs ds e short (blank l ls' cs' b r) none = absurd (cc)
commands_one ls ms cs ds e short (command l ls' c cs' b r) none = absurd (cc)
commands_one ls ms cs ds e short (blank l ls' cs' b r) (blank m ms' ds' k s) = commands_one ls' ms' cs' ds' (cc) short.1 r s
commands_one ls ms cs ds e short (blank l ls' cs' b r) (command m ms' d ds' k s) =
    let same : l ≡ m = cc in
    absurd (blank_or_command m d (subst (λ x. IsBlankLine x) same b) k)
commands_one ls ms cs ds e short (command l ls' c cs' b r) (blank m ms' ds' k s) =
    let same : m ≡ l = cc in
    absurd (blank_or_command l c (subst (λ x. IsBlankLine x) same k) b)
commands_one ls ms cs ds e short (command l ls' c cs' b r) (command m ms' d ds' k s) =
    let same : m ≡ l = cc in
    let one : c ≡ d = command_one l c d short.0 b (subst (λ x. IsCommandLine x d) same k) in
    let more : cs' ≡ ds' = commands_one ls' ms' cs' ds' (cc) short.1 r s in
    cc

pub scripts_same : (bytes : List ℕ) (cs ds : List Command) → IsScriptOf bytes cs → IsScriptOf bytes ds → cs ≡ ds
scripts_same bytes cs ds h k = commands_one (lines bytes) (lines bytes) cs ds refl (lines_short longest_script bytes h.short) h.read k.read
