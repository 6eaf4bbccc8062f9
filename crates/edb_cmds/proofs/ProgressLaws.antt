-- How a reader of the lines goes on, and where it stops.
use Rattle.std.proofs.Common.{◌≡◌, ◌≢◌, ◌⊎◌, ℕ, zero, suc, ◌+◌, ◌-◌, ◌≤◌, ◌<◌, Bool, true, false, cond, List, [], ◌∷◌, ◌++◌, length, take, refl, sym, ap, ◌∙◌, subst, inl, inr, arith, append_assoc, append-nil, length-append, eqb-true}
use Rattle.std.specs.Prelude.{count_by, ◌==◌}
use Rattle.std.proofs.lemmas.List.Sums.{sum_by-append}
use Rattle.std.proofs.lemmas.Bool.{cases_lt}
use Rattle.std.proofs.lemmas.List.{nil_from_length}
use Rattle.edb_scan.specs.Parting.{line_after}
use Rattle.edb_event.specs.declared.call.Command.{Command}
use Rattle.edb_cmds.specs.Listing.{ReadsLines, none, starts, IsBad, IsFirstBad, IsScriptOf, IsScriptFault}
use Rattle.edb_cmds.specs.Lines.{lines}
use Rattle.edb_cmds.specs.Progress.{Counts, GoesOn, HasRead}
use Rattle.edb_cmds.specs.Script.{first_line, other_lines, line_past, longest_script}
use Rattle.edb_cmds.proofs.LineLaws.{line_length, none_before}
use Rattle.edb_cmds.proofs.LinesLaws.{first_cut, lines_step}
use Rattle.edb_cmds.proofs.ListingLaws.{bad_behind, goes_on}
use Rattle.edb_cmds.proofs.WordLaws.{line_append}

no_lines_yet : line_after [] ≡ 1
unfolding line_after
no_lines_yet = refl

pub begun_at : (bytes : List ℕ) → HasRead bytes bytes [] 1
begun_at bytes = record {
  front = [];
  parts = refl;
  read = none;
  at = refl;
  before = [];
  cut = refl;
  line = λ some. no_lines_yet;
  number = omega arith;
  within = λ long. omega arith;
}

some_length : (xs : List ℕ) → xs ≢ [] → 1 ≤ length xs
some_length [] h = absurd (h refl)
some_length (x ∷ xs) h = omega arith

lines_at : (rest : List ℕ) → rest ≢ [] → lines rest ≡ first_line rest ∷ lines (other_lines rest)
lines_at rest some = by (lines_step rest)
  where
    by : (rest ≡ []) ⊎ (lines rest ≡ first_line rest ∷ lines (other_lines rest)) → lines rest ≡ first_line rest ∷ lines (other_lines rest)
    by (inl e) = absurd (some e)
    by (inr e) = e

-- a first line has no newline
no_newline_in : (rest : List ℕ) → count_by (λ c. c == 10) (first_line rest) ≡ 0
no_newline_in rest = none_before rest _ (omega arith)

one_newline : (first : List ℕ) → count_by (λ c. c == 10) first ≡ 0 → count_by (λ c. c == 10) (first ++ (10 ∷ [])) ≡ 1
one_newline first e = let one : count_by (λ c. c == 10) (10 ∷ []) ≡ 1 = refl in omega (arith, sum_by-append (λ c. cond (c == 10) 1 0) first (10 ∷ []))

pub has_more : (bytes rest : List ℕ) (cs : List Command) (n : ℕ) (ds : List Command) → HasRead bytes rest cs n → rest ≢ [] → GoesOn cs (first_line rest) ds
    → (longest_script < length bytes → length bytes - length rest + length (first_line rest) < longest_script) → HasRead bytes (other_lines rest) ds (n + 1)
has_more bytes rest cs n ds h some on fits = by (first_cut rest)
  where
    parts : lines bytes ≡ (h.front ++ (first_line rest ∷ [])) ++ lines (other_lines rest)
    parts = h.parts ∙ ap (λ ls. h.front ++ ls) (lines_at rest some) ∙ sym (append_assoc h.front (first_line rest ∷ []) (lines (other_lines rest)))

    read : ReadsLines (h.front ++ (first_line rest ∷ [])) ds
    read = goes_on h.front cs (first_line rest) ds h.read on

    at : n + 1 ≡ length (h.front ++ (first_line rest ∷ [])) + 1
    at = omega (arith, h.at, length-append h.front (first_line rest ∷ []))

    by : (rest ≡ first_line rest ++ (10 ∷ other_lines rest)) ⊎ ((other_lines rest ≡ []) × (rest ≡ first_line rest)) → HasRead bytes (other_lines rest) ds (n + 1)
    by (inl e) =
        let first = first_line rest in
        let others = other_lines rest in
        let wide : length rest ≡ length first + suc (length others) = ap length e ∙ length-append first (10 ∷ others) in
        let whole : length bytes ≡ length h.before + length rest = ap length h.cut ∙ length-append h.before rest in
        record {
          front = h.front ++ (first ∷ []);
          parts = parts;
          read = read;
          at = at;
          before = h.before ++ (first ++ (10 ∷ []));
          cut = h.cut ∙ ap (λ x. h.before ++ x) (e ∙ sym (append_assoc first (10 ∷ []) others)) ∙ sym (append_assoc h.before (first ++ (10 ∷ [])) others);
          line = λ more. omega (arith, line_append h.before (first ++ (10 ∷ [])), one_newline first (no_newline_in rest), h.line some);
          number = omega (arith, h.number);
          within = λ long. omega (arith, fits long, h.within long, length-append h.before (first ++ (10 ∷ [])), length-append first (10 ∷ []));
        }
    by (inr e) =
        let first = first_line rest in
        let none_left : length (other_lines rest) ≡ 0 = ap length e.0 in
        let same : length rest ≡ length first = ap length e.1 in
        let whole : length bytes ≡ length h.before + length rest = ap length h.cut ∙ length-append h.before rest in
        record {
          front = h.front ++ (first ∷ []);
          parts = parts;
          read = read;
          at = at;
          before = bytes;
          cut = sym (append-nil bytes) ∙ ap (λ x. bytes ++ x) (sym e.0);
          line = λ more. absurd (more e.0);
          number = omega (arith, h.number, some_length rest some);
          within = λ long. absurd (omega (arith, fits long));
        }

-- the front of a text that goes past a part of it
take_past : (x y : List ℕ) (n k : ℕ) → n ≡ length x + k → take n (x ++ y) ≡ x ++ take k y
take_past [] y n k e = let same : n ≡ k = omega arith in ap (λ m. take m y) same
take_past (c ∷ x) y zero k e = absurd (omega arith)
take_past (c ∷ x) y (suc n) k e = ap (λ t. c ∷ t) (take_past x y n k (omega arith))

-- the line past the limit, from here on
line_at_limit : (bytes rest : List ℕ) (cs : List Command) (n k : ℕ) → HasRead bytes rest cs n → rest ≢ [] → longest_script ≡ (length bytes - length rest) + k → line_past bytes ≡ n + count_by (λ c. c == 10) (take k rest)
line_at_limit bytes rest cs n k h some e =
    let whole : length bytes ≡ length h.before + length rest = ap length h.cut ∙ length-append h.before rest in
    let front : take longest_script bytes ≡ h.before ++ take k rest = ap (take longest_script) h.cut ∙ take_past h.before rest longest_script k (omega arith) in
    ap line_after front ∙ line_append h.before (take k rest) ∙ ap (λ m. m + count_by (λ c. c == 10) (take k rest)) (h.line some)

here_or_before : (bytes rest : List ℕ) (cs : List Command) (n : ℕ) → HasRead bytes rest cs n → rest ≢ [] → longest_script < length bytes → n ≤ line_past bytes
here_or_before bytes rest cs n h some long =
    let whole : length bytes ≡ length h.before + length rest = ap length h.cut ∙ length-append h.before rest in
    omega (arith, line_at_limit bytes rest cs n (longest_script - length h.before) h some (omega (arith, h.within long)))

-- a bad line
bad_here : (bytes rest : List ℕ) (cs : List Command) (n : ℕ) → HasRead bytes rest cs n → rest ≢ [] → starts cs ≤ 1 → IsBad (starts cs) (first_line rest ∷ []) → IsFirstBad bytes n
bad_here bytes rest cs n h some few bad = record {
  front = h.front;
  rest = lines rest;
  commands = cs;
  parts = h.parts;
  read = h.read;
  at_most_one = few;
  bad = subst (λ x. IsBad (starts cs) x) (sym (lines_at rest some)) bad;
  at = h.at;
}

few_starts : (started : Bool) (cs : List Command) → Counts started cs → starts cs ≤ 1
few_starts true cs h = omega arith
few_starts false cs h = omega arith

pub fault_here : (bytes rest : List ℕ) (cs : List Command) (n : ℕ) (started : Bool) → HasRead bytes rest cs n → rest ≢ [] → Counts started cs → IsBad (starts cs) (first_line rest ∷ []) → IsScriptFault bytes n
fault_here bytes rest cs n started h some count bad = by (cases_lt longest_script (length bytes))
  where
    by : (longest_script < length bytes) ⊎ (length bytes ≤ longest_script) → IsScriptFault bytes n
    by (inl long) = inr (long, inl (bad_here bytes rest cs n h some (few_starts started cs count) bad, here_or_before bytes rest cs n h some long))
    by (inr short) = inl (short, bad_here bytes rest cs n h some (few_starts started cs count) bad)

-- the line that reaches the limit
pub fault_past : (bytes rest : List ℕ) (cs : List Command) (n : ℕ) (started : Bool) → HasRead bytes rest cs n → rest ≢ [] → Counts started cs → longest_script < length bytes
    → longest_script ≤ length bytes - length rest + length (first_line rest) → IsScriptFault bytes n
fault_past bytes rest cs n started h some count long reaches =
    let whole : length bytes ≡ length h.before + length rest = ap length h.cut ∙ length-append h.before rest in
    let k = longest_script - length h.before in
    let none_yet = none_before rest k (omega (arith, line_length rest, h.within long)) in
    let past : line_past bytes ≡ n = omega (arith, line_at_limit bytes rest cs n k h some (omega (arith, h.within long)), none_yet) in
    inr (long, inr (sym past, λ bad b. omega (arith, h.at, past, bad_behind bytes bad h.front (lines rest) cs h.parts h.read (few_starts started cs count) b)))

no_lines : lines [] ≡ []
unfolding lines
no_lines = refl

at_end : (bytes rest : List ℕ) (cs : List Command) (n : ℕ) → HasRead bytes rest cs n → rest ≡ [] → length bytes ≤ longest_script
at_end bytes rest cs n h e = by (cases_lt longest_script (length bytes))
  where
    by : (longest_script < length bytes) ⊎ (length bytes ≤ longest_script) → length bytes ≤ longest_script
    by (inl long) = absurd (omega (arith, h.within long, ap length h.cut, length-append h.before rest, ap length e))
    by (inr short) = short

-- no start in the text
pub fault_end : (bytes rest : List ℕ) (cs : List Command) (n : ℕ) → HasRead bytes rest cs n → rest ≡ [] → Counts false cs → IsScriptFault bytes n
fault_end bytes rest cs n h e count = inl (
  at_end bytes rest cs n h e,
  record {
    front = h.front;
    rest = [];
    commands = cs;
    parts = h.parts ∙ ap (λ x. h.front ++ lines x) e ∙ ap (λ x. h.front ++ x) no_lines;
    read = h.read;
    at_most_one = few_starts false cs count;
    bad = count;
    at = h.at;
  },
)

-- all lines are read
pub read_all : (bytes rest : List ℕ) (cs : List Command) (n : ℕ) → HasRead bytes rest cs n → rest ≡ [] → Counts true cs → IsScriptOf bytes cs
read_all bytes rest cs n h e count = record {
  short = at_end bytes rest cs n h e;
  read = subst (λ x. ReadsLines x cs) (sym (h.parts ∙ ap (λ x. h.front ++ lines x) e ∙ ap (λ x. h.front ++ x) no_lines ∙ append-nil h.front)) h.read;
  one_start = count;
}

pub empty_is : (xs : List ℕ) → true ≡ (length xs == 0) → xs ≡ []
empty_is xs e = nil_from_length xs (eqb-true (length xs) 0 (sym e))

pub some_is : (xs : List ℕ) → false ≡ (length xs == 0) → xs ≢ []
some_is xs e nil = let yes : (length xs == 0) ≡ true = ap (λ (ys : List ℕ). length ys == 0) nil in absurd (cc)
