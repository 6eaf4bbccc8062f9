-- A text parts in one way alone.
use Rattle.std.proofs.Common.{◌≡◌, ◌≢◌, ℕ, ◌≤◌, Bool, false, List, [], ◌++◌, length, Option, Some, None, refl, sym, ap, ◌∙◌, subst, inl, inr, arith, length-append}
use Rattle.edb_scan.specs.declared.lexeme.Token.{Token}
use Rattle.edb_scan.specs.declared.lexeme.Placed.{Placed}
use Rattle.edb_scan.specs.Lexis.{Begins, MayStand, is_string}
use Rattle.edb_scan.specs.Parting.{Parted, at_end, at_fault, next_piece, placed, line_after, longest_file, FaultAt, AreTokens, IsFault}
use Rattle.edb_scan.proofs.OnePiece.{begins_same, begins_some}

pub nothing_left : (after : List ℕ) (p : Option Token) → Begins [] after p → ⊥
nothing_left after p h = let some = begins_some [] after p h in absurd (omega (arith, ap length h.cut, length-append h.text after))

-- if nothing is left
pub only_end : (front rest : List ℕ) (behind : Bool) (ts : List Placed) (stop : Option ℕ) → Parted front behind rest ts stop → rest ≡ [] → (ts ≡ []) × (stop ≡ None)
only_end front rest behind ts stop (at_end f b) e = (refl, refl)
only_end front rest behind ts stop (at_fault f b r some none) e = absurd (some e)
only_end front rest behind ts stop (next_piece f b r after next p us all stop' begins may n l parted) e =
    let P : List ℕ → Type 0 = λ t. Begins t after p in
    absurd (nothing_left after p (subst P e begins))

-- if no piece may stand
pub only_fault : (front rest : List ℕ) (behind : Bool) (ts : List Placed) (stop : Option ℕ) → Parted front behind rest ts stop → rest ≢ []
    → ((after : List ℕ) (p : Option Token) → Begins rest after p → MayStand behind p → ⊥) → (ts ≡ []) × (stop ≡ Some (length front))
only_fault front rest behind ts stop (at_end f b) some none = absurd (some refl)
only_fault front rest behind ts stop (at_fault f b r some' none') some none = (refl, refl)
only_fault front rest behind ts stop (next_piece f b r after next p us all stop' begins may n l parted) some none = absurd (none after p begins may)

-- if a piece may stand
pub only_piece : (front rest : List ℕ) (behind : Bool) (ts : List Placed) (stop : Option ℕ) → Parted front behind rest ts stop
    → (after : List ℕ) (p : Option Token) (begins : Begins rest after p) → MayStand behind p
    → (us : List Placed) × (ts ≡ placed (line_after front) p us) × Parted (front ++ begins.text) (is_string p) after us stop
only_piece front rest behind ts stop (at_end f b) after p begins may = absurd (nothing_left after p begins)
only_piece front rest behind ts stop (at_fault f b r some none) after p begins may = absurd (none after p begins may)
only_piece front rest behind ts stop (next_piece f b r other next q us all stop' k may' n l parted) after p begins may =
    let same = begins_same r after other p q begins k in
    let next_is : next ≡ f ++ begins.text = cc (n, same.0) in
    let P : List ℕ → Type 0 = λ t. Parted t (is_string q) other us stop' in
    let Q : Option Token → Type 0 = λ o. Parted (f ++ begins.text) (is_string o) other us stop' in
    let R : List ℕ → Type 0 = λ t. Parted (f ++ begins.text) (is_string p) t us stop' in
    (us, l ∙ ap (λ o. placed (line_after f) o us) (sym same.2), subst R (sym same.1) (subst Q (sym same.2) (subst P next_is parted)))

pub parted_one : (front rest : List ℕ) (behind : Bool) (ts us : List Placed) (stop other : Option ℕ) → Parted front behind rest ts stop → Parted front behind rest us other → (ts ≡ us) × (stop ≡ other)
parted_one front rest behind ts us stop other (at_end f b) k =
    let same = only_end f [] b us other k refl in
    (sym same.0, sym same.1)
parted_one front rest behind ts us stop other (at_fault f b r some none) k =
    let same = only_fault f r b us other k some none in
    (sym same.0, sym same.1)
parted_one front rest behind ts us stop other (next_piece f b r after next p vs all stop' begins may n l parted) k =
    let back = only_piece f r b us other k after p begins may in
    let P : List ℕ → Type 0 = λ t. Parted t (is_string p) after back.0 other in
    let same = parted_one next after (is_string p) vs back.0 stop' other parted (subst P (sym n) back.2) in
    (l ∙ ap (λ ts. placed (line_after f) p ts) same.0 ∙ sym back.1, same.1)

-- a fault lies in what is parted
pub fault_behind : (front rest : List ℕ) (behind : Bool) (ts : List Placed) (stop : Option ℕ) (k : ℕ) → Parted front behind rest ts stop → stop ≡ Some k → length front ≤ k
fault_behind front rest behind ts stop k (at_end f b) e = absurd (cc)
fault_behind front rest behind ts stop k (at_fault f b r some none) e = let same : length f ≡ k = cc in omega arith
fault_behind front rest behind ts stop k (next_piece f b r after next p us all stop' begins may n l parted) e =
    let further = fault_behind next after (is_string p) us stop' k parted e in
    omega (arith, ap length n, length-append f begins.text)

pub tokens_one : (bytes : List ℕ) (ts us : List Placed) → AreTokens bytes ts → AreTokens bytes us → ts ≡ us
unfolding AreTokens
tokens_one bytes ts us h k = (parted_one [] bytes false ts us None None h.1 k.1).0

fault_one : (bytes : List ℕ) (at by : ℕ) → FaultAt bytes at → FaultAt bytes by → at ≡ by
unfolding FaultAt
fault_one bytes at by h k = let same = (parted_one [] bytes false h.0 k.0 (Some at) (Some by) h.1 k.1).1 in cc

pub faults_one : (bytes : List ℕ) (at by : ℕ) → IsFault bytes at → IsFault bytes by → at ≡ by
unfolding IsFault
faults_one bytes at by (inl h) (inl k) = fault_one bytes at by h.0 k.0
faults_one bytes at by (inl h) (inr k) = let above : longest_file ≤ at = k.2 at h.0 in absurd (omega arith)
faults_one bytes at by (inr h) (inl k) = let above : longest_file ≤ by = h.2 by k.0 in absurd (omega arith)
faults_one bytes at by (inr h) (inr k) = h.1 ∙ sym k.1

pub tokens_or_fault : (bytes : List ℕ) (ts : List Placed) (at : ℕ) → AreTokens bytes ts → IsFault bytes at → ⊥
unfolding AreTokens IsFault FaultAt
tokens_or_fault bytes ts at h (inl k) = let same = (parted_one [] bytes false ts k.0.0 None (Some at) h.1 k.0.1).1 in absurd (cc)
tokens_or_fault bytes ts at h (inr k) = absurd (omega arith)
