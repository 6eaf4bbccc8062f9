-- The words of a line part in one way alone.
use Rattle.std.proofs.Common.{◌≡◌, ◌≢◌, ℕ, zero, suc, ◌+◌, ◌≤◌, ◌<◌, Bool, false, cond, List, [], ◌∷◌, ◌++◌, map, length, Option, Some, None, refl, sym, ap, ◌∙◌, subst, arith, add-one, length-append}
use Rattle.std.specs.Prelude.{codes, count_by, ◌==◌, MatchOption}
use Rattle.std.specs.Borrow.{Bor}
use Rattle.std.proofs.lemmas.List.Sums.{sum_by-append}
use Rattle.edb_lang.specs.Terms.{Datum, IsWithin}
use Rattle.edb_scan.specs.FirstByte.{class_of}
use Rattle.edb_scan.specs.declared.classes.Class.TheVariants.{Space}
use Rattle.edb_scan.specs.declared.lexeme.Placed.{Placed}
use Rattle.edb_scan.specs.declared.lexeme.Token.{Token}
use Rattle.edb_scan.specs.declared.lexeme.Token.TheVariants.{Atom}
use Rattle.edb_scan.specs.Fronts.{NothingFits}
use Rattle.edb_scan.specs.Lexis.{Begins, Fits, is_string}
use Rattle.edb_scan.specs.Parting.{Parted, at_end, at_fault, next_piece, placed, line_after, AreTokens, IsFault, longest_file}
use Rattle.edb_scan.proofs.FrontLemmas.{same_front}
use Rattle.edb_scan.proofs.OnePiece.{begins_same}
use Rattle.edb_scan.proofs.OneParting.{tokens_one, tokens_or_fault}
use Rattle.edb_scan.proofs.TopLemmas.{space_found}
use Rattle.edb_cmds.specs.declared.script.StartCommand.{StartCommand}
use Rattle.edb_cmds.specs.Integers.{ReadsList}
use Rattle.edb_cmds.specs.Script.{spaces, IsStart, longest_script}
use Rattle.edb_cmds.specs.Words.{NoSpace, SplitsSpaces, SplitsGap, SplitsStart, SplitsAtom, IsList, SplitsList}
use Rattle.edb_cmds.proofs.ListLaws.{bare}
use Rattle.edb_cmds.proofs.ListRuns.{one_list}

pub spaces_one : (m n : ℕ) (x y : List ℕ) → spaces m ++ x ≡ spaces n ++ y → NoSpace x → NoSpace y → x ≡ y
spaces_one zero zero x y e h k = e
spaces_one zero (suc n) x y e h k = absurd (h (spaces n ++ y) e)
spaces_one (suc m) zero x y e h k = absurd (k (spaces m ++ x) (sym e))
spaces_one (suc m) (suc n) x y e h k = let tails : spaces m ++ x ≡ spaces n ++ y = cc in spaces_one m n x y tails h k

-- a gap begins with a space
pub gap_head : (gap : ℕ) (rest : List ℕ) → spaces (gap + 1) ++ rest ≡ 32 ∷ (spaces gap ++ rest)
gap_head gap rest = ap (λ n. spaces n ++ rest) (add-one gap)

pub gap_one : (text rest other : List ℕ) → SplitsGap text rest → SplitsGap text other → rest ≡ other
gap_one text rest other h k = spaces_one (h.gap + 1) (k.gap + 1) rest other (sym h.cut ∙ k.cut) h.all k.all

-- the word begins with no space
word_head : (rest : List ℕ) → NoSpace (codes "start" ++ rest)
word_head rest t e = absurd (cc)

pub start_none : (line text : List ℕ) → SplitsSpaces line text → ((rest : List ℕ) → text ≢ codes "start" ++ rest) → (rest : List ℕ) → SplitsStart line rest → ⊥
start_none line text h none rest k =
    none rest (spaces_one h.count k.before text (codes "start" ++ rest) (sym h.cut ∙ k.cut) h.all (word_head rest))

pub start_found : (line text rest : List ℕ) → SplitsSpaces line text → text ≡ codes "start" ++ rest → SplitsStart line rest
start_found line text rest h e = record { before = h.count; cut = h.cut ∙ ap (λ t. spaces h.count ++ t) e }

start_one : (line rest other : List ℕ) → SplitsStart line rest → SplitsStart line other → rest ≡ other
start_one line rest other h k =
    let same = spaces_one h.before k.before (codes "start" ++ rest) (codes "start" ++ other) (sym h.cut ∙ k.cut) (word_head rest) (word_head other) in
    cc

space_class : class_of 32 ≡ Space
unfolding class_of
space_class = refl

space_begins : (rest : List ℕ) → Begins (32 ∷ rest) rest None
space_begins rest = (space_found (32 ∷ rest) rest 32 refl space_class).0

-- an atom begins with no space
atom_head : (word rest name : List ℕ) → Begins word rest (Some (Atom name)) → NoSpace word
atom_head word rest name h t e =
    let P : List ℕ → Type 0 = λ w. Begins w t None in
    let same = (begins_same word rest t (Some (Atom name)) None h (subst P (sym e) (space_begins t))).2 in
    absurd (cc)

pub atom_gap : (text name rest : List ℕ) (h : SplitsAtom text name rest) → SplitsGap text h.word
atom_gap text name rest h = record { gap = h.gap; cut = h.cut; all = atom_head h.word rest name h.begins }

-- behind the gap
pub atom_at : (text word name rest : List ℕ) → SplitsGap text word → SplitsAtom text name rest → Begins word rest (Some (Atom name)) × Fits (Some (Atom name))
atom_at text word name rest g h =
    let P : List ℕ → Type 0 = λ w. Begins w rest (Some (Atom name)) in
    (subst P (gap_one text h.word word (atom_gap text name rest h) g) h.begins, h.fits)

pub atom_no_gap : (text name rest : List ℕ) → ((word : List ℕ) → SplitsGap text word → ⊥) → SplitsAtom text name rest → ⊥
atom_no_gap text name rest none h = none h.word (atom_gap text name rest h)

pub atom_no_piece : (text word name rest : List ℕ) → SplitsGap text word → NothingFits word → SplitsAtom text name rest → ⊥
atom_no_piece text word name rest g none h =
    let a = atom_at text word name rest g h in
    none rest (Some (Atom name)) a.0 a.1

pub atom_other : (text word name rest after : List ℕ) (piece : Option Token) → SplitsGap text word → Begins word after piece → ((n : List ℕ) → piece ≡ Some (Atom n) → ⊥) → SplitsAtom text name rest → ⊥
atom_other text word name rest after piece g begins none h =
    none name (begins_same word after rest piece (Some (Atom name)) begins (atom_at text word name rest g h).0).2

pub atom_one : (text m n rest other : List ℕ) → SplitsAtom text m rest → SplitsAtom text n other → (m ≡ n) × (rest ≡ other)
atom_one text m n rest other h k =
    let a = atom_at text h.word n other (atom_gap text m rest h) k in
    let same = begins_same h.word rest other (Some (Atom m)) (Some (Atom n)) h.begins a.0 in
    let named = same.2 in
    (cc, same.1)

pub line_append : (front text : List ℕ) → line_after (front ++ text) ≡ line_after front + count_by (λ c. c == 10) text
unfolding line_after
line_append front text = omega (arith, sum_by-append (λ c. cond (c == 10) 1 0) front text)

-- of what stands before a text its line alone matters
shifted : (front other : List ℕ) (b : Bool) (rest : List ℕ) (ts : List Placed) (stop : Option ℕ) → Parted front b rest ts stop → stop ≡ None → line_after front ≡ line_after other → Parted other b rest ts None
shifted front other b rest ts stop (at_end f c) none same = at_end other c
shifted front other b rest ts stop (at_fault f c r some nothing) none same = absurd (cc)
shifted front other b rest ts stop (next_piece f c r after next p us all stop' begins may n l parted) none same =
    let at_next : line_after next ≡ line_after (other ++ begins.text) =
    ap line_after n ∙ line_append f begins.text ∙ ap (λ k. k + count_by (λ c. c == 10) begins.text) same ∙ sym (line_append other begins.text) in
    next_piece other c r after (other ++ begins.text) p us all None begins may refl (l ∙ ap (λ k. placed k p us) same) (shifted next (other ++ begins.text) (is_string p) after us stop' parted none at_next)

one_space : line_after (32 ∷ []) ≡ line_after []
unfolding line_after
one_space = refl

-- a space more before the tokens
one_more : (text : List ℕ) (ts : List Placed) → length text < longest_file → AreTokens text ts → AreTokens (32 ∷ text) ts
unfolding AreTokens
one_more text ts short h =
    let begins = space_begins text in
    let space : begins.text ≡ 32 ∷ [] = (same_front begins.text text (32 ∷ []) text (sym begins.cut) (omega (arith, ap length begins.cut, length-append begins.text text))).0 in
    let P : List ℕ → Type 0 = λ t. Parted t false text ts None in
    let parted = shifted [] (32 ∷ []) false text ts None h.1 refl (sym one_space) in
    (omega arith, next_piece [] false (32 ∷ text) text begins.text None ts ts None begins (tt, λ e. refl) refl refl (subst P (sym space) parted))

more_spaces : (n : ℕ) (text : List ℕ) (ts : List Placed) → length (spaces n ++ text) ≤ longest_file → AreTokens text ts → AreTokens (spaces n ++ text) ts
more_spaces zero text ts short h = h
more_spaces (suc n) text ts short h = one_more (spaces n ++ text) ts (omega arith) (more_spaces n text ts (omega arith) h)

list_at : (text rest : List ℕ) (list : Datum) → text ≡ 32 ∷ rest → length text ≤ longest_script → SplitsList text list → IsList rest list
list_at text rest list e short h =
    let head : 32 ∷ rest ≡ 32 ∷ (spaces h.gap ++ h.list_text) = sym e ∙ h.cut ∙ gap_head h.gap h.list_text in
    let same : rest ≡ spaces h.gap ++ h.list_text = cc in
    let P : List ℕ → Type 0 = λ t. AreTokens t h.is.tokens in
    record {
      tokens = h.is.tokens;
      scanned = subst P (sym same) (more_spaces h.gap h.list_text h.is.tokens (omega (arith, ap length same, ap length e)) h.is.scanned);
      reads = h.is.reads;
      within = h.is.within;
    }

pub list_found : (text rest : List ℕ) (list : Datum) → text ≡ 32 ∷ rest → IsList rest list → SplitsList text list
list_found text rest list e h = record { gap = 0; list_text = rest; cut = e; is = h }

pub list_no_list : (text rest : List ℕ) → text ≡ 32 ∷ rest → length text ≤ longest_script → ((t : Datum) → IsList rest t → ⊥) → (list : Datum) → SplitsList text list → ⊥
list_no_list text rest e short none list h = none list (list_at text rest list e short h)

pub is_list_one : (text : List ℕ) (s t : Datum) → IsList text s → IsList text t → s ≡ t
is_list_one text s t h k =
    let same : h.tokens ≡ k.tokens = tokens_one text h.tokens k.tokens h.scanned k.scanned in
    let P : List Placed → Type 0 = λ ts. ReadsList (map (λ p. p.token) ts) t in
    one_list (map (λ p. p.token) h.tokens) s t h.reads (subst P (sym same) k.reads)

list_one : (text : List ℕ) (s t : Datum) → length text ≤ longest_script → SplitsList text s → SplitsList text t → s ≡ t
list_one text s t short h k =
    let rest = spaces h.gap ++ h.list_text in
    let e : text ≡ 32 ∷ (spaces h.gap ++ h.list_text) = h.cut ∙ gap_head h.gap h.list_text in
    is_list_one rest s t (list_at text rest s e short h) (list_at text rest t e short k)

-- the parts of a line that is a start
record Chain (line : List ℕ) (command : StartCommand) : Type 0 where
  from_home : List ℕ
  from_name : List ℕ
  from_list : List ℕ
  start : SplitsStart line from_home
  home : SplitsAtom from_home command.home from_name
  name : SplitsAtom from_name command.name from_list
  list : SplitsList from_list command.args

chain_of : (line : List ℕ) (command : StartCommand) → IsStart line command → Chain line command
chain_of line command h = record {
  from_home = spaces (h.start_gap + 1) ++ h.from_home;
  from_name = spaces (h.home_gap + 1) ++ h.from_name;
  from_list = spaces (h.name_gap + 1) ++ h.list_text;
  start = record { before = h.before; cut = h.cut };
  home = record { gap = h.start_gap; word = h.from_home; cut = refl; begins = h.home.begins; fits = h.home.fits };
  name = record { gap = h.home_gap; word = h.from_name; cut = refl; begins = h.name.begins; fits = h.name.fits };
  list = record { gap = h.name_gap; list_text = h.list_text; cut = refl; is = record { tokens = h.tokens; scanned = h.scanned; reads = h.list; within = h.within } };
}

-- what stands behind a part is no longer than what begins with it
pub start_shorter : (line rest : List ℕ) → SplitsStart line rest → length rest ≤ length line
start_shorter line rest h = omega (arith, ap length h.cut, length-append (spaces h.before) (codes "start" ++ rest))

pub atom_shorter : (text name rest : List ℕ) → SplitsAtom text name rest → length rest ≤ length text
atom_shorter text name rest h =
    omega (arith, ap length h.cut, length-append (spaces (h.gap + 1)) h.word, ap length h.begins.cut, length-append h.begins.text rest)

-- a start goes on in the one way
record Behind (r1 : List ℕ) (command : StartCommand) : Type 0 where
  r2 : List ℕ
  r3 : List ℕ
  home : SplitsAtom r1 command.home r2
  name : SplitsAtom r2 command.name r3
  list : SplitsList r3 command.args

behind_start : (line r1 : List ℕ) (command : StartCommand) → SplitsStart line r1 → IsStart line command → Behind r1 command
behind_start line r1 command s h =
    let k = chain_of line command h in
    let P : List ℕ → Type 0 = λ t. SplitsAtom t command.home k.from_name in
    record { r2 = k.from_name; r3 = k.from_list; home = subst P (start_one line k.from_home r1 k.start s) k.home; name = k.name; list = k.list }

pub no_start : (line : List ℕ) → ((rest : List ℕ) → SplitsStart line rest → ⊥) → (command : StartCommand) → IsStart line command → ⊥
no_start line none command h = let k = chain_of line command h in none k.from_home k.start

pub no_home : (line r1 : List ℕ) → SplitsStart line r1 → ((name rest : List ℕ) → SplitsAtom r1 name rest → ⊥) → (command : StartCommand) → IsStart line command → ⊥
no_home line r1 s none command h = let k = behind_start line r1 command s h in none command.home k.r2 k.home

pub no_name : (line r1 home r2 : List ℕ) → SplitsStart line r1 → SplitsAtom r1 home r2 → ((name rest : List ℕ) → SplitsAtom r2 name rest → ⊥) → (command : StartCommand) → IsStart line command → ⊥
no_name line r1 home r2 s a none command h =
    let k = behind_start line r1 command s h in
    let P : List ℕ → Type 0 = λ t. SplitsAtom t command.name k.r3 in
    none command.name k.r3 (subst P (atom_one r1 command.home home k.r2 r2 k.home a).1 k.name)

pub no_list : (line r1 home r2 name r3 : List ℕ) → SplitsStart line r1 → SplitsAtom r1 home r2 → SplitsAtom r2 name r3 → ((list : Datum) → SplitsList r3 list → ⊥) → (command : StartCommand) → IsStart line command → ⊥
no_list line r1 home r2 name r3 s a b none command h =
    let k = behind_start line r1 command s h in
    let P : List ℕ → Type 0 = λ t. SplitsAtom t command.name k.r3 in
    let Q : List ℕ → Type 0 = λ t. SplitsList t command.args in
    let at_name : SplitsAtom r2 command.name k.r3 = subst P (atom_one r1 command.home home k.r2 r2 k.home a).1 k.name in
    none command.args (subst Q (atom_one r2 command.name name k.r3 r3 at_name b).1 k.list)

-- a line is one start at most
pub start_command_one : (line : List ℕ) (c d : StartCommand) → length line ≤ longest_script → IsStart line c → IsStart line d → c ≡ d
start_command_one line c d short h k =
    let g = chain_of line c h in
    let b = behind_start line g.from_home d g.start k in
    let homes = atom_one g.from_home c.home d.home g.from_name b.r2 g.home b.home in
    let P : List ℕ → Type 0 = λ t. SplitsAtom t d.name b.r3 in
    let at_name : SplitsAtom g.from_name d.name b.r3 = subst P (sym homes.1) b.name in
    let names = atom_one g.from_name c.name d.name g.from_list b.r3 g.name at_name in
    let Q : List ℕ → Type 0 = λ t. SplitsList t d.args in
    let fits : length g.from_list ≤ longest_script =
    omega (arith, start_shorter line g.from_home g.start, atom_shorter g.from_home c.home g.from_name g.home, atom_shorter g.from_name c.name g.from_list g.name) in
    let args = list_one g.from_list c.args d.args fits g.list (subst Q (sym names.1) b.list) in
    let home_is : c.home ≡ d.home = homes.0 in
    let name_is : c.name ≡ d.name = names.0 in
    λ i. record { home = home_is i; name = name_is i; args = args i }

-- what a reader of the tokens answers of the text
pub list_answer : (text : List ℕ) (ts us : List Placed) → us ≡ ts → AreTokens text ts → (o : Option Datum)
    → MatchOption o ((t : Datum) → ReadsList (bare us) t → IsWithin t → ⊥) (λ t. ReadsList (bare us) t × IsWithin t)
    → MatchOption o ((t : Datum) → IsList text t → ⊥) (λ t. IsList text t)
list_answer text ts us e h None none = λ t k.
    let P : List Placed → Type 0 = λ vs. ReadsList (bare vs) t in
    none t (subst P (tokens_one text k.tokens ts k.scanned h ∙ sym e) k.reads) k.within
list_answer text ts us e h (Some t) found =
    let P : List Placed → Type 0 = λ vs. ReadsList (bare vs) t in
    record { tokens = ts; scanned = h; reads = subst P e found.0; within = found.1 }

pub list_fault : (text : List ℕ) (at : ℕ) → IsFault text at → (t : Datum) → IsList text t → ⊥
list_fault text at h t k = tokens_or_fault text k.tokens at k.scanned h

-- what a test for the word at the head answers
pub start_answer : (line text word : List ℕ) (r : Option (Bor (List ℕ))) → SplitsSpaces line text → word ≡ codes "start"
    → MatchOption r ((rest : List ℕ) → text ≢ word ++ rest) (λ x. text ≡ word ++ x.now)
    → MatchOption r ((rest : List ℕ) → SplitsStart line rest → ⊥) (λ rest. SplitsStart line rest.now)
start_answer line text word None h e none = start_none line text h (λ rest is. none rest (is ∙ ap (λ w. w ++ rest) (sym e)))
start_answer line text word (Some x) h e found = start_found line text x.now h (found ∙ ap (λ w. w ++ x.now) e)

-- what a reader of the list answers of the text with its gap
pub arguments_answer : (text rest : List ℕ) → text ≡ 32 ∷ rest → length text ≤ longest_script → (o : Option Datum)
    → MatchOption o ((t : Datum) → IsList rest t → ⊥) (λ t. IsList rest t)
    → MatchOption o ((t : Datum) → SplitsList text t → ⊥) (λ t. SplitsList text t)
arguments_answer text rest e short None none = list_no_list text rest e short none
arguments_answer text rest e short (Some t) found = list_found text rest t e found
