-- Which command a line gives: the first word says its kind.
use Rattle.std.proofs.Common.{◌≡◌, ◌≢◌, ℕ, ◌+◌, ◌≤◌, Bool, true, false, List, [], ◌∷◌, ◌++◌, length, Option, Some, None, refl, sym, ap, ◌∙◌, subst, inl, inr, arith, append-nil, eqb-true, cond, get_or, drop}
use Rattle.std.specs.Prelude.{codes, MatchOption, MatchBool, ◌⊎◌, ◌==◌, slice_get}
use Rattle.std.specs.List.{list_all}
use Rattle.edb_event.specs.declared.call.Call.{Call}
use Rattle.edb_event.specs.declared.call.Call.TheVariants as call
use Rattle.edb_event.specs.declared.call.Command.{Command}
use Rattle.edb_event.specs.declared.call.Word.{Word}
use Rattle.edb_event.specs.declared.call.Word.TheVariants.{Absent}
use Rattle.edb_scan.specs.Fronts.{SplitsRun, Stops}
use Rattle.edb_cmds.specs.declared.commands.Kind.{Kind}
use Rattle.edb_cmds.specs.declared.commands.Kind.TheVariants.{Start, Ii, Ib, Await, Ia, Bindings, Continue}
use Rattle.edb_cmds.specs.declared.script.StartCommand.{StartCommand}
use Rattle.edb_cmds.specs.CommandLines.{IsBlankLine, IsLineOf, IsCallLine, IsCommandLine}
use Rattle.edb_cmds.specs.Fields.{Field, atom, line, process, status, AreFields}
use Rattle.edb_cmds.specs.Listing.{is_start}
use Rattle.edb_cmds.specs.Kinds.{stays_in_word, word_of, Behind}
use Rattle.edb_cmds.specs.Script.{spaces, IsStart, longest_script}
use Rattle.edb_cmds.specs.Words.{NoSpace, SplitsSpaces}
use Rattle.edb_cmds.proofs.FieldLaws.{atom_lines_one, atoms_one, bare_head, fields_stop, process_statuses_one, processes_one, run_one}
use Rattle.edb_cmds.proofs.WordLaws.{gap_head, spaces_one, start_command_one}

-- a line whose first word is this one, with a space or nothing behind it
record Heads (text first rest : List ℕ) : Type 0 where
  before : ℕ
  cut : text ≡ spaces before ++ (first ++ rest)
  stops : Stops stays_in_word rest

line_heads : (text first : List ℕ) (fs : List Field) (h : IsLineOf text first fs) → Heads text first h.rest
line_heads text first fs h = record { before = h.before; cut = h.cut; stops = fields_stop h.rest fs h.behind }

start_heads : (text : List ℕ) (s : StartCommand) (h : IsStart text s) → Heads text (codes "start") (spaces (h.start_gap + 1) ++ h.from_home)
start_heads text s h = record { before = h.before; cut = h.cut; stops = subst (λ x. Stops stays_in_word x) (sym (gap_head h.start_gap h.from_home)) refl }

-- how a line is split
record Split (text word rest : List ℕ) : Type 0 where
  pub from : List ℕ
  pub spaces : SplitsSpaces text from
  pub run : SplitsRun stays_in_word from word rest

word_bare : (k : Kind) → list_all stays_in_word (word_of k) ≡ true
word_bare Start = refl
word_bare Ii = refl
word_bare Ib = refl
word_bare Await = refl
word_bare Ia = refl
word_bare Bindings = refl
word_bare Continue = refl

word_some : (k : Kind) → word_of k ≢ []
word_some Start = λ e. absurd (cc)
word_some Ii = λ e. absurd (cc)
word_some Ib = λ e. absurd (cc)
word_some Await = λ e. absurd (cc)
word_some Ia = λ e. absurd (cc)
word_some Bindings = λ e. absurd (cc)
word_some Continue = λ e. absurd (cc)

word_no_space : (k : Kind) (rest : List ℕ) → NoSpace (word_of k ++ rest)
word_no_space k rest = bare_head (word_of k) rest (word_some k, word_bare k)

heads_one : (text w rest : List ℕ) (k : Kind) (after : List ℕ) → Split text w rest → Heads text (word_of k) after → (w ≡ word_of k) × (after ≡ rest)
heads_one text w rest k after h g =
    let same : h.from ≡ word_of k ++ after =
    spaces_one h.spaces.count g.before h.from (word_of k ++ after) (sym h.spaces.cut ∙ g.cut) h.spaces.all (word_no_space k after) in
    let one = run_one stays_in_word w rest (word_of k) after (sym h.run.cut ∙ same) h.run.passes (word_bare k) h.run.stops g.stops in
    (one.0, sym one.1)

-- what a line says of itself
record Told (text w rest : List ℕ) (c : Command) : Type 0 where
  pub kind : Kind
  pub first : w ≡ word_of kind
  pub behind : Behind kind text rest c

fields_told : (text w rest : List ℕ) (k : Kind) (fs : List Field) → Split text w rest → IsLineOf text (word_of k) fs → (w ≡ word_of k) × AreFields rest fs
fields_told text w rest k fs h g =
    let one = heads_one text w rest k g.rest h (line_heads text (word_of k) fs g) in
    (one.0, subst (λ x. AreFields x fs) one.1 g.behind)

abbrev spoken : Call → Word → Command
spoken c w = record { call = c; word = w }

told_call : (text w rest : List ℕ) → Split text w rest → (c : Call) (p : Word) → IsCallLine text c p → Told text w rest (record { call = c; word = p })
told_call text w rest h (call.Start m f args) p g =
    let s : StartCommand = record { home = m; name = f; args = args } in
    let one = heads_one text w rest Start (spaces (g.1.start_gap + 1) ++ g.1.from_home) h (start_heads text s g.1) in
    record { kind = Start; first = one.0; behind = (s, g.1, ap (λ (x : Word). spoken (call.Start m f args) x) g.0) }
told_call text w rest h (call.Ii m) p g =
    let one = fields_told text w rest Ii (atom m ∷ []) h g.1 in
    record { kind = Ii; first = one.0; behind = (m, one.1, ap (λ (x : Word). spoken (call.Ii m) x) g.0) }
told_call text w rest h (call.Ib m l) p g =
    let one = fields_told text w rest Ib (atom m ∷ line l ∷ []) h g.1 in
    record { kind = Ib; first = one.0; behind = (m, l, one.1, ap (λ (x : Word). spoken (call.Ib m l) x) g.0) }
told_call text w rest h (call.Await pid s) p g =
    let one = fields_told text w rest Await (process p ∷ status s ∷ []) h g.names in
    record { kind = Await; first = one.0; behind = (p, s, one.1, ap (λ n. spoken (call.Await n s) p) g.open_pid) }
told_call text w rest h (call.Ia pid) p g =
    let one = fields_told text w rest Ia (process p ∷ []) h g.names in
    record { kind = Ia; first = one.0; behind = (p, one.1, ap (λ n. spoken (call.Ia n) p) g.open_pid) }
told_call text w rest h (call.Bindings pid) p g =
    let one = fields_told text w rest Bindings (process p ∷ []) h g.names in
    record { kind = Bindings; first = one.0; behind = (p, one.1, ap (λ n. spoken (call.Bindings n) p) g.open_pid) }
told_call text w rest h (call.Continue pid) p g =
    let one = fields_told text w rest Continue (process p ∷ []) h g.names in
    record { kind = Continue; first = one.0; behind = (p, one.1, ap (λ n. spoken (call.Continue n) p) g.open_pid) }
told_call text w rest h _ p g = absurd g

-- the words differ, since these numbers do
abbrev mark : List ℕ → ℕ
mark w = get_or w 1 0 + length w

abbrev kind_from : ℕ → Kind
kind_from n = cond (n == 121) Start (cond (n == 107) Ii (cond (n == 100) Ib (cond (n == 124) Await (cond (n == 99) Ia (cond (n == 113) Bindings Continue)))))

kind_back : (k : Kind) → kind_from (mark (word_of k)) ≡ k
kind_back Start = refl
kind_back Ii = refl
kind_back Ib = refl
kind_back Await = refl
kind_back Ia = refl
kind_back Bindings = refl
kind_back Continue = refl

pub word_injective : (j k : Kind) → word_of j ≡ word_of k → j ≡ k
word_injective j k e = sym (kind_back j) ∙ ap (λ w. kind_from (mark w)) e ∙ kind_back k

-- a line that says it
told : (text w rest : List ℕ) → Split text w rest → (c : Command) → IsCommandLine text c → Told text w rest c
told text w rest h c g = told_call text w rest h c.call c.word g

line_from : (text w rest : List ℕ) (k : Kind) (fs : List Field) → Split text w rest → w ≡ word_of k → AreFields rest fs → IsLineOf text (word_of k) fs
line_from text w rest k fs h first more = record {
  before = h.spaces.count;
  rest = rest;
  cut = h.spaces.cut ∙ ap (λ x. spaces h.spaces.count ++ x) (h.run.cut ∙ ap (λ x. x ++ rest) first);
  behind = more;
}

-- a line of a kind gives its command
given : (text w rest : List ℕ) (k : Kind) → Split text w rest → w ≡ word_of k → (c : Command) → Behind k text rest c → IsCommandLine text c
given text w rest Start h first c g = subst (λ x. IsCommandLine text x) (sym g.2) (refl, g.1)
given text w rest Ii h first c g = subst (λ x. IsCommandLine text x) (sym g.2) (refl, line_from text w rest Ii (atom g.0 ∷ []) h first g.1)
given text w rest Ib h first c g = subst (λ x. IsCommandLine text x) (sym g.3) (refl, line_from text w rest Ib (atom g.0 ∷ line g.1 ∷ []) h first g.2)
given text w rest Await h first c g =
    subst (λ x. IsCommandLine text x) (sym g.3) (record { open_pid = refl; names = line_from text w rest Await (process g.0 ∷ status g.1 ∷ []) h first g.2 })
given text w rest Ia h first c g =
    subst (λ x. IsCommandLine text x) (sym g.2) (record { open_pid = refl; names = line_from text w rest Ia (process g.0 ∷ []) h first g.1 })
given text w rest Bindings h first c g =
    subst (λ x. IsCommandLine text x) (sym g.2) (record { open_pid = refl; names = line_from text w rest Bindings (process g.0 ∷ []) h first g.1 })
given text w rest Continue h first c g =
    subst (λ x. IsCommandLine text x) (sym g.2) (record { open_pid = refl; names = line_from text w rest Continue (process g.0 ∷ []) h first g.1 })

-- what a reader of the kind answers of the line
pub kind_answer : (text w rest from : List ℕ) → SplitsSpaces text from → SplitsRun stays_in_word from w rest → (k : Kind) → w ≡ word_of k → (o : Option Command)
    → MatchOption o ((c : Command) → Behind k text rest c → ⊥) (λ c. Behind k text rest c)
    → MatchOption o ((c : Command) → IsCommandLine text c → ⊥) (λ c. IsCommandLine text c)
kind_answer text w rest from s r k first None none = λ c g.
    let t = told text w rest (record { from = from; spaces = s; run = r }) c g in
    none c (subst (λ x. Behind x text rest c) (word_injective t.kind k (sym t.first ∙ first)) t.behind)
kind_answer text w rest from s r k first (Some c) found = given text w rest k (record { from = from; spaces = s; run = r }) first c found

pub no_kind : (text w rest from : List ℕ) → SplitsSpaces text from → SplitsRun stays_in_word from w rest → ((k : Kind) → w ≢ word_of k) → (c : Command) → IsCommandLine text c → ⊥
no_kind text w rest from s r none c g = let t = told text w rest (record { from = from; spaces = s; run = r }) c g in none t.kind t.first

-- blank lines
nothing_head : NoSpace []
nothing_head t e = absurd (cc)

heads_same : (c d : ℕ) (x y : List ℕ) → c ∷ x ≡ d ∷ y → c ≡ d
heads_same c d x y e = cc

percent_head : (comment : List ℕ) → NoSpace (37 ∷ comment)
percent_head comment t e = absurd (omega (arith, heads_same 37 32 comment t e))

blank_only : (text from : List ℕ) → SplitsSpaces text from → IsBlankLine text → (from ≡ []) ⊎ ((comment : List ℕ) × (from ≡ 37 ∷ comment))
blank_only text from h (n, inl e) = inl (spaces_one h.count n from [] (sym h.cut ∙ e ∙ sym (append-nil (spaces n))) h.all nothing_head)
blank_only text from h (n, inr e) = inr (e.0, spaces_one h.count n from (37 ∷ e.0) (sym h.cut ∙ e.1) h.all (percent_head e.0))

pub blank_answer : (text from : List ℕ) → SplitsSpaces text from → (byte : ℕ) → Some byte ≡ slice_get from 0 → MatchBool (byte == 37) (IsBlankLine text) (IsBlankLine text → ⊥)
blank_answer text [] h byte e = absurd (cc)
blank_answer text (c ∷ from) h byte e = let same : byte ≡ c = cc in by (byte == 37) refl same
  where
    other_byte : (byte == 37) ≡ false → byte ≡ c → (c ∷ from ≡ []) ⊎ ((comment : List ℕ) × (c ∷ from ≡ 37 ∷ comment)) → ⊥
    other_byte is same (inl x) = absurd (cc)
    other_byte is same (inr x) =
        let at : c ≡ 37 = let e = x.1 in cc in
        let yes : (byte == 37) ≡ true = ap (λ n. n == 37) (same ∙ at) in
        absurd (cc)

    by : (b : Bool) → (byte == 37) ≡ b → byte ≡ c → MatchBool b (IsBlankLine text) (IsBlankLine text → ⊥)
    by true is same =
        let at : c ≡ 37 = sym same ∙ eqb-true byte 37 is in
        (h.count, inr (from, h.cut ∙ ap (λ x. spaces h.count ++ (x ∷ from)) at))
    by false is same = λ blank. other_byte is same (blank_only text (c ∷ from) h blank)

-- a line's first word begins with no `%`
word_no_percent : (k : Kind) (rest comment : List ℕ) → word_of k ++ rest ≡ 37 ∷ comment → ⊥
word_no_percent Start rest comment e = absurd (omega (arith, heads_same 115 37 (drop 1 (word_of Start ++ rest)) comment e))
word_no_percent Ii rest comment e = absurd (omega (arith, heads_same 105 37 (drop 1 (word_of Ii ++ rest)) comment e))
word_no_percent Ib rest comment e = absurd (omega (arith, heads_same 105 37 (drop 1 (word_of Ib ++ rest)) comment e))
word_no_percent Await rest comment e = absurd (omega (arith, heads_same 97 37 (drop 1 (word_of Await ++ rest)) comment e))
word_no_percent Ia rest comment e = absurd (omega (arith, heads_same 105 37 (drop 1 (word_of Ia ++ rest)) comment e))
word_no_percent Bindings rest comment e = absurd (omega (arith, heads_same 98 37 (drop 1 (word_of Bindings ++ rest)) comment e))
word_no_percent Continue rest comment e = absurd (omega (arith, heads_same 99 37 (drop 1 (word_of Continue ++ rest)) comment e))

abbrev starts_kind : Kind → Bool
starts_kind Start = true
starts_kind _ = false

-- the first word of a command
record HeadsOf (text : List ℕ) (c : Command) : Type 0 where
  kind : Kind
  rest : List ℕ
  heads : Heads text (word_of kind) rest
  behind : Behind kind text rest c
  start : is_start c ≡ starts_kind kind

heads_call : (text : List ℕ) (c : Call) (p : Word) → IsCallLine text c p → HeadsOf text (record { call = c; word = p })
heads_call text (call.Start m f args) p g =
    record { kind = Start; rest = spaces (g.1.start_gap + 1) ++ g.1.from_home; heads = start_heads text (record { home = m; name = f; args = args }) g.1; behind = (record { home = m; name = f; args = args }, g.1, ap (λ (x : Word). spoken (call.Start m f args) x) g.0); start = refl }
heads_call text (call.Ii m) p g = record { kind = Ii; rest = g.1.rest; heads = line_heads text (word_of Ii) (atom m ∷ []) g.1; behind = (m, g.1.behind, ap (λ (x : Word). spoken (call.Ii m) x) g.0); start = refl }
heads_call text (call.Ib m l) p g = record { kind = Ib; rest = g.1.rest; heads = line_heads text (word_of Ib) (atom m ∷ line l ∷ []) g.1; behind = (m, l, g.1.behind, ap (λ (x : Word). spoken (call.Ib m l) x) g.0); start = refl }
heads_call text (call.Await pid s) p g =
    record { kind = Await; rest = g.names.rest; heads = line_heads text (word_of Await) (process p ∷ status s ∷ []) g.names; behind = (p, s, g.names.behind, ap (λ n. spoken (call.Await n s) p) g.open_pid); start = refl }
heads_call text (call.Ia pid) p g = record { kind = Ia; rest = g.names.rest; heads = line_heads text (word_of Ia) (process p ∷ []) g.names; behind = (p, g.names.behind, ap (λ n. spoken (call.Ia n) p) g.open_pid); start = refl }
heads_call text (call.Bindings pid) p g =
    record { kind = Bindings; rest = g.names.rest; heads = line_heads text (word_of Bindings) (process p ∷ []) g.names; behind = (p, g.names.behind, ap (λ n. spoken (call.Bindings n) p) g.open_pid); start = refl }
heads_call text (call.Continue pid) p g =
    record { kind = Continue; rest = g.names.rest; heads = line_heads text (word_of Continue) (process p ∷ []) g.names; behind = (p, g.names.behind, ap (λ n. spoken (call.Continue n) p) g.open_pid); start = refl }
heads_call text _ p g = absurd g

heads_of : (text : List ℕ) (c : Command) → IsCommandLine text c → HeadsOf text c
heads_of text c g = heads_call text c.call c.word g

nil_front : (x y : List ℕ) → x ++ y ≡ [] → x ≡ []
nil_front [] y e = refl
nil_front (c ∷ x) y e = absurd (cc)

-- no line is both blank and a command
pub blank_or_command : (text : List ℕ) (c : Command) → IsBlankLine text → IsCommandLine text c → ⊥
blank_or_command text c (n, inl e) g =
    let h = heads_of text c g in
    let same : word_of h.kind ++ h.rest ≡ [] =
    spaces_one h.heads.before n (word_of h.kind ++ h.rest) [] (sym h.heads.cut ∙ e ∙ sym (append-nil (spaces n))) (word_no_space h.kind h.rest) nothing_head in
    word_some h.kind (nil_front (word_of h.kind) h.rest same)
blank_or_command text c (n, inr e) g =
    let h = heads_of text c g in
    word_no_percent h.kind h.rest e.0
    (spaces_one h.heads.before n (word_of h.kind ++ h.rest) (37 ∷ e.0) (sym h.heads.cut ∙ e.1) (word_no_space h.kind h.rest) (percent_head e.0))

-- a line is one kind of command
pub same_start : (text : List ℕ) (c d : Command) → IsCommandLine text c → IsCommandLine text d → is_start c ≡ is_start d
same_start text c d g k =
    let h = heads_of text c g in
    let j = heads_of text d k in
    let same : word_of h.kind ++ h.rest ≡ word_of j.kind ++ j.rest =
    spaces_one h.heads.before j.heads.before (word_of h.kind ++ h.rest) (word_of j.kind ++ j.rest) (sym h.heads.cut ∙ j.heads.cut) (word_no_space h.kind h.rest) (word_no_space j.kind j.rest) in
    let words = (run_one stays_in_word (word_of h.kind) h.rest (word_of j.kind) j.rest same (word_bare h.kind) (word_bare j.kind) h.heads.stops j.heads.stops).0 in
    h.start ∙ ap starts_kind (word_injective h.kind j.kind words) ∙ sym j.start

-- a line gives one command
behind_one : (k : Kind) (text rest : List ℕ) (c d : Command) → length text ≤ longest_script → Behind k text rest c → Behind k text rest d → c ≡ d
behind_one Start text rest c d short h k =
    h.2 ∙ ap (λ (s : StartCommand). spoken (call.Start s.home s.name s.args) Absent) (start_command_one text h.0 k.0 short h.1 k.1) ∙ sym k.2
behind_one Ii text rest c d short h k = h.2 ∙ ap (λ m. spoken (call.Ii m) Absent) (atoms_one rest h.0 k.0 h.1 k.1) ∙ sym k.2
behind_one Ib text rest c d short h k =
    let same = atom_lines_one rest h.0 k.0 h.1 k.1 h.2 k.2 in
    h.3 ∙ ap (λ m. spoken (call.Ib m h.1) Absent) same.0 ∙ ap (λ l. spoken (call.Ib k.0 l) Absent) same.1 ∙ sym k.3
behind_one Await text rest c d short h k =
    let same = process_statuses_one rest h.0 k.0 h.1 k.1 h.2 k.2 in
    h.3 ∙ ap (λ w. spoken (call.Await 0 h.1) w) same.0 ∙ ap (λ s. spoken (call.Await 0 s) k.0) same.1 ∙ sym k.3
behind_one Ia text rest c d short h k = h.2 ∙ ap (λ w. spoken (call.Ia 0) w) (processes_one rest h.0 k.0 h.1 k.1) ∙ sym k.2
behind_one Bindings text rest c d short h k = h.2 ∙ ap (λ w. spoken (call.Bindings 0) w) (processes_one rest h.0 k.0 h.1 k.1) ∙ sym k.2
behind_one Continue text rest c d short h k = h.2 ∙ ap (λ w. spoken (call.Continue 0) w) (processes_one rest h.0 k.0 h.1 k.1) ∙ sym k.2

pub command_one : (text : List ℕ) (c d : Command) → length text ≤ longest_script → IsCommandLine text c → IsCommandLine text d → c ≡ d
command_one text c d short g k =
    let h = heads_of text c g in
    let j = heads_of text d k in
    let same : word_of h.kind ++ h.rest ≡ word_of j.kind ++ j.rest =
    spaces_one h.heads.before j.heads.before (word_of h.kind ++ h.rest) (word_of j.kind ++ j.rest) (sym h.heads.cut ∙ j.heads.cut) (word_no_space h.kind h.rest) (word_no_space j.kind j.rest) in
    let parts = run_one stays_in_word (word_of h.kind) h.rest (word_of j.kind) j.rest same (word_bare h.kind) (word_bare j.kind) h.heads.stops j.heads.stops in
    let at_kind : Behind j.kind text h.rest c = subst (λ x. Behind x text h.rest c) (word_injective h.kind j.kind parts.0) h.behind in
    behind_one j.kind text j.rest c d short (subst (λ x. Behind j.kind text x c) parts.1 at_kind) j.behind
