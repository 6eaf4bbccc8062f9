-- The tokens of the layout of a module may stand side by side, whatever the module is.

use Rattle.std.proofs.Common.{◌≡◌, ℕ, ◌+◌, ℤ, pos, negsuc, Bool, true, false, not, ◌&&◌, ◌||◌, List, [], ◌∷◌, ◌++◌, Option, None, Some, refl, sym, subst, append_assoc}
use Rattle.std.proofs.lemmas.Bool.{false≢true}
use Rattle.edb_scan.specs.declared.lexeme.Mark.{Mark}
use Rattle.edb_scan.specs.declared.lexeme.Mark.TheVariants as mark
use Rattle.edb_scan.specs.declared.lexeme.Token.{Token}
use Rattle.edb_scan.specs.declared.lexeme.Token.TheVariants as token
use Rattle.edb_scan.specs.declared.lexeme.Token.TheVariants.{Int, Float, Char, Atom, Var, Str, Dot}
use Rattle.edb_lang.specs.declared.operators.UnaryOp.{UnaryOp}
use Rattle.edb_lang.specs.declared.operators.UnaryOp.TheVariants as unary
use Rattle.edb_lang.specs.declared.operators.BinaryOp.{BinaryOp}
use Rattle.edb_lang.specs.declared.operators.BinaryOp.TheVariants as binary
use Rattle.edb_syntax.specs.declared.operation.Operation.{Operation}
use Rattle.edb_syntax.specs.declared.operation.Operation.TheVariants.{ListWithTail, Unary, Binary, Send, LocalCall, RemoteCall, FunCall}
use Rattle.edb_syntax.specs.declared.operation.Operation.TheVariants as operation
use Rattle.edb_syntax.specs.declared.modules.Export.{Export}
use Rattle.edb_syntax.specs.Patterns as pattern
use Rattle.edb_syntax.specs.Patterns.{Pat, Pats}
use Rattle.edb_syntax.specs.Syntax.{Exp, Exps, Seq, After, Guards, ClauseTree, Clauses, CatchTree, Catches, QualifierTree, Qualifiers, FunctionTree, ModuleTree, int, atom, string, float, variable, apply, and_also, or_else, match, catch, begin, case, if_clauses, receive, receive_after, try, fun_clauses, fun_local, fun_remote, comprehension, none, more, sequence, no_after, after, no_guard, alternative, clause, no_clauses, more_clauses, catch_clause, no_catches, more_catches, generator, filter, no_qualifiers, more_qualifiers}
use Rattle.edb_grammar.specs.Files.{is_dot}
use Rattle.edb_print.specs.Pieces.{Gap, tight, blank, line, Piece, piece, sign}
use Rattle.edb_print.specs.Layout.{lay_integer, lay_pattern, lay_patterns, lay_more_patterns, prefix_mark, prefix_gap, infix_mark, is_operator, is_call, is_open, grouped, Opening, with_pattern, with_guard, with_parameters, with_name, lay_stack, lay_end, lay, lay_all, lay_more, lay_to_tail, lay_body, lay_guard, lay_alternatives, lay_when, lay_clause, lay_clauses, lay_more_clauses, lay_of, lay_catch, lay_after, lay_handler, lay_more_handlers, lay_qualifiers, lay_more_qualifiers, lay_qualifier, lay_dot, lay_functions, lay_more_entries, lay_exports, lay_module_line, lay_module}
use Rattle.edb_print.specs.Parts.{lay_behind, lay_arguments, lay_block}
use Rattle.edb_print.proofs.Touching.{is_laid, is_free, is_behind, is_last, is_first, is_minus, is_bracket, joins, touches, Behind}

-- Each token of a kind may follow t after the gap g.
record Takes (kind : Token → Bool) (t : Token) (g : Gap) : Type 0 where
  takes : g ≡ tight → (u : Token) → kind u ≡ true → touches t u ≡ true

-- These pieces may follow t, and whatever may follow each token of a kind may follow them: they end with one.
record Fits (kind : Token → Bool) (t : Token) (ps : List Piece) : Type 0 where
  fits : (rest : List Piece) → ((u : Token) → kind u ≡ true → Behind u rest) → Behind t (ps ++ rest)

-- any token but a dot
abbrev no_dot : Token → Bool
no_dot t = not (is_dot t)

-- any token that may stand after a bracket
abbrev any_first : Token → Bool
any_first u = not (is_behind u)

abbrev is_paren : Token → Bool
is_paren (token.Mark mark.ParenOpen) = true
is_paren _ = false

-- with what a pattern begins
abbrev pattern_first : Token → Bool
pattern_first u = is_first u || is_minus u

-- with what an operand begins, in parentheses or not
abbrev operand_first : Token → Bool
operand_first u = is_first u || is_paren u

-- with what an expression begins: an operator may begin with any token
abbrev begins : Bool → Token → Bool
begins true = any_first
begins false = operand_first

calm : (t : Token) → is_last t ≡ true → no_dot t ≡ true
calm Dot h = h
calm _ h = refl

paren_free : (u : Token) → is_paren u ≡ true → is_free u ≡ true
paren_free (token.Mark mark.ParenOpen) h = refl
paren_free _ h = absurd (false≢true h)

pattern_any : (u : Token) → pattern_first u ≡ true → any_first u ≡ true
pattern_any (token.Mark mark.Colon) h = h
pattern_any (token.Mark mark.Slash) h = h
pattern_any Dot h = h
pattern_any _ h = refl

operand_any : (u : Token) → operand_first u ≡ true → any_first u ≡ true
operand_any (token.Mark mark.Colon) h = h
operand_any (token.Mark mark.Slash) h = h
operand_any Dot h = h
operand_any _ h = refl

-- the parts of `touches`, each of which is enough
second : (a : Bool) → (a || true) ≡ true
second true = refl
second false = refl

third : (a b : Bool) → (a || (b || true)) ≡ true
third true b = refl
third false b = second b

fourth : (a b c : Bool) → (a || (b || (c || true))) ≡ true
fourth true b c = refl
fourth false b c = third b c

free_touches : (t u : Token) → is_free u ≡ true → no_dot t ≡ true → touches t u ≡ true
free_touches t u f h = rw (f, h) refl

behind_touches : (t u : Token) → is_behind u ≡ true → is_last t ≡ true → touches t u ≡ true
behind_touches t u f h = rw (f, h) (second (is_free u && no_dot t))

bracket_touches : (t u : Token) → is_bracket t ≡ true → any_first u ≡ true → touches t u ≡ true
bracket_touches t u f h = rw (f, h) (third (is_free u && no_dot t) (is_behind u && is_last t))

joined_touches : (t u : Token) → joins t u ≡ true → touches t u ≡ true
joined_touches t u j = rw j (fourth (is_free u && no_dot t) (is_behind u && is_last t) (is_bracket t && any_first u))

-- what takes tokens of a kind
blank_takes : {kind : Token → Bool} {t : Token} → Takes kind t blank
blank_takes = record { takes = λ e u h. cc }

line_takes : {kind : Token → Bool} {t : Token} {d : ℕ} → Takes kind t (line d)
line_takes = record { takes = λ e u h. cc }

bracket_takes : {t : Token} {g : Gap} → is_bracket t ≡ true → Takes any_first t g
bracket_takes {t = t} f = record { takes = λ e u h. bracket_touches t u f h }

as_pattern : {t : Token} {g : Gap} → Takes any_first t g → Takes pattern_first t g
as_pattern k = record { takes = λ e u h. k.takes e u (pattern_any u h) }

as_operand : {t : Token} {g : Gap} → Takes any_first t g → Takes operand_first t g
as_operand k = record { takes = λ e u h. k.takes e u (operand_any u h) }

as_begun : {t : Token} {g : Gap} (b : Bool) → Takes any_first t g → Takes (begins b) t g
as_begun true k = k
as_begun false k = as_operand k

-- after `:` a pattern may stand, and an operand as after `-` and `+`
colon_takes : Takes pattern_first (token.Mark mark.Colon) tight
colon_takes = record { takes = λ e u h. joined_touches (token.Mark mark.Colon) u h }

joint_takes : (t : Token) → no_dot t ≡ true → ((u : Token) → is_first u ≡ true → joins t u ≡ true) → Takes operand_first t tight
joint_takes t c j = record { takes = λ e u h. by u h (is_first u) refl }
  where
    by : (u : Token) → operand_first u ≡ true → (b : Bool) → is_first u ≡ b → touches t u ≡ true
    by u h true i = joined_touches t u (j u i)
    by u h false i = free_touches t u (paren_free u (subst (λ b. (b || is_paren u) ≡ true) i h)) c

name_takes : Takes operand_first (token.Mark mark.Colon) tight
name_takes = joint_takes (token.Mark mark.Colon) refl (λ u h. rw h refl)

prefix_takes : (o : UnaryOp) → Takes operand_first (token.Mark (prefix_mark o)) (prefix_gap o)
prefix_takes unary.Plus = joint_takes (token.Mark mark.Plus) refl (λ u h. h)
prefix_takes unary.Minus = joint_takes (token.Mark mark.Minus) refl (λ u h. h)
prefix_takes unary.BitNot = blank_takes
prefix_takes unary.Not = blank_takes

-- nothing, and pieces one after the other
close : {kind : Token → Bool} {t : Token} → kind t ≡ true → Fits kind t []
close {t = t} h = record { fits = λ rest k. k t h }

join : {kind between : Token → Bool} {t : Token} {ps qs : List Piece} → Fits between t ps
    → ((u : Token) → between u ≡ true → Fits kind u qs) → Fits kind t (ps ++ qs)
join {t = t} {ps = ps} {qs = qs} a b = record {
  fits = λ rest k. subst (Behind t) (sym (append_assoc ps qs rest)) (a.fits (qs ++ rest) (λ u h. (b u h).fits rest k));
}

eased : {t : Token} {ps : List Piece} → Fits is_last t ps → Fits no_dot t ps
eased a = record { fits = λ rest k. a.fits rest (λ u h. k u (calm u h)) }

-- a piece before others: one that begins what may stand after t; one after a space or on a line of its own; one that
-- may stand after any token but a dot; one that may stand after the end of an expression; one that is known to touch t
first : {kind goal : Token → Bool} {t u : Token} {g : Gap} {ps : List Piece} → Takes kind t g → is_laid u ≡ true → kind u ≡ true
    → Fits goal u ps → Fits goal t (piece g u ∷ ps)
first {u = u} k l h f = record { fits = λ rest r. (l, λ e. k.takes e u h, f.fits rest r) }

spaced : {goal : Token → Bool} {t u : Token} {ps : List Piece} → is_laid u ≡ true → Fits goal u ps → Fits goal t (piece blank u ∷ ps)
spaced l f = record { fits = λ rest r. (l, λ e. cc, f.fits rest r) }

lined : {goal : Token → Bool} {t u : Token} {d : ℕ} {ps : List Piece} → is_laid u ≡ true → Fits goal u ps → Fits goal t (piece (line d) u ∷ ps)
lined l f = record { fits = λ rest r. (l, λ e. cc, f.fits rest r) }

touching : {goal : Token → Bool} {t u : Token} {ps : List Piece} → is_laid u ≡ true → touches t u ≡ true
    → Fits goal u ps → Fits goal t (piece tight u ∷ ps)
touching l h f = record { fits = λ rest r. (l, λ e. h, f.fits rest r) }

freely : {goal : Token → Bool} {t u : Token} {ps : List Piece} → is_laid u ≡ true → is_free u ≡ true → no_dot t ≡ true
    → Fits goal u ps → Fits goal t (piece tight u ∷ ps)
freely {t = t} {u = u} l f c = touching l (free_touches t u f c)

behind : {goal : Token → Bool} {t u : Token} {ps : List Piece} → is_laid u ≡ true → is_behind u ≡ true → is_last t ≡ true
    → Fits goal u ps → Fits goal t (piece tight u ∷ ps)
behind {t = t} {u = u} l f h = touching l (behind_touches t u f h)

-- patterns
integer_fits : (i : ℤ) (g : Gap) (t : Token) → Takes pattern_first t g → Fits is_last t (lay_integer g i)
integer_fits (pos n) g t k = first k refl refl (close refl)
integer_fits (negsuc n) g t k = first k refl refl (touching refl refl (close refl))

mutual
  pattern_fits : (p : Pat) (g : Gap) (t : Token) → Takes pattern_first t g → Fits is_last t (lay_pattern g p)
  pattern_fits (pattern.int l i) g t k = integer_fits i g t k
  pattern_fits (pattern.atom l a) g t k = first k refl refl (close refl)
  pattern_fits (pattern.string l s) g t k = first k refl refl (close refl)
  pattern_fits (pattern.variable l x) g t k = first k refl refl (close refl)
  pattern_fits (pattern.any l) g t k = first k refl refl (close refl)
  pattern_fits (pattern.tuple l ps) g t k =
      first k refl refl (join (patterns_fit ps tight (token.Mark mark.BraceOpen) refl (as_pattern (bracket_takes refl))) (λ u c.
      freely refl refl c (close refl)))
  pattern_fits (pattern.list l ps) g t k =
      first k refl refl (join (patterns_fit ps tight (token.Mark mark.BracketOpen) refl (as_pattern (bracket_takes refl))) (λ u c.
      freely refl refl c (close refl)))
  pattern_fits (pattern.list_with_tail l ps p) g t k =
      first k refl refl (join (patterns_fit ps tight (token.Mark mark.BracketOpen) refl (as_pattern (bracket_takes refl))) (λ u c.
      spaced refl (join (pattern_fits p blank (token.Mark mark.Bar) blank_takes) (λ v h. freely refl refl (calm v h) (close refl)))))
  pattern_fits (pattern.both l p q) g t k =
      join (pattern_fits p g t k) (λ u h. spaced refl (pattern_fits q blank (token.Mark mark.Match) blank_takes))

  patterns_fit : (ps : Pats) (g : Gap) (t : Token) → no_dot t ≡ true → Takes pattern_first t g → Fits no_dot t (lay_patterns g ps)
  patterns_fit pattern.none g t c k = close c
  patterns_fit (pattern.more p ps) g t c k = eased (join (pattern_fits p g t k) (more_patterns_fit ps))

  more_patterns_fit : (ps : Pats) (t : Token) → is_last t ≡ true → Fits is_last t (lay_more_patterns ps)
  more_patterns_fit pattern.none t h = close h
  more_patterns_fit (pattern.more p ps) t h =
      freely refl refl (calm t h) (join (pattern_fits p blank (token.Mark mark.Comma) blank_takes) (more_patterns_fit ps))

-- the marks of operators are ones of the layout
prefix_laid : (o : UnaryOp) → is_laid (token.Mark (prefix_mark o)) ≡ true
prefix_laid unary.Plus = refl
prefix_laid _ = refl

prefix_any : (o : UnaryOp) → any_first (token.Mark (prefix_mark o)) ≡ true
prefix_any unary.Plus = refl
prefix_any _ = refl

infix_laid : (o : BinaryOp) → is_laid (token.Mark (infix_mark o)) ≡ true
infix_laid binary.Divide = refl
infix_laid _ = refl

-- an expression may stand at a place at which the token may with which it begins
abbrev LayFits : Exp → Type 0
LayFits e = (d : ℕ) (g : Gap) (t : Token) → Takes (begins (is_operator e)) t g → Fits is_last t (lay g d e)

-- in parentheses or not
grouped_fits : (e : Exp) → LayFits e → (b : Bool) → (b ≡ false → is_operator e ≡ false) → (d : ℕ) (g : Gap) (t : Token)
    → Takes operand_first t g → Fits is_last t (grouped b (λ h. lay h d e) g)
grouped_fits e f true low d g t k =
    first k refl refl (join (f d tight (token.Mark mark.ParenOpen) (as_begun (is_operator e) (bracket_takes refl))) (λ u h.
    freely refl refl (calm u h) (close refl)))
grouped_fits e f false low d g t k = f d g t (subst (λ b. Takes (begins b) t g) (sym (low refl)) k)

operand_fits : (e : Exp) → LayFits e → (d : ℕ) (g : Gap) (t : Token) → Takes operand_first t g
    → Fits is_last t (grouped (is_operator e) (λ h. lay h d e) g)
operand_fits e f = grouped_fits e f (is_operator e) (λ h. h)

no_left : (a b : Bool) → (a || b) ≡ false → a ≡ false
no_left true b h = h
no_left false b h = refl

called_fits : (e : Exp) → LayFits e → (d : ℕ) (g : Gap) (t : Token) → Takes operand_first t g
    → Fits is_last t (grouped (is_open e) (λ h. lay h d e) g)
called_fits e f = grouped_fits e f (is_open e) (no_left (is_operator e) (is_call e))

infix_fits : (x : Mark) → is_laid (token.Mark x) ≡ true → (a b : Exp) → LayFits a → LayFits b → (d : ℕ) (g : Gap) (t : Token)
    → Takes any_first t g → Fits is_last t (grouped (is_operator a) (λ h. lay h d a) g ++ lay_behind d x b)
infix_fits x l a b f h d g t k =
    join (operand_fits a f d g t (as_operand k)) (λ u i. spaced l (operand_fits b h d blank (token.Mark x) blank_takes))

-- each of these expressions
abbrev EachFits : Exps → Type 0
EachFits none = Unit {0}
EachFits (more e es) = LayFits e × EachFits es

more_fit : (es : Exps) → EachFits es → (h : Gap) (d : ℕ) (t : Token) → Takes any_first (token.Mark mark.Comma) h → is_last t ≡ true
    → Fits is_last t (lay_more h d es)
more_fit none f h d t k l = close l
more_fit (more e es) f h d t k l =
    freely refl refl (calm t l) (join (f.0 d h (token.Mark mark.Comma) (as_begun (is_operator e) k)) (λ u j. more_fit es f.1 h d u k j))

all_fit : (es : Exps) → EachFits es → (g h : Gap) (d : ℕ) (t : Token) → Takes any_first (token.Mark mark.Comma) h → no_dot t ≡ true
    → Takes any_first t g → Fits no_dot t (lay_all g h d es)
all_fit none f g h d t k c s = close c
all_fit (more e es) f g h d t k c s =
    eased (join (f.0 d g t (as_begun (is_operator e) s)) (λ u j. more_fit es f.1 h d u k j))

to_tail_fits : (es : Exps) → EachFits es → (d : ℕ) (t : Token) → is_last t ≡ true → Fits is_last t (lay_to_tail d es)
to_tail_fits none f d t l = close l
to_tail_fits (more e none) f d t l = spaced refl (f.0 d blank (token.Mark mark.Bar) blank_takes)
to_tail_fits (more e (more a es)) f d t l =
    freely refl refl (calm t l) (join (f.0 d blank (token.Mark mark.Comma) blank_takes) (λ u j. to_tail_fits (more a es) f.1 d u j))

-- expressions in brackets
enclosed_fit : (es : Exps) → EachFits es → (d : ℕ) (t : Token) (x : Mark) → is_bracket t ≡ true → no_dot t ≡ true
    → is_laid (token.Mark x) ≡ true → is_free (token.Mark x) ≡ true → is_last (token.Mark x) ≡ true
    → Fits is_last t (lay_all tight blank d es ++ sign tight x ∷ [])
enclosed_fit es f d t x b c l h j = join (all_fit es f tight blank d t blank_takes c (bracket_takes b)) (λ u i. freely l h i (close j))

arguments_fit : (es : Exps) → EachFits es → (d : ℕ) (t : Token) → no_dot t ≡ true → Fits is_last t (lay_arguments d es)
arguments_fit es f d t c = freely refl refl c (enclosed_fit es f d (token.Mark mark.ParenOpen) mark.ParenClose refl refl refl refl refl)

-- operations, on as many operands as they take or not
apply_fits : (l : ℕ) (o : Operation) (es : Exps) → EachFits es → LayFits (apply l o es)
apply_fits l operation.List es f d g t k =
    first k refl refl (enclosed_fit es f d (token.Mark mark.BracketOpen) mark.BracketClose refl refl refl refl refl)
apply_fits l ListWithTail (more e es) f d g t k =
    first k refl refl (join (f.0 d tight (token.Mark mark.BracketOpen) (as_begun (is_operator e) (bracket_takes refl))) (λ u h.
    join (to_tail_fits es f.1 d u h) (λ v j. freely refl refl (calm v j) (close refl))))
apply_fits l (Unary o) (more e es) f d g t k =
    first k (prefix_laid o) (prefix_any o) (operand_fits e f.0 d (prefix_gap o) (token.Mark (prefix_mark o)) (prefix_takes o))
apply_fits l (Binary o) (more a (more b es)) f d g t k = infix_fits (infix_mark o) (infix_laid o) a b f.0 f.1.0 d g t k
apply_fits l Send (more a (more b es)) f d g t k = infix_fits mark.Bang refl a b f.0 f.1.0 d g t k
apply_fits l (LocalCall x) es f d g t k = first k refl refl (arguments_fit es f d (Atom x) refl)
apply_fits l RemoteCall (more a (more b es)) f d g t k =
    join (called_fits a f.0 d g t k) (λ u h. behind refl refl h
    (join (called_fits b f.1.0 d tight (token.Mark mark.Colon) name_takes) (λ v j. arguments_fit es f.1.1 d v (calm v j))))
apply_fits l FunCall (more a es) f d g t k = join (called_fits a f.0 d g t k) (λ u h. arguments_fit es f.1 d u (calm u h))
apply_fits l o es f d g t k =
    first k refl refl (enclosed_fit es f d (token.Mark mark.BraceOpen) mark.BraceClose refl refl refl refl refl)

-- guards
abbrev EachGuardFits : Guards → Type 0
EachGuardFits no_guard = Unit {0}
EachGuardFits (alternative es gs) = EachFits es × EachGuardFits gs

alternatives_fit : (gs : Guards) → EachGuardFits gs → (d : ℕ) (t : Token) → no_dot t ≡ true → Fits no_dot t (lay_alternatives d gs)
alternatives_fit no_guard f d t c = close c
alternatives_fit (alternative es gs) f d t c =
    freely refl refl c (join (all_fit es f.0 blank blank d (token.Mark mark.Semicolon) blank_takes refl blank_takes) (alternatives_fit gs f.1 d))

guard_fits : (gs : Guards) → EachGuardFits gs → (g : Gap) (d : ℕ) (t : Token) → no_dot t ≡ true → Takes any_first t g
    → Fits no_dot t (lay_guard g d gs)
guard_fits no_guard f g d t c k = close c
guard_fits (alternative es gs) f g d t c k = join (all_fit es f.0 g blank d t blank_takes c k) (alternatives_fit gs f.1 d)

when_fits : (gs : Guards) → EachGuardFits gs → (d : ℕ) (t : Token) → no_dot t ≡ true → Fits no_dot t (lay_when d gs)
when_fits no_guard f d t c = close c
when_fits (alternative es gs) f d t c = spaced refl (guard_fits (alternative es gs) f blank d (token.Mark mark.When) refl blank_takes)

-- a body, and what stands after the patterns of a clause
abbrev BodyFits : Seq → Type 0
BodyFits s = (d : ℕ) (t : Token) → Fits is_last t (lay_body d s)

rest_fits : (gs : Guards) (s : Seq) → EachGuardFits gs → BodyFits s → (d : ℕ) (t : Token) → no_dot t ≡ true
    → Fits is_last t (lay_when d gs ++ sign blank mark.Arrow ∷ lay_body (d + 4) s)
rest_fits gs s f b d t c = join (when_fits gs f d t c) (λ u h. spaced refl (b (d + 4) (token.Mark mark.Arrow)))

stack_fits : (v : Option Pat) (t : Token) → is_last t ≡ true → Fits is_last t (lay_stack v)
stack_fits None t h = close h
stack_fits (Some x) t h = behind refl refl h (pattern_fits x tight (token.Mark mark.Colon) colon_takes)

end_fits : (d : ℕ) (t : Token) → Fits is_last t (lay_end d)
end_fits d t = lined refl (close refl)

-- with what a clause begins
abbrev heads : Opening → Token → Bool
heads with_parameters = is_paren
heads _ = any_first

fun_takes : Takes is_paren (token.Mark mark.Fun) tight
fun_takes = record { takes = λ e u h. free_touches (token.Mark mark.Fun) u (paren_free u h) refl }

-- patterns in parentheses, and what stands after them
parameters_fit : (ps : Pats) (gs : Guards) (s : Seq) → EachGuardFits gs → BodyFits s → (g : Gap) (d : ℕ) (t : Token)
    → Takes is_paren t g → Fits is_last t (lay_clause with_parameters g d (clause ps gs s))
parameters_fit ps gs s f b g d t k =
    first k refl refl (join (join (patterns_fit ps tight (token.Mark mark.ParenOpen) refl (as_pattern (bracket_takes refl))) (λ u c.
    freely refl refl c (close refl))) (λ u h. rest_fits gs s f b d u (calm u h)))

name_then : (x : List ℕ) → Takes is_paren (Atom x) tight
name_then x = record { takes = λ e u h. free_touches (Atom x) u (paren_free u h) refl }

clause_by : (o : Opening) (ps : Pats) (gs : Guards) (s : Seq) → EachGuardFits gs → BodyFits s → (g : Gap) (d : ℕ) (t : Token)
    → no_dot t ≡ true → Takes (heads o) t g → Fits is_last t (lay_clause o g d (clause ps gs s))
clause_by with_pattern ps gs s f b g d t c k = join (patterns_fit ps g t c (as_pattern k)) (rest_fits gs s f b d)
clause_by with_guard ps gs s f b g d t c k =
    join (guard_fits gs f g d t c k) (λ u h. spaced refl (b (d + 4) (token.Mark mark.Arrow)))
clause_by with_parameters ps gs s f b g d t c k = parameters_fit ps gs s f b g d t k
clause_by (with_name x) ps gs s f b g d t c k = first k refl refl (parameters_fit ps gs s f b tight d (Atom x) (name_then x))

abbrev ClausesFit : Clauses → Type 0
ClausesFit cs = (o : Opening) (g : Gap) (d e : ℕ) (t : Token) → no_dot t ≡ true → Takes (heads o) t g → Fits no_dot t (lay_clauses o g d e cs)

block_fits : (cs : Clauses) → ClausesFit cs → (o : Opening) (d : ℕ) (t : Token) → no_dot t ≡ true → Fits no_dot t (lay_block o d cs)
block_fits cs f o d t c = f o (line (d + 4)) (d + 4) (d + 4) t c line_takes

mutual
  lay_fits : (e : Exp) → LayFits e
  lay_fits (int l (pos n)) d g t k = first k refl refl (close refl)
  lay_fits (int l (negsuc n)) d g t k = integer_fits (negsuc n) g t (as_pattern k)
  lay_fits (atom l a) d g t k = first k refl refl (close refl)
  lay_fits (string l s) d g t k = first k refl refl (close refl)
  lay_fits (float l) d g t k = first k refl refl (close refl)
  lay_fits (variable l x) d g t k = first k refl refl (close refl)
  lay_fits (apply l o es) d g t k = apply_fits l o es (each_fits es) d g t k
  lay_fits (and_also l a b) d g t k = infix_fits mark.AndAlso refl a b (lay_fits a) (lay_fits b) d g t k
  lay_fits (or_else l a b) d g t k = infix_fits mark.OrElse refl a b (lay_fits a) (lay_fits b) d g t k
  lay_fits (match l p e) d g t k =
      join (pattern_fits p g t (as_pattern k)) (λ u h. spaced refl (lay_fits e d blank (token.Mark mark.Match) blank_takes))
  lay_fits (catch l e) d g t k = first k refl refl (operand_fits e (lay_fits e) d blank (token.Mark mark.Catch) blank_takes)
  lay_fits (begin l s) d g t k = first k refl refl (join (body_fits s (d + 4) (token.Mark mark.Begin)) (λ u h. end_fits d u))
  lay_fits (case l e cs) d g t k =
      first k refl refl (join (lay_fits e d blank (token.Mark mark.Case) blank_takes) (λ u h.
      spaced refl (join (block_fits cs (clauses_fit cs) with_pattern d (token.Mark mark.Of) refl) (λ v c. end_fits d v))))
  lay_fits (if_clauses l cs) d g t k =
      first k refl refl (join (block_fits cs (clauses_fit cs) with_guard d (token.Mark mark.If) refl) (λ u c. end_fits d u))
  lay_fits (receive l cs) d g t k =
      first k refl refl (join (block_fits cs (clauses_fit cs) with_pattern d (token.Mark mark.Receive) refl) (λ u c. end_fits d u))
  lay_fits (receive_after l cs e s) d g t k =
      first k refl refl (join (block_fits cs (clauses_fit cs) with_pattern d (token.Mark mark.Receive) refl) (λ u c.
      lined refl (join (lay_fits e d blank (token.Mark mark.After) blank_takes) (λ v h.
      spaced refl (join (body_fits s (d + 4) (token.Mark mark.Arrow)) (λ w j. end_fits d w))))))
  lay_fits (try l s cs hs a) d g t k =
      first k refl refl (join (body_fits s (d + 4) (token.Mark mark.Try)) (λ u h. join (of_fits cs d u (calm u h)) (λ v c.
      join (catch_fits hs d v c) (λ w j. join (after_fits a d w j) (λ x m. end_fits d x)))))
  lay_fits (fun_clauses l i cs) d g t k =
      first k refl refl (join (clauses_fit cs with_parameters tight d (d + 4) (token.Mark mark.Fun) refl fun_takes) (λ u c. end_fits d u))
  lay_fits (fun_local l i f n) d g t k = first k refl refl (spaced refl (touching refl refl (touching refl refl (close refl))))
  lay_fits (fun_remote l m f n) d g t k =
      first k refl refl (spaced refl (touching refl refl (touching refl refl (touching refl refl (touching refl refl (close refl))))))
  lay_fits (comprehension l e qs) d g t k =
      first k refl refl (join (lay_fits e d tight (token.Mark mark.BracketOpen) (as_begun (is_operator e) (bracket_takes refl))) (λ u h.
      spaced refl (join (qualifiers_fit qs d (token.Mark mark.BarBar) refl) (λ v c. freely refl refl c (close refl)))))

  each_fits : (es : Exps) → EachFits es
  each_fits none = tt
  each_fits (more e es) = (lay_fits e, each_fits es)

  body_fits : (s : Seq) → BodyFits s
  body_fits (sequence e es) d t = join (lay_fits e d (line d) t line_takes) (λ u h. more_fit es (each_fits es) (line d) d u line_takes h)

  after_fits : (a : After) (d : ℕ) (t : Token) → no_dot t ≡ true → Fits no_dot t (lay_after d a)
  after_fits no_after d t c = close c
  after_fits (after s) d t c = lined refl (eased (body_fits s (d + 4) (token.Mark mark.After)))

  guards_fit : (gs : Guards) → EachGuardFits gs
  guards_fit no_guard = tt
  guards_fit (alternative es gs) = (each_fits es, guards_fit gs)

  clause_fits : (c : ClauseTree) (o : Opening) (g : Gap) (d : ℕ) (t : Token) → no_dot t ≡ true → Takes (heads o) t g
      → Fits is_last t (lay_clause o g d c)
  clause_fits (clause ps gs s) o g d t c k = clause_by o ps gs s (guards_fit gs) (body_fits s) g d t c k

  clauses_fit : (cs : Clauses) → ClausesFit cs
  clauses_fit no_clauses o g d e t c k = close c
  clauses_fit (more_clauses x cs) o g d e t c k = eased (join (clause_fits x o g d t c k) (more_clauses_fit cs o e))

  more_clauses_fit : (cs : Clauses) (o : Opening) (e : ℕ) (t : Token) → is_last t ≡ true → Fits is_last t (lay_more_clauses o e cs)
  more_clauses_fit no_clauses o e t h = close h
  more_clauses_fit (more_clauses x cs) o e t h =
      freely refl refl (calm t h) (join (clause_fits x o (line e) e (token.Mark mark.Semicolon) refl line_takes) (more_clauses_fit cs o e))

  of_fits : (cs : Clauses) (d : ℕ) (t : Token) → no_dot t ≡ true → Fits no_dot t (lay_of d cs)
  of_fits no_clauses d t c = close c
  of_fits (more_clauses x cs) d t c =
      lined refl (eased (join (clause_fits x with_pattern (line (d + 4)) (d + 4) (token.Mark mark.Of) refl line_takes)
      (more_clauses_fit cs with_pattern (d + 4))))

  handler_fits : (h : CatchTree) (d : ℕ) (t : Token) → Fits is_last t (lay_handler d h)
  handler_fits (catch_clause x p v gs s) d t =
      join (pattern_fits x (line d) t line_takes) (λ u h. behind refl refl h (join (pattern_fits p tight (token.Mark mark.Colon) colon_takes) (λ w j.
      join (stack_fits v w j) (λ y m. rest_fits gs s (guards_fit gs) (body_fits s) d y (calm y m)))))

  more_handlers_fit : (hs : Catches) (d : ℕ) (t : Token) → is_last t ≡ true → Fits is_last t (lay_more_handlers d hs)
  more_handlers_fit no_catches d t h = close h
  more_handlers_fit (more_catches x hs) d t h =
      freely refl refl (calm t h) (join (handler_fits x d (token.Mark mark.Semicolon)) (more_handlers_fit hs d))

  catch_fits : (hs : Catches) (d : ℕ) (t : Token) → no_dot t ≡ true → Fits no_dot t (lay_catch d hs)
  catch_fits no_catches d t c = close c
  catch_fits (more_catches x hs) d t c =
      lined refl (eased (join (handler_fits x (d + 4) (token.Mark mark.Catch)) (more_handlers_fit hs (d + 4))))

  qualifier_fits : (q : QualifierTree) (d : ℕ) (t : Token) → Fits is_last t (lay_qualifier d q)
  qualifier_fits (generator p e) d t =
      join (pattern_fits p blank t blank_takes) (λ u h. spaced refl (lay_fits e d blank (token.Mark mark.From) blank_takes))
  qualifier_fits (filter e) d t = lay_fits e d blank t blank_takes

  qualifiers_fit : (qs : Qualifiers) (d : ℕ) (t : Token) → no_dot t ≡ true → Fits no_dot t (lay_qualifiers d qs)
  qualifiers_fit no_qualifiers d t c = close c
  qualifiers_fit (more_qualifiers q qs) d t c = eased (join (qualifier_fits q d t) (more_qualifiers_fit qs d))

  more_qualifiers_fit : (qs : Qualifiers) (d : ℕ) (t : Token) → is_last t ≡ true → Fits is_last t (lay_more_qualifiers d qs)
  more_qualifiers_fit no_qualifiers d t h = close h
  more_qualifiers_fit (more_qualifiers q qs) d t h =
      freely refl refl (calm t h) (join (qualifier_fits q d (token.Mark mark.Comma)) (more_qualifiers_fit qs d))

-- forms: each but the first begins on a line of its own, so it may stand after any token
abbrev any : Token → Bool
any t = true

named_fits : (f : List ℕ) (c : ClauseTree) (t : Token) → Fits is_last t (lay_clause (with_name f) (line 0) 0 c)
named_fits f (clause ps gs s) t = lined refl (parameters_fit ps gs s (guards_fit gs) (body_fits s) tight 0 (Atom f) (name_then f))

function_fits : (f : List ℕ) (cs : Clauses) (t : Token) → Fits any t (lay_clauses (with_name f) (line 0) 0 0 cs ++ lay_dot cs)
function_fits f no_clauses t = close refl
function_fits f (more_clauses c cs) t =
    join (join (named_fits f c t) (more_clauses_fit cs (with_name f) 0)) (λ u h. behind refl refl h (close refl))

functions_stand : (fs : List FunctionTree) (t : Token) → Behind t (lay_functions fs)
functions_stand [] t = tt
functions_stand (f ∷ fs) t = (function_fits f.name f.clauses t).fits (lay_functions fs) (λ u h. functions_stand fs u)

more_entries_fit : (xs : List Export) (t : Token) → is_last t ≡ true → Fits is_last t (lay_more_entries xs)
more_entries_fit [] t h = close h
more_entries_fit (x ∷ xs) t h =
    freely refl refl (calm t h) (spaced refl (touching refl refl (touching refl refl (more_entries_fit xs (Int x.arity) refl))))

exports_fit : (xs : List Export) (t : Token) → Fits any t (lay_exports xs)
exports_fit [] t = close refl
exports_fit (x ∷ xs) t =
    lined refl (touching refl refl (touching refl refl (touching refl refl (touching refl refl (touching refl refl (touching refl refl
    (join (more_entries_fit xs (Int x.arity) refl) (λ u h. freely refl refl (calm u h) (touching refl refl (touching refl refl (close refl)))))))))))

module_line_fits : (m : List ℕ) → Fits any (token.Mark mark.ParenOpen) (lay_module_line m)
module_line_fits m =
    touching refl refl (touching refl refl (touching refl refl (touching refl refl (touching refl refl (touching refl refl (close refl))))))

-- Each piece of a module is one of the layout, and may stand after the one before it. The first one has none before
-- it; it may stand after `(`, and so after nothing.
pub module_stands : (m : ModuleTree) → Behind (token.Mark mark.ParenOpen) (lay_module m)
module_stands m =
    (module_line_fits m.name).fits (lay_exports m.exports ++ lay_functions m.functions) (λ u h.
    (exports_fit m.exports u).fits (lay_functions m.functions) (λ v j. functions_stand m.functions v))
