-- The states of clap's walk, and what one word comes to in them.

use Rattle.std.proofs.Common.{◌≡◌, ◌≢◌, Bool, true, false, true≢false, ◌&&◌, List, [], ◌∷◌, ◌++◌, Option, Some, None, codes, refl, sym, subst}
use Rattle.std.specs.List.{fold}
use Rattle.std.specs.Str.{bytes_eq}
use Rattle.clap.specs.Lexer.{long_of, short_of}
use Rattle.clap.specs.Walk.{Held, Row, Text, Waiting, Walk, idle, option, positional, finished, is_pending, settled, settled_rows, used, walked}
use Rattle.clap.specs.Simple.{Shape, built}
use Rattle.clap.specs.Kinds.{Kinds, or_else}
use Rattle.clap.specs.Faults.{check_fault, defaults_fault, settle_fault, turn_fault, use_fault, walk_fault}
use Rattle.edb_options.specs.Words.{Kind, Hands, Slice, Moves}
use Rattle.edb_options.specs.Given.{Given}
use Rattle.edb_options.specs.Command.{Holds, edb}
use Rattle.edb_options.proofs.GivenRows.{journal_built, name_of, names_built, rule_of_kind, rules}

abbrev pub Pending : Type 0
Pending = Option (Text × List Text)

abbrev pub shape : Shape
shape = (built edb).top

-- what is held before a word, and where the walk stands
abbrev pub held : Pending → List Row → Held
held p rows = record { rows = rows; pending = p; skip = 0 }

abbrev pub at : Bool → Waiting → Pending → List Row → Walk
at trailing waiting p rows = record { held = held p rows; waiting = waiting; position = 1; is_trailing = trailing; stopped = None }

abbrev pub turn : Walk → Text → Kinds
turn w word = turn_fault shape [] w word

abbrev pub after : Walk → Text → Walk
after w word = walked rules [] w word

abbrev pub settling : Pending → List Row → Kinds
settling p rows = settle_fault rules false (held p rows)

abbrev pub rows_settled : Pending → List Row → List Row
rows_settled p rows = settled_rows rules p rows

-- the kinds of error from here on
abbrev pub end_kinds : Held → Kinds
end_kinds h = or_else (settle_fault rules false h) (or_else (defaults_fault (settled rules h).rows rules) (check_fault shape (finished rules h) false))

abbrev pub kinds_from : Walk → List Text → Kinds
kinds_from w words = or_else (walk_fault shape [] w words) (end_kinds (fold (walked rules []) w words).held)

abbrev pub rows_from : Walk → List Text → List Row
rows_from w words = finished rules (fold (walked rules []) w words).held

-- what is given by words, or not, as clap's matches have it
abbrev pub Agrees : Option Given → Kinds → List Row → Type 0
Agrees None kinds rows = kinds ≢ []
Agrees (Some g) kinds rows = (kinds ≡ []) × Holds g rows

abbrev pub AgreesFrom : Option Given → Walk → List Text → Type 0
AgreesFrom given w words = Agrees given (kinds_from w words) (rows_from w words)

-- ---- one word

first_is_none : (a b : Kinds) → or_else a b ≡ [] → a ≡ []
first_is_none [] b none = refl
first_is_none (k ∷ ks) b none = none

pub fails_first : (a b : Kinds) → a ≢ [] → or_else a b ≢ []
fails_first a b fails none = fails (first_is_none a b none)

pub or_nothing : (a : Kinds) → or_else a [] ≡ a
or_nothing [] = refl
or_nothing (k ∷ ks) = refl

pub word_fails : (w : Walk) (word : Text) (words : List Text) → turn w word ≢ [] → kinds_from w (word ∷ words) ≢ []
unfolding walk_fault
word_fails w word words fails = fails_first _ _ (fails_first _ _ fails)

pub word_passes : (given : Option Given) (w next : Walk) (word : Text) (words : List Text) → turn w word ≡ [] → after w word ≡ next
    → AgreesFrom given next words → AgreesFrom given w (word ∷ words)
unfolding walk_fault
word_passes given w next word words passes is h =
    let there : AgreesFrom given (after w word) words = subst (λ v. AgreesFrom given v words) (sym is) h in
    subst (λ k. Agrees given (or_else (or_else k (walk_fault shape [] (after w word) words)) (end_kinds (fold (walked rules []) (after w word) words).held)) (rows_from (after w word) words)) (sym passes) there

-- ---- words in the states

abbrev pub takes_option : Waiting → Bool
takes_option (option id) = true
takes_option _ = false

never : (b : Bool) → (b && false) ≡ false
never true = refl
never false = refl

-- a name behind `--`
pub trailing_turn : (waiting : Waiting) (p : Pending) (rows : List Row) (word : Text) → turn (at true waiting p rows) word ≡ settling p rows
trailing_turn waiting p rows word = rw (never (is_pending names_built p)) refl

pub trailing_after : (waiting : Waiting) (p : Pending) (rows : List Row) (word : Text)
    → after (at true waiting p rows) word ≡ at true positional (Some (codes "names", word ∷ [])) (rows_settled p rows)
unfolding walked
trailing_after waiting p rows word = rw (never (is_pending names_built p)) refl

-- `--`
pub end_turn : (waiting : Waiting) (p : Pending) (rows : List Row) → turn (at false waiting p rows) (codes "--") ≡ []
end_turn idle p rows = refl
end_turn (option id) p rows = refl
end_turn positional p rows = refl

pub end_after : (waiting : Waiting) (p : Pending) (rows : List Row) → after (at false waiting p rows) (codes "--") ≡ at true waiting p rows
unfolding walked
end_after idle p rows = refl
end_after (option id) p rows = refl
end_after positional p rows = refl

-- a word that clap takes for no option
pub record IsPlain (word : Text) : Type 0 where
  pub no_end : bytes_eq word (codes "--") ≡ false
  pub no_long : long_of word ≡ None
  pub no_short : short_of word ≡ None

-- a name before `--`
pub name_turn : (waiting : Waiting) (p : Pending) (rows : List Row) (word : Text) → takes_option waiting ≡ false → IsPlain word
    → turn (at false waiting p rows) word ≡ settling p rows
name_turn idle p rows word free plain = rw (plain.no_end, plain.no_long, plain.no_short, never (is_pending names_built p)) refl
name_turn (option id) p rows word free plain = absurd (true≢false free)
name_turn positional p rows word free plain = rw (plain.no_end, plain.no_long, plain.no_short, never (is_pending names_built p)) refl

pub name_after : (waiting : Waiting) (p : Pending) (rows : List Row) (word : Text) → takes_option waiting ≡ false → IsPlain word
    → after (at false waiting p rows) word ≡ at false positional (Some (codes "names", word ∷ [])) (rows_settled p rows)
unfolding walked
name_after idle p rows word free plain = rw (plain.no_end, plain.no_long, plain.no_short, never (is_pending names_built p)) refl
name_after (option id) p rows word free plain = absurd (true≢false free)
name_after positional p rows word free plain = rw (plain.no_end, plain.no_long, plain.no_short, never (is_pending names_built p)) refl

-- an option's value
pub value_turn : (kind : Kind) (rows : List Row) (word : Text) → IsPlain word → turn (at false (option (name_of kind)) (Some (name_of kind, [])) rows) word ≡ []
value_turn kind rows word plain = rw (plain.no_end, plain.no_long, plain.no_short) refl

pub value_after : (kind : Kind) (rows : List Row) (word : Text) → IsPlain word
    → after (at false (option (name_of kind)) (Some (name_of kind, [])) rows) word ≡ at false idle (Some (name_of kind, word ∷ [])) rows
unfolding walked
value_after Hands rows word plain = rw (plain.no_end, plain.no_long, plain.no_short) refl
value_after Slice rows word plain = rw (plain.no_end, plain.no_long, plain.no_short) refl
value_after Moves rows word plain = rw (plain.no_end, plain.no_long, plain.no_short) refl

-- an option whose value is the next word
abbrev pub alone : Kind → Text
alone kind = 45 ∷ 45 ∷ name_of kind

pub alone_turn : (kind : Kind) (waiting : Waiting) (p : Pending) (rows : List Row) → turn (at false waiting p rows) (alone kind) ≡ settling p rows
alone_turn Hands idle p rows = or_nothing (settling p rows)
alone_turn Hands (option id) p rows = or_nothing (settling p rows)
alone_turn Hands positional p rows = or_nothing (settling p rows)
alone_turn Slice idle p rows = or_nothing (settling p rows)
alone_turn Slice (option id) p rows = or_nothing (settling p rows)
alone_turn Slice positional p rows = or_nothing (settling p rows)
alone_turn Moves idle p rows = or_nothing (settling p rows)
alone_turn Moves (option id) p rows = or_nothing (settling p rows)
alone_turn Moves positional p rows = or_nothing (settling p rows)

pub alone_after : (kind : Kind) (waiting : Waiting) (p : Pending) (rows : List Row)
    → after (at false waiting p rows) (alone kind) ≡ at false (option (name_of kind)) (Some (name_of kind, [])) (rows_settled p rows)
unfolding walked
alone_after Hands idle p rows = refl
alone_after Hands (option id) p rows = refl
alone_after Hands positional p rows = refl
alone_after Slice idle p rows = refl
alone_after Slice (option id) p rows = refl
alone_after Slice positional p rows = refl
alone_after Moves idle p rows = refl
alone_after Moves (option id) p rows = refl
alone_after Moves positional p rows = refl

-- an option with its value
abbrev pub joined : Kind → Text → Text
joined kind value = 45 ∷ 45 ∷ (name_of kind ++ 61 ∷ value)

abbrev joined_kinds : Kind → Text → Pending → List Row → Kinds
joined_kinds kind value p rows = or_else (settling p rows) (use_fault false (rule_of_kind kind) (value ∷ []) (rows_settled p rows))

pub joined_turn : (kind : Kind) (value : Text) (waiting : Waiting) (p : Pending) (rows : List Row)
    → turn (at false waiting p rows) (joined kind value) ≡ or_else (settling p rows) (use_fault false (rule_of_kind kind) (value ∷ []) (rows_settled p rows))
joined_turn Hands value idle p rows = or_nothing (joined_kinds Hands value p rows)
joined_turn Hands value (option id) p rows = or_nothing (joined_kinds Hands value p rows)
joined_turn Hands value positional p rows = or_nothing (joined_kinds Hands value p rows)
joined_turn Slice value idle p rows = or_nothing (joined_kinds Slice value p rows)
joined_turn Slice value (option id) p rows = or_nothing (joined_kinds Slice value p rows)
joined_turn Slice value positional p rows = or_nothing (joined_kinds Slice value p rows)
joined_turn Moves value idle p rows = or_nothing (joined_kinds Moves value p rows)
joined_turn Moves value (option id) p rows = or_nothing (joined_kinds Moves value p rows)
joined_turn Moves value positional p rows = or_nothing (joined_kinds Moves value p rows)

pub joined_after : (kind : Kind) (value : Text) (waiting : Waiting) (p : Pending) (rows : List Row)
    → after (at false waiting p rows) (joined kind value) ≡ at false idle None (used (rule_of_kind kind) (value ∷ []) (rows_settled p rows))
unfolding walked
joined_after Hands value idle p rows = refl
joined_after Hands value (option id) p rows = refl
joined_after Hands value positional p rows = refl
joined_after Slice value idle p rows = refl
joined_after Slice value (option id) p rows = refl
joined_after Slice value positional p rows = refl
joined_after Moves value idle p rows = refl
joined_after Moves value (option id) p rows = refl
joined_after Moves value positional p rows = refl

-- `--journal`
abbrev journal_kinds : Pending → List Row → Kinds
journal_kinds p rows = or_else (settling p rows) (use_fault false journal_built [] (rows_settled p rows))

pub journal_turn : (waiting : Waiting) (p : Pending) (rows : List Row)
    → turn (at false waiting p rows) (codes "--journal") ≡ or_else (settling p rows) (use_fault false journal_built [] (rows_settled p rows))
journal_turn idle p rows = or_nothing (journal_kinds p rows)
journal_turn (option id) p rows = or_nothing (journal_kinds p rows)
journal_turn positional p rows = or_nothing (journal_kinds p rows)

pub journal_after : (waiting : Waiting) (p : Pending) (rows : List Row)
    → after (at false waiting p rows) (codes "--journal") ≡ at false idle None (used journal_built [] (rows_settled p rows))
unfolding walked
journal_after idle p rows = refl
journal_after (option id) p rows = refl
journal_after positional p rows = refl
