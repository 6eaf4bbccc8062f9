-- clap's walk, word for word beside the rules: the walk is doomed where they refuse, and else goes on as they do.

use Rattle.std.proofs.Common.{◌≡◌, ◌≢◌, ◌∙◌, Bool, true, false, true≢false, List, [], ◌∷◌, ◌++◌, Option, Some, None, codes, refl, sym, ap, subst}
use Rattle.std.specs.Prelude.{if◌then◌else◌, option_and_then}
use Rattle.std.specs.Str.{IsUtf8}
use Rattle.clap.specs.Walk.{Row, Text, Waiting, Walk, idle, option, positional, used}
use Rattle.clap.specs.Kinds.{Kinds, or_else}
use Rattle.clap.specs.Faults.{use_fault}
use Rattle.clap.specs.declared.error.kind.ErrorKind.TheVariants.{InvalidValue}
use Rattle.edb_files.specs.Names.{is_option}
use Rattle.edb_options.specs.Words.{Kind, Hands, Slice, Moves, behind, word_of}
use Rattle.edb_options.specs.Reading.{Place, Open, Waits, Ended}
use Rattle.edb_options.specs.Given.{Given, given_at, given_by, with_name, with_text, with_what}
use Rattle.edb_options.proofs.GivenRows.{Seen, Uses, journal_again, journal_built, journal_first, name_of, name_used, one_kind, option_use, rule_of_kind}
use Rattle.edb_options.proofs.Walks.{AgreesFrom, IsPlain, Pending, alone, alone_after, alone_turn, at, end_after, end_turn, fails_first, joined, joined_after, joined_turn, journal_after, journal_turn, kinds_from, name_after, name_turn, rows_settled, settling, takes_option, trailing_after, trailing_turn, turn, value_after, value_turn, word_fails, word_passes}
use Rattle.edb_options.proofs.WordSorts.{Sort, is_name, is_end, is_journal, is_alone, is_joined, is_refused, sort_of}
use Rattle.edb_options.proofs.Endings.{ends_failed, ends_settled}

-- each word is text
abbrev pub AreTexts : List Text → Type 0
AreTexts [] = Unit {0}
AreTexts (word ∷ words) = IsUtf8 word × AreTexts words

-- ---- an argument that is due an error

turn_fails : (w : Walk) (word : Text) (words : List Text) (kinds : Kinds) → turn w word ≡ kinds → kinds ≢ [] → kinds_from w (word ∷ words) ≢ []
turn_fails w word words kinds is fails = word_fails w word words (subst (λ k. k ≢ []) (sym is) fails)

doomed_trailing : (waiting : Waiting) (p : Pending) (rows : List Row) → settling p rows ≢ [] → (words : List Text) → kinds_from (at true waiting p rows) words ≢ []
doomed_trailing waiting p rows fails [] = ends_failed true waiting p rows fails
doomed_trailing waiting p rows fails (word ∷ words) = turn_fails (at true waiting p rows) word words (settling p rows) (trailing_turn waiting p rows word) fails

-- a word that is an option's, where an error is due
doomed_option : (waiting : Waiting) (p : Pending) (rows : List Row) → settling p rows ≢ [] → (word : Text) (words : List Text) → Sort word
    → is_option word ≡ true → kinds_from (at false waiting p rows) (word ∷ words) ≢ []
doomed_option waiting p rows fails word words (is_name lacks plain) dashes = absurd (true≢false (sym dashes ∙ lacks))
doomed_option waiting p rows fails word words (is_end is) dashes = subst (λ x. kinds_from (at false waiting p rows) (x ∷ words) ≢ []) (sym is)
    (word_passes None (at false waiting p rows) (at true waiting p rows) (codes "--") words (end_turn waiting p rows) (end_after waiting p rows) (doomed_trailing waiting p rows fails words))
doomed_option waiting p rows fails word words (is_journal is) dashes = subst (λ x. kinds_from (at false waiting p rows) (x ∷ words) ≢ []) (sym is)
    (turn_fails (at false waiting p rows) (codes "--journal") words _ (journal_turn waiting p rows) (fails_first (settling p rows) _ fails))
doomed_option waiting p rows fails word words (is_alone kind is) dashes = subst (λ x. kinds_from (at false waiting p rows) (x ∷ words) ≢ []) (sym is)
    (turn_fails (at false waiting p rows) (alone kind) words _ (alone_turn kind waiting p rows) fails)
doomed_option waiting p rows fails word words (is_joined kind value is) dashes = subst (λ x. kinds_from (at false waiting p rows) (x ∷ words) ≢ []) (sym is)
    (turn_fails (at false waiting p rows) (joined kind value) words _ (joined_turn kind value waiting p rows) (fails_first (settling p rows) _ fails))
doomed_option waiting p rows fails word words (is_refused _ unknown refused) dashes = word_fails (at false waiting p rows) word words (refused waiting p rows)

doomed_word : (waiting : Waiting) (p : Pending) (rows : List Row) → takes_option waiting ≡ false → settling p rows ≢ [] → (word : Text) (words : List Text) → Sort word
    → (b : Bool) → is_option word ≡ b → kinds_from (at false waiting p rows) (word ∷ words) ≢ []
doomed_word waiting p rows free fails word words (is_name lacks plain) b e = turn_fails (at false waiting p rows) word words (settling p rows) (name_turn waiting p rows word free plain) fails
doomed_word waiting p rows free fails word words sort true e = doomed_option waiting p rows fails word words sort e
doomed_word waiting p rows free fails word words (is_end is) false e = absurd (true≢false (sym (ap is_option is) ∙ e))
doomed_word waiting p rows free fails word words (is_journal is) false e = absurd (true≢false (sym (ap is_option is) ∙ e))
doomed_word waiting p rows free fails word words (is_alone kind is) false e = absurd (true≢false (sym (ap is_option is) ∙ e))
doomed_word waiting p rows free fails word words (is_joined kind value is) false e = absurd (true≢false (sym (ap is_option is) ∙ e))
doomed_word waiting p rows free fails word words (is_refused dashes unknown refused) false e = absurd (true≢false (sym dashes ∙ e))

doomed : (waiting : Waiting) (p : Pending) (rows : List Row) → takes_option waiting ≡ false → settling p rows ≢ [] → (words : List Text) → AreTexts words
    → kinds_from (at false waiting p rows) words ≢ []
doomed waiting p rows free fails [] texts = ends_failed false waiting p rows fails
doomed waiting p rows free fails (word ∷ words) texts = doomed_word waiting p rows free fails word words (sort_of word texts.0) (is_option word) refl

-- ---- the walk beside the rules

abbrev Settles : Pending → List Row → Given → Type 0
Settles p rows g = (settling p rows ≡ []) × Seen g (rows_settled p rows)

-- from a place of the rules on, clap's walk agrees with them
abbrev Goes : Place → Given → List Text → Type 0
Goes Open g words = (waiting : Waiting) (p : Pending) (rows : List Row) → takes_option waiting ≡ false → Settles p rows g → AgreesFrom (given_by Open g words) (at false waiting p rows) words
Goes (Waits kind) g words = (rows : List Row) → Seen g rows → AgreesFrom (given_by (Waits kind) g words) (at false (option (name_of kind)) (Some (name_of kind, [])) rows) words
Goes Ended g words = (waiting : Waiting) (p : Pending) (rows : List Row) → Settles p rows g → AgreesFrom (given_by Ended g words) (at true waiting p rows) words

-- an option that got no value is due an error
no_value : (kind : Kind) (rows : List Row) → settling (Some (name_of kind, [])) rows ≢ []
no_value Hands rows = one_kind InvalidValue _ refl
no_value Slice rows = one_kind InvalidValue _ refl
no_value Moves rows = one_kind InvalidValue _ refl

value_settling : (kind : Kind) (values : List Text) (rows : List Row) → settling (Some (name_of kind, values)) rows ≡ use_fault false (rule_of_kind kind) values rows
value_settling Hands values rows = refl
value_settling Slice values rows = refl
value_settling Moves values rows = refl

value_settled : (kind : Kind) (values : List Text) (rows : List Row) → rows_settled (Some (name_of kind, values)) rows ≡ used (rule_of_kind kind) values rows
value_settled Hands values rows = refl
value_settled Slice values rows = refl
value_settled Moves values rows = refl

goes_at_end : (place : Place) (g : Given) → Goes place g []
unfolding given_by
goes_at_end Open g = λ waiting p rows free settles. ends_settled g false waiting p rows settles.0 settles.1
goes_at_end (Waits kind) g = λ rows seen. ends_failed false (option (name_of kind)) (Some (name_of kind, [])) rows (no_value kind rows)
goes_at_end Ended g = λ waiting p rows settles. ends_settled g true waiting p rows settles.0 settles.1

-- what is given from a word on
abbrev Onwards : Option (Place × Given) → List Text → Option Given
Onwards next words = option_and_then (λ q. given_by q.0 q.1 words) next

given_more : (place : Place) (g : Given) (word : Text) (words : List Text) → given_by place g (word ∷ words) ≡ Onwards (given_at place g word) words
unfolding given_by
given_more place g word words = refl

-- what a word comes to by the rules, in the state w of the walk
abbrev Comes : Option (Place × Given) → Walk → Text → List Text → Type 0
Comes next w word words = AgreesFrom (Onwards next words) w (word ∷ words)

comes_as : (place : Place) (g : Given) (word : Text) (words : List Text) (next : Option (Place × Given)) (w : Walk) → given_at place g word ≡ next
    → Comes next w word words → AgreesFrom (given_by place g (word ∷ words)) w (word ∷ words)
comes_as place g word words next w is comes =
    subst (λ o. AgreesFrom o w (word ∷ words)) (sym (given_more place g word words ∙ ap (λ n. Onwards n words) is)) comes

module _ (g : Given) (words : List Text) (rest : (place : Place) (after_it : Given) → Goes place after_it words) where
  name_goes : (word : Text) (rows : List Row) → Seen g rows → Settles (Some (codes "names", word ∷ [])) rows (record g { names = g.names ++ word ∷ [] })
  name_goes word rows seen = (refl, name_used word g rows seen)

  -- a value, once what waits is settled
  joined_goes : (kind : Kind) (value : Text) (waiting : Waiting) (p : Pending) (rows : List Row) → Settles p rows g → (next : Option (Place × Given))
      → Uses kind value (rows_settled p rows) next → Comes next (at false waiting p rows) (joined kind value) words
  joined_goes kind value waiting p rows settles None fails =
      let is = joined_turn kind value waiting p rows ∙ ap (λ k. or_else k (use_fault false (rule_of_kind kind) (value ∷ []) (rows_settled p rows))) settles.0 in
      turn_fails (at false waiting p rows) (joined kind value) words _ is fails
  joined_goes kind value waiting p rows settles (Some q) uses =
      let is = joined_turn kind value waiting p rows ∙ ap (λ k. or_else k (use_fault false (rule_of_kind kind) (value ∷ []) (rows_settled p rows))) settles.0 ∙ uses.1.passes in
      subst (λ place. AgreesFrom (given_by place q.1 words) (at false waiting p rows) (joined kind value ∷ words)) (sym uses.0)
      (word_passes (given_by Open q.1 words) (at false waiting p rows) _ (joined kind value) words is (joined_after kind value waiting p rows)
      (rest Open q.1 idle None (used (rule_of_kind kind) (value ∷ []) (rows_settled p rows)) refl (refl, uses.1.seen)))

  -- the value of an option that waits for it
  value_goes : (kind : Kind) (word : Text) (rows : List Row) → Seen g rows → IsPlain word → AreTexts words → (next : Option (Place × Given)) → Uses kind word rows next
      → Comes next (at false (option (name_of kind)) (Some (name_of kind, [])) rows) word words
  value_goes kind word rows seen plain texts None fails =
      word_passes None (at false (option (name_of kind)) (Some (name_of kind, [])) rows) (at false idle (Some (name_of kind, word ∷ [])) rows) word words
      (value_turn kind rows word plain) (value_after kind rows word plain)
      (doomed idle (Some (name_of kind, word ∷ [])) rows refl (subst (λ k. k ≢ []) (sym (value_settling kind (word ∷ []) rows)) fails) words texts)
  value_goes kind word rows seen plain texts (Some q) uses =
      let settles : Settles (Some (name_of kind, word ∷ [])) rows q.1 =
      (value_settling kind (word ∷ []) rows ∙ uses.1.passes, subst (λ r. Seen q.1 r) (sym (value_settled kind (word ∷ []) rows)) uses.1.seen) in
      subst (λ place. AgreesFrom (given_by place q.1 words) (at false (option (name_of kind)) (Some (name_of kind, [])) rows) (word ∷ words)) (sym uses.0)
      (word_passes (given_by Open q.1 words) (at false (option (name_of kind)) (Some (name_of kind, [])) rows) (at false idle (Some (name_of kind, word ∷ [])) rows) word words
      (value_turn kind rows word plain) (value_after kind rows word plain) (rest Open q.1 idle (Some (name_of kind, word ∷ [])) rows refl settles))

  journal_goes : (waiting : Waiting) (p : Pending) (rows : List Row) → Settles p rows g → (b : Bool) → g.journal ≡ b
      → Comes (if b then None else Some (Open, record g { journal = true })) (at false waiting p rows) (codes "--journal") words
  journal_goes waiting p rows settles true e =
      let is = journal_turn waiting p rows ∙ ap (λ k. or_else k (use_fault false journal_built [] (rows_settled p rows))) settles.0 in
      turn_fails (at false waiting p rows) (codes "--journal") words _ is (journal_again g (rows_settled p rows) settles.1 e)
  journal_goes waiting p rows settles false e =
      let first = journal_first g (rows_settled p rows) settles.1 e in
      let is = journal_turn waiting p rows ∙ ap (λ k. or_else k (use_fault false journal_built [] (rows_settled p rows))) settles.0 ∙ first.0 in
      word_passes (given_by Open (record g { journal = true }) words) (at false waiting p rows) _ (codes "--journal") words is (journal_after waiting p rows)
      (rest Open (record g { journal = true }) idle None (used journal_built [] (rows_settled p rows)) refl (refl, first.1))

  alone_given : (kind : Kind) → given_at Open g (alone kind) ≡ Some (Waits kind, g)
  alone_given Hands = refl
  alone_given Slice = refl
  alone_given Moves = refl

  joined_given : (kind : Kind) (value : Text) → given_at Open g (joined kind value) ≡ with_text g kind value
  unfolding behind
  joined_given Hands value = refl
  joined_given Slice value = refl
  joined_given Moves value = refl

  -- a word among the options
  open_goes : (word : Text) → Sort word → Goes Open g (word ∷ words)
  open_goes word (is_name lacks plain) waiting p rows free settles =
      let given : given_at Open g word ≡ with_name Open g word = rw lacks refl in
      comes_as Open g word words (with_name Open g word) (at false waiting p rows) given
      (word_passes (given_by Open (record g { names = g.names ++ word ∷ [] }) words) (at false waiting p rows) _ word words (name_turn waiting p rows word free plain ∙ settles.0)
      (name_after waiting p rows word free plain)
      (rest Open (record g { names = g.names ++ word ∷ [] }) positional (Some (codes "names", word ∷ [])) (rows_settled p rows) refl (name_goes word (rows_settled p rows) settles.1)))
  open_goes word (is_end is) waiting p rows free settles = subst (λ x. AgreesFrom (given_by Open g (x ∷ words)) (at false waiting p rows) (x ∷ words)) (sym is)
      (comes_as Open g (codes "--") words (Some (Ended, g)) (at false waiting p rows) refl
      (word_passes (given_by Ended g words) (at false waiting p rows) _ (codes "--") words (end_turn waiting p rows) (end_after waiting p rows) (rest Ended g waiting p rows settles)))
  open_goes word (is_journal is) waiting p rows free settles = subst (λ x. AgreesFrom (given_by Open g (x ∷ words)) (at false waiting p rows) (x ∷ words)) (sym is)
      (comes_as Open g (codes "--journal") words (if g.journal then None else Some (Open, record g { journal = true })) (at false waiting p rows) refl
      (journal_goes waiting p rows settles g.journal refl))
  open_goes word (is_alone kind is) waiting p rows free settles = subst (λ x. AgreesFrom (given_by Open g (x ∷ words)) (at false waiting p rows) (x ∷ words)) (sym is)
      (comes_as Open g (alone kind) words (Some (Waits kind, g)) (at false waiting p rows) (alone_given kind)
      (word_passes (given_by (Waits kind) g words) (at false waiting p rows) _ (alone kind) words (alone_turn kind waiting p rows ∙ settles.0) (alone_after kind waiting p rows)
      (rest (Waits kind) g (rows_settled p rows) settles.1)))
  open_goes word (is_joined kind value is) waiting p rows free settles = subst (λ x. AgreesFrom (given_by Open g (x ∷ words)) (at false waiting p rows) (x ∷ words)) (sym is)
      (comes_as Open g (joined kind value) words (with_text g kind value) (at false waiting p rows) (joined_given kind value)
      (joined_goes kind value waiting p rows settles (with_text g kind value) (option_use kind value g (rows_settled p rows) settles.1)))
  open_goes word (is_refused dashes unknown refused) waiting p rows free settles =
      comes_as Open g word words None (at false waiting p rows) (ap (λ b. if b then with_what g (word_of word) else with_name Open g word) dashes ∙ ap (with_what g) unknown) (word_fails (at false waiting p rows) word words (refused waiting p rows))

  -- a word where an option waits for its value
  waits_option : (kind : Kind) (word : Text) → Sort word → is_option word ≡ true → Goes (Waits kind) g (word ∷ words)
  waits_option kind word sort dashes rows seen =
      let given : given_at (Waits kind) g word ≡ None = rw dashes refl in
      comes_as (Waits kind) g word words None (at false (option (name_of kind)) (Some (name_of kind, [])) rows) given
      (doomed_option (option (name_of kind)) (Some (name_of kind, [])) rows (no_value kind rows) word words sort dashes)

  waits_goes : (kind : Kind) (word : Text) → Sort word → AreTexts words → Goes (Waits kind) g (word ∷ words)
  waits_goes kind word (is_name lacks plain) texts rows seen =
      let given : given_at (Waits kind) g word ≡ with_text g kind word = rw lacks refl in
      comes_as (Waits kind) g word words (with_text g kind word) (at false (option (name_of kind)) (Some (name_of kind, [])) rows) given
      (value_goes kind word rows seen plain texts (with_text g kind word) (option_use kind word g rows seen))
  waits_goes kind word (is_end is) texts rows seen = waits_option kind word (is_end is) (ap is_option is) rows seen
  waits_goes kind word (is_journal is) texts rows seen = waits_option kind word (is_journal is) (ap is_option is) rows seen
  waits_goes kind word (is_alone other is) texts rows seen = waits_option kind word (is_alone other is) (ap is_option is) rows seen
  waits_goes kind word (is_joined other value is) texts rows seen = waits_option kind word (is_joined other value is) (ap is_option is) rows seen
  waits_goes kind word (is_refused dashes unknown refused) texts rows seen = waits_option kind word (is_refused dashes unknown refused) dashes rows seen

  -- a name behind `--`
  ended_goes : (word : Text) → Goes Ended g (word ∷ words)
  ended_goes word waiting p rows settles =
      comes_as Ended g word words (with_name Ended g word) (at true waiting p rows) refl
      (word_passes (given_by Ended (record g { names = g.names ++ word ∷ [] }) words) (at true waiting p rows) _ word words (trailing_turn waiting p rows word ∙ settles.0)
      (trailing_after waiting p rows word)
      (rest Ended (record g { names = g.names ++ word ∷ [] }) positional (Some (codes "names", word ∷ [])) (rows_settled p rows) (name_goes word (rows_settled p rows) settles.1)))

  one_more : (word : Text) → Sort word → AreTexts words → (place : Place) → Goes place g (word ∷ words)
  one_more word sort texts Open = open_goes word sort
  one_more word sort texts (Waits kind) = waits_goes kind word sort texts
  one_more word sort texts Ended = ended_goes word

pub goes : (words : List Text) → AreTexts words → (place : Place) (g : Given) → Goes place g words
goes [] texts place g = goes_at_end place g
goes (word ∷ words) texts place g = one_more g words (goes words texts.1) word (sort_of word texts.0) texts.1 place
