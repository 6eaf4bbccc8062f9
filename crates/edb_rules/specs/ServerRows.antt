-- The rows that a console is shown.

use Rattle.std.specs.Prelude.{ℕ, ◌+◌, ◌-◌, suc, if◌then◌else◌, nat_lt, List, [], ◌∷◌, ◌++◌, map, Option, None, Some, codes}
use Rattle.std.specs.Option.{option_map_or}
use Rattle.std.specs.List.{filter, join_by}
use Rattle.std.specs.Fmt.{decimal}
use Rattle.std.specs.Ordering.{nat_cmp}
use Rattle.std.specs.Cmp.Lexicographic.{slice_cmp}
use Rattle.edb_lang.specs.declared.small.Break.{Break}
use Rattle.edb_lang.specs.declared.small.BreakRow.{BreakRow}
use Rattle.edb_lang.specs.declared.small.Status.{Status}
use Rattle.edb_lang.specs.declared.small.Status.TheVariants.{Active, Inactive}
use Rattle.edb_lang.specs.declared.small.TraceFlag.{TraceFlag}
use Rattle.edb_lang.specs.declared.small.TraceFlag.TheVariants as trace
use Rattle.edb_lang.specs.Pairs.{Pairs, by_order}
use Rattle.edb_lang.specs.TermText.{atom_text, term_text}
use Rattle.edb_breaks.specs.Table.{Table}
use Rattle.edb_words.specs.Words.{angled, action_word, status_word}
use Rattle.edb_rules.specs.TableEdits.{is_of}
use Rattle.edb_rules.specs.Seen.{Frame, SeenStop, SeenCall, Seen, status_of}

-- what stands in braces, and in brackets, with commas between
abbrev pub in_braces : List (List ℕ) → List ℕ
in_braces parts = codes "{" ++ (join_by (λ part. part) (codes ",") parts ++ codes "}")

abbrev pub in_brackets : List (List ℕ) → List ℕ
in_brackets parts = codes "[" ++ (join_by (λ part. part) (codes ",") parts ++ codes "]")

-- BINDINGS: `Name = term`, a row for each variable
abbrev pub binding_rows : Pairs → List (List ℕ)
binding_rows ps = map (λ p. (p.0 ++ codes " = ") ++ term_text p.1) ps

-- INTERPRETED MODULES: each name a row, ascending by their bytes
abbrev pub put_name : List ℕ → List (List ℕ) → List (List ℕ)
put_name m [] = m ∷ []
put_name m (n ∷ ns) = by_order (slice_cmp nat_cmp m n) (m ∷ (n ∷ ns)) (m ∷ (n ∷ ns)) (n ∷ put_name m ns)

abbrev pub ascending : List (List ℕ) → List (List ℕ)
ascending [] = []
ascending (m ∷ ms) = put_name m (ascending ms)

abbrev pub module_rows : List (List ℕ) → List (List ℕ)
module_rows ms = map atom_text (ascending ms)

-- BREAKPOINTS, in the order of their making: `{{M,L},[Status,Action,null,Condition]}`, the condition being `null` or
-- `{Module,Function}`
abbrev pub active_word : Status → List ℕ
active_word Active = codes "active"
active_word Inactive = codes "inactive"

abbrev pub condition_text : Option (List ℕ × List ℕ) → List ℕ
condition_text None = codes "null"
condition_text (Some c) = in_braces (atom_text c.0 ∷ (atom_text c.1 ∷ []))

abbrev pub break_text : Break → List ℕ
break_text b = in_brackets (active_word b.status ∷ (action_word b.trigger ∷ (codes "null" ∷ (condition_text b.cond ∷ []))))

abbrev pub break_row : BreakRow → List ℕ
break_row r = in_braces (in_braces (atom_text r.module ∷ (decimal r.line ∷ [])) ∷ (break_text r.row ∷ []))

abbrev pub break_rows : Table → List (List ℕ)
break_rows t = map break_row t.rows

abbrev pub module_break_rows : List ℕ → Table → List (List ℕ)
module_break_rows m t = map break_row (filter (is_of m) t.rows)

-- THE SNAPSHOT: a row for each process that ever came to interpreted code and wasn't cleared, by number:
-- `{<P>,{M,F,Arity},Status,Info}`. The info is `{M,L}` at a stop, the reason of one that has ended, and else `{}`.
abbrev pub place_text : SeenStop → List ℕ
place_text stop = in_braces (atom_text stop.home ∷ (decimal stop.line ∷ []))

abbrev pub info_text : Seen → List ℕ
info_text x = by x.ended x.stop
  where
    by : Option (List ℕ) → Option SeenStop → List ℕ
    by (Some reason) o = reason
    by None (Some stop) = place_text stop
    by None None = codes "{}"

abbrev pub process_row : ℕ → SeenCall → Seen → List ℕ
process_row p f x =
    in_braces (angled p ∷ (in_braces (atom_text f.home ∷ (atom_text f.name ∷ (decimal f.arity ∷ []))) ∷ (status_word (status_of x) ∷ (info_text x ∷ []))))

abbrev pub seen_rows : ℕ → Option Seen → List (List ℕ)
seen_rows p None = []
seen_rows p (Some x) = option_map_or (λ (f : SeenCall). process_row p f x ∷ []) x.first []

-- the processes numbered from p on
abbrev pub snapshot_from : ℕ → List (Option Seen) → List (List ℕ)
snapshot_from p [] = []
snapshot_from p (x ∷ xs) = seen_rows p x ++ snapshot_from (suc p) xs

abbrev pub snapshot_rows : List (Option Seen) → List (List ℕ)
snapshot_rows seen = snapshot_from 1 seen

-- FRAMES: `LEVEL M:F/A line L`, innermost first; a gap of levels is `LOW-HIGH replaced`
abbrev pub frame_row : Frame → List ℕ
frame_row f =
    decimal f.level ++ (codes " " ++ (atom_text f.home ++ (codes ":" ++ (atom_text f.name ++ (codes "/" ++ (decimal f.arity ++ (codes " line " ++ decimal f.line)))))))

-- the row of the levels between two, if there are any
abbrev pub gap_rows : ℕ → ℕ → List (List ℕ)
gap_rows below above =
    if nat_lt (below + 1) above then (decimal (below + 1) ++ (codes "-" ++ (decimal (above - 1) ++ codes " replaced"))) ∷ [] else []

abbrev pub first_level : List Frame → ℕ
first_level [] = 0
first_level (f ∷ fs) = f.level

-- each frame, and the gap below it: down to the next frame, and below the last one down to level 1
abbrev pub gapped_rows : List Frame → List (List ℕ)
gapped_rows [] = []
gapped_rows (f ∷ fs) = frame_row f ∷ (gap_rows (first_level fs) f.level ++ gapped_rows fs)

-- the frames that are shown: all with the gaps; all; or the innermost one
abbrev pub innermost_row : List Frame → List (List ℕ)
innermost_row [] = []
innermost_row (f ∷ fs) = frame_row f ∷ []

abbrev pub frame_rows : TraceFlag → List Frame → List (List ℕ)
frame_rows trace.All fs = gapped_rows fs
frame_rows trace.NoTail fs = map frame_row fs
frame_rows trace.Top fs = innermost_row fs
