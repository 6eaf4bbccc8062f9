use Rattle.std.proofs.Common.{◌≡◌, ◌++◌, List, ℕ, length, string_bytes}
use Rattle.std.specs.Prelude.{encode_utf8_all}
use Rattle.edb_scan.specs.QuoteFronts.{UpTo, NoEnd}
use Rattle.edb_scan.proofs.quotes.quoted.Given as goal

-- what ends the rest ends the whole, after the characters so far
abbrev pub invariant-loop-first : goal.invariant-loop-first
invariant-loop-first l = (out : List ℕ) × (string_bytes l.text ≡ encode_utf8_all out)
    × ((after cs : List ℕ) → UpTo l.quote l.rest after cs → UpTo l.quote l.bytes after (out ++ cs))
    × (NoEnd l.quote l.rest → NoEnd l.quote l.bytes)

abbrev pub decreases-loop-first : goal.decreases-loop-first
decreases-loop-first l = length l.rest
