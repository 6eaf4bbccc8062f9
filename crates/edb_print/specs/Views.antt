-- The gaps and the openings of clauses that contracts see.

use Rattle.edb_print.specs.declared.gaps.Gap as code
use Rattle.edb_print.specs.declared.gaps.Gap.TheVariants.{Tight, Blank, Line}
use Rattle.edb_print.specs.declared.clauses.Opening as clauses
use Rattle.edb_print.specs.declared.clauses.Opening.TheVariants.{Pattern, Guard, Parameters}
use Rattle.edb_print.specs.Pieces.{Gap, tight, blank, line}
use Rattle.edb_print.specs.Layout.{Opening, with_pattern, with_guard, with_parameters}

abbrev pub gap_of : code.Gap → Gap
gap_of Tight = tight
gap_of Blank = blank
gap_of (Line d) = line d

abbrev pub opening_of : clauses.Opening → Opening
opening_of Pattern = with_pattern
opening_of Guard = with_guard
opening_of Parameters = with_parameters
