-- How deep a tree is doesn't depend on its lines.

use Rattle.std.proofs.Common.{◌≡◌, ◌+◌, max, Option, None, Some, refl}
use Rattle.edb_syntax.specs.Depths.{pattern_depth, patterns_depth, name_depth, stack_depth, depth, depths, sequence_depth, after_depth, guard_depth, clause_depth, clauses_depth, catch_depth, catches_depth, qualifier_depth, qualifiers_depth}
use Rattle.edb_syntax.specs.Patterns as pattern
use Rattle.edb_syntax.specs.Patterns.{Pat, Pats}
use Rattle.edb_syntax.specs.Syntax.{Exp, Exps, Seq, After, Guards, ClauseTree, Clauses, CatchTree, Catches, QualifierTree, Qualifiers, apply, and_also, or_else, match, catch, begin, case, if_clauses, receive, receive_after, try, fun_clauses, comprehension, none, more, sequence, no_after, after, no_guard, alternative, clause, no_clauses, more_clauses, catch_clause, no_catches, more_catches, generator, filter, no_qualifiers, more_qualifiers}
use Rattle.edb_print.specs.Unlined.{unlined_pattern, unlined_patterns, unlined_stack, unlined, unlined_all, unlined_body, unlined_after, unlined_guard, unlined_clause, unlined_clauses, unlined_handler, unlined_catches, unlined_qualifier, unlined_qualifiers}

mutual
  of_pattern : (p : Pat) → pattern_depth (unlined_pattern p) ≡ pattern_depth p
  of_pattern (pattern.tuple l ps) = λ i. of_patterns ps i + 1
  of_pattern (pattern.list l ps) = λ i. of_patterns ps i + 1
  of_pattern (pattern.list_with_tail l ps t) = λ i. max (of_patterns ps i) (of_pattern t i) + 1
  of_pattern (pattern.both l p q) = λ i. max (of_pattern p i) (of_pattern q i) + 1
  of_pattern _ = refl

  of_patterns : (ps : Pats) → patterns_depth (unlined_patterns ps) ≡ patterns_depth ps
  of_patterns pattern.none = refl
  of_patterns (pattern.more p ps) = λ i. max (of_pattern p i) (of_patterns ps i)

of_stack : (v : Option Pat) → stack_depth (unlined_stack v) ≡ stack_depth v
of_stack None = refl
of_stack (Some p) = of_pattern p

mutual
  of_expression : (e : Exp) → depth (unlined e) ≡ depth e
  of_expression (apply l o es) = λ i. max (name_depth o) (of_all es i) + 1
  of_expression (and_also l a b) = λ i. max (of_expression a i) (of_expression b i) + 1
  of_expression (or_else l a b) = λ i. max (of_expression a i) (of_expression b i) + 1
  of_expression (match l p e) = λ i. max (of_pattern p i) (of_expression e i) + 1
  of_expression (catch l e) = λ i. of_expression e i + 1
  of_expression (begin l s) = λ i. of_body s i + 1
  of_expression (case l e cs) = λ i. max (of_expression e i) (depth_unlined cs i) + 1
  of_expression (if_clauses l cs) = λ i. depth_unlined cs i + 1
  of_expression (receive l cs) = λ i. depth_unlined cs i + 1
  of_expression (receive_after l cs e s) = λ i. max (depth_unlined cs i) (max (of_expression e i) (of_body s i)) + 1
  of_expression (try l s cs hs a) = λ i. max (max (of_body s i) (depth_unlined cs i)) (max (of_catches hs i) (of_after a i)) + 1
  of_expression (fun_clauses l n cs) = λ i. depth_unlined cs i + 1
  of_expression (comprehension l e qs) = λ i. max (of_expression e i) (of_qualifiers qs i) + 1
  of_expression _ = refl

  of_all : (es : Exps) → depths (unlined_all es) ≡ depths es
  of_all none = refl
  of_all (more e es) = λ i. max (of_expression e i) (of_all es i)

  of_body : (s : Seq) → sequence_depth (unlined_body s) ≡ sequence_depth s
  of_body (sequence e es) = λ i. max (of_expression e i) (of_all es i)

  of_after : (a : After) → after_depth (unlined_after a) ≡ after_depth a
  of_after no_after = refl
  of_after (after s) = of_body s

  of_guard : (gs : Guards) → guard_depth (unlined_guard gs) ≡ guard_depth gs
  of_guard no_guard = refl
  of_guard (alternative es gs) = λ i. max (of_all es i) (of_guard gs i)

  of_clause : (c : ClauseTree) → clause_depth (unlined_clause c) ≡ clause_depth c
  of_clause (clause ps gs s) = λ i. max (of_patterns ps i) (max (of_guard gs i) (of_body s i))

  pub depth_unlined : (cs : Clauses) → clauses_depth (unlined_clauses cs) ≡ clauses_depth cs
  depth_unlined no_clauses = refl
  depth_unlined (more_clauses c cs) = λ i. max (of_clause c i) (depth_unlined cs i)

  of_handler : (h : CatchTree) → catch_depth (unlined_handler h) ≡ catch_depth h
  of_handler (catch_clause c p v gs s) =
      λ i. max (max (of_pattern c i) (of_pattern p i)) (max (of_stack v i) (max (of_guard gs i) (of_body s i)))

  of_catches : (hs : Catches) → catches_depth (unlined_catches hs) ≡ catches_depth hs
  of_catches no_catches = refl
  of_catches (more_catches h hs) = λ i. max (of_handler h i) (of_catches hs i)

  of_qualifier : (q : QualifierTree) → qualifier_depth (unlined_qualifier q) ≡ qualifier_depth q
  of_qualifier (generator p e) = λ i. max (of_pattern p i) (of_expression e i)
  of_qualifier (filter e) = of_expression e

  of_qualifiers : (qs : Qualifiers) → qualifiers_depth (unlined_qualifiers qs) ≡ qualifiers_depth qs
  of_qualifiers no_qualifiers = refl
  of_qualifiers (more_qualifiers q qs) = λ i. max (of_qualifier q i) (of_qualifiers qs i)
