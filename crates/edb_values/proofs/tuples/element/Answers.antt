use Rattle.std.proofs.Common.{◌≡◌, ◌∙◌, sym, length, get_or, rules, Option, Some, None, ℕ}
use Rattle.std.specs.Option.{option_and_then}
use Rattle.edb_lang.specs.Terms.{tuple, of_list}
use Rattle.edb_pure.specs.Tuples.{place_of}
use Rattle.edb_values.proofs.TupleLemmas.{below, element_is, element_there, element_absent}
use Rattle.edb_values.proofs.tuples.element.Goals as goal

-- src/tuples.rt: the element at a place that there is
pub returns-in_ok-copy-in-Some : goal.returns-in_ok-copy-in-Some
returns-in_ok-copy-in-Some c =
    let is : c.args.tuple.now ≡ tuple (of_list c.in-Tuple.items.items) = cc in
    let same = element_is c.args.position.now c.args.tuple.now c.in-Tuple.items.items is in
    let len : c.len.result ≡ length c.in-Tuple.items.items = search rules in
    let place : ◌≡◌ {A = Option ℕ} (Some c.in-Some.place) (option_and_then (below c.len.result) (place_of c.args.position.now)) = c.in-Some.ensures in
    let item : c.in_ok-copy-in-Some.field-0 ≡ get_or c.in-Tuple.items.items c.in-Some.place c.in_ok-copy-in-Some.field-0 = rw c.in_ok-copy-in-Some.ensures c.index.ensures in
    element_there (place_of c.args.position.now) c.in-Tuple.items.items c.in-Some.place c.in_ok-copy-in-Some.field-0 (rw len at place) item ∙ sym same

-- src/tuples.rt: no such place
pub returns-in-None : goal.returns-in-None
returns-in-None c =
    let is : c.args.tuple.now ≡ tuple (of_list c.in-Tuple.items.items) = cc in
    let same = element_is c.args.position.now c.args.tuple.now c.in-Tuple.items.items is in
    let len : c.len.result ≡ length c.in-Tuple.items.items = search rules in
    let place : ◌≡◌ {A = Option ℕ} None (option_and_then (below c.len.result) (place_of c.args.position.now)) = c.in-None.ensures in
    rw (same, sym (element_absent (place_of c.args.position.now) c.in-Tuple.items.items (rw len at place))) c.badarg-in-None.ensures
