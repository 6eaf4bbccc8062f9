use Rattle.std.proofs.Common.{◌≡◌, sym, ap, subst, ◌∙◌, ◌++◌}
use Rattle.std.proofs.Math.Dec.{eqb}
use Rattle.std.specs.List.{Contains, dedup}
use Rattle.std.specs.List.Sorted.{IsStrictlyIncreasing}
use Rattle.std.proofs.lemmas.List.Filters.{dedup_is}
use Rattle.std.proofs.lemmas.List.Kept.{Contains-dedup_nat, Contains-from_dedup}
use Rattle.std.proofs.lemmas.List.Sorted.{Contains-permutation, IsPermutation-sym}
use Rattle.std.proofs.lemmas.Map.Keys.{IsStrictlyIncreasing-dedup}
use Rattle.edb_check.specs.Stops.{functions_stops, module_stops}
use Rattle.edb_check.proofs.stops.module_lines.Goals as goal

pub returns-clause-ascending : goal.returns-clause-ascending
returns-clause-ascending c =
    let sorted = c.sort_unstable.new.self.items in
    subst IsStrictlyIncreasing (sym (dedup_is eqb sorted c.dedup.new.self.items c.dedup.ensures.filtered)) (IsStrictlyIncreasing-dedup sorted c.sort_unstable.ensures.sorted)

pub returns-clause-exact : goal.returns-clause-exact
returns-clause-exact c l =
    let all = c.functions_lines.new.lines.items in
    let sorted = c.sort_unstable.new.self.items in
    let left : c.dedup.new.self.items ≡ dedup eqb sorted = dedup_is eqb sorted c.dedup.new.self.items c.dedup.ensures.filtered in
    let lines : all ≡ module_stops c.args.module.now =
    c.in_ok-functions_lines.ensures ∙ ap (λ xs. xs ++ functions_stops c.deref.result.now) c.new-lines.ensures.items ∙ ap functions_stops c.deref.ensures.value ∙ ap (λ m. functions_stops m.functions) c.module.view_is in (
      λ here. subst (λ xs. Contains xs l) lines (Contains-permutation sorted all l (IsPermutation-sym all sorted c.sort_unstable.ensures.permutation)
          (Contains-from_dedup eqb sorted l (subst (λ xs. Contains xs l) left here))),
      λ there. subst (λ xs. Contains xs l) (sym left) (Contains-dedup_nat sorted l
          (Contains-permutation all sorted l c.sort_unstable.ensures.permutation (subst (λ xs. Contains xs l) (sym lines) there))),
    )
