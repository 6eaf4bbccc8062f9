use Rattle.std.proofs.Common.{◌≡◌, ◌<◌, ◌-◌, ◌+◌, ◌∷◌, ℕ, List, drop, MatchOption, ap, sym, subst, ◌∙◌, arith}
use Rattle.edb_pure.specs.declared.Raise.{Raise}
use Rattle.edb_stack.specs.Landings.{deeper, landing}
use Rattle.edb_stack.specs.Parts as parts
use Rattle.edb_stack.specs.Trees.{outward}
use Rattle.edb_stack.specs.Views.{layer_of, layers_of}
use Rattle.edb_stack.specs.declared.layer.Layer.{Layer}
use Rattle.edb_running.specs.Landed.{mark_of, IsCaught, stood}
use Rattle.edb_running.proofs.LandedLaws.{Reached, reached_next, reached_caught, reached_end}
use Rattle.edb_running.proofs.Scans.{at_place, past_end}
use Rattle.edb_running.proofs.landing.find_landing.Goals as goal

pub returns-in-Some-2 : goal.returns-in-Some-2
returns-in-Some-2 c =
    let r : Raise = c.args.raise.now in
    let all : List Layer = c.args.layers.now.0 in
    let ls : List parts.Layer = layers_of (drop c.args.offset all) in
    let l : parts.Layer = layer_of c.in-Some.layer.now in
    let rest : List parts.Layer = layers_of (drop (c.loop-place.place + 1) all) in
    let n : ℕ = c.loop-place.place - c.args.offset in
    record {
      small = omega (arith, c.loop-place-test.true, c.len.ensures.small);
      lands = λ i h.
          let s : Reached c.args.me r ls i n (l ∷ rest) (stood c.loop-place.stand) =
          subst (λ xs. Reached c.args.me r ls i n (layers_of xs) (stood c.loop-place.stand)) (at_place c.loop-place.place all c.in-Some.layer.now (sym c.in-Some.ensures)).0 (c.loop-place.invariant.1 i h) in
          reached_caught c.args.me r ls i n c.mark_of.result l rest (stood c.loop-place.stand) c.in-Some-2.landed s c.mark_of.ensures
          (subst (λ o. MatchOption o (landing c.args.me (l ∷ rest) s.at r.class r.reason ≡ deeper (landing c.args.me rest (outward l s.at) r.class r.reason)) (IsCaught r s.at (mark_of l) (landing c.args.me (l ∷ rest) s.at r.class r.reason)))
          c.in-Some-2.is (c.in_ok-landed.ensures rest s.at s.sees));
    }

pub loop-place-preserved : goal.loop-place-preserved
loop-place-preserved c =
    let r : Raise = c.args.raise.now in
    let all : List Layer = c.args.layers.now.0 in
    let ls : List parts.Layer = layers_of (drop c.args.offset all) in
    let l : parts.Layer = layer_of c.in-Some.layer.now in
    let rest : List parts.Layer = layers_of (drop (c.loop-place.place + 1) all) in
    let n : ℕ = c.loop-place.place - c.args.offset in (
      omega (arith, c.loop-place.invariant.0),
      λ i h.
          let s : Reached c.args.me r ls i n (l ∷ rest) (stood c.loop-place.stand) =
          subst (λ xs. Reached c.args.me r ls i n (layers_of xs) (stood c.loop-place.stand)) (at_place c.loop-place.place all c.in-Some.layer.now (sym c.in-Some.ensures)).0 (c.loop-place.invariant.1 i h) in
          reached_next c.args.me r ls i n ((c.loop-place.place + 1) - c.args.offset) l rest (stood c.loop-place.stand) (stood c.outside-stand.result) s (omega (arith, c.loop-place.invariant.0))
          (subst (λ o. MatchOption o (landing c.args.me (l ∷ rest) s.at r.class r.reason ≡ deeper (landing c.args.me rest (outward l s.at) r.class r.reason)) (IsCaught r s.at (mark_of l) (landing c.args.me (l ∷ rest) s.at r.class r.reason)))
          c.in_default-2.is (c.in_ok-landed.ensures rest s.at s.sees))
          (c.outside-stand.ensures s.at s.sees),
    )

pub returns : goal.returns
returns c =
    let all : List Layer = c.args.layers.now.0 in
    record {
      small = tt;
      lands = λ i h.
          reached_end c.args.me c.args.raise.now (layers_of (drop c.args.offset all)) i (c.loop-place.place - c.args.offset) (layers_of (drop c.loop-place.place all)) (stood c.loop-place.stand)
          (ap layers_of (past_end c.loop-place.place all (omega (arith, c.loop-place-test.false, c.len.ensures.count)))) (c.loop-place.invariant.1 i h);
    }
