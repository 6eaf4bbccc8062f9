use Rattle.std.proofs.Common.{[], ◌∷◌, ◌++◌, ◌∙◌, sym, ap, subst, List, ℕ, append_assoc, append-nil}
use Rattle.std.specs.Prelude.{encode_utf8_all}
use Rattle.edb_scan.specs.QuoteFronts.{UpTo}
use Rattle.edb_scan.proofs.EndLemmas.{writes_shorter, end_here, end_behind, characters_so_far, no_end_empty, no_end_stuck, no_end_behind}
use Rattle.edb_scan.proofs.quotes.quoted.Goals as goal

pub returns-then-first-quote : goal.returns-then-first-quote
returns-then-first-quote c =
    let inv = c.loop-first.invariant in (
      inv.0 ++ [],
      inv.1 ∙ ap encode_utf8_all (sym (append-nil inv.0)),
      inv.2 c.in-Some.behind.now [] (end_here c.args.quote c.in-Some.first.now c.loop-first.rest.now c.in-Some.behind.now c.in-Some.ensures.cases.0 c.if-first-quote.true),
    )

pub loop-first-smaller : goal.loop-first-smaller
loop-first-smaller c =
    let found = c.in-Some-written.ensures in
    writes_shorter c.args.quote c.loop-first.rest.now found.0 c.in-Some-written.after.now c.in-Some-written.c found.1 found.2

pub loop-first-preserved : goal.loop-first-preserved
loop-first-preserved c =
    let inv = c.loop-first.invariant in
    let found = c.in-Some-written.ensures in (
      inv.0 ++ c.in-Some-written.c ∷ [],
      characters_so_far _ _ inv.0 c.in-Some-written.c inv.1 c.in_ok-push-in-Some-written.ensures.bytes,
      (λ after cs up.
          let P : List ℕ → Type 0 = λ t. UpTo c.args.quote c.args.bytes.now after t in
          subst P (sym (append_assoc inv.0 (c.in-Some-written.c ∷ []) cs))
          (inv.2 after (c.in-Some-written.c ∷ cs) (end_behind c.args.quote c.loop-first.rest.now found.0 c.in-Some-written.after.now after cs c.in-Some-written.c found.1 found.2 up))),
      (λ none. inv.3 (no_end_behind c.args.quote c.in-Some.first.now c.loop-first.rest.now c.in-Some.behind.now found.0 c.in-Some-written.after.now c.in-Some-written.c
          c.in-Some.ensures.cases.0 c.if-first-quote.false found.1 found.2 none)),
    )

pub returns-in-None : goal.returns-in-None
returns-in-None c =
    c.loop-first.invariant.3 (no_end_stuck c.args.quote c.in-Some.first.now c.loop-first.rest.now c.in-Some.behind.now c.in-Some.ensures.cases.0 c.if-first-quote.false c.in-None.ensures)

pub returns : goal.returns
returns c = c.loop-first.invariant.3 (no_end_empty c.args.quote c.loop-first.rest.now c.in_default.ensures.cases)
