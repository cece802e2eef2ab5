use Rattle.std.proofs.Common.{◌+◌, take, drop, sym, ap, ◌∙◌, arith}
use Rattle.registers.specs.Meaning.{size_of}
use Rattle.registers.proofs.Members.{listed_as}
use Rattle.registers.proofs.FactSteps.{facts-left}
use Rattle.registers.proofs.ListLaws.{index-of_first}
use Rattle.sessions.specs.Steps.{excluding_all}
use Rattle.sessions.proofs.Taking.{excluding-none, held_more, lacking_more, listed_more}
use Rattle.sessions.proofs.change.count_held.Goals as goal
use Rattle.sessions.proofs.change.count_held.Goals.{else-holds-via-then-holds+else-not-is_before, else-holds-via-else-holds}

pub loop-k-init : goal.loop-k-init
loop-k-init g c =
    let m = g.R.Register.meaning c.args.register.now in
    let fs = g.L.FactList.listed c.args.takes.now in
    let start = ap (λ s. s.count) c.into_iter-k-iterator.ensures.into_iter_gives ∙ c.enumerate-k-items.ensures.count in
    let source = ap (λ s. s.iter) c.into_iter-k-iterator.ensures.into_iter_gives ∙ c.enumerate-k-items.ensures.source in (
      ap (λ n. drop n fs) start ∙ sym (facts-left g.L.FactList.listed _ _ _ source c.facts.ensures.list c.facts.ensures.start),
      omega (arith, ap size_of (excluding-none m), ap (λ n. size_of (excluding_all m (take n fs))) start),
      omega arith,
    )

pub loop-k-preserved-then-not-is_before : goal.loop-k-preserved-then-not-is_before
loop-k-preserved-then-not-is_before g c =
    let m = g.R.Register.meaning c.args.register.now in
    let fs = g.L.FactList.listed c.args.takes.now in
    let k = c.loop-k.k-iterator.count in
    let first = index-of_first fs k c.in-Some.fact _ (c.loop-k.invariant.0 ∙ c.in-Some.ensures.steps.0) in
    let further = c.in-Some.ensures.steps.2 in
    let absent = ap (λ n. listed_as (take n fs) c.in-Some.fact) (sym c.in-Some.ensures.steps.1) ∙ sym c.if-not-is_before.ensures in
    let held = sym c.if-holds.ensures.answer in (
      ap (λ n. drop n fs) further ∙ first.1,
      ap (λ n. size_of (excluding_all m (take n fs)) + (c.loop-k.held + 1)) further
          ∙ held_more m fs k c.loop-k.held c.in-Some.fact first.0 ((g.met.R.Register.lawful c.args.register.now).bounded c.in-Some.fact held)
          c.loop-k.invariant.1 held absent,
      omega (arith, c.loop-k.invariant.2, further),
    )

pub loop-k-preserved : goal.loop-k-preserved
loop-k-preserved g c =
    let m = g.R.Register.meaning c.args.register.now in
    let fs = g.L.FactList.listed c.args.takes.now in
    let k = c.loop-k.k-iterator.count in
    let first = index-of_first fs k c.in-Some.fact _ (c.loop-k.invariant.0 ∙ c.in-Some.ensures.steps.0) in
    let further = c.in-Some.ensures.steps.2 in (
      ap (λ n. drop n fs) further ∙ first.1,
      ap (λ n. size_of (excluding_all m (take n fs)) + c.loop-k.held) further
          ∙ elim c.else-holds.branch [
            | else-holds-via-then-holds+else-not-is_before w ↦
                listed_more m fs k c.loop-k.held c.in-Some.fact first.0 c.loop-k.invariant.1
                (ap (λ n. listed_as (take n fs) c.in-Some.fact) (sym c.in-Some.ensures.steps.1) ∙ sym w.if-not-is_before.ensures)
            | else-holds-via-else-holds w ↦ lacking_more m fs k c.loop-k.held c.in-Some.fact first.0 c.loop-k.invariant.1 (sym w.if-holds.ensures.answer)
          ],
      omega (arith, c.loop-k.invariant.2, further),
    )
