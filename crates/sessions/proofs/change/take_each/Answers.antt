use Rattle.std.proofs.Common.{drop, sym, ap, ◌∙◌}
use Rattle.registers.proofs.Laws.{take-excluding}
use Rattle.sessions.specs.Steps.{excluding_all}
use Rattle.sessions.proofs.Taking.{excluding-none, excluding-first}
use Rattle.sessions.proofs.change.take_each.Goals as goal

pub loop-fact-preserved : goal.loop-fact-preserved
loop-fact-preserved g c =
    let n = g.R.Register.meaning c.loop-fact.register in
    let rest = drop c.next.new.self.next (g.L.FactList.listed c.next.new.self.list.now) in
    ap (λ t. excluding_all t rest) (c.take.ensures.after ∙ sym (take-excluding n c.in-Some.fact))
    ∙ (sym (excluding-first n c.in-Some.fact rest) ∙ (sym (ap (excluding_all n) c.in-Some.ensures.steps) ∙ c.loop-fact.invariant))

pub returns : goal.returns
returns g c =
    let n = g.R.Register.meaning c.loop-fact.register in
    sym (excluding-none n) ∙ (sym (ap (excluding_all n) c.in-None.ensures.steps.0) ∙ c.loop-fact.invariant)
