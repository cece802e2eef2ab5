use Rattle.std.proofs.Common.{◌+◌, ◌-◌, leb, sym, ap, ◌∙◌, arith}
use Rattle.std.proofs.lemmas.Bool.{le-leb}
use Rattle.registers.specs.Meaning.{size_of, limit_of}
use Rattle.registers.proofs.Laws.{size-all}
use Rattle.sessions.specs.Steps.{ground_all, excluding_all, facts_after}
use Rattle.sessions.proofs.Taking.{room-tells}
use Rattle.sessions.proofs.change.has_room.Goals as goal

pub returns-then-limit-ge-ALL_FACTS : goal.returns-then-limit-ge-ALL_FACTS
returns-then-limit-ge-ALL_FACTS g c =
    let m = g.R.Register.meaning c.args.register.now in
    sym (le-leb _ _ (omega (arith, size-all (facts_after m c.args.operation.now c.args.arguments), c.limit-limit.ensures.answer, c.if-limit-ge-ALL_FACTS.true)))

pub returns : goal.returns
unfolding facts_after
returns g c =
    let m = g.R.Register.meaning c.args.register.now in
    let o = c.args.operation.now in
    let a = c.args.arguments in
    ap (λ n. leb c.count_new.result (n - c.size.result + c.count_held-held.result)) c.limit-limit.ensures.answer
    ∙ room-tells c.size.result (limit_of m) c.count_held-held.result c.count_new.result
    (size_of (excluding_all m (ground_all a o.takes))) (size_of (facts_after m o a))
    (omega (arith, c.size.ensures.answer, (g.met.R.Register.lawful c.args.register.now).within))
    (c.count_held-held.ensures ∙ sym c.size.ensures.answer) c.count_new.ensures
