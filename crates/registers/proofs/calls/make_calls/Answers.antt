use Rattle.std.proofs.Common.{sym, ◌∙◌, arith}
use Rattle.registers.proofs.CallLaws.{answered-more, after_more, answered-all, after-all}
use Rattle.registers.proofs.calls.make_calls.Goals as goal

pub loop-line-preserved : goal.loop-line-preserved
loop-line-preserved g c =
    let m = g.R.Register.meaning c.loop-line.register in
    let m' = g.R.Register.meaning c.make_call.new.register in (
      c.loop-line.invariant.0 ∙ answered-more m m' c.loop-line.line-items c.loop-line.line-index _ (omega arith) c.make_call.ensures.after c.make_call.result c.make_call.ensures.answer,
      c.loop-line.invariant.1 ∙ after_more m m' c.loop-line.line-items c.loop-line.line-index _ (omega arith) c.make_call.ensures.after _,
    )

pub returns : goal.returns
returns g c =
    let m = g.R.Register.meaning c.loop-line.register in
    record {
      answers = sym (c.loop-line.invariant.0 ∙ answered-all m c.loop-line.line-items c.loop-line.line-index (omega arith));
      after = sym (c.loop-line.invariant.1 ∙ after-all m c.loop-line.line-items c.loop-line.line-index (omega arith));
    }
