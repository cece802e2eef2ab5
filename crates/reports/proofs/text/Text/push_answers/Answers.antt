use Rattle.std.proofs.Common.{◌++◌, Err, sym, ap, ◌∙◌, arith, length-append}
use Rattle.std.proofs.lemmas.Result.{err_from_is_err_and}
use Rattle.reports.proofs.Writing.{turn, stop, end}
use Rattle.reports.proofs.text.Text.push_answers.Goals as goal

pub returns-in_err-push_answer : goal.returns-in_err-push_answer
returns-in_err-push_answer c =
    let p = err_from_is_err_and c.from_residual.result c.from_residual.ensures.1 in
    let told = c.in_err-push_answer.ensures in
    let stopped = stop c.args.lines.now c.loop-line.line-index _ c.loop-line-test.true c.in_err-push_answer.field-0.0 told.refusal in
    record {
      items = told.items ∙ sym (c.loop-line.invariant.text ∙ ap (λ t. c.loop-line.self ++ t) stopped.0);
      end = p.1 ∙ (ap Err p.2 ∙ sym (c.loop-line.invariant.end ∙ stopped.1));
      room = grind (arith, length-append, c.loop-line.invariant.room, c.loop-line-test.true, told.items, told.short);
    }

pub loop-line-preserved : goal.loop-line-preserved
loop-line-preserved c =
    let told = c.in_ok-push_answer.ensures in
    let turned = turn c.args.lines.now c.loop-line.line-index _ c.loop-line-test.true _ c.loop-line.self told.refusal in
    record {
      text = rw told.items (c.loop-line.invariant.text ∙ turned.0);
      end = c.loop-line.invariant.end ∙ turned.1;
      room = grind (arith, length-append, c.loop-line.invariant.room, told.items, told.short);
    }

pub returns : goal.returns
returns c =
    let ended = end c.args.lines.now c.loop-line.line-index c.loop-line.self c.loop-line-test.false in
    record {
      items = sym (c.loop-line.invariant.text ∙ ended.0);
      end = sym (c.loop-line.invariant.end ∙ ended.1);
      room = omega (arith, c.loop-line.invariant.room, c.loop-line.auto.line-index-end);
    }
