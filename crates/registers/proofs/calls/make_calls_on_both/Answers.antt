use Rattle.std.proofs.Common.{sym, ap, ◌∙◌}
use Rattle.registers.specs.Calls.{answered, after_lines}
use Rattle.registers.proofs.CallLaws.{same-answers, same_after}
use Rattle.registers.proofs.calls.make_calls_on_both.Goals as goal

pub returns : goal.returns
returns g c =
    record {
      left_answers = c.make_calls.ensures.answers;
      left_after = c.make_calls.ensures.after;
      right_answers = c.make_calls-2.ensures.answers;
      right_after = c.make_calls-2.ensures.after;
      alike =
          λ e k. (
            c.make_calls.ensures.answers
                ∙ (same-answers _ _ _ k ∙ (ap (λ m. answered m c.args.right_lines.now) e ∙ sym c.make_calls-2.ensures.answers)),
            c.make_calls.ensures.after
                ∙ (same_after _ _ _ k ∙ (ap (λ m. after_lines m c.args.right_lines.now) e ∙ sym c.make_calls-2.ensures.after)),
          );
    }
