use Rattle.std.proofs.Common.{sym, ap, ◌∙◌, arith}
use Rattle.std.proofs.lemmas.Bool.Decides.{nat_tests}
use Rattle.std.proofs.lemmas.Grind.{common_steps}
use Rattle.goals.specs.JobView.{ids_of, sound}
use Rattle.sessions.specs.Steps.{arguments_fit}
use Rattle.sessions.specs.Checks.{checked, checked_operation}
use Rattle.sessions.proofs.Bounds.{puts-allowed, span-short}
use Rattle.sessions.proofs.session.Session.check.Goals as goal

pub returns-then-not-is_known : goal.returns-then-not-is_known
unfolding checked checked_operation
returns-then-not-is_known g c = grind (arith, common_steps, nat_tests)

pub returns-in_default : goal.returns-in_default
unfolding checked checked_operation
returns-in_default g c = grind (arith, common_steps, nat_tests)

pub returns-then-not-arguments_fit : goal.returns-then-not-arguments_fit
unfolding checked checked_operation
returns-then-not-arguments_fit g c = grind (arith, common_steps, nat_tests)

pub returns-in-Some-first_failing : goal.returns-in-Some-first_failing
unfolding checked checked_operation
returns-in-Some-first_failing g c = grind (arith, common_steps, nat_tests)

pub returns-then-self-ge-MOST_STEPS : goal.returns-then-self-ge-MOST_STEPS
unfolding checked checked_operation
returns-then-self-ge-MOST_STEPS g c = grind (arith, common_steps, nat_tests)

pub has_room-requires : goal.has_room-requires
has_room-requires g c =
    puts-allowed (ids_of c.args.job.now) c.in-Some.operation c.args.step.arguments (sound c.args.job.now).few_ids (sound c.args.job.now).some_ids
    c.in-Some.ensures.inside
    (sym (c.if-not-arguments_fit.ensures ∙ ap (λ n. arguments_fit n c.in-Some.operation.parameters c.args.step.arguments) c.ids.ensures))

pub returns-then-not-has_room : goal.returns-then-not-has_room
unfolding checked checked_operation
returns-then-not-has_room g c = grind (arith, common_steps, nat_tests)

pub returns : goal.returns
unfolding checked checked_operation
returns g c =
    record {
      comes = grind (arith, common_steps, nat_tests);
      own_job = grind (arith, common_steps);
      bounds =
          puts-allowed (ids_of c.args.job.now) c.in-Some.operation c.args.step.arguments (sound c.args.job.now).few_ids (sound c.args.job.now).some_ids
          c.in-Some.ensures.inside
          (sym (c.if-not-arguments_fit.ensures ∙ ap (λ n. arguments_fit n c.in-Some.operation.parameters c.args.step.arguments) c.ids.ensures));
      room = grind (arith, common_steps, nat_tests);
      few_steps = omega arith;
      short_span = span-short (ids_of c.args.job.now) c.in-Some.operation c.in-Some.ensures.inside;
    }
