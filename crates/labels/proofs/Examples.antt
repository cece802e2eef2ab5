-- The worked examples, by computation.
use Rattle.std.proofs.Common.{refl}
use Rattle.labels.specs.Goals.{goal_below, goal_of_node}
use Rattle.labels.specs.Labels.{parts}
use Rattle.labels.specs.Same.{same}
use Rattle.labels.specs.Size.{distinct, size}
use Rattle.labels.specs.Joining.{negate, conjoin, disjoin, joined}
use Rattle.labels.specs.Progress.{progress, progressed}
use Rattle.labels.specs.Work.{all_parts, running, results, own_results, each_results, work}
use Rattle.labels.specs.Idling.{idles, idling}
use Rattle.labels.specs.Ledger.{opening, stepped}
use Rattle.labels.specs.Examples.{FootpathSchedules, WindowsAndUntils, QuantifierJoins, WorkedExamples}

schedules : FootpathSchedules
unfolding goal_below goal_of_node parts same distinct size negate conjoin disjoin joined progress progressed all_parts running results own_results each_results work idles idling opening stepped
schedules =
    record {
      reused_early_sizes = refl;
      reused_early_hours = refl;
      reused_early_works = refl;
      reused_early_broken = refl;
      wiped_first_sizes = refl;
      wiped_first_kept = refl;
      never_wiped_not_kept = refl;
    }

windows : WindowsAndUntils
unfolding goal_below goal_of_node parts same distinct size negate conjoin disjoin joined progress progressed idles idling
windows =
    record {
      window_just_open = refl;
      window_passed = refl;
      window_nears = refl;
      window_idles_true = refl;
      until_at_once_idles_true = refl;
      until_after_a_wait_idles_false = refl;
    }

quantifier : QuantifierJoins
unfolding goal_below goal_of_node parts same distinct conjoin joined progress progressed all_parts running results own_results each_results work
quantifier = record { in_rising_order = refl; start_is_work = refl }

pub worked : WorkedExamples
worked = (schedules, windows, quantifier)
