-- What holds of every job, from its catalogue and its goal.
use Rattle.std.proofs.Common.{leb, vec_items}
use Rattle.std.proofs.lemmas.Bool.{and_parts, leb-true}
use Rattle.goals.specs.declared.catalogue.Catalogue.{Catalogue}
use Rattle.goals.specs.declared.goal.Goal.{Goal}
use Rattle.goals.specs.SoundJob.{SoundJob}
use Rattle.goals.proofs.GoalFacts.{goal-rising, goal-ordered, goal-rooted, goal-few}

pub sound_from : (catalogue : Catalogue) (goal : Goal) → SoundJob catalogue.ids (vec_items goal.nodes) goal.root
sound_from catalogue goal =
    let i = and_parts (leb 1 catalogue.ids) (leb catalogue.ids 128) (and_parts _ _ catalogue.counts).0 in
    record {
      some_ids = leb-true 1 catalogue.ids i.0;
      few_ids = leb-true catalogue.ids 128 i.1;
      few_nodes = goal-few goal;
      rising = goal-rising goal;
      ordered = goal-ordered goal;
      inside = goal-rooted goal;
    }
