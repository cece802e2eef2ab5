use Rattle.std.proofs.Common.{refl}
use Rattle.sessions.specs.State.{opened}
use Rattle.sessions.proofs.Runs.{Promised, law-of}
use Rattle.sessions.proofs.Cuts.{cutting}
use Rattle.sessions.proofs.theorems.runs_keep_the_law.Goals as goal

pub returns : goal.returns
returns c =
    let promised : Promised = record {
      stands = c.label_stands_for_goal.ensures;
      timed = c.runs_are_timed.ensures;
      judges = c.idling_judges_the_model.ensures;
      known = c.labels_stay_known.ensures;
    } in
    λ job sound m ps joined.
    let u = cutting job (opened job m) ps joined in
    law-of job promised sound m _ _ _ _ u.answers u.stands refl
