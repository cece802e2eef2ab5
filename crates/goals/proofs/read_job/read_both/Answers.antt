use Rattle.std.proofs.Common.{rules}
use Rattle.goals.proofs.FrameSteps.{facts_near}
use Rattle.goals.proofs.JobSteps.{inside}
use Rattle.goals.proofs.read_job.read_both.Goals as goal

pub invariant_of-file : goal.invariant_of-file
invariant_of-file c =
    let i = inside c.args.bytes.now c.in_ok-frame.frame c.in_ok-frame.ensures in
    let n = facts_near c.args.bytes.now c.in_ok-frame.frame c.in_ok-frame.ensures in
    search rules
