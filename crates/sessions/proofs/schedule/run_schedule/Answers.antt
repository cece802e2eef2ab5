use Rattle.goals.specs.JobView.{sound}
use Rattle.sessions.proofs.Turns.{keeps-law, is_uncut}
use Rattle.sessions.proofs.schedule.run_schedule.Goals as goal

pub returns-clause-law : goal.returns-clause-law
returns-clause-law g c =
    keeps-law c.args.job.now (g.P.Pieces.first c.args.pieces.now) (g.P.Pieces.first c.run-session.new.self) (g.P.Pieces.others c.args.pieces.now) (g.P.Pieces.others c.run-session.new.self) _ _ _ _
    c.open-session.ensures c.run-session.ensures.session c.run-session.ensures.parts c.close.ensures.state c.close.ensures.verdict c.runs_keep_the_law.ensures (sound c.args.job.now)

pub returns-clause-cut : goal.returns-clause-cut
returns-clause-cut g c =
    is_uncut c.args.job.now (g.P.Pieces.first c.args.pieces.now) (g.P.Pieces.first c.run-session.new.self) (g.P.Pieces.others c.args.pieces.now) (g.P.Pieces.others c.run-session.new.self) _ _ _ _
    c.open-session.ensures c.run-session.ensures.session c.run-session.ensures.parts c.close.ensures.state c.close.ensures.verdict
