use Rattle.std.proofs.Common.{arith}
use Rattle.sessions.proofs.Taking.{stays_held, stays_lacking}
use Rattle.sessions.proofs.change.stays.Goals as goal

pub returns-then-holds : goal.returns-then-holds
returns-then-holds g c =
    stays_held (g.R.Register.meaning c.args.register.now) (g.L.FactList.listed c.args.takes.now) c.count.result c.args.fact
    c.is_before.result (omega (arith, c.count.ensures)) c.is_before.ensures c.if-holds.ensures.answer

pub returns-else-holds : goal.returns-else-holds
returns-else-holds g c =
    stays_lacking (g.R.Register.meaning c.args.register.now) (g.L.FactList.listed c.args.takes.now) c.args.fact
    c.holds.result c.holds.ensures.answer c.if-holds.ensures.answer
