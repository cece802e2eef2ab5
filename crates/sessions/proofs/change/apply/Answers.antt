use Rattle.sessions.proofs.Taking.{changed_to}
use Rattle.sessions.proofs.change.apply.Goals as goal

pub returns : goal.returns
returns g c =
    changed_to (g.R.Register.meaning c.args.register.now) (g.R.Register.meaning c.take_each.new.register) (g.R.Register.meaning c.put_all.new.register)
    c.args.operation.now c.args.arguments c.requires.bounds c.requires.room c.take_each.ensures c.put_all.ensures.after
