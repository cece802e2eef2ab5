use Rattle.std.proofs.Common.{rules, not, ◌∙◌}
use Rattle.std.proofs.lemmas.Iterator.{YieldsList-from_slice}
use Rattle.std.proofs.lemmas.Iterator.Adapters.{position_from-zero}
use Rattle.std.proofs.lemmas.Iterator.Search.{position_from_yields_List}
use Rattle.goals.specs.Entries.{entries_of}
use Rattle.sessions.specs.Steps.{need_holds}
use Rattle.sessions.proofs.Failing.{failing-position}
use Rattle.sessions.proofs.needs.first_failing.Goals as goal

pub returns : goal.returns
returns g c =
    let m = g.R.Register.meaning c.args.register.now in
    let a = c.args.arguments in
    let es = entries_of c.args.needs.now in
    position_from_yields_List (λ e. not (need_holds m a e)) c.position.new.self _ _ c.position.ensures.ran (YieldsList-from_slice es (cc))
    (λ x b q k. search rules)
    ∙ (position_from-zero (λ e. not (need_holds m a e)) es ∙ failing-position m a 0 es)
