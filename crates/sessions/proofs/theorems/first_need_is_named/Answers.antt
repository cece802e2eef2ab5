use Rattle.sessions.proofs.Acceptance.{need_is-named}
use Rattle.sessions.proofs.theorems.first_need_is_named.Goals as goal

pub returns : goal.returns
returns c = need_is-named
