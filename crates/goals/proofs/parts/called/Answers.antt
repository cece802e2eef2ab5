use Rattle.std.proofs.Common.{ap, ◌∙◌}
use Rattle.goals.specs.Seen.{tokens_in}
use Rattle.goals.specs.Reading.{run, bounds}
use Rattle.goals.proofs.Prefixes.{no_name}
use Rattle.goals.proofs.parts.called.Goals as goal

pub returns-in_default : goal.returns-in_default
returns-in_default c =
    let n = c.next_token-token in
    λ V i x v k. ap (run V i (bounds x v k)) n.ensures.there ∙ no_name V i x v k n.result.kind n.result.place (tokens_in n.result.rest) c.in_default.not-Name
