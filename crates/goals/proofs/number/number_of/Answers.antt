use Rattle.std.proofs.Common.{◌≡◌, ◌∙◌, rules}
use Rattle.std.proofs.iter.runs.Made.{chains}
use Rattle.std.specs.List.{fold}
use Rattle.goals.proofs.Finding.{digit, digits_folded}
use Rattle.goals.proofs.number.number_of.Goals as goal

pub returns : goal.returns
returns c = let e : c.fold.result ≡ fold digit 0 c.args.digits.now = search (rules, chains) in e ∙ digits_folded c.args.digits.now
