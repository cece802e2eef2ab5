use Rattle.std.proofs.Common.{[], take, ap, sym, ◌∙◌}
use Rattle.goals.specs.declared.predicate.Predicate.{Predicate}
use Rattle.goals.specs.Vocabulary.{find_from}
use Rattle.goals.proofs.Finding.{find_none, find_first, first_256}
use Rattle.goals.proofs.predicate.find.Goals as goal

-- what stands past the end of a list
abbrev past : Predicate
past = record { places = 0; name = []; length = 0 }

pub returns-in_err-number : goal.returns-in_err-number
returns-in_err-number c =
    rw c.from_residual.ensures
    (ap (λ l. find_from 0 l c.args.name.now) (sym (first_256 c.args.predicates.now c.min.result c.min.ensures))
    ∙ find_none (take c.min.result c.args.predicates.now) c.args.name.now past c.in_err-number.ensures)

pub returns : goal.returns
returns c =
    ap (λ l. find_from 0 l c.args.name.now) (sym (first_256 c.args.predicates.now c.min.result c.min.ensures))
    ∙ (find_first (take c.min.result c.args.predicates.now) c.args.name.now past c.in_ok-number.number c.in_ok-number.ensures).1
