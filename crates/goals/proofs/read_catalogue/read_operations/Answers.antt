use Rattle.std.proofs.Common.{◌≡◌, Some, arith, rules}
use Rattle.std.proofs.lemmas.List.{append-nil}
use Rattle.std.proofs.lemmas.Result.{err_from_is_err_and}
use Rattle.goals.proofs.BoundSteps.{all-push}
use Rattle.goals.proofs.OperationSteps.{rest-none, operations_table_more, operations-test-more, operation-at-fault}
use Rattle.goals.proofs.read_catalogue.read_operations.Goals as goal

pub returns-in_err-operation : goal.returns-in_err-operation
returns-in_err-operation c =
    let p = err_from_is_err_and c.from_residual.result c.from_residual.ensures.1 in
    rw (p.1, p.2) (search (rules, operation-at-fault))

pub loop-k-preserved : goal.loop-k-preserved
loop-k-preserved c =
    let some : c.read.result ≡ Some c.in_ok-operation.operation = c.in_ok-operation.ensures.ok_part in
    let says = rw some at c.read.ensures in
    record {
      texts = search (rules, operations_table_more);
      sound = search (rules, operations-test-more);
      inside = search (rules, all-push);
      count = omega arith;
      room = omega arith;
      near = omega arith;
    }

pub returns : goal.returns
returns c = grind (arith, rest-none, append-nil)
