use Rattle.std.proofs.Common.{◌≡◌, ◌-◌, length, take, sym, ap, ◌∙◌, arith, length-take-le}
use Rattle.registers.proofs.Members.{listed_as}
use Rattle.registers.proofs.RecordSteps.{list_has, list_size}
use Rattle.registers.proofs.record_list.RecordList.records.Goals as goal

pub returns : goal.returns
returns c =
    let len = c.args.self.now.len in
    let table = c.args.self.now.table.now in
    let e : len - 0 ≡ len = omega arith in
    record {
      each = λ f. ap (λ n. listed_as (take n table) f) e ∙ sym (list_has table len f);
      once = ap (λ n. length (take n table)) e ∙ (length-take-le len table (omega arith) ∙ list_size table len c.args.self.now.apart);
    }
