use Rattle.std.proofs.Common.{sym, ap, is_some, ◌∙◌, arith, length-set}
use Rattle.registers.specs.Lawfulness.{list_lawful}
use Rattle.registers.proofs.Laws.{put_outside, put_held, put_full, put-room}
use Rattle.registers.proofs.RecordSteps.{found, list_bounded, list_has, list_size, list_limit, put_count, put-after}
use Rattle.registers.proofs.record_list.RecordListRegister.put.Goals as goal

pub returns-then-not-in_bounds : goal.returns-then-not-in_bounds
returns-then-not-in_bounds c =
    let p = put_outside _ c.args.fact (sym c.if-not-in_bounds.ensures) in
    record { answer = p.answer; after = p.after; lawful = list_lawful _ _ c.args.self.now.few c.args.self.now.apart c.args.self.now.bounded }

pub returns-then-is_some : goal.returns-then-is_some
returns-then-is_some c =
    let there = sym (found c.args.fact _) ∙ (sym (ap is_some c.place.ensures) ∙ sym c.if-is_some.ensures) in
    let p = put_held _ c.args.fact (sym c.if-not-in_bounds.ensures) (list_has _ _ c.args.fact ∙ there) in
    record { answer = p.answer; after = p.after; lawful = list_lawful _ _ c.args.self.now.few c.args.self.now.apart c.args.self.now.bounded }

pub returns-then-self-room : goal.returns-then-self-room
returns-then-self-room c =
    let table = c.args.self.now.table.now in
    let len = c.args.self.now.len in
    let absent = sym (found c.args.fact _) ∙ (sym (ap is_some c.place.ensures) ∙ sym c.if-is_some.ensures) in
    let p = put_full _ c.args.fact (sym c.if-not-in_bounds.ensures) (list_has table len c.args.fact ∙ absent)
    (omega (arith, c.if-self-room.true, c.room.ensures, list_size table len c.args.self.now.apart, list_limit table len)) in
    record { answer = p.answer; after = p.after; lawful = list_lawful _ _ c.args.self.now.few c.args.self.now.apart c.args.self.now.bounded }

pub invariant_of-self : goal.invariant_of-self
invariant_of-self c =
    let absent = sym (found c.args.fact _) ∙ (sym (ap is_some c.place.ensures) ∙ sym c.if-is_some.ensures) in
    let apart = put_count _ _ c.args.fact c.args.self.now.few c.args.self.now.apart (omega arith) (sym c.if-not-in_bounds.ensures) absent in
    record {
      few = omega (arith, length-set c.args.self.now.table.now c.args.self.now.len c.args.fact);
      apart = apart;
      bounded = list_bounded _ _ (omega (arith, length-set c.args.self.now.table.now c.args.self.now.len c.args.fact)) apart;
    }

pub returns : goal.returns
returns c =
    let table = c.args.self.now.table.now in
    let len = c.args.self.now.len in
    let p = put-room _ c.args.fact (sym c.if-not-in_bounds.ensures)
    (omega (arith, c.room.ensures, list_size table len c.args.self.now.apart, list_limit table len)) in
    record {
      answer = p.answer;
      after = put-after table len c.args.fact c.args.self.now.few c.args.self.now.apart (omega arith) ∙ p.after;
      lawful = list_lawful _ _ c.args.self.now.few c.args.self.now.apart c.args.self.now.bounded;
    }
