use Rattle.std.proofs.Common.{sym, ◌∙◌, arith}
use Rattle.std.proofs.lemmas.Bool.{le-leb}
use Rattle.registers.specs.Meaning.{including_all}
use Rattle.registers.proofs.Laws.{size-all}
use Rattle.registers.proofs.ListLaws.{size-all_le}
use Rattle.registers.proofs.put_all.has_room.Goals as goal

pub returns-then-limit-ge-ALL_FACTS : goal.returns-then-limit-ge-ALL_FACTS
returns-then-limit-ge-ALL_FACTS g c =
    let m = g.R.Register.meaning c.args.register.now in
    let fs = g.L.FactList.listed c.args.list.now in
    sym (le-leb _ _ (omega (arith, size-all (including_all m fs), c.limit-limit.ensures.answer, c.if-limit-ge-ALL_FACTS.true)))

pub returns-then-count-free : goal.returns-then-count-free
returns-then-count-free g c =
    let m = g.R.Register.meaning c.args.register.now in
    let fs = g.L.FactList.listed c.args.list.now in
    let w = (g.met.R.Register.lawful c.args.register.now).within in
    le-leb _ _ c.if-count-free.true
    ∙ sym (le-leb _ _ (omega (arith, size-all_le m fs, c.if-count-free.true, c.count.ensures, c.limit-limit.ensures.answer, c.size.ensures.answer, w)))
