use Rattle.std.proofs.Common.{drop, sym, ap, ◌∙◌}
use Rattle.registers.specs.Meaning.{including_all, all_allowed}
use Rattle.registers.proofs.ListLaws.{including-none, put-next}
use Rattle.registers.proofs.put_all.put_each.Goals as goal

pub loop-fact-preserved : goal.loop-fact-preserved
loop-fact-preserved g c =
    let m = g.R.Register.meaning c.args.register.now in
    let n = g.R.Register.meaning c.loop-fact.register in
    let left = c.in-Some.ensures.steps in
    let put = put-next m n _ _ c.in-Some.fact c.requires.room (sym (ap (including_all n) left) ∙ c.loop-fact.invariant.0) (sym (ap all_allowed left) ∙ c.loop-fact.invariant.1) in
    (ap (λ t. including_all t (drop c.next.new.self.next (g.L.FactList.listed c.next.new.self.list.now))) c.put.ensures.after ∙ put.0, put.1)

pub returns : goal.returns
returns g c =
    let n = g.R.Register.meaning c.loop-fact.register in
    sym (including-none n) ∙ (sym (ap (including_all n) c.in-None.ensures.steps.0) ∙ c.loop-fact.invariant.0)
