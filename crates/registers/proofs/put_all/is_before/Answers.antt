use Rattle.std.proofs.Common.{rules, take, ap, ◌∙◌}
use Rattle.std.proofs.lemmas.Iterator.{YieldsList-from_take}
use Rattle.std.proofs.lemmas.Iterator.Search.{any_from_yields_List}
use Rattle.registers.specs.Records.{is_record}
use Rattle.registers.proofs.FactSteps.{facts-whole}
use Rattle.registers.proofs.ListLaws.{listed-any}
use Rattle.registers.proofs.put_all.is_before.Goals as goal

pub returns : goal.returns
returns g c =
    any_from_yields_List (is_record c.args.fact) c.any.new.self _ _ c.any.ensures.ran
    (YieldsList-from_take c.args.index
    (facts-whole g.L.FactList.listed c.take.result.iter _
    (ap (λ s. s.list.now) c.take.ensures.source ∙ c.facts.ensures.list)
    (ap (λ s. s.next) c.take.ensures.source ∙ c.facts.ensures.start))
    c.take.ensures.count)
    (λ x b q k. search rules)
    ∙ listed-any c.args.fact (take c.args.index (g.L.FactList.listed c.args.list.now))
