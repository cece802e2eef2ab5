use Rattle.std.proofs.Common.{rules, ◌∙◌}
use Rattle.std.proofs.lemmas.Iterator.Search.{all_from_yields_List}
use Rattle.registers.specs.Meaning.{allowed}
use Rattle.registers.proofs.FactSteps.{facts-whole}
use Rattle.registers.proofs.ListLaws.{all_allowed-all}
use Rattle.registers.proofs.put_all.all_in_bounds.Goals as goal

pub returns : goal.returns
returns g c =
    all_from_yields_List allowed c.all.new.self _ _ c.all.ensures.ran
    (facts-whole g.L.FactList.listed c.facts.result _ c.facts.ensures.list c.facts.ensures.start)
    (λ x b q k. search rules)
    ∙ all_allowed-all (g.L.FactList.listed c.args.list.now)
