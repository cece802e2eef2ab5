use Rattle.std.proofs.Common.{rules, ◌∙◌}
use Rattle.std.proofs.lemmas.Iterator.Search.{all_from_yields_List}
use Rattle.registers.proofs.FactSteps.{facts-whole}
use Rattle.goals.specs.declared.frame.FramedFile.{FramedFile}
use Rattle.goals.specs.Filling.{facts_of, declared}
use Rattle.goals.proofs.FillSteps.{all_declared-all}
use Rattle.goals.proofs.put_facts.all_declared.Goals as goal

pub returns : goal.returns
returns c =
    let file = c.args.file.bytes.now in
    let frame = c.args.file.frame in
    all_from_yields_List (declared file frame) c.all.new.self _ _ c.all.ensures.ran
    (facts-whole (λ (s : FramedFile). facts_of s.bytes.now s.frame) c.facts.result _ c.facts.ensures.list c.facts.ensures.start)
    (λ x b q k. search rules)
    ∙ all_declared-all file frame (facts_of file frame)
