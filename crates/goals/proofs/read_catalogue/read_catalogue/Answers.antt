use Rattle.std.proofs.Common.{◌≡◌, [], map, vec_items, vec_len, sym, ap, ◌∙◌, ap₂, arith}
use Rattle.std.proofs.lemmas.List.{length-map}
use Rattle.goals.specs.CatalogueRules.{sound_counts, sound_predicates}
use Rattle.goals.specs.CatalogueMeaning.{sound_operations}
use Rattle.goals.specs.Entries.{predicate_text}
use Rattle.goals.proofs.PredicateSteps.{predicates-count}
use Rattle.goals.proofs.BoundSteps.{counts_in_limits_lem}
use Rattle.goals.proofs.OperationSteps.{operations-count}
use Rattle.goals.proofs.read_catalogue.read_catalogue.Goals as goal

pub invariant_of-reader : goal.invariant_of-reader
invariant_of-reader c =
    let limits = counts_in_limits_lem c.args.file.frame.ids c.args.file.frame.predicates c.args.file.frame.operations (sym c.if-not-counts_in_limits.ensures) in
    grind (arith, length-map, predicates-count)

pub invariant_of-result : goal.invariant_of-result
invariant_of-result c =
    let ps = c.read_predicates.new.predicates in
    let os = c.read_operations.new.operations in
    let p = c.in_ok-read_predicates.ensures in
    let o = rw c.deref.ensures.value at c.in_ok-read_operations.ensures in
    let np : vec_len ps ≡ c.args.file.frame.predicates
    = grind (arith, length-map, predicates-count) in
    let no : vec_len os ≡ c.args.file.frame.operations
    = grind (arith, length-map, operations-count) in
    record {
      counts = ap₂ (sound_counts c.args.file.frame.ids) np no ∙ sym c.if-not-counts_in_limits.ensures;
      names = ap (sound_predicates []) p.0 ∙ p.1;
      rules = ap (sound_operations c.args.file.frame.ids (map predicate_text (vec_items ps))) o.0 ∙ o.1;
      bounds = o.2;
    }
