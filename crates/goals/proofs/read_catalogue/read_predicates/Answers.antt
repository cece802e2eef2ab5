use Rattle.std.proofs.Common.{◌≡◌, ℕ, Bool, List, map, vec_items, Some, arith, rules, refl, sym, ◌∙◌, ap₂}
use Rattle.std.specs.List.{list_any}
use Rattle.std.specs.Str.{bytes_eq}
use Rattle.goals.specs.declared.predicate.Predicate.{Predicate}
use Rattle.goals.specs.CatalogueRules.{taken}
use Rattle.goals.specs.Vocabulary.{name_of}
use Rattle.goals.specs.Entries.{predicate_text}
use Rattle.std.proofs.lemmas.List.{append-nil}
use Rattle.std.proofs.lemmas.Result.{err_from_is_err_and}
use Rattle.goals.proofs.PredicateSteps.{taken-map, left_none, sound_none, table_more, test-more, test-taken, test-bad}
use Rattle.goals.proofs.read_catalogue.read_predicates.Goals as goal

-- what the look for the name tells
named_before : (p : Predicate) (ps qs : List Predicate) (b : List ℕ) (v : Bool) → qs ≡ ps → b ≡ name_of p → v ≡ list_any (λ q. bytes_eq (name_of q) b) qs → taken (name_of p) (map predicate_text ps) ≡ v
named_before p ps qs b v eq eb ev = sym (ev ∙ taken-map b qs ∙ ap₂ (λ x xs. taken x (map predicate_text xs)) eb eq)

pub returns-in_err-predicate : goal.returns-in_err-predicate
returns-in_err-predicate c =
    let p = err_from_is_err_and c.from_residual.result c.from_residual.ensures.1 in
    rw (p.1, p.2) (search (rules, test-bad))

pub returns-then-is_taken : goal.returns-then-is_taken
returns-then-is_taken c =
    let some : c.read_predicate.result ≡ Some c.in_ok-predicate.predicate = c.in_ok-predicate.ensures.ok_part in
    let says = rw some at c.read_predicate.ensures in
    let before = named_before c.in_ok-predicate.predicate (vec_items c.loop.predicates) _ _ _ c.deref.ensures.value c.letters.ensures c.if-is_taken.ensures in
    (refl, c.loop.invariant.test ∙ search (rules, test-taken))

pub loop-preserved : goal.loop-preserved
loop-preserved c =
    let some : c.read_predicate.result ≡ Some c.in_ok-predicate.predicate = c.in_ok-predicate.ensures.ok_part in
    let says = rw some at c.read_predicate.ensures in
    let before = named_before c.in_ok-predicate.predicate (vec_items c.loop.predicates) _ _ _ c.deref.ensures.value c.letters.ensures c.if-is_taken.ensures in
    record {
      texts = search (rules, table_more);
      test = search (rules, test-more);
      count = omega arith;
      room = omega arith;
      near = omega arith;
    }

pub returns : goal.returns
returns c = grind (arith, left_none, sound_none, append-nil)
