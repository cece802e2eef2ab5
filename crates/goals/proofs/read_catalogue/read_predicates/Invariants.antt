use Rattle.std.proofs.Common.{◌≡◌, ◌+◌, ◌-◌, ◌*◌, ◌≤◌, [], ◌++◌, map, vec_items, vec_len, vec_capacity}
use Rattle.goals.specs.Sections.{predicates_from}
use Rattle.goals.specs.CatalogueRules.{sound_predicates}
use Rattle.goals.specs.Entries.{predicate_text}
use Rattle.goals.proofs.read_catalogue.read_predicates.Given as goal

-- the predicates read so far and those left are those of the file, and what is left to test decides
abbrev pub invariant-loop : goal.invariant-loop
invariant-loop l = record {
  texts : predicates_from l.file l.count 14 ≡ map predicate_text (vec_items l.predicates) ++ predicates_from l.file (l.count - l.counter) l.at;
  test : sound_predicates [] (predicates_from l.file l.count 14) ≡ sound_predicates (map predicate_text (vec_items l.predicates)) (predicates_from l.file (l.count - l.counter) l.at);
  count : vec_len l.predicates ≡ l.counter;
  room : 16 ≤ vec_capacity l.predicates;
  near : l.at ≤ 14 + 257 * l.counter;
}
