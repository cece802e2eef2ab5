-- When a whole catalogue is sound, and what reading one from a framed file comes to.
-- Several operations may be at fault: which of them is named is free.
use Rattle.std.specs.Prelude.{◌≡◌, ℕ, Bool, false, ◌&&◌, List, [], MatchOption}
use Rattle.std.specs.List.{list_all, slice_get}
use Rattle.goals.specs.declared.frame.Frame.{Frame}
use Rattle.goals.specs.Sections.{PredicateText, OperationText, predicates_from, operations_from}
use Rattle.goals.specs.CatalogueRules.{sound_counts, sound_predicates, sound_operation}

abbrev pub sound_operations : ℕ → List PredicateText → List OperationText → Bool
sound_operations ids ps os = list_all (sound_operation ids ps) os

-- the predicates and operations of a framed file
abbrev pub predicates_of : List ℕ → Frame → List PredicateText
predicates_of file f = predicates_from file f.predicates 14

abbrev pub operations_of : List ℕ → Frame → List OperationText
operations_of file f = operations_from file f.operations f.operations_at

-- the counts, the predicates and their names keep their rules
abbrev pub shape_sound : List ℕ → Frame → Bool
shape_sound file f = sound_counts f.ids f.predicates f.operations && sound_predicates [] (predicates_of file f)

-- the operation with this number breaks a rule
abbrev pub AtFault : ℕ → List PredicateText → List OperationText → ℕ → Type 0
AtFault ids ps os k = MatchOption (slice_get os k) ⊥ (λ o. sound_operation ids ps o ≡ false)
