-- What a framed file says of its goal: the text, the words that it may use, and what reading it comes to.
-- The words are those of the file's own catalogue.
use Rattle.std.specs.Prelude.{ℕ, suc, Bool, cond, List, [], ◌∷◌}
use Rattle.std.specs.Str.{bytes_eq}
use Rattle.goals.specs.declared.frame.Frame.{Frame}
use Rattle.goals.specs.Sections.{PredicateText, bytes_at}
use Rattle.goals.specs.CatalogueMeaning.{predicates_of, operations_of, sound_operations}
use Rattle.goals.specs.Vocabulary.{Vocabulary, Found, missing, found, places_of}
use Rattle.goals.specs.Reading.{Outcome, reads}

abbrev pub goal_text : List ℕ → Frame → List ℕ
goal_text file f = bytes_at file f.goal_length f.goal_at

-- the first predicate with this name, where the first of the list has the number i
unfoldable pub find_text : ℕ → List PredicateText → List ℕ → Found
find_text i [] b = missing
find_text i (p ∷ ps) b = cond (bytes_eq p.name b) (found i (places_of p.places)) (find_text (suc i) ps b)

abbrev pub words_from : ℕ → List PredicateText → Vocabulary
words_from n ps = record { ids = n; lookup = find_text 0 ps }

abbrev pub words_of : List ℕ → Frame → Vocabulary
words_of file f = words_from f.ids (predicates_of file f)

abbrev pub goal_outcome : List ℕ → Frame → Outcome
goal_outcome file f = reads (words_of file f) (goal_text file f)

-- every operation keeps its rules
abbrev pub operations_sound : List ℕ → Frame → Bool
operations_sound file f = sound_operations f.ids (predicates_of file f) (operations_of file f)
