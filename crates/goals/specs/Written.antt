-- An edition as it is written: its parts, and the bytes of the file that they make.
-- The frame of a file is accepted exactly if the file is some edition's bytes, at most 40,000 of them.
use Rattle.std.specs.Prelude.{◌≡◌, ℕ, zero, suc, ◌+◌, ◌/◌, ◌%◌, ◌<◌, ◌≤◌, List, [], ◌∷◌, ◌++◌, length, Ok}
use Rattle.std.specs.List.{flat_map}
use Rattle.registers.specs.declared.fact.Fact.{Fact}
use Rattle.goals.specs.declared.frame.Frame.{Frame}
use Rattle.goals.specs.Bytes.{byte_at}
use Rattle.goals.specs.Frame.{framed}
use Rattle.goals.specs.Filling.{facts_of}
use Rattle.goals.specs.Sections.{PredicateText, EntryText, OperationText, bytes_at, predicates_from, operations_from}

-- a step: an operation and three arguments
pub record StepText : Type 0 where
  pub operation : ℕ
  pub first : ℕ
  pub second : ℕ
  pub third : ℕ

abbrev pub step_at : List ℕ → ℕ → StepText
step_at file at =
    record { operation = byte_at file at; first = byte_at file (at + 1); second = byte_at file (at + 2); third = byte_at file (at + 3) }

-- n steps, one behind the other
unfoldable pub steps_from : List ℕ → ℕ → ℕ → List StepText
steps_from file zero at = []
steps_from file (suc n) at = step_at file at ∷ steps_from file n (at + 4)

pub record Edition : Type 0 where
  pub ids : ℕ
  pub predicates : List PredicateText
  pub operations : List OperationText
  pub facts : List Fact
  pub goal : List ℕ
  pub steps : List StepText

-- a number in two bytes, the high byte first
abbrev pub two : ℕ → List ℕ
two n = (n / 256) ∷ (n % 256) ∷ []

abbrev pub predicate_bytes : PredicateText → List ℕ
predicate_bytes p = p.places ∷ length p.name ∷ p.name

abbrev pub entry_bytes : EntryText → List ℕ
entry_bytes e = e.predicate ∷ e.first ∷ e.second ∷ []

abbrev pub operation_bytes : OperationText → List ℕ
operation_bytes o =
    (o.parameters ∷ (o.span / 256) ∷ (o.span % 256) ∷ length o.needs ∷ length o.takes ∷ length o.puts ∷ [])
    ++ (flat_map entry_bytes o.needs ++ (flat_map entry_bytes o.takes ++ flat_map entry_bytes o.puts))

abbrev pub fact_bytes : Fact → List ℕ
fact_bytes f = f.predicate ∷ f.first ∷ f.second ∷ []

abbrev pub step_bytes : StepText → List ℕ
step_bytes s = s.operation ∷ s.first ∷ s.second ∷ s.third ∷ []

-- the mark, the version and the counts
abbrev pub head_bytes : Edition → List ℕ
head_bytes e =
    (69 ∷ 68 ∷ 80 ∷ 0 ∷ 1 ∷ e.ids ∷ length e.predicates ∷ length e.operations ∷ [])
    ++ (two (length e.facts) ++ (two (length e.goal) ++ two (length e.steps)))

unfoldable pub edition_bytes : Edition → List ℕ
edition_bytes e =
    head_bytes e
    ++ (flat_map predicate_bytes e.predicates
    ++ (flat_map operation_bytes e.operations
    ++ (flat_map fact_bytes e.facts ++ (e.goal ++ flat_map step_bytes e.steps))))

-- what a framed file says
abbrev pub edition_of : List ℕ → Frame → Edition
edition_of file f =
    record {
      ids = f.ids;
      predicates = predicates_from file f.predicates 14;
      operations = operations_from file f.operations f.operations_at;
      facts = facts_of file f;
      goal = bytes_at file f.goal_length f.goal_at;
      steps = steps_from file f.steps f.steps_at;
    }

-- every element is a byte
abbrev pub ByteList : List ℕ → Type 0
ByteList file = (k : ℕ) → byte_at file k < 256

-- an accepted file is, byte for byte, what it says, written out again, and no longer than 40,000 bytes
abbrev pub FrameIsWhole : Type 0
FrameIsWhole = (file : List ℕ) (f : Frame) → ByteList file → Ok f ≡ framed file → (edition_bytes (edition_of file f) ≡ file) × (length file ≤ 40000)

-- and every edition, written out, is accepted unless it is too long, and says just that edition
abbrev pub EditionsAreFramed : Type 0
EditionsAreFramed =
    (e : Edition) → length (edition_bytes e) ≤ 40000 →
    (f : Frame) × (Ok f ≡ framed (edition_bytes e)) × (edition_of (edition_bytes e) f ≡ e)
