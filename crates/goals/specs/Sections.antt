-- What the sections of an edition file say, as numbers and lists of bytes: predicates, operations and their entries.
-- Nothing is judged here; a byte past the end counts as 0.
use Rattle.std.specs.Prelude.{ℕ, zero, suc, ◌+◌, ◌*◌, List, [], ◌∷◌}
use Rattle.goals.specs.Bytes.{byte_at, word_at}

-- n bytes from a place on
unfoldable pub bytes_at : List ℕ → ℕ → ℕ → List ℕ
bytes_at file zero at = []
bytes_at file (suc n) at = byte_at file at ∷ bytes_at file n (at + 1)

pub record PredicateText : Type 0 where
  pub places : ℕ
  pub name : List ℕ

abbrev pub predicate_at : List ℕ → ℕ → PredicateText
predicate_at file at = record { places = byte_at file at; name = bytes_at file (byte_at file (at + 1)) (at + 2) }

-- n predicates, one behind the other
unfoldable pub predicates_from : List ℕ → ℕ → ℕ → List PredicateText
predicates_from file zero at = []
predicates_from file (suc n) at = predicate_at file at ∷ predicates_from file n (at + 2 + byte_at file (at + 1))

-- an entry of an operation: the predicate's byte and two term bytes
pub record EntryText : Type 0 where
  pub predicate : ℕ
  pub first : ℕ
  pub second : ℕ

abbrev pub entry_at : List ℕ → ℕ → EntryText
entry_at file at = record { predicate = byte_at file at; first = byte_at file (at + 1); second = byte_at file (at + 2) }

unfoldable pub entries_at : List ℕ → ℕ → ℕ → List EntryText
entries_at file zero at = []
entries_at file (suc n) at = entry_at file at ∷ entries_at file n (at + 3)

pub record OperationText : Type 0 where
  pub parameters : ℕ
  pub span : ℕ
  pub needs : List EntryText
  pub takes : List EntryText
  pub puts : List EntryText

abbrev pub operation_at : List ℕ → ℕ → OperationText
operation_at file at =
    record {
      parameters = byte_at file at;
      span = word_at file (at + 1);
      needs = entries_at file (byte_at file (at + 3)) (at + 6);
      takes = entries_at file (byte_at file (at + 4)) (at + 6 + 3 * byte_at file (at + 3));
      puts = entries_at file (byte_at file (at + 5)) (at + 6 + 3 * byte_at file (at + 3) + 3 * byte_at file (at + 4));
    }

unfoldable pub operations_from : List ℕ → ℕ → ℕ → List OperationText
operations_from file zero at = []
operations_from file (suc n) at =
    operation_at file at
    ∷ operations_from file n (at + 6 + 3 * (byte_at file (at + 3) + byte_at file (at + 4) + byte_at file (at + 5)))
