-- What reading a term, an entry, entries, an operation and all operations comes to: nothing or a fault if a rule is broken,
-- else what the bytes say, with its numbers within the bounds of the catalogue.
use Rattle.std.specs.Prelude.{◌≡◌, ℕ, Bool, true, false, List, map, Option, Some, None, Result, Ok, Err}
use Rattle.goals.specs.declared.frame.Frame.{Frame}
use Rattle.goals.specs.declared.catalogue_fault.CatalogueFault.{CatalogueFault}
use Rattle.goals.specs.declared.catalogue_fault.CatalogueFault.TheVariants.{Shape, Operation as at_fault}
use Rattle.goals.specs.declared.operation.Entries.{Entries}
use Rattle.goals.specs.declared.operation.Entry.{Entry}
use Rattle.goals.specs.declared.operation.EntryTerm.{EntryTerm}
use Rattle.goals.specs.declared.operation.Operation.{Operation}
use Rattle.goals.specs.declared.read_operation.EntryReader.{EntryReader}
use Rattle.goals.specs.declared.read_operation.OperationReader.{OperationReader}
use Rattle.goals.specs.Sections.{PredicateText, EntryText, OperationText, entry_at, entries_at, operation_at}
use Rattle.goals.specs.CatalogueRules.{sound_term, sound_entry, sound_entries, sound_operation}
use Rattle.goals.specs.CatalogueMeaning.{operations_of, sound_operations, AtFault}
use Rattle.goals.specs.Entries.{entries_of, predicate_text, term_byte, entry_text, entry_texts, operation_text}
use Rattle.goals.specs.EntryBounds.{term_inside, entry_inside, entries_inside, operation_inside, operations_inside}

-- the predicates that a reader knows
abbrev pub known : OperationReader → List PredicateText
known r = map predicate_text r.predicates.now

abbrev pub term_test : EntryReader → Bool → ℕ → Bool
term_test r used b = sound_term used r.operations.ids r.parameters b

abbrev pub TermSays : EntryReader → Bool → ℕ → Option EntryTerm → Type 0
TermSays r used b None = term_test r used b ≡ false
TermSays r used b (Some t) = (term_byte t ≡ b) × (term_test r used b ≡ true) × (term_inside r.operations.ids r.parameters t ≡ true)

abbrev pub entry_test : EntryReader → EntryText → Bool
entry_test r e = sound_entry r.needs r.operations.ids (known r.operations) r.parameters e

abbrev pub EntrySays : EntryReader → ℕ → Option Entry → Type 0
EntrySays r at None = entry_test r (entry_at r.operations.file.now at) ≡ false
EntrySays r at (Some e) =
    (entry_text e ≡ entry_at r.operations.file.now at)
    × (entry_test r (entry_at r.operations.file.now at) ≡ true)
    × (entry_inside r.operations.ids r.parameters e ≡ true)

abbrev pub entries_test : EntryReader → List EntryText → Bool
entries_test r es = sound_entries r.needs r.operations.ids (known r.operations) r.parameters es

abbrev pub EntriesSay : EntryReader → ℕ → ℕ → Option Entries → Type 0
EntriesSay r n at None = entries_test r (entries_at r.operations.file.now n at) ≡ false
EntriesSay r n at (Some es) =
    (entry_texts es ≡ entries_at r.operations.file.now n at)
    × (entries_test r (entries_at r.operations.file.now n at) ≡ true)
    × (entries_inside r.operations.ids r.parameters (entries_of es) ≡ true)

abbrev pub operation_test : OperationReader → OperationText → Bool
operation_test r o = sound_operation r.ids (known r) o

abbrev pub OperationSays : OperationReader → ℕ → Option Operation → Type 0
OperationSays r at None = operation_test r (operation_at r.file.now at) ≡ false
OperationSays r at (Some o) =
    (operation_text o ≡ operation_at r.file.now at)
    × (operation_test r (operation_at r.file.now at) ≡ true)
    × (operation_inside r.ids o ≡ true)

-- the operations of a framed file, read into a list that was empty
abbrev pub OperationsSay : OperationReader → Frame → List Operation → Result (Unit {0}) CatalogueFault → Type 0
OperationsSay r f os (Ok u) =
    (map operation_text os ≡ operations_of r.file.now f)
    × (sound_operations r.ids (known r) (operations_of r.file.now f) ≡ true)
    × (operations_inside r.ids os ≡ true)
OperationsSay r f os (Err Shape) = ⊥
OperationsSay r f os (Err (at_fault k)) = AtFault r.ids (known r) (operations_of r.file.now f) k
