-- What an operation in memory says, written out as the bytes of a file: terms, entries and operations.
-- So a catalogue that was read is pinned by the bytes that it was read from.
use Rattle.std.specs.Prelude.{ℕ, ◌+◌, cond, List, map, take}
use Rattle.goals.specs.declared.predicate.Predicate.{Predicate}
use Rattle.goals.specs.declared.operation.EntryTerm.{EntryTerm}
use Rattle.goals.specs.declared.operation.EntryTerm.TheVariants.{Id, Parameter}
use Rattle.goals.specs.declared.operation.Entry.{Entry}
use Rattle.goals.specs.declared.operation.Entries.{Entries}
use Rattle.goals.specs.declared.operation.Operation.{Operation}
use Rattle.goals.specs.Vocabulary.{name_of}
use Rattle.goals.specs.Sections.{PredicateText, EntryText, OperationText}

abbrev pub predicate_text : Predicate → PredicateText
predicate_text p = record { places = p.places; name = name_of p }

abbrev pub term_byte : EntryTerm → ℕ
term_byte (Id k) = k
term_byte (Parameter k) = 128 + k

abbrev pub entry_text : Entry → EntryText
entry_text e =
    record { predicate = cond e.negated (128 + e.predicate) e.predicate; first = term_byte e.first; second = term_byte e.second }

-- the entries in use
abbrev pub entries_of : Entries → List Entry
entries_of es = take es.count es.items

abbrev pub entry_texts : Entries → List EntryText
entry_texts es = map entry_text (entries_of es)

abbrev pub operation_text : Operation → OperationText
operation_text o =
    record {
      parameters = o.parameters;
      span = o.span.hours;
      needs = entry_texts o.needs;
      takes = entry_texts o.takes;
      puts = entry_texts o.puts;
    }
