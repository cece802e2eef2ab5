-- Operations that keep within a catalogue's bounds: at most three parameters, a span of at most 1,000 hours, and in each
-- entry a predicate below 16 and terms that are ids below N or parameters that the operation has.
use Rattle.std.specs.Prelude.{◌≡◌, ℕ, Bool, true, ◌&&◌, List, nat_le, nat_lt}
use Rattle.std.specs.List.{list_all}
use Rattle.goals.specs.declared.operation.EntryTerm.{EntryTerm}
use Rattle.goals.specs.declared.operation.EntryTerm.TheVariants.{Id, Parameter}
use Rattle.goals.specs.declared.operation.Entry.{Entry}
use Rattle.goals.specs.declared.operation.Operation.{Operation}
use Rattle.goals.specs.Entries.{entries_of}

abbrev pub term_inside : ℕ → ℕ → EntryTerm → Bool
term_inside ids parameters (Id k) = nat_lt k ids
term_inside ids parameters (Parameter k) = nat_lt k parameters

abbrev pub entry_inside : ℕ → ℕ → Entry → Bool
entry_inside ids parameters e =
    nat_lt e.predicate 16 && (term_inside ids parameters e.first && term_inside ids parameters e.second)

unfoldable pub entries_inside : ℕ → ℕ → List Entry → Bool
entries_inside ids parameters es = list_all (entry_inside ids parameters) es

unfoldable pub operation_inside : ℕ → Operation → Bool
operation_inside ids o =
    nat_le o.parameters 3
    && (nat_le o.span.hours 1000
    && (entries_inside ids o.parameters (entries_of o.needs)
    && (entries_inside ids o.parameters (entries_of o.takes)
    && entries_inside ids o.parameters (entries_of o.puts))))

abbrev pub Inside : ℕ → Operation → Type 0
Inside ids o = operation_inside ids o ≡ true

abbrev pub operations_inside : ℕ → List Operation → Bool
operations_inside ids os = list_all (operation_inside ids) os
