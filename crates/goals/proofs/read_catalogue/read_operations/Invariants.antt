use Rattle.std.proofs.Common.{◌≡◌, ◌+◌, ◌-◌, ◌*◌, ◌≤◌, true, ◌++◌, map, vec_items, vec_len, vec_capacity}
use Rattle.goals.specs.Sections.{operations_from}
use Rattle.goals.specs.CatalogueMeaning.{operations_of, sound_operations}
use Rattle.goals.specs.EntryReading.{known}
use Rattle.goals.specs.EntryBounds.{operations_inside}
use Rattle.goals.specs.Entries.{operation_text}
use Rattle.goals.proofs.read_catalogue.read_operations.Given as goal

-- the operations read so far are sound, and with those left they are those of the file
abbrev pub invariant-loop-k : goal.invariant-loop-k
invariant-loop-k l = record {
  texts : operations_of l.reader.file.now l.fn.frame ≡ map operation_text (vec_items l.operations) ++ operations_from l.reader.file.now (l.fn.frame.operations - l.k) l.at;
  sound : sound_operations l.reader.ids (known l.reader) (map operation_text (vec_items l.operations)) ≡ true;
  inside : operations_inside l.reader.ids (vec_items l.operations) ≡ true;
  count : vec_len l.operations ≡ l.k;
  room : 64 ≤ vec_capacity l.operations;
  near : l.at ≤ l.fn.frame.operations_at + 2301 * l.k;
}
