use Rattle.std.proofs.Common.{◌≡◌, true, map, length, take}
use Rattle.goals.specs.Sections.{entries_at}
use Rattle.goals.specs.EntryBounds.{entries_inside}
use Rattle.goals.specs.CatalogueRules.{sound_each}
use Rattle.goals.specs.EntryReading.{known}
use Rattle.goals.specs.Entries.{entry_text}
use Rattle.goals.proofs.read_operation.EntryReader.entries.Given as goal

-- the entries read so far are those of the file, sound and within the bounds
abbrev pub invariant-loop-k : goal.invariant-loop-k
invariant-loop-k l = record {
  texts : map entry_text (take l.k l.item-items) ≡ entries_at l.self.operations.file.now l.k l.at;
  sound : sound_each l.self.needs l.self.operations.ids (known l.self.operations) l.self.parameters (entries_at l.self.operations.file.now l.k l.at) ≡ true;
  whole : length l.item-items ≡ l.count;
  inside : entries_inside l.self.operations.ids l.self.parameters (take l.k l.item-items) ≡ true;
}
