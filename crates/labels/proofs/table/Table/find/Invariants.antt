use Rattle.std.proofs.Common.{◌≡◌, ℕ, ◌<◌, length, get_or, Some, vec_items}
use Rattle.labels.specs.Chains.{bucket, bucket_at, reach}
use Rattle.labels.specs.declared.part.Part.TheVariants.{True}
use Rattle.labels.proofs.table.Table.find.Given as goal

abbrev pub invariant-loop-link : goal.invariant-loop-link
invariant-loop-link g l =
    ((k : ℕ) → k < length (vec_items l.self.items) → get_or (vec_items l.self.items) k True ≡ l.part → k < reach l.link)
    × ((k : ℕ) → l.link ≡ Some k → (k < length (vec_items l.self.items)) × (bucket_at (vec_items l.self.items) k ≡ bucket l.part))

abbrev pub decreases-loop-link : goal.decreases-loop-link
decreases-loop-link g l = reach l.link
