-- An index of a table of parts by chains: parts of one bucket are linked, each to the one before it.
-- A link is the place of a part; where there is none a chain ends.
use Rattle.std.specs.Prelude.{◌≡◌, ℕ, suc, ◌+◌, ◌*◌, ◌%◌, ◌<◌, List, length, Some, None, Option, slice_index_or}
use Rattle.goals.specs.declared.time.Span.{Span}
use Rattle.labels.specs.declared.part.Part.{Part}
use Rattle.labels.specs.declared.part.Part.TheVariants.{True, False, Pending, Not, And, Or}

-- a number for an upper end
abbrev pub end_number : Option Span → ℕ
end_number (Some n) = n.hours
end_number None = 10001

-- the bucket of a part
unfoldable pub bucket : Part → ℕ
bucket True = 0
bucket False = 1
bucket (Pending n b e) = (n % 1024 * 7 + b.outer * 31 + b.inner * 57 + e.lower.hours * 3 + end_number e.upper) % 1024
bucket (Not x) = (x % 4096 * 3 + 2) % 1024
bucket (And x y) = (x % 4096 * 37 + y % 4096 * 102 + 3) % 1024
bucket (Or x y) = (x % 4096 * 41 + y % 4096 * 94 + 4) % 1024

abbrev pub bucket_at : List Part → ℕ → ℕ
bucket_at table k = bucket (slice_index_or table k True)

-- how many parts stand up to the one linked to
abbrev pub reach : Option ℕ → ℕ
reach (Some k) = suc k
reach None = 0

-- the head of a bucket is no earlier than any of its parts
abbrev pub Latest : List Part → List (Option ℕ) → Type 0
Latest table heads = (k : ℕ) → k < length table → k < reach (slice_index_or heads (bucket_at table k) None)

-- the part linked to another is no earlier than any part before that one in its bucket
abbrev pub Linked : List Part → List (Option ℕ) → Type 0
Linked table next =
    (j k : ℕ) → (k < j) × (j < length table) × (bucket_at table k ≡ bucket_at table j) → k < reach (slice_index_or next j None)

-- the head of a bucket is a part of the table, and of that bucket
abbrev pub Heads : List Part → List (Option ℕ) → Type 0
Heads table heads = (b k : ℕ) → slice_index_or heads b None ≡ Some k → (k < length table) × (bucket_at table k ≡ b)

-- a link goes to a part before, and of the same bucket
abbrev pub Falls : List Part → List (Option ℕ) → Type 0
Falls table next =
    (j k : ℕ) → (j < length table) × (slice_index_or next j None ≡ Some k) → (k < j) × (bucket_at table k ≡ bucket_at table j)
