-- "Not", "and" and "or" of labels, simplified by the first rule that fits.
-- A quantifier joins the labels of the ids in its range, in rising order, to the right of its start.
use Rattle.std.specs.Prelude.{ℕ, zero, suc, Bool, true, false, cond, ◌||◌}
use Rattle.labels.specs.Labels.{Label, true_label, false_label, pending, not_label, and_label, or_label}
use Rattle.labels.specs.Same.{same}

unfoldable pub negate : Label → Label
negate true_label = false_label
negate false_label = true_label
negate (pending n b e) = not_label (pending n b e)
negate (not_label q) = q
negate (and_label q r) = not_label (and_label q r)
negate (or_label q r) = not_label (or_label q r)

unfoldable pub conjoin : Label → Label → Label
conjoin q r =
    cond (same q false_label || same r false_label) false_label
    (cond (same q true_label) r
    (cond (same r true_label || same q r) q (and_label q r)))

unfoldable pub disjoin : Label → Label → Label
disjoin q r =
    cond (same q true_label || same r true_label) true_label
    (cond (same q false_label) r
    (cond (same r false_label || same q r) q (or_label q r)))

-- the running result over the ids below n
unfoldable pub joined : (Label → Label → Label) → Label → (ℕ → Bool) → (ℕ → Label) → ℕ → Label
joined join start range item zero = start
joined join start range item (suc n) =
    let before : Label = joined join start range item n in
    elim (range n) [ true ↦ join before (item n) | false ↦ before ]
