use Rattle.std.proofs.Common.{rules}
use Rattle.std.proofs.lemmas.List.{length-take-le}
use Rattle.goals.specs.Sections.{entries_at}
use Rattle.goals.specs.EntryBounds.{entries_inside}
use Rattle.goals.proofs.EntrySteps.{entries_too_many, entries-bad, each_more, texts_more}
use Rattle.goals.proofs.BoundSteps.{inside-more}
use Rattle.goals.proofs.read_operation.EntryReader.entries.Goals as goal

pub returns-then-count-gt-MOST_ENTRIES : goal.returns-then-count-gt-MOST_ENTRIES
returns-then-count-gt-MOST_ENTRIES c = search (rules, entries_too_many)

pub loop-k-init : goal.loop-k-init
unfolding entries_at entries_inside
loop-k-init c = search (rules, length-take-le)

pub returns-in_err-item : goal.returns-in_err-item
returns-in_err-item c = rw c.from_residual.ensures (search (rules, entries-bad))

pub loop-k-preserved : goal.loop-k-preserved
loop-k-preserved c = search (rules, texts_more, each_more, inside-more)
