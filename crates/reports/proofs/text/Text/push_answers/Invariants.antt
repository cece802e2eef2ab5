use Rattle.std.proofs.Common.{◌≡◌, ◌+◌, ◌*◌, ◌≤◌, ◌++◌, length, drop}
use Rattle.reports.specs.Told.{told_text, told_end}
use Rattle.reports.proofs.text.Text.push_answers.Given as goal

-- the lines left complete the text, and end as all of them do
abbrev pub invariant-loop-line : goal.invariant-loop-line
invariant-loop-line l =
    record {
      text : l.initial.self ++ told_text l.lines ≡ l.self ++ told_text (drop l.line-index l.lines);
      end : told_end l.lines ≡ told_end (drop l.line-index l.lines);
      room : length l.self ≤ length l.initial.self + 70 * l.line-index;
    }
