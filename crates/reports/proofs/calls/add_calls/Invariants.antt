use Rattle.std.proofs.Common.{◌≡◌, ◌+◌, ◌*◌, ◌≤◌, ◌++◌, map, drop, vec_items, vec_len, vec_capacity}
use Rattle.reports.specs.FileSteps.{step_lines, report_lines}
use Rattle.reports.proofs.Adding.{step_of}
use Rattle.reports.proofs.calls.add_calls.Given as goal

-- the steps left complete the calls
abbrev pub invariant-loop-bytes : goal.invariant-loop-bytes
invariant-loop-bytes l =
    record {
      calls : report_lines (map step_of l.steps) ≡ vec_items l.lines ++ step_lines (map step_of (drop l.bytes-index l.steps));
      count : vec_len l.lines ≡ 1 + 2 * l.bytes-index;
      room : 20001 ≤ vec_capacity l.lines;
    }
