use Rattle.std.proofs.Common.{sym, ap, ◌∙◌, arith}
use Rattle.reports.specs.FileSteps.{report_lines}
use Rattle.reports.proofs.Adding.{steps-inside, calls-more, calls-all, steps-read}
use Rattle.reports.proofs.calls.add_calls.Goals as goal

pub split_at-requires : goal.split_at-requires
split_at-requires c = omega (arith, (steps-inside c.args.file.now c.unwrap-frame.result (sym c.unwrap-frame.ensures ∙ c.read_frame.ensures)).whole)

pub push_reserved-requires-in-loop-bytes : goal.push_reserved-requires-in-loop-bytes
push_reserved-requires-in-loop-bytes c =
    let inside = steps-inside c.args.file.now c.unwrap-frame.result (sym c.unwrap-frame.ensures ∙ c.read_frame.ensures) in
    omega (arith, inside.short, c.split_at.ensures.back_len, c.as_chunks.ensures.front_len)

pub push_reserved-requires-in-loop-bytes-2 : goal.push_reserved-requires-in-loop-bytes-2
push_reserved-requires-in-loop-bytes-2 c =
    let inside = steps-inside c.args.file.now c.unwrap-frame.result (sym c.unwrap-frame.ensures ∙ c.read_frame.ensures) in
    omega (arith, inside.short, c.split_at.ensures.back_len, c.as_chunks.ensures.front_len)

pub loop-bytes-preserved : goal.loop-bytes-preserved
loop-bytes-preserved c =
    record {
      calls =
          c.loop-bytes.invariant.calls
          ∙ calls-more c.as_chunks.result.0.now c.loop-bytes.bytes-index _ _ _ _ _ _ _ c.loop-bytes-test.true c.step_in.ensures
          c.from-in-loop-bytes.ensures c.from-in-loop-bytes-2.ensures c.push_reserved-in-loop-bytes.ensures.items
          c.push_reserved-in-loop-bytes-2.ensures.items;
      count = omega arith;
      room = omega arith;
    }

pub returns-clause-items : goal.returns-clause-items
returns-clause-items c =
    let inside = steps-inside c.args.file.now c.unwrap-frame.result (sym c.unwrap-frame.ensures ∙ c.read_frame.ensures) in
    sym (c.loop-bytes.invariant.calls ∙ calls-all _ c.loop-bytes.bytes-index _ c.loop-bytes-test.false)
    ∙ ap report_lines (steps-read c.args.file.now c.unwrap-frame.result inside _ _ c.split_at.ensures.back c.as_chunks.ensures.front)

pub returns-clause-few : goal.returns-clause-few
returns-clause-few c =
    let inside = steps-inside c.args.file.now c.unwrap-frame.result (sym c.unwrap-frame.ensures ∙ c.read_frame.ensures) in
    omega (arith, inside.short, c.split_at.ensures.back_len, c.as_chunks.ensures.front_len)
