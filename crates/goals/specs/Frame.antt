-- The frame of an edition file: its counts, where each section begins, and whether the bytes end where the last one does.
-- The places follow from the counts as they stand, however absurd; what the sections hold is not judged here.
use Rattle.std.specs.Prelude.{ℕ, zero, suc, ◌+◌, ◌*◌, Bool, cond, ◌&&◌, List, length, Ok, Err, Result, ◌==◌, nat_le, nat_lt}
use Rattle.goals.specs.declared.frame.Frame.{Frame}
use Rattle.goals.specs.declared.file_fault.FrameFault.{FrameFault}
use Rattle.goals.specs.declared.file_fault.FrameFault.TheVariants.{Mark, Length}
use Rattle.goals.specs.Bytes.{byte_at, word_at}

-- the mark, the three letters E, D and P, and the version 1, in the first five bytes
abbrev pub marked : List ℕ → Bool
marked file =
    nat_le 5 (length file) && ((byte_at file 0) == 69 && ((byte_at file 1) == 68 && ((byte_at file 2) == 80 && (word_at file 3) == 1)))

-- where n predicates that begin at a place end: each has its places, the length of its name, and the name
unfoldable pub predicates_end : List ℕ → ℕ → ℕ → ℕ
predicates_end file zero at = at
predicates_end file (suc n) at = predicates_end file n (at + 2 + byte_at file (at + 1))

-- where n operations that begin at a place end: each has its parameters, its span in two bytes, the counts of its needs,
-- takes and puts, and three bytes for each of these
unfoldable pub operations_end : List ℕ → ℕ → ℕ → ℕ
operations_end file zero at = at
operations_end file (suc n) at =
    operations_end file n (at + 6 + 3 * (byte_at file (at + 3) + byte_at file (at + 4) + byte_at file (at + 5)))

-- the counts, and where the sections begin, one behind the other, the first at 14
unfoldable pub frame_of : List ℕ → Frame
frame_of file =
    let operations_start : ℕ = predicates_end file (byte_at file 6) 14 in
    let facts_start : ℕ = operations_end file (byte_at file 7) operations_start in
    let goal_start : ℕ = facts_start + 3 * word_at file 8 in
    let steps_start : ℕ = goal_start + word_at file 10 in
    record {
      ids = byte_at file 5;
      predicates = byte_at file 6;
      operations = byte_at file 7;
      facts = word_at file 8;
      goal_length = word_at file 10;
      steps = word_at file 12;
      operations_at = operations_start;
      facts_at = facts_start;
      goal_at = goal_start;
      steps_at = steps_start;
      end = steps_start + 4 * word_at file 12;
    }

-- a file of more than 40,000 bytes is at fault at 40,000; one that ends before its last section, at its end; one that goes
-- on, at the first byte behind it
unfoldable pub length_checked : ℕ → Frame → Result Frame FrameFault
length_checked n f =
    cond (nat_lt 40000 n) (Err (Length 40000))
    (cond (nat_lt n f.end) (Err (Length n))
    (cond (nat_lt f.end n) (Err (Length f.end)) (Ok f)))

-- what framing a file gives: first the mark and the version, then the length
unfoldable pub framed : List ℕ → Result Frame FrameFault
framed file = cond (marked file) (length_checked (length file) (frame_of file)) (Err Mark)
