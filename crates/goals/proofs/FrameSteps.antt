-- The walk over a file's counts, one predicate or operation at a time.
use Rattle.std.proofs.Common.{◌≡◌, rules, ℕ, ◌+◌, ◌-◌, ◌*◌, ◌<◌, ◌≤◌, true, List, length, Ok, Result, ap, arith}
use Rattle.goals.specs.declared.frame.Frame.{Frame}
use Rattle.goals.specs.declared.file_fault.FrameFault.{FrameFault}
use Rattle.goals.specs.Bytes.{byte_at}
use Rattle.goals.specs.Frame.{marked, predicates_end, operations_end, frame_of, length_checked, framed}

pub predicates-more : (file : List ℕ) (n i at next : ℕ) → i < n → next ≡ at + 2 + byte_at file (at + 1) →
    predicates_end file (n - i) at ≡ predicates_end file (n - (i + 1)) next
unfolding predicates_end
predicates-more file n i at next l e = search rules

pub operations-more : (file : List ℕ) (n i at next : ℕ) → i < n → next ≡ at + 6 + 3 * (byte_at file (at + 3) + byte_at file (at + 4) + byte_at file (at + 5)) →
    operations_end file (n - i) at ≡ operations_end file (n - (i + 1)) next
unfolding operations_end
operations-more file n i at next l e = search rules

pub predicates-all : (file : List ℕ) (n i at : ℕ) → n ≤ i → predicates_end file (n - i) at ≡ at
unfolding predicates_end
predicates-all file n i at l = search rules

pub operations-all : (file : List ℕ) (n i at : ℕ) → n ≤ i → operations_end file (n - i) at ≡ at
unfolding operations_end
operations-all file n i at l = search rules

-- a file that its frame fills
pub framed-whole : (file : List ℕ) (f : Frame) → marked file ≡ true → f ≡ frame_of file → length file ≤ 40000 → f.end ≤ length file → length file ≤ f.end → ◌≡◌ {A = Result Frame FrameFault} (Ok f) (framed file)
unfolding framed length_checked
framed-whole file f m e l g h = search rules

-- what an accepted frame tells

pub record Accepted (file : List ℕ) (f : Frame) : Type 0 where
  pub mark : marked file ≡ true
  pub frame : f ≡ frame_of file
  pub short : length file ≤ 40000
  pub whole : f.end ≡ length file

pub accepted : (file : List ℕ) (f : Frame) → Ok f ≡ framed file → Accepted file f
unfolding framed length_checked
accepted file f e = search rules

-- the sections lie one behind the other
pub sections : (file : List ℕ) →
    ((frame_of file).facts_at ≤ (frame_of file).goal_at) × ((frame_of file).goal_at ≤ (frame_of file).steps_at) × ((frame_of file).steps_at ≤ (frame_of file).end)
unfolding frame_of
sections file = (omega arith, omega arith, omega arith)

pub facts_near : (file : List ℕ) (f : Frame) → Ok f ≡ framed file → f.facts_at ≤ 40000
facts_near file f e =
    let a = accepted file f e in
    let s = sections file in
    let p : f.facts_at ≡ (frame_of file).facts_at = ap (λ x. x.facts_at) a.frame in
    let q : f.end ≡ (frame_of file).end = ap (λ x. x.end) a.frame in
    omega (arith, s.0, s.1, s.2, a.short, a.whole)
