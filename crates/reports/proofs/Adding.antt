-- The calls of a report are added step by step.
use Rattle.std.proofs.Common.{◌≡◌, ℕ, zero, suc, ◌+◌, ◌/◌, ◌*◌, ◌<◌, ◌≤◌, List, [], ◌∷◌, ◌++◌, map, length, get_or, take, drop, Ok, sym, refl, ap, ◌∙◌, append_assoc, append-nil, arith}
use Rattle.std.proofs.lemmas.List.{get_or-take, get_or-drop, length-drop, drop-drop, drop_more, drop_all}
use Rattle.std.specs.Simd.{first_chunks}
use Rattle.goals.specs.declared.frame.Frame.{Frame}
use Rattle.goals.specs.Frame.{frame_of, framed}
use Rattle.goals.proofs.FrameSteps.{accepted}
use Rattle.sessions.specs.declared.call.Call as call
use Rattle.sessions.specs.declared.call.Line.{Line}
use Rattle.sessions.specs.declared.step.Step.{Step}
use Rattle.reports.specs.FileSteps.{step_at, steps_from, steps_in, unanswered, step_lines}

-- the steps of a framed file end where it does
pub record StepsInside (file : List ℕ) (f : Frame) : Type 0 where
  pub whole : f.steps_at + 4 * f.steps ≡ length file
  pub short : length file ≤ 40000
  pub own : f ≡ frame_of file

ends : (file : List ℕ) (f : Frame) → f ≡ frame_of file → f.end ≡ f.steps_at + 4 * f.steps
unfolding frame_of
ends file f e = ap (λ (g : Frame). g.end) e ∙ sym (ap (λ (g : Frame). g.steps_at + 4 * g.steps) e)

pub steps-inside : (file : List ℕ) (f : Frame) → Ok f ≡ framed file → StepsInside file f
steps-inside file f e =
    let a = accepted file f e in
    record { whole = sym (ends file f a.frame) ∙ a.whole; short = a.short; own = a.frame }

-- four bytes as a step
abbrev pub step_of : List ℕ → Step
step_of bytes = step_at bytes 0

byte-of : (file : List ℕ) (at k : ℕ) → k < 4 → get_or (take 4 (drop at file)) k 0 ≡ get_or file (at + k) 0
byte-of file at k h = get_or-take 4 (drop at file) k 0 h ∙ get_or-drop at file k 0

four-bytes : (file : List ℕ) (at : ℕ) → step_of (take 4 (drop at file)) ≡ step_at file at
four-bytes file at =
    let first : at + 0 ≡ at = omega arith in
    cc (ap (λ n. get_or file n 0) first, byte-of file at 0 (omega arith), byte-of file at 1 (omega arith), byte-of file at 2 (omega arith), byte-of file at 3 (omega arith))

-- the file cut into fours is the file read step by step
pub steps-cut : (file : List ℕ) (n at : ℕ) → map step_of (first_chunks 4 n (drop at file)) ≡ steps_from file n at
unfolding steps_from
steps-cut file zero at = refl
steps-cut file (suc n) at = rw (drop-drop 4 at file, four-bytes file at, steps-cut file n (at + 4)) refl

-- one step more, with the look behind it
pub calls-more : (cs : List (List ℕ)) (i : ℕ) (d : List ℕ) (s : Step) (x y : Line) (xs ys zs : List Line) → i < length cs →
    s ≡ step_of (get_or cs i d) → x ≡ unanswered (call.TheVariants.Step s) → y ≡ unanswered call.TheVariants.Look → ys ≡ xs ++ x ∷ [] → zs ≡ ys ++ y ∷ [] →
    xs ++ step_lines (map step_of (drop i cs)) ≡ zs ++ step_lines (map step_of (drop (i + 1) cs))
unfolding step_lines
calls-more cs i d s x y xs ys zs less es ex en ey ez = rw (ez, ey, ex, en, es, drop_more cs i d less) (simp append_assoc)

-- no step left
pub calls-all : (cs : List (List ℕ)) (i : ℕ) (xs : List Line) → length cs ≤ i → xs ++ step_lines (map step_of (drop i cs)) ≡ xs
unfolding step_lines
calls-all cs i xs le = rw (drop_all i cs le) (append-nil xs)

-- the last section cut into fours holds the steps of the file
pub steps-read : (file : List ℕ) (f : Frame) → StepsInside file f → (section : List ℕ) (cs : List (List ℕ)) → section ≡ drop f.steps_at file →
    cs ≡ first_chunks 4 (length section / 4) section → map step_of cs ≡ steps_in file
steps-read file f inside section cs es ec =
    let count : length section / 4 ≡ f.steps = omega (arith, ap length es, length-drop f.steps_at file, inside.whole) in
    ap (map step_of) (ec ∙ (ap (λ n. first_chunks 4 n section) count ∙ ap (first_chunks 4 f.steps) es))
    ∙ (steps-cut file f.steps f.steps_at ∙ ap (λ (g : Frame). steps_from file g.steps g.steps_at) inside.own)
