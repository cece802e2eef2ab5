use Rattle.std.proofs.Common.{ℕ, ◌-◌, List, take, drop, sym, ap, ◌∙◌, subst, ap₂}
use Rattle.std.proofs.lemmas.Result.{err_from_is_err_and}
use Rattle.goals.specs.declared.frame.Frame.{Frame}
use Rattle.goals.specs.declared.frame.FramedFile.{FramedFile}
use Rattle.goals.specs.Vocabulary.{vocabulary_of}
use Rattle.goals.specs.Reading.{reads}
use Rattle.goals.specs.GoalClaims.{GoalRead}
use Rattle.goals.specs.JobText.{words_of}
use Rattle.goals.proofs.Jobs.{sound_from}
use Rattle.goals.proofs.JobSteps.{Inside, goal_slice, words_from-file, shape-of-file, operations-of-file}
use Rattle.goals.proofs.read_job.job_of.Goals as goal

-- the bytes of the goal text
abbrev text_of : List ℕ → Frame → List ℕ
text_of file f = take (f.steps_at - f.goal_at) (drop f.goal_at file)

-- where the sections of a framed file lie
sections_of : (x : FramedFile) → Inside x.bytes.now x.frame
sections_of x = record { operations_near = x.operations_near; goal_first = x.goal_first; goal_end = x.goal_end; goal_long = x.goal_long }

pub returns-in_err-goal : goal.returns-in_err-goal
returns-in_err-goal c =
    let file = c.args.file.bytes.now in
    let f = c.args.file.frame in
    let k = c.in_ok-catalogue.catalogue in
    let s = c.in_ok-catalogue.ensures in
    let p = err_from_is_err_and c.from_residual-in_err-goal.result c.from_residual-in_err-goal.ensures.1 in
    let w = ap₂ vocabulary_of (sym c.from.ensures) (sym c.as_slice.ensures.value) in
    rw (p.1, p.2) (
      shape-of-file file f k s,
      operations-of-file file f k s,
      ap₂ reads (sym (words_from-file file f k s)) (sym (goal_slice file f (sections_of c.args.file)))
          ∙ (ap (λ V. reads V (text_of c.args.file.bytes.now c.args.file.frame)) w ∙ c.in_err-goal.ensures.value),
    )

pub invariant_of-result : goal.invariant_of-result
invariant_of-result c =
    let k = c.in_ok-catalogue.catalogue in
    let w = ap₂ vocabulary_of c.from.ensures c.as_slice.ensures.value in
    record { read = ∣ (text_of c.args.file.bytes.now c.args.file.frame, subst (λ V. GoalRead V (text_of c.args.file.bytes.now c.args.file.frame) c.in_ok-goal.goal) w c.in_ok-goal.ensures.value) ∣₁; sound = sound_from k c.in_ok-goal.goal }

pub returns : goal.returns
returns c =
    let file = c.args.file.bytes.now in
    let f = c.args.file.frame in
    let k = c.in_ok-catalogue.catalogue in
    let s = c.in_ok-catalogue.ensures in
    let w = ap₂ vocabulary_of c.from.ensures c.as_slice.ensures.value ∙ words_from-file file f k s in
    let t = goal_slice file f (sections_of c.args.file) in
    record {
      spelled = s;
      goal =
          subst (λ x. GoalRead (words_of file f) x c.in_ok-goal.goal) t
          (subst (λ V. GoalRead V (text_of c.args.file.bytes.now c.args.file.frame) c.in_ok-goal.goal) w c.in_ok-goal.ensures.value);
    }
