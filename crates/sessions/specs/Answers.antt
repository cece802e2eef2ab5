-- What each call on a session answers and leaves, what a list of calls does, and what closing tells.
-- Refused steps and all looks change nothing.
use Rattle.std.specs.Prelude.{Bool, cond, List, [], ◌∷◌, map, Some, Ok, Err, Result}
use Rattle.registers.specs.Meaning.{Meaning}
use Rattle.goals.specs.declared.job.Job.{Job}
use Rattle.goals.specs.declared.operation.Operation.{Operation}
use Rattle.goals.specs.JobView.{ids_of, nodes_of}
use Rattle.labels.specs.Labels.{Label}
use Rattle.labels.specs.Size.{size}
use Rattle.labels.specs.Held.{facts_of}
use Rattle.labels.specs.Idling.{idling}
use Rattle.labels.specs.LabelCalls.{known_to, state_of}
use Rattle.sessions.specs.declared.step.Arguments.{Arguments}
use Rattle.sessions.specs.declared.step.Step.{Step}
use Rattle.sessions.specs.declared.refusal.StepRefusal.{StepRefusal}
use Rattle.sessions.specs.declared.refusal.LookRefusal.{LookRefusal}
use Rattle.sessions.specs.declared.refusal.LookRefusal as refusal
use Rattle.sessions.specs.declared.look.Look.{Look}
use Rattle.sessions.specs.declared.verdict.Judgement.{Judgement}
use Rattle.sessions.specs.declared.verdict.Judgement.TheVariants.{Kept, NotKept, OtherJob}
use Rattle.sessions.specs.declared.verdict.Verdict.{Verdict}
use Rattle.sessions.specs.declared.call.Call.{Call}
use Rattle.sessions.specs.declared.call.Call as call
use Rattle.sessions.specs.declared.call.Answer.{Answer}
use Rattle.sessions.specs.declared.call.Answer.TheVariants.{Stepped, Seen}
use Rattle.sessions.specs.declared.call.Line.{Line}
use Rattle.sessions.specs.State.{World, advanced}
use Rattle.sessions.specs.Checks.{checked}

-- does idling now keep the label?
unfoldable pub idles_by : Job → Meaning → Label → Bool
idles_by job m l = idling (ids_of job) (facts_of m) (nodes_of job) l

abbrev pub idles_at : Job → World → Bool
idles_at job w = idles_by job w.facts w.state.label

-- the checks of a step, at a session and the facts that stand
abbrev pub checked_at : Job → World → Step → Result Operation StepRefusal
checked_at job w step = checked job w.state.number w.state.label w.facts step

abbrev pub step_answer : Result Operation StepRefusal → Result (Unit {0}) StepRefusal
step_answer (Ok o) = Ok tt
step_answer (Err r) = Err r

abbrev pub step_after : Job → World → Arguments → Result Operation StepRefusal → World
step_after job w a (Ok o) = advanced job w a o
step_after job w a (Err r) = w

abbrev pub look_of : Job → World → Look
look_of job w =
    record {
      number = w.state.number;
      hour = record { hours = w.state.hour };
      size = size w.state.label;
      truth = state_of w.state.label;
      idles = idles_at job w;
      broken = w.state.broken;
    }

-- a look is refused with 10 only
abbrev pub look_answer : Job → World → Result Look LookRefusal
look_answer job w = cond (known_to job w.state.label) (Ok (look_of job w)) (Err refusal.TheVariants.OtherJob)

abbrev pub answer_to : Job → World → Call → Answer
answer_to job w (call.TheVariants.Step step) = Stepped (step_answer (checked_at job w step))
answer_to job w call.TheVariants.Look = Seen (look_answer job w)

abbrev pub after_call : Job → World → Call → World
after_call job w (call.TheVariants.Step step) = step_after job w step.arguments (checked_at job w step)
after_call job w call.TheVariants.Look = w

abbrev pub calls_in : List Line → List Call
calls_in lines = map (λ (x : Line). x.call) lines

-- where a list of calls leads
unfoldable pub after_calls : Job → World → List Call → World
after_calls job w [] = w
after_calls job w (x ∷ xs) = after_calls job (after_call job w x) xs

-- each call with its answer beside it
unfoldable pub answered : Job → World → List Line → List Line
answered job w [] = []
answered job w (x ∷ xs) =
    record { call = x.call; answer = Some (answer_to job w x.call) } ∷ answered job (after_call job w x.call) xs

abbrev pub judgement_by : Job → Meaning → Label → Judgement
judgement_by job m l = cond (known_to job l) (cond (idles_by job m l) Kept NotKept) OtherJob

abbrev pub judgement_of : Job → World → Judgement
judgement_of job w = judgement_by job w.facts w.state.label

-- closing tells whether the label is kept by idling, or that it belongs to another job, with the broken step
abbrev pub verdict_of : Job → World → Verdict
verdict_of job w = record { judgement = judgement_of job w; broken = w.state.broken }
