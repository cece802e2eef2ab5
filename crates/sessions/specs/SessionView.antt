-- What a session, a note and what is left of a closed session stand for.
-- A step is refused for its label as the label refuses to progress.
use Rattle.registers.specs.Meaning.{Meaning}
use Rattle.labels.specs.declared.refusal.LabelRefusal.{LabelRefusal}
use Rattle.labels.specs.declared.refusal.LabelRefusal as label
use Rattle.labels.specs.LabelCalls.{label_of}
use Rattle.sessions.specs.declared.refusal.StepRefusal.{StepRefusal}
use Rattle.sessions.specs.declared.refusal.StepRefusal.TheVariants.{OtherJob, TooMuchWork, TooLong}
use Rattle.sessions.specs.declared.session.Session.{Session}
use Rattle.sessions.specs.declared.session.Note.{Note}
use Rattle.sessions.specs.declared.session.Closing.{Closing}
use Rattle.sessions.specs.State.{State, World}

abbrev pub session_state : Session → State
session_state s = record { number = s.number; hour = s.hour.hours; label = label_of s.label; broken = s.broken }

-- laying aside keeps everything
abbrev pub note_state : Note → State
note_state n = session_state n.session

abbrev pub closing_state : Closing → State
closing_state c = record { number = c.number; hour = c.hour.hours; label = label_of c.label; broken = c.verdict.broken }

-- a session over a register
abbrev pub world : Session → Meaning → World
world s m = record { state = session_state s; facts = m }

abbrev pub step_refusal_of : LabelRefusal → StepRefusal
step_refusal_of label.TheVariants.OtherJob = OtherJob
step_refusal_of label.TheVariants.TooMuchWork = TooMuchWork
step_refusal_of label.TheVariants.TooLong = TooLong
