-- The lines of a report as bytes: one for the opening and for each step, and a last one.
-- Numbers are written in base ten, and every line ends with a line feed.
use Rattle.std.specs.Prelude.{ℕ, List, [], ◌∷◌, ◌++◌, Some, None, codes, decimal, Option}
use Rattle.labels.specs.declared.state.LabelState.{LabelState}
use Rattle.labels.specs.declared.state.LabelState.TheVariants.{True, False, Open}
use Rattle.labels.specs.Size.{size}
use Rattle.labels.specs.LabelCalls.{state_of}
use Rattle.sessions.specs.declared.look.Look.{Look}
use Rattle.sessions.specs.declared.refusal.LookRefusal as refusal
use Rattle.sessions.specs.declared.verdict.Judgement.{Judgement}
use Rattle.sessions.specs.declared.verdict.Judgement as judgement
use Rattle.sessions.specs.State.{World}
use Rattle.reports.specs.declared.ending.Ending.{Ending}
use Rattle.reports.specs.declared.ending.Ending.TheVariants.{Kept, NotKept, Broken, Refused}
use Rattle.reports.specs.declared.ending.ReportRefusal.TheVariants.{Look as look_refused}
use Rattle.reports.specs.Refusals.{refusal_number}

abbrev pub line_feed : List ℕ
line_feed = 10 ∷ []

abbrev pub truth_word : LabelState → List ℕ
truth_word True = codes "true"
truth_word False = codes "false"
truth_word Open = codes "open"

-- a number and a space
abbrev pub field : ℕ → List ℕ
field n = decimal n ++ codes " "

-- number, hour, size of the label, and whether the label is true, false or open
abbrev pub line_by : ℕ → ℕ → ℕ → LabelState → List ℕ
line_by number hour size truth = field number ++ (field hour ++ (field size ++ (truth_word truth ++ line_feed)))

-- the line of a session that stands so
abbrev pub line_of : World → List ℕ
line_of w = line_by w.state.number w.state.hour (size w.state.label) (state_of w.state.label)

-- the line of what a look told
abbrev pub look_line : Look → List ℕ
look_line look = line_by look.number look.hour.hours look.size look.truth

-- words and a number
abbrev pub numbered : List ℕ → ℕ → List ℕ
numbered words n = words ++ (decimal n ++ line_feed)

abbrev pub ending_line : Ending → List ℕ
ending_line Kept = codes "kept" ++ line_feed
ending_line NotKept = codes "not kept" ++ line_feed
ending_line (Broken k) = numbered (codes "broken ") k
ending_line (Refused r) = numbered (codes "refused ") (refusal_number r)

abbrev pub judgement_ending : Judgement → Ending
judgement_ending judgement.TheVariants.Kept = Kept
judgement_ending judgement.TheVariants.NotKept = NotKept
judgement_ending judgement.TheVariants.OtherJob = Refused (look_refused refusal.TheVariants.OtherJob)

-- a broken step is named whatever the judgement
abbrev pub verdict_ending : Option ℕ → Judgement → Ending
verdict_ending (Some k) j = Broken k
verdict_ending None j = judgement_ending j
