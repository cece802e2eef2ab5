-- What a list of answered calls writes: the line of each look, up to the first refusal, which it gives.
use Rattle.std.specs.Prelude.{ℕ, List, [], ◌∷◌, ◌++◌, Some, None, Ok, Err, Option, Result}
use Rattle.sessions.specs.declared.call.Answer.{Answer}
use Rattle.sessions.specs.declared.call.Answer.TheVariants.{Stepped, Seen}
use Rattle.sessions.specs.declared.call.Line.{Line}
use Rattle.reports.specs.declared.ending.Ending.{Ending}
use Rattle.reports.specs.declared.ending.Ending.TheVariants.{Refused}
use Rattle.reports.specs.declared.ending.ReportRefusal.{ReportRefusal}
use Rattle.reports.specs.declared.ending.ReportRefusal.TheVariants.{Step, Look}
use Rattle.reports.specs.Lines.{look_line}

-- the bytes that an answer adds, or its refusal
abbrev pub answer_text : Option Answer → Result (List ℕ) ReportRefusal
answer_text None = Ok []
answer_text (Some (Stepped (Ok u))) = Ok []
answer_text (Some (Stepped (Err r))) = Err (Step r)
answer_text (Some (Seen (Ok look))) = Ok (look_line look)
answer_text (Some (Seen (Err r))) = Err (Look r)

-- the bytes of the answers before the first refusal
unfoldable pub told_text : List Line → List ℕ
told_text [] = []
told_text (x ∷ xs) = elim (answer_text x.answer) [ Ok bytes ↦ bytes ++ told_text xs | Err r ↦ [] ]

-- the first refusal, if there is one
unfoldable pub told_end : List Line → Result (Unit {0}) ReportRefusal
told_end [] = Ok tt
told_end (x ∷ xs) = elim (answer_text x.answer) [ Ok bytes ↦ told_end xs | Err r ↦ Err r ]

-- a refusal ends the report in the place of its verdict
abbrev pub ending_by : Result (Unit {0}) ReportRefusal → Ending → Ending
ending_by (Ok u) verdict = verdict
ending_by (Err r) verdict = Refused r

-- what one answer adds, and its refusal
abbrev pub added_text : Result (List ℕ) ReportRefusal → List ℕ
added_text (Ok bytes) = bytes
added_text (Err r) = []

abbrev pub refusal_of : Result (List ℕ) ReportRefusal → Result (Unit {0}) ReportRefusal
refusal_of (Ok bytes) = Ok tt
refusal_of (Err r) = Err r
