-- What a list of calls on a register answers and leaves, by the register's meaning alone.
-- So two registers of whatever makes, begun with equal meanings, answer alike.
use Rattle.std.specs.Prelude.{List, [], ◌∷◌, Some}
use Rattle.registers.specs.declared.calls.Call.{Call}
use Rattle.registers.specs.declared.calls.Call.TheVariants.{Holds, Size, Limit, Put, Take}
use Rattle.registers.specs.declared.calls.Answer.{Answer}
use Rattle.registers.specs.declared.calls.Answer.TheVariants.{Held, Number, Putting, Taken}
use Rattle.registers.specs.declared.calls.Line.{Line}
use Rattle.registers.specs.Meaning.{Meaning, has, size_of, limit_of, put_answer, after_put, after_take}

abbrev pub answer_to : Meaning → Call → Answer
answer_to m (Holds f) = Held (has m f)
answer_to m Size = Number (size_of m)
answer_to m Limit = Number (limit_of m)
answer_to m (Put f) = Putting (put_answer m f)
answer_to m (Take f) = Taken

-- questions change nothing
abbrev pub after_call : Meaning → Call → Meaning
after_call m (Holds f) = m
after_call m Size = m
after_call m Limit = m
after_call m (Put f) = after_put m f
after_call m (Take f) = after_take m f

abbrev pub calls_of : Line → Call
calls_of x = x.call

-- each call with its answer, the next call met by what this one leaves
unfoldable pub answered : Meaning → List Line → List Line
answered m [] = []
answered m (x ∷ xs) = record { call = x.call; answer = Some (answer_to m x.call) } ∷ answered (after_call m x.call) xs

unfoldable pub after_lines : Meaning → List Line → Meaning
after_lines m [] = m
after_lines m (x ∷ xs) = after_lines (after_call m x.call) xs
