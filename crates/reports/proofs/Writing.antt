-- One turn of the loop that writes answers, its exit at a refusal, and its end.
use Rattle.std.proofs.Common.{◌≡◌, ℕ, ◌+◌, ◌<◌, ◌≤◌, List, [], ◌++◌, length, get_or, drop, Ok, Err, Result, sym, refl, append_assoc, append-nil}
use Rattle.std.proofs.lemmas.List.{drop_more, drop_all}
use Rattle.sessions.specs.declared.call.Line.{Line}
use Rattle.reports.specs.declared.ending.ReportRefusal.{ReportRefusal}
use Rattle.reports.specs.Told.{answer_text, added_text, refusal_of, told_text, told_end}

-- what a line and those behind it write, and how they end, by what the line's answer writes
abbrev text_by : Result (List ℕ) ReportRefusal → List Line → List ℕ
text_by r xs = elim r [ Ok bytes ↦ bytes ++ told_text xs | Err e ↦ [] ]

abbrev end_by : Result (List ℕ) ReportRefusal → List Line → Result (Unit {0}) ReportRefusal
end_by r xs = elim r [ Ok bytes ↦ told_end xs | Err e ↦ Err e ]

goes_on : (r : Result (List ℕ) ReportRefusal) (u : Unit {0}) (xs : List Line) (ts : List ℕ) → Ok u ≡ refusal_of r →
    (ts ++ text_by r xs ≡ (ts ++ added_text r) ++ told_text xs) × (end_by r xs ≡ told_end xs)
goes_on (Ok bytes) u xs ts e = (sym (append_assoc ts bytes (told_text xs)), refl)
goes_on (Err r) u xs ts e = absurd (cc)

stops : (r : Result (List ℕ) ReportRefusal) (e : ReportRefusal) (xs : List Line) → Err e ≡ refusal_of r → (text_by r xs ≡ added_text r) × (end_by r xs ≡ Err e)
stops (Ok bytes) e xs h = absurd (cc)
stops (Err r) e xs h = (refl, sym h)

module _ (ls : List Line) (i : ℕ) (d : Line) (h : i < length ls) where
  -- an answer that is no refusal
  pub turn : (u : Unit {0}) (ts : List ℕ) → Ok u ≡ refusal_of (answer_text (get_or ls i d).answer) →
      (ts ++ told_text (drop i ls) ≡ (ts ++ added_text (answer_text (get_or ls i d).answer)) ++ told_text (drop (i + 1) ls))
      × (told_end (drop i ls) ≡ told_end (drop (i + 1) ls))
  unfolding told_text told_end
  turn u ts e = rw (drop_more ls i d h) (goes_on _ u (drop (i + 1) ls) ts e)

  -- a refusal
  pub stop : (r : ReportRefusal) → Err r ≡ refusal_of (answer_text (get_or ls i d).answer) →
      (told_text (drop i ls) ≡ added_text (answer_text (get_or ls i d).answer)) × (told_end (drop i ls) ≡ Err r)
  unfolding told_text told_end
  stop r e = rw (drop_more ls i d h) (stops _ r (drop (i + 1) ls) e)

-- no line left
pub end : (ls : List Line) (i : ℕ) (ts : List ℕ) → length ls ≤ i → (ts ++ told_text (drop i ls) ≡ ts) × (told_end (drop i ls) ≡ Ok tt)
unfolding told_text told_end
end ls i ts h = rw (drop_all i ls h) (append-nil ts, refl)
