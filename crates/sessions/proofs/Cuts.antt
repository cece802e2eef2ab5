-- Cutting a list of calls changes nothing, if each piece begins with what stands there.
use Rattle.std.proofs.Common.{◌≡◌, List, [], ◌∷◌, ◌++◌, map, length, Some, sym, refl, ap, ◌∙◌, subst, append-nil}
use Rattle.std.proofs.lemmas.List.{map-append}
use Rattle.std.specs.List.{slice_get}
use Rattle.registers.specs.Meaning.{Meaning}
use Rattle.goals.specs.declared.job.Job.{Job}
use Rattle.sessions.specs.declared.verdict.Verdict.{Verdict}
use Rattle.sessions.specs.declared.call.Call.{Call}
use Rattle.sessions.specs.declared.call.Line.{Line}
use Rattle.sessions.specs.State.{World}
use Rattle.sessions.specs.Answers.{after_call, after_calls, answered, answer_to, calls_in, verdict_of}
use Rattle.sessions.specs.Pieces.{Part, taken_up, parts_after, Joined, all_lines, Uncut}
use Rattle.sessions.specs.Laws.{last_world, CuttingChangesNothing}

module _ (job : Job) where
  after-append : (w : World) (xs ys : List Call) → after_calls job w (xs ++ ys) ≡ after_calls job (after_calls job w xs) ys
  unfolding after_calls
  after-append w [] ys = refl
  after-append w (x ∷ xs) ys = after-append (after_call job w x) xs ys

  -- where two lists of calls lead, one behind the other
  pub after_both : (w : World) (xs ys : List Line) →
      after_calls job w (calls_in (xs ++ ys)) ≡ after_calls job (after_calls job w (calls_in xs)) (calls_in ys)
  after_both w xs ys = ap (after_calls job w) (map-append (λ (x : Line). x.call) xs ys) ∙ after-append w (calls_in xs) (calls_in ys)

  pub answered-both : (w : World) (xs ys : List Line) →
      answered job w (xs ++ ys) ≡ answered job w xs ++ answered job (after_calls job w (calls_in xs)) ys
  unfolding after_calls answered
  answered-both w [] ys = refl
  answered-both w (x ∷ xs) ys =
      ap (λ t. record { call = x.call; answer = Some (answer_to job w x.call) } ∷ t) (answered-both (after_call job w x.call) xs ys)

  cut-answers : (w : World) (ps : List Part) → Joined job w ps → all_lines (parts_after job w.state ps) ≡ answered job w (all_lines ps)
  unfolding answered Joined all_lines
  cut-answers w [] h = refl
  cut-answers w (p ∷ ps) h =
      let e : taken_up w.state p ≡ w = ap (λ f. record { state = w.state; facts = f }) h.0 in
      ap (λ v. answered job v p.lines ++ all_lines (parts_after job (after_calls job v (calls_in p.lines)).state ps)) e
      ∙ (ap (λ t. answered job w p.lines ++ t) (cut-answers (after_calls job w (calls_in p.lines)) ps h.1)
      ∙ sym (answered-both w p.lines (all_lines ps)))

  cut_stands : (w : World) (ps : List Part) → Joined job w ps → last_world job w ps ≡ after_calls job w (calls_in (all_lines ps))
  unfolding after_calls Joined all_lines
  cut_stands w [] h = refl
  cut_stands w (p ∷ ps) h =
      let e : taken_up w.state p ≡ w = ap (λ f. record { state = w.state; facts = f }) h.0 in
      ap (λ v. last_world job (after_calls job v (calls_in p.lines)) ps) e
      ∙ (cut_stands (after_calls job w (calls_in p.lines)) ps h.1 ∙ sym (after_both w p.lines (all_lines ps)))

  abbrev meanings : List Part → List Meaning
  meanings ps = map (λ (q : Part). q.facts) ps

  cut-registers : (w : World) (xs : List Part) (p : Part) (ys : List Part) → Joined job w (xs ++ p ∷ ys) →
      slice_get (meanings (parts_after job w.state (xs ++ p ∷ ys))) (length xs) ≡ Some (after_calls job w (calls_in (all_lines (xs ++ p ∷ [])))).facts
  unfolding Joined all_lines
  cut-registers w [] p ys h =
      let e : taken_up w.state p ≡ w = ap (λ f. record { state = w.state; facts = f }) h.0 in
      ap (λ (v : World). Some (after_calls job v (calls_in p.lines)).facts) e
      ∙ ap (λ t. Some (after_calls job w (calls_in t)).facts) (sym (append-nil p.lines))
  cut-registers w (x ∷ xs) p ys h =
      let e : taken_up w.state x ≡ w = ap (λ f. record { state = w.state; facts = f }) h.0 in
      ap (λ (v : World). slice_get (meanings (parts_after job (after_calls job v (calls_in x.lines)).state (xs ++ p ∷ ys))) (length xs)) e
      ∙ (cut-registers (after_calls job w (calls_in x.lines)) xs p ys h.1
      ∙ ap (λ (v : World). Some v.facts) (sym (after_both w x.lines (all_lines (xs ++ p ∷ [])))))

  -- what a run of pieces came to is what the calls in one list come to
  pub uncut_of : (w : World) (before after : List Part) (last : World) (verdict : Verdict) → Joined job w before →
      after ≡ parts_after job w.state before → last ≡ last_world job w before → verdict ≡ verdict_of job last →
      Uncut job w before after last verdict
  uncut_of w before after last verdict h ea el ev =
      let e = el ∙ cut_stands w before h in
      record {
        answers = ap all_lines ea ∙ cut-answers w before h;
        registers = λ xs p ys eb.
            ap (λ t. slice_get (meanings t) (length xs)) (ea ∙ ap (parts_after job w.state) eb)
            ∙ cut-registers w xs p ys (subst (Joined job w) eb h);
        stands = e;
        closed = ev ∙ ap (verdict_of job) e;
      }

pub cutting : CuttingChangesNothing
cutting job w ps h = uncut_of job w ps (parts_after job w.state ps) (last_world job w ps) (verdict_of job (last_world job w ps)) h refl refl refl
