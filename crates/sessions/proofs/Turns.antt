-- One turn of a loop over calls, the end of the loop, and what a run of pieces came to.
use Rattle.std.proofs.Common.{◌≡◌, ℕ, ◌+◌, ◌<◌, ◌≤◌, List, ◌∷◌, ◌++◌, length, get_or, take, drop, set, Some, sym, refl, ap, ◌∙◌, subst, append_assoc, append-nil, arith}
use Rattle.std.proofs.lemmas.List.{drop_more, drop_all, take_all, take_more_set, drop-set-lt}
use Rattle.goals.specs.declared.job.Job.{Job}
use Rattle.goals.specs.JobView.{ids_of, nodes_of, root_of, SoundJob}
use Rattle.sessions.specs.declared.verdict.Verdict.{Verdict}
use Rattle.sessions.specs.declared.call.Line.{Line}
use Rattle.sessions.specs.declared.call.Answer.{Answer}
use Rattle.sessions.specs.State.{State, World, opened_state, opened}
use Rattle.sessions.specs.Answers.{answer_to, after_call, after_calls, answered, calls_in, verdict_of}
use Rattle.sessions.specs.Pieces.{Part, state_after, parts_after, Joined, all_lines, last_facts, Uncut}
use Rattle.sessions.specs.Laws.{last_world, Law, RunsKeepTheLaw}
use Rattle.sessions.proofs.Cuts.{uncut_of}

module _ (job : Job) where
  module _ (ls : List Line) (i : ℕ) (d : Line) (h : i < length ls) where
    -- where the lines from i on lead, once line i was answered
    pub after_turn : (w v : World) (y : Line) → v ≡ after_call job w (get_or ls i d).call →
        after_calls job w (calls_in (drop i ls)) ≡ after_calls job v (calls_in (drop (i + 1) (set ls i y)))
    unfolding after_calls
    after_turn w v y e = rw (drop-set-lt (i + 1) ls i y (omega arith), drop_more ls i d h, e) refl

    -- the lines answered so far, and the rest as they will be
    pub answered_turn : (w v : World) (a : Answer) → a ≡ answer_to job w (get_or ls i d).call → v ≡ after_call job w (get_or ls i d).call →
        take i ls ++ answered job w (drop i ls)
        ≡ take (i + 1) (set ls i (record { call = (get_or ls i d).call; answer = Some a }))
        ++ answered job v (drop (i + 1) (set ls i (record { call = (get_or ls i d).call; answer = Some a })))
    unfolding answered
    answered_turn w v a ea e =
        let y : Line = record { call = (get_or ls i d).call; answer = Some a } in
        rw (take_more_set ls i y h, drop-set-lt (i + 1) ls i y (omega arith), drop_more ls i d h, ea, e, append_assoc) refl

  pub after-end : (w : World) (ls : List Line) (i : ℕ) → length ls ≤ i → after_calls job w (calls_in (drop i ls)) ≡ w
  unfolding after_calls
  after-end w ls i h = ap (λ t. after_calls job w (calls_in t)) (drop_all i ls h)

  pub answered-end : (w : World) (ls : List Line) (i : ℕ) → length ls ≤ i → take i ls ++ answered job w (drop i ls) ≡ ls
  unfolding answered
  answered-end w ls i h =
      ap (λ t. take i ls ++ answered job w t) (drop_all i ls h) ∙ (append-nil (take i ls) ∙ take_all i ls h)

-- what a closed run of pieces came to
module _ (job : Job) (p q : Part) (ps qs : List Part) (s₀ s₁ s₂ : State) (v : Verdict)
    (e₀ : s₀ ≡ opened_state job) (e₁ : s₁ ≡ state_after job s₀ (p ∷ ps)) (eq : ◌≡◌ {A = List Part} (q ∷ qs) (parts_after job s₀ (p ∷ ps)))
    (e₂ : s₂ ≡ s₁) (ev : v ≡ verdict_of job (record { state = s₁; facts = last_facts q.facts qs })) where
  abbrev last : World
  last = record { state = s₂; facts = last_facts q.facts qs }

  state-is : s₂ ≡ state_after job (opened_state job) (p ∷ ps)
  state-is = e₂ ∙ (e₁ ∙ ap (λ s. state_after job s (p ∷ ps)) e₀)

  parts_are : ◌≡◌ {A = List Part} (q ∷ qs) (parts_after job (opened_state job) (p ∷ ps))
  parts_are = eq ∙ ap (λ s. parts_after job s (p ∷ ps)) e₀

  last-is : last ≡ last_world job (opened job p.facts) (p ∷ ps)
  last-is = λ i. record { state = state-is i; facts = last_facts p.facts (parts_are i) }

  verdict_is : v ≡ verdict_of job last
  verdict_is = ev ∙ ap (λ s. verdict_of job (record { state = s; facts = last_facts q.facts qs })) (sym e₂)

  pub is_uncut : Joined job (opened job p.facts) (p ∷ ps) → Uncut job (opened job p.facts) (p ∷ ps) (q ∷ qs) last v
  is_uncut h = uncut_of job (opened job p.facts) (p ∷ ps) (q ∷ qs) last v h parts_are last-is verdict_is

  pub keeps-law : RunsKeepTheLaw → SoundJob (ids_of job) (nodes_of job) (root_of job) → Joined job (opened job p.facts) (p ∷ ps) →
      Law job p.facts (all_lines (p ∷ ps)) (all_lines (q ∷ qs)) last v
  keeps-law law sound h =
      let m = p.facts in
      let before = all_lines (p ∷ ps) in
      subst (λ (t : List Part). Law job m before (all_lines t) last v) (sym parts_are)
      (subst (λ (w : World). Law job m before (all_lines (parts_after job (opened_state job) (p ∷ ps))) w v) (sym last-is)
      (subst (Law job m before (all_lines (parts_after job (opened_state job) (p ∷ ps))) (last_world job (opened job m) (p ∷ ps))) (sym (verdict_is ∙ ap (verdict_of job) last-is))
      (law job sound m (p ∷ ps) h)))
