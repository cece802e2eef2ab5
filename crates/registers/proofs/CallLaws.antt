-- Lists of calls, one at a time and at the end.
use Rattle.std.proofs.Common.{◌≡◌, ℕ, ◌+◌, ◌<◌, ◌≤◌, List, [], ◌∷◌, ◌++◌, map, length, get_or, take, drop, set, Some, sym, refl, ap, ◌∙◌, append_assoc, arith}
use Rattle.std.proofs.lemmas.List.{append-nil, take_all, drop_all, drop_more, drop-set-lt, take_more_set}
use Rattle.registers.specs.declared.calls.Answer.{Answer}
use Rattle.registers.specs.declared.calls.Line.{Line}
use Rattle.registers.specs.Meaning.{Meaning}
use Rattle.registers.specs.Calls.{answer_to, after_call, calls_of, answered, after_lines}

module _ (m m' : Meaning) (xs : List Line) (i : ℕ) (d : Line) (l : i < length xs) (em : m' ≡ after_call m (get_or xs i d).call) where
  pub answered-more : (a : Answer) → a ≡ answer_to m (get_or xs i d).call →
      take i xs ++ answered m (drop i xs)
      ≡ take (i + 1) (set xs i (record { call = (get_or xs i d).call; answer = Some a })) ++ answered m' (drop (i + 1) (set xs i (record { call = (get_or xs i d).call; answer = Some a })))
  unfolding answered
  answered-more a ea =
      let x : Line = get_or xs i d in
      let y : Line = record { call = x.call; answer = Some a } in
      let ey : record { call = x.call; answer = Some (answer_to m x.call) } ≡ y = ap (λ (t : Answer). record { call = x.call; answer = Some t }) (sym ea) in
      ap (λ t. take i xs ++ answered m t) (drop_more xs i d l)
      ∙ (ap (λ t. take i xs ++ t ∷ answered (after_call m x.call) (drop (i + 1) xs)) ey
      ∙ (sym (append_assoc (take i xs) (y ∷ []) (answered (after_call m x.call) (drop (i + 1) xs)))
      ∙ (ap (λ t. t ++ answered (after_call m x.call) (drop (i + 1) xs)) (sym (take_more_set xs i y l))
      ∙ (ap (λ t. take (i + 1) (set xs i y) ++ answered t (drop (i + 1) xs)) (sym em)
      ∙ ap (λ t. take (i + 1) (set xs i y) ++ answered m' t) (sym (drop-set-lt (i + 1) xs i y (omega arith)))))))

  pub after_more : (y : Line) → after_lines m (drop i xs) ≡ after_lines m' (drop (i + 1) (set xs i y))
  unfolding after_lines
  after_more y =
      ap (after_lines m) (drop_more xs i d l)
      ∙ (ap (λ t. after_lines t (drop (i + 1) xs)) (sym em) ∙ ap (after_lines m') (sym (drop-set-lt (i + 1) xs i y (omega arith))))

pub answered-all : (m : Meaning) (xs : List Line) (i : ℕ) → length xs ≤ i → take i xs ++ answered m (drop i xs) ≡ xs
unfolding answered
answered-all m xs i l =
    ap (λ t. take i xs ++ answered m t) (drop_all i xs l) ∙ (append-nil (take i xs) ∙ take_all i xs l)

pub after-all : (m : Meaning) (xs : List Line) (i : ℕ) → length xs ≤ i → after_lines m (drop i xs) ≡ m
unfolding after_lines
after-all m xs i l = ap (after_lines m) (drop_all i xs l)

-- answers and what is left depend on the meaning and the calls alone
pub same-answers : (m : Meaning) (xs ys : List Line) → map calls_of xs ≡ map calls_of ys → answered m xs ≡ answered m ys
unfolding answered
same-answers m [] [] e = refl
same-answers m [] (y ∷ ys) e = let z : ◌≡◌ {A = ℕ} 0 1 = cc in absurd (omega arith)
same-answers m (x ∷ xs) [] e = let z : ◌≡◌ {A = ℕ} 0 1 = cc in absurd (omega arith)
same-answers m (x ∷ xs) (y ∷ ys) e =
    let h : x.call ≡ y.call = cc in
    let t : map calls_of xs ≡ map calls_of ys = cc in
    ap (λ k. record { call = k; answer = Some (answer_to m k) } ∷ answered (after_call m k) xs) h
    ∙ ap (λ l. record { call = y.call; answer = Some (answer_to m y.call) } ∷ l) (same-answers (after_call m y.call) xs ys t)

pub same_after : (m : Meaning) (xs ys : List Line) → map calls_of xs ≡ map calls_of ys → after_lines m xs ≡ after_lines m ys
unfolding after_lines
same_after m [] [] e = refl
same_after m [] (y ∷ ys) e = let z : ◌≡◌ {A = ℕ} 0 1 = cc in absurd (omega arith)
same_after m (x ∷ xs) [] e = let z : ◌≡◌ {A = ℕ} 0 1 = cc in absurd (omega arith)
same_after m (x ∷ xs) (y ∷ ys) e =
    let h : x.call ≡ y.call = cc in
    let t : map calls_of xs ≡ map calls_of ys = cc in
    ap (λ k. after_lines (after_call m k) xs) h ∙ same_after (after_call m y.call) xs ys t
