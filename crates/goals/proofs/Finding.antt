-- Names and numbers: a search for a name goes on by one, and a number grows by one digit.
use Rattle.std.proofs.Common.{◌≡◌, ℕ, zero, suc, ◌+◌, ◌-◌, ◌*◌, ◌<◌, ◌≤◌, min, Bool, true, false, List, [], ◌∷◌, length, get_or, take, drop, sym, refl, ap, ◌∙◌, arith, cond, leb, position, Some, None, ⊎_elim, rules}
use Rattle.std.proofs.lemmas.Bool.{cases_Bool, cond-false, ltb-false, leb-true, leb-false}
use Rattle.std.proofs.lemmas.List.{take_all}
use Rattle.std.specs.List.{fold, position_or_len}
use Rattle.std.specs.Str.{bytes_eq}
use Rattle.std.proofs.lemmas.List.Quantifiers.{position-Some}
use Rattle.std.proofs.lemmas.List.Sums.{fails_before_first}
use Rattle.std.proofs.lemmas.Option.{none-some}
use Rattle.goals.specs.declared.predicate.Predicate.{Predicate}
use Rattle.goals.specs.Vocabulary.{missing, found, places_of, name_of, find_from}
use Rattle.goals.specs.Meanings.{capped}

past : {A : Type 0} (l : List A) (i : ℕ) → length l ≤ i → drop i l ≡ []
past [] zero h = refl
past [] (suc i) h = refl
past (x ∷ l) zero h = absurd (omega arith)
past (x ∷ l) (suc i) h = past l i (omega arith)

-- the predicates of a list by their names

module _ (b : List ℕ) (d : Predicate) where
  abbrev bears : List Predicate → ℕ → Bool
  bears ps k = bytes_eq (name_of (get_or ps k d)) b

  -- none bears the name
  find-no : (i : ℕ) (ps : List Predicate) → ((k : ℕ) → k < length ps → bears ps k ≡ false) → find_from i ps b ≡ missing
  unfolding find_from
  find-no i [] h = refl
  find-no i (p ∷ ps) h =
      cond-false (bytes_eq (name_of p) b) _ _ (h 0 (omega arith)) ∙ find-no (suc i) ps (λ k m. h (suc k) (omega arith))

  -- the one with the number k is the first that does
  find-yes : (i k : ℕ) (ps : List Predicate) → k < length ps → ((j : ℕ) → j < k → bears ps j ≡ false) → bears ps k ≡ true →
      find_from i ps b ≡ found (i + k) (places_of (get_or ps k d).places)
  unfolding find_from
  find-yes i k [] m h e = absurd (omega arith)
  find-yes i zero (p ∷ ps) m h e = search rules
  find-yes i (suc k) (p ∷ ps) m h e =
      cond-false (bytes_eq (name_of p) b) _ _ (h 0 (omega arith)) ∙ find-yes (suc i) k ps (omega arith) (λ j l. h (suc j) (omega arith)) e
      ∙ ap (λ x. found x (places_of (get_or ps k d).places)) (let q : suc i + k ≡ i + suc k = omega arith in q)

none_from : {A : Type 0} (v : Bool) (x : A) → cond v (Some x) None ≡ None → v ≡ false
none_from true x e = absurd (none-some x (sym e))
none_from false x e = refl

-- as many as there are, and 256 at the most
pub first_256 : {A : Type 0} (l : List A) (n : ℕ) → n ≡ min (length l) 256 → take n l ≡ take 256 l
first_256 l n e =
    ⊎_elim (λ (h : leb (length l) 256 ≡ true). take_all n l (omega (arith, leb-true _ _ h, e)) ∙ sym (take_all 256 l (leb-true _ _ h)))
    (λ (h : leb (length l) 256 ≡ false). ap (λ k. take k l) (let q : n ≡ 256 = omega (arith, leb-false _ _ h, e) in q))
    (cases_Bool (leb (length l) 256))

module _ (ps : List Predicate) (b : List ℕ) (d : Predicate) where
  pub find_none : None ≡ position (λ p. bytes_eq (name_of p) b) ps → find_from 0 ps b ≡ missing
  find_none e =
      let l = ltb-false (position_or_len (λ p. bytes_eq (name_of p) b) ps) (length ps) (none_from _ _ (sym e)) in
      find-no b d 0 ps (λ k h. fails_before_first (λ p. bytes_eq (name_of p) b) ps k d (omega arith))

  pub find_first : (k : ℕ) → Some k ≡ position (λ p. bytes_eq (name_of p) b) ps →
      (k < length ps) × (find_from 0 ps b ≡ found k (places_of (get_or ps k d).places))
  find_first k e =
      let at = position-Some (λ p. bytes_eq (name_of p) b) ps k d (sym e) in (
        at.0,
        find-yes b d 0 k ps at.0 at.2 at.1 ∙ ap (λ n. found n (places_of (get_or ps k d).places)) (let q : 0 + k ≡ k = omega arith in q),
      )

-- a number that has stopped growing
stopped : (m : ℕ) (ds : List ℕ) → capped m ds ≡ capped (min m 65535) ds
stopped m [] = omega arith
stopped m (d ∷ ds) =
    stopped (m * 10 + (d - 48)) ds ∙ ap (λ n. capped n ds) (let e : min (m * 10 + (d - 48)) 65535 ≡ min (min m 65535 * 10 + (d - 48)) 65535 = omega arith in e)
    ∙ sym (stopped (min m 65535 * 10 + (d - 48)) ds)

-- one digit more, as the code adds it
abbrev pub digit : ℕ → ℕ → ℕ
digit n d = min (n * 10 + (d - 48)) 65535

folded : (n : ℕ) (ds : List ℕ) → n ≤ 65535 → fold digit n ds ≡ capped n ds
folded n [] h = omega arith
folded n (d ∷ ds) h = folded (digit n d) ds (omega arith) ∙ sym (stopped (n * 10 + (d - 48)) ds)

pub digits_folded : (ds : List ℕ) → fold digit 0 ds ≡ capped 0 ds
digits_folded ds = folded 0 ds (omega arith)
