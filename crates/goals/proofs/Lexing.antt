-- One token of a text at a time.
use Rattle.std.proofs.Common.{◌≡◌, ℕ, zero, suc, ◌+◌, ◌<◌, ◌≤◌, Bool, true, false, cond, eqb, leb, List, [], ◌∷◌, length, take, drop, sym, refl, ap, ◌∙◌, subst, ap₂, add-zero, arith, length-drop, eq-eqb, le-leb}
use Rattle.std.proofs.lemmas.Bool.{cond-true, cond-false, and_from, and_left, and_right}
use borrow.Author.Tests.{lt-leb}
use Rattle.goals.specs.declared.token.Kind.{Kind}
use Rattle.goals.specs.Seen.{seen, used, Shows, Leads}
use Rattle.goals.specs.Tokens.{next, is_letter, is_digit, is_blank, run_of, more, name_token, number_token, variable_token, token_of, lex}

run-within : (t : ℕ → Bool) (bs : List ℕ) → run_of t bs ≤ length bs
run-within t [] = omega arith
run-within t (b ∷ bs) = pick (t b) (run-within t bs)
  where
    pick : (v : Bool) → run_of t bs ≤ length bs → cond v (suc (run_of t bs)) 0 ≤ length (b ∷ bs)
    pick true h = omega arith
    pick false h = omega arith

pub more_within : (b : ℕ) (bs : List ℕ) → more b bs ≤ length bs
more_within b bs = pick (is_letter b) (is_digit b) (eqb b 63)
  where
    pick : (u v w : Bool) → cond u (run_of is_letter bs) (cond v (run_of is_digit bs) (cond w (run_of is_letter bs) 0)) ≤ length bs
    pick true v w = run-within is_letter bs
    pick false true w = run-within is_digit bs
    pick false false true = run-within is_letter bs
    pick false false false = omega arith

lex_skip : (k p : ℕ) (bs : List ℕ) → k ≤ length bs → lex k p bs ≡ lex 0 (p + k) (drop k bs)
unfolding lex
lex_skip zero p bs h = ap (λ q. lex 0 q bs) (sym (add-zero p))
lex_skip (suc k) p [] h = absurd (omega arith)
lex_skip (suc k) p (b ∷ bs) h = lex_skip k (suc p) bs (omega arith) ∙ ap (λ q. lex 0 q (drop k bs)) (omega arith)

-- blanks are passed over
pub lex_blanks : (p : ℕ) (bs : List ℕ) → lex 0 p bs ≡ lex 0 (p + run_of is_blank bs) (drop (run_of is_blank bs) bs)
unfolding lex
lex_blanks p [] = ap (λ q. lex 0 q []) (sym (add-zero p))
lex_blanks p (b ∷ bs) = pick (is_blank b) refl (lex_blanks (suc p) bs)
  where
    n : ℕ
    n = run_of is_blank bs

    pick : (v : Bool) → is_blank b ≡ v → lex 0 (suc p) bs ≡ lex 0 (suc p + n) (drop n bs) → lex 0 p (b ∷ bs) ≡ lex 0 (p + cond v (suc n) 0) (drop (cond v (suc n) 0) (b ∷ bs))
    pick true e h = cond-true (is_blank b) _ _ e ∙ h ∙ ap (λ q. lex 0 q (drop n bs)) (omega arith)
    pick false e h = ap (λ q. lex 0 q (b ∷ bs)) (sym (add-zero p))

-- the byte behind a run fails its test
pub run_stops : (t : ℕ → Bool) (bs : List ℕ) (c : ℕ) (cs : List ℕ) → drop (run_of t bs) bs ≡ c ∷ cs → t c ≡ false
run_stops t [] c cs e = let z : ◌≡◌ {A = ℕ} 0 1 = cc in absurd (omega arith)
run_stops t (b ∷ bs) c cs e = pick (t b) refl (λ f. run_stops t bs c cs f) e
  where
    pick : (v : Bool) → t b ≡ v → (drop (run_of t bs) bs ≡ c ∷ cs → t c ≡ false) → drop (cond v (suc (run_of t bs)) 0) (b ∷ bs) ≡ c ∷ cs → t c ≡ false
    pick true h g f = g f
    pick false h g f = let same : b ≡ c = cc in subst (λ x. t x ≡ false) same h

-- the token that begins with a byte, and the bytes that belong to it
pub token_step : (p b : ℕ) (bs : List ℕ) (n : ℕ) → is_blank b ≡ false → n ≡ more b bs → lex 0 p (b ∷ bs) ≡ next (token_of b (take n bs)) p (lex 0 (suc p + n) (drop n bs))
unfolding lex
token_step p b bs n e m =
    cond-false (is_blank b) _ _ e ∙ ap (λ k. next (token_of b (take k bs)) p (lex k (suc p) bs)) (sym m)
    ∙ ap (next (token_of b (take n bs)) p) (lex_skip n (suc p) bs (let w = more_within b bs in omega (arith, m, w)))

-- what is left behind the blanks
pub behind_blanks : (p : ℕ) (w : List ℕ) (m q : ℕ) (v : List ℕ) → m ≡ run_of is_blank w → q ≡ p + m → v ≡ drop m w → lex 0 p w ≡ lex 0 q v
behind_blanks p w m q v e f g = lex_blanks p w ∙ ap (λ k. lex 0 (p + k) (drop k w)) (sym e) ∙ ap₂ (lex 0) (sym f) (sym g)

-- the token there
pub leads : (q : ℕ) (v : List ℕ) (k : Kind) (n r : ℕ) (u : List ℕ) → ((c : ℕ) (cs : List ℕ) → v ≡ c ∷ cs → is_blank c ≡ false) → Leads v k n → r ≡ q + n → u ≡ drop n v → (lex 0 q v ≡ seen k q (lex 0 r u)) × (length u + used (lex 0 q v) ≤ length v)
unfolding lex
leads q [] k n r u clear h e d = (ap (λ x. seen x q (lex 0 r u)) (sym h.0), let f = ap length d ∙ length-drop n [] in omega (arith, f))
leads q (b ∷ bs) k n r u clear h e d =
    let m = more b bs in
    let far : suc q + m ≡ r = let i = h.0 in omega (arith, i, e) in
    let rest : drop m bs ≡ u = sym (d ∙ ap (λ i. drop i (b ∷ bs)) h.0) in
    let there = token_step q b bs m (clear b bs refl) refl ∙ ap (next (token_of b (take m bs)) q) (ap₂ (lex 0) far rest) in
    (there ∙ sym (h.1 q (lex 0 r u)), let i = ap used there in let f = ap length d ∙ length-drop n (b ∷ bs) in let g = h.0 in omega (arith, i, f, g))

pub leads-within : (v : List ℕ) (k : Kind) (n : ℕ) → Leads v k n → n ≤ length v
leads-within [] k n h = let e = h.1 in omega (arith, e)
leads-within (b ∷ bs) k n h = let e = h.0 in let w = more_within b bs in omega (arith, e, w)

-- names, numbers and variables
letter_is : (b : ℕ) → 97 ≤ b → b ≤ 122 → is_letter b ≡ true
letter_is b h g = and_from (leb 97 b) (leb b 122) (le-leb 97 b h) (le-leb b 122 g)

digit_is : (b : ℕ) → 48 ≤ b → b ≤ 57 → is_digit b ≡ true
digit_is b h g = and_from (leb 48 b) (leb b 57) (le-leb 48 b h) (le-leb b 57 g)

small_is : (b : ℕ) → b < 97 → is_letter b ≡ false
small_is b h = and_left (leb 97 b) (leb b 122) (lt-leb 97 b h)

module _ (b : ℕ) (bs w : List ℕ) (k : Kind) (begins : w ≡ b ∷ bs) where
  pub leads_name : (n : ℕ) → 97 ≤ b → b ≤ 122 → n ≡ run_of is_letter w → Shows k (name_token (take n w)) → Leads w k n
  leads_name n h g e s =
      let l = letter_is b h g in
      let m : more b bs ≡ run_of is_letter bs = cond-true (is_letter b) _ _ l in
      let size : n ≡ suc (more b bs) = e ∙ ap (run_of is_letter) begins ∙ cond-true (is_letter b) _ _ l ∙ ap suc (sym m) in
      let token : name_token (take n w) ≡ token_of b (take (more b bs) bs) = ap₂ (λ x y. name_token (take x y)) size begins ∙ sym (cond-true (is_letter b) _ _ l) in
      subst (λ x. Leads x k n) (sym begins) (size, λ p z. s p z ∙ ap (λ x. next x p z) token)

  pub leads_number : (n : ℕ) → 48 ≤ b → b ≤ 57 → n ≡ run_of is_digit w → ((c : ℕ) (cs : List ℕ) → take n w ≡ c ∷ cs → Shows k (number_token c cs)) → Leads w k n
  leads_number n h g e s =
      let l = small_is b (omega (arith, g)) in
      let d = digit_is b h g in
      let m : more b bs ≡ run_of is_digit bs = cond-false (is_letter b) _ _ l ∙ cond-true (is_digit b) _ _ d in
      let size : n ≡ suc (more b bs) = e ∙ ap (run_of is_digit) begins ∙ cond-true (is_digit b) _ _ d ∙ ap suc (sym m) in
      let token : number_token b (take (more b bs) bs) ≡ token_of b (take (more b bs) bs) = sym (cond-false (is_letter b) _ _ l ∙ cond-true (is_digit b) _ _ d) in
      subst (λ x. Leads x k n) (sym begins) (size, λ p z. s b (take (more b bs) bs) (ap₂ (λ x y. take x y) size begins) p z ∙ ap (λ x. next x p z) token)

  pub leads_variable : (n r : ℕ) → b ≡ 63 → n ≡ 1 + r → r ≡ run_of is_letter bs → ((c : ℕ) (cs : List ℕ) → take n w ≡ c ∷ cs → Shows k (variable_token cs)) → Leads w k n
  leads_variable n r v f e s =
      let l = small_is b (omega (arith, v)) in
      let d : is_digit b ≡ false = and_right (leb 48 b) (leb b 57) (lt-leb b 57 (omega (arith, v))) in
      let q = eq-eqb b 63 v in
      let m : more b bs ≡ run_of is_letter bs = cond-false (is_letter b) _ _ l ∙ cond-false (is_digit b) _ _ d ∙ cond-true (eqb b 63) _ _ q in
      let size : n ≡ suc (more b bs) = omega (arith, f, e, m) in
      let token : variable_token (take (more b bs) bs) ≡ token_of b (take (more b bs) bs) = sym (cond-false (is_letter b) _ _ l ∙ cond-false (is_digit b) _ _ d ∙ cond-true (eqb b 63) _ _ q) in
      subst (λ x. Leads x k n) (sym begins) (size, λ p z. s b (take (more b bs) bs) (ap₂ (λ x y. take x y) size begins) p z ∙ ap (λ x. next x p z) token)
