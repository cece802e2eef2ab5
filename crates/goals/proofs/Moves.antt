-- One token of a reading at a time.
use Rattle.std.proofs.Common.{◌≡◌, ℕ, ◌+◌, ◌<◌, ◌≤◌, Bool, true, false, eqb, leb, [], ◌∷◌, length, sym, refl, ap, ◌∙◌, subst, ap₂, arith, ne_eqb, le-leb}
use borrow.Author.Tests.{lt-leb}
use Rattle.std.proofs.lemmas.Bool.{cond-true, cond-false}
use Rattle.goals.specs.declared.progress.Progress.{Progress}
use Rattle.goals.specs.declared.progress.Prefix.{Prefix}
use Rattle.goals.specs.declared.goal.Node.{Node}
use Rattle.goals.specs.Tokens.{Tok, word, variable, digits, mark, bad, Source, end, next}
use Rattle.goals.specs.declared.rest.Rest.{Rest}
use Rattle.goals.specs.declared.token.Sign.{Sign}
use Rattle.goals.specs.declared.token.Kind.{Kind}
use Rattle.goals.specs.declared.token.Token.{Token}
use Rattle.goals.specs.Seen.{tokens_in, mark_of, is_sign, used, Shows, TokenAt}
use Rattle.goals.specs.Vocabulary.{Vocabulary}
use Rattle.goals.specs.Reading.{Stage, Moved, cannot, may, signed, move, fault, ended, followed, walk, run}
use Rattle.goals.specs.Promises.{left, tokens, from, Passed, Added, Closed, Still, Here, SignRead, head_sign, head_place}
use Rattle.goals.proofs.Heads.{shows_sign, other_sign}

module _ (V : Vocabulary) where
  pub goes : (n : ℕ) (g : Stage) (x : Tok) (p : ℕ) (s : Source) (b : Bool) (c y m : ℕ) (h : Stage) → move V g x p ≡ may b c y m h → b ≡ true → n + m ≤ 128 → run V n g (next x p s) ≡ run V (n + m) h s
  unfolding walk
  goes n g x p s b c y m h e t l =
      ap (λ v. followed true v n p (λ i j. run V i j s)) e ∙ cond-true b _ _ t ∙ cond-true (leb (n + m) 128) _ _ (le-leb (n + m) 128 l)

  pub fails : (n : ℕ) (g : Stage) (x : Tok) (p : ℕ) (s : Source) (b : Bool) (c y m : ℕ) (h : Stage) → move V g x p ≡ may b c y m h → b ≡ false → run V n g (next x p s) ≡ fault c y
  unfolding walk
  fails n g x p s b c y m h e t = ap (λ v. followed true v n p (λ i j. run V i j s)) e ∙ cond-false b _ _ t

  pub overruns : (n : ℕ) (g : Stage) (x : Tok) (p : ℕ) (s : Source) (b : Bool) (c y m : ℕ) (h : Stage) → move V g x p ≡ may b c y m h → b ≡ true → 128 < n + m → run V n g (next x p s) ≡ fault 7 p
  unfolding walk
  overruns n g x p s b c y m h e t l =
      ap (λ v. followed true v n p (λ i j. run V i j s)) e ∙ cond-true b _ _ t ∙ cond-false (leb (n + m) 128) _ _ (lt-leb (n + m) 128 l)

  pub halts : (n : ℕ) (g : Stage) (x : Tok) (p : ℕ) (s : Source) → move V g x p ≡ cannot → run V n g (next x p s) ≡ fault 4 p
  unfolding walk
  halts n g x p s e = ap (λ v. followed true v n p (λ i j. run V i j s)) e

  pub stops : (n : ℕ) (g : Stage) (p : ℕ) → run V n g (end p) ≡ ended g p
  unfolding walk
  stops n g p = refl

  -- a stage at which only one sign can follow
  pub lone : (n : ℕ) (g : Stage) (c : ℕ) (row : ℕ → Moved) → ((x : Tok) (p : ℕ) → move V g x p ≡ signed x ((c, row p) ∷ [])) → ((p : ℕ) → ended g p ≡ fault 4 p) → (s : Source) → (head_sign s ≡ c → ⊥) → run V n g s ≡ fault 4 (head_place s)
  lone n g c row e d (end p) h = stops n g p ∙ d p
  lone n g c row e d (next (word b) p s) h = halts n g (word b) p s (e (word b) p)
  lone n g c row e d (next (variable v) p s) h = halts n g (variable v) p s (e (variable v) p)
  lone n g c row e d (next (digits b) p s) h = halts n g (digits b) p s (e (digits b) p)
  lone n g c row e d (next (mark b) p s) h = halts n g (mark b) p s (e (mark b) p ∙ cond-false (eqb b c) _ _ (ne_eqb b c h))
  lone n g c row e d (next bad p s) h = halts n g bad p s (e bad p)

-- the same where the reader stands
module _ {p : Progress} {x : Tok} {place : ℕ} {behind : Rest} (v : Here p x place behind) (V : Vocabulary) (g : Stage) {b : Bool} {c y m : ℕ} {h : Stage} (e : move V g x place ≡ may b c y m h) where
  pub step : {q : Progress} → b ≡ true → Passed p q m behind → from V p g ≡ from V q h
  step {q} t d =
      let f : q.count ≤ 128 = q.few in
      let l : p.count + m ≤ 128 = let i = d.count_is in omega (arith, f, i) in
      ap (run V p.count g) v.there ∙ goes V p.count g x place _ b c y m h e t l
      ∙ ap₂ (λ i a. run V i h (tokens_in a)) (sym d.count_is) (sym d.rest_is)

  pub fail : b ≡ false → from V p g ≡ fault c y
  fail t = ap (run V p.count g) v.there ∙ fails V p.count g x place _ b c y m h e t

  pub overrun : b ≡ true → 128 < p.count + m → from V p g ≡ fault 7 place
  overrun t l = ap (run V p.count g) v.there ∙ overruns V p.count g x place _ b c y m h e t l

-- how many bytes are left
pub passed-left : {p q : Progress} {n : ℕ} {r : Rest} → Passed p q n r → left q ≡ length r.bytes.now
passed-left d = ap (λ r. length r.bytes.now) d.rest_is

pub added-left : {p q : Progress} {n : Node} {i : ℕ} → Added p q n i → left q ≡ left p
added-left a = ap (λ r. length r.bytes.now) a.rest_same

pub closed-left : {p q : Progress} {x : Prefix} {i j : ℕ} → Closed p q x i j → left q ≡ left p
closed-left a = ap (λ r. length r.bytes.now) a.rest_same

-- a token was taken from the text
pub shown : (p : Progress) {t : Token} → TokenAt p.rest t → (x : Tok) → Shows t.kind x → Here p x t.place t.rest
shown p {t} v x e =
    let there = v.there ∙ e t.place (tokens_in t.rest) in
    record { there = there; further = let u = ap used there in let f = v.further in omega (arith, u, f) }

pub here : (p : Progress) {t : Token} {k : Kind} → TokenAt p.rest t → t.kind ≡ k → (x : Tok) → Shows k x → Here p x t.place t.rest
here p v i x e = shown p v x (subst (λ k. Shows k x) (sym i) e)

pub sign_at : (p : Progress) {t : Token} → TokenAt p.rest t → (g : Sign) → is_sign t.kind g ≡ true → Here p (mark (mark_of g)) t.place t.rest
sign_at p {t} v g e = shown p v (mark (mark_of g)) (shows_sign t.kind g e)

-- the token is not this sign
pub not_at : (p : Progress) {t : Token} → TokenAt p.rest t → (g : Sign) → is_sign t.kind g ≡ false → head_sign (tokens p) ≡ mark_of g → ⊥
not_at p {t} v g e h = other_sign t.kind g t.place (tokens_in t.rest) e (sym (ap head_sign v.there) ∙ h)

-- a sign that has to stand here
module _ {p q : Progress} {c : ℕ} (r : SignRead p q c) where
  sign_passed : Passed p q 0 q.rest
  sign_passed = record { rest_is = refl; count_is = let e = r.still.count_same in omega (arith, e); nodes_same = r.still.nodes_same }

  sign_here : Here p (mark c) r.place q.rest
  sign_here = record { there = r.there; further = r.still.further }

  pub sign_step : (V : Vocabulary) (g : Stage) {b : Bool} {k y : ℕ} {h : Stage} → move V g (mark c) r.place ≡ may b k y 0 h → b ≡ true → from V p g ≡ from V q h
  sign_step V g e t = step sign_here V g e t sign_passed

  pub sign_fail : (V : Vocabulary) (g : Stage) {b : Bool} {k y : ℕ} {h : Stage} → move V g (mark c) r.place ≡ may b k y 0 h → b ≡ false → from V p g ≡ fault k y
  sign_fail V g e t = fail sign_here V g e t

pub still-then : {p q u : Progress} → Still p q → Still q u → Still p u
still-then a b = record {
  nodes_same = b.nodes_same ∙ a.nodes_same;
  count_same = b.count_same ∙ a.count_same;
  further = let i = a.further in let j = b.further in omega (arith, i, j);
}

pub still-passed : {p q : Progress} {x : Tok} {place : ℕ} {behind : Rest} → Here p x place behind → Passed p q 0 behind → Still p q
still-passed {p} {q} {x} {place} {behind} v d = record {
  nodes_same = d.nodes_same;
  count_same = let e = d.count_is in omega (arith, e);
  further = let e = passed-left d in let l = v.further in omega (arith, e, l);
}
