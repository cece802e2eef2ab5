-- What the outcome of a reading means.
use Rattle.std.proofs.Common.{◌≡◌, ℕ, ◌+◌, Bool, true, false, cond, leb, List, length, sym, refl, ap, ◌∙◌, subst, inl, inr, ⊎_elim, arith}
use Rattle.std.proofs.lemmas.Bool.{cases_lt, both_ways}
use Rattle.goals.specs.Tokens.{Source, end, next, lexed}
use Rattle.goals.specs.Vocabulary.{Vocabulary}
use Rattle.goals.specs.Syntax.{Formula}
use Rattle.goals.specs.Grammar.{IsFormula}
use Rattle.goals.specs.Scopes.{outermost}
use Rattle.goals.specs.Conditions.{known-formula, ranged-formula, shallow-formula, formula_nodes}
use Rattle.goals.specs.Reading.{Around, top, Stage, wants, after, expects, equals, asks, closes, binds, bounds, opens, lower, upper, Moved, cannot, may, move, read, fault, ended, ended_around, followed, walk, run, start, reads}
use Rattle.goals.specs.GoalClaims.{Derives, Allowed, Exactly, OnlyReading}
use Rattle.goals.proofs.Whole.{reads_short, reads-long}
use Rattle.goals.proofs.Judging.{Goes, Meets, formula-reads}
use Rattle.goals.proofs.Sound.{OkAround, at_top, in-open, in_right, OkStage, ok_after, OkMoved, joins_or, starts, keeps}

fault-read : {c p : ℕ} {f : Formula} {A : Type 0} → fault c p ≡ read f → A
fault-read {c} {p} {f} e = let z : ◌≡◌ {A = ℕ} 0 1 = cc in absurd (omega arith)

fault_place : (c q p : ℕ) → fault c q ≡ fault 4 p → (c ≡ 4) × (q ≡ p)
fault_place c q p e = (cc, cc)

same_read : (f g : Formula) → read f ≡ read g → f ≡ g
same_read f g e = cc

module _ (V : Vocabulary) where
  -- what is read is derived
  ends : {y : Formula} (f : Formula) {a : Around} {w v : Source} {p : ℕ} → ended_around y a p ≡ read f → IsFormula V y v (end p) → OkAround V a w v → Derives V w f
  ends {y} f {w = w} {p = p} e d at_top = (p, subst (λ x. IsFormula V x w (end p)) (same_read y f e) d)
  ends f e d (in-open k) = fault-read e
  ends f e d (in_right k a j) = fault-read e

  at_the_end : (g : Stage) (w : Source) (p : ℕ) (f : Formula) → OkStage V g w (end p) → ended g p ≡ read f → Derives V w f
  at_the_end (wants k) w p f h e = fault-read e
  at_the_end (after c o a) w p f (ok_after d l k) e = ends f e (joins_or V l d) k
  at_the_end (expects c g) w p f h e = fault-read e
  at_the_end (equals x k) w p f h e = fault-read e
  at_the_end (asks a) w p f h e = fault-read e
  at_the_end (closes r t i) w p f h e = fault-read e
  at_the_end (binds q k) w p f h e = fault-read e
  at_the_end (bounds q v k) w p f h e = fault-read e
  at_the_end (opens m) w p f h e = fault-read e
  at_the_end (lower m) w p f h e = fault-read e
  at_the_end (upper m lo) w p f h e = fault-read e

  reads_on : (w s : Source) (n p : ℕ) (f : Formula) (v : Moved) → OkMoved V v w s → ((i : ℕ) (j : Stage) → OkStage V j w s → run V i j s ≡ read f → Derives V w f) → followed true v n p (λ i j. run V i j s) ≡ read f → Derives V w f
  reads_on w s n p f cannot h rec e = fault-read e
  reads_on w s n p f (may b c q m g) h rec e = pick b (leb (n + m) 128) e
    where
      pick : (x y : Bool) → cond x (cond y (run V (n + m) g s) (fault 7 p)) (fault c q) ≡ read f → Derives V w f
      pick true true d = rec (n + m) g h.0 d
      pick true false d = fault-read d
      pick false y d = fault-read d

  sound : (n : ℕ) (g : Stage) (w s : Source) (f : Formula) → OkStage V g w s → run V n g s ≡ read f → Derives V w f
  unfolding walk
  sound n g w (end p) f h e = at_the_end g w p f h e
  sound n g w (next x p s) f h e = reads_on w s n p f (move V g x p) (keeps V x p h) (λ i j. sound i j w s f) e

  -- what is derived is read where the conditions hold, and by the grammar alone in any case
  whole-goes : (strict : Bool) (w : Source) (f : Formula) → Derives V w f → Goes (Meets strict (known-formula V outermost f) (ranged-formula V f) (shallow-formula outermost f) 0 (formula_nodes f)) (walk V strict 0 start w) (read f)
  unfolding walk
  whole-goes strict w f d =
      let m = formula-reads V strict d.1 top 0 in
      ⊎_elim (λ x. inl (x.0, x.1 ∙ ap read m.whole)) inr m.reads.goes

  pub grammar_reads : (w : Source) (f : Formula) → Derives V w f → walk V false 0 start w ≡ read f
  grammar_reads w f d = ⊎_elim (λ x. x.1) (λ x. absurd (x.0 (λ z. absurd (both_ways false refl z)))) (whole-goes false w f d)

pub only-reading : OnlyReading
only-reading V w f g d e = same_read f g (sym (grammar_reads V w f d) ∙ grammar_reads V w g e)

allowed : (V : Vocabulary) (text : List ℕ) (f : Formula) → reads V text ≡ read f → Allowed V text f
allowed V text f e =
    ⊎_elim
    (λ l. let r : run V 0 start (lexed text 0) ≡ read f = sym (reads_short V text (omega (arith, l))) ∙ e in
    let d = sound V 0 start (lexed text 0) (lexed text 0) f (starts V at_top) r in
    ⊎_elim
    (λ x. let m = x.0 refl in record { short = omega (arith, l); derived = d; known = m.0; ranged = m.1; shallow = m.2; few = let q = m.3 in omega (arith, q) })
    (λ x. fault-read (sym x.1.2 ∙ r)) (whole-goes V true (lexed text 0) f d))
    (λ l. fault-read (sym (reads-long V text (omega (arith, l))) ∙ e)) (cases_lt (length text) 2049)

accepted : (V : Vocabulary) (text : List ℕ) (f : Formula) → Allowed V text f → reads V text ≡ read f
accepted V text f a =
    reads_short V text a.short
    ∙ ⊎_elim (λ x. x.1) (λ x. absurd (x.0 (λ z. (a.known, a.ranged, a.shallow, let q = a.few in omega (arith, q))))) (whole-goes V true (lexed text 0) f a.derived)

pub exactly : Exactly
exactly V text t = (λ x. (x.0, allowed V text x.0 x.1, x.2), λ x. (x.0, accepted V text x.0 x.1, x.2))

-- the conditions hold of what is read
pub read-ranged : (V : Vocabulary) (text : List ℕ) (f : Formula) → reads V text ≡ read f → ranged-formula V f ≡ true
read-ranged V text f e = (allowed V text f e).ranged
