-- The facts of a file by their index, and what putting them comes to in each of its cases.
use Rattle.std.proofs.Common.{◌≡◌, ℕ, zero, suc, ◌+◌, ◌*◌, ◌<◌, ◌≤◌, true, false, cond, ◌&&◌, List, [], ◌∷◌, length, is_ok, Some, None, Ok, Err, Result, sym, refl, ap, ◌∙◌, arith}
use Rattle.std.specs.List.{slice_get, list_all}
use Rattle.std.proofs.lemmas.Bool.{cond-true, cond-false}
use Rattle.registers.specs.declared.fact.Fact.{Fact}
use Rattle.registers.specs.declared.refusal.Refusal.{Refusal}
use Rattle.registers.specs.declared.refusal.Refusal.TheVariants.{OutOfBounds}
use Rattle.registers.specs.Meaning.{Meaning, including_all, put_all_answer, after_put_all}
use Rattle.goals.specs.declared.frame.Frame.{Frame}
use Rattle.goals.specs.Filling.{fact_at, facts_from, facts_of, declared, all_declared, facts_answer, after_facts}

pub facts-count : (file : List ℕ) (n at : ℕ) → length (facts_from file n at) ≡ n
unfolding facts_from
facts-count file zero at = refl
facts-count file (suc n) at = ap suc (facts-count file n (at + 3))

pub fact-there : (file : List ℕ) (n at k : ℕ) → k < n → Some (fact_at file (at + 3 * k)) ≡ slice_get (facts_from file n at) k
unfolding facts_from
fact-there file zero at k l = absurd (omega arith)
fact-there file (suc n) at zero l = ap (λ t. Some (fact_at file t)) (let e : at + 3 * 0 ≡ at = omega arith in e)
fact-there file (suc n) at (suc k) l =
    ap (λ t. Some (fact_at file t)) (let e : at + 3 * suc k ≡ at + 3 + 3 * k = omega arith in e) ∙ fact-there file n (at + 3) k (omega arith)

pub fact_past : (file : List ℕ) (n at k : ℕ) → n ≤ k → None ≡ slice_get (facts_from file n at) k
unfolding facts_from
fact_past file zero at k l = refl
fact_past file (suc n) at zero l = absurd (omega arith)
fact_past file (suc n) at (suc k) l = fact_past file n (at + 3) k (omega arith)

-- testing each fact is testing them all
pub all_declared-all : (file : List ℕ) (f : Frame) (fs : List Fact) → list_all (declared file f) fs ≡ all_declared file f fs
unfolding all_declared
all_declared-all file f [] = refl
all_declared-all file f (x ∷ fs) = ap (λ t. declared file f x && t) (all_declared-all file f fs)

-- the cases of putting them

pub facts_undeclared : (m : Meaning) (file : List ℕ) (f : Frame) → all_declared file f (facts_of file f) ≡ false → Err OutOfBounds ≡ facts_answer m file f
unfolding facts_answer
facts_undeclared m file f d = sym (cond-false (all_declared file f (facts_of file f)) _ _ d)

pub facts-put : (m : Meaning) (file : List ℕ) (f : Frame) → all_declared file f (facts_of file f) ≡ true → put_all_answer m (facts_of file f) ≡ facts_answer m file f
unfolding facts_answer
facts-put m file f d = sym (cond-true (all_declared file f (facts_of file f)) _ _ d)

pub facts-after : (m : Meaning) (file : List ℕ) (f : Frame) (r : Result (Unit {0}) Refusal) → r ≡ put_all_answer m (facts_of file f) → after_put_all m (facts_of file f) ≡ after_facts m file f r
unfolding after_put_all
facts-after m file f (Ok u) e = ap (λ r. cond (is_ok r) (including_all m (facts_of file f)) m) (sym e)
facts-after m file f (Err x) e = ap (λ r. cond (is_ok r) (including_all m (facts_of file f)) m) (sym e)
