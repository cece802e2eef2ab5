-- Laws of taking a list of facts out of a register, and of the puts of an operation that keeps within its bounds.
use Rattle.std.proofs.Common.{◌≡◌, ℕ, ◌+◌, ◌-◌, ◌<◌, ◌≤◌, Bool, true, false, cond, not, ◌&&◌, ◌||◌, leb, List, [], ◌∷◌, ◌++◌, length, take, Some, sym, refl, ap, ◌∙◌, ⊎_elim, arith}
use Rattle.std.proofs.lemmas.List.{take_all}
use Rattle.std.proofs.lemmas.Bool.{le-leb, lt-leb}
use Rattle.std.proofs.lemmas.Bool.Decides.{leb_tells}
use Rattle.std.specs.List.{slice_get}
use Rattle.registers.specs.declared.fact.Fact.{Fact}
use Rattle.registers.specs.Meaning.{Meaning, has, size_of, limit_of, allowed, excluding, all_allowed, including_all, after_put_all}
use Rattle.registers.specs.Records.{listed}
use Rattle.registers.proofs.Members.{listed_as}
use Rattle.registers.proofs.Laws.{is, has-excluding, excluding_absent, limit-excluding}
use Rattle.registers.proofs.ListLaws.{take-at_index, all_room}
use Rattle.registers.proofs.Taking.{size-excluding}
use Rattle.goals.specs.declared.operation.Operation.{Operation}
use Rattle.sessions.specs.declared.step.Arguments.{Arguments}
use Rattle.sessions.specs.Steps.{ground_all, excluding_all, facts_after}

pub excluding-none : (m : Meaning) → excluding_all m [] ≡ m
unfolding excluding_all
excluding-none m = refl

pub excluding-first : (m : Meaning) (f : Fact) (fs : List Fact) → excluding_all m (f ∷ fs) ≡ excluding_all (excluding m f) fs
unfolding excluding_all
excluding-first m f fs = refl

excluding-push : (m : Meaning) (xs : List Fact) (x : Fact) → excluding_all m (xs ++ x ∷ []) ≡ excluding (excluding_all m xs) x
unfolding excluding_all
excluding-push m [] x = refl
excluding-push m (y ∷ ys) x = excluding-push (excluding m y) ys x

pub excluding-more : (m : Meaning) (fs : List Fact) (k : ℕ) (f : Fact) → Some f ≡ slice_get fs k →
    excluding_all m (take (k + 1) fs) ≡ excluding (excluding_all m (take k fs)) f
excluding-more m fs k f e = ap (excluding_all m) (take-at_index fs k f e) ∙ excluding-push m (take k fs) f

pub limit_without : (m : Meaning) (fs : List Fact) → limit_of (excluding_all m fs) ≡ limit_of m
unfolding excluding_all
limit_without m [] = refl
limit_without m (f ∷ fs) = limit_without (excluding m f) fs ∙ limit-excluding m f

and_true : (h : Bool) → h ≡ (h && true)
and_true true = refl
and_true false = refl

and_swap : (s h l : Bool) → (cond s false h && not l) ≡ (h && not (s || l))
and_swap true true l = refl
and_swap true false l = refl
and_swap false h l = refl

-- what is held once a list is out
pub has_without : (m : Meaning) (fs : List Fact) (f : Fact) → has (excluding_all m fs) f ≡ (has m f && not (listed_as fs f))
unfolding excluding_all listed
has_without m [] f = and_true (has m f)
has_without m (x ∷ xs) f =
    has_without (excluding m x) xs f
    ∙ (ap (λ t. t && not (listed_as xs f)) (has-excluding m x f) ∙ and_swap (is x f) (has m f) (listed_as xs f))

-- a fact that is held and not in the list so far makes one fewer, any other none
pub held_more : (m : Meaning) (fs : List Fact) (k n : ℕ) (f : Fact) → Some f ≡ slice_get fs k → allowed f ≡ true →
    size_of (excluding_all m (take k fs)) + n ≡ size_of m → has m f ≡ true → listed_as (take k fs) f ≡ false →
    size_of (excluding_all m (take (k + 1) fs)) + (n + 1) ≡ size_of m
held_more m fs k n f e a q h l =
    let g : has (excluding_all m (take k fs)) f ≡ true =
    has_without m (take k fs) f ∙ (ap (λ t. t && not (listed_as (take k fs) f)) h ∙ ap not l) in
    omega (arith, q, size-excluding (excluding_all m (take k fs)) f a g, ap size_of (excluding-more m fs k f e))

absent_more : (m : Meaning) (fs : List Fact) (k n : ℕ) (f : Fact) → Some f ≡ slice_get fs k →
    size_of (excluding_all m (take k fs)) + n ≡ size_of m → has (excluding_all m (take k fs)) f ≡ false →
    size_of (excluding_all m (take (k + 1) fs)) + n ≡ size_of m
absent_more m fs k n f e q g =
    ap (λ t. size_of t + n) (excluding-more m fs k f e ∙ excluding_absent (excluding_all m (take k fs)) f g) ∙ q

and_false : (x : Bool) → (x && false) ≡ false
and_false true = refl
and_false false = refl

pub lacking_more : (m : Meaning) (fs : List Fact) (k n : ℕ) (f : Fact) → Some f ≡ slice_get fs k →
    size_of (excluding_all m (take k fs)) + n ≡ size_of m → has m f ≡ false →
    size_of (excluding_all m (take (k + 1) fs)) + n ≡ size_of m
lacking_more m fs k n f e q h =
    absent_more m fs k n f e q (has_without m (take k fs) f ∙ ap (λ t. t && not (listed_as (take k fs) f)) h)

pub listed_more : (m : Meaning) (fs : List Fact) (k n : ℕ) (f : Fact) → Some f ≡ slice_get fs k →
    size_of (excluding_all m (take k fs)) + n ≡ size_of m → listed_as (take k fs) f ≡ true →
    size_of (excluding_all m (take (k + 1) fs)) + n ≡ size_of m
listed_more m fs k n f e q l =
    absent_more m fs k n f e q (has_without m (take k fs) f ∙ (ap (λ t. has m f && not t) l ∙ and_false (has m f)))

-- the two ways that a fact is told to stay
pub stays_held : (m : Meaning) (fs : List Fact) (n : ℕ) (f : Fact) (taken : Bool) → length fs ≤ n → taken ≡ listed_as (take n fs) f → true ≡ has m f →
    not taken ≡ has (excluding_all m fs) f
stays_held m fs n f taken le e h =
    ap not (e ∙ ap (λ t. listed_as t f) (take_all n fs le))
    ∙ sym (has_without m fs f ∙ ap (λ t. t && not (listed_as fs f)) (sym h))

pub stays_lacking : (m : Meaning) (fs : List Fact) (f : Fact) (held : Bool) → held ≡ has m f → false ≡ has m f → held ≡ has (excluding_all m fs) f
stays_lacking m fs f held e h =
    e ∙ (sym h ∙ sym (has_without m fs f ∙ ap (λ t. t && not (listed_as fs f)) (sym h)))

-- room by what would be freed and what would be new
pub room-tells : (size limit held new without after : ℕ) → size ≤ limit → without + held ≡ size → without + new ≡ after →
    leb new (limit - size + held) ≡ leb after limit
room-tells size limit held new without after w h n =
    ⊎_elim
    (λ (e : (leb after limit ≡ true) × (after ≤ limit)). le-leb new (limit - size + held) (omega arith) ∙ sym e.0)
    (λ (e : (leb after limit ≡ false) × (limit < after)). lt-leb new (limit - size + held) (omega arith) ∙ sym e.0)
    (leb_tells after limit)

-- takes, then puts for which there is room
pub changed_to : (m n r : Meaning) (o : Operation) (a : Arguments) → all_allowed (ground_all a o.puts) ≡ true →
    size_of (facts_after m o a) ≤ limit_of m → n ≡ excluding_all m (ground_all a o.takes) → r ≡ after_put_all n (ground_all a o.puts) →
    r ≡ facts_after m o a
unfolding facts_after
changed_to m n r o a al l en er =
    let w = excluding_all m (ground_all a o.takes) in
    let fs = ground_all a o.puts in
    er
    ∙ (ap (λ t. after_put_all t fs) en
    ∙ sym (all_room w fs al (le-leb (size_of (including_all w fs)) (limit_of w) (omega (arith, l, limit_without m (ground_all a o.takes))))).after)
