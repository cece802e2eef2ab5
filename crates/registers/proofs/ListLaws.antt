-- Laws of putting whole lists: membership, size and limit with every fact of a list in, one more fact at a time.
use Rattle.std.proofs.Common.{◌≡◌, ℕ, zero, suc, ◌+◌, ◌<◌, ◌≤◌, Bool, true, false, cond, not, ◌&&◌, ◌||◌, ltb, leb, List, [], ◌∷◌, ◌++◌, length, take, drop, is_ok, Option, Some, None, MatchOption, Ok, Err, Result, sym, refl, ap, ◌∙◌, ⊎_elim, arith, is_some}
use Rattle.std.specs.List.{slice_get, list_all, list_any, position, position_or_len}
use Rattle.std.proofs.lemmas.List.{append-nil, take-append-drop}
use Rattle.std.proofs.lemmas.Bool.{cases_Bool, cond-true, cond-false, not_from_true, not_from_false, and_parts, lt-ltb, le-ltb, leb-true, leb-false, ltb-true, ltb-false}
use Rattle.registers.specs.declared.fact.Fact.{Fact}
use Rattle.registers.specs.declared.refusal.Refusal.{Refusal}
use Rattle.registers.specs.declared.refusal.Refusal.TheVariants.{OutOfBounds, Full}
use Rattle.registers.specs.Meaning.{Meaning, has, size_of, limit_of, allowed, including, after_put, including_all, all_allowed, put_all_answer, after_put_all}
use Rattle.registers.specs.Records.{listed, is_record}
use Rattle.registers.proofs.Members.{listed_as}
use Rattle.registers.proofs.Laws.{is, has-including, including_held, limit-including, size-including, size-including_le, size-including_ge, put_held, put-room}

-- reading a list by its index

pub drop-at_index : {X : Type 0} (xs : List X) (k : ℕ) (x : X) → Some x ≡ slice_get xs k → drop k xs ≡ x ∷ drop (k + 1) xs
drop-at_index [] k x e = let z : ◌≡◌ {A = ℕ} 0 1 = cc in absurd (omega arith)
drop-at_index (y ∷ ys) zero x e = let q : y ≡ x = cc in ap (λ t. t ∷ ys) q
drop-at_index (y ∷ ys) (suc k) x e = drop-at_index ys k x e ∙ ap (λ n. x ∷ drop n (y ∷ ys)) (let q : suc (k + 1) ≡ suc k + 1 = omega arith in q)

pub take-at_index : {X : Type 0} (xs : List X) (k : ℕ) (x : X) → Some x ≡ slice_get xs k → take (k + 1) xs ≡ take k xs ++ x ∷ []
take-at_index [] k x e = let z : ◌≡◌ {A = ℕ} 0 1 = cc in absurd (omega arith)
take-at_index (y ∷ ys) zero x e = let q : y ≡ x = cc in ap (λ t. t ∷ []) q
take-at_index (y ∷ ys) (suc k) x e =
    ap (λ n. take n (y ∷ ys)) (let q : suc k + 1 ≡ suc (k + 1) = omega arith in q) ∙ ap (λ t. y ∷ t) (take-at_index ys k x e)

pub none_past : {X : Type 0} (xs : List X) (k : ℕ) → k < length xs → None ≡ slice_get xs k → ⊥
none_past [] k l e = omega arith
none_past (y ∷ ys) zero l e = let z : ◌≡◌ {A = ℕ} 0 1 = cc in omega arith
none_past (y ∷ ys) (suc k) l e = none_past ys k (omega arith) e

-- the first of what is left stands at the index, and what is left behind it begins one further on
pub index-of_first : {X : Type 0} (xs : List X) (k : ℕ) (x : X) (ys : List X) → drop k xs ≡ x ∷ ys → (Some x ≡ slice_get xs k) × (drop (k + 1) xs ≡ ys)
index-of_first [] zero x ys e = let z : ◌≡◌ {A = ℕ} 0 1 = cc in absurd (omega arith)
index-of_first [] (suc k) x ys e = let z : ◌≡◌ {A = ℕ} 0 1 = cc in absurd (omega arith)
index-of_first (y ∷ xs) zero x ys e = let q : x ≡ y = cc in let r : xs ≡ ys = cc in (ap Some q, r)
index-of_first (y ∷ xs) (suc k) x ys e =
    let r = index-of_first xs k x ys e in
    (r.0, ap (λ n. drop n (y ∷ xs)) (let q : suc k + 1 ≡ suc (k + 1) = omega arith in q) ∙ r.1)

-- what reading by an index gives before the end is the first of what is left there
pub first-at_index : {X : Type 0} (xs : List X) (k : ℕ) (r : Option X) → r ≡ slice_get xs k → k < length xs →
    MatchOption r ((drop k xs ≡ []) × (drop (k + 1) xs ≡ [])) (λ x. drop k xs ≡ x ∷ drop (k + 1) xs)
first-at_index xs k (Some x) e l = drop-at_index xs k x e
first-at_index xs k None e l = absurd (none_past xs k l e)

-- every fact in bounds

pub allowed_at : (fs : List Fact) (k : ℕ) (f : Fact) → Some f ≡ slice_get fs k → all_allowed fs ≡ true → allowed f ≡ true
unfolding all_allowed
allowed_at [] k f e h = let z : ◌≡◌ {A = ℕ} 0 1 = cc in absurd (omega arith)
allowed_at (y ∷ ys) zero f e h = let q : y ≡ f = cc in ap allowed (sym q) ∙ (and_parts (allowed y) _ h).0
allowed_at (y ∷ ys) (suc k) f e h = allowed_at ys k f e (and_parts (allowed y) _ h).1

pub allowed_cons : (f : Fact) (fs : List Fact) → all_allowed (f ∷ fs) ≡ (allowed f && all_allowed fs)
unfolding all_allowed
allowed_cons f fs = refl

pub all_allowed-all : (fs : List Fact) → list_all allowed fs ≡ all_allowed fs
unfolding all_allowed
all_allowed-all [] = refl
all_allowed-all (f ∷ fs) = ap (λ t. allowed f && t) (all_allowed-all fs)

pub allowed-none : all_allowed [] ≡ true
unfolding all_allowed
allowed-none = refl

-- every fact of a list in

pub including-none : (m : Meaning) → including_all m [] ≡ m
unfolding including_all
including-none m = refl

pub including-append : (m : Meaning) (xs ys : List Fact) → including_all m (xs ++ ys) ≡ including_all (including_all m xs) ys
unfolding including_all
including-append m [] ys = refl
including-append m (x ∷ xs) ys = including-append (including m x) xs ys

pub including-push : (m : Meaning) (xs : List Fact) (x : Fact) → including_all m (xs ++ x ∷ []) ≡ including (including_all m xs) x
unfolding including_all
including-push m xs x = including-append m xs (x ∷ [])

pub including-more : (m : Meaning) (fs : List Fact) (k : ℕ) (f : Fact) → Some f ≡ slice_get fs k →
    including_all m (take (k + 1) fs) ≡ including (including_all m (take k fs)) f
including-more m fs k f e = ap (including_all m) (take-at_index fs k f e) ∙ including-push m (take k fs) f

pub limit-all : (m : Meaning) (fs : List Fact) → limit_of (including_all m fs) ≡ limit_of m
unfolding including_all
limit-all m [] = refl
limit-all m (f ∷ fs) = limit-all (including m f) fs ∙ limit-including m f

pub size-all_ge : (m : Meaning) (fs : List Fact) → size_of m ≤ size_of (including_all m fs)
unfolding including_all
size-all_ge m [] = omega arith
size-all_ge m (f ∷ fs) = omega (arith, size-including_ge m f, size-all_ge (including m f) fs)

pub size-all_le : (m : Meaning) (fs : List Fact) → size_of (including_all m fs) ≤ size_of m + length fs
unfolding including_all
size-all_le m [] = omega arith
size-all_le m (f ∷ fs) = omega (arith, size-including_le m f, size-all_le (including m f) fs)

-- with the first facts in there are no more than with all
pub size-part_le : (m : Meaning) (fs : List Fact) (k : ℕ) → size_of (including_all m (take k fs)) ≤ size_of (including_all m fs)
size-part_le m fs k =
    let e : including_all m fs ≡ including_all (including_all m (take k fs)) (drop k fs)
    = ap (including_all m) (sym (take-append-drop k fs)) ∙ including-append m (take k fs) (drop k fs) in
    let s : size_of (including_all m fs) ≡ size_of (including_all (including_all m (take k fs)) (drop k fs)) = ap size_of e in
    omega (arith, size-all_ge (including_all m (take k fs)) (drop k fs), s)

or_swap : (s h l : Bool) → (cond s true h || l) ≡ (h || (s || l))
or_swap true true l = refl
or_swap true false l = refl
or_swap false h l = refl

or_false : (h : Bool) → h ≡ (h || false)
or_false true = refl
or_false false = refl

pub has_all : (m : Meaning) (fs : List Fact) (f : Fact) → has (including_all m fs) f ≡ (has m f || listed_as fs f)
unfolding including_all listed
has_all m [] f = or_false (has m f)
has_all m (x ∷ xs) f =
    has_all (including m x) xs f
    ∙ (ap (λ t. t || listed_as xs f) (has-including m x f) ∙ or_swap (is x f) (has m f) (listed_as xs f))

-- a fact for which there is room when it is in is put in
pub put-fits : (m : Meaning) (f : Fact) → allowed f ≡ true → size_of (including m f) ≤ limit_of m → after_put m f ≡ including m f
put-fits m f a l =
    ⊎_elim
    (λ (h : has m f ≡ true). sym (put_held m f a h).after ∙ sym (including_held m f h))
    (λ (h : has m f ≡ false). sym (put-room m f a (omega (arith, size-including m f a h))).after)
    (cases_Bool (has m f))

-- one more put, where there is room for all
pub put-more : (m n : Meaning) (fs : List Fact) (k : ℕ) (f : Fact) → all_allowed fs ≡ true → size_of (including_all m fs) ≤ limit_of m → Some f ≡ slice_get fs k →
    n ≡ including_all m (take k fs) → after_put n f ≡ including_all m (take (k + 1) fs)
put-more m n fs k f a l e q =
    let r = including-more m fs k f e in
    let s : size_of (including_all m (take (k + 1) fs)) ≡ size_of (including (including_all m (take k fs)) f) = ap size_of r in
    ap (λ t. after_put t f) q
    ∙ (put-fits (including_all m (take k fs)) f (allowed_at fs k f e a) (omega (arith, size-part_le m fs (k + 1), limit-all m (take k fs), s)) ∙ sym r)

-- the next one of those that are left is put, where there is room for all
pub put-next : (m n : Meaning) (fs rest : List Fact) (f : Fact) → size_of (including_all m fs) ≤ limit_of m →
    including_all n (f ∷ rest) ≡ including_all m fs → all_allowed (f ∷ rest) ≡ true →
    (including_all (after_put n f) rest ≡ including_all m fs) × (all_allowed rest ≡ true)
unfolding including_all
put-next m n fs rest f room e a =
    let b = and_parts (allowed f) (all_allowed rest) (sym (allowed_cons f rest) ∙ a) in
    let one : including_all n (f ∷ rest) ≡ including_all (including n f) rest = refl in
    let put : after_put n f ≡ including n f
    = put-fits n f b.0
    (omega (arith, room, ap limit_of e, limit-all n (f ∷ rest), limit-all m fs, size-all_ge (including n f) rest, ap size_of one, ap size_of e)) in
    (ap (λ t. including_all t rest) put ∙ (sym one ∙ e), b.1)

-- a fact that is new to the register and to the list so far makes one more, any other none
pub new-more : (m : Meaning) (fs : List Fact) (k n : ℕ) (f : Fact) → all_allowed fs ≡ true → Some f ≡ slice_get fs k →
    size_of m + n ≡ size_of (including_all m (take k fs)) → has m f ≡ false → listed_as (take k fs) f ≡ false →
    size_of m + (n + 1) ≡ size_of (including_all m (take (k + 1) fs))
new-more m fs k n f a e q h l =
    let g : has (including_all m (take k fs)) f ≡ false = has_all m (take k fs) f ∙ (ap (λ t. t || listed_as (take k fs) f) h ∙ l) in
    omega (arith, q, size-including (including_all m (take k fs)) f (allowed_at fs k f e a) g, ap size_of (including-more m fs k f e))

or_true : (x : Bool) → (x || true) ≡ true
or_true true = refl
or_true false = refl

pub old_more : (m : Meaning) (fs : List Fact) (k n : ℕ) (f : Fact) → Some f ≡ slice_get fs k →
    size_of m + n ≡ size_of (including_all m (take k fs)) → has (including_all m (take k fs)) f ≡ true →
    size_of m + n ≡ size_of (including_all m (take (k + 1) fs))
old_more m fs k n f e q g =
    q ∙ ap size_of (sym (including-more m fs k f e ∙ including_held (including_all m (take k fs)) f g))

pub held_more : (m : Meaning) (fs : List Fact) (k n : ℕ) (f : Fact) → Some f ≡ slice_get fs k →
    size_of m + n ≡ size_of (including_all m (take k fs)) → has m f ≡ true →
    size_of m + n ≡ size_of (including_all m (take (k + 1) fs))
held_more m fs k n f e q h = old_more m fs k n f e q (has_all m (take k fs) f ∙ ap (λ t. t || listed_as (take k fs) f) h)

pub listed-before-more : (m : Meaning) (fs : List Fact) (k n : ℕ) (f : Fact) → Some f ≡ slice_get fs k →
    size_of m + n ≡ size_of (including_all m (take k fs)) → listed_as (take k fs) f ≡ true →
    size_of m + n ≡ size_of (including_all m (take (k + 1) fs))
listed-before-more m fs k n f e q l =
    old_more m fs k n f e q (has_all m (take k fs) f ∙ (ap (λ t. has m f || t) l ∙ or_true (has m f)))

-- putting a list, case by case

pub record Puts-all (m : Meaning) (fs : List Fact) (r : Result (Unit {0}) Refusal) (n : Meaning) : Type 0 where
  pub answer : r ≡ put_all_answer m fs
  pub after : n ≡ after_put_all m fs

puts-all : (m : Meaning) (fs : List Fact) (r : Result (Unit {0}) Refusal) (n : Meaning) → r ≡ put_all_answer m fs → cond (is_ok r) (including_all m fs) m ≡ n → Puts-all m fs r n
unfolding after_put_all
puts-all m fs r n e q = record { answer = e; after = sym q ∙ ap (λ x. cond (is_ok x) (including_all m fs) m) e }

pub all_outside : (m : Meaning) (fs : List Fact) → all_allowed fs ≡ false → Puts-all m fs (Err OutOfBounds) m
unfolding put_all_answer
all_outside m fs a = puts-all m fs (Err OutOfBounds) m (sym (cond-true (not (all_allowed fs)) _ _ (not_from_false (all_allowed fs) a))) refl

inside : (m : Meaning) (fs : List Fact) → all_allowed fs ≡ true →
    put_all_answer m fs ≡ cond (ltb (limit_of m) (size_of (including_all m fs))) (Err Full) (Ok tt)
unfolding put_all_answer
inside m fs a = cond-false (not (all_allowed fs)) _ _ (not_from_true (all_allowed fs) a)

pub all_full : (m : Meaning) (fs : List Fact) → all_allowed fs ≡ true → leb (size_of (including_all m fs)) (limit_of m) ≡ false → Puts-all m fs (Err Full) m
all_full m fs a l =
    puts-all m fs (Err Full) m
    (sym (inside m fs a ∙ cond-true (ltb (limit_of m) (size_of (including_all m fs))) _ _ (lt-ltb _ _ (leb-false _ _ l))))
    refl

pub all_room : (m : Meaning) (fs : List Fact) → all_allowed fs ≡ true → leb (size_of (including_all m fs)) (limit_of m) ≡ true → Puts-all m fs (Ok tt) (including_all m fs)
all_room m fs a l =
    puts-all m fs (Ok tt) (including_all m fs)
    (sym (inside m fs a ∙ cond-false (ltb (limit_of m) (size_of (including_all m fs))) _ _ (le-ltb _ _ (leb-true _ _ l))))
    refl

-- finding a fact among the first ones of a list

pub listed-none : (f : Fact) → listed_as [] f ≡ false
unfolding listed
listed-none f = refl

pub listed-any : (f : Fact) (fs : List Fact) → list_any (is_record f) fs ≡ listed_as fs f
unfolding listed
listed-any f [] = refl
listed-any f (x ∷ fs) = ap (λ t. is_record f x || t) (listed-any f fs)

-- where nothing is left behind an index, all are before it
pub taken_all : {X : Type 0} (xs : List X) (k : ℕ) → drop k xs ≡ [] → take k xs ≡ xs
taken_all xs k e = sym (append-nil (take k xs)) ∙ (ap (λ t. take k xs ++ t) (sym e) ∙ take-append-drop k xs)

first_step : (b r : Bool) (a n : ℕ) → ltb a n ≡ r → ltb (cond (not b) (1 + a) 0) (suc n) ≡ (b || r)
first_step true r a n e = lt-ltb 0 (suc n) (omega arith)
first_step false true a n e = lt-ltb (1 + a) (suc n) (omega (arith, ltb-true a n e))
first_step false false a n e = le-ltb (1 + a) (suc n) (omega (arith, ltb-false a n e))

-- an element that passes has a place exactly if there is one
pub any-position : {X : Type 0} (p : X → Bool) (xs : List X) → is_some (position p xs) ≡ list_any p xs
any-position {X} p xs = shown _ _ ∙ first_in xs where
  shown : (b : Bool) (k : ℕ) → is_some (cond b (Some k) None) ≡ b
  shown true k = refl
  shown false k = refl

  first_in : (ys : List X) → ltb (position_or_len p ys) (length ys) ≡ list_any p ys
  first_in [] = le-ltb 0 0 (omega arith)
  first_in (y ∷ ys) = first_step (p y) _ (position_or_len p ys) (length ys) (first_in ys)
