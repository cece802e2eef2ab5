-- What the list register's steps come to: a record found, one more, one fewer.
use Rattle.std.proofs.Common.{◌≡◌, ℕ, is_some, Some, ◌+◌, ◌-◌, ◌<◌, ◌≤◌, min, true, false, ◌||◌, List, [], ◌∷◌, ◌++◌, length, get_or, take, set, sym, refl, ap, ◌∙◌, ⊎_elim, arith, length-set, length-take-le, get_or-take}
use lib.Seq.{take-set-lt}
use Rattle.std.proofs.lemmas.List.{take_more, take_more_set, take-set}
use Rattle.std.proofs.lemmas.Bool.{cases_eq}
use Rattle.std.specs.List.{position}
use Rattle.std.proofs.lemmas.List.Quantifiers.{position-Some}
use Rattle.registers.specs.Facts.{count_of}
use Rattle.registers.specs.Meaning.{has, size_of, limit_of, allowed, including, excluding, empty_of}
use Rattle.registers.specs.Records.{listed, list_meaning, is_record}
use Rattle.registers.specs.declared.fact.Fact.{Fact}
use Rattle.registers.proofs.Counts.{same_parts}
use Rattle.registers.proofs.Members.{listed-bounded, same_of, listed_as, listed-push, listed_pushed, listed-set, count-push, Fewer, fewer}
use Rattle.registers.proofs.Laws.{meaning_eq}
use Rattle.registers.proofs.ListLaws.{any-position, listed-any}

-- a record is found exactly where the records name the fact
pub found : (x : Fact) (xs : List Fact) → is_some (position (is_record x) xs) ≡ listed_as xs x
found x xs = any-position (is_record x) xs ∙ listed-any x xs

pub fact_eq : (x y : Fact) → same_of x y.predicate y.first y.second ≡ true → x ≡ y
fact_eq x y s =
    let h = same_parts x.predicate x.first x.second y.predicate y.first y.second s in
    λ i. record { predicate = h.0 i; first = h.1 i; second = h.2 i }

-- the record at the place found is the fact
pub found_at : (table : List Fact) (len : ℕ) (x : Fact) (k : ℕ) (d : Fact) → len ≤ length table →
    position (is_record x) (take len table) ≡ Some k → (k < len) × (get_or table k d ≡ x)
found_at table len x k d le e =
    let p = position-Some (is_record x) (take len table) k d e in
    let l : k < len = omega (arith, p.0, length-take-le len table le) in
    (l, sym (get_or-take len table k d l) ∙ fact_eq (get_or (take len table) k d) x p.1)

pub list_bounded : (table : List Fact) (len : ℕ) → len ≤ min (length table) 4096 → count_of (listed (take len table)) ≡ len →
    (f : Fact) → listed_as (take len table) f ≡ true → allowed f ≡ true
list_bounded table len few apart f =
    listed-bounded (take len table) (apart ∙ sym (length-take-le len table (omega arith))) f.predicate f.first f.second

pub list_has : (table : List Fact) (len : ℕ) (x : Fact) → has (list_meaning table len) x ≡ listed_as (take len table) x
unfolding list_meaning has
list_has table len x = refl

pub list_size : (table : List Fact) (len : ℕ) → count_of (listed (take len table)) ≡ len → len ≡ size_of (list_meaning table len)
unfolding list_meaning size_of
list_size table len apart = sym apart

pub list_limit : (table : List Fact) (len : ℕ) → min (length table) 4096 ≡ limit_of (list_meaning table len)
unfolding list_meaning limit_of
list_limit table len = refl

pub list_empty : (table : List Fact) → list_meaning table 0 ≡ empty_of (min (length table) 4096)
unfolding list_meaning empty_of listed
list_empty table = refl

module _ (table : List Fact) (len : ℕ) (x : Fact) (few : len ≤ min (length table) 4096) (apart : count_of (listed (take len table)) ≡ len) where
  pub put_count : len < min (length table) 4096 → allowed x ≡ true → listed_as (take len table) x ≡ false →
      count_of (listed (take (len + 1) (set table len x))) ≡ len + 1
  put_count l f m =
      ap (λ t. count_of (listed t)) (take_more_set table len x (omega arith))
      ∙ (count-push (take len table) x f m ∙ ap (λ n. n + 1) apart)

  pub put-after : len < min (length table) 4096 → list_meaning (set table len x) (len + 1) ≡ including (list_meaning table len) x
  unfolding list_meaning including
  put-after l =
      meaning_eq _ _ _ _ (ap listed (take_more_set table len x (omega arith)) ∙ listed_pushed x (take len table))
      (ap (λ n. min n 4096) (length-set table len x))

  -- the record at `at` overwritten by the last one
  pub take_fewer : (at : ℕ) (d : Fact) → at < len → get_or table at d ≡ x →
      Fewer (take len table) (take (len - 1) (set table at (get_or table (len - 1) d))) x
  take_fewer at d l e =
      let z : Fact = get_or table (len - 1) d in
      let old : take len table ≡ take (len - 1) table ++ z ∷ []
      = ap (λ n. take n table) (let k : len ≡ len - 1 + 1 = omega arith in k) ∙ take_more table (len - 1) d (omega arith) in
      let lo : length (take len table) ≡ len = length-take-le len table (omega arith) in
      let ln : length (take (len - 1) (set table at z)) ≡ len - 1
      = length-take-le (len - 1) (set table at z) (omega (arith, length-set table at z)) in
      let ly : length (take (len - 1) table) ≡ len - 1 = length-take-le (len - 1) table (omega arith) in
      fewer (take len table) (take (len - 1) (set table at z)) x
      (λ p a b.
      ⊎_elim
      (λ (q : at ≡ len - 1).
      ap (λ t. same_of x p a b || listed t p a b) (ap (λ n. take (len - 1) (set table n z)) q ∙ take-set table (len - 1) z)
      ∙ (ap (λ t. same_of t p a b || listed (take (len - 1) table) p a b) (sym e ∙ ap (λ n. get_or table n d) q)
      ∙ (sym (listed-push z (take (len - 1) table) p a b) ∙ ap (λ t. listed t p a b) (sym old))))
      (λ (q : at ≡ len - 1 → ⊥).
      let lt : at < len - 1 = omega arith in
      ap (λ t. same_of x p a b || listed t p a b) (take-set-lt (len - 1) table at z lt)
      ∙ (listed-set (take (len - 1) table) at x z d p a b (omega arith) (get_or-take (len - 1) table at d lt ∙ e)
      ∙ (sym (listed-push z (take (len - 1) table) p a b) ∙ ap (λ t. listed t p a b) (sym old))))
      (cases_eq at (len - 1)))
      (omega arith)
      (apart ∙ sym lo)

  -- and one that is there leaves the others
  pub take_after : (at : ℕ) (d : Fact) → at < len → get_or table at d ≡ x →
      list_meaning (set table at (get_or table (len - 1) d)) (len - 1) ≡ excluding (list_meaning table len) x
  unfolding list_meaning excluding
  take_after at d l e =
      meaning_eq _ _ _ _ (take_fewer at d l e).facts (ap (λ n. min n 4096) (length-set table at (get_or table (len - 1) d)))

  pub take_count : (at : ℕ) (d : Fact) → at < len → get_or table at d ≡ x →
      count_of (listed (take (len - 1) (set table at (get_or table (len - 1) d)))) ≡ len - 1
  take_count at d l e =
      (take_fewer at d l e).count
      ∙ length-take-le (len - 1) (set table at (get_or table (len - 1) d)) (omega (arith, length-set table at (get_or table (len - 1) d)))
