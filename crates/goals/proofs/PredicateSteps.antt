-- What each way through the reading of a predicate and of all predicates says, over plain values.
use Rattle.std.proofs.Common.{◌≡◌, rules, ℕ, zero, suc, ◌+◌, ◌-◌, ◌<◌, ◌≤◌, true, false, ◌&&◌, ◌||◌, List, [], ◌∷◌, ◌++◌, map, length, take, drop, sym, refl, ap, ◌∙◌, add-one, drop-cons, arith}
use Rattle.std.specs.List.{slice_range, list_any}
use Rattle.std.proofs.lemmas.List.{append_assoc, map_push, get_or_past}
use Rattle.std.proofs.lemmas.List.Folds.{list_all-append}
use Rattle.std.proofs.lemmas.Bool.{and_right}
use Rattle.std.specs.Str.{bytes_eq}
use Rattle.goals.specs.declared.predicate.Predicate.{Predicate}
use Rattle.goals.specs.Vocabulary.{name_of}
use Rattle.goals.specs.Bytes.{byte_at}
use Rattle.goals.specs.Tokens.{is_letter}
use Rattle.goals.specs.Sections.{PredicateText, bytes_at, predicate_at, predicates_from}
use Rattle.goals.specs.CatalogueRules.{all_letters, sound_predicate, taken, sound_predicates}
use Rattle.goals.specs.Entries.{predicate_text}

-- bytes

pub bytes_count : (file : List ℕ) (n at : ℕ) → length (bytes_at file n at) ≡ n
unfolding bytes_at
bytes_count file zero at = refl
bytes_count file (suc n) at = ap suc (bytes_count file n (at + 1))

pub bytes-more : (file : List ℕ) (k at : ℕ) → bytes_at file (k + 1) at ≡ bytes_at file k at ++ byte_at file (at + k) ∷ []
unfolding bytes_at
bytes-more file zero at = search rules
bytes-more file (suc k) at =
    ap (λ n. bytes_at file n at) (let e : suc k + 1 ≡ suc (k + 1) = omega arith in e)
    ∙ ap (λ l. byte_at file at ∷ l)
    (bytes-more file k (at + 1) ∙ ap (λ n. bytes_at file k (at + 1) ++ byte_at file n ∷ []) (let e : at + 1 + k ≡ at + suc k = omega arith in e))

-- the bytes of a part are a slice
pub slice_bytes : (file : List ℕ) (n at : ℕ) → at + n ≤ length file → take n (drop at file) ≡ bytes_at file n at
unfolding bytes_at
slice_bytes file zero at l = refl
slice_bytes file (suc n) at l =
    let one : drop at file ≡ byte_at file at ∷ drop (at + 1) file = rw add-one (drop-cons file at 0 (omega arith)) in
    ap (take (suc n)) one ∙ ap (λ t. byte_at file at ∷ t) (slice_bytes file n (at + 1) (omega arith))

pub range-bytes : (file : List ℕ) (n at : ℕ) → at + n ≤ length file → slice_range file at (at + n) ≡ bytes_at file n at
range-bytes file n at l = ap (λ m. take m (drop at file)) (let e : at + n - at ≡ n = omega arith in e) ∙ slice_bytes file n at l

-- a byte past the end is no letter
pub letters_past : (file : List ℕ) (n at : ℕ) → 0 < n → length file < at + n → all_letters (bytes_at file n at) ≡ false
letters_past file zero at z l = absurd (omega arith)
letters_past file (suc k) at z l =
    ap (λ m. all_letters (bytes_at file m at)) (let e : suc k ≡ k + 1 = omega arith in e)
    ∙ ap all_letters (bytes-more file k at)
    ∙ list_all-append is_letter (bytes_at file k at) (byte_at file (at + k) ∷ [])
    ∙ and_right (all_letters (bytes_at file k at)) _ (ap (λ b. is_letter b && true) (get_or_past file (at + k) 0 (omega arith)))

-- one predicate

pub predicate_back : (x : PredicateText) (places : ℕ) (name : List ℕ) → places ≡ x.places → name ≡ x.name →
    ◌≡◌ {A = PredicateText} (record { places = places; name = name }) x
predicate_back x places name ep en = λ i. record { places = ep i; name = en i }

-- names that are taken

pub taken-map : (b : List ℕ) (ps : List Predicate) → list_any (λ p. bytes_eq (name_of p) b) ps ≡ taken b (map predicate_text ps)
taken-map b [] = refl
taken-map b (p ∷ ps) = ap (λ t. bytes_eq (name_of p) b || t) (taken-map b ps)

-- predicates, one at a time

pub predicates-count : (file : List ℕ) (n at : ℕ) → length (predicates_from file n at) ≡ n
unfolding predicates_from
predicates-count file zero at = refl
predicates-count file (suc n) at = ap suc (predicates-count file n (at + 2 + byte_at file (at + 1)))

-- what is left to read, one predicate on
pub left_more : (file : List ℕ) (n k at next : ℕ) → k < n → next ≡ at + 2 + byte_at file (at + 1) →
    predicates_from file (n - k) at ≡ predicate_at file at ∷ predicates_from file (n - (k + 1)) next
unfolding predicates_from
left_more file n k at next l e = search rules

pub left_none : (file : List ℕ) (n k at : ℕ) → n ≤ k → predicates_from file (n - k) at ≡ []
unfolding predicates_from
left_none file n k at l = search rules

pub sound_none : (ps : List PredicateText) → sound_predicates ps [] ≡ true
unfolding sound_predicates
sound_none ps = refl

pub sound-bad : (before : List PredicateText) (p : PredicateText) (ps : List PredicateText) → sound_predicate p ≡ false → sound_predicates before (p ∷ ps) ≡ false
unfolding sound_predicates
sound-bad before p ps h = search rules

pub sound-taken : (before : List PredicateText) (p : PredicateText) (ps : List PredicateText) → taken p.name before ≡ true → sound_predicates before (p ∷ ps) ≡ false
unfolding sound_predicates
sound-taken before p ps h = search rules

pub sound_more : (before : List PredicateText) (p : PredicateText) (ps : List PredicateText) → sound_predicate p ≡ true → taken p.name before ≡ false →
    sound_predicates before (p ∷ ps) ≡ sound_predicates (before ++ p ∷ []) ps
unfolding sound_predicates
sound_more before p ps h t = search rules

-- what is read next goes from what is left to what was read
pub moved_over : {A B : Type 0} (f : A → B) (xs : List A) (x : A) (ys : List B) → map f xs ++ (f x ∷ ys) ≡ map f (xs ++ x ∷ []) ++ ys
moved_over f xs x ys = sym (append_assoc (map f xs) (f x ∷ []) ys) ∙ ap (λ t. t ++ ys) (sym (map_push f xs x))

-- one predicate more in the table
module _ (file : List ℕ) (n k at next : ℕ) (items : List Predicate) (p : Predicate) (l : k < n) (e : next ≡ at + 2 + byte_at file (at + 1)) (q : predicate_text p ≡ predicate_at file at) where
  read_next : predicates_from file (n - k) at ≡ predicate_text p ∷ predicates_from file (n - (k + 1)) next
  read_next = left_more file n k at next l e ∙ ap (λ t. t ∷ predicates_from file (n - (k + 1)) next) (sym q)

  pub table_more : map predicate_text items ++ predicates_from file (n - k) at ≡ map predicate_text (items ++ p ∷ []) ++ predicates_from file (n - (k + 1)) next
  table_more = ap (λ t. map predicate_text items ++ t) read_next ∙ moved_over predicate_text items p (predicates_from file (n - (k + 1)) next)

  pub test-more : sound_predicate (predicate_at file at) ≡ true → taken (name_of p) (map predicate_text items) ≡ false →
      sound_predicates (map predicate_text items) (predicates_from file (n - k) at) ≡ sound_predicates (map predicate_text (items ++ p ∷ [])) (predicates_from file (n - (k + 1)) next)
  test-more h t =
      ap (sound_predicates (map predicate_text items)) read_next
      ∙ (sound_more (map predicate_text items) (predicate_text p) (predicates_from file (n - (k + 1)) next) (ap sound_predicate q ∙ h) t
      ∙ ap (λ x. sound_predicates x (predicates_from file (n - (k + 1)) next)) (sym (map_push predicate_text items p)))

  pub test-taken : taken (name_of p) (map predicate_text items) ≡ true → sound_predicates (map predicate_text items) (predicates_from file (n - k) at) ≡ false
  test-taken t =
      ap (sound_predicates (map predicate_text items)) read_next ∙ sound-taken (map predicate_text items) (predicate_text p) (predicates_from file (n - (k + 1)) next) t

pub test-bad : (file : List ℕ) (n k at : ℕ) (before : List PredicateText) → k < n → sound_predicate (predicate_at file at) ≡ false → sound_predicates before (predicates_from file (n - k) at) ≡ false
test-bad file n k at before l h =
    ap (sound_predicates before) (left_more file n k at _ l refl) ∙ sound-bad before (predicate_at file at) (predicates_from file (n - (k + 1)) (at + 2 + byte_at file (at + 1))) h
