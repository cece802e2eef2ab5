-- What each way through the reading of all operations says, over plain values.
use Rattle.std.proofs.Common.{◌≡◌, ℕ, zero, suc, ◌+◌, ◌-◌, ◌*◌, ◌<◌, ◌≤◌, true, false, List, [], ◌∷◌, ◌++◌, map, length, Some, sym, refl, ap, ◌∙◌, subst, arith, MatchOption, rules}
use Rattle.std.specs.List.{slice_get}
use Rattle.std.proofs.lemmas.List.{map_push, length-map}
use Rattle.goals.specs.declared.operation.Operation.{Operation}
use Rattle.goals.specs.Bytes.{byte_at}
use Rattle.goals.specs.Sections.{PredicateText, OperationText, operation_at, operations_from}
use Rattle.goals.specs.CatalogueRules.{sound_operation}
use Rattle.goals.specs.CatalogueMeaning.{sound_operations, AtFault}
use Rattle.goals.specs.Entries.{operation_text}
use Rattle.goals.proofs.BoundSteps.{all-push}
use Rattle.goals.proofs.PredicateSteps.{moved_over}

-- the place behind an operation
abbrev behind : List ℕ → ℕ → ℕ
behind file at = at + 6 + 3 * (byte_at file (at + 3) + byte_at file (at + 4) + byte_at file (at + 5))

pub rest_more : (file : List ℕ) (n k at next : ℕ) → k < n → next ≡ behind file at →
    operations_from file (n - k) at ≡ operation_at file at ∷ operations_from file (n - (k + 1)) next
unfolding operations_from
rest_more file n k at next l e = search rules

pub rest-none : (file : List ℕ) (n k at : ℕ) → n ≤ k → operations_from file (n - k) at ≡ []
unfolding operations_from
rest-none file n k at l = search rules

pub operations_table_more : (file : List ℕ) (n k at next : ℕ) (items : List Operation) (o : Operation) → k < n → next ≡ behind file at → operation_text o ≡ operation_at file at →
    map operation_text items ++ operations_from file (n - k) at ≡ map operation_text (items ++ o ∷ []) ++ operations_from file (n - (k + 1)) next
operations_table_more file n k at next items o l e q =
    ap (λ t. map operation_text items ++ t) (rest_more file n k at next l e ∙ ap (λ t. t ∷ operations_from file (n - (k + 1)) next) (sym q))
    ∙ moved_over operation_text items o (operations_from file (n - (k + 1)) next)

pub operations-test-more : (ids : ℕ) (ps : List PredicateText) (items : List Operation) (o : Operation) (x : OperationText) → operation_text o ≡ x →
    sound_operations ids ps (map operation_text items) ≡ true → sound_operation ids ps x ≡ true → sound_operations ids ps (map operation_text (items ++ o ∷ [])) ≡ true
operations-test-more ids ps items o x q h s =
    ap (sound_operations ids ps) (map_push operation_text items o)
    ∙ all-push (sound_operation ids ps) (map operation_text items) (operation_text o) h (ap (sound_operation ids ps) q ∙ s)

nth_behind : {X : Type 0} (xs : List X) (y : X) (ys : List X) (k : ℕ) → length xs ≡ k → slice_get (xs ++ y ∷ ys) k ≡ Some y
nth_behind [] y ys zero e = refl
nth_behind [] y ys (suc k) e = absurd (omega arith)
nth_behind (x ∷ xs) y ys zero e = absurd (omega arith)
nth_behind (x ∷ xs) y ys (suc k) e = nth_behind xs y ys k (omega arith)

pub operation-at-fault : (ids : ℕ) (ps : List PredicateText) (all : List OperationText) (file : List ℕ) (n k at : ℕ) (items : List Operation) →
    all ≡ map operation_text items ++ operations_from file (n - k) at → length items ≡ k → k < n → sound_operation ids ps (operation_at file at) ≡ false →
    AtFault ids ps all k
operation-at-fault ids ps all file n k at items e len l h =
    let r = rest_more file n k at (behind file at) l refl in
    let q : slice_get all k ≡ Some (operation_at file at)
    = ap (λ t. slice_get t k) (e ∙ ap (λ t. map operation_text items ++ t) r)
    ∙ nth_behind (map operation_text items) (operation_at file at) (operations_from file (n - (k + 1)) (behind file at)) k (length-map items operation_text ∙ len) in
    subst (λ o. MatchOption o ⊥ (λ x. sound_operation ids ps x ≡ false)) (sym q) h

pub operations-count : (file : List ℕ) (n at : ℕ) → length (operations_from file n at) ≡ n
unfolding operations_from
operations-count file zero at = refl
operations-count file (suc n) at = ap suc (operations-count file n (behind file at))
