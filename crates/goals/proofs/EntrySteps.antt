-- What each way through the reading of a list of entries says, over plain values.
use Rattle.std.proofs.Common.{◌≡◌, ℕ, zero, suc, ◌+◌, ◌*◌, ◌<◌, Bool, true, false, leb, List, [], ◌∷◌, ◌++◌, map, length, take, set, sym, refl, ap, ◌∙◌, arith, rules}
use Rattle.std.proofs.lemmas.List.{take_more_set, map_push}
use Rattle.std.proofs.lemmas.Bool.{and_left, and_right, lt-leb}
use Rattle.goals.specs.declared.operation.Entry.{Entry}
use Rattle.goals.specs.Sections.{PredicateText, entry_at, entries_at}
use Rattle.goals.specs.CatalogueRules.{sound_entry, sound_each, sound_entries}
use Rattle.goals.specs.Entries.{entry_text}
use Rattle.goals.proofs.BoundSteps.{all-push}

-- lists of entries

pub entries-count : (file : List ℕ) (n at : ℕ) → length (entries_at file n at) ≡ n
unfolding entries_at
entries-count file zero at = refl
entries-count file (suc n) at = ap suc (entries-count file n (at + 3))

pub entries-more : (file : List ℕ) (k at : ℕ) → entries_at file (k + 1) at ≡ entries_at file k at ++ entry_at file (at + 3 * k) ∷ []
unfolding entries_at
entries-more file zero at = search rules
entries-more file (suc k) at =
    ap (λ n. entries_at file n at) (let e : suc k + 1 ≡ suc (k + 1) = omega arith in e)
    ∙ ap (λ l. entry_at file at ∷ l)
    (entries-more file k (at + 3) ∙ ap (λ n. entries_at file k (at + 3) ++ entry_at file n ∷ []) (let e : at + 3 + 3 * k ≡ at + 3 * suc k = omega arith in e))

module _ (need : Bool) (ids : ℕ) (ps : List PredicateText) (parameters : ℕ) where
  pub each_more : (file : List ℕ) (k at : ℕ) → sound_each need ids ps parameters (entries_at file k at) ≡ true → sound_entry need ids ps parameters (entry_at file (at + 3 * k)) ≡ true →
      sound_each need ids ps parameters (entries_at file (k + 1) at) ≡ true
  each_more file k at h s = ap (sound_each need ids ps parameters) (entries-more file k at) ∙ all-push (sound_entry need ids ps parameters) (entries_at file k at) (entry_at file (at + 3 * k)) h s

  -- an entry at fault
  each-bad : (file : List ℕ) (n k at : ℕ) → k < n → sound_entry need ids ps parameters (entry_at file (at + 3 * k)) ≡ false → sound_each need ids ps parameters (entries_at file n at) ≡ false
  unfolding entries_at
  each-bad file zero k at l h = absurd (omega arith)
  each-bad file (suc n) zero at l h =
      and_left _ _ (ap (λ m. sound_entry need ids ps parameters (entry_at file m)) (let e : at ≡ at + 3 * 0 = omega arith in e) ∙ h)
  each-bad file (suc n) (suc k) at l h =
      and_right (sound_entry need ids ps parameters (entry_at file at)) _
      (each-bad file n k (at + 3) (omega arith) (ap (λ m. sound_entry need ids ps parameters (entry_at file m)) (let e : at + 3 + 3 * k ≡ at + 3 * suc k = omega arith in e) ∙ h))

  pub entries_too_many : (file : List ℕ) (n at : ℕ) → 6 < n → sound_entries need ids ps parameters (entries_at file n at) ≡ false
  entries_too_many file n at l = and_left _ _ (lt-leb (length (entries_at file n at)) 6 (omega (arith, entries-count file n at)))

  pub entries-bad : (file : List ℕ) (n k at : ℕ) → k < n → sound_entry need ids ps parameters (entry_at file (at + 3 * k)) ≡ false → sound_entries need ids ps parameters (entries_at file n at) ≡ false
  entries-bad file n k at l h = and_right (leb (length (entries_at file n at)) 6) _ (each-bad file n k at l h)

-- one entry more in the table
pub texts_more : (items : List Entry) (k : ℕ) (x : Entry) (file : List ℕ) (at : ℕ) → k < length items → map entry_text (take k items) ≡ entries_at file k at →
    entry_text x ≡ entry_at file (at + 3 * k) → map entry_text (take (k + 1) (set items k x)) ≡ entries_at file (k + 1) at
texts_more items k x file at l e h =
    ap (map entry_text) (take_more_set items k x l)
    ∙ (map_push entry_text (take k items) x
    ∙ (ap (λ t. t ++ entry_text x ∷ []) e ∙ (ap (λ t. entries_at file k at ++ t ∷ []) h ∙ sym (entries-more file k at))))
