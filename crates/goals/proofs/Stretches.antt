-- Stretches of a file: some bytes that stand from one place to another. What was decoded, written out again, is a stretch.
use Rattle.std.proofs.Common.{◌≡◌, ℕ, zero, suc, ◌+◌, ◌*◌, ◌/◌, ◌%◌, ◌<◌, true, eqb, leb, List, [], ◌∷◌, ◌++◌, length, sym, refl, ap, ◌∙◌, subst, ap₂, append_assoc, arith, length-append}
use Rattle.std.specs.List.{flat_map}
use Rattle.std.proofs.lemmas.List.{get_or_at}
use Rattle.std.proofs.lemmas.Bool.{and_parts, eqb-true}
use Rattle.goals.specs.Bytes.{byte_at, word_at}
use Rattle.goals.specs.Frame.{marked, predicates_end, operations_end, frame_of}
use Rattle.goals.specs.Filling.{fact_at, facts_from}
use Rattle.goals.specs.Sections.{bytes_at, predicate_at, predicates_from, entry_at, entries_at, operation_at, operations_from}
use Rattle.goals.specs.Written.{step_at, steps_from, two, predicate_bytes, entry_bytes, operation_bytes, fact_bytes, step_bytes, head_bytes, edition_bytes, edition_of, ByteList, FrameIsWhole}
use Rattle.goals.proofs.FrameSteps.{accepted}
use Rattle.goals.proofs.FillSteps.{facts-count}
use Rattle.goals.proofs.PredicateSteps.{bytes_count, predicates-count}
use Rattle.goals.proofs.EntrySteps.{entries-count}
use Rattle.goals.proofs.OperationSteps.{operations-count}

pub bytes-append : (file : List ℕ) (n m at : ℕ) → bytes_at file (n + m) at ≡ bytes_at file n at ++ bytes_at file m (at + n)
unfolding bytes_at
bytes-append file zero m at =
    ap (λ k. bytes_at file k at) (let e : 0 + m ≡ m = omega arith in e) ∙ ap (bytes_at file m) (let e : at ≡ at + 0 = omega arith in e)
bytes-append file (suc n) m at =
    ap (λ k. bytes_at file k at) (let e : suc n + m ≡ suc (n + m) = omega arith in e)
    ∙ ap (λ l. byte_at file at ∷ l)
    (bytes-append file n m (at + 1) ∙ ap (λ k. bytes_at file n (at + 1) ++ bytes_at file m k) (let e : at + 1 + n ≡ at + suc n = omega arith in e))

-- the bytes bs stand in the file from one place to the other
pub record Stretch (file : List ℕ) (at : ℕ) (bs : List ℕ) (end : ℕ) : Type 0 where
  pub bytes : bytes_at file (length bs) at ≡ bs
  pub ends : end ≡ at + length bs

pub nothing : (file : List ℕ) (at : ℕ) → Stretch file at [] at
unfolding bytes_at
nothing file at = record { bytes = refl; ends = omega arith }

pub then : (file : List ℕ) (at mid end : ℕ) (bs cs : List ℕ) → Stretch file at bs mid → Stretch file mid cs end → Stretch file at (bs ++ cs) end
then file at mid end bs cs s t =
    record {
      bytes =
          ap (λ n. bytes_at file n at) (length-append bs cs)
          ∙ (bytes-append file (length bs) (length cs) at
          ∙ ap₂ ◌++◌ s.bytes (ap (bytes_at file (length cs)) (sym s.ends) ∙ t.bytes));
      ends = omega (arith, s.ends, t.ends, length-append bs cs);
    }

pub moved : (file : List ℕ) (at end end' : ℕ) (bs : List ℕ) → end ≡ end' → Stretch file at bs end → Stretch file at bs end'
moved file at end end' bs e s = record { bytes = s.bytes; ends = sym e ∙ s.ends }

-- the whole file
whole_from : (xs ys : List ℕ) → bytes_at (xs ++ ys) (length ys) (length xs) ≡ ys
unfolding bytes_at
whole_from xs [] = refl
whole_from xs (y ∷ ys) =
    ap₂ ◌∷◌ (get_or_at xs y ys 0 (length xs) refl)
    (ap (λ l. bytes_at l (length ys) (length xs + 1)) (sym (append_assoc xs (y ∷ []) ys))
    ∙ (ap (bytes_at ((xs ++ y ∷ []) ++ ys) (length ys)) (let e : length xs + 1 ≡ length (xs ++ y ∷ []) = omega (arith, length-append xs (y ∷ [])) in e)
    ∙ whole_from (xs ++ y ∷ []) ys))

pub whole : (file : List ℕ) (bs : List ℕ) → Stretch file 0 bs (length file) → bs ≡ file
whole file bs s =
    sym s.bytes ∙ (ap (λ n. bytes_at file n 0) (let e : length bs ≡ length file = omega (arith, s.ends) in e) ∙ whole_from [] file)

-- one part more
joined-first : {X : Type 0} (f : X → List ℕ) (file : List ℕ) (at mid end : ℕ) (x : X) (xs : List X) →
    Stretch file at (f x) mid → Stretch file mid (flat_map f xs) end → Stretch file at (flat_map f (x ∷ xs)) end
joined-first f file at mid end x xs s t = then file at mid end (f x) (flat_map f xs) s t

pub predicate_stretch : (file : List ℕ) (at : ℕ) → Stretch file at (predicate_bytes (predicate_at file at)) (at + 2 + byte_at file (at + 1))
unfolding bytes_at
predicate_stretch file at =
    let n : length (bytes_at file (byte_at file (at + 1)) (at + 2)) ≡ byte_at file (at + 1) = bytes_count file (byte_at file (at + 1)) (at + 2) in
    record {
      bytes =
          ap₂ (λ (a : ℕ) (l : List ℕ). byte_at file at ∷ (a ∷ l)) (sym n)
          (ap (λ k. bytes_at file (length (bytes_at file (byte_at file (at + 1)) (at + 2))) k) (let e : at + 1 + 1 ≡ at + 2 = omega arith in e)
          ∙ ap (λ k. bytes_at file k (at + 2)) n);
      ends = omega (arith, n);
    }

pub predicates_stretch : (file : List ℕ) (n at : ℕ) → Stretch file at (flat_map predicate_bytes (predicates_from file n at)) (predicates_end file n at)
unfolding predicates_from predicates_end
predicates_stretch file zero at = nothing file at
predicates_stretch file (suc n) at =
    joined-first predicate_bytes file at (at + 2 + byte_at file (at + 1)) _ (predicate_at file at) _ (predicate_stretch file at) (predicates_stretch file n (at + 2 + byte_at file (at + 1)))

three : (file : List ℕ) (at : ℕ) → bytes_at file 3 at ≡ byte_at file at ∷ byte_at file (at + 1) ∷ byte_at file (at + 2) ∷ []
unfolding bytes_at
three file at = ap (λ k. byte_at file at ∷ byte_at file (at + 1) ∷ byte_at file k ∷ []) (let e : at + 1 + 1 ≡ at + 2 = omega arith in e)

pub entries_stretch : (file : List ℕ) (n at : ℕ) → Stretch file at (flat_map entry_bytes (entries_at file n at)) (at + 3 * n)
unfolding entries_at
entries_stretch file zero at = moved file at at _ [] (omega arith) (nothing file at)
entries_stretch file (suc n) at =
    moved file at (at + 3 + 3 * n) _ _ (omega arith)
    (joined-first entry_bytes file at (at + 3) _ (entry_at file at) _ (record { bytes = three file at; ends = refl }) (entries_stretch file n (at + 3)))

pub facts_stretch : (file : List ℕ) (n at : ℕ) → Stretch file at (flat_map fact_bytes (facts_from file n at)) (at + 3 * n)
unfolding facts_from
facts_stretch file zero at = moved file at at _ [] (omega arith) (nothing file at)
facts_stretch file (suc n) at =
    moved file at (at + 3 + 3 * n) _ _ (omega arith)
    (joined-first fact_bytes file at (at + 3) _ (fact_at file at) _ (record { bytes = three file at; ends = refl }) (facts_stretch file n (at + 3)))

four : (file : List ℕ) (at : ℕ) → bytes_at file 4 at ≡ step_bytes (step_at file at)
unfolding bytes_at
four file at =
    ap₂ (λ (j k : ℕ). byte_at file at ∷ byte_at file (at + 1) ∷ byte_at file j ∷ byte_at file k ∷ [])
    (let e : at + 1 + 1 ≡ at + 2 = omega arith in e) (let e : at + 1 + 1 + 1 ≡ at + 3 = omega arith in e)

pub steps_stretch : (file : List ℕ) (n at : ℕ) → Stretch file at (flat_map step_bytes (steps_from file n at)) (at + 4 * n)
unfolding steps_from
steps_stretch file zero at = moved file at at _ [] (omega arith) (nothing file at)
steps_stretch file (suc n) at =
    moved file at (at + 4 + 4 * n) _ _ (omega arith)
    (joined-first step_bytes file at (at + 4) _ (step_at file at) _ (record { bytes = four file at; ends = refl }) (steps_stretch file n (at + 4)))

-- a number in two bytes
high : (a b : ℕ) → b < 256 → (a * 256 + b) / 256 ≡ a
high a b l = omega arith

low : (a b : ℕ) → b < 256 → (a * 256 + b) % 256 ≡ b
low a b l = omega arith

-- the first six bytes of an operation
six : (file : List ℕ) (at : ℕ) → ByteList file →
    Stretch file at (byte_at file at ∷ (word_at file (at + 1) / 256) ∷ (word_at file (at + 1) % 256) ∷ byte_at file (at + 3) ∷ byte_at file (at + 4) ∷ byte_at file (at + 5) ∷ []) (at + 6)
unfolding bytes_at
six file at small =
    let h : byte_at file (at + 1) ≡ word_at file (at + 1) / 256 = sym (high (byte_at file (at + 1)) (byte_at file (at + 1 + 1)) (small (at + 1 + 1))) in
    let l : byte_at file (at + 1 + 1) ≡ word_at file (at + 1) % 256 = sym (low (byte_at file (at + 1)) (byte_at file (at + 1 + 1)) (small (at + 1 + 1))) in
    let c : at + 1 + 1 + 1 ≡ at + 3 = omega arith in
    let d : at + 1 + 1 + 1 + 1 ≡ at + 4 = omega arith in
    let e : at + 1 + 1 + 1 + 1 + 1 ≡ at + 5 = omega arith in
    record { bytes = λ i. byte_at file at ∷ h i ∷ l i ∷ byte_at file (c i) ∷ byte_at file (d i) ∷ byte_at file (e i) ∷ []; ends = refl }

pub operation_stretch : (file : List ℕ) (at : ℕ) → ByteList file →
    Stretch file at (operation_bytes (operation_at file at)) (at + 6 + 3 * (byte_at file (at + 3) + byte_at file (at + 4) + byte_at file (at + 5)))
operation_stretch file at small =
    let n : ℕ = byte_at file (at + 3) in
    let t : ℕ = byte_at file (at + 4) in
    let u : ℕ = byte_at file (at + 5) in
    let en = sym (entries-count file (byte_at file (at + 3)) (at + 6)) in
    let et = sym (entries-count file (byte_at file (at + 4)) (at + 6 + 3 * byte_at file (at + 3))) in
    let eu = sym (entries-count file (byte_at file (at + 5)) (at + 6 + 3 * byte_at file (at + 3) + 3 * byte_at file (at + 4))) in
    let head : Stretch file at (byte_at file at ∷ (word_at file (at + 1) / 256) ∷ (word_at file (at + 1) % 256) ∷ length (operation_at file at).needs ∷ length (operation_at file at).takes ∷ length (operation_at file at).puts ∷ []) (at + 6)
    = subst (λ (l : List ℕ). Stretch file at l (at + 6)) (λ i. byte_at file at ∷ (word_at file (at + 1) / 256) ∷ (word_at file (at + 1) % 256) ∷ en i ∷ et i ∷ eu i ∷ []) (six file at small) in
    moved file at (at + 6 + 3 * n + 3 * t + 3 * u) _ _ (omega arith)
    (then file at (at + 6) _ _ _ head
    (then file (at + 6) (at + 6 + 3 * n) _ _ _ (entries_stretch file n (at + 6))
    (then file (at + 6 + 3 * n) (at + 6 + 3 * n + 3 * t) _ _ _ (entries_stretch file t (at + 6 + 3 * n)) (entries_stretch file u (at + 6 + 3 * n + 3 * t)))))

pub operations_stretch : (file : List ℕ) (n at : ℕ) → ByteList file → Stretch file at (flat_map operation_bytes (operations_from file n at)) (operations_end file n at)
unfolding operations_from operations_end
operations_stretch file zero at small = nothing file at
operations_stretch file (suc n) at small =
    joined-first operation_bytes file at _ _ (operation_at file at) _ (operation_stretch file at small) (operations_stretch file n _ small)

-- the mark and the counts
pub head_stretch : (file : List ℕ) → ByteList file → marked file ≡ true →
    Stretch file 0
    ((69 ∷ 68 ∷ 80 ∷ 0 ∷ 1 ∷ byte_at file 5 ∷ byte_at file 6 ∷ byte_at file 7 ∷ []) ++ (two (word_at file 8) ++ (two (word_at file 10) ++ two (word_at file 12)))) 14
unfolding bytes_at
head_stretch file small m =
    let p = (and_parts (leb 5 (length file)) _ m).1 in
    let q = and_parts (eqb (byte_at file 0) 69) _ p in
    let r = and_parts (eqb (byte_at file 1) 68) _ q.1 in
    let s = and_parts (eqb (byte_at file 2) 80) _ r.1 in
    let e : byte_at file 0 ≡ 69 = eqb-true (byte_at file 0) 69 q.0 in
    let d : byte_at file 1 ≡ 68 = eqb-true (byte_at file 1) 68 r.0 in
    let u : byte_at file 2 ≡ 80 = eqb-true (byte_at file 2) 80 s.0 in
    let v : byte_at file 3 * 256 + byte_at file 4 ≡ 1 = eqb-true (word_at file 3) 1 s.1 in
    let v3 : byte_at file 3 ≡ 0 = omega arith in
    let v4 : byte_at file 4 ≡ 1 = omega arith in
    let h8 = sym (high (byte_at file 8) (byte_at file 9) (small 9)) in
    let l8 = sym (low (byte_at file 8) (byte_at file 9) (small 9)) in
    let h10 = sym (high (byte_at file 10) (byte_at file 11) (small 11)) in
    let l10 = sym (low (byte_at file 10) (byte_at file 11) (small 11)) in
    let h12 = sym (high (byte_at file 12) (byte_at file 13) (small 13)) in
    let l12 = sym (low (byte_at file 12) (byte_at file 13) (small 13)) in
    record {
      bytes =
          λ i.
          e i ∷ d i ∷ u i ∷ v3 i ∷ v4 i ∷ byte_at file 5 ∷ byte_at file 6 ∷ byte_at file 7 ∷ h8 i ∷ l8 i ∷ h10 i ∷ l10 i ∷ h12 i ∷ l12 i ∷ [];
      ends = refl;
    }

steps-count : (file : List ℕ) (n at : ℕ) → length (steps_from file n at) ≡ n
unfolding steps_from
steps-count file zero at = refl
steps-count file (suc n) at = ap suc (steps-count file n (at + 4))

edition_stretch : (file : List ℕ) → ByteList file → marked file ≡ true → Stretch file 0 (edition_bytes (edition_of file (frame_of file))) (frame_of file).end
unfolding frame_of edition_bytes
edition_stretch file small m =
    let f = frame_of file in
    let ep = sym (predicates-count file (byte_at file 6) 14) in
    let eo = sym (operations-count file (byte_at file 7) (frame_of file).operations_at) in
    let ef = sym (facts-count file (word_at file 8) (frame_of file).facts_at) in
    let eg = sym (bytes_count file (word_at file 10) (frame_of file).goal_at) in
    let es = sym (steps-count file (word_at file 12) (frame_of file).steps_at) in
    let head : Stretch file 0 (head_bytes (edition_of file (frame_of file))) 14
    = subst (λ (l : List ℕ). Stretch file 0 l 14)
    (λ i. (69 ∷ 68 ∷ 80 ∷ 0 ∷ 1 ∷ byte_at file 5 ∷ ep i ∷ eo i ∷ []) ++ (two (ef i) ++ (two (eg i) ++ two (es i))))
    (head_stretch file small m) in
    then file 0 14 _ _ _ head
    (then file 14 (frame_of file).operations_at _ _ _ (predicates_stretch file (byte_at file 6) 14)
    (then file (frame_of file).operations_at (frame_of file).facts_at _ _ _ (operations_stretch file (byte_at file 7) (frame_of file).operations_at small)
    (then file (frame_of file).facts_at (frame_of file).goal_at _ _ _ (facts_stretch file (word_at file 8) (frame_of file).facts_at)
    (then file (frame_of file).goal_at (frame_of file).steps_at _ _ _
    (record { bytes = ap (λ n. bytes_at file n (frame_of file).goal_at) (sym eg); ends = ap (λ n. (frame_of file).goal_at + n) eg })
    (steps_stretch file (word_at file 12) (frame_of file).steps_at)))))

pub frame-is-whole : FrameIsWhole
frame-is-whole file f small e =
    let a = accepted file f e in
    let s = edition_stretch file small a.mark in (
      ap (λ g. edition_bytes (edition_of file g)) a.frame
          ∙ whole file (edition_bytes (edition_of file (frame_of file))) (moved file 0 (frame_of file).end (length file) _ (ap (λ g. g.end) (sym a.frame) ∙ a.whole) s),
      a.short,
    )
