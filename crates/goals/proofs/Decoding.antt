-- Reading back what was written: where a file has the bytes of some parts, those parts are what it says there.
use Rattle.std.proofs.Common.{◌≡◌, ℕ, suc, ◌+◌, ◌*◌, ◌/◌, ◌%◌, ◌<◌, ◌≤◌, true, List, [], ◌∷◌, ◌++◌, length, get_or, sym, refl, ap, ◌∙◌, ap₂, arith, length-append}
use Rattle.std.specs.List.{flat_map}
use Rattle.std.proofs.lemmas.List.{get_or_append_left, get_or-append-add}
use Rattle.std.proofs.lemmas.Bool.{and_from, eq-eqb, le-leb}
use Rattle.registers.specs.declared.fact.Fact.{Fact}
use Rattle.goals.specs.Bytes.{byte_at, word_at}
use Rattle.goals.specs.Frame.{marked, predicates_end, operations_end, frame_of}
use Rattle.goals.specs.Filling.{fact_at, facts_from}
use Rattle.goals.specs.Sections.{PredicateText, EntryText, OperationText, bytes_at, predicate_at, predicates_from, entry_at, entries_at, operation_at, operations_from}
use Rattle.goals.specs.Written.{StepText, step_at, steps_from, Edition, predicate_bytes, entry_bytes, operation_bytes, fact_bytes, step_bytes, head_bytes, edition_bytes, edition_of, EditionsAreFramed}
use Rattle.goals.proofs.FrameSteps.{framed-whole}

-- the file has these bytes from a place on
pub record At (file : List ℕ) (at : ℕ) (bs : List ℕ) : Type 0 where
  pub each : (k : ℕ) → k < length bs → byte_at file (at + k) ≡ get_or bs k 0

module _ (file : List ℕ) where
  here : (at b : ℕ) (bs : List ℕ) → At file at (b ∷ bs) → byte_at file at ≡ b
  here at b bs h = ap (byte_at file) (let e : at ≡ at + 0 = omega arith in e) ∙ h.each 0 (omega arith)

  tail : (at b : ℕ) (bs : List ℕ) → At file at (b ∷ bs) → At file (at + 1) bs
  tail at b bs h =
      record { each = λ k l. ap (byte_at file) (let e : at + 1 + k ≡ at + suc k = omega arith in e) ∙ h.each (suc k) (omega arith) }

  left : (at : ℕ) (bs cs : List ℕ) → At file at (bs ++ cs) → At file at bs
  left at bs cs h = record { each = λ k l. h.each k (omega (arith, length-append bs cs)) ∙ get_or_append_left bs cs 0 k l }

  right : (at : ℕ) (bs cs : List ℕ) → At file at (bs ++ cs) → At file (at + length bs) cs
  right at bs cs h =
      record {
        each =
            λ k l.
            ap (byte_at file) (let e : at + length bs + k ≡ at + (length bs + k) = omega arith in e)
            ∙ (h.each (length bs + k) (omega (arith, length-append bs cs)) ∙ get_or-append-add bs cs k 0);
      }

  moved : (at at' : ℕ) (bs : List ℕ) → at ≡ at' → At file at bs → At file at' bs
  moved at at' bs e h = record { each = λ k l. ap (λ n. byte_at file (n + k)) (sym e) ∙ h.each k l }

  bytes_back : (at : ℕ) (bs : List ℕ) → At file at bs → bytes_at file (length bs) at ≡ bs
  unfolding bytes_at
  bytes_back at [] h = refl
  bytes_back at (b ∷ bs) h = ap₂ ◌∷◌ (here at b bs h) (bytes_back (at + 1) bs (tail at b bs h))

  bytes_again : (at n : ℕ) (bs : List ℕ) → n ≡ length bs → At file at bs → bytes_at file n at ≡ bs
  bytes_again at n bs e h = ap (λ m. bytes_at file m at) e ∙ bytes_back at bs h

  -- a number in two bytes
  two_back : (at n : ℕ) (bs : List ℕ) → At file at ((n / 256) ∷ (n % 256) ∷ bs) → word_at file at ≡ n
  two_back at n bs h =
      let a = here at (n / 256) _ h in
      let b = here (at + 1) (n % 256) bs (tail at (n / 256) _ h) in
      omega (arith, a, b)

  predicate_back : (at : ℕ) (p : PredicateText) → At file at (predicate_bytes p) → predicate_at file at ≡ p
  predicate_back at p h =
      let a = here at p.places _ h in
      let t = tail at p.places _ h in
      let b = here (at + 1) (length p.name) p.name t in
      let c : bytes_at file (byte_at file (at + 1)) (at + 2) ≡ p.name
      = bytes_again (at + 2) _ p.name b (moved (at + 1 + 1) (at + 2) p.name (omega arith) (tail (at + 1) (length p.name) p.name t)) in
      λ i. record { places = a i; name = c i }

  predicate-next : (at : ℕ) (p : PredicateText) → At file at (predicate_bytes p) → at + length (predicate_bytes p) ≡ at + 2 + byte_at file (at + 1)
  predicate-next at p h = omega (arith, here (at + 1) (length p.name) p.name (tail at p.places _ h))

  predicates_back : (at : ℕ) (ps : List PredicateText) → At file at (flat_map predicate_bytes ps) →
      (predicates_from file (length ps) at ≡ ps) × (predicates_end file (length ps) at ≡ at + length (flat_map predicate_bytes ps))
  unfolding predicates_from predicates_end
  predicates_back at [] h = (refl, omega arith)
  predicates_back at (p ∷ ps) h =
      let l = left at (predicate_bytes p) (flat_map predicate_bytes ps) h in
      let n = predicate-next at p l in
      let r = predicates_back (at + 2 + byte_at file (at + 1)) ps (moved _ _ (flat_map predicate_bytes ps) n (right at (predicate_bytes p) (flat_map predicate_bytes ps) h)) in (
        ap₂ ◌∷◌ (predicate_back at p l) r.0,
        r.1 ∙ (let e : at + 2 + byte_at file (at + 1) + length (flat_map predicate_bytes ps) ≡ at + length (predicate_bytes p ++ flat_map predicate_bytes ps) = omega (arith, n, length-append (predicate_bytes p) (flat_map predicate_bytes ps)) in e),
      )

  -- three bytes
  three_back : (at a b c : ℕ) → At file at (a ∷ b ∷ c ∷ []) → (byte_at file at ≡ a) × (byte_at file (at + 1) ≡ b) × (byte_at file (at + 2) ≡ c)
  three_back at a b c h =
      let t = tail at a _ h in (
        here at a _ h,
        here (at + 1) b _ t,
        ap (byte_at file) (let e : at + 2 ≡ at + 1 + 1 = omega arith in e) ∙ here (at + 1 + 1) c [] (tail (at + 1) b _ t),
      )

  entries_back : (at : ℕ) (es : List EntryText) → At file at (flat_map entry_bytes es) → (entries_at file (length es) at ≡ es) × (length (flat_map entry_bytes es) ≡ 3 * length es)
  unfolding entries_at
  entries_back at [] h = (refl, refl)
  entries_back at (x ∷ es) h =
      let b = three_back at x.predicate x.first x.second (left at (entry_bytes x) (flat_map entry_bytes es) h) in
      let r = entries_back (at + 3) es (right at (entry_bytes x) (flat_map entry_bytes es) h) in
      let q : entry_at file at ≡ x = λ i. record { predicate = b.0 i; first = b.1 i; second = b.2 i } in
      (ap₂ ◌∷◌ q r.0, omega (arith, r.1, length-append (entry_bytes x) (flat_map entry_bytes es)))

  facts_back : (at : ℕ) (fs : List Fact) → At file at (flat_map fact_bytes fs) → (facts_from file (length fs) at ≡ fs) × (length (flat_map fact_bytes fs) ≡ 3 * length fs)
  unfolding facts_from
  facts_back at [] h = (refl, refl)
  facts_back at (x ∷ fs) h =
      let b = three_back at x.predicate x.first x.second (left at (fact_bytes x) (flat_map fact_bytes fs) h) in
      let r = facts_back (at + 3) fs (right at (fact_bytes x) (flat_map fact_bytes fs) h) in
      let q : fact_at file at ≡ x = λ i. record { predicate = b.0 i; first = b.1 i; second = b.2 i } in
      (ap₂ ◌∷◌ q r.0, omega (arith, r.1, length-append (fact_bytes x) (flat_map fact_bytes fs)))

  step_back : (at : ℕ) (s : StepText) → At file at (step_bytes s) → step_at file at ≡ s
  step_back at s h =
      let b = three_back at s.operation s.first s.second (left at (s.operation ∷ s.first ∷ s.second ∷ []) (s.third ∷ []) h) in
      let d : byte_at file (at + 3) ≡ s.third = here (at + 3) s.third [] (right at (s.operation ∷ s.first ∷ s.second ∷ []) (s.third ∷ []) h) in
      λ i. record { operation = b.0 i; first = b.1 i; second = b.2 i; third = d i }

  steps_back : (at : ℕ) (ss : List StepText) → At file at (flat_map step_bytes ss) → (steps_from file (length ss) at ≡ ss) × (length (flat_map step_bytes ss) ≡ 4 * length ss)
  unfolding steps_from
  steps_back at [] h = (refl, refl)
  steps_back at (x ∷ ss) h =
      let r = steps_back (at + 4) ss (right at (step_bytes x) (flat_map step_bytes ss) h) in (
        ap₂ ◌∷◌ (step_back at x (left at (step_bytes x) (flat_map step_bytes ss) h)) r.0,
        omega (arith, r.1, length-append (step_bytes x) (flat_map step_bytes ss)),
      )

  -- an operation and the place behind it
  record OperationThere (at : ℕ) (o : OperationText) : Type 0 where
    same : operation_at file at ≡ o
    next : at + length (operation_bytes o) ≡ at + 6 + 3 * (byte_at file (at + 3) + byte_at file (at + 4) + byte_at file (at + 5))

  operation_back : (at : ℕ) (o : OperationText) → At file at (operation_bytes o) → OperationThere at o
  operation_back at o h =
      let hd : List ℕ = o.parameters ∷ (o.span / 256) ∷ (o.span % 256) ∷ length o.needs ∷ length o.takes ∷ length o.puts ∷ [] in
      let N : List ℕ = flat_map entry_bytes o.needs in
      let T : List ℕ = flat_map entry_bytes o.takes in
      let U : List ℕ = flat_map entry_bytes o.puts in
      let a = left at hd (N ++ (T ++ U)) h in
      let r = right at hd (N ++ (T ++ U)) h in
      let e0 = here at o.parameters _ a in
      let t1 = tail at o.parameters _ a in
      let e1 : word_at file (at + 1) ≡ o.span = two_back (at + 1) o.span _ t1 in
      let t2 = tail (at + 1) (o.span / 256) _ t1 in
      let t3 = tail (at + 1 + 1) (o.span % 256) _ t2 in
      let t3' = moved (at + 1 + 1 + 1) (at + 3) (length o.needs ∷ length o.takes ∷ length o.puts ∷ []) (omega arith) t3 in
      let b = three_back (at + 3) (length o.needs) (length o.takes) (length o.puts) t3' in
      let e3 : byte_at file (at + 3) ≡ length o.needs = b.0 in
      let e4 : byte_at file (at + 4) ≡ length o.takes = ap (byte_at file) (let q : at + 4 ≡ at + 3 + 1 = omega arith in q) ∙ b.1 in
      let e5 : byte_at file (at + 5) ≡ length o.puts = ap (byte_at file) (let q : at + 5 ≡ at + 3 + 2 = omega arith in q) ∙ b.2 in
      let n = entries_back (at + 6) o.needs (left (at + 6) N (T ++ U) r) in
      let rt = moved (at + 6 + length N) (at + 6 + 3 * byte_at file (at + 3)) (T ++ U) (omega (arith, n.1, e3)) (right (at + 6) N (T ++ U) r) in
      let t = entries_back (at + 6 + 3 * byte_at file (at + 3)) o.takes (left _ T U rt) in
      let ru = moved (at + 6 + 3 * byte_at file (at + 3) + length T) (at + 6 + 3 * byte_at file (at + 3) + 3 * byte_at file (at + 4)) U (omega (arith, t.1, e4)) (right _ T U rt) in
      let u = entries_back (at + 6 + 3 * byte_at file (at + 3) + 3 * byte_at file (at + 4)) o.puts ru in
      let en = ap (λ k. entries_at file k (at + 6)) e3 ∙ n.0 in
      let et = ap (λ k. entries_at file k (at + 6 + 3 * byte_at file (at + 3))) e4 ∙ t.0 in
      let eu = ap (λ k. entries_at file k (at + 6 + 3 * byte_at file (at + 3) + 3 * byte_at file (at + 4))) e5 ∙ u.0 in
      record {
        same = λ i. record { parameters = e0 i; span = e1 i; needs = en i; takes = et i; puts = eu i };
        next = omega (arith, n.1, t.1, u.1, e3, e4, e5, length-append hd (N ++ (T ++ U)), length-append N (T ++ U), length-append T U);
      }

  operations_back : (at : ℕ) (os : List OperationText) → At file at (flat_map operation_bytes os) →
      (operations_from file (length os) at ≡ os) × (operations_end file (length os) at ≡ at + length (flat_map operation_bytes os))
  unfolding operations_from operations_end
  operations_back at [] h = (refl, omega arith)
  operations_back at (o ∷ os) h =
      let x = operation_back at o (left at (operation_bytes o) (flat_map operation_bytes os) h) in
      let r = operations_back (at + 6 + 3 * (byte_at file (at + 3) + byte_at file (at + 4) + byte_at file (at + 5))) os (moved _ _ (flat_map operation_bytes os) x.next (right at (operation_bytes o) (flat_map operation_bytes os) h)) in (
        ap₂ ◌∷◌ x.same r.0,
        r.1 ∙ (let e : at + 6 + 3 * (byte_at file (at + 3) + byte_at file (at + 4) + byte_at file (at + 5)) + length (flat_map operation_bytes os) ≡ at + length (operation_bytes o ++ flat_map operation_bytes os) = omega (arith, x.next, length-append (operation_bytes o) (flat_map operation_bytes os)) in e),
      )

  -- the whole edition

  record EditionThere (e : Edition) : Type 0 where
    mark : marked file ≡ true
    says : edition_of file (frame_of file) ≡ e
    ends : (frame_of file).end ≡ length (edition_bytes e)

  edition_back : (e : Edition) → 5 ≤ length file → At file 0 (edition_bytes e) → EditionThere e
  unfolding edition_bytes frame_of
  edition_back e long h =
      let H : List ℕ = head_bytes e in
      let P : List ℕ = flat_map predicate_bytes e.predicates in
      let O : List ℕ = flat_map operation_bytes e.operations in
      let F : List ℕ = flat_map fact_bytes e.facts in
      let S : List ℕ = flat_map step_bytes e.steps in
      let a : At file 0 H = left 0 H (P ++ (O ++ (F ++ (e.goal ++ S)))) h in
      let b5 : byte_at file 5 ≡ e.ids = a.each 5 (omega arith) in
      let b6 : byte_at file 6 ≡ length e.predicates = a.each 6 (omega arith) in
      let b7 : byte_at file 7 ≡ length e.operations = a.each 7 (omega arith) in
      let x8 : byte_at file 8 ≡ length e.facts / 256 = a.each 8 (omega arith) in
      let x9 : byte_at file 9 ≡ length e.facts % 256 = a.each 9 (omega arith) in
      let b8 : word_at file 8 ≡ length e.facts = omega (arith, x8, x9) in
      let x10 : byte_at file 10 ≡ length e.goal / 256 = a.each 10 (omega arith) in
      let x11 : byte_at file 11 ≡ length e.goal % 256 = a.each 11 (omega arith) in
      let b10 : word_at file 10 ≡ length e.goal = omega (arith, x10, x11) in
      let x12 : byte_at file 12 ≡ length e.steps / 256 = a.each 12 (omega arith) in
      let x13 : byte_at file 13 ≡ length e.steps % 256 = a.each 13 (omega arith) in
      let b12 : word_at file 12 ≡ length e.steps = omega (arith, x12, x13) in
      let r1 : At file 14 (P ++ (O ++ (F ++ (e.goal ++ S)))) = right 0 H (P ++ (O ++ (F ++ (e.goal ++ S)))) h in
      let p = predicates_back 14 e.predicates (left 14 P (O ++ (F ++ (e.goal ++ S))) r1) in
      let A1 : ℕ = predicates_end file (byte_at file 6) 14 in
      let q1 : A1 ≡ 14 + length P = ap (λ n. predicates_end file n 14) b6 ∙ p.1 in
      let r2 = moved (14 + length P) A1 (O ++ (F ++ (e.goal ++ S))) (sym q1) (right 14 P (O ++ (F ++ (e.goal ++ S))) r1) in
      let o = operations_back A1 e.operations (left A1 O (F ++ (e.goal ++ S)) r2) in
      let A2 : ℕ = operations_end file (byte_at file 7) A1 in
      let q2 : A2 ≡ A1 + length O = ap (λ n. operations_end file n A1) b7 ∙ o.1 in
      let r3 = moved (A1 + length O) A2 (F ++ (e.goal ++ S)) (sym q2) (right A1 O (F ++ (e.goal ++ S)) r2) in
      let f = facts_back A2 e.facts (left A2 F (e.goal ++ S) r3) in
      let A3 : ℕ = A2 + 3 * word_at file 8 in
      let r4 = moved (A2 + length F) A3 (e.goal ++ S) (omega (arith, f.1, b8)) (right A2 F (e.goal ++ S) r3) in
      let g = bytes_again A3 (word_at file 10) e.goal b10 (left A3 e.goal S r4) in
      let A4 : ℕ = A3 + word_at file 10 in
      let r5 = moved (A3 + length e.goal) A4 S (omega (arith, b10)) (right A3 e.goal S r4) in
      let s = steps_back A4 e.steps r5 in
      let ep = ap (λ n. predicates_from file n 14) b6 ∙ p.0 in
      let eo = ap (λ n. operations_from file n A1) b7 ∙ o.0 in
      let ef = ap (λ n. facts_from file n A2) b8 ∙ f.0 in
      let es = ap (λ n. steps_from file n A4) b12 ∙ s.0 in
      let m0 : byte_at file 0 ≡ 69 = a.each 0 (omega arith) in
      let m1 : byte_at file 1 ≡ 68 = a.each 1 (omega arith) in
      let m2 : byte_at file 2 ≡ 80 = a.each 2 (omega arith) in
      let m3 : byte_at file 3 ≡ 0 = a.each 3 (omega arith) in
      let m4 : byte_at file 4 ≡ 1 = a.each 4 (omega arith) in
      record {
        mark =
            and_from _ _ (le-leb 5 (length file) long)
            (and_from _ _ (eq-eqb (byte_at file 0) 69 m0)
            (and_from _ _ (eq-eqb (byte_at file 1) 68 m1)
            (and_from _ _ (eq-eqb (byte_at file 2) 80 m2) (eq-eqb (word_at file 3) 1 (omega (arith, m3, m4))))));
        says = λ i. record { ids = b5 i; predicates = ep i; operations = eo i; facts = ef i; goal = g i; steps = es i };
        ends =
            omega (
              arith,
              q1,
              q2,
              b8,
              b10,
              b12,
              f.1,
              s.1,
              length-append H (P ++ (O ++ (F ++ (e.goal ++ S)))),
              length-append P (O ++ (F ++ (e.goal ++ S))),
              length-append O (F ++ (e.goal ++ S)),
              length-append F (e.goal ++ S),
              length-append e.goal S,
            );
      }

long_head : (e : Edition) → 5 ≤ length (edition_bytes e)
unfolding edition_bytes
long_head e =
    omega (arith, length-append (head_bytes e) (flat_map predicate_bytes e.predicates ++ (flat_map operation_bytes e.operations ++ (flat_map fact_bytes e.facts ++ (e.goal ++ flat_map step_bytes e.steps)))))

pub editions_are_framed_lem : EditionsAreFramed
editions_are_framed_lem e l =
    let file = edition_bytes e in
    let t = edition_back file e (long_head e) (record { each = λ k h. ap (byte_at file) (let q : 0 + k ≡ k = omega arith in q) }) in (
      frame_of file,
      framed-whole file (frame_of file) t.mark refl l (omega (arith, t.ends)) (omega (arith, t.ends)),
      t.says,
    )
