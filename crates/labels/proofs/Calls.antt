-- One call after another that adds labels to a table: the rules of progress in the order in which code follows them.
use Rattle.std.proofs.Common.{◌≡◌, ℕ, zero, suc, ◌<◌, ◌≤◌, Bool, true, false, T, List, [], ◌∷◌, ◌++◌, Ok, Err, Result, sym, refl, ap, ◌∙◌, subst, ap₂, inl, inr, arith}
use native.Mathlib.Decide.{dec_le}
use Rattle.labels.specs.declared.part.Part.{Part}
use Rattle.labels.specs.Labels.{Label}
use Rattle.labels.specs.Size.{member}
use Rattle.labels.specs.Joining.{negate, conjoin, disjoin, joined}
use Rattle.labels.specs.Work.{running}
use Rattle.labels.specs.Table.{label_at}
use Rattle.labels.specs.Growth.{Grew, Made, Over, Outcome}
use Rattle.labels.proofs.Members.{in_head, in_tail, in_cons, in_at, in_left, in_right, in_cases}
use Rattle.labels.proofs.Growing.{grew_then, grew_same, grew-label, over-same, over-then}
use Rattle.labels.proofs.Rules.{joined_skip, joined-more, running_skip, running_more}

-- membership and inclusion as records, so that the lists are inferred
pub record In (x : Label) (xs : List Label) : Type 0 where
  pub is_in : T (member x xs)

pub record Sub (xs ys : List Label) : Type 0 where
  pub sub : (l : Label) → T (member l xs) → T (member l ys)

pub sub-append : {a b m : List Label} → Sub a m → Sub b m → Sub (a ++ b) m
sub-append {a} {b} {m} f g = record { sub = λ l t. elim (in_cases l a b t) [ inl u ↦ f.sub l u | inr u ↦ g.sub l u ] }

pub sub_cons : {x : Label} {b m : List Label} → In x m → Sub b m → Sub (x ∷ b) m
sub_cons {x} {b} {m} h g = record { sub = λ l t. elim (in_cons l x b t) [ inl e ↦ in_at m (sym e) h.is_in | inr u ↦ g.sub l u ] }

pub sub_nil : {m : List Label} → Sub [] m
sub_nil {m} = record { sub = λ l t. absurd t }

pub sub-one : {x : Label} {m : List Label} → In x m → Sub (x ∷ []) m
sub-one h = sub_cons h sub_nil

pub sub_same : {m : List Label} → Sub m m
sub_same {m} = record { sub = λ l t. t }

pub sub_then : {a b m : List Label} → Sub a b → Sub b m → Sub a m
sub_then f g = record { sub = λ l t. g.sub l (f.sub l t) }

pub sub_tail : {x : Label} {a m : List Label} → Sub a m → Sub a (x ∷ m)
sub_tail {x} {a} {m} f = record { sub = λ l t. in_tail l x m (f.sub l t) }

pub sub_left : {a m : List Label} (b : List Label) → Sub a m → Sub a (m ++ b)
sub_left {a} {m} b f = record { sub = λ l t. in_left l m b (f.sub l t) }

pub sub_right : {a m : List Label} (b : List Label) → Sub a m → Sub a (b ++ m)
sub_right {a} {m} b f = record { sub = λ l t. in_right l b m (f.sub l t) }

pub here : {x : Label} {m : List Label} → In x (x ∷ m)
here {x} {m} = record { is_in = in_head x m }

pub further : {x y : Label} {m : List Label} → In x m → In x (y ∷ m)
further {x} {y} {m} h = record { is_in = in_tail x y m h.is_in }

pub on_left : {x : Label} {m : List Label} (b : List Label) → In x m → In x (m ++ b)
on_left {x} {m} b h = record { is_in = in_left x m b h.is_in }

pub on_right : {x : Label} {m : List Label} (b : List Label) → In x m → In x (b ++ m)
on_right {x} {m} b h = record { is_in = in_right x b m h.is_in }

pub in_equal : {x y : Label} {m : List Label} → x ≡ y → In x m → In y m
in_equal {x} {y} {m} e h = record { is_in = in_at m e h.is_in }

pub last-first : (a : List Label) (x : Label) → Sub (a ++ (x ∷ [])) (x ∷ a)
last-first a x = sub-append (sub_tail sub_same) (sub-one here)

pub first-last : (a : List Label) (x : Label) → Sub (x ∷ a) (a ++ (x ∷ []))
first-last a x = sub_cons (on_right a here) (sub_left (x ∷ []) sub_same)

-- a call that passes the limit, after what a table has grown by
pub over-after : {limit : ℕ} {t u : List Part} {a b : List Label} (more : List Label) →
    Grew t u a → Sub (a ++ b) more → Over limit u b → Over limit t more
over-after {limit} {t} {u} {a} {b} more g f o = over-same more f.sub (over-then b g o)

pub over-sub : {limit : ℕ} {t : List Part} {a : List Label} (more : List Label) → Sub a more → Over limit t a → Over limit t more
over-sub more f o = over-same more f.sub o

-- a call after what a table has grown by
pub call_after : {E : Type 0} (limit : ℕ) {t u : List Part} (v : List Part) {a : List Label} (q : Label) (b more : List Label) (r : Result ℕ E) →
    Grew t u a → Sub (a ++ b) more → Sub more (a ++ b) → Outcome limit u v q b r → Outcome limit t v q more r
call_after limit v q b more (Ok i) g f h m =
    record { grew = grew_same more f.sub h.sub (grew_then g m.grew); within = m.within; is = m.is }
call_after limit v q b more (Err e) g f h o = over-after more g f o

-- a label made before stays
pub stays : {t u v : List Part} {p : Label} {a b : List Label} (i : ℕ) → Made t u p a i → Grew u v b → label_at v i ≡ p
stays i m g = grew-label g i m.within ∙ m.is

pub at_label : {E : Type 0} (limit : ℕ) (t u : List Part) {q r : Label} (o : Result ℕ E) → q ≡ r →
    Outcome limit t u q (q ∷ []) o → Outcome limit t u r (r ∷ []) o
at_label limit t u o e m = subst (λ (x : Label). Outcome limit t u x (x ∷ []) o) e m

pub after-negate : {E : Type 0} (limit : ℕ) {t u : List Part} (v : List Part) {p : Label} {a : List Label} (i : ℕ) (r : Result ℕ E) →
    Made t u p a i → Outcome limit u v (negate (label_at u i)) (negate (label_at u i) ∷ []) r →
    Outcome limit t v (negate p) (negate p ∷ a) r
after-negate limit {t} {u} v {p} {a} i r m o =
    call_after limit v (negate p) (negate p ∷ []) (negate p ∷ a) r m.grew (last-first a (negate p)) (first-last a (negate p))
    (at_label limit u v r (ap negate m.is) o)

pub after-join : {E : Type 0} (limit : ℕ) {t u v : List Part} (w : List Part) {p q : Label} {a b : List Label}
    (join : Label → Label → Label) (i j : ℕ) (r : Result ℕ E) → Made t u p a i → Made u v q b j →
    Outcome limit v w (join (label_at v i) (label_at v j)) (join (label_at v i) (label_at v j) ∷ []) r →
    Outcome limit t w (join p q) (join p q ∷ (a ++ b)) r
after-join limit {t} {u} {v} w {p} {q} {a} {b} join i j r m n o =
    call_after limit w (join p q) (join p q ∷ []) (join p q ∷ (a ++ b)) r (grew_then m.grew n.grew)
    (last-first (a ++ b) (join p q)) (first-last (a ++ b) (join p q))
    (at_label limit v w r (ap₂ join (stays i m n.grew) n.is) o)

-- an until: x is its result, y its rest, q the first part's progress joined with the rest,
-- a the results for the first part and z those for the second, none if the lower end is above 0
module _ (x y q : Label) (a z : List Label) where
  abbrev All : List Label
  All = x ∷ (y ∷ (q ∷ (a ++ z)))

  first_in : Sub a All
  first_in = sub_tail (sub_tail (sub_tail (sub_left z sub_same)))

  second_in : Sub z All
  second_in = sub_tail (sub_tail (sub_tail (sub_right a sub_same)))

  rest_in : Sub (y ∷ []) All
  rest_in = sub-one (further here)

  both_in : Sub (q ∷ []) All
  both_in = sub-one (further (further here))

  pub until-first-over : {limit : ℕ} {t : List Part} → Over limit t a → Over limit t (x ∷ (y ∷ (q ∷ (a ++ z))))
  until-first-over o = over-sub All first_in o

  pub until-rest-over : {limit : ℕ} {t u : List Part} {p : Label} {i : ℕ} → Made t u p a i → Over limit u (y ∷ []) →
      Over limit t (x ∷ (y ∷ (q ∷ (a ++ z))))
  until-rest-over m o = over-after All m.grew (sub-append first_in rest_in) o

  module _ {t u v : List Part} {p : Label} (i j : ℕ) (m : Made t u p a i) (n : Made u v y (y ∷ []) j) (is-q : conjoin p y ≡ q) where
    joins : conjoin (label_at v i) (label_at v j) ≡ q
    joins = ap₂ conjoin (stays i m n.grew) n.is ∙ is-q

    pub until-both-over : {limit : ℕ} → Over limit v (conjoin (label_at v i) (label_at v j) ∷ []) → Over limit t (x ∷ (y ∷ (q ∷ (a ++ z))))
    until-both-over {limit} o =
        over-after All (grew_then m.grew n.grew) (sub-append (sub-append first_in rest_in) both_in)
        (subst (λ (l : Label). Over limit v (l ∷ [])) joins o)

    module _ {w : List Part} (k : ℕ) (o : Made v w (conjoin (label_at v i) (label_at v j)) (conjoin (label_at v i) (label_at v j) ∷ []) k) where
      abbrev Three : List Label
      Three = (a ++ (y ∷ [])) ++ (q ∷ [])

      grown : Grew t w Three
      grown = grew_then (grew_then m.grew n.grew) (subst (λ (l : Label). Grew v w (l ∷ [])) joins o.grew)

      three-in : Sub Three All
      three-in = sub-append (sub-append first_in rest_in) both_in

      has_rest : In y Three
      has_rest = on_left (q ∷ []) (on_right a here)

      has_both : In q Three
      has_both = on_right (a ++ (y ∷ [])) here

      has_first : Sub a Three
      has_first = sub_left (q ∷ []) (sub_left (y ∷ []) sub_same)

      -- a lower end above 0: the second part is left out
      pub until-waits : x ≡ q → z ≡ [] → Made t w x (x ∷ (y ∷ (q ∷ (a ++ z)))) k
      until-waits ex ez = record {
        grew = grew_same All three-in.sub
            (sub_cons (in_equal (sym ex) has_both)
            (sub_cons has_rest (sub_cons has_both
            (sub-append has_first (subst (λ (ls : List Label). Sub ls Three) (sym ez) sub_nil))))).sub
            grown;
        within = o.within;
        is = o.is ∙ (joins ∙ sym ex);
      }

      pub until-second-over : {limit : ℕ} → Over limit w z → Over limit t (x ∷ (y ∷ (q ∷ (a ++ z))))
      until-second-over ov = over-after All grown (sub-append three-in second_in) ov

      -- a lower end of 0: the second part's progress joined with the rest
      pub until-ends : {E : Type 0} (limit : ℕ) {s : List Part} (f : List Part) {p' : Label} (j' : ℕ) (r : Result ℕ E) →
          Made w s p' z j' → disjoin p' q ≡ x →
          Outcome limit s f (disjoin (label_at s j') (label_at s k)) (disjoin (label_at s j') (label_at s k) ∷ []) r →
          Outcome limit t f x (x ∷ (y ∷ (q ∷ (a ++ z)))) r
      until-ends limit {s} f j' r m' ex oc =
          call_after limit f x (x ∷ []) All r (grew_then grown m'.grew)
          (sub-append (sub-append three-in second_in) (sub-one here))
          (sub_cons (on_right (Three ++ z) here)
          (sub_cons (on_left (x ∷ []) (on_left z has_rest))
          (sub_cons (on_left (x ∷ []) (on_left z has_both))
          (sub-append (sub_left (x ∷ []) (sub_left z has_first)) (sub_left (x ∷ []) (sub_right Three sub_same))))))
          (at_label limit s f r (ap₂ disjoin m'.is (grew-label m'.grew k o.within ∙ (o.is ∙ joins)) ∙ ex) oc)

-- a quantifier's turns
module _ (join : Label → Label → Label) (start : Label) (range : ℕ → Bool) (item : ℕ → Label) (results : ℕ → List Label) where
  abbrev So : ℕ → Label
  So n = joined join start range item n

  abbrev Run : ℕ → List Label
  Run n = running join start range item results n

  grows : (n : ℕ) → Sub (Run n) (Run (suc n))
  grows n = go (range n) refl
    where
      go : (c : Bool) → range n ≡ c → Sub (Run n) (Run (suc n))
      go true e = subst (Sub (Run n)) (sym (running_more join start range item results n e)) (sub_right (So (suc n) ∷ results n) sub_same)
      go false e = subst (Sub (Run n)) (sym (running_skip join start range item results n e)) sub_same

  pub turns_in : (n N : ℕ) → n ≤ N → Sub (running join start range item results n) (running join start range item results N)
  turns_in n zero le = let e : n ≡ 0 = omega arith in subst (λ (k : ℕ). Sub (Run n) (Run k)) e sub_same
  turns_in n (suc N) le = elim (dec_le n N) [
    | yes h ↦ sub_then (turns_in n N h) (grows N)
    | no h ↦ let e : n ≡ suc N = omega arith in subst (λ (k : ℕ). Sub (Run n) (Run k)) e sub_same
  ]

  start-run : Run 0 ≡ start ∷ []
  unfolding running
  start-run = refl

  pub start_in : (n : ℕ) → Sub (start ∷ []) (running join start range item results n)
  start_in n = subst (λ (ls : List Label). Sub ls (Run n)) start-run (turns_in 0 n (omega arith))

  item_in : (n N : ℕ) → n < N → range n ≡ true → Sub (results n) (Run N)
  item_in n N lt e =
      sub_then (subst (Sub (results n)) (sym (running_more join start range item results n e)) (sub_left (Run n) (sub_tail sub_same)))
      (turns_in (suc n) N lt)

  next_in : (n N : ℕ) → n < N → range n ≡ true → Sub (So (suc n) ∷ []) (Run N)
  next_in n N lt e =
      sub_then (subst (Sub (So (suc n) ∷ [])) (sym (running_more join start range item results n e)) (sub-one (on_left (Run n) here)))
      (turns_in (suc n) N lt)

  -- the start stands: nothing is joined yet
  pub turn_none : {t : List Part} {i : ℕ} → Made t t start (start ∷ []) i →
      Made t t (joined join start range item 0) (running join start range item results 0) i
  unfolding joined running
  turn_none m = m

  -- an id out of range
  pub turn_skip : (n : ℕ) → range n ≡ false → {t u : List Part} {i : ℕ} →
      Made t u (joined join start range item n) (running join start range item results n) i →
      Made t u (joined join start range item (suc n)) (running join start range item results (suc n)) i
  turn_skip n e {t} {u} {i} m =
      subst (λ (q : Label). Made t u q (Run (suc n)) i) (sym (joined_skip join start range item n e))
      (subst (λ (ls : List Label). Made t u (So n) ls i) (sym (running_skip join start range item results n e)) m)

  -- an id in range: its item, then the joining
  module _ (n : ℕ) (e : range n ≡ true) {t u : List Part} (i : ℕ)
      (m : Made t u (joined join start range item n) (running join start range item results n) i) where
    pub turn_item-over : {limit : ℕ} (N : ℕ) → n < N → Over limit u (results n) → Over limit t (running join start range item results N)
    turn_item-over N lt o = over-after (Run N) m.grew (sub-append (turns_in n N (omega arith)) (item_in n N lt e)) o

    module _ {v : List Part} (j : ℕ) (k : Made u v (item n) (results n) j) where
      next-is : join (label_at v i) (label_at v j) ≡ So (suc n)
      next-is = ap₂ join (stays i m k.grew) k.is ∙ sym (joined-more join start range item n e)

      pub turn-join-over : {limit : ℕ} (N : ℕ) → n < N → Over limit v (join (label_at v i) (label_at v j) ∷ []) →
          Over limit t (running join start range item results N)
      turn-join-over {limit} N lt o =
          over-after (Run N) (grew_then m.grew k.grew)
          (sub-append (sub-append (turns_in n N (omega arith)) (item_in n N lt e)) (next_in n N lt e))
          (subst (λ (l : Label). Over limit v (l ∷ [])) next-is o)

      pub turn_more : {w : List Part} {h : ℕ} → Made v w (join (label_at v i) (label_at v j)) (join (label_at v i) (label_at v j) ∷ []) h →
          Made t w (joined join start range item (suc n)) (running join start range item results (suc n)) h
      turn_more {w} {h} o = record {
        grew = grew_same (Run (suc n))
            (sub-append (sub-append (turns_in n (suc n) (omega arith)) (item_in n (suc n) (omega arith) e)) (next_in n (suc n) (omega arith) e)).sub
            (subst (λ (ls : List Label). Sub ls ((Run n ++ results n) ++ (So (suc n) ∷ []))) (sym (running_more join start range item results n e))
            (sub-append
            (sub_cons (on_right (Run n ++ results n) here) (sub_left (So (suc n) ∷ []) (sub_right (Run n) sub_same)))
            (sub_left (So (suc n) ∷ []) (sub_left (results n) sub_same)))).sub
            (grew_then (grew_then m.grew k.grew) (subst (λ (l : Label). Grew v w (l ∷ [])) next-is o.grew));
        within = o.within;
        is = o.is ∙ next-is;
      }

  -- all the turns, behind the start
  pub turns_end : (N : ℕ) {s t u : List Part} {i j : ℕ} → Made s t start (start ∷ []) i →
      Made t u (joined join start range item N) (running join start range item results N) j →
      Made s u (joined join start range item N) (running join start range item results N) j
  turns_end N g m = record {
    grew = grew_same (Run N) (sub-append (start_in N) sub_same).sub
        (sub_right {a = Run N} (start ∷ []) sub_same).sub (grew_then g.grew m.grew);
    within = m.within;
    is = m.is;
  }

  pub turns_over : (N : ℕ) {limit : ℕ} {s t : List Part} {i : ℕ} → Made s t start (start ∷ []) i →
      Over limit t (running join start range item results N) → Over limit s (running join start range item results N)
  turns_over N g o = over-after (Run N) g.grew (sub-append (start_in N) sub_same) o
