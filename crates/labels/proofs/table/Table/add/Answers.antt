use Rattle.std.proofs.Common.{◌≡◌, ℕ, ◌<◌, List, [], ◌∷◌, ◌++◌, length, get_or, Some, None, Option, MatchOption, vec_items, vec_len, sym, refl, subst, arith}
use Rattle.std.proofs.lemmas.List.{get_or_read}
use Rattle.labels.specs.declared.part.Part.{Part}
use Rattle.labels.specs.declared.part.Part.TheVariants.{True}
use Rattle.labels.specs.Table.{composed, label_at, InOrder, NoTwins}
use Rattle.labels.specs.Growth.{Made}
use Rattle.labels.proofs.Growing.{found, full, pushed, pushed_order, pushed_twins}
use Rattle.labels.proofs.Links.{index_pushed}
use Rattle.labels.proofs.table.Table.add.Goals as goal

not_found : {P : Type 0} (Q : ℕ → Type 0) (o : Option ℕ) → ((x : ℕ) → o ≡ Some x → ⊥) → MatchOption o P Q → P
not_found Q (Some x) n h = absurd (n x refl)
not_found Q None n h = h

pub returns-in-Some : goal.returns-in-Some
returns-in-Some g c =
    let t : List Part = vec_items c.args.self.now.items in
    found t c.args.self.now.order c.args.part c.in-Some.place c.in-Some.ensures.0 c.in-Some.ensures.1

pub returns-then-n : goal.returns-then-n
returns-then-n g c =
    let t : List Part = vec_items c.args.self.now.items in
    let v : vec_len c.args.self.now.items ≡ length t = c.args.self.now.items.ok.0 in
    let none : (k : ℕ) → k < length t → get_or t k True ≡ c.args.part → ⊥ = not_found _ c.find.result c.in_default.not-Some c.find.ensures in
    full t c.args.self.now.order c.args.self.now.twins c.args.part c.requires none g.row.LIMIT (omega arith)

pub invariant_of-self : goal.invariant_of-self
invariant_of-self g c =
    let t : List Part = vec_items c.args.self.now.items in
    let hs : List (Option ℕ) = vec_items c.args.self.now.heads in
    let ns : List (Option ℕ) = vec_items c.args.self.now.next in
    let v : vec_len c.args.self.now.items ≡ length t = c.args.self.now.items.ok.0 in
    let none : (k : ℕ) → k < length t → get_or t k True ≡ c.args.part → ⊥ = not_found _ c.find.result c.in_default.not-Some c.find.ensures in
    let w : vec_len c.args.self.now.heads ≡ length hs = c.args.self.now.heads.ok.0 in
    let x : vec_len c.args.self.now.next ≡ length ns = c.args.self.now.next.ok.0 in
    let last : c.index-last.result.now ≡ get_or hs c.hash-bucket.result None =
    get_or_read hs c.hash-bucket.result c.index-last.result.now (omega arith) c.index-last.ensures None in
    let i = index_pushed t hs ns c.args.part c.len-n.result (omega arith) (omega arith) (omega arith)
    c.args.self.now.latest c.args.self.now.linked c.args.self.now.own c.args.self.now.earlier
    (vec_items c.push_reserved.new.self) (vec_items c.push_reserved-2.new.self) c.hash-bucket.result c.index-last.result.now
    c.push_reserved.ensures.items c.push_reserved-2.ensures.items c.hash-bucket.ensures.value last in
    record {
      small = c.args.self.now.small;
      room = omega arith;
      few = omega arith;
      order = subst InOrder (sym c.push_reserved.ensures.items) (pushed_order t c.args.self.now.order c.args.self.now.twins c.args.part c.requires none);
      twins = subst NoTwins (sym c.push_reserved.ensures.items) (pushed_twins t c.args.self.now.order c.args.self.now.twins c.args.part c.requires none);
      buckets = c.args.self.now.buckets;
      beside = omega arith;
      spare = omega arith;
      latest = i.0;
      linked = i.1;
      own = i.2;
      earlier = i.3;
    }

pub returns : goal.returns
returns g c =
    let t : List Part = vec_items c.args.self.now.items in
    let v : vec_len c.args.self.now.items ≡ length t = c.args.self.now.items.ok.0 in
    let none : (k : ℕ) → k < length t → get_or t k True ≡ c.args.part → ⊥ = not_found _ c.find.result c.in_default.not-Some c.find.ensures in
    let e : length t ≡ c.len-n.result = omega arith in
    subst (λ (u : List Part). Made t u (composed (label_at t) c.args.part) (composed (label_at t) c.args.part ∷ []) c.len-n.result) (sym c.push_reserved.ensures.items)
    (subst (Made t (t ++ c.args.part ∷ []) (composed (label_at t) c.args.part) (composed (label_at t) c.args.part ∷ [])) e
    (pushed t c.args.self.now.order c.args.self.now.twins c.args.part c.requires none))
