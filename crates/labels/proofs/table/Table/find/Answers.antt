use Rattle.std.proofs.Common.{◌≡◌, ℕ, suc, ◌<◌, List, length, get_or, None, Some, Option, vec_items, vec_len, sym, ap, ◌∙◌, subst, rules, arith}
use Rattle.std.proofs.lemmas.List.{get_or_read}
use Rattle.labels.specs.declared.part.Part.{Part}
use Rattle.labels.specs.declared.part.Part.TheVariants.{True}
use Rattle.labels.specs.Chains.{bucket, reach}
use Rattle.labels.proofs.Links.{goes_before, walk_on}
use Rattle.labels.proofs.table.Table.find.Goals as goal

pub loop-link-init : goal.loop-link-init
loop-link-init g c =
    let hs : List (Option ℕ) = vec_items c.args.self.now.heads in
    let w : vec_len c.args.self.now.heads ≡ length hs = c.args.self.now.heads.ok.0 in
    let b : ℕ = c.hash.result in
    let here : c.index-link.result.now ≡ get_or hs b None = get_or_read hs b c.index-link.result.now (omega arith) c.index-link.ensures None in
    let same : b ≡ bucket c.args.part = c.hash.ensures.value in (
      (λ k kl e.
          subst (λ (o : Option ℕ). k < reach o) (ap (λ (i : ℕ). get_or hs i None) (ap bucket e ∙ sym same) ∙ sym here) (c.args.self.now.latest k kl)),
      (λ k e. let h = c.args.self.now.own b k (sym here ∙ e) in (h.0, h.1 ∙ same)),
    )

pub index-requires : goal.index-requires
index-requires g c =
    let v : vec_len c.args.self.now.items ≡ length (vec_items c.args.self.now.items) = c.args.self.now.items.ok.0 in
    let h = c.loop-link.invariant.1 c.in-Some.at c.in-Some.is in
    omega (arith, h.0)

pub loop-link-smaller : goal.loop-link-smaller
loop-link-smaller g c =
    let ns : List (Option ℕ) = vec_items c.args.self.now.next in
    let v : vec_len c.args.self.now.items ≡ length (vec_items c.args.self.now.items) = c.args.self.now.items.ok.0 in
    let x : vec_len c.args.self.now.next ≡ length ns = c.args.self.now.next.ok.0 in
    let at : ℕ = c.from-place.result in
    let is = c.in-Some.is ∙ ap Some (sym c.from-place.ensures) in
    let lt : at < length (vec_items c.args.self.now.items) = (c.loop-link.invariant.1 at is).0 in
    let here : c.index-link-in-Some.result.now ≡ get_or ns at None = get_or_read ns at c.index-link-in-Some.result.now (omega arith) c.index-link-in-Some.ensures None in
    let h = goes_before c.index-link-in-Some.result.now at (λ k e. (c.args.self.now.earlier at k (lt, sym here ∙ e)).0) in
    let f = ap reach is in
    omega arith

pub loop-link-preserved : goal.loop-link-preserved
loop-link-preserved g c =
    let t : List Part = vec_items c.args.self.now.items in
    let ns : List (Option ℕ) = vec_items c.args.self.now.next in
    let v : vec_len c.args.self.now.items ≡ length t = c.args.self.now.items.ok.0 in
    let x : vec_len c.args.self.now.next ≡ length ns = c.args.self.now.next.ok.0 in
    let at : ℕ = c.from-place.result in
    let is = c.in-Some.is ∙ ap Some (sym c.from-place.ensures) in
    let h = c.loop-link.invariant.1 at is in
    let lt : at < length t = h.0 in
    let here : c.index-link-in-Some.result.now ≡ get_or ns at None = get_or_read ns at c.index-link-in-Some.result.now (omega arith) c.index-link-in-Some.ensures None in
    let seen = get_or_read t at c.index.result.now lt c.index.ensures True in
    let inv : (k : ℕ) → k < length t → get_or t k True ≡ c.args.part → k < suc at =
    λ k kl e. let i = c.loop-link.invariant.0 k kl e in let f = ap reach is in omega arith in
    let w = walk_on t ns c.args.part at c.args.self.now.linked inv lt h.1 (λ e. search rules) in (
      (λ k kl e. subst (λ (o : Option ℕ). k < reach o) (sym here) (w k kl e)),
      (λ k e.
          let f = c.args.self.now.earlier at k (lt, sym here ∙ e) in
          let before : k < at = f.0 in
          (omega arith, f.1 ∙ h.1)),
    )
