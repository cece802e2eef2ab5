-- A node of a table looked up by its number: it stands behind its parts, and behind the table all is true.
use Rattle.std.proofs.Common.{◌≡◌, ℕ, List, length, get_or, Option, Some, None, unwrap_or, Bor, sym, ap, ◌∙◌, subst, arith}
use native.Mathlib.Decide.{dec_lt}
use Rattle.std.specs.List.{slice_get}
use Rattle.std.specs.Option.{option_map}
use Rattle.std.proofs.lemmas.List.{get_or_past}
use Rattle.std.proofs.lemmas.Option.{slice_get-get_or, slice_get_past}
use Rattle.goals.specs.declared.goal.Node.{Node}
use Rattle.goals.specs.declared.goal.Node.TheVariants.{True}
use Rattle.goals.specs.NodeTable.{PartsBelow, Rising}

module _ (nodes : List Node) (k : ℕ) where
  pub node-there : (nd : Node) → Rising nodes → Some nd ≡ slice_get nodes k → (nd ≡ get_or nodes k True) × PartsBelow k nd
  node-there nd rising e = elim (dec_lt k (length nodes)) [
    | yes l ↦
        let f : slice_get nodes k ≡ Some (get_or nodes k True) = slice_get-get_or nodes k True l in
        let is : nd ≡ get_or nodes k True = cc in
        (is, subst (PartsBelow k) (sym is) (rising k l))
    | no m ↦
        let f : slice_get nodes k ≡ None = slice_get_past nodes k (omega arith) in
        let z : ◌≡◌ {A = ℕ} 0 1 = cc in absurd (omega arith)
  ]

  pub node-missing : None ≡ slice_get nodes k → True ≡ get_or nodes k True
  node-missing e = elim (dec_lt k (length nodes)) [
    | yes l ↦
        let f : slice_get nodes k ≡ Some (get_or nodes k True) = slice_get-get_or nodes k True l in
        let z : ◌≡◌ {A = ℕ} 0 1 = cc in absurd (omega arith)
    | no m ↦ sym (get_or_past nodes k True (omega arith))
  ]

  -- what is read where it lies, or all where it lies nowhere
  pub node-or_true : (r : Option (Bor Node)) (b d : Bor Node) → Rising nodes → option_map (λ x. x.now) r ≡ slice_get nodes k → b ≡ unwrap_or r d →
      d.now ≡ True → (b.now ≡ get_or nodes k True) × PartsBelow k b.now
  node-or_true None b d rising e q t =
      let is : b.now ≡ True = ap (λ x. x.now) q ∙ t in (is ∙ node-missing e, subst (PartsBelow k) (sym is) tt)
  node-or_true (Some x) b d rising e q t =
      let is : b.now ≡ x.now = ap (λ x. x.now) q in
      let there = node-there x.now rising e in
      (is ∙ there.0, subst (PartsBelow k) (sym is) there.1)
