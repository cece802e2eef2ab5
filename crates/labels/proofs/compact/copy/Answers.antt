use Rattle.std.proofs.Common.{◌≡◌, ℕ, ◌+◌, ◌<◌, Bool, List, [], ◌∷◌, length, set, vec_items, sym, ap, ◌∙◌, subst, arith}
use Rattle.std.proofs.lemmas.Result.{err_from_is_err_and}
use Rattle.labels.specs.declared.part.Part.{Part}
use Rattle.labels.specs.Labels.{Label}
use Rattle.labels.specs.Table.{composed, label_at, before}
use Rattle.labels.specs.Growth.{Over}
use Rattle.labels.proofs.Copies.{copy-none, copy-early, copy-label, copy-over, copy-one, copy_skip, copy-all}
use Rattle.labels.proofs.Walking.{stop}
use Rattle.labels.proofs.compact.copy.Goals as goal
use Rattle.labels.proofs.compact.copy.Goals.{else-loop-k-test, then-loop-k-test+else-k-root, then-marks-k+in_ok-to, else-marks-k}

pub loop-k-init : goal.loop-k-init
loop-k-init c =
    let t : List Part = vec_items c.args.source.now.items in (
      copy-none t c.args.source.now.order c.args.root c.requires.within c.args.marks.now c.requires.marks (vec_items c.args.table.now.items),
      λ j l e. absurd (omega arith),
    )

pub add-requires : goal.add-requires
add-requires c =
    let t : List Part = vec_items c.args.source.now.items in
    let d : List Part = vec_items c.loop-k.table.items in (
      omega arith,
      ap (before (length d)) c.moved.ensures
          ∙ copy-early t c.args.source.now.order c.args.root c.requires.within c.args.marks.now c.requires.marks c.loop-k.to d c.loop-k.k (omega arith)
          c.loop-k.invariant.1 c.if-marks-k.true c.part.result (sym c.part.ensures),
    )

pub returns-in_err-to : goal.returns-in_err-to
returns-in_err-to c =
    let t : List Part = vec_items c.args.source.now.items in
    let order = c.args.source.now.order in
    let root : ℕ = c.args.root in
    let marks : List Bool = c.args.marks.now in
    let d : List Part = vec_items c.loop-k.table.items in
    let is : composed (label_at d) c.moved.result ≡ label_at t c.loop-k.k =
    ap (composed (label_at d)) c.moved.ensures
    ∙ copy-label t order root c.requires.within marks c.requires.marks c.loop-k.to d c.loop-k.k (omega arith) c.loop-k.invariant.1 c.if-marks-k.true c.part.result (sym c.part.ensures) in
    let pr = err_from_is_err_and c.from_residual.result c.from_residual.ensures.1 in
    stop (vec_items c.add.new.self.items) (label_at t root) (label_at t root ∷ []) c.from_residual.result pr.0 pr.1
    (copy-over t order root c.requires.within marks c.requires.marks c.loop-k.k c.if-marks-k.true c.loop-k.invariant.0
    (subst (λ (l : Label). Over 512 d (l ∷ [])) is c.in_err-to.ensures))

pub loop-k-preserved : goal.loop-k-preserved
loop-k-preserved c =
    let t : List Part = vec_items c.args.source.now.items in
    let order = c.args.source.now.order in
    let marks : List Bool = c.args.marks.now in
    let within : c.args.root < length t = c.requires.within in
    elim c.if-marks-k.branch [
      | then-marks-k+in_ok-to w ↦ rw (w.to-is, w.table-is)
          (copy-one t order c.args.root within marks c.requires.marks c.loop-k.to c.loop-k.k (omega arith) (omega arith) w.if-marks-k.true
          c.loop-k.invariant.0 c.loop-k.invariant.1 w.part.result w.moved.result w.part.ensures w.moved.ensures w.in_ok-to.field-0 w.in_ok-to.ensures)
      | else-marks-k w ↦ rw (w.to-is, w.table-is)
          (copy_skip t order c.args.root within marks c.requires.marks c.loop-k.to c.loop-k.k w.if-marks-k.false c.loop-k.invariant.0 c.loop-k.invariant.1)
    ]

pub returns : goal.returns
returns c =
    let t : List Part = vec_items c.args.source.now.items in
    let order = c.args.source.now.order in
    let marks : List Bool = c.args.marks.now in
    let within : c.args.root < length t = c.requires.within in
    elim c.loop-k-test.branch [
      | else-loop-k-test w ↦ absurd (omega arith)
      | then-loop-k-test+else-k-root w ↦ elim w.if-marks-k.branch [
        | then-marks-k+in_ok-to w' ↦
            let h = copy-one t order c.args.root within marks c.requires.marks c.loop-k.to c.loop-k.k (omega arith) (omega arith) w'.if-marks-k.true
            c.loop-k.invariant.0 c.loop-k.invariant.1 w'.part.result w'.moved.result w'.part.ensures w'.moved.ensures w'.in_ok-to.field-0 w'.in_ok-to.ensures in
            rw (w.to-is, w'.to-is, w.table-is, w'.table-is)
            (copy-all t order c.args.root within marks c.requires.marks (set c.loop-k.to c.loop-k.k w'.in_ok-to.field-0) (c.loop-k.k + 1) (omega arith) h.0 h.1)
        | else-marks-k w' ↦
            let h = copy_skip t order c.args.root within marks c.requires.marks c.loop-k.to c.loop-k.k w'.if-marks-k.false c.loop-k.invariant.0 c.loop-k.invariant.1 in
            rw (w.to-is, w'.to-is, w.table-is, w'.table-is)
            (copy-all t order c.args.root within marks c.requires.marks c.loop-k.to (c.loop-k.k + 1) (omega arith) h.0 h.1)
      ]
    ]
