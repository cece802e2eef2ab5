use Rattle.std.proofs.Common.{◌≡◌, ℕ, suc, ◌<◌, false, Bool, List, length, vec_items, sym, subst, add-one, arith}
use Rattle.std.proofs.lemmas.List.{length-set}
use Rattle.labels.specs.declared.part.Part.{Part}
use Rattle.labels.specs.Marks.{Marking}
use Rattle.labels.proofs.Filled.{filled}
use Rattle.labels.proofs.Copies.{mark-root, mark-more, mark_skip}
use Rattle.labels.proofs.compact.mark.Goals as goal
use Rattle.labels.proofs.compact.mark.Goals.{then-marks-k, else-marks-k, Joined-marks-k}

pub loop-k-init : goal.loop-k-init
loop-k-init c =
    let t : List Part = vec_items c.args.source.now.items in
    let marks : List Bool = c.fill.new.self in
    let w : c.args.root < length t = c.requires.within in
    let n : length marks ≡ length c.args.marks.now = c.fill.ensures.len in
    rw add-one (mark-root t c.args.source.now.order c.args.root w marks (omega arith)
    (filled marks (length c.args.marks.now) false (c.fill.ensures.after (λ y h. h))))

-- the part at k is seen
seen : (c : Joined-marks-k) → Marking (vec_items c.args.source.now.items) c.args.root c.loop-k.k c.if-marks-k.marks
seen c =
    let t : List Part = vec_items c.args.source.now.items in
    let root : ℕ = c.args.root in
    let k : ℕ = c.loop-k.k in
    let w : root < length t = c.requires.within in
    let n : length c.fill.new.self ≡ length c.args.marks.now = c.fill.ensures.len in
    let m : Marking t root (suc k) c.loop-k.marks = rw add-one at c.loop-k.invariant in
    elim c.if-marks-k.branch [
      | then-marks-k w' ↦ rw (w'.marks-is, w'.mark_own.ensures)
          (mark-more t c.args.source.now.order root w c.loop-k.marks k (omega arith) (omega (arith, length-set {A = Bool})) w'.if-marks-k.true
          w'.part.result (sym w'.part.ensures) m)
      | else-marks-k w' ↦ rw w'.marks-is (mark_skip t c.args.source.now.order root w c.loop-k.marks k w'.if-marks-k.false m)
    ]

pub loop-k-preserved : goal.loop-k-preserved
loop-k-preserved c = subst (λ (j : ℕ). Marking (vec_items c.args.source.now.items) c.args.root j c.if-marks-k.marks) (omega arith) (seen (goal.at.loop-k-preserved c).Joined-marks-k)
