-- Going through the facts of a list, from its beginning.
use Rattle.std.proofs.Common.{◌≡◌, List, drop, ap, ◌∙◌}
use Rattle.std.specs.Iterator.{YieldsFirst}
use Rattle.std.proofs.lemmas.Iterator.{YieldsList}
use Rattle.std.proofs.lemmas.Iterator.Consumers.{YieldsList-from_first}
use Rattle.registers.specs.declared.fact.Fact.{Fact}
use Rattle.registers.specs.declared.fact_list.FactIter.{FactIter}

-- from the beginning every fact of the list is given
pub facts-whole : {L : Type 0} (listed : L → List Fact) (s : FactIter L) (l : L) → s.list.now ≡ l → s.next ≡ 0 →
    YieldsList (YieldsFirst (λ (t : FactIter L). drop t.next (listed t.list.now))) (λ x. x) s (listed l)
facts-whole listed s l e z =
    YieldsList-from_first (λ x. x) (λ t. drop t.next (listed t.list.now)) (listed l)
    (ap (λ n. drop n (listed s.list.now)) z ∙ ap listed e)

-- what is left at the beginning is the whole list
pub facts-left : {L : Type 0} (listed : L → List Fact) (s t : FactIter L) (l : L) → s ≡ t → t.list.now ≡ l → t.next ≡ 0 →
    drop s.next (listed s.list.now) ≡ listed l
facts-left listed s t l q e z =
    ap (λ (u : FactIter _). drop u.next (listed u.list.now)) q ∙ (ap (λ n. drop n (listed t.list.now)) z ∙ ap listed e)
