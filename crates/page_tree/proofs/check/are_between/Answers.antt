use Rattle.std.proofs.Common.{◌≡◌, ℕ, Option, Some, None, List, ap, subst}
use Rattle.std.specs.Borrow.{Bor}
use Rattle.page_nodes.specs.declared.page.EndKeys.{EndKeys}
use Rattle.page_nodes.specs.Map.{lent_bytes}
use Rattle.page_nodes.specs.Ends.{BeginAndEnd, AreEnds}
use Rattle.page_tree.proofs.CheckLeaves.{ends_between, ends_open}
use Rattle.page_tree.proofs.check.are_between.Goals as goal

pub returns-in-Some-high : goal.returns-in-Some-high
returns-in-Some-high c es are rising =
    let ends : BeginAndEnd es c.in-Some.keys.first.now c.in-Some.keys.last.now = subst (λ (keys : Option EndKeys). AreEnds es keys) c.in-Some.is are in
    let high : lent_bytes c.args.high ≡ Some c.in-Some-high.high.now = ap (λ (o : Option (Bor (List ℕ))). lent_bytes o) c.in-Some-high.is in
    rw high (ends_between c.args.low.now c.in-Some-high.high.now es c.in-Some.keys.first.now c.in-Some.keys.last.now c.is_less-in-Some-high.result ends rising c.if-is_less.ensures c.is_less-in-Some-high.ensures)

pub returns-in-None : goal.returns-in-None
returns-in-None c es are rising =
    let ends : BeginAndEnd es c.in-Some.keys.first.now c.in-Some.keys.last.now = subst (λ (keys : Option EndKeys). AreEnds es keys) c.in-Some.is are in
    let open_end : lent_bytes c.args.high ≡ None = ap (λ (o : Option (Bor (List ℕ))). lent_bytes o) c.in-None.is in
    rw open_end (ends_open c.args.low.now es c.in-Some.keys.first.now c.in-Some.keys.last.now ends rising c.if-is_less.ensures)
