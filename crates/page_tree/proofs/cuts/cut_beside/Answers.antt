use Rattle.std.proofs.Common.{◌≡◌, ◌+◌, ◌⊎◌, inr, ℕ, suc, refl, subst, arith}
use Rattle.page_nodes.specs.declared.scratch.Cut.{Cut}
use Rattle.page_nodes.specs.Scratch.{IsCut}
use Rattle.page_tree.proofs.CutPlaces.{found_with}
use Rattle.page_tree.proofs.cuts.cut_beside.Goals as goal

pub returns-in-None-clause-after : goal.returns-in-None-clause-after
returns-in-None-clause-after c cs sizes spelled number at cut =
    let next : suc c.args.index ≡ c.args.index + 1 = omega arith in
    absurd (c.in-None.ensures.found cs sizes spelled number at (subst (λ (i : ℕ). IsCut c.args.kind cs at i) next cut) refl)

pub returns-in-None-clause-before : goal.returns-in-None-clause-before
returns-in-None-clause-before c cs sizes spelled number at cut =
    found_with c.cut_before-in-None.result (λ (x : Cut). x.index ≡ c.args.index) (λ (x : Cut). (x.index ≡ suc c.args.index) ⊎ (x.index ≡ c.args.index))
    (c.cut_before-in-None.ensures.found cs sizes spelled number at cut) (λ x is. inr is) c.cut_before-in-None.ensures.index
