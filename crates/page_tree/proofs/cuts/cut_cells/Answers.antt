use Rattle.std.proofs.Common.{◌≡◌, ◌⊎◌, ℕ, suc, sym, ap, ◌∙◌, subst}
use Rattle.page_nodes.specs.Scratch.{IsCut}
use Rattle.page_tree.proofs.cuts.cut_cells.Goals as goal

pub returns-in-Some-clause-after : goal.returns-in-Some-clause-after
returns-in-Some-clause-after c index is cs sizes spelled number at cut =
    let same : c.in-After.index ≡ index = (let e = sym c.in-After.is ∙ is in cc) in
    c.in-Some.ensures.after cs sizes spelled number at (subst (λ (i : ℕ). IsCut c.args.kind cs at (suc i)) (sym same) cut) ∙ ap suc same

pub returns-in-Some-clause-before : goal.returns-in-Some-clause-before
returns-in-Some-clause-before c index is cs sizes spelled number at cut =
    let same : c.in-After.index ≡ index = (let e = sym c.in-After.is ∙ is in cc) in
    subst (λ (i : ℕ). (c.in-Some.cut.index ≡ suc i) ⊎ (c.in-Some.cut.index ≡ i)) same
    (c.in-Some.ensures.before cs sizes spelled number at (subst (λ (i : ℕ). IsCut c.args.kind cs at i) (sym same) cut))

pub returns-in-None-clause-after : goal.returns-in-None-clause-after
returns-in-None-clause-after c index is cs sizes spelled number at cut =
    let same : c.in-After.index ≡ index = (let e = sym c.in-After.is ∙ is in cc) in
    absurd (c.in-None.ensures.after cs sizes spelled number at (subst (λ (i : ℕ). IsCut c.args.kind cs at (suc i)) (sym same) cut))

pub returns-in-None-clause-before : goal.returns-in-None-clause-before
returns-in-None-clause-before c index is cs sizes spelled number at cut =
    let same : c.in-After.index ≡ index = (let e = sym c.in-After.is ∙ is in cc) in
    absurd (c.in-None.ensures.before cs sizes spelled number at (subst (λ (i : ℕ). IsCut c.args.kind cs at i) (sym same) cut))
