use Rattle.std.proofs.Common.{◌≡◌, ◌<◌, ◌+◌, ◌-◌, ◌∙◌, ◌∷◌, List, ℕ, length, drop, sym, ap, arith}
use Rattle.std.proofs.lemmas.List.{drop_more}
use Rattle.sql_ast.specs.declared.privilege.Descriptor.{Descriptor}
use Rattle.catalogue.specs.Grants.{mask_given, with_given}
use Rattle.catalogue.proofs.descriptor_edit.mask_given.Goals as goal

pub loop-left-preserved : goal.loop-left-preserved
loop-left-preserved c =
    let ds = c.args.descriptors.now in
    let n = c.loop-left.left in
    let d = c.index-descriptors-left.result in
    let next : n ≡ n - 1 + 1 = omega (arith, c.loop-left-test.true) in
    let lt : n - 1 < length ds = omega (arith, c.loop-left-test.true, c.loop-left.invariant.inside) in
    let front : drop (n - 1) ds ≡ d ∷ drop n ds = drop_more ds (n - 1) d lt ∙ ap (λ (x : Descriptor). x ∷ drop (n - 1 + 1) ds) (sym c.index-descriptors-left.is) ∙ ap (λ (k : ℕ). d ∷ drop k ds) (sym next) in
    record {
      inside = omega (arith, c.loop-left.invariant.inside);
      mask =
          c.with_given-mask.ensures
          ∙ ap (with_given c.args.action c.args.grantee.now d) c.loop-left.invariant.mask
          ∙ sym (ap (λ (l : List Descriptor). mask_given c.args.action c.args.grantee.now l) front);
    }
