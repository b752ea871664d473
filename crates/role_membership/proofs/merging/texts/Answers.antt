use Rattle.std.proofs.Common.{◌∙◌, sym, ⊎_elim, subst}
use Rattle.sql_types.specs.Name.{IsName}
use Rattle.role_membership.proofs.Names.{of_pushed}
use Rattle.role_membership.proofs.Distinct.{texts_more}
use Rattle.role_membership.proofs.merging.texts.Goals as goal

pub loop-name-preserved : goal.loop-name-preserved
loop-name-preserved c =
    let list = c.loop-name.list.items in
    let k = c.as_str.result in
    let text = c.as_str.ensures.text in
    rw c.in_ok-push.ensures.items (record {
      same = texts_more list k c.args.names.now c.loop-name.name-index c.name-item.result c.loop-name-test.true c.name-item.is text c.loop-name.invariant.same;
      names = λ s h. ⊎_elim (λ was. c.loop-name.invariant.names s was) (λ is. subst IsName (sym text ∙ is) c.as_str.ensures.name) (of_pushed list k s h);
    })
