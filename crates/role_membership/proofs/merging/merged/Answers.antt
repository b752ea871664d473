use Rattle.std.proofs.Common.{◌∙◌, [], List, sym, ap, map, take, arith}
use Rattle.std.proofs.lemmas.List.{take_all}
use Rattle.std.proofs.lemmas.Result.{IfOk-weaker}
use Rattle.sql_ast.specs.declared.role.Membership.{Membership}
use Rattle.abstract_database.specs.Lists.{TheName}
use Rattle.abstract_database.specs.Roles.{memberships_of}
use Rattle.role_membership.specs.Merging.{membership, texts, put_all}
use Rattle.role_membership.proofs.Distinct.{at_index, length_texts}
use Rattle.role_membership.proofs.Products.{product_more, of_product}
use Rattle.role_membership.proofs.Puts.{put_all_append, beyond_name, same_product}
use Rattle.role_membership.proofs.merging.merged.Goals as goal

pub loop-role-init : goal.loop-role-init
loop-role-init c = record {
  list = c.new-merge.ensures.list;
  before = λ s h y k. absurd (rw c.new-merge.ensures.merged at k);
}

pub put_each-requires-clause-role : goal.put_each-requires-clause-role
put_each-requires-clause-role c =
    let here = at_index c.as_slice-role-items.result.now c.loop-role.role-index (record { ref_ptr = (0, 0); now = [] }) c.loop-role-test.true in
    (rw (← c.as_slice-role-items.ensures.value) at c.in_ok-each_role.ensures.names) _ here.among

pub put_each-requires-clause-before : goal.put_each-requires-clause-before
put_each-requires-clause-before c =
    let here = at_index c.as_slice-role-items.result.now c.loop-role.role-index (record { ref_ptr = (0, 0); now = [] }) c.loop-role-test.true in
    c.loop-role.invariant.before _ here.first

pub loop-role-preserved : goal.loop-role-preserved
loop-role-preserved c =
    let i = c.loop-role.role-index in
    let xs = texts c.as_slice-role-items.result.now in
    let here = at_index c.as_slice-role-items.result.now i (record { ref_ptr = (0, 0); now = [] }) c.loop-role-test.true in
    let members = texts c.in_ok-each_member.each_member.items in
    let ms = c.args.memberships.now in
    let row = λ (r : TheName). map (membership r c.args.admin) members in
    record {
      list =
          (rw c.as_slice.ensures.value at c.in_ok-put_each.ensures.list)
          ∙ ap (put_all (row _)) c.loop-role.invariant.list
          ∙ sym (put_all_append (memberships_of (take i xs) members c.args.admin) (row _) ms)
          ∙ ap (λ (l : List Membership). put_all l ms) (sym (product_more members c.args.admin xs i _ here.more));
      before = λ s h y k.
          beyond_name _ s y.role (c.in_ok-put_each.ensures.up_to y k)
          (here.less (rw (← c.as_slice-role-items.ensures.value) at c.in_ok-each_role.ensures.order) s h);
    }

pub returns : goal.returns
returns c = λ rising.
    let xs = texts c.as_slice-role-items.result.now in
    let members = texts c.in_ok-each_member.each_member.items in
    let admin = c.args.admin in
    let roles_same = rw (← c.as_slice-role-items.ensures.value) at c.in_ok-each_role.ensures.same in
    IfOk-weaker c.finish.result _ _ (λ list is.
    is
    ∙ c.loop-role.invariant.list
    ∙ ap (λ (l : List TheName). put_all (memberships_of l members admin) c.args.memberships.now) (take_all c.loop-role.role-index xs (omega (arith, c.loop-role-test.false, length_texts c.as_slice-role-items.result.now)))
    ∙ same_product admin xs members c.args.roles.now c.args.members.now c.args.memberships.now rising roles_same c.in_ok-each_member.ensures.same
    (λ m h. (of_product admin xs members m h).2) (λ m h. (of_product admin c.args.roles.now c.args.members.now m h).2))
    c.finish.ensures
