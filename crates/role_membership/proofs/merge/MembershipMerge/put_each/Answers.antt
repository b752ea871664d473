use Rattle.std.proofs.Common.{◌∙◌, ◌∷◌, [], List, sym, ap, map, take}
use Rattle.sql_ast.specs.declared.role.Membership.{Membership}
use Rattle.abstract_database.specs.Database.{membership_cmp}
use Rattle.abstract_database.specs.Lists.{put}
use Rattle.abstract_database.specs.Roles.{raised}
use Rattle.role_membership.specs.Merging.{membership, texts, put_all, list_of}
use Rattle.role_membership.proofs.Distinct.{at_index}
use Rattle.role_membership.proofs.Products.{row_more}
use Rattle.role_membership.proofs.Puts.{put_all_append, beyond, same_role, role_up_to}
use Rattle.role_membership.proofs.merge.MembershipMerge.put_each.Goals as goal

pub put-requires-clause-member : goal.put-requires-clause-member
put-requires-clause-member c = c.requires.members _ (at_index c.args.members.now c.loop-member.member-index _ c.loop-member-test.true).among

pub put-requires-clause-before : goal.put-requires-clause-before
put-requires-clause-before c = c.loop-member.invariant.before _ (at_index c.args.members.now c.loop-member.member-index _ c.loop-member-test.true).first

pub loop-member-preserved : goal.loop-member-preserved
loop-member-preserved c =
    let i = c.loop-member.member-index in
    let xs = texts c.args.members.now in
    let here = at_index c.args.members.now i (record { ref_ptr = (0, 0); now = [] }) c.loop-member-test.true in
    let f = membership c.args.role.now c.args.admin in
    record {
      list =
          c.in_ok-put.ensures.list
          ∙ ap (put membership_cmp raised (f _)) c.loop-member.invariant.list
          ∙ sym (put_all_append (map f (take i xs)) (f _ ∷ []) (list_of c.args.self.now))
          ∙ ap (λ (l : List Membership). put_all l (list_of c.args.self.now)) (sym (row_more f xs i _ here.more));
      before = λ s h y k. beyond (f _) (f s) y (c.in_ok-put.ensures.up_to y k) (same_role c.args.role.now _ s c.args.admin c.args.admin ∙ here.less c.requires.order s h);
      up_to = λ y k. role_up_to c.args.role.now _ c.args.admin y (c.in_ok-put.ensures.up_to y k);
    }
