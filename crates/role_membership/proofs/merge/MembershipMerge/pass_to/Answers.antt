use Rattle.std.proofs.Common.{◌≡◌, ◌∙◌, ◌++◌, ◌∷◌, ◌+◌, [], List, sym, ap, get_or, drop, arith, is_gt, inl, inr}
use Rattle.std.proofs.lemmas.Option.{slice_get-get_or, slice_get_within, same_Some}
use Rattle.std.proofs.lemmas.List.{append_assoc}
use Rattle.sql_ast.specs.declared.role.Membership.{Membership}
use Rattle.abstract_database.specs.Database.{membership_cmp}
use Rattle.role_membership.specs.Merging.{membership}
use Rattle.role_membership.proofs.Products.{of_append}
use Rattle.role_membership.proofs.Puts.{drop_at, is_greater}
use Rattle.role_membership.proofs.merge.MembershipMerge.pass_to.Goals as goal

pub returns-then-not-is_gt-clause-next : goal.returns-then-not-is_gt-clause-next
returns-then-not-is_gt-clause-next c = λ admin n there.
    let ms = c.loop-self.self.memberships.now in
    let m = get_or ms c.loop-self.self.next c.index-self-self.result in
    let here = slice_get-get_or ms c.loop-self.self.next c.index-self-self.result c.loop-self-test.true in
    let same = same_Some m n (sym here ∙ there) in
    ap (λ (x : Membership). is_gt (membership_cmp (membership c.args.role.now admin c.args.member.now) x)) (sym same)
    ∙ ap is_gt (sym (c.compare.ensures admin)) ∙ sym c.is_gt.ensures ∙ c.if-not-is_gt.true

pub loop-self-preserved : goal.loop-self-preserved
loop-self-preserved c =
    let ms = c.loop-self.self.memberships.now in
    let i = c.loop-self.self.next in
    let front = c.loop-self.self.merged.items in
    let m = get_or ms i c.index-self-self.result in
    let here = slice_get-get_or ms i c.index-self-self.result c.loop-self-test.true in
    let pushed : c.push.new.self.items ≡ front ++ m ∷ [] = c.in_ok-push.ensures.items ∙ ap (λ (x : Membership). front ++ x ∷ []) c.in_ok-try_copy.ensures in
    record {
      list =
          ap (λ (l : List Membership). l ++ drop (i + 1) ms) pushed
          ∙ append_assoc front (m ∷ []) (drop (i + 1) ms)
          ∙ ap (λ (l : List Membership). front ++ l) (sym (drop_at ms i m here))
          ∙ c.loop-self.invariant.list;
      before = λ admin h y k. elim (of_append front (m ∷ []) y (rw pushed at k)) [
        | inl old ↦ c.loop-self.invariant.before admin h y old
        | inr last ↦ elim last [
          | inl is ↦
              ap (λ (x : Membership). membership_cmp (membership c.args.role.now admin c.args.member.now) x) (sym is)
              ∙ sym (c.compare.ensures admin) ∙ is_greater c.compare.result (sym c.is_gt.ensures ∙ c.if-not-is_gt.false)
          | inr none ↦ absurd none
        ]
      ];
    }

pub returns-clause-next : goal.returns-clause-next
returns-clause-next c = λ admin n there.
    let within = slice_get_within c.loop-self.self.memberships.now c.loop-self.self.next n there in
    absurd (omega (arith, within, c.loop-self-test.false))
