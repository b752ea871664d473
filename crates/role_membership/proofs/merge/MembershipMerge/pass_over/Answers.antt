use Rattle.std.proofs.Common.{◌∙◌, ◌++◌, ◌∷◌, ◌+◌, ◌||◌, [], Bool, sym, ap, get_or, drop}
use Rattle.sql_ast.specs.declared.role.Membership.{Membership}
use Rattle.std.proofs.lemmas.Option.{same_Some, slice_get-get_or, slice_get_within}
use Rattle.role_membership.specs.Merging.{membership}
use Rattle.role_membership.proofs.Puts.{put_equal, put_new}
use Rattle.role_membership.proofs.merge.MembershipMerge.pass_over.Goals as goal

pub returns-then-not-is_next-clause-list : goal.returns-then-not-is_next-clause-list
returns-then-not-is_next-clause-list c =
    let merge = c.args.self.now in
    put_new merge.memberships.now merge.merged.items merge.next c.args.role.now c.args.member.now c.args.admin c.requires.before
    (λ m there. (c.requires.next m there, c.is_next.ensures.other c.if-not-is_next.true c.args.admin m there))

pub returns-clause-list : goal.returns-clause-list
returns-clause-list c =
    let merge = c.args.self.now in
    let ms = merge.memberships.now in
    let i = merge.next in
    let front = merge.merged.items in
    let role = c.args.role.now in
    let member = c.args.member.now in
    let equal = c.is_next.ensures.equal c.if-not-is_next.false in
    let m = equal.0 in
    let read = same_Some (get_or ms i c.index-self-self.result) m (sym (slice_get-get_or ms i c.index-self-self.result (slice_get_within ms i m equal.1)) ∙ equal.1) in
    ap (λ (b : Bool). (front ++ membership role b member ∷ []) ++ drop (i + 1) ms) (c.has_option.ensures ∙ ap (λ (x : Membership). x.admin || c.args.admin) read)
    ∙ put_equal ms front i role member c.args.admin c.requires.before m equal.1 (equal.2 c.args.admin)
