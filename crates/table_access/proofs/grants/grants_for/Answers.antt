use Rattle.std.proofs.Common.{◌≡◌, ◌+◌, ◌++◌, ◌∷◌, [], Bool, map, drop, ap, sym, ◌∙◌, subst}
use Rattle.std.specs.Borrow.{Bor}
use Rattle.std.proofs.lemmas.List.{map-append}
use Rattle.sql_ast.specs.declared.privilege.Descriptor.{Descriptor}
use Rattle.abstract_database.specs.Database.{same_action}
use Rattle.abstract_database.specs.Whole.{Each}
use Rattle.descriptions.proofs.Finding.{Finds, each_more}
use Rattle.table_access.specs.declared.action.HeldGrant.{HeldGrant}
use Rattle.table_access.specs.Accesses.{ReachesBy}
use Rattle.table_access.proofs.Gathering.{seen_takes, seen_passes}
use Rattle.table_access.proofs.grants.grants_for.Goals.{then-is_for_action+in_ok-held_grant+in_ok-push, else-is_for_action}
use Rattle.table_access.proofs.grants.grants_for.Goals as goal

abbrev its_now : Bor Descriptor → Descriptor
its_now d = d.now

abbrev granted : HeldGrant → Descriptor
granted g = g.descriptor.now

pub loop-descriptor-preserved : goal.loop-descriptor-preserved
loop-descriptor-preserved c =
    let xs = c.args.given.now in
    let i = c.loop-descriptor.descriptor-index in
    let x = c.descriptor-item.result in
    let old = c.loop-descriptor.found.items in
    let test : Descriptor → Bool = λ d. same_action d.action c.args.action in
    let P = ReachesBy c.args.memberships.now c.args.role.now in
    elim c.if-is_for_action.branch [
      | then-is_for_action+in_ok-held_grant+in_ok-push w ↦
          let list = ap (λ v. v.items) w.found-is ∙ w.in_ok-push.ensures.items in
          record {
            grants = subst (Finds test (map its_now xs) (map its_now (drop (i + 1) xs))) (sym (ap (map granted) list ∙ map-append granted old _ ∙ ap (λ d. map granted old ++ d ∷ []) w.in_ok-held_grant.ensures.descriptor))
                (seen_takes its_now test (map its_now xs) xs i x c.descriptor-item.is c.loop-descriptor-test.true (map granted old) (sym c.is_for_action.ensures ∙ w.if-is_for_action.true) c.loop-descriptor.invariant.grants);
            memberships = subst (Each P) (sym list) (each_more P old _ c.loop-descriptor.invariant.memberships w.in_ok-held_grant.ensures.memberships);
          }
      | else-is_for_action w ↦
          let list = ap (λ v. v.items) (sym w.found-is) in
          record {
            grants = subst (λ l. Finds test (map its_now xs) (map its_now (drop (i + 1) xs)) (map granted l)) list
                (seen_passes its_now test (map its_now xs) xs i x c.descriptor-item.is c.loop-descriptor-test.true (map granted old) (sym c.is_for_action.ensures ∙ w.if-is_for_action.false) c.loop-descriptor.invariant.grants);
            memberships = subst (Each P) list c.loop-descriptor.invariant.memberships;
          }
    ]
