use Rattle.std.proofs.Common.{◌≡◌, ◌&&◌, ◌++◌, ◌∙◌, ap, sym, refl, Bool, List, []}
use Rattle.std.specs.List.{list_all}
use Rattle.abstract_database.specs.Lists.{TheName, has_name}
use Rattle.abstract_database.specs.Database.{has_role}
use Rattle.role_membership.specs.Rights.{database_of}
use Rattle.role_membership.proofs.Names.{same_all, all_append}
use Rattle.role_membership.proofs.checks.are_roles.Goals as goal
use Rattle.role_membership.proofs.checks.are_roles.Goals.{then-contains_all, else-contains_all}

both : (f g : TheName → Bool) → ((s : TheName) → f s ≡ g s) → (xs ys : List TheName) (a b r : Bool) → a ≡ list_all f xs → b ≡ list_all f ys → r ≡ (a && b) → r ≡ list_all g (xs ++ ys)
both f g same xs ys a b r e h is =
    is ∙ ap (λ (z : Bool). z && b) (e ∙ same_all f g same xs)
    ∙ ap (λ (z : Bool). list_all g xs && z) (h ∙ same_all f g same ys)
    ∙ sym (all_append g xs ys)

pub returns : goal.returns
returns c =
    let known = λ (s : TheName). has_name s c.in_ok-known.known in
    let role = has_role (database_of c.args.roles.now []) in
    elim c.if-contains_all.branch [
      | then-contains_all w ↦
          both known role c.in_ok-known.ensures c.args.names.now c.args.more.now _ _ _ c.contains_all.ensures w.contains_all-then-contains_all.ensures
          (w.result-is ∙ sym (ap (λ (z : Bool). z && w.contains_all-then-contains_all.result) w.if-contains_all.true))
      | else-contains_all w ↦
          both known role c.in_ok-known.ensures c.args.names.now c.args.more.now _ _ _ c.contains_all.ensures refl
          (w.result-is ∙ w.if-contains_all.false ∙ sym (ap (λ (z : Bool). z && list_all known c.args.more.now) w.if-contains_all.false))
    ]
