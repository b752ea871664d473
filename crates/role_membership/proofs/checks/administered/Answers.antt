use Rattle.std.proofs.Common.{◌≡◌, ◌&&◌, ◌||◌, ◌∷◌, ◌∙◌, [], ap, bytes_eq, Bool, List, refl}
use Rattle.std.specs.List.{list_any}
use Rattle.std.proofs.lemmas.Result.{IfOk-weaker}
use Rattle.abstract_database.specs.Lists.{TheName, has_name}
use Rattle.abstract_database.specs.Roles.{is_in}
use Rattle.sql_ast.specs.declared.role.Membership.{Membership}
use Rattle.role_membership.proofs.checks.administered.Goals as goal

same_any : (f g : Membership → Bool) → ((m : Membership) → f m ≡ g m) → (ms : List Membership) → list_any f ms ≡ list_any g ms
same_any f g same [] = refl
same_any f g same (m ∷ ms) = ap (λ (b : Bool). b || list_any f ms) (same m) ∙ ap (λ (b : Bool). g m || b) (same_any f g same ms)

same_held : (above : List TheName) (ms : List Membership) (role : TheName) → ((s : TheName) → has_name s above ≡ is_in ms role s) → (s : TheName)
    → list_any (λ m. bytes_eq m.role s && m.admin && has_name m.member above) ms ≡ list_any (λ m. bytes_eq m.role s && m.admin && is_in ms role m.member) ms
same_held above ms role same s = same_any _ _ (λ m. ap (λ (b : Bool). bytes_eq m.role s && m.admin && b) (same m.member)) ms

pub returns : goal.returns
returns c = IfOk-weaker c.held.result _ _ (λ set is s. is s ∙ same_held _ c.args.memberships.now c.args.role.now c.in_ok-above.ensures.test s) c.held.ensures
