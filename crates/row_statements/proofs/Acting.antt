-- Who acts: the users of a plan are those of the databases that have its definitions.
use Rattle.std.proofs.Common.{◌≡◌, List, [], ◌∷◌, ◌||◌, Bool, map, ap, ◌∙◌, refl}
use Rattle.std.proofs.Math.Path.{fun_ext}
use Rattle.std.specs.Prelude.{bytes_eq}
use Rattle.std.specs.List.{list_any}
use Rattle.sql_ast.specs.declared.role.Membership.{Membership}
use Rattle.sql_ast.specs.declared.statement.RowStatement.{RowStatement}
use Rattle.sql_ast.specs.declared.statement.RowStatement.TheVariants as over_rows
use Rattle.expressions.specs.declared.eval.Users.{Users}
use Rattle.expressions.specs.Meaning.{UserNames}
use Rattle.expressions.specs.Rows.{names_of}
use Rattle.abstract_database.specs.Lists.{TheName, has_name}
use Rattle.abstract_database.specs.Roles.{is_in}
use Rattle.stored_database.specs.Definitions.{Definitions}
use Rattle.planner.specs.declared.plans.Plan.{Plan}
use Rattle.planner.specs.declared.plans.Plan.TheVariants as plan
use Rattle.planner.specs.Plans.{IsPlanOf}
use Rattle.planner.specs.Rights.{AreItsRoles}
use Rattle.row_statements.specs.Users.{roles_of, seen_users}

-- ---- the roles of a plan

its_roles : (d : Definitions) (role : TheName) (s : RowStatement) (p : Plan) → IsPlanOf d role s p → AreItsRoles d role (roles_of p)
its_roles d role (over_rows.Select s) (plan.Select p) c = c.roles
its_roles d role (over_rows.Insert s) (plan.Insert p) c = c.roles
its_roles d role (over_rows.Update s) (plan.Update p) c = c.roles
its_roles d role (over_rows.Delete s) (plan.Delete p) c = c.roles
its_roles d role s p c = absurd c

-- of the definitions that it was made of
pub in_definitions : (d : Definitions) (role : TheName) (s : RowStatement) (p : Plan) (names : List TheName) → IsPlanOf d role s p → names ≡ roles_of p → (r : TheName) → has_name r names ≡ is_in d.memberships role r
in_definitions d role s p names planned same r = ap (has_name r) same ∙ its_roles d role s p planned r

-- ---- users

any_of_each : {X Y : Type 0} (test : Y → Bool) (f : X → Y) (xs : List X) → list_any (λ x. test (f x)) xs ≡ list_any test (map f xs)
any_of_each test f [] = refl
any_of_each test f (x ∷ xs) = ap (λ (b : Bool). test (f x) || b) (any_of_each test f xs)

-- with the roles that the current role is in, they are as expressions see them
pub same_users : (users : Users) (memberships : List Membership) (current session : TheName) → users.current_user.now ≡ current → users.session_user.now ≡ session →
    ((s : TheName) → has_name s (map (λ role. role.now) users.roles.now) ≡ is_in memberships current s) → names_of users ≡ seen_users memberships current session
same_users users memberships current session c s are =
    ap (λ (n : TheName). let u : UserNames = record { current = n; session = users.session_user.now; is_in = (names_of users).is_in } in u) c
    ∙ ap (λ (n : TheName). let u : UserNames = record { current = current; session = n; is_in = (names_of users).is_in } in u) s
    ∙ ap (λ (test : TheName → Bool). let u : UserNames = record { current = current; session = session; is_in = test } in u)
    (fun_ext (λ (name : TheName). any_of_each (bytes_eq name) (λ role. role.now) users.roles.now ∙ are name))
