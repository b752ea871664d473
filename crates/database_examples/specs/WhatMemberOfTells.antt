-- MEMBER OF: whether the current role is in the role that a text names.
use Rattle.std.specs.Prelude.{ℕ, List, [], false, true, ◌∷◌}
use Rattle.sql_types.specs.declared.state.SqlState.TheVariants as state
use Rattle.sql_types.specs.declared.tag.Tag.TheVariants as tag
use Rattle.sql_types.specs.declared.value.Value.{Value}
use Rattle.sql_types.specs.declared.value.Value.TheVariants.{Bool as Boolean, Null}
use Rattle.sql_types.specs.declared.answer.Answer.{Answer}
use Rattle.sql_ast.specs.declared.privilege.Action.TheVariants as action
use Rattle.sql_ast.specs.declared.statement.Statement.{Statement}
use Rattle.sql_ast.specs.declared.statement.Statement.TheVariants as statement
use Rattle.sql_ast.specs.declared.statement.SessionStatement.TheVariants as of_session
use Rattle.database_examples.specs.Expressions.{E, and_also, col, div, either, eq, gt, is_null, me, member_of, my_login, negated, not_that, null, num, plus, str, yes}
use Rattle.database_examples.specs.Wording.{all_on, create, create_role, delete, delete_where, drop, drop_role, dropped, enable_rls, from_t, grant, grant_role, insert, insert_key, one, only_for, owned, policy, reset_role, restrictive, revoke_admin_option, revoke_role, select, select_keys, select_on, select_values, set_role, the_role, update, update_and_delete, update_where, using, where_is, with_check}
use Rattle.database_examples.specs.Lines.{Shows, a, b, c, deleted, inserted, no_rows, numbers, ok, r, refused, rows, updated, ◌gives◌}

-- truths, and the values of one row
abbrev t : Value
t = Boolean true

abbrev f : Value
f = Boolean false

abbrev one_row : List Value → Answer
one_row values = rows (one values)

-- a row of k alone, the other columns null
abbrev unowned : ℕ → List E
unowned k = num k ∷ null ∷ null ∷ null ∷ []

-- SELECT k FROM t WHERE ..
abbrev keys_where : E → Statement
keys_where e = select (one (col "k")) (where_is e from_t)

-- a role is in itself and in the roles that it is a member of, and in no other; a name is taken letter by letter, and need be no
-- role's
abbrev pub names_of_roles : Type 0
names_of_roles = Shows (
    r (create_role "staff" []) gives ok tag.CreateRole
    ∷ r (grant_role "staff" "bob") gives ok tag.GrantRole
    ∷ b (select_values (member_of (str "staff") ∷ member_of (str "bob") ∷ member_of (str "cid") ∷ member_of (str "nobody") ∷ member_of (str "") ∷ []))
    gives one_row (t ∷ t ∷ f ∷ f ∷ f ∷ [])
    ∷ b (select_values (member_of (str "Staff") ∷ member_of (str "staff ") ∷ member_of (str "sta") ∷ [])) gives one_row (f ∷ f ∷ f ∷ [])
    ∷ b (select_values (member_of me ∷ member_of my_login ∷ not_that (member_of (str "staff")) ∷ [])) gives one_row (t ∷ t ∷ f ∷ [])
    ∷ b (select_values (eq (member_of (str "staff")) yes ∷ and_also (member_of (str "staff")) (member_of (str "cid")) ∷ [])) gives one_row (t ∷ f ∷ [])
    ∷ c (select_values (one (member_of (str "staff")))) gives one_row (one f)
    ∷ [])

-- of null it is null
abbrev pub null_names_no_role : Type 0
null_names_no_role = Shows (
    b (select_values (member_of null ∷ is_null (member_of null) ∷ is_null (member_of (str "x")) ∷ not_that (member_of null) ∷ []))
    gives one_row (Null ∷ t ∷ f ∷ Null ∷ [])
    ∷ a (insert (owned 1 "bob" ∷ unowned 2 ∷ [])) gives inserted 2
    ∷ a (grant select_on (the_role "bob")) gives ok tag.Grant
    ∷ b (select (member_of (col "o") ∷ []) from_t) gives rows (one t ∷ one Null ∷ [])
    ∷ b (keys_where (not_that (member_of (col "o")))) gives no_rows
    ∷ [])

-- its operand is a text, and it is a truth
abbrev pub only_texts_name_roles : Type 0
only_texts_name_roles = Shows (
    b (select_values (one (member_of (num 1)))) gives refused state.DatatypeMismatch
    ∷ b (select_values (one (member_of yes))) gives refused state.DatatypeMismatch
    ∷ b (select_values (one (member_of (eq null null)))) gives refused state.DatatypeMismatch
    ∷ b (select_values (one (member_of (member_of (str "bob"))))) gives refused state.DatatypeMismatch
    ∷ b (select_values (one (plus (member_of (str "bob")) (num 1)))) gives refused state.DatatypeMismatch
    ∷ b (select_values (one (negated (member_of (str "bob"))))) gives refused state.DatatypeMismatch
    ∷ b (select_values (one (member_of (col "zz")))) gives refused state.UndefinedColumn
    ∷ [])

-- a chain of memberships counts as one, and each of its links is needed
abbrev pub chains_of_roles : Type 0
chains_of_roles = Shows (
    r (create_role "team" []) gives ok tag.CreateRole
    ∷ r (create_role "dept" []) gives ok tag.CreateRole
    ∷ r (create_role "firm" []) gives ok tag.CreateRole
    ∷ r (grant_role "firm" "dept") gives ok tag.GrantRole
    ∷ r (grant_role "dept" "team") gives ok tag.GrantRole
    ∷ r (grant_role "team" "bob") gives ok tag.GrantRole
    ∷ b (select_values (member_of (str "team") ∷ member_of (str "dept") ∷ member_of (str "firm") ∷ [])) gives one_row (t ∷ t ∷ t ∷ [])
    ∷ c (select_values (member_of (str "team") ∷ member_of (str "firm") ∷ [])) gives one_row (f ∷ f ∷ [])
    ∷ r (revoke_role "dept" "team") gives ok tag.RevokeRole
    ∷ b (select_values (member_of (str "team") ∷ member_of (str "dept") ∷ member_of (str "firm") ∷ [])) gives one_row (t ∷ f ∷ f ∷ [])
    ∷ r (grant_role "dept" "bob") gives ok tag.GrantRole
    ∷ r (revoke_admin_option "dept" "bob") gives ok tag.RevokeRole
    ∷ b (select_values (one (member_of (str "firm")))) gives one_row (one t)
    ∷ r (drop_role "dept") gives ok tag.DropRole
    ∷ r (create_role "dept" []) gives ok tag.CreateRole
    ∷ b (select_values (member_of (str "firm") ∷ member_of (str "dept") ∷ member_of (str "team") ∷ [])) gives one_row (f ∷ f ∷ t ∷ [])
    ∷ [])

-- it speaks of the current role: of the set role and not of the login role
abbrev pub the_set_role_counts : Type 0
the_set_role_counts = Shows (
    r (create_role "staff" []) gives ok tag.CreateRole
    ∷ r (create_role "boss" []) gives ok tag.CreateRole
    ∷ r (grant_role "staff" "bob") gives ok tag.GrantRole
    ∷ r (grant_role "boss" "staff") gives ok tag.GrantRole
    ∷ r (grant_role "cid" "bob") gives ok tag.GrantRole
    ∷ b (select_values (member_of (str "bob") ∷ member_of (str "staff") ∷ member_of (str "boss") ∷ member_of (str "cid") ∷ []))
    gives one_row (t ∷ t ∷ t ∷ t ∷ [])
    ∷ b (set_role "staff") gives ok tag.Set
    ∷ b (select_values (member_of (str "bob") ∷ member_of (str "staff") ∷ member_of (str "boss") ∷ member_of (str "cid") ∷ []))
    gives one_row (f ∷ t ∷ t ∷ f ∷ [])
    ∷ b (select_values (member_of me ∷ member_of my_login ∷ [])) gives one_row (t ∷ f ∷ [])
    ∷ b reset_role gives ok tag.Reset
    ∷ b (statement.OfSession of_session.Begin) gives ok tag.Begin
    ∷ b (set_role "staff") gives ok tag.Set
    ∷ b (select_values (one (member_of (str "bob")))) gives one_row (one f)
    ∷ b (statement.OfSession of_session.Rollback) gives ok tag.Rollback
    ∷ b (select_values (one (member_of (str "bob")))) gives one_row (one t)
    ∷ [])

-- a superuser is in its own roles alone, and a member of a superuser in no more
abbrev pub superusers_are_in_their_own_roles : Type 0
superusers_are_in_their_own_roles = Shows (
    r (create_role "staff" []) gives ok tag.CreateRole
    ∷ r (select_values (member_of (str "root") ∷ member_of (str "staff") ∷ member_of (str "ann") ∷ member_of (str "nobody") ∷ []))
    gives one_row (t ∷ f ∷ f ∷ f ∷ [])
    ∷ r (grant_role "staff" "root") gives ok tag.GrantRole
    ∷ r (select_values (one (member_of (str "staff")))) gives one_row (one t)
    ∷ r (grant_role "root" "bob") gives ok tag.GrantRole
    ∷ b (select_values (member_of (str "root") ∷ member_of (str "staff") ∷ member_of (str "ann") ∷ [])) gives one_row (t ∷ t ∷ f ∷ [])
    ∷ a (insert (one (owned 1 "ann"))) gives inserted 1
    ∷ r (keys_where (member_of (col "o"))) gives no_rows
    ∷ r select_keys gives numbers (one 1)
    ∷ [])

-- a policy by MEMBER OF shows each the rows of its roles, from the GRANT of a role to its REVOKE
abbrev pub rows_of_ones_roles : Type 0
rows_of_ones_roles = Shows (
    r (create_role "staff" []) gives ok tag.CreateRole
    ∷ r (grant_role "staff" "bob") gives ok tag.GrantRole
    ∷ a (insert (owned 1 "staff" ∷ owned 2 "cid" ∷ unowned 3 ∷ [])) gives inserted 3
    ∷ a (grant select_on (the_role "bob")) gives ok tag.Grant
    ∷ a (grant select_on (the_role "cid")) gives ok tag.Grant
    ∷ a enable_rls gives ok tag.AlterTable
    ∷ a (create (using (member_of (col "o")) (policy "p"))) gives ok tag.CreatePolicy
    ∷ b select_keys gives numbers (one 1)
    ∷ c select_keys gives numbers (one 2)
    ∷ r (revoke_role "staff" "bob") gives ok tag.RevokeRole
    ∷ b select_keys gives no_rows
    ∷ r select_keys gives numbers (1 ∷ 2 ∷ 3 ∷ [])
    ∷ [])

-- such a policy guards the rows that are read, the new ones and the old ones of each statement
abbrev pub each_statement_is_guarded : Type 0
each_statement_is_guarded = Shows (
    r (create_role "red" []) gives ok tag.CreateRole
    ∷ r (grant_role "red" "bob") gives ok tag.GrantRole
    ∷ a (insert (owned 1 "red" ∷ owned 2 "blue" ∷ unowned 3 ∷ owned 4 "bob" ∷ [])) gives inserted 4
    ∷ a (grant all_on (the_role "bob")) gives ok tag.Grant
    ∷ a enable_rls gives ok tag.AlterTable
    ∷ a (create (using (member_of (col "o")) (policy "p"))) gives ok tag.CreatePolicy
    ∷ b select_keys gives numbers (1 ∷ 4 ∷ [])
    ∷ b (insert (one (owned 5 "red"))) gives inserted 1
    ∷ b (insert (one (owned 6 "blue"))) gives refused state.InsufficientPrivilege
    ∷ b (insert_key 6) gives refused state.InsufficientPrivilege
    ∷ b (update_where "x" (num 0) (gt (col "k") (num 0))) gives updated 3
    ∷ b (update_where "o" (str "blue") (eq (col "k") (num 1))) gives refused state.InsufficientPrivilege
    ∷ b (update_where "o" (str "bob") (eq (col "k") (num 1))) gives updated 1
    ∷ b (update "o" null) gives refused state.InsufficientPrivilege
    ∷ b delete gives deleted 3
    ∷ a select_keys gives numbers (2 ∷ 3 ∷ [])
    ∷ [])

-- under a set role it goes by that role: in what is read, in new rows, in values that are assigned and in what is deleted
abbrev pub each_command_goes_by_the_set_role : Type 0
each_command_goes_by_the_set_role = Shows (
    r (create_role "red" []) gives ok tag.CreateRole
    ∷ r (create_role "staff" []) gives ok tag.CreateRole
    ∷ r (grant_role "red" "staff") gives ok tag.GrantRole
    ∷ r (grant_role "staff" "bob") gives ok tag.GrantRole
    ∷ a (insert (owned 1 "red" ∷ owned 2 "bob" ∷ owned 4 "staff" ∷ [])) gives inserted 3
    ∷ a (grant all_on (the_role "staff")) gives ok tag.Grant
    ∷ a enable_rls gives ok tag.AlterTable
    ∷ a (create (using (member_of (col "o")) (policy "p"))) gives ok tag.CreatePolicy
    ∷ b select_keys gives numbers (1 ∷ 2 ∷ 4 ∷ [])
    ∷ b (set_role "staff") gives ok tag.Set
    ∷ b select_keys gives numbers (1 ∷ 4 ∷ [])
    ∷ b (insert (one (owned 5 "bob"))) gives refused state.InsufficientPrivilege
    ∷ b (insert (one (num 5 ∷ null ∷ member_of (str "bob") ∷ str "red" ∷ []))) gives inserted 1
    ∷ b (select (col "s" ∷ member_of (col "o") ∷ []) (where_is (eq (col "k") (num 5)) from_t)) gives one_row (f ∷ t ∷ [])
    ∷ b (update_where "o" (str "bob") (eq (col "k") (num 1))) gives refused state.InsufficientPrivilege
    ∷ b (update_where "s" (member_of (str "red")) (gt (col "k") (num 0))) gives updated 3
    ∷ b (keys_where (col "s")) gives numbers (1 ∷ 4 ∷ 5 ∷ [])
    ∷ b (delete_where (member_of (str "red"))) gives deleted 3
    ∷ b reset_role gives ok tag.Reset
    ∷ b select_keys gives numbers (one 2)
    ∷ [])

-- beside other policies: a restrictive one, and a condition on new rows
abbrev pub beside_other_policies : Type 0
beside_other_policies = Shows (
    r (create_role "red" []) gives ok tag.CreateRole
    ∷ r (grant_role "red" "bob") gives ok tag.GrantRole
    ∷ a (insert ((num 1 ∷ num 1 ∷ yes ∷ str "red" ∷ []) ∷ (num 2 ∷ num 2 ∷ null ∷ str "red" ∷ []) ∷ (num 3 ∷ num 3 ∷ yes ∷ str "blue" ∷ []) ∷ [])) gives inserted 3
    ∷ a (grant all_on (the_role "bob")) gives ok tag.Grant
    ∷ a enable_rls gives ok tag.AlterTable
    ∷ a (create (with_check yes (using (col "s") (policy "allow")))) gives ok tag.CreatePolicy
    ∷ a (create (restrictive (using (member_of (col "o")) (policy "mine")))) gives ok tag.CreatePolicy
    ∷ b select_keys gives numbers (one 1)
    ∷ b (insert (one (owned 6 "blue"))) gives refused state.InsufficientPrivilege
    ∷ a (drop "mine") gives ok dropped
    ∷ a (create (with_check (not_that (member_of (col "o"))) (restrictive (using yes (policy "mine"))))) gives ok tag.CreatePolicy
    ∷ b (insert (one (owned 6 "blue"))) gives inserted 1
    ∷ b (insert (one (owned 7 "red"))) gives refused state.InsufficientPrivilege
    ∷ b (update_where "x" (num 0) (eq (col "k") (num 1))) gives refused state.InsufficientPrivilege
    ∷ b (update_where "o" (str "blue") (eq (col "k") (num 1))) gives updated 1
    ∷ [])

-- of a column it reads the column, and of a constant nothing
abbrev pub what_it_reads : Type 0
what_it_reads = Shows (
    a (insert (owned 1 "bob" ∷ owned 2 "cid" ∷ [])) gives inserted 2
    ∷ a (grant update_and_delete (the_role "bob")) gives ok tag.Grant
    ∷ b (update_where "x" (num 5) (member_of (col "o"))) gives refused state.InsufficientPrivilege
    ∷ b (update "s" (member_of (col "o"))) gives refused state.InsufficientPrivilege
    ∷ b (update "s" (member_of (str "bob"))) gives updated 2
    ∷ b (delete_where (member_of (col "o"))) gives refused state.InsufficientPrivilege
    ∷ b (delete_where (member_of (str "cid"))) gives deleted 0
    ∷ a (grant select_on (the_role "bob")) gives ok tag.Grant
    ∷ b (update "s" (member_of (col "o"))) gives updated 2
    ∷ b (keys_where (col "s")) gives numbers (one 1)
    ∷ a enable_rls gives ok tag.AlterTable
    ∷ a (create (only_for action.Update (using yes (policy "u")))) gives ok tag.CreatePolicy
    ∷ a (create (only_for action.Select (using (member_of (col "o")) (policy "s")))) gives ok tag.CreatePolicy
    ∷ b (update "x" (num 8)) gives updated 2
    ∷ b (update_where "x" (num 9) (member_of (col "o"))) gives updated 1
    ∷ [])

-- it never fails itself, and stands where it is taken in the order of operands
abbrev pub it_never_fails : Type 0
it_never_fails = Shows (
    a (insert ((num 1 ∷ num 0 ∷ yes ∷ str "bob" ∷ []) ∷ (num 2 ∷ num 5 ∷ yes ∷ str "cid" ∷ []) ∷ [])) gives inserted 2
    ∷ a (grant select_on (the_role "bob")) gives ok tag.Grant
    ∷ b (keys_where (and_also (member_of (col "o")) (gt (div (num 10) (col "x")) (num 1)))) gives refused state.DivisionByZero
    ∷ b (keys_where (and_also (not_that (member_of (col "o"))) (gt (div (num 10) (col "x")) (num 1)))) gives numbers (one 2)
    ∷ b (keys_where (either (member_of (col "o")) (gt (div (num 10) (col "x")) (num 1)))) gives numbers (1 ∷ 2 ∷ [])
    ∷ b (keys_where (and_also (member_of null) (gt (div (num 10) (col "x")) (num 1)))) gives refused state.DivisionByZero
    ∷ [])

-- a block goes by its own memberships, and every other session by the committed ones
abbrev pub memberships_of_a_block : Type 0
memberships_of_a_block = Shows (
    r (create_role "staff" []) gives ok tag.CreateRole
    ∷ r (grant_role "staff" "bob") gives ok tag.GrantRole
    ∷ r (statement.OfSession of_session.Begin) gives ok tag.Begin
    ∷ r (revoke_role "staff" "bob") gives ok tag.RevokeRole
    ∷ b (select_values (one (member_of (str "staff")))) gives one_row (one t)
    ∷ r (set_role "bob") gives ok tag.Set
    ∷ r (select_values (one (member_of (str "staff")))) gives one_row (one f)
    ∷ r (statement.OfSession of_session.Rollback) gives ok tag.Rollback
    ∷ b (statement.OfSession of_session.Begin) gives ok tag.Begin
    ∷ b (select_values (one (member_of (str "staff")))) gives one_row (one t)
    ∷ r (revoke_role "staff" "bob") gives ok tag.RevokeRole
    ∷ b (select_values (one (member_of (str "staff")))) gives one_row (one f)
    ∷ [])
