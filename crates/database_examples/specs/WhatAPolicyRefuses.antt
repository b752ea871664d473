-- Which rows a policy lets be written.
use Rattle.std.specs.Prelude.{List, [], ◌++◌, ◌∷◌}
use Rattle.sql_types.specs.declared.state.SqlState.TheVariants as state
use Rattle.sql_types.specs.declared.tag.Tag.TheVariants as tag
use Rattle.sql_ast.specs.declared.privilege.Action.TheVariants as action
use Rattle.database_examples.specs.Expressions.{col, div, either, eq, ge, gt, lt, me, minus, my_login, ne, not_so, not_that, null, num, plus, str, yes}
use Rattle.database_examples.specs.Wording.{all_on, create, delete, delete_where, enable_rls, from_t, grant, insert, insert_columns, insert_into, insert_key, insert_keys, insert_on, insert_rows, one, only_for, only_to, owned, pair, policy, restrictive, select, select_and_delete, select_and_insert, select_and_update, select_keys, the_role, the_roles, these_on, update, update_and_delete, update_both, update_on, update_where, using, with_check}
use Rattle.database_examples.specs.Lines.{Line, Shows, a, b, c, deleted, inserted, int, no_rows, number_rows, numbers, ok, refused, rows, text, updated, ◌gives◌}

-- the new row is judged too
abbrev pub new_row_is_judged : Type 0
new_row_is_judged = Shows (
    a (insert ((num 1 ∷ num 1 ∷ yes ∷ str "bob" ∷ []) ∷ [])) gives inserted 1
    ∷ a (grant select_and_update (the_role "bob")) gives ok tag.Grant
    ∷ a enable_rls gives ok tag.AlterTable
    ∷ a (create (using (eq (col "x") (num 1)) (policy "p"))) gives ok tag.CreatePolicy
    ∷ b (update "x" (num 2)) gives refused state.InsufficientPrivilege
    ∷ a (select (one (col "x")) from_t) gives numbers (1 ∷ [])
    ∷ [])

abbrev pub three_rows : List Line
three_rows =
    (a (insert ((num 1 ∷ num 1 ∷ []) ∷ (num 2 ∷ num 2 ∷ []) ∷ (num 3 ∷ num 3 ∷ []) ∷ [])) gives inserted 3)
    ∷ (a (grant select_and_update (the_role "bob")) gives ok tag.Grant)
    ∷ (a enable_rls gives ok tag.AlterTable)
    ∷ (a (create (only_for action.Select (using (eq (col "x") (num 2)) (policy "seen")))) gives ok tag.CreatePolicy)
    ∷ (a (create (only_for action.Update (using yes (policy "changed")))) gives ok tag.CreatePolicy)
    ∷ []

-- an UPDATE that reads no column is not guarded by the SELECT policies
abbrev pub blind_update : Type 0
blind_update = Shows (three_rows ++ (b (update "x" (num 1)) gives updated 3) ∷ [])

-- one that reads a column is, its new rows too
abbrev pub reading_update : Type 0
reading_update = Shows (three_rows ++ (b (update_where "x" (num 1) (ge (col "x") (num 0))) gives refused state.InsufficientPrivilege) ∷ [])

-- a key of a row that cannot be seen is taken all the same
abbrev pub hidden_key_counts : Type 0
hidden_key_counts = Shows (
    a (insert ((num 1 ∷ []) ∷ [])) gives inserted 1
    ∷ a (grant insert_on (the_role "bob")) gives ok tag.Grant
    ∷ a enable_rls gives ok tag.AlterTable
    ∷ a (create (only_for action.Insert (with_check yes (policy "p")))) gives ok tag.CreatePolicy
    ∷ b (insert_key 1) gives refused state.UniqueViolation
    ∷ [])

-- DELETE leaves alone what its guard hides
abbrev pub guarded_delete : Type 0
guarded_delete = Shows (
    a (insert ((num 1 ∷ num 1 ∷ []) ∷ (num 2 ∷ num 2 ∷ []) ∷ [])) gives inserted 2
    ∷ a (grant select_and_delete (the_role "bob")) gives ok tag.Grant
    ∷ a enable_rls gives ok tag.AlterTable
    ∷ a (create (using (eq (col "x") (num 1)) (policy "p"))) gives ok tag.CreatePolicy
    ∷ b delete gives deleted 1
    ∷ a select_keys gives numbers (2 ∷ [])
    ∷ [])

-- a policy for all commands guards new rows by USING where it has no WITH CHECK
abbrev pub using_guards_new_rows : Type 0
using_guards_new_rows = Shows (
    a (grant select_and_insert (the_role "bob")) gives ok tag.Grant
    ∷ a enable_rls gives ok tag.AlterTable
    ∷ a (create (using (lt (col "k") (num 10)) (policy "p"))) gives ok tag.CreatePolicy
    ∷ b (insert_key 10) gives refused state.InsufficientPrivilege
    ∷ b (insert_key 9) gives inserted 1
    ∷ [])

-- WITH CHECK guards new rows in place of USING
abbrev pub check_in_place_of_using : Type 0
check_in_place_of_using = Shows (
    a (grant select_and_insert (the_role "bob")) gives ok tag.Grant
    ∷ a enable_rls gives ok tag.AlterTable
    ∷ a (create (with_check (gt (col "k") (num 5)) (using (lt (col "k") (num 7)) (policy "p"))))
    gives ok tag.CreatePolicy
    ∷ b (insert_key 4) gives refused state.InsufficientPrivilege
    ∷ b (insert_key 6) gives inserted 1
    ∷ b (insert_key 8) gives inserted 1
    ∷ b select_keys gives numbers (6 ∷ [])
    ∷ [])

-- UPDATE takes old rows by USING and new rows by WITH CHECK
abbrev pub update_takes_both : Type 0
update_takes_both = Shows (
    a (insert ((num 1 ∷ num 1 ∷ []) ∷ (num 2 ∷ num 2 ∷ []) ∷ [])) gives inserted 2
    ∷ a (grant update_on (the_role "bob")) gives ok tag.Grant
    ∷ a enable_rls gives ok tag.AlterTable
    ∷ a (create (only_for action.Update (with_check (eq (col "x") (num 7)) (using (eq (col "x") (num 1)) (policy "p")))))
    gives ok tag.CreatePolicy
    ∷ b (update "x" (num 8)) gives refused state.InsufficientPrivilege
    ∷ b (update "x" (num 7)) gives updated 1
    ∷ a (select (col "k" ∷ col "x" ∷ []) from_t) gives rows ((int 1 ∷ int 7 ∷ []) ∷ (int 2 ∷ int 2 ∷ []) ∷ [])
    ∷ [])

-- rows that USING hides are left out of an UPDATE without a word
abbrev pub hidden_rows_are_left_out : Type 0
hidden_rows_are_left_out = Shows (
    a (insert ((num 1 ∷ num 1 ∷ []) ∷ (num 2 ∷ num 2 ∷ []) ∷ [])) gives inserted 2
    ∷ a (grant update_on (the_role "bob")) gives ok tag.Grant
    ∷ a enable_rls gives ok tag.AlterTable
    ∷ a (create (only_for action.Update (using not_so (policy "p")))) gives ok tag.CreatePolicy
    ∷ b (update "x" (num 7)) gives updated 0
    ∷ [])

-- a DELETE that reads a column is guarded by the SELECT policies too
abbrev pub delete_that_reads : Type 0
delete_that_reads = Shows (
    a (insert ((num 1 ∷ num 1 ∷ []) ∷ (num 2 ∷ num 2 ∷ []) ∷ [])) gives inserted 2
    ∷ a (grant select_and_delete (the_role "bob")) gives ok tag.Grant
    ∷ a enable_rls gives ok tag.AlterTable
    ∷ a (create (only_for action.Delete (using yes (policy "gone")))) gives ok tag.CreatePolicy
    ∷ a (create (only_for action.Select (using (eq (col "x") (num 2)) (policy "seen")))) gives ok tag.CreatePolicy
    ∷ b (delete_where (ge (col "k") (num 0))) gives deleted 1
    ∷ a select_keys gives numbers (1 ∷ [])
    ∷ b delete gives deleted 1
    ∷ [])

-- a policy for SELECT lets nothing be changed
abbrev pub select_policy_lets_nothing_change : Type 0
select_policy_lets_nothing_change = Shows (
    a (insert ((num 1 ∷ []) ∷ [])) gives inserted 1
    ∷ a (grant all_on (the_role "bob")) gives ok tag.Grant
    ∷ a enable_rls gives ok tag.AlterTable
    ∷ a (create (only_for action.Select (using yes (policy "p")))) gives ok tag.CreatePolicy
    ∷ b select_keys gives numbers (1 ∷ [])
    ∷ b (insert_key 2) gives refused state.InsufficientPrivilege
    ∷ b (update "x" (num 1)) gives updated 0
    ∷ b delete gives deleted 0
    ∷ [])

-- a policy's check comes before NOT NULL and before the key
abbrev pub check_before_constraints : Type 0
check_before_constraints = Shows (
    a (insert ((num 1 ∷ []) ∷ [])) gives inserted 1
    ∷ a (grant insert_on (the_role "bob")) gives ok tag.Grant
    ∷ a enable_rls gives ok tag.AlterTable
    ∷ a (create (only_for action.Insert (with_check (eq (col "x") (num 1)) (policy "p")))) gives ok tag.CreatePolicy
    ∷ b (insert_key 1) gives refused state.InsufficientPrivilege
    ∷ b (insert_into "x" (num 2)) gives refused state.InsufficientPrivilege
    ∷ b (insert_into "x" (num 1)) gives refused state.NotNullViolation
    ∷ b (insert ((num 1 ∷ num 1 ∷ []) ∷ [])) gives refused state.UniqueViolation
    ∷ [])

-- of two guards the second is evaluated row by row, after the first
abbrev pub two_guards_row_by_row : Type 0
two_guards_row_by_row = Shows (
    a (insert ((num 1 ∷ num 0 ∷ []) ∷ (num 2 ∷ num 9223372036854775807 ∷ []) ∷ [])) gives inserted 2
    ∷ a (grant select_and_update (the_role "bob")) gives ok tag.Grant
    ∷ a enable_rls gives ok tag.AlterTable
    ∷ a (create (only_for action.Update (using (lt (col "x") (plus (col "x") (num 1))) (policy "u"))))
    gives ok tag.CreatePolicy
    ∷ a (create (only_for action.Select (using (lt (num 0) (div (num 1) (col "x"))) (policy "s"))))
    gives ok tag.CreatePolicy
    ∷ b (update_where "x" (num 1) (ge (col "k") (num 0))) gives refused state.DivisionByZero
    ∷ [])

-- where a policy shows each role its own rows, nobody writes a row of another, or makes one's own row
-- another's
abbrev pub own_rows_stay_own : Type 0
own_rows_stay_own = Shows (
    a (grant all_on (the_role "bob")) gives ok tag.Grant
    ∷ a enable_rls gives ok tag.AlterTable
    ∷ a (create (using (eq (col "o") me) (policy "p"))) gives ok tag.CreatePolicy
    ∷ b (insert (owned 1 "bob" ∷ [])) gives inserted 1
    ∷ b (insert (owned 2 "cid" ∷ [])) gives refused state.InsufficientPrivilege
    ∷ b (insert_keys (2 ∷ [])) gives refused state.InsufficientPrivilege
    ∷ b (update "o" (str "cid")) gives refused state.InsufficientPrivilege
    ∷ b (update "o" my_login) gives updated 1
    ∷ b (update_where "o" null (eq (col "k") (num 1))) gives refused state.InsufficientPrivilege
    ∷ [])

-- WITH CHECK lets a row be given away that its giver sees no more
abbrev pub rows_given_away : Type 0
rows_given_away = Shows (
    a (grant all_on (the_role "bob")) gives ok tag.Grant
    ∷ a enable_rls gives ok tag.AlterTable
    ∷ a (create (with_check yes (using (eq (col "o") me) (policy "p")))) gives ok tag.CreatePolicy
    ∷ b (insert (owned 1 "bob" ∷ owned 2 "cid" ∷ [])) gives inserted 2
    ∷ b select_keys gives numbers (1 ∷ [])
    ∷ b (update "o" (str "dan")) gives updated 1
    ∷ b select_keys gives no_rows
    ∷ a (select (col "k" ∷ col "o" ∷ []) from_t)
    gives rows ((int 1 ∷ text "dan" ∷ []) ∷ (int 2 ∷ text "cid" ∷ []) ∷ [])
    ∷ [])

-- a policy for one command says nothing of the others
abbrev pub policies_of_each_command : Type 0
policies_of_each_command = Shows (
    a (insert (pair 1 1 ∷ pair 2 2 ∷ pair 3 3 ∷ pair 4 4 ∷ [])) gives inserted 4
    ∷ a (grant all_on (the_role "bob")) gives ok tag.Grant
    ∷ a enable_rls gives ok tag.AlterTable
    ∷ a (create (only_for action.Select (using (lt (col "k") (num 4)) (policy "s")))) gives ok tag.CreatePolicy
    ∷ b (update_where "x" (num 9) (eq (col "k") (num 1))) gives updated 0
    ∷ a (create (only_for action.Update (using (gt (col "k") (num 1)) (policy "u")))) gives ok tag.CreatePolicy
    ∷ b (update "x" (plus (col "x") (num 10))) gives updated 2
    ∷ b (update "x" (num 7)) gives updated 3
    ∷ a (create (only_for action.Delete (using (gt (col "k") (num 2)) (policy "d")))) gives ok tag.CreatePolicy
    ∷ b (delete_where (gt (col "k") (num 0))) gives deleted 1
    ∷ b delete gives deleted 1
    ∷ a (select (col "k" ∷ col "x" ∷ []) from_t) gives number_rows ((1 ∷ 1 ∷ []) ∷ (2 ∷ 7 ∷ []) ∷ [])
    ∷ a (create (only_for action.Insert (with_check (gt (col "k") (num 100)) (policy "i"))))
    gives ok tag.CreatePolicy
    ∷ b (insert_keys (150 ∷ 50 ∷ [])) gives refused state.InsufficientPrivilege
    ∷ b (insert_keys (150 ∷ 151 ∷ [])) gives inserted 2
    ∷ [])

-- an UPDATE that reads needs its new rows to be seen; one that reads nothing needs WITH CHECK alone
abbrev pub handing_a_row_over : Type 0
handing_a_row_over = Shows (
    a (insert (owned 1 "bob" ∷ owned 2 "cid" ∷ [])) gives inserted 2
    ∷ a (grant select_and_update (the_roles ("bob" ∷ "cid" ∷ []))) gives ok tag.Grant
    ∷ a enable_rls gives ok tag.AlterTable
    ∷ a (create (using (eq (col "o") me) (policy "own"))) gives ok tag.CreatePolicy
    ∷ b (update "o" (str "cid")) gives refused state.InsufficientPrivilege
    ∷ a (create (only_for action.Update (only_to (the_role "bob") (with_check (ne (col "o") (str "dan")) (using (eq (col "o") me) (policy "give"))))))
    gives ok tag.CreatePolicy
    ∷ b (update_where "o" (str "cid") (eq (col "k") (num 1))) gives refused state.InsufficientPrivilege
    ∷ b (update "o" (str "dan")) gives refused state.InsufficientPrivilege
    ∷ b (update "o" (str "cid")) gives updated 1
    ∷ b select_keys gives no_rows
    ∷ c select_keys gives numbers (1 ∷ 2 ∷ [])
    ∷ [])

-- a key that a hidden row holds refuses an UPDATE, once the policies let its rows pass
abbrev pub hidden_keys_meet_updates : Type 0
hidden_keys_meet_updates = Shows (
    a (insert (owned 1 "ann" ∷ owned 2 "bob" ∷ [])) gives inserted 2
    ∷ a (grant all_on (the_role "bob")) gives ok tag.Grant
    ∷ a enable_rls gives ok tag.AlterTable
    ∷ a (create (using (eq (col "o") me) (policy "p"))) gives ok tag.CreatePolicy
    ∷ b (update "k" (num 1)) gives refused state.UniqueViolation
    ∷ b (update_both "k" (num 1) "o" (str "cid")) gives refused state.InsufficientPrivilege
    ∷ b (insert (owned 1 "ann" ∷ [])) gives refused state.InsufficientPrivilege
    ∷ b (insert (owned 1 "bob" ∷ [])) gives refused state.UniqueViolation
    ∷ b (update "k" (num 3)) gives updated 1
    ∷ b (insert (owned 2 "bob" ∷ [])) gives inserted 1
    ∷ [])

-- a role may write rows that it does not see, as long as it reads nothing
abbrev pub rows_hidden_from_their_writer : Type 0
rows_hidden_from_their_writer = Shows (
    a (grant (these_on (action.Select ∷ action.Insert ∷ action.Update ∷ [])) (the_role "bob"))
    gives ok tag.Grant
    ∷ a enable_rls gives ok tag.AlterTable
    ∷ a (create (only_for action.Select (using (eq (col "o") me) (policy "see")))) gives ok tag.CreatePolicy
    ∷ a (create (only_for action.Insert (with_check yes (policy "put")))) gives ok tag.CreatePolicy
    ∷ a (create (only_for action.Update (using yes (policy "turn")))) gives ok tag.CreatePolicy
    ∷ b (insert (owned 1 "bob" ∷ owned 2 "cid" ∷ [])) gives inserted 2
    ∷ b select_keys gives numbers (1 ∷ [])
    ∷ b (update "o" (str "cid")) gives updated 2
    ∷ b select_keys gives no_rows
    ∷ b (update "o" (str "bob")) gives updated 2
    ∷ b (update_where "o" (str "cid") (eq (col "k") (num 1))) gives refused state.InsufficientPrivilege
    ∷ b (update "o" (col "o")) gives updated 2
    ∷ [])

-- a restrictive policy for a command narrows that command alone
abbrev pub restrictive_policies_of_each_command : Type 0
restrictive_policies_of_each_command = Shows (
    a (insert ((num 1 ∷ num 1 ∷ yes ∷ []) ∷ (num 2 ∷ num 2 ∷ not_so ∷ []) ∷ (num 3 ∷ num 3 ∷ yes ∷ []) ∷ []))
    gives inserted 3
    ∷ a (grant all_on (the_role "bob")) gives ok tag.Grant
    ∷ a enable_rls gives ok tag.AlterTable
    ∷ a (create (using yes (policy "p"))) gives ok tag.CreatePolicy
    ∷ a (create (restrictive (only_for action.Insert (with_check (lt (col "x") (num 100)) (policy "ri")))))
    gives ok tag.CreatePolicy
    ∷ a (create (restrictive (only_for action.Update (with_check (lt (col "x") (num 50)) (using (col "s") (policy "ru"))))))
    gives ok tag.CreatePolicy
    ∷ a (create (restrictive (only_for action.Delete (using (not_that (col "s")) (policy "rd")))))
    gives ok tag.CreatePolicy
    ∷ b (insert (pair 4 100 ∷ [])) gives refused state.InsufficientPrivilege
    ∷ b (update_where "x" (num 50) (eq (col "k") (num 1))) gives refused state.InsufficientPrivilege
    ∷ b (update "x" (num 10)) gives updated 2
    ∷ b (select (col "k" ∷ col "x" ∷ []) from_t)
    gives number_rows ((1 ∷ 10 ∷ []) ∷ (2 ∷ 2 ∷ []) ∷ (3 ∷ 10 ∷ []) ∷ [])
    ∷ b delete gives deleted 1
    ∷ a (create (restrictive (only_for action.Select (using (ne (col "k") (num 3)) (policy "rs")))))
    gives ok tag.CreatePolicy
    ∷ b select_keys gives numbers (1 ∷ [])
    ∷ b (update "x" (num 20)) gives updated 2
    ∷ b (update_where "x" (num 21) (eq (col "x") (num 20))) gives updated 1
    ∷ [])

-- restrictive policies alone let no row be written, and leave none to be changed
abbrev pub restrictive_alone_lets_nothing_be_written : Type 0
restrictive_alone_lets_nothing_be_written = Shows (
    a (insert (pair 1 1 ∷ [])) gives inserted 1
    ∷ a (grant all_on (the_role "bob")) gives ok tag.Grant
    ∷ a enable_rls gives ok tag.AlterTable
    ∷ a (create (restrictive (with_check yes (using yes (policy "r"))))) gives ok tag.CreatePolicy
    ∷ b (insert_key 2) gives refused state.InsufficientPrivilege
    ∷ b (update "x" (num 2)) gives updated 0
    ∷ b delete gives deleted 0
    ∷ a (create (only_for action.Insert (with_check (gt (col "x") (num 0)) (policy "p"))))
    gives ok tag.CreatePolicy
    ∷ b (insert_key 2) gives refused state.InsufficientPrivilege
    ∷ b (insert (pair 2 1 ∷ [])) gives inserted 1
    ∷ b select_keys gives no_rows
    ∷ [])

-- an UPDATE policy without WITH CHECK judges the new rows by USING: a row must not leave what it is for
abbrev pub using_of_an_update_policy : Type 0
using_of_an_update_policy = Shows (
    a (insert (pair 1 91 ∷ pair 2 95 ∷ pair 3 50 ∷ [])) gives inserted 3
    ∷ a (grant select_and_update (the_role "bob")) gives ok tag.Grant
    ∷ a enable_rls gives ok tag.AlterTable
    ∷ a (create (only_for action.Select (using yes (policy "s")))) gives ok tag.CreatePolicy
    ∷ a (create (only_for action.Update (using (ge (col "x") (num 50)) (policy "u")))) gives ok tag.CreatePolicy
    ∷ b (update "x" (minus (col "x") (num 45))) gives refused state.InsufficientPrivilege
    ∷ a (select (col "k" ∷ col "x" ∷ []) from_t)
    gives number_rows ((1 ∷ 91 ∷ []) ∷ (2 ∷ 95 ∷ []) ∷ (3 ∷ 50 ∷ []) ∷ [])
    ∷ b (update_where "x" (minus (col "x") (num 1)) (gt (col "x") (num 94))) gives updated 1
    ∷ b (update_where "x" null (eq (col "k") (num 1))) gives refused state.InsufficientPrivilege
    ∷ [])

-- with a column in WHERE or on a right side the SELECT policies guard the old rows and the new ones
abbrev pub updates_that_read : Type 0
updates_that_read = Shows (
    a (insert ((num 1 ∷ num 1 ∷ yes ∷ []) ∷ (num 2 ∷ num 2 ∷ not_so ∷ []) ∷ (num 3 ∷ num 3 ∷ yes ∷ []) ∷ []))
    gives inserted 3
    ∷ a (grant select_and_update (the_role "bob")) gives ok tag.Grant
    ∷ a enable_rls gives ok tag.AlterTable
    ∷ a (create (only_for action.Select (using (col "s") (policy "see")))) gives ok tag.CreatePolicy
    ∷ a (create (only_for action.Update (using yes (policy "change")))) gives ok tag.CreatePolicy
    ∷ b (update "x" (num 10)) gives updated 3
    ∷ b (update_where "x" (num 20) (gt (col "k") (num 0))) gives updated 2
    ∷ b (update "x" (plus (col "x") (num 1))) gives updated 2
    ∷ a (select (col "k" ∷ col "x" ∷ []) from_t)
    gives number_rows ((1 ∷ 21 ∷ []) ∷ (2 ∷ 10 ∷ []) ∷ (3 ∷ 21 ∷ []) ∷ [])
    ∷ b (update_where "s" not_so (eq (col "k") (num 1))) gives refused state.InsufficientPrivilege
    ∷ b (update "s" not_so) gives updated 3
    ∷ b (update_where "s" yes (eq (col "k") (num 1))) gives updated 0
    ∷ [])

-- a role without SELECT changes rows by the policies of its command alone, and reads none
abbrev pub writing_without_select : Type 0
writing_without_select = Shows (
    a (insert (pair 1 1 ∷ pair 2 2 ∷ pair 3 3 ∷ [])) gives inserted 3
    ∷ a (grant update_and_delete (the_role "bob")) gives ok tag.Grant
    ∷ a enable_rls gives ok tag.AlterTable
    ∷ a (create (only_for action.Select (using not_so (policy "s")))) gives ok tag.CreatePolicy
    ∷ a (create (only_for action.Update (with_check (lt (col "x") (num 50)) (using (lt (col "k") (num 3)) (policy "u")))))
    gives ok tag.CreatePolicy
    ∷ a (create (only_for action.Delete (using (gt (col "k") (num 1)) (policy "d")))) gives ok tag.CreatePolicy
    ∷ b (update "x" (num 40)) gives updated 2
    ∷ b (update "x" (num 50)) gives refused state.InsufficientPrivilege
    ∷ b (update "x" (col "x")) gives refused state.InsufficientPrivilege
    ∷ b delete gives deleted 2
    ∷ a (select (col "k" ∷ col "x" ∷ []) from_t) gives number_rows ((1 ∷ 40 ∷ []) ∷ [])
    ∷ [])

-- a WITH CHECK that is null refuses the new row
abbrev pub null_check_refuses : Type 0
null_check_refuses = Shows (
    a (grant all_on (the_role "bob")) gives ok tag.Grant
    ∷ a enable_rls gives ok tag.AlterTable
    ∷ a (create (with_check (either (gt (col "x") (num 0)) (col "s")) (using yes (policy "p"))))
    gives ok tag.CreatePolicy
    ∷ b (insert_key 3) gives refused state.InsufficientPrivilege
    ∷ b (insert_columns ("k" ∷ "s" ∷ []) (num 3 ∷ yes ∷ [])) gives inserted 1
    ∷ b (insert_columns ("k" ∷ "x" ∷ "s" ∷ []) (num 4 ∷ null ∷ null ∷ []))
    gives refused state.InsufficientPrivilege
    ∷ b (update_where "s" null (eq (col "k") (num 3))) gives refused state.InsufficientPrivilege
    ∷ b (update_both "x" null "s" yes) gives updated 1
    ∷ [])

-- each sort of check is made of all new rows before the next: the policies, then nulls, then keys
abbrev pub checks_of_all_rows_come_first : Type 0
checks_of_all_rows_come_first = Shows (
    a (insert (pair 1 1 ∷ [])) gives inserted 1
    ∷ a (grant all_on (the_role "bob")) gives ok tag.Grant
    ∷ a enable_rls gives ok tag.AlterTable
    ∷ a (create (with_check (gt (col "x") (num 0)) (using yes (policy "p")))) gives ok tag.CreatePolicy
    ∷ b (insert_rows ("k" ∷ "x" ∷ []) ((null ∷ num 1 ∷ []) ∷ (num 5 ∷ num 0 ∷ []) ∷ []))
    gives refused state.InsufficientPrivilege
    ∷ b (insert (pair 5 1 ∷ pair 5 1 ∷ pair 6 0 ∷ [])) gives refused state.InsufficientPrivilege
    ∷ b (insert_rows ("k" ∷ "x" ∷ []) ((num 1 ∷ num 1 ∷ []) ∷ (null ∷ num 1 ∷ []) ∷ []))
    gives refused state.NotNullViolation
    ∷ b (update_both "k" null "x" (num 0)) gives refused state.InsufficientPrivilege
    ∷ b (update "k" null) gives refused state.NotNullViolation
    ∷ [])
