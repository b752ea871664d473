-- What each command spells may be read.
use Rattle.std.proofs.Common.{ℕ, ◌<◌, List, [], ◌∷◌, sym, subst, arith, rules}
use Rattle.std.specs.Prelude.{◌^◌, IfSome}
use Rattle.std.specs.List.{AllByRecursion}
use Rattle.std.proofs.lemmas.List.Elements.{recursion_from_All}
use Rattle.sql_types.specs.Name.{IsUtf8Name}
use Rattle.sql_lexer.specs.Lexeme.{Lexeme}
use Rattle.sql_ast.specs.declared.statement.Statement.{Statement}
use Rattle.sql_ast.specs.declared.statement.NamedAction.{NamedAction}
use Rattle.sql_ast.specs.declared.statement.Privileges.{Privileges}
use Rattle.sql_ast.specs.declared.statement.Privileges.TheVariants as privileges
use Rattle.sql_ast.specs.declared.statement.TableReference.{TableReference}
use Rattle.sql_ast.specs.Statements.{IsRead, IsWellFormed}
use Rattle.sql_ast.specs.Read.{AreSome, AreNames, IsReadTerm, IsReadElement, IsReadClause, IsReadGrantee, AreGrantees, IsWellFormedAction, IsWellFormedPrivileges, IsReadAction, IsReadPrivileges, IsReadAssignment, IsReadList, IsReadReference, IsReadJoin, IsReadFrom, AreSortKeys, IsReadSource}
use Rattle.sql_types.specs.Domain.{IsText}
use Rattle.expr_parser.proofs.Descent.{within}
use Rattle.expr_parser.proofs.Readings.{spells_lt}
use Rattle.sql_grammar.specs.Phrases.{Phrase, gives, ◌▹◌, ◌⊛◌, name, clause, Spells}
use Rattle.sql_commands.specs.Commands.{phrase_of, create_role, grant_role, revoke_role, revoke_admin_option, role_or_none, set_role, an_element, create_table, enclosed, a_using, a_check, create_policy, a_grantee, some_columns, a_named_action, some_privileges, grant, revoke, insert, a_condition, an_assignment, update, delete, an_alias, a_table, a_join, from_clause, some_tables, an_order, a_source, a_select_list, select, select_count}
use Rattle.sql_lexer.specs.Tokens.{AreReadable}
use Rattle.sql_commands.specs.declared.queries.MoreTables.{MoreTables}
use Rattle.sql_commands.specs.declared.queries.MoreTables.TheVariants as more
use Rattle.sql_commands.specs.declared.command.Command.{Command}
use Rattle.sql_commands.specs.declared.command.Command.TheVariants as production
use Rattle.expr_parser.proofs.ReadTerms.{term_read}
use Rattle.sql_commands.proofs.Sound.{Sound, nothing, word, part, either, anything, names, terms, sort_terms, numbers, list_of, many_of, option_of, after_of, parens_of}

-- it may be read if it keeps the rules of form
abbrev MayBeRead : Statement → Type 0
MayBeRead s = IsWellFormed s → IsRead s

-- nothing is asked
abbrev Any : {A : Type 0} → A → Type 0
Any x = Unit {0}

-- ---- roles

create_role_read : {source : List ℕ} {ts : List Lexeme} → AreReadable source ts → Sound ts create_role MayBeRead
create_role_read z = part Any (part Any (part IsUtf8Name (word (word (nothing (λ r h u a xs b w. record { role = h; no_contraries = w })))) (names z)) anything) anything

grant_role_read : {source : List ℕ} {ts : List Lexeme} → AreReadable source ts → Sound ts grant_role MayBeRead
grant_role_read z = part Any (part AreNames (word (part AreNames (word (nothing (λ rs h ms g o a w. record { roles = h; members = g }))) (list_of (names z)))) (list_of (names z))) anything

revoke_role_read : {source : List ℕ} {ts : List Lexeme} → AreReadable source ts → Sound ts revoke_role MayBeRead
revoke_role_read z = part Any (part AreNames (word (part AreNames (word (nothing (λ rs h ms g b a w. record { roles = h; members = g }))) (list_of (names z)))) (list_of (names z))) anything

revoke_admin_option_read : {source : List ℕ} {ts : List Lexeme} → AreReadable source ts → Sound ts revoke_admin_option MayBeRead
revoke_admin_option_read z = part Any (part AreNames (word (part AreNames (word (word (word (word (nothing (λ rs h ms g b a w. record { roles = h; members = g })))))) (list_of (names z)))) (list_of (names z))) anything

role_or_none_read : {source : List ℕ} {ts : List Lexeme} → AreReadable source ts → Sound ts role_or_none (λ r. IfSome r IsUtf8Name)
role_or_none_read z = either (word (nothing tt)) (part IsUtf8Name (nothing (λ x h. h)) (names z))

set_role_read : {source : List ℕ} {ts : List Lexeme} → AreReadable source ts → Sound ts set_role MayBeRead
set_role_read z = part (λ r. IfSome r IsUtf8Name) (word (word (nothing (λ r h w. h)))) (role_or_none_read z)

-- ---- tables

element_read : {source : List ℕ} {ts : List Lexeme} → AreReadable source ts → Sound ts an_element IsReadElement
element_read z = either
    (part AreNames (word (word (nothing (λ ns h. h)))) (parens_of (names z)))
    (part Any (part Any (part IsUtf8Name (nothing (λ n h t a cs b. h)) (names z)) anything) anything)

create_table_read : {source : List ℕ} {ts : List Lexeme} → AreReadable source ts → Sound ts create_table MayBeRead
create_table_read z = part (AreSome IsReadElement) (part IsUtf8Name (word (word (nothing (λ t h es g w. record { table = h; elements = g; one_key = w })))) (names z)) (parens_of (element_read z))

-- ---- policies

grantee_read : {source : List ℕ} {ts : List Lexeme} → AreReadable source ts → Sound ts a_grantee IsReadGrantee
grantee_read z = either (word (nothing tt)) (part IsUtf8Name (nothing (λ x h. h)) (names z))

clause_read : {source : List ℕ} {ts : List Lexeme} → AreReadable source ts → Sound ts (clause source) IsReadClause
clause_read z = record { holds = λ i j c s. record { text = subst IsText (sym s.3) (z.slices i s.1 (omega (arith, spells_lt s.0, s.2)) (omega (arith, within s.0, s.2))); expression = term_read z s.0 } }

enclosed_read : {source : List ℕ} {ts : List Lexeme} → AreReadable source ts → Sound ts (enclosed source) IsReadClause
enclosed_read z = word (part IsReadClause (word (nothing (λ c h. h))) (clause_read z))

using_read : {source : List ℕ} {ts : List Lexeme} → AreReadable source ts → Sound ts (a_using source) IsReadClause
using_read z = after_of (enclosed_read z)

check_read : {source : List ℕ} {ts : List Lexeme} → AreReadable source ts → Sound ts (a_check source) IsReadClause
check_read z = part IsReadClause (word (word (nothing (λ c h. h)))) (enclosed_read z)

create_policy_read : {source : List ℕ} {ts : List Lexeme} → AreReadable source ts → Sound ts (create_policy source) MayBeRead
create_policy_read z =
    part (λ o. IfSome o IsReadClause) (part (λ o. IfSome o IsReadClause) (part (λ o. IfSome o AreGrantees) (part Any (part Any (part IsUtf8Name (word (part IsUtf8Name
    (word (word (nothing (λ p h t g k a c b gs l u m w n f. record { policy = h; table = g; grantees = l; using = m; check = n; clauses = f }))))
    (names z))) (names z)) anything) anything) (option_of (after_of (list_of (grantee_read z))))) (option_of (using_read z))) (option_of (check_read z))

-- ---- privileges

-- it may be read if no DELETE in it has columns
abbrev MayBeGranted : Privileges → Type 0
MayBeGranted ps = IsWellFormedPrivileges ps → IsReadPrivileges ps

-- the columns of an action are names
abbrev NamesColumns : NamedAction → Type 0
NamesColumns a = IfSome a.columns AreNames

columns_read : {source : List ℕ} {ts : List Lexeme} → AreReadable source ts → Sound ts some_columns (λ o. IfSome o AreNames)
columns_read z = option_of (parens_of (names z))

named_action_read : {source : List ℕ} {ts : List Lexeme} → AreReadable source ts → Sound ts a_named_action NamesColumns
named_action_read z = part (λ o. IfSome o AreNames) (part Any (nothing (λ a b cs h. h)) anything) (columns_read z)

both_read : (xs : List NamedAction) → AllByRecursion NamesColumns xs → AllByRecursion IsWellFormedAction xs → AllByRecursion IsReadAction xs
both_read [] h w = tt
both_read (x ∷ xs) h w = (record { columns = h.0; form = w.0 }, both_read xs h.1 w.1)

actions_read : (xs : List NamedAction) → AreSome NamesColumns xs → MayBeGranted (privileges.Actions xs)
actions_read xs h w = record { some = h.some; each = both_read xs h.each (recursion_from_All IsWellFormedAction xs w) }

privileges_read : {source : List ℕ} {ts : List Lexeme} → AreReadable source ts → Sound ts some_privileges MayBeGranted
privileges_read z = either
    (part (λ o. IfSome o AreNames) (part Any (word (nothing (λ u a cs h w. h))) anything) (columns_read z))
    (part (AreSome NamesColumns) (nothing actions_read) (list_of (named_action_read z)))

grant_read : {source : List ℕ} {ts : List Lexeme} → AreReadable source ts → Sound ts grant MayBeRead
grant_read z =
    part Any (part AreGrantees (word (part IsUtf8Name (part Any (word (part MayBeGranted
    (word (nothing (λ ps h u a t g gs k o b w. record { privileges = h w; table = g; grantees = k })))
    (privileges_read z))) anything) (names z))) (list_of (grantee_read z))) anything

revoke_read : {source : List ℕ} {ts : List Lexeme} → AreReadable source ts → Sound ts revoke MayBeRead
revoke_read z =
    part Any (part AreGrantees (word (part IsUtf8Name (part Any (word (part MayBeGranted (part Any
    (word (nothing (λ o a ps h u b t g gs k e f w. record { privileges = h w; table = g; grantees = k })))
    anything) (privileges_read z))) anything) (names z))) (list_of (grantee_read z))) anything

-- ---- rows

insert_read : {source : List ℕ} {ts : List Lexeme} → AreReadable source ts → Sound ts insert MayBeRead
insert_read z =
    part (AreSome (AreSome IsReadTerm)) (word (part (λ o. IfSome o AreNames) (part IsUtf8Name
    (word (word (nothing (λ t h cs g rs k w. record { table = h; columns = g; rows = k; one_length = w }))))
    (names z)) (option_of (parens_of (names z))))) (list_of (parens_of (terms z)))

condition_read : {source : List ℕ} {ts : List Lexeme} → AreReadable source ts → Sound ts a_condition (λ o. IfSome o IsReadTerm)
condition_read z = option_of (after_of (terms z))

assignment_read : {source : List ℕ} {ts : List Lexeme} → AreReadable source ts → Sound ts an_assignment IsReadAssignment
assignment_read z = part IsReadTerm (word (part IsUtf8Name (nothing (λ c h v g. record { column = h; value = g })) (names z))) (terms z)

update_read : {source : List ℕ} {ts : List Lexeme} → AreReadable source ts → Sound ts update MayBeRead
update_read z =
    part (λ o. IfSome o IsReadTerm) (part (AreSome IsReadAssignment) (word (part IsUtf8Name
    (word (nothing (λ t h xs g c k w. record { table = h; assignments = g; condition = k })))
    (names z))) (list_of (assignment_read z))) (condition_read z)

delete_read : {source : List ℕ} {ts : List Lexeme} → AreReadable source ts → Sound ts delete MayBeRead
delete_read z = part (λ o. IfSome o IsReadTerm) (part IsUtf8Name (word (word (nothing (λ t h c g w. record { table = h; condition = g })))) (names z)) (condition_read z)

-- ---- queries

alias_read : {source : List ℕ} {ts : List Lexeme} → AreReadable source ts → Sound ts an_alias (λ o. IfSome o IsUtf8Name)
alias_read z = either (part IsUtf8Name (word (nothing (λ x h. h))) (names z)) (option_of (names z))

reference_read : {source : List ℕ} {ts : List Lexeme} → AreReadable source ts → Sound ts a_table IsReadReference
reference_read z = part (λ o. IfSome o IsUtf8Name) (part IsUtf8Name (nothing (λ t h a g. record { table = h; alias = g })) (names z)) (alias_read z)

join_read : {source : List ℕ} {ts : List Lexeme} → AreReadable source ts → Sound ts a_join IsReadJoin
join_read z = either
    (part IsReadReference (word (word (nothing (λ t h. record { table = h; condition = tt })))) (reference_read z))
    (either
    (part IsReadTerm (word (part IsReadReference (word (word (nothing (λ t h e g. record { table = h; condition = g })))) (reference_read z))) (terms z))
    (part IsReadTerm (word (part IsReadReference (word (nothing (λ t h e g. record { table = h; condition = g }))) (reference_read z))) (terms z)))

-- what follows the first table
abbrev IsReadMore : MoreTables → Type 0
IsReadMore (more.Tables ts) = AreSome IsReadReference ts
IsReadMore (more.Joins js) = AllByRecursion IsReadJoin js

from_read : (t : TableReference) → IsReadReference t → (m : MoreTables) → IsReadMore m → IsReadFrom (from_clause t m)
from_read t h (more.Tables ts) g = record { some = omega arith; each = (h, g.each) }
from_read t h (more.Joins []) g = record { some = omega arith; each = (h, tt) }
from_read t h (more.Joins (j ∷ js)) g = (h, record { some = omega arith; each = g })

tables_read : {source : List ℕ} {ts : List Lexeme} → AreReadable source ts → Sound ts some_tables IsReadFrom
tables_read z = part IsReadMore (part IsReadReference (nothing from_read) (reference_read z))
    (either (part (AreSome IsReadReference) (word (nothing (λ ts h. h))) (list_of (reference_read z))) (part (AllByRecursion IsReadJoin) (nothing (λ js h. h)) (many_of (join_read z))))

order_read : {source : List ℕ} {ts : List Lexeme} → AreReadable source ts → Sound ts an_order AreSortKeys
order_read z = part AreSortKeys (word (word (nothing (λ ks h. h)))) (list_of (part Any (part IsReadTerm (nothing (λ e h d a. h)) (sort_terms z)) anything))

source_read : {source : List ℕ} {ts : List Lexeme} → AreReadable source ts → Sound ts a_source IsReadSource
source_read z =
    part (λ o. IfSome o (λ n. n < 2 ^ 63)) (part (λ o. IfSome o AreSortKeys) (part (λ o. IfSome o IsReadTerm) (part IsReadFrom
    (nothing (λ ts h c g o k l m. record { tables = h; condition = g; order = k; limit = m }))
    (tables_read z)) (condition_read z)) (option_of (order_read z))) (option_of (after_of numbers))

list_read : {source : List ℕ} {ts : List Lexeme} → AreReadable source ts → Sound ts a_select_list IsReadList
list_read z = either (word (nothing tt)) (part (AreSome IsReadTerm) (nothing (λ xs h. h)) (list_of (terms z)))

select_read : {source : List ℕ} {ts : List Lexeme} → AreReadable source ts → Sound ts select MayBeRead
select_read z = part (λ o. IfSome o IsReadSource) (part IsReadList (word (nothing (λ l h s g w. record { list = h; source = g; form = w }))) (list_read z)) (option_of (after_of (source_read z)))

select_count_read : {source : List ℕ} {ts : List Lexeme} → AreReadable source ts → Sound ts select_count MayBeRead
select_count_read z = part (λ o. IfSome o IsReadSource) (word (word (word (word (word (nothing (λ s g w. record { list = tt; source = g; form = w }))))))) (option_of (after_of (source_read z)))

-- ---- commands of words and names

-- what is known of the values of a part: of a name, that it is one
abbrev Known : {A : Type 0} → Phrase A → A → Type 0
Known name x = IsUtf8Name x
Known _ x = Unit {0}

known : {source : List ℕ} {ts : List Lexeme} {A : Type 0} → AreReadable source ts → (p : Phrase A) → Sound ts p (Known p)
known z name = names z
known z _ = anything

-- P holds of each value of a phrase, by what is known of the parts
abbrev Given : {A : Type 0} → Phrase A → (A → Type 0) → Type 0
Given (gives x) P = P x
Given (p ▹ t) P = Given p P
Given (p ⊛ q) P = Given p (λ f. (x : _) → Known q x → P (f x))
Given {A} p P = (x : A) → P x

given : {source : List ℕ} {ts : List Lexeme} {A : Type 0} → AreReadable source ts → (p : Phrase A) (P : A → Type 0) → Given p P → Sound ts p P
given z (gives x) P h = nothing h
given z (p ▹ t) P h = word (given z p P h)
given z (p ⊛ q) P h = part (Known q) (given z p (λ f. (x : _) → Known q x → P (f x)) h) (known z q)
given z p P h = record { holds = λ i j x s. h x }

-- ---- the table of statements

-- of the commands that have no line nothing is asked but that their names are names
command_read : {source : List ℕ} {ts : List Lexeme} (c : Command) → AreReadable source ts → Sound ts (phrase_of source c) MayBeRead
command_read production.CreateRole z = create_role_read z
command_read production.GrantRole z = grant_role_read z
command_read production.RevokeRole z = revoke_role_read z
command_read production.RevokeAdminOption z = revoke_admin_option_read z
command_read production.SetRole z = set_role_read z
command_read production.CreateTable z = create_table_read z
command_read production.CreatePolicy z = create_policy_read z
command_read production.Grant z = grant_read z
command_read production.Revoke z = revoke_read z
command_read production.Insert z = insert_read z
command_read production.Update z = update_read z
command_read production.Delete z = delete_read z
command_read production.Select z = select_read z
command_read production.SelectCount z = select_count_read z
command_read {source} c z = given z (phrase_of source c) MayBeRead (search rules)

pub all_read : (source : List ℕ) (c : Command) (ts : List Lexeme) (i n : ℕ) (s : Statement) → AreReadable source ts → Spells ts (phrase_of source c) i n s → IsWellFormed s → IsRead s
all_read source c ts i n s z d w = (command_read c z).holds i n s d w
