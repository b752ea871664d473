-- Two databases of tenants that look alike to one of them.
use Rattle.std.proofs.Common.{◌≡◌, ◌⊎◌, ◌||◌, ◌&&◌, ℕ, nat_eq, pos, Bool, true, false, cond, codes, length, bytes_eq, List, [], ◌∷◌, Option, Some, None, Ok, refl, sym, ap, ◌∙◌, subst, inl, inr}
use Rattle.std.proofs.lemmas.Bool.{and_parts, eqb-true}
use Rattle.std.specs.Option.{option_map}
use Rattle.std.proofs.lemmas.Option.{same_Some}
use Prim.Native.String.{String}
use Rattle.sql_types.specs.Row.{Row}
use Rattle.sql_types.specs.declared.value.Value.TheVariants.{Int, Text}
use Rattle.sql_types.specs.declared.state.SqlState.TheVariants.{UniqueViolation}
use Rattle.sql_types.specs.declared.answer.Answer.{Answer}
use Rattle.sql_types.specs.declared.answer.Answer.TheVariants as answer
use Rattle.sql_ast.specs.declared.statement.Statement.{Statement}
use Rattle.sql_ast.specs.declared.statement.Statement.TheVariants as statement
use Rattle.sql_ast.specs.declared.statement.DatabaseStatement.TheVariants as on_database
use Rattle.sql_ast.specs.declared.statement.RowStatement.{RowStatement}
use Rattle.sql_ast.specs.declared.statement.RowStatement.TheVariants as over_rows
use Rattle.sql_ast.specs.declared.expression.ColumnName.{ColumnName}
use Rattle.sql_ast.specs.declared.expression.Comparison.TheVariants as comparing
use Rattle.sql_ast.specs.declared.scope.ColumnIndex.{ColumnIndex}
use Rattle.sql_ast.specs.declared.policy.Policy.{Policy}
use Rattle.sql_ast.specs.declared.policy.PolicyClause.{PolicyClause}
use Rattle.sql_ast.specs.Term.{column, current_user, comparison}
use Rattle.abstract_database.specs.Lists.{TheName, Among, drop_where}
use Rattle.abstract_database.specs.Roles.{may_set_role}
use Rattle.abstract_database.specs.Database.{TableOf, Table, Database, definition_named, rows_named}
use Rattle.abstract_database.specs.Expressions.{columns_in}
use Rattle.abstract_database.specs.Statements.{UserPair, as_seen}
use Rattle.abstract_database.specs.Machine.{Outside, Session, Event, executes, Reading, Machine, is_writing, seen}
use Rattle.abstract_database.proofs.ListLemmas.{bytes_same}
use Rattle.abstract_database.proofs.ResultLemmas.{ok_inside}
use Rattle.database_laws.specs.Invariants.{IsSound}
use Rattle.database_laws.specs.Worlds.{is_silent, SameApparentRows}
use Rattle.database_laws.specs.OnePolicy.{HasPoliciesForAll, IsOfKey, SpeaksOfKeys}
use Rattle.database_laws.specs.HiddenRuns.{MayActAs, SameApparentRowsForPairs, ActsWithin, holds_lock, answer_to, goes_by_visible, TellsAlone, IsException, by_key, by_count, by_definition}
use Rattle.database_laws.specs.Told.{entries_of, AllFor, IsAlikeTo, IsCrowded, by_lock, by_number, LeavesTenant, by_role}
use Rattle.database_laws.specs.OutOfSight.{IsOfTenants}
use Rattle.database_laws.specs.TwoTenants.{notes, own_notes, note, with_notes, first, second, ann, bob, by_ann, by_app_for_ann, one_and_two, of_ann, of_ann_by_app, idle, working, as_tenants, as_app, with_bob_before, with_bob_behind, opened_by_ann, ann_asks, with_her_other, PartsHere, MeetThePremises}
use Rattle.database_laws.proofs.WholeSound.{whole_sound}
use Rattle.database_laws.proofs.WholeTenants.{first_whole, second_whole}
use Rattle.database_laws.proofs.Tenants.{tenants_unseen}
use Rattle.database_laws.proofs.ToldApart.{machines_part}

-- ---- the one table

abbrev definition_of : Option Table → Option TableOf
definition_of None = None
definition_of (Some x) = Some x.definition

abbrev found_by : List Row → Bool → Option Table
found_by rows b = cond b (Some (record { definition = notes; rows = rows })) None

one_at : (rows : List Row) (t : TableOf) (b : Bool) → definition_of (found_by rows b) ≡ Some t → notes ≡ t
one_at rows t true e = same_Some notes t e
one_at rows t false e = cc

of_option : (o : Option Table) → definition_of o ≡ option_map (λ (x : Table). x.definition) o
of_option None = refl
of_option (Some x) = refl

one_table : (rows : List Row) (t : TableOf) → definition_named (with_notes rows) t.name ≡ Some t → notes ≡ t
one_table rows t h = one_at rows t (bytes_eq notes.name t.name) (of_option (found_by rows (bytes_eq notes.name t.name)) ∙ h)

-- two lists of notes of which the same say something to these users
abbrev SameTo : UserPair → List Row → List Row → Type 0
SameTo pair rows others = drop_where (is_silent first (as_seen pair first) notes) rows ≡ drop_where (is_silent first (as_seen pair first) notes) others

both_to : (pair : UserPair) (rows others : List Row) → SameTo pair rows others → SameApparentRows (as_seen pair first) (with_notes rows) (with_notes others)
both_to pair rows others same = record {
  definitions = refl;
  rows = λ t h. subst (λ (u : TableOf). drop_where (is_silent (with_notes rows) (as_seen pair first) u) (rows_named (with_notes rows) u.name) ≡ drop_where (is_silent (with_notes others) (as_seen pair first) u) (rows_named (with_notes others) u.name))
      (one_table rows t h) same;
}

to_ann : SameApparentRows (as_seen ann first) first second
to_ann = both_to ann (note "ann" 1 ∷ note "bob" 1 ∷ []) (note "ann" 1 ∷ note "bob" 2 ∷ note "bob" 3 ∷ []) refl

-- ---- what is sound

sound_first : IsSound first
sound_first = whole_sound first first_whole

sound_second : IsSound second
sound_second = whole_sound second second_whole

-- ---- the policy

all_commands : HasPoliciesForAll first ann.current notes.name
all_commands = record {
  command = λ p of. elim of.among [ inl is ↦ ap (λ (q : Policy). q.command) (sym is) | inr never ↦ absurd never ];
  check = λ p of. elim of.among [ inl is ↦ ap (λ (q : Policy). q.check) (sym is) | inr never ↦ absurd never ];
}

abbrev tenant_column : ColumnName
tenant_column = record { table = None; column = codes "tenant" }

tenant_is_key : IsOfKey notes tenant_column
tenant_is_key index found = inl (ap (λ (i : ColumnIndex). i.column) (ok_inside (record { table = 0; column = 0 }) index found))

own_clause : (clause : PolicyClause) → own_notes.using ≡ Some clause → (name : ColumnName) → Among name (columns_in clause.expression) → IsOfKey notes name
own_clause clause is name h =
    let same = subst (λ (c : PolicyClause). Among name (columns_in c.expression)) (sym (same_Some _ clause is)) h in
    elim same [ inl at ↦ subst (IsOfKey notes) at tenant_is_key | inr never ↦ absurd never ]

key_alone : SpeaksOfKeys first ann.current notes
key_alone p clause name of is among = elim of.among [
  | inl at ↦ own_clause clause (ap (λ (q : Policy). q.using) at ∙ is) name among
  | inr never ↦ absurd never
]

by_tenant : IsOfTenants first notes tenant_column
by_tenant = record {
  policy = own_notes;
  clause = record { text = codes "tenant = current_user"; expression = comparison comparing.Equal (column tenant_column) current_user };
  only = refl;
  command = refl;
  check = refl;
  using = refl;
  condition = refl;
}

apart : codes "bob" ≡ codes "ann" → ⊥
apart same = let wrong : false ≡ true = ap (λ (name : TheName). bytes_eq name (codes "ann")) same in cc

-- ---- ann's session

-- the only roles that ann may set, or the application among these, are
one_name : (b : Bool) → (b || false) ≡ true → b ≡ true
one_name true e = refl
one_name false e = cc

alone : (b c : Bool) → (b || ((b && false) || ((c && false) || false))) ≡ true → (b || false) ≡ true
alone true c e = refl
alone false true e = cc
alone false false e = cc

pub acts_as_ann : (pair : UserPair) → MayActAs first by_ann pair → ann ≡ pair
acts_as_ann pair acts =
    let login : codes "ann" ≡ pair.session = bytes_same (codes "ann") pair.session acts.0 in
    let own : codes "ann" ≡ pair.current = bytes_same (codes "ann") pair.current (one_name (bytes_eq (codes "ann") pair.current) (by_membership (ap (λ (n : TheName). may_set_role first n pair.current) login ∙ acts.1))) in
    ap (λ (n : TheName). record { current = n; session = codes "ann" }) own ∙ ap (λ (n : TheName). record { current = pair.current; session = n }) login
  where
    by_membership : may_set_role first (codes "ann") pair.current ≡ true → (bytes_eq (codes "ann") pair.current || false) ≡ true
    by_membership may = alone (bytes_eq (codes "ann") pair.current) (bytes_eq (codes "bob") pair.current) may

abbrev app : UserPair
app = record { current = codes "app"; session = codes "app" }

abbrev app_as_ann : UserPair
app_as_ann = record { current = codes "ann"; session = codes "app" }

acts_by_app : (pair : UserPair) → MayActAs first by_app_for_ann pair → (app ≡ pair) ⊎ (app_as_ann ≡ pair)
acts_by_app pair acts = by (bytes_eq (codes "app") pair.current) (bytes_eq (codes "ann") pair.current) refl refl parts.1 where
  parts : (bytes_eq (codes "app") pair.session ≡ true) × ((bytes_eq (codes "app") pair.current || bytes_eq (codes "ann") pair.current) ≡ true)
  parts = and_parts (bytes_eq (codes "app") pair.session) (bytes_eq (codes "app") pair.current || bytes_eq (codes "ann") pair.current) acts.0

  login : codes "app" ≡ pair.session
  login = bytes_same (codes "app") pair.session parts.0

  acting : (name : TheName) → bytes_eq name pair.current ≡ true → record { current = name; session = codes "app" } ≡ pair
  acting name e = ap (λ (n : TheName). record { current = n; session = codes "app" }) (bytes_same name pair.current e) ∙ ap (λ (n : TheName). record { current = pair.current; session = n }) login

  by : (b c : Bool) → bytes_eq (codes "app") pair.current ≡ b → bytes_eq (codes "ann") pair.current ≡ c → (b || c) ≡ true → (app ≡ pair) ⊎ (app_as_ann ≡ pair)
  by true c e f g = inl (acting (codes "app") e)
  by false true e f g = inr (acting (codes "ann") f)
  by false false e f g = cc

all_to_ann : (rows others : List Row) → SameTo ann rows others → SameApparentRowsForPairs by_ann (with_notes rows) (with_notes others)
all_to_ann rows others same = record {
  definitions = refl;
  rows = λ pair acts. subst (λ (p : UserPair). SameApparentRows (as_seen p first) (with_notes rows) (with_notes others)) (acts_as_ann pair acts) (both_to ann rows others same);
}

all_to_app : (rows others : List Row) → SameTo app rows others → SameTo app_as_ann rows others → SameApparentRowsForPairs by_app_for_ann (with_notes rows) (with_notes others)
all_to_app rows others same same_as_ann = record {
  definitions = refl;
  rows = λ pair acts. elim (acts_by_app pair acts) [
    | inl is ↦ subst (λ (p : UserPair). SameApparentRows (as_seen p first) (with_notes rows) (with_notes others)) is (both_to app rows others same)
    | inr is ↦ subst (λ (p : UserPair). SameApparentRows (as_seen p first) (with_notes rows) (with_notes others)) is (both_to app_as_ann rows others same_as_ann)
  ];
}

abbrev bobs_first : List Row
bobs_first = note "ann" 1 ∷ note "bob" 1 ∷ []

abbrev bobs_second : List Row
bobs_second = note "ann" 1 ∷ note "bob" 2 ∷ note "bob" 3 ∷ []

abbrev held_first : List Row
held_first = note "ann" 1 ∷ note "ann" 2 ∷ note "bob" 1 ∷ []

abbrev held_second : List Row
held_second = note "ann" 1 ∷ note "ann" 2 ∷ note "bob" 2 ∷ note "bob" 3 ∷ []

to_all : SameApparentRowsForPairs by_ann first second
to_all = all_to_ann bobs_first bobs_second refl

one_or_two : (number : ℕ) → (nat_eq number 1 || nat_eq number 2) ≡ true → (1 ≡ number) ⊎ (2 ≡ number)
one_or_two number h = by (nat_eq number 1) (nat_eq number 2) refl refl h where
  by : (b c : Bool) → nat_eq number 1 ≡ b → nat_eq number 2 ≡ c → (b || c) ≡ true → (1 ≡ number) ⊎ (2 ≡ number)
  by true c e f g = inl (sym (eqb-true number 1 e))
  by false true e f g = inr (sym (eqb-true number 2 f))
  by false false e f g = cc

-- what holds of both numbers
pub of_both : (P : ℕ → Type 0) → P 1 → P 2 → (number : ℕ) → (nat_eq number 1 || nat_eq number 2) ≡ true → P number
of_both P p q number h = elim (one_or_two number h) [ inl is ↦ subst P is p | inr is ↦ subst P is q ]

pub idle_acts : ActsWithin by_ann (idle as_tenants "ann")
idle_acts = record { now = refl; reset = refl; rolled_back = tt }

-- machines with both sessions are alike to a tenant that acts as these pairs
alike_with : (pairs : UserPair → Bool) (login : String → String) → ActsWithin pairs (idle login "ann") → ActsWithin pairs (working login "ann") → SameApparentRowsForPairs pairs first second →
    SameApparentRowsForPairs pairs (with_notes held_first) (with_notes held_second) → IsAlikeTo (record { pairs = pairs; sessions = one_and_two }) (with_bob_before login) (with_bob_behind login)
alike_with pairs login is_idle is_working committed held = record {
  sessions = of_both (λ n. entries_of n (with_bob_before login).sessions ≡ entries_of n (with_bob_behind login).sessions) refl refl;
  opened_for = of_both (λ n. AllFor pairs (entries_of n (with_bob_before login).sessions)) (is_idle, tt) (is_working, tt);
  stopped = refl;
  lock = of_both (λ n. holds_lock n (with_bob_before login).holder ≡ holds_lock n (with_bob_behind login).holder) refl refl;
  committed = committed;
  seen = of_both (λ n. SameApparentRowsForPairs pairs (seen (with_bob_before login) n) (seen (with_bob_behind login) n)) committed held;
}

both_sessions : IsAlikeTo of_ann (with_bob_before as_tenants) (with_bob_behind as_tenants)
both_sessions = alike_with by_ann as_tenants idle_acts (record { now = refl; reset = refl; rolled_back = refl }) to_all (all_to_ann held_first held_second refl)

by_one_login : IsAlikeTo of_ann_by_app (with_bob_before as_app) (with_bob_behind as_app)
by_one_login = alike_with by_app_for_ann as_app (record { now = refl; reset = refl; rolled_back = tt }) (record { now = refl; reset = refl; rolled_back = refl })
    (all_to_app bobs_first bobs_second refl refl) (all_to_app held_first held_second refl refl)

-- ---- her own rows differ

abbrev m : Machine
m = opened_by_ann first

abbrev k : Machine
k = opened_by_ann with_her_other

abbrev is_of_select : Event Reading → Bool
is_of_select (executes number (Ok (statement.OnDatabase (on_database.OverRows (over_rows.Select x))))) = true
is_of_select _ = false

abbrev is_key_told : Answer → Bool
is_key_told (answer.Refused UniqueViolation) = true
is_key_told _ = false

clash : true ≡ false → ⊥
clash e = cc

select_by_visible : (x : RowStatement) → is_of_select (executes 1 (Ok (statement.OnDatabase (on_database.OverRows x)))) ≡ true → (db : Database) (role : TheName) → goes_by_visible db role x ≡ false → ⊥
select_by_visible (over_rows.Select x) is db role goes = clash goes
select_by_visible (over_rows.Insert x) is db role goes = clash (sym is)
select_by_visible (over_rows.Update x) is db role goes = clash (sym is)
select_by_visible (over_rows.Delete x) is db role goes = clash (sym is)

select_writes_not : (x : Statement) → is_of_select (executes 1 (Ok x)) ≡ true → is_writing x ≡ true → ⊥
select_writes_not (statement.OnDatabase (on_database.OverRows (over_rows.Select x))) is writes = clash (sym writes)
select_writes_not (statement.OnDatabase (on_database.OverRows (over_rows.Insert x))) is writes = clash (sym is)
select_writes_not (statement.OnDatabase (on_database.OverRows (over_rows.Update x))) is writes = clash (sym is)
select_writes_not (statement.OnDatabase (on_database.OverRows (over_rows.Delete x))) is writes = clash (sym is)
select_writes_not (statement.OnDatabase (on_database.Defining x)) is writes = clash (sym is)
select_writes_not (statement.OfSession x) is writes = clash (sym is)

no_key : (event : Event Reading) → is_key_told (answer_to m event) ≡ false → is_key_told (answer_to k event) ≡ false → TellsAlone UniqueViolation (answer_to m event) (answer_to k event) → ⊥
no_key event first_not second_not (inl tells) = clash (sym (ap is_key_told tells.0) ∙ first_not)
no_key event first_not second_not (inr tells) = clash (sym (ap is_key_told tells.0) ∙ second_not)

no_exception : (number : ℕ) (event : Event Reading) → is_of_select event ≡ true → is_key_told (answer_to m event) ≡ false → is_key_told (answer_to k event) ≡ false → IsException number m k event → ⊥
no_exception number event is f s (by_key e tells) = no_key event f s tells
no_exception number event is f s (by_count session x c there goes checks) = select_by_visible x is (seen m number) session.role goes
no_exception number event is f s (by_definition x unhides refused) = clash (sym is)

no_crowd : (number : ℕ) (event : Event Reading) → is_of_select event ≡ true → IsCrowded number m k event → ⊥
no_crowd number event is (by_lock x writes other tells) = select_writes_not x is writes
no_crowd number event is (by_number login other tells) = clash (sym is)

stays_hers : (number : ℕ) (event : Event Reading) → is_of_select event ≡ true → LeavesTenant of_ann number m event → ⊥
stays_hers number event is (by_role s changed x free there may sets foreign) = clash (sym is)

abbrev her_first : Answer → ℕ
her_first (answer.Rows ((Text t ∷ Int (pos n) ∷ []) ∷ rows)) = n
her_first _ = 0

parts_here : PartsHere
parts_here told =
    elim (machines_part of_ann m k ann_asks refl (λ same. let wrong : 1 ≡ 2 = ap her_first same in cc) told) [
      | inl exception ↦ no_exception 1 ann_asks refl refl refl exception
      | inr (inl crowd) ↦ no_crowd 1 ann_asks refl crowd
      | inr (inr leaves) ↦ stays_hers 1 ann_asks refl leaves
    ]

abbrev ann_session : Session
ann_session = record { login = codes "ann"; role = codes "ann"; block = Outside }

some_same : (s : Session) → ◌≡◌ {A = Option Session} (Some ann_session) (Some s) → ann_session ≡ s
some_same s e = cc

pub premises_met : MeetThePremises
premises_met = record {
  differ = λ same. let rows : length (rows_named first notes.name) ≡ length (rows_named second notes.name) = ap (λ (db : Database). length (rows_named db notes.name)) same in let contrary : 2 ≡ 3 = rows in cc;
  alike = to_ann;
  whole_first = first_whole;
  whole_second = second_whole;
  sound_first = sound_first;
  sound_second = sound_second;
  for_all = all_commands;
  by_key = key_alone;
  of_tenants = by_tenant;
  unseen = tenants_unseen first (as_seen bob first) (as_seen ann first) notes tenant_column by_tenant refl refl apart;
  machines = record {
    session = refl;
    opened_for = λ s h. subst (ActsWithin by_ann) (some_same s h) idle_acts;
    stopped = refl;
    lock = refl;
    committed = to_all;
    seen = to_all;
  };
  both_sessions = both_sessions;
  by_one_login = by_one_login;
  sound_machines = (record { committed = sound_first; holder = tt }, record { committed = sound_second; holder = tt });
  parts = parts_here;
  told = (refl, refl);
}
