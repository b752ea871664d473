-- Two databases that differ in a column which a role may not read.
use Rattle.std.proofs.Common.{◌≡◌, ◌&&◌, ◌||◌, ℕ, nat_eq, zero, suc, pos, arith, Bool, true, false, cond, codes, length, bytes_eq, map, List, [], ◌∷◌, slice_get, Option, Some, None, Ok, refl, sym, ap, ◌∙◌, subst, inl, inr}
use Rattle.std.specs.Option.{option_map}
use Rattle.std.proofs.lemmas.Bool.{and_parts, eqb-true}
use Rattle.std.proofs.lemmas.Option.{same_Some}
use Rattle.sql_types.specs.Row.{Row, value_at}
use Rattle.sql_types.specs.declared.value.Value.TheVariants.{Int}
use Rattle.sql_types.specs.declared.answer.Answer.{Answer}
use Rattle.sql_types.specs.declared.answer.Answer.TheVariants as answer
use Rattle.sql_ast.specs.declared.policy.Policy.{Policy}
use Rattle.sql_ast.specs.Scope.{type_of}
use Rattle.expressions.specs.Types.{is_of}
use Rattle.abstract_database.specs.Lists.{TheName, Among}
use Rattle.abstract_database.specs.Changes.{keeps_not_null, IsInKeyOrder}
use Rattle.database_laws.specs.Invariants.{IsSound}
use Rattle.database_laws.specs.Tables.{IsTyped, HasDistinctKeys, KeepsNotNull}
use Rattle.abstract_database.specs.Database.{TableOf, Table, Database, rows_in, rows_named}
use Rattle.sql_ast.specs.declared.statement.Statement.{Statement}
use Rattle.sql_ast.specs.declared.statement.Statement.TheVariants as statement
use Rattle.sql_ast.specs.declared.statement.DatabaseStatement.TheVariants as on_database
use Rattle.sql_ast.specs.declared.statement.RowStatement.TheVariants as over_rows
use Rattle.abstract_database.specs.Roles.{may_set_role}
use Rattle.abstract_database.specs.Statements.{UserPair}
use Rattle.abstract_database.specs.Machine.{Event, executes, Reading, Machine, is_writing}
use Rattle.abstract_database.proofs.ListLemmas.{bytes_same}
use Rattle.database_laws.specs.HiddenRuns.{MayActAs, answer_to}
use Rattle.database_laws.specs.Told.{happens, entries_of, AllFor, IsCrowded, by_lock, by_number, LeavesTenant, by_role}
use Rattle.database_laws.specs.TwoTenants.{opened_by_ann, ann, by_ann, of_ann}
use Rattle.database_laws.proofs.TwoTenants.{of_both, idle_acts}
use Rattle.privilege_laws.specs.Related.{MachinesRelated, IsToldRelated}
use Rattle.privilege_laws.specs.ColumnRuns.{SameButHiddenFrom, but_hidden, TellsColumns, by_size, by_definition}
use Rattle.privilege_laws.proofs.PatternsTold.{runs_part}
use Rattle.privilege_laws.specs.HiddenColumns.{masked, IsHiddenColumn, AreHiddenFrom, AreHiddenFromWrites, SameButHidden}
use Rattle.privilege_laws.specs.HiddenPay.{people, with_pay, pay_of, asks_key, PayIsHidden, low, PolicyTellsPay, keyed_people, with_keyed_pay, KeyTellsPay}

abbrev found : Bool → ℕ → Bool → Option Table
found security pay b = cond b (Some (record { definition = people security; rows = (Int (pos 1) ∷ Int (pos pay) ∷ []) ∷ [] })) None

one_at : (t : TableOf) (b : Bool) → option_map (λ (x : Table). x.definition) (found false 1 b) ≡ Some t → people false ≡ t
one_at t true e = same_Some (people false) t e
one_at t false e = cc

hidden_pay : AreHiddenFrom pay_of (with_pay false [] 1) ann.current
hidden_pay t named index is =
    let table : people false ≡ t = one_at t (bytes_eq (codes "people") t.name) named in
    let column : index ≡ 1 = eqb-true index 1 (and_parts (bytes_eq (codes "people") t.name) (nat_eq index 1) is).1 in
    subst (λ (u : TableOf). IsHiddenColumn (with_pay false [] 1) ann.current u index) table
    (subst (λ (i : ℕ). IsHiddenColumn (with_pay false [] 1) ann.current (people false) i) (sym column)
    (record { is_column = omega arith; unread = refl; unnamed = λ p clause name c of one among found at. absurd of.among }))

hidden_from_writes : AreHiddenFromWrites pay_of (with_pay false [] 1) ann.current
hidden_from_writes t named index is =
    let table : people false ≡ t = one_at t (bytes_eq (codes "people") t.name) named in
    let column : index ≡ 1 = eqb-true index 1 (and_parts (bytes_eq (codes "people") t.name) (nat_eq index 1) is).1 in
    record {
      from_reads = hidden_pay t named index is;
      no_key = λ among. not_in_key (subst (λ (i : ℕ). Among i (0 ∷ [])) column (subst (λ (u : TableOf). Among index u.layout.key) (sym table) among));
      unchecked = λ p clause name c of one among found. absurd of.among;
    }
  where
    not_in_key : Among {X = ℕ} 1 (0 ∷ []) → ⊥
    not_in_key (inl zero_one) = zero_is_one zero_one where
      zero_is_one : ◌≡◌ {A = ℕ} 0 1 → ⊥
      zero_is_one e = cc
    not_in_key (inr never) = never

-- ---- what is sound

module _ (pay : ℕ) where
  abbrev row : Row
  row = Int (pos 1) ∷ Int (pos pay) ∷ []

  abbrev table : Table
  table = record { definition = people false; rows = row ∷ [] }

  values : (index : ℕ) → is_of (type_of (slice_get (people false).layout.columns index)) (value_at row index) ≡ true
  values zero = refl
  values (suc zero) = refl
  values (suc (suc n)) = refl

  alone : (P : Table → Type 0) → P table → (t : Table) → Among t (with_pay false [] pay).tables → P t
  alone P holds t among = elim among [ inl is ↦ subst P is holds | inr never ↦ absurd never ]

  sound_pay : IsSound (with_pay false [] pay)
  sound_pay = (
    alone IsTyped (refl, λ r among index. elim among [ inl is ↦ subst (λ (s : Row). is_of (type_of (slice_get (people false).layout.columns index)) (value_at s index) ≡ true) is (values index) | inr never ↦ absurd never ]),
    alone IsInKeyOrder (λ y h. absurd h, tt),
    alone HasDistinctKeys refl,
    alone KeepsNotNull (λ r among. elim among [ inl is ↦ subst (λ (s : Row). keeps_not_null (people false).layout.columns s ≡ true) is refl | inr never ↦ absurd never ]),
  )

-- ---- the rows of both

same_pay : (security : Bool) (policies : List Policy) → SameButHidden pay_of (with_pay security policies 1) (with_pay security policies 2)
same_pay security policies = record { definitions = refl; rows = λ name. at name (bytes_eq (codes "people") name) refl } where
  at : (name : TheName) (b : Bool) → bytes_eq (codes "people") name ≡ b → map (masked (pay_of name)) (rows_named (with_pay security policies 1) name) ≡ map (masked (pay_of name)) (rows_named (with_pay security policies 2) name)
  at name b is =
      ap (λ (c : Bool). map (masked (λ (index : ℕ). c && nat_eq index 1)) (rows_in (found security 1 c))) is
      ∙ by b
      ∙ sym (ap (λ (c : Bool). map (masked (λ (index : ℕ). c && nat_eq index 1)) (rows_in (found security 2 c))) is)
    where
      by : (c : Bool) → map (masked (λ (index : ℕ). c && nat_eq index 1)) (rows_in (found security 1 c)) ≡ map (masked (λ (index : ℕ). c && nat_eq index 1)) (rows_in (found security 2 c))
      by true = refl
      by false = refl

-- ---- machines

one_name : (b : Bool) → (b || false) ≡ true → b ≡ true
one_name true e = refl
one_name false e = cc

acts_as_ann : (pair : UserPair) → MayActAs (with_pay false [] 1) by_ann pair → codes "ann" ≡ pair.current
acts_as_ann pair acts =
    let login : codes "ann" ≡ pair.session = bytes_same (codes "ann") pair.session acts.0 in
    bytes_same (codes "ann") pair.current (one_name (bytes_eq (codes "ann") pair.current) (ap (λ (n : TheName). may_set_role (with_pay false [] 1) n pair.current) login ∙ acts.1))

both_related : SameButHiddenFrom pay_of by_ann (with_pay false [] 1) (with_pay false [] 2)
both_related = record {
  same = same_pay false [];
  from_all = λ pair acts. subst (AreHiddenFromWrites pay_of (with_pay false [] 1)) (acts_as_ann pair acts) hidden_from_writes;
}

machines_related : MachinesRelated (but_hidden pay_of of_ann) of_ann (opened_by_ann (with_pay false [] 1)) (opened_by_ann (with_pay false [] 2))
machines_related = record {
  sessions = λ number own. refl;
  opened_for = of_both (λ n. AllFor by_ann (entries_of n (opened_by_ann (with_pay false [] 1)).sessions)) (idle_acts, tt) tt;
  stopped = refl;
  lock = λ number own. refl;
  committed = both_related;
  seen = λ number own. both_related;
}

-- ---- where a policy names it

clash : true ≡ false → ⊥
clash e = cc

abbrev m : Machine
m = opened_by_ann (with_pay true low 1)

abbrev k : Machine
k = opened_by_ann (with_pay true low 2)

abbrev is_of_select : Event Reading → Bool
is_of_select (executes number (Ok (statement.OnDatabase (on_database.OverRows (over_rows.Select x))))) = true
is_of_select _ = false

abbrev is_refused : Answer → Bool
is_refused (answer.Refused code) = true
is_refused _ = false

no_column : (event : Event Reading) → is_of_select event ≡ true → is_refused (answer_to m event) ≡ false → is_refused (answer_to k event) ≡ false → TellsColumns 1 m k event → ⊥
no_column event is one two (by_size x (inl tells)) = clash (sym (ap is_refused tells.0) ∙ one)
no_column event is one two (by_size x (inr tells)) = clash (sym (ap is_refused tells.0) ∙ two)
no_column event is one two (by_definition x carried) = clash (sym is)

select_writes_not : (x : Statement) → is_of_select (executes 1 (Ok x)) ≡ true → is_writing x ≡ true → ⊥
select_writes_not (statement.OnDatabase (on_database.OverRows (over_rows.Select x))) is writes = clash (sym writes)
select_writes_not (statement.OnDatabase (on_database.OverRows (over_rows.Insert x))) is writes = clash (sym is)
select_writes_not (statement.OnDatabase (on_database.OverRows (over_rows.Update x))) is writes = clash (sym is)
select_writes_not (statement.OnDatabase (on_database.OverRows (over_rows.Delete x))) is writes = clash (sym is)
select_writes_not (statement.OnDatabase (on_database.Defining x)) is writes = clash (sym is)
select_writes_not (statement.OfSession x) is writes = clash (sym is)

no_crowd : (number : ℕ) (event : Event Reading) → is_of_select event ≡ true → IsCrowded number m k event → ⊥
no_crowd number event is (by_lock x writes apart tells) = select_writes_not x is writes
no_crowd number event is (by_number login apart tells) = clash (sym is)

stays_hers : (number : ℕ) (event : Event Reading) → is_of_select event ≡ true → LeavesTenant of_ann number m event → ⊥
stays_hers number event is (by_role s changed x free there may sets foreign) = clash (sym is)

abbrev how_many : Answer → ℕ
how_many (answer.Rows rows) = length rows
how_many _ = 7

one_none : ◌≡◌ {A = ℕ} 1 0 → ⊥
one_none e = cc

runs_part_at_policy : IsToldRelated (but_hidden pay_of of_ann) TellsColumns of_ann m k (happens asks_key ∷ []) (happens asks_key ∷ []) → ⊥
runs_part_at_policy told =
    elim (runs_part (but_hidden pay_of) TellsColumns of_ann m k asks_key refl (λ same. one_none (ap how_many same)) told) [
      | inl tells ↦ no_column asks_key refl refl refl tells
      | inr (inl crowd) ↦ no_crowd 1 asks_key refl crowd
      | inr (inr leaves) ↦ stays_hers 1 asks_key refl leaves
    ]

abbrev pay_in : List Row → ℕ
pay_in ((k ∷ Int (pos n) ∷ []) ∷ rows) = n
pay_in rows = 0

abbrev pay_in_database : Database → ℕ
pay_in_database db = pay_in (rows_named db (codes "people"))

one_two : ◌≡◌ {A = ℕ} 1 2 → ⊥
one_two e = cc

pub pay_is_hidden : PayIsHidden
pay_is_hidden = record {
  hidden = hidden_pay;
  same = same_pay false [];
  from_writes = hidden_from_writes;
  machines = machines_related;
  sound = (sound_pay 1, sound_pay 2);
  differ = λ same. one_two (ap pay_in_database same);
  told = refl;
  refused = refl;
}

pub policy_tells_pay : PolicyTellsPay
policy_tells_pay = record {
  same = same_pay true low;
  refused = refl;
  parts = λ both. one_none (ap how_many both.0);
  runs_part = runs_part_at_policy;
}

-- ---- where it is the key

abbrev found_keyed : ℕ → Bool → Option Table
found_keyed pay b = cond b (Some (record { definition = keyed_people; rows = (Int (pos 1) ∷ Int (pos pay) ∷ []) ∷ [] })) None

same_keyed : SameButHidden pay_of (with_keyed_pay 1) (with_keyed_pay 2)
same_keyed = record { definitions = refl; rows = λ name. at name (bytes_eq (codes "people") name) refl } where
  at : (name : TheName) (b : Bool) → bytes_eq (codes "people") name ≡ b → map (masked (pay_of name)) (rows_named (with_keyed_pay 1) name) ≡ map (masked (pay_of name)) (rows_named (with_keyed_pay 2) name)
  at name b is =
      ap (λ (c : Bool). map (masked (λ (index : ℕ). c && nat_eq index 1)) (rows_in (found_keyed 1 c))) is
      ∙ by b
      ∙ sym (ap (λ (c : Bool). map (masked (λ (index : ℕ). c && nat_eq index 1)) (rows_in (found_keyed 2 c))) is)
    where
      by : (c : Bool) → map (masked (λ (index : ℕ). c && nat_eq index 1)) (rows_in (found_keyed 1 c)) ≡ map (masked (λ (index : ℕ). c && nat_eq index 1)) (rows_in (found_keyed 2 c))
      by true = refl
      by false = refl

pub key_tells_pay : KeyTellsPay
key_tells_pay = record { same = same_keyed; parts = λ both. both }
