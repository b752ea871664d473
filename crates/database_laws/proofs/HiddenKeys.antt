-- Over two databases that look alike to a tenant one refusal stands at two places.
use Rattle.std.proofs.Common.{◌≡◌, ◌++◌, ℕ, zero, suc, pos, Bool, true, false, cond, codes, bytes_eq, List, [], ◌∷◌, slice_get, Option, Some, None, Ok, refl, sym, ap, ◌∙◌, subst, inl, inr}
use Rattle.std.specs.Option.{option_map}
use Rattle.std.proofs.lemmas.Option.{same_Some}
use Rattle.sql_types.specs.Row.{Row, value_at}
use Rattle.sql_types.specs.declared.value.Value.TheVariants.{Int, Text}
use Rattle.sql_ast.specs.Scope.{type_of}
use Rattle.sql_ast.specs.declared.statement.Statement.TheVariants as statement
use Rattle.sql_ast.specs.declared.statement.DatabaseStatement.TheVariants as on_database
use Rattle.sql_ast.specs.declared.statement.RowStatement.{RowStatement}
use Rattle.sql_ast.specs.declared.statement.RowStatement.TheVariants as over_rows
use Rattle.expressions.specs.Types.{is_of}
use Rattle.abstract_database.specs.Lists.{TheName, Among}
use Rattle.abstract_database.specs.Database.{TableOf, Table, Database, definition_named}
use Rattle.abstract_database.specs.Changes.{keeps_not_null}
use Rattle.abstract_database.specs.Statements.{UserPair, as_seen}
use Rattle.abstract_database.specs.Machine.{Event, executes, Reading, Machine, seen}
use Rattle.database_laws.specs.Invariants.{IsSound}
use Rattle.database_laws.specs.Tables.{IsTyped, HasDistinctKeys, KeepsNotNull}
use Rattle.abstract_database.specs.Changes.{IsInKeyOrder}
use Rattle.database_laws.specs.Worlds.{SameApparentRows, apparent_rows}
use Rattle.database_laws.specs.HiddenRuns.{SameApparentRowsForPairs, goes_by_visible, after}
use Rattle.database_laws.specs.Told.{entries_of, AllFor, IsAlikeTo, Act, happens, declares, restarts, OthersKeepOutOfSight, LeavesTenant}
use Rattle.database_laws.specs.Told as machines
use Rattle.database_laws.specs.Patterns.{TellsUnlisted, by_count, by_definition, by_role, AllTellListedOnly, AreDeclaredAlike}
use Rattle.database_laws.specs.TwoTenants.{ann, by_ann, of_ann}
use Rattle.database_laws.specs.HiddenKeys.{keys, with_key, ann_inserts, two_inserts, beside, PlacesTell}
use Rattle.database_laws.proofs.TwoTenants.{acts_as_ann, of_both, idle_acts}

-- ---- the one table

abbrev found_at : ℕ → Bool → Option Table
found_at k b = cond b (Some (record { definition = keys; rows = (Int (pos k) ∷ Text (codes "bob") ∷ []) ∷ [] })) None

one_at : (k : ℕ) (t : TableOf) (b : Bool) → option_map (λ (x : Table). x.definition) (found_at k b) ≡ Some t → keys ≡ t
one_at k t true e = same_Some keys t e
one_at k t false e = cc

one_table : (k : ℕ) (t : TableOf) → definition_named (with_key k) t.name ≡ Some t → keys ≡ t
one_table k t h = one_at k t (bytes_eq keys.name t.name) h

-- ---- what ann sees of it

to_ann : SameApparentRows (as_seen ann (with_key 1)) (with_key 1) (with_key 2)
to_ann = record {
  definitions = refl;
  rows = λ t h. subst (λ (u : TableOf). apparent_rows (with_key 1) (as_seen ann (with_key 1)) u ≡ apparent_rows (with_key 2) (as_seen ann (with_key 1)) u) (one_table 1 t h) refl;
}

to_all : SameApparentRowsForPairs by_ann (with_key 1) (with_key 2)
to_all = record {
  definitions = refl;
  rows = λ pair acts. subst (λ (p : UserPair). SameApparentRows (as_seen p (with_key 1)) (with_key 1) (with_key 2)) (acts_as_ann pair acts) to_ann;
}

-- ---- what is sound

module _ (k : ℕ) where
  abbrev row : Row
  row = Int (pos k) ∷ Text (codes "bob") ∷ []

  abbrev table : Table
  table = record { definition = keys; rows = row ∷ [] }

  values : (index : ℕ) → is_of (type_of (slice_get keys.layout.columns index)) (value_at row index) ≡ true
  values zero = refl
  values (suc zero) = refl
  values (suc (suc n)) = refl

  typed : IsTyped table
  typed = (
    refl,
    λ r among index. elim among [
      | inl is ↦ subst (λ (s : Row). is_of (type_of (slice_get keys.layout.columns index)) (value_at s index) ≡ true) is (values index)
      | inr never ↦ absurd never
    ],
  )

  in_order : IsInKeyOrder table
  in_order = (λ y h. absurd h, tt)

  no_null : KeepsNotNull table
  no_null r among = elim among [ inl is ↦ subst (λ (s : Row). keeps_not_null keys.layout.columns s ≡ true) is refl | inr never ↦ absurd never ]

  alone : (P : Table → Type 0) → P table → (t : Table) → Among t (with_key k).tables → P t
  alone P holds t among = elim among [ inl is ↦ subst P is holds | inr never ↦ absurd never ]

  sound : IsSound (with_key k)
  sound = (alone IsTyped typed, alone IsInKeyOrder in_order, alone HasDistinctKeys refl, alone KeepsNotNull no_null)

alike : IsAlikeTo of_ann (beside 1) (beside 2)
alike = record {
  sessions = λ number own. refl;
  opened_for = of_both (λ n. AllFor by_ann (entries_of n (beside 1).sessions)) (idle_acts, tt) tt;
  stopped = refl;
  lock = λ number own. refl;
  committed = to_all;
  seen = λ number own. to_all;
}

-- ---- what she does

clash : true ≡ false → ⊥
clash e = cc

abbrev is_insert : Event Reading → Bool
is_insert (executes number (Ok (statement.OnDatabase (on_database.OverRows (over_rows.Insert x))))) = true
is_insert _ = false

insert_by_visible : (x : RowStatement) → is_insert (executes 1 (Ok (statement.OnDatabase (on_database.OverRows x)))) ≡ true → (db : Database) (role : TheName) → goes_by_visible db role x ≡ false → ⊥
insert_by_visible (over_rows.Insert x) is db role goes = clash goes
insert_by_visible (over_rows.Select x) is db role goes = clash (sym is)
insert_by_visible (over_rows.Update x) is db role goes = clash (sym is)
insert_by_visible (over_rows.Delete x) is db role goes = clash (sym is)

stays_hers : (m : Machine) (number : ℕ) (event : Event Reading) → is_insert event ≡ true → LeavesTenant of_ann number m event → ⊥
stays_hers m number event is (machines.by_role s changed x free there may sets foreign) = clash (sym is)

insert_listed : (m : Machine) (event : Event Reading) → is_insert event ≡ true → TellsUnlisted of_ann m event → ⊥
insert_listed m event is (by_count number s x c there goes checks) = insert_by_visible x is (seen m number) s.role goes
insert_listed m event is (by_definition number x unhides carried) = clash (sym is)
insert_listed m event is (by_role number e leaves) = stays_hers m number e is leaves

all_listed : (m : Machine) → AllTellListedOnly of_ann m two_inserts
all_listed m = (λ own. insert_listed m (ann_inserts 1) refl, (λ own. insert_listed (after m (ann_inserts 1)) (ann_inserts 2) refl, tt))

all_hers : (m : Machine) → OthersKeepOutOfSight of_ann m two_inserts
all_hers m = ((λ own. tt, λ foreign. absurd (clash foreign)), ((λ own. tt, λ foreign. absurd (clash foreign)), tt))

abbrev has_declared : List Act → Bool
has_declared [] = false
has_declared (happens event ∷ later) = has_declared later
has_declared (declares event ∷ later) = true
has_declared (restarts ∷ later) = has_declared later

declared_in : (before later : List Act) (event : Event Reading) → has_declared (before ++ declares event ∷ later) ≡ true
declared_in [] later event = refl
declared_in (happens e ∷ before) later event = declared_in before later event
declared_in (declares e ∷ before) later event = refl
declared_in (restarts ∷ before) later event = declared_in before later event

none_declared : AreDeclaredAlike of_ann (beside 1) (beside 2) two_inserts two_inserts
none_declared before later before_there later_there event here there same = absurd (clash (sym (declared_in before later event) ∙ sym (ap has_declared here)))

pub places_tell : PlacesTell
places_tell = record {
  machines = alike;
  sound = (record { committed = sound 1; holder = tt }, record { committed = sound 2; holder = tt });
  hides = (all_hers (beside 1), all_hers (beside 2));
  listed = all_listed (beside 1);
  declared = none_declared;
  answers_beside_one = refl;
  answers_beside_two = refl;
}
