-- What sessions are told beside tables that their tenant does not reach.
use Rattle.std.proofs.Common.{◌≡◌, ℕ, Bool, true, false, bytes_eq, refl, sym, ap, subst, inl, inr}
use Rattle.sql_ast.specs.declared.statement.RowStatement.TheVariants as over_rows
use Rattle.abstract_database.specs.Lists.{TheName}
use Rattle.abstract_database.specs.Database.{Database, rows_named, without_rows}
use Rattle.abstract_database.specs.Statements.{UserPair, as_seen}
use Rattle.abstract_database.specs.Machine.{Event, Reading, Machine}
use Rattle.database_laws.specs.Sessions.{number_of}
use Rattle.database_laws.specs.HiddenRuns.{answer_to, after}
use Rattle.database_laws.specs.RowChanges.{ChangesRowsOf}
use Rattle.database_laws.specs.Told.{Tenant, happens, declares, IsCrowded, by_lock, by_number, LeavesTenant}
use Rattle.database_laws.proofs.ConcernLemmas.{inserted_in_its_table, updated_in_its_table, deleted_in_its_table}
use Rattle.database_laws.proofs.AllAlikeRows.{select_leaves}
use Rattle.abstract_database.proofs.ListLemmas.{bytes_same}
use Rattle.privilege_laws.specs.Related.{NothingTells, MachinesRelated, AreCrowdedAlike, MayPart}
use Rattle.privilege_laws.specs.Reached.{IsReachedTable, SameReachedRows, reached_by, other_tables_are_out_of_sight, unreached_tables_tell_nothing, runs_beside_unreached_tables}
use Rattle.privilege_laws.proofs.ToldRelated.{Came, parts, goes_on_alike, is_declared, comes, told_so}
use Rattle.privilege_laws.proofs.ReachedTables.{tables_are_hidden}

no_crowd : (number : ℕ) (m k : Machine) (event : Event Reading) → AreCrowdedAlike number m k → IsCrowded number m k event → ⊥
no_crowd number m k event crowd (by_lock x writes other tells) = other crowd.lock
no_crowd number m k event crowd (by_number login other tells) = other crowd.room

no_part : (a : Tenant) (m k : Machine) (event : Event Reading) → (LeavesTenant a (number_of event) m event → ⊥) → AreCrowdedAlike (number_of event) m k → MayPart NothingTells a m k (happens event) → ⊥
no_part a m k event stays crowd (inl tells) = tells
no_part a m k event stays crowd (inr (inl crowded)) = no_crowd (number_of event) m k event crowd crowded
no_part a m k event stays crowd (inr (inr leaves)) = stays leaves

not_declared : (x y : Event Reading) → declares x ≡ happens y → ⊥
not_declared x y e = cc

pub events_told : unreached_tables_tell_nothing
events_told a m k event st on_m on_k own opens_own stays crowd = at (comes a (reached_by a) NothingTells (tables_are_hidden a.pairs) m k st on_m on_k (happens event) own opens_own) where
  at : Came a (reached_by a) NothingTells (tables_are_hidden a.pairs) m k st on_m on_k (happens event) → (answer_to m event ≡ answer_to k event) × MachinesRelated (reached_by a) a (after m event) (after k event)
  at (parts exception none) = absurd (no_part a m k event stays crowd exception)
  at (goes_on_alike answers next) = (answers, next)
  at (is_declared e is) = absurd (not_declared e event is)

pub runs_told : runs_beside_unreached_tables
runs_told = told_so reached_by NothingTells (λ a. tables_are_hidden a.pairs)

-- ---- others that write to tables that are not reached

kept_rows : (pairs : UserPair → Bool) (db a : Database) (table : TheName) → ChangesRowsOf table db a → (IsReachedTable pairs db table → ⊥) → SameReachedRows pairs db a
kept_rows pairs db a table changes closed = record {
  definitions = sym changes.definitions;
  rows = λ name r. sym (changes.others name (by name r (bytes_eq name table) refl));
} where
  by : (name : TheName) → IsReachedTable pairs db name → (b : Bool) → bytes_eq name table ≡ b → bytes_eq name table ≡ false
  by name r false is = is
  by name r true is = absurd (closed (subst (IsReachedTable pairs db) (bytes_same name table is) r))

pub others_unseen : other_tables_are_out_of_sight
others_unseen pairs db pair (over_rows.Insert s) e is closed = kept_rows pairs db e.database s.table (inserted_in_its_table db (as_seen pair db) s e is) (closed s.table refl)
others_unseen pairs db pair (over_rows.Update s) e is closed = kept_rows pairs db e.database s.table (updated_in_its_table db (as_seen pair db) s e is) (closed s.table refl)
others_unseen pairs db pair (over_rows.Delete s) e is closed = kept_rows pairs db e.database s.table (deleted_in_its_table db (as_seen pair db) s e is) (closed s.table refl)
others_unseen pairs db pair (over_rows.Select s) e is closed =
    let same = select_leaves db (as_seen pair db) s e is in
    record { definitions = ap without_rows (sym same); rows = λ name r. ap (λ (x : Database). rows_named x name) (sym same) }
