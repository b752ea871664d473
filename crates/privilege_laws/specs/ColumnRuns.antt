-- Runs of a tenant over machines that differ in columns which none of the roles that it acts as may read.
use Rattle.std.specs.Prelude.{ℕ, Bool, Ok}
use Rattle.sql_types.specs.declared.state.SqlState.TheVariants.{ProgramLimitExceeded}
use Rattle.sql_ast.specs.declared.statement.Statement.TheVariants as statement
use Rattle.sql_ast.specs.declared.statement.DatabaseStatement.TheVariants as on_database
use Rattle.sql_ast.specs.declared.statement.DefiningStatement.{DefiningStatement}
use Rattle.abstract_database.specs.Lists.{TheName}
use Rattle.abstract_database.specs.Database.{Database}
use Rattle.abstract_database.specs.Statements.{UserPair}
use Rattle.abstract_database.specs.Machine.{Event, executes, Reading, Machine, transition}
use Rattle.database_laws.specs.Blocks.{IsRefused}
use Rattle.database_laws.specs.HiddenRuns.{MayActAs, answer_to, TellsAlone}
use Rattle.database_laws.specs.Told.{Tenant}
use Rattle.privilege_laws.specs.HiddenColumns.{AreHiddenFromWrites, SameButHidden}
use Rattle.privilege_laws.specs.Related.{Relation, RunsAreTold, RunsPartWhereTold}

-- the same but for these columns, which are hidden from each pair that the tenant acts as
pub record SameButHiddenFrom (hidden : TheName → ℕ → Bool) (pairs : UserPair → Bool) (d e : Database) : Type 0 where
  pub same : SameButHidden hidden d e
  pub from_all : (pair : UserPair) → MayActAs d pairs pair → AreHiddenFromWrites hidden d pair.current

abbrev pub but_hidden : (TheName → ℕ → Bool) → Tenant → Relation
but_hidden hidden a = SameButHiddenFrom hidden a.pairs

-- an event that may be answered by what is in such columns, or after which they may be read
pub data TellsColumns (number : ℕ) (m k : Machine) : Event Reading → Type 0 where
  -- it is refused for a size over one of the machines alone
  by_size : (event : Event Reading) → TellsAlone ProgramLimitExceeded (answer_to m event) (answer_to k event) → TellsColumns number m k event
  -- a definition is carried out
  by_definition : (x : DefiningStatement) → (IsRefused (transition m (executes number (Ok (statement.OnDatabase (on_database.Defining x))))) → ⊥) →
      TellsColumns number m k (executes number (Ok (statement.OnDatabase (on_database.Defining x))))

-- runs are told alike up to these
abbrev pub runs_beside_hidden_columns : Type 0
runs_beside_hidden_columns = (hidden : TheName → ℕ → Bool) → RunsAreTold (but_hidden hidden) TellsColumns

-- and what that forbids
abbrev pub parts_beside_hidden_columns : Type 0
parts_beside_hidden_columns = (hidden : TheName → ℕ → Bool) → RunsPartWhereTold (but_hidden hidden) TellsColumns
