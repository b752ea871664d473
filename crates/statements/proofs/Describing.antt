-- What a statement would answer, as the statement that it is.
use Rattle.std.proofs.Common.{◌≡◌, ◌⊎◌, refl, sym, subst, inl, inr}
use Rattle.sql_types.specs.declared.state.SqlState.TheVariants.{OutOfMemory}
use Rattle.sql_ast.specs.declared.description.StatementDescription.{StatementDescription}
use Rattle.sql_ast.specs.declared.description.StatementDescription.TheVariants.{Refused}
use Rattle.sql_ast.specs.declared.statement.DatabaseStatement.{DatabaseStatement}
use Rattle.sql_ast.specs.declared.statement.DatabaseStatement.TheVariants as on_database
use Rattle.sql_ast.specs.declared.statement.RowStatement.{RowStatement}
use Rattle.sql_ast.specs.declared.statement.RowStatement.TheVariants as over_rows
use Rattle.sql_ast.specs.OverRows.{IsReadOverRows}
use Rattle.sql_ast.specs.Statements.{IsReadOnDatabase}
use Rattle.store.specs.Records.{Records}
use Rattle.abstract_database.specs.Database.{Database}
use Rattle.expressions.specs.Meaning.{UserNames}
use Rattle.abstract_database.specs.Descriptions.{describe, described_or_refused}
use Rattle.abstract_database.specs.Machine.{Session, users_of}
use Rattle.abstract_database.specs.Statements.{as_seen, checked_over_rows}
use Rattle.stored_database.specs.Definitions.{Definitions}
use Rattle.stored_database.specs.Records.{Shows}
use Rattle.stored_database.specs.Valid.{Describes}
use Rattle.stored_database.proofs.Wholeness.{shown_described}
use Rattle.planner.specs.Plans.{HasRowsOfOneLength}
use Rattle.planner.specs.ResultColumns.{IsDescribedBy}

-- what is promised of what is told
abbrev pub IsTold : Definitions → Session → DatabaseStatement → StatementDescription → Type 0
IsTold d session x told = IsReadOnDatabase x → (records : Records) (db : Database) → Shows records d db
    → (told ≡ Refused OutOfMemory) ⊎ (told ≡ describe db (users_of session) x)

-- the rows of an INSERT that the parser reads have one length
one_length : (s : RowStatement) → IsReadOverRows s → HasRowsOfOneLength s
one_length (over_rows.Insert s) read = read.one_length
one_length (over_rows.Update s) read = tt
one_length (over_rows.Delete s) read = tt
one_length (over_rows.Select s) read = tt

module _ (d : Definitions) (told : StatementDescription) where
  -- memory was refused, or it is what the checks come to
  abbrev IsAsChecked : Session → RowStatement → Type 0
  IsAsChecked session s = (told ≡ Refused OutOfMemory)
      ⊎ ((db : Database) (users : UserNames) → Describes d db → users.current ≡ session.role → told ≡ described_or_refused (checked_over_rows db users s))

  checked_told : (session : Session) (s : RowStatement) (records : Records) (db : Database) → Shows records d db → IsAsChecked session s
      → (told ≡ Refused OutOfMemory) ⊎ (told ≡ describe db (users_of session) (on_database.OverRows s))
  checked_told session s records db shown (inl e) = inl e
  checked_told session s records db shown (inr e) = inr (e db (as_seen (users_of session) db) (shown_described records d db shown) refl)

  rows_told : (session : Session) (s : RowStatement) → IsDescribedBy d session.role s told → IsTold d session (on_database.OverRows s) told
  rows_told session s describes read records db shown = checked_told session s records db shown (describes (one_length s read))

  -- for the roles of a session as code has it, and so for those of the session
  pub over_rows_told : (x y : Session) (all : DatabaseStatement) (s : RowStatement) → x ≡ y → all ≡ on_database.OverRows s → IsDescribedBy d x.role s told → IsTold d y all told
  over_rows_told x y all s same is describes =
      subst (λ (z : Session). IsTold d z all told) same (subst (λ (a : DatabaseStatement). IsTold d x a told) (sym is) (rows_told x s describes))
