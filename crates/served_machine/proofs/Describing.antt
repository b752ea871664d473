-- What is told of a text goes by definitions alone.
use Rattle.std.specs.Prelude.{if◌then◌else◌}
use Rattle.std.proofs.Common.{◌≡◌, ◌∙◌, ℕ, Bool, not, Option, Some, None, IsSome, Result, Ok, Err, inl, inr, refl, ap, sym, subst}
use Rattle.sql_types.specs.declared.state.SqlState.{SqlState}
use Rattle.sql_types.specs.declared.state.SqlState.TheVariants.{InsufficientPrivilege, InFailedTransaction, InvalidAuthorization, IoError}
use Rattle.sql_ast.specs.declared.description.StatementDescription.{StatementDescription}
use Rattle.sql_ast.specs.declared.description.StatementDescription.TheVariants.{Refused}
use Rattle.sql_ast.specs.declared.statement.Statement.TheVariants as statement
use Rattle.sql_ast.specs.declared.statement.DatabaseStatement.{DatabaseStatement}
use Rattle.sql_ast.specs.declared.statement.DatabaseStatement.TheVariants as on_database
use Rattle.sql_ast.specs.declared.statement.RowStatement.TheVariants as over_rows
use Rattle.expressions.specs.Stages.{◌>>=◌, require}
use Rattle.abstract_database.specs.Changes.{CheckedInsert, CheckedUpdate, CheckedDelete}
use Rattle.abstract_database.specs.Database.{Database, has_role, without_rows}
use Rattle.abstract_database.specs.Descriptions.{described_or_refused, describe, described_if, description_in, description_for, description, IsDescription}
use Rattle.abstract_database.specs.Machine.{Machine, Session, Reading, has_failed, keeps_role, seen, session_of, users_of}
use Rattle.abstract_database.specs.Queries.{CheckedSelect}
use Rattle.abstract_database.specs.Runs.{TheText, ReadingRelation}
use Rattle.abstract_database.specs.Statements.{inserts, updates, deletes, selects, UserPair, as_seen}
use Rattle.database_laws.proofs.AlikeLemmas.{delete_alone}
use Rattle.database_laws.proofs.AlikeWriteLemmas.{insert_alone, update_alone}
use Rattle.database_laws.proofs.WorldLemmas.{checked_alone}
use Rattle.served_machine.specs.RowsApart.{AgreeButForRows}

-- without any row
describe_alone : (db : Database) (pair : UserPair) (x : DatabaseStatement) → describe db pair x ≡ describe (without_rows db) pair x
describe_alone db pair (on_database.Defining s) = refl
describe_alone db pair (on_database.OverRows (over_rows.Insert s)) = ap (λ (r : Result CheckedInsert SqlState). described_or_refused (r >>= λ c. Ok (inserts c))) (insert_alone db (as_seen pair db) s)
describe_alone db pair (on_database.OverRows (over_rows.Update s)) = ap (λ (r : Result CheckedUpdate SqlState). described_or_refused (r >>= λ c. Ok (updates c))) (update_alone db (as_seen pair db) s)
describe_alone db pair (on_database.OverRows (over_rows.Delete s)) = ap (λ (r : Result CheckedDelete SqlState). described_or_refused (r >>= λ c. Ok (deletes c))) (delete_alone db (as_seen pair db) s)
describe_alone db pair (on_database.OverRows (over_rows.Select s)) = ap (λ (r : Result CheckedSelect SqlState). described_or_refused (r >>= λ c. Ok (selects c))) (checked_alone db (as_seen pair db) s)

-- in a session that sees this database
abbrev describe_seen : Session → DatabaseStatement → Database → StatementDescription
describe_seen s x db = described_if (do
  unfailed ← require (not (has_failed s.block)) InFailedTransaction
  authorized ← require (has_role db s.login) InvalidAuthorization
  require (keeps_role db s) InsufficientPrivilege) (describe db (users_of s) x)

seen_alone : (s : Session) (x : DatabaseStatement) (db : Database) → describe_seen s x db ≡ describe_seen s x (without_rows db)
seen_alone s x db = ap (described_if (do
  unfailed ← require (not (has_failed s.block)) InFailedTransaction
  authorized ← require (has_role db s.login) InvalidAuthorization
  require (keeps_role db s) InsufficientPrivilege)) (describe_alone db (users_of s) x)

module _ (number : ℕ) (m k : Machine) (agree : AgreeButForRows number m k) where
  same_in : (s : Session) (reading : Reading) → description_in m number s reading ≡ description_in k number s reading
  same_in s (Err code) = refl
  same_in s (Ok (statement.OfSession x)) = refl
  same_in s (Ok (statement.OnDatabase x)) = seen_alone s x (seen m number) ∙ ap (describe_seen s x) agree.definitions ∙ sym (seen_alone s x (seen k number))

  same_for : (reading : Reading) (s : Option Session) → description_for m number reading s ≡ description_for k number reading s
  same_for reading None = refl
  same_for reading (Some s) = same_in s reading

  pub same_description : (reading : Reading) → description m number reading ≡ description k number reading
  same_description reading =
      ap (λ (b : Bool). if b then Refused IoError else description_for m number reading (session_of number m.sessions)) agree.stopped
      ∙ ap (λ (s : Option Session). if k.stopped then Refused IoError else description_for m number reading s) agree.session
      ∙ ap (λ (d : StatementDescription). if k.stopped then Refused IoError else d) (same_for reading (session_of number k.sessions))

  pub told_alike : (Reads : ReadingRelation) (text : TheText) (d : StatementDescription) → IsDescription Reads m number text d → IsDescription Reads k number text d
  told_alike Reads text d (inl lacks) = inl lacks
  told_alike Reads text d (inr is) = inr (
    is.0,
    (λ may. is.1 (agree.stopped ∙ may.0, subst IsSome (sym agree.session) may.1)),
    is.2 ∙ same_description is.0,
  )
