-- What a tenant is told over databases that differ in columns which it may not read.
use Rattle.std.proofs.Common.{◌≡◌, ◌⊎◌, ℕ, Bool, List, Result, Ok, Err, refl, sym, ap, ◌∙◌, subst, inl, inr}
use Rattle.sql_types.specs.declared.state.SqlState.{SqlState}
use Rattle.sql_types.specs.declared.state.SqlState.TheVariants.{ProgramLimitExceeded}
use Rattle.sql_ast.specs.declared.policy.Policy.{Policy}
use Rattle.sql_ast.specs.declared.privilege.Action.TheVariants as action
use Rattle.sql_ast.specs.declared.statement.Statement.TheVariants as statement
use Rattle.sql_ast.specs.declared.statement.DatabaseStatement.{DatabaseStatement}
use Rattle.sql_ast.specs.declared.statement.DatabaseStatement.TheVariants as on_database
use Rattle.sql_ast.specs.declared.statement.DefiningStatement.{DefiningStatement}
use Rattle.sql_ast.specs.declared.statement.RowStatement.{RowStatement}
use Rattle.expressions.specs.Meaning.{UserNames}
use Rattle.expressions.specs.Stages.{◌>>=◌}
use Rattle.abstract_database.specs.Lists.{TheName, Among}
use Rattle.abstract_database.specs.Database.{Database, without_rows}
use Rattle.abstract_database.specs.Guards.{is_for_role}
use Rattle.abstract_database.specs.Privileges.{on_column, has_privilege}
use Rattle.abstract_database.specs.Statements.{Effect, UserPair, as_seen, define, exec}
use Rattle.abstract_database.specs.Machine.{Session, executes, Machine, users_of, seen}
use Rattle.database_laws.specs.HiddenRuns.{MayActAs}
use Rattle.database_laws.specs.Invariants.{IsSound}
use Rattle.database_laws.specs.OnePolicy.{Concerns}
use Rattle.database_laws.proofs.StageLemmas.{bared}
use Rattle.database_laws.proofs.StatementLemmas.{exec_answers}
use Rattle.privilege_laws.specs.Related.{EndRelated}
use Rattle.privilege_laws.specs.HiddenColumns.{AreHiddenFromWrites, EndButHidden, TellsSize}
use Rattle.privilege_laws.specs.ColumnRuns.{SameButHiddenFrom, but_hidden, TellsColumns, by_size, by_definition, runs_beside_hidden_columns}
use Rattle.privilege_laws.proofs.DefiningAlike.{bare_alike}
use Rattle.privilege_laws.proofs.HiddenWrites.{sizes_alone}
use Rattle.privilege_laws.proofs.Moves.{Hides, MayBoth, answer_of, refused_with, carried_with, not_told}
use Rattle.privilege_laws.proofs.ReachedTables.{rows_keep_definitions}
use Rattle.privilege_laws.proofs.ShownRows.{acts_in, named_in}
use Rattle.privilege_laws.proofs.ToldRelated.{told_so}

-- ---- what is hidden goes by definitions alone

concerns_there : (d e : Database) → without_rows d ≡ without_rows e → (role table : TheName) (p : Policy) → Concerns e role table p → Concerns d role table p
concerns_there d e same role table p of = record {
  among = subst (λ (ps : List Policy). Among p ps) (sym (ap (λ (x : Database). x.policies) same)) of.among;
  of_table = of.of_table;
  for_role = ap (λ (x : Database). is_for_role x.memberships role p.roles) same ∙ of.for_role;
}

hidden_there : (hidden : TheName → ℕ → Bool) (d e : Database) → without_rows d ≡ without_rows e → (role : TheName) → AreHiddenFromWrites hidden d role → AreHiddenFromWrites hidden e role
hidden_there hidden d e same role shut t named index is =
    let was = shut t (named_in d e same t.name ∙ named) index is in
    record {
      from_reads = record {
        is_column = was.from_reads.is_column;
        unread = sym (ap (λ (x : Database). has_privilege x role t.name (on_column action.Select index)) same) ∙ was.from_reads.unread;
        unnamed = λ p clause name c of one among found at. was.from_reads.unnamed p clause name c (concerns_there d e same role t.name p of) one among found at;
      };
      no_key = was.no_key;
      unchecked = λ p clause name c of one among found at. was.unchecked p clause name c (concerns_there d e same role t.name p of) one among found at;
    }

module _ (hidden : TheName → ℕ → Bool) (pairs : UserPair → Bool) where
  abbrev R : Database → Database → Type 0
  R = SameButHiddenFrom hidden pairs

  all_there : (d e : Database) → without_rows d ≡ without_rows e → ((pair : UserPair) → MayActAs d pairs pair → AreHiddenFromWrites hidden d pair.current) → (pair : UserPair) → MayActAs e pairs pair → AreHiddenFromWrites hidden e pair.current
  all_there d e same all pair may = hidden_there hidden d e same pair.current (all pair (acts_in pairs e d (sym same) pair may))

  turned_columns : (d e : Database) → R d e → R e d
  turned_columns d e r = record {
    same = record { definitions = sym r.same.definitions; rows = λ name. sym (r.same.rows name) };
    from_all = all_there d e r.same.definitions r.from_all;
  }

  joined_columns : (d e f : Database) → R d e → R e f → R d f
  joined_columns d e f r q = record {
    same = record { definitions = r.same.definitions ∙ q.same.definitions; rows = λ name. r.same.rows name ∙ q.same.rows name };
    from_all = r.from_all;
  }

  -- ---- statements

  rows_at : (d e : Database) (pair : UserPair) (x : RowStatement) → R d e → (r k : Result Effect SqlState) → exec d pair (on_database.OverRows x) ≡ r → EndButHidden hidden r k → EndRelated R r k
  rows_at d e pair x rel (Ok p) (Ok q) is both = (both.0, record { same = both.1; from_all = all_there d p.database (sym (rows_keep_definitions d pair x p is)) rel.from_all })
  rows_at d e pair x rel (Err c) (Err k) is both = both
  rows_at d e pair x rel (Ok p) (Err k) is both = both
  rows_at d e pair x rel (Err c) (Ok q) is both = both

  refused_at : (d e : Database) (pair : UserPair) → MayActAs d pairs pair → without_rows d ≡ without_rows e → (x : DefiningStatement) (code : SqlState) → exec d pair (on_database.Defining x) ≡ Err code → exec e pair (on_database.Defining x) ≡ Err code
  refused_at d e pair may same x code is = at (exec e pair (on_database.Defining x)) refl where
    bare : (exec d pair (on_database.Defining x) >>= λ y. Ok (bared y)) ≡ (exec e pair (on_database.Defining x) >>= λ y. Ok (bared y))
    bare = subst (λ (u : UserNames). (define d (as_seen pair d) x >>= λ y. Ok (bared y)) ≡ (define e u x >>= λ y. Ok (bared y))) (ap (λ (db : Database). as_seen pair db) same) (bare_alike pairs d e same pair may x)

    at : (k : Result Effect SqlState) → exec e pair (on_database.Defining x) ≡ k → k ≡ Err code
    at (Err j) on_e = let both : ◌≡◌ {A = Result Effect SqlState} (Err code) (Err j) = sym (ap (λ (r : Result Effect SqlState). r >>= λ y. Ok (bared y)) is) ∙ bare ∙ ap (λ (r : Result Effect SqlState). r >>= λ y. Ok (bared y)) on_e in sym both
    at (Ok q) on_e = let both : ◌≡◌ {A = Result Effect SqlState} (Err code) (Ok (bared q)) = sym (ap (λ (r : Result Effect SqlState). r >>= λ y. Ok (bared y)) is) ∙ bare ∙ ap (λ (r : Result Effect SqlState). r >>= λ y. Ok (bared y)) on_e in cc

  both_refuse : (r q : Result Effect SqlState) (code : SqlState) → r ≡ Err code → q ≡ Err code → EndRelated R r q
  both_refuse r q code one two = subst (λ (x : Result Effect SqlState). EndRelated R x q) (sym one) (subst (λ (y : Result Effect SqlState). EndRelated R (Err code) y) (sym two) refl)

  module _ (number : ℕ) (s : Session) (m k : Machine) (rel : R (seen m number) (seen k number)) (on_m : IsSound (seen m number)) (on_k : IsSound (seen k number)) (may : MayActAs (seen m number) pairs (users_of s)) where
    abbrev Ends : DatabaseStatement → Type 0
    Ends x = TellsColumns number m k (executes number (Ok (statement.OnDatabase x))) ⊎ EndRelated R (exec (seen m number) (users_of s) x) (exec (seen k number) (users_of s) x)

    size_tells : (x : DatabaseStatement) → MayBoth number s m k x → TellsSize (exec (seen m number) (users_of s) x) (exec (seen k number) (users_of s) x) → Ends x
    size_tells x both (inl tells) = inl (by_size (executes number (Ok (statement.OnDatabase x))) (inl (
      answer_of number s m both.here both.runs_here (Ok (statement.OnDatabase x)) ∙ refused_with number s m x both.free ProgramLimitExceeded both.may_here tells.0,
      not_told number s k x both.free ProgramLimitExceeded both.there both.runs_there both.may_there (exec (seen k number) (users_of s) x) refl tells.1,
    )))
    size_tells x both (inr tells) = inl (by_size (executes number (Ok (statement.OnDatabase x))) (inr (
      answer_of number s k both.there both.runs_there (Ok (statement.OnDatabase x)) ∙ refused_with number s k x both.free ProgramLimitExceeded both.may_there tells.0,
      not_told number s m x both.free ProgramLimitExceeded both.here both.runs_here both.may_here (exec (seen m number) (users_of s) x) refl tells.1,
    )))

    defining_at : (x : DefiningStatement) → MayBoth number s m k (on_database.Defining x) → (r : Result Effect SqlState) → exec (seen m number) (users_of s) (on_database.Defining x) ≡ r → Ends (on_database.Defining x)
    defining_at x both (Err code) is = inr (both_refuse (exec (seen m number) (users_of s) (on_database.Defining x)) (exec (seen k number) (users_of s) (on_database.Defining x)) code is
        (refused_at (seen m number) (seen k number) (users_of s) may rel.same.definitions x code is))
    defining_at x both (Ok p) is = inl (by_definition x (λ refusal.
        exec_answers (seen m number) (users_of s) (on_database.Defining x) p is refusal.0
        (sym (answer_of number s m both.here both.runs_here (Ok (statement.OnDatabase (on_database.Defining x))) ∙ carried_with number s m (on_database.Defining x) both.free p both.may_here is) ∙ refusal.1)))

    ends : (x : DatabaseStatement) → MayBoth number s m k x → Ends x
    ends (on_database.Defining x) both = defining_at x both (exec (seen m number) (users_of s) (on_database.Defining x)) refl
    ends (on_database.OverRows x) both = elim (sizes_alone hidden (users_of s) (seen m number) (seen k number) x (rel.from_all (users_of s) may) rel.same on_m on_k) [
      | inl tells ↦ size_tells (on_database.OverRows x) both tells.1
      | inr alike ↦ inr (rows_at (seen m number) (seen k number) (users_of s) x rel (exec (seen m number) (users_of s) (on_database.OverRows x)) (exec (seen k number) (users_of s) (on_database.OverRows x)) refl alike)
    ]

  pub columns_are_hidden : Hides pairs (SameButHiddenFrom hidden pairs) TellsColumns
  columns_are_hidden = record {
    definitions = λ d e r. r.same.definitions;
    turned = turned_columns;
    joined = joined_columns;
    ends = λ number s m k x both r on_m on_k may. ends number s m k r on_m on_k may x both;
  }

pub column_runs_told : runs_beside_hidden_columns
column_runs_told hidden = told_so (but_hidden hidden) TellsColumns (λ a. columns_are_hidden hidden a.pairs)
