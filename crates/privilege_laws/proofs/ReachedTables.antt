-- Statements over two databases that differ in tables that a tenant does not reach.
use Rattle.std.proofs.Common.{◌≡◌, ◌||◌, Bool, true, false, not, bytes_eq, Result, Ok, Err, refl, sym, ap, ◌∙◌, subst, inl, inr}
use Rattle.std.proofs.lemmas.Bool.{or_cases}
use Rattle.sql_types.specs.declared.state.SqlState.{SqlState}
use Rattle.sql_ast.specs.declared.statement.DatabaseStatement.{DatabaseStatement}
use Rattle.sql_ast.specs.declared.statement.DatabaseStatement.TheVariants as on_database
use Rattle.sql_ast.specs.declared.statement.DefiningStatement.{DefiningStatement}
use Rattle.sql_ast.specs.declared.statement.RowStatement.{RowStatement}
use Rattle.sql_ast.specs.declared.statement.RowStatement.TheVariants as over_rows
use Rattle.expressions.specs.Meaning.{UserNames}
use Rattle.abstract_database.specs.Lists.{TheName}
use Rattle.abstract_database.specs.Database.{Database, rows_named, without_rows}
use Rattle.abstract_database.specs.Privileges.{has_some_privilege}
use Rattle.abstract_database.specs.Statements.{Effect, UserPair, as_seen, define, exec}
use Rattle.abstract_database.specs.Machine.{users_of, seen}
use Rattle.abstract_database.proofs.ListLemmas.{bytes_same, same_bytes}
use Rattle.abstract_database.proofs.ResultLemmas.{ok_inside}
use Rattle.database_laws.specs.Closed.{DifferInClosed, EndBesideClosed}
use Rattle.database_laws.specs.HiddenRuns.{MayActAs}
use Rattle.database_laws.proofs.StageLemmas.{bared}
use Rattle.database_laws.proofs.ConcernLemmas.{inserted_in_its_table, updated_in_its_table, deleted_in_its_table}
use Rattle.database_laws.proofs.AllAlikeRows.{select_leaves}
use Rattle.database_laws.proofs.ClosedLemmas.{closed_are_untold}
use Rattle.privilege_laws.specs.Related.{NothingTells, EndRelated}
use Rattle.privilege_laws.specs.Reached.{IsReachedTable, SameReachedRows}
use Rattle.privilege_laws.proofs.Reach.{reached_there, reached_itself}
use Rattle.privilege_laws.proofs.DefiningAlike.{Stay, are_as_before, are_none, carried, BareAlike, bare_alike}
use Rattle.privilege_laws.proofs.Moves.{Hides}

-- ---- a statement over rows leaves the definitions

pub rows_keep_definitions : (db : Database) (pair : UserPair) (x : RowStatement) (a : Effect) → exec db pair (on_database.OverRows x) ≡ Ok a → without_rows a.database ≡ without_rows db
rows_keep_definitions db pair (over_rows.Insert s) a is = (inserted_in_its_table db (as_seen pair db) s a is).definitions
rows_keep_definitions db pair (over_rows.Update s) a is = (updated_in_its_table db (as_seen pair db) s a is).definitions
rows_keep_definitions db pair (over_rows.Delete s) a is = (deleted_in_its_table db (as_seen pair db) s a is).definitions
rows_keep_definitions db pair (over_rows.Select s) a is = ap without_rows (select_leaves db (as_seen pair db) s a is)

not_closed : (b : Bool) → not b ≡ false → b ≡ true
not_closed true e = refl
not_closed false e = cc

or_closed : (b c : Bool) → not (b || c) ≡ true → c ≡ false
or_closed true c e = cc
or_closed false true e = cc
or_closed false false e = refl

named_open : (b c : Bool) → b ≡ true → not (b || c) ≡ false
named_open true c e = refl
named_open false c e = cc

module _ (pairs : UserPair → Bool) (d e : Database) (alike : SameReachedRows pairs d e) (pair : UserPair) (may : MayActAs d pairs pair) where
  -- ---- over rows

  -- all tables but this one and those on which the role has a privilege
  abbrev but : TheName → TheName → Bool
  but name other = not (bytes_eq other name || has_some_privilege d pair.current other)

  differ_but : (name : TheName) → IsReachedTable pairs d name → DifferInClosed (but name) d e
  differ_but name r = record {
    definitions = alike.definitions;
    rows = λ other open_ones. elim (or_cases (bytes_eq other name) (has_some_privilege d pair.current other) (not_closed (bytes_eq other name || has_some_privilege d pair.current other) open_ones)) [
      | inl same ↦ subst (λ (n : TheName). rows_named d n ≡ rows_named e n) (sym (bytes_same other name same)) (alike.rows name r)
      | inr has ↦ alike.rows other (reached_itself pairs d pair may other has)
    ];
  }

  ends_but : (x : RowStatement) (name : TheName) → IsReachedTable pairs d name → EndBesideClosed (but name) (exec d pair (on_database.OverRows x)) (exec e pair (on_database.OverRows x))
  ends_but x name r =
      closed_are_untold (but name) pair d e x (λ other is. or_closed (bytes_eq other name) (has_some_privilege d pair.current other) is) (differ_but name r)

  -- those on which the role has no privilege
  abbrev shut : TheName → Bool
  shut other = not (has_some_privilege d pair.current other)

  not_had : (b : Bool) → not b ≡ true → b ≡ false
  not_had true e = cc
  not_had false e = refl

  ends_beside : (x : RowStatement) → EndBesideClosed shut (exec d pair (on_database.OverRows x)) (exec e pair (on_database.OverRows x))
  ends_beside x = closed_are_untold shut pair d e x (λ other is. not_had (has_some_privilege d pair.current other) is) (record {
    definitions = alike.definitions;
    rows = λ other open_ones. alike.rows other (reached_itself pairs d pair may other (not_closed (has_some_privilege d pair.current other) open_ones));
  })

  over_rows_at : (x : RowStatement) (r k : Result Effect SqlState) → exec d pair (on_database.OverRows x) ≡ r → exec e pair (on_database.OverRows x) ≡ k → EndBesideClosed shut r k → EndRelated (SameReachedRows pairs) r k
  over_rows_at x (Ok a) (Ok b) on_d on_e both = (
    both.0,
    record {
      definitions = both.1.definitions;
      rows = λ name r.
          let was : IsReachedTable pairs d name = reached_there pairs a.database d (rows_keep_definitions d pair x a on_d) name r in
          let ends : EndBesideClosed (but name) (Ok a) (Ok b) = subst (λ (q : Result Effect SqlState). EndBesideClosed (but name) q (Ok b)) on_d (subst (λ (q : Result Effect SqlState). EndBesideClosed (but name) (exec d pair (on_database.OverRows x)) q) on_e (ends_but x name was)) in
          ends.1.rows name (named_open (bytes_eq name name) (has_some_privilege d pair.current name) (same_bytes name name refl));
    },
  )
  over_rows_at x (Err c) (Err k) on_d on_e both = both
  over_rows_at x (Ok a) (Err k) on_d on_e both = both
  over_rows_at x (Err c) (Ok b) on_d on_e both = both

  over_rows_so : (x : RowStatement) → EndRelated (SameReachedRows pairs) (exec d pair (on_database.OverRows x)) (exec e pair (on_database.OverRows x))
  over_rows_so x = over_rows_at x (exec d pair (on_database.OverRows x)) (exec e pair (on_database.OverRows x)) refl refl (ends_beside x)

  -- ---- definitions

  abbrev users : UserNames
  users = as_seen pair d

  stays : (a b : Database) (name : TheName) → IsReachedTable pairs a name → Stay pairs d e alike.definitions pair may a b name → rows_named a name ≡ rows_named b name
  stays a b name r (are_as_before reached rows) = rows (alike.rows name (reached r))
  stays a b name r (are_none on_d on_e) = on_d ∙ sym on_e

  ended_at : (x : DefiningStatement) (r k : Result Effect SqlState) → define d users x ≡ r → define e users x ≡ k → BareAlike pairs d e alike.definitions pair may r k → EndRelated (SameReachedRows pairs) r k
  ended_at x (Ok p) (Ok q) on_d on_e bare =
      let same = ok_inside (bared p) (bared q) bare in
      (ap (λ (y : Effect). y.answer) same, record { definitions = ap (λ (y : Effect). y.database) same; rows = λ name r. stays p.database q.database name r (carried pairs d e alike.definitions pair may x p q on_d on_e name) })
  ended_at x (Err i) (Err j) on_d on_e bare = cc
  ended_at x (Ok p) (Err j) on_d on_e bare = cc
  ended_at x (Err i) (Ok q) on_d on_e bare = cc

  defined_so : (x : DefiningStatement) → EndRelated (SameReachedRows pairs) (exec d pair (on_database.Defining x)) (exec e pair (on_database.Defining x))
  defined_so x =
      subst (λ (u : UserNames). EndRelated (SameReachedRows pairs) (define d users x) (define e u x)) (ap (λ (db : Database). as_seen pair db) alike.definitions)
      (ended_at x (define d users x) (define e users x) refl refl (bare_alike pairs d e alike.definitions pair may x))

  ends_so : (x : DatabaseStatement) → EndRelated (SameReachedRows pairs) (exec d pair x) (exec e pair x)
  ends_so (on_database.OverRows x) = over_rows_so x
  ends_so (on_database.Defining x) = defined_so x

-- ---- the relation hides the tables that are not reached

pub tables_are_hidden : (pairs : UserPair → Bool) → Hides pairs (SameReachedRows pairs) NothingTells
tables_are_hidden pairs = record {
  definitions = λ d e same. same.definitions;
  turned = λ d e same. record { definitions = sym same.definitions; rows = λ name r. sym (same.rows name (reached_there pairs e d (sym same.definitions) name r)) };
  joined = λ d e f same next. record { definitions = same.definitions ∙ next.definitions; rows = λ name r. same.rows name r ∙ next.rows name (reached_there pairs d e same.definitions name r) };
  ends = λ number s m k x both same on_m on_k may. inr (ends_so pairs (seen m number) (seen k number) same (users_of s) may x);
}
