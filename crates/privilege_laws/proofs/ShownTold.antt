-- What a tenant is told over databases that show it the same.
use Rattle.std.proofs.Common.{◌≡◌, ◌⊎◌, ℕ, Bool, true, false, Result, Ok, Err, refl, sym, ap, ◌∙◌, subst, inl, inr}
use Rattle.sql_types.specs.declared.state.SqlState.{SqlState}
use Rattle.sql_types.specs.declared.state.SqlState.TheVariants.{UniqueViolation}
use Rattle.sql_ast.specs.declared.statement.Statement.TheVariants as statement
use Rattle.sql_ast.specs.declared.statement.DatabaseStatement.{DatabaseStatement}
use Rattle.sql_ast.specs.declared.statement.DatabaseStatement.TheVariants as on_database
use Rattle.sql_ast.specs.declared.statement.DefiningStatement.{DefiningStatement}
use Rattle.sql_ast.specs.declared.statement.RowStatement.{RowStatement}
use Rattle.expressions.specs.Meaning.{UserNames}
use Rattle.expressions.specs.Stages.{◌>>=◌}
use Rattle.abstract_database.specs.Lists.{drop_where}
use Rattle.abstract_database.specs.Database.{TableOf, Database, rows_named, without_rows}
use Rattle.abstract_database.specs.Statements.{Effect, UserPair, as_seen, exec, Checked, checked, performed}
use Rattle.abstract_database.specs.Machine.{Session, executes, Machine, users_of, seen}
use Rattle.database_laws.specs.Invariants.{IsSound}
use Rattle.database_laws.specs.Stages.{apart_from_rows}
use Rattle.database_laws.specs.Worlds.{is_silent, apparent_rows}
use Rattle.database_laws.specs.HiddenRuns.{MayActAs, goes_by_visible, may_unhide, IsException, by_key, by_count, by_definition}
use Rattle.database_laws.proofs.StatementLemmas.{exec_answers, staged, reads_no_rows}
use Rattle.privilege_laws.specs.Related.{EndRelated}
use Rattle.privilege_laws.specs.Reached.{IsReachedTable, SameReachedRows}
use Rattle.privilege_laws.specs.Shown.{SameShownRows, shown_to, reached_rows_are_shown, apparent_rows_are_shown, reached_machines_are_shown, alike_machines_are_shown, runs_over_shown_rows}
use Rattle.privilege_laws.proofs.Reach.{reached_there}
use Rattle.privilege_laws.proofs.ShownRows.{acts_in, named_in, rows_shown, defined_shown, defined_refused}
use Rattle.privilege_laws.proofs.Moves.{Hides, MayBoth, answer_of, refused_with, carried_with, not_told}
use Rattle.privilege_laws.proofs.ToldRelated.{told_so}

-- ---- the relation

turned_rows : (pairs : UserPair → Bool) (d e : Database) → SameShownRows pairs d e → SameShownRows pairs e d
turned_rows pairs d e same = record {
  definitions = sym same.definitions;
  rows = λ pair acts t named r.
      subst (λ (u : UserNames). apparent_rows e u t ≡ apparent_rows d u t) (ap (λ (x : Database). as_seen pair x) same.definitions)
      (sym (same.rows pair (acts_in pairs e d (sym same.definitions) pair acts) t (named_in d e same.definitions t.name ∙ named) (reached_there pairs e d (sym same.definitions) t.name r)));
}

joined_rows : (pairs : UserPair → Bool) (d e f : Database) → SameShownRows pairs d e → SameShownRows pairs e f → SameShownRows pairs d f
joined_rows pairs d e f same next = record {
  definitions = same.definitions ∙ next.definitions;
  rows = λ pair acts t named r.
      same.rows pair acts t named r
      ∙ subst (λ (u : UserNames). apparent_rows e u t ≡ apparent_rows f u t) (sym (ap (λ (x : Database). as_seen pair x) same.definitions))
      (next.rows pair (acts_in pairs d e same.definitions pair acts) t (sym (named_in d e same.definitions t.name) ∙ named) (reached_there pairs d e same.definitions t.name r));
}

pub from_reached : reached_rows_are_shown
from_reached pairs d e same = record {
  definitions = same.definitions;
  rows = λ pair acts t named r. apparent_by pairs d e same pair t r;
} where
  apparent_by : (pairs : UserPair → Bool) (d e : Database) → SameReachedRows pairs d e → (pair : UserPair) (t : TableOf) → IsReachedTable pairs d t.name → apparent_rows d (as_seen pair d) t ≡ apparent_rows e (as_seen pair d) t
  apparent_by pairs d e same pair t r =
      ap (drop_where (is_silent d (as_seen pair d) t)) (same.rows t.name r)
      ∙ ap (λ (x : Database). drop_where (is_silent x (as_seen pair d) t) (rows_named e t.name)) same.definitions

pub from_apparent : apparent_rows_are_shown
from_apparent pairs d e same = record { definitions = same.definitions; rows = λ pair acts t named r. (same.rows pair acts).rows t named }

pub machines_reached : reached_machines_are_shown
machines_reached a m k st = record {
  sessions = st.sessions;
  opened_for = st.opened_for;
  stopped = st.stopped;
  lock = st.lock;
  committed = from_reached a.pairs m.committed k.committed st.committed;
  seen = λ number own. from_reached a.pairs (seen m number) (seen k number) (st.seen number own);
}

pub machines_alike : alike_machines_are_shown
machines_alike a m k st = record {
  sessions = st.sessions;
  opened_for = st.opened_for;
  stopped = st.stopped;
  lock = st.lock;
  committed = from_apparent a.pairs m.committed k.committed st.committed;
  seen = λ number own. from_apparent a.pairs (seen m number) (seen k number) (st.seen number own);
}

-- ---- a statement: an exception, or one end

is_key_or_not : (code : SqlState) → (code ≡ UniqueViolation) ⊎ (code ≡ UniqueViolation → ⊥)
is_key_or_not UniqueViolation = inl refl
is_key_or_not _ = inr (λ e. cc)

key_or_not : (r : Result Effect SqlState) → (r ≡ Err UniqueViolation) ⊎ (r ≡ Err UniqueViolation → ⊥)
key_or_not (Ok p) = inr (λ e. cc)
key_or_not (Err code) = elim (is_key_or_not code) [ inl is ↦ inl (ap (λ (c : SqlState). Err c) is) | inr other ↦ inr (λ e. other (code_of code e)) ] where
  code_of : (c : SqlState) → ◌≡◌ {A = Result Effect SqlState} (Err c) (Err UniqueViolation) → c ≡ UniqueViolation
  code_of c e = cc

module _ (pairs : UserPair → Bool) (number : ℕ) (s : Session) (m k : Machine) where
  abbrev R : Database → Database → Type 0
  R = SameShownRows pairs

  abbrev one : DatabaseStatement → Result Effect SqlState
  one x = exec (seen m number) (users_of s) x

  abbrev two : DatabaseStatement → Result Effect SqlState
  two x = exec (seen k number) (users_of s) x

  abbrev Ends : DatabaseStatement → Type 0
  Ends x = IsException number m k (executes number (Ok (statement.OnDatabase x))) ⊎ EndRelated R (one x) (two x)

  both_refuse : (r q : Result Effect SqlState) (code : SqlState) → r ≡ Err code → q ≡ Err code → EndRelated R r q
  both_refuse r q code e f = subst (λ (x : Result Effect SqlState). EndRelated R x q) (sym e) (subst (λ (y : Result Effect SqlState). EndRelated R (Err code) y) (sym f) refl)

  module _ (same : R (seen m number) (seen k number)) (on_m : IsSound (seen m number)) (on_k : IsSound (seen k number)) (may : MayActAs (seen m number) pairs (users_of s)) where
    by_visible : (x : RowStatement) → MayBoth number s m k (on_database.OverRows x) → goes_by_visible (seen m number) s.role x ≡ true → Ends (on_database.OverRows x)
    by_visible x both told = elim (key_or_not (one (on_database.OverRows x))) [
      | inl key ↦ elim (key_or_not (two (on_database.OverRows x))) [
        | inl there ↦ inr (both_refuse (one (on_database.OverRows x)) (two (on_database.OverRows x)) UniqueViolation key there)
        | inr none ↦ inl (by_key (executes number (Ok (statement.OnDatabase (on_database.OverRows x)))) (inl (
          answer_of number s m both.here both.runs_here (Ok (statement.OnDatabase (on_database.OverRows x))) ∙ refused_with number s m (on_database.OverRows x) both.free UniqueViolation both.may_here key,
          not_told number s k (on_database.OverRows x) both.free UniqueViolation both.there both.runs_there both.may_there (two (on_database.OverRows x)) refl none,
        )))
      ]
      | inr other ↦ elim (key_or_not (two (on_database.OverRows x))) [
        | inl key ↦ inl (by_key (executes number (Ok (statement.OnDatabase (on_database.OverRows x)))) (inr (
          answer_of number s k both.there both.runs_there (Ok (statement.OnDatabase (on_database.OverRows x))) ∙ refused_with number s k (on_database.OverRows x) both.free UniqueViolation both.may_there key,
          not_told number s m (on_database.OverRows x) both.free UniqueViolation both.here both.runs_here both.may_here (one (on_database.OverRows x)) refl other,
        )))
        | inr none ↦ inr (rows_shown pairs (seen m number) (seen k number) same on_m on_k (users_of s) may x told other none)
      ]
    ]

    -- one that does not go by visible rows is refused alike where its checks refuse it
    unchecked : (x : DatabaseStatement) (code : SqlState) → checked (seen m number) (as_seen (users_of s) (seen m number)) x ≡ Err code → two x ≡ Err code
    unchecked x code is =
        let users = as_seen (users_of s) (seen m number) in
        let bare_m : checked (without_rows (seen m number)) users x ≡ Err code = reads_no_rows (seen m number) users x ∙ ap (λ (r : Result Checked SqlState). r >>= λ c. Ok (apart_from_rows c)) is in
        let bare_k : (checked (seen k number) users x >>= λ c. Ok (apart_from_rows c)) ≡ Err code = sym (reads_no_rows (seen k number) users x) ∙ ap (λ (db : Database). checked db users x) (sym same.definitions) ∙ bare_m in
        let of_k : checked (seen k number) users x ≡ Err code = refused_bare (checked (seen k number) users x) bare_k in
        let users_same : users ≡ as_seen (users_of s) (seen k number) = ap (λ (db : Database). as_seen (users_of s) db) same.definitions in
        staged (seen k number) (users_of s) x ∙ ap (λ (r : Result Checked SqlState). r >>= performed (seen k number) (as_seen (users_of s) (seen k number))) (ap (λ (u : UserNames). checked (seen k number) u x) (sym users_same) ∙ of_k)
      where
        refused_bare : (r : Result Checked SqlState) → (r >>= λ c. Ok (apart_from_rows c)) ≡ Err code → r ≡ Err code
        refused_bare (Err i) e = cc
        refused_bare (Ok c) e = cc

    by_checks : (x : RowStatement) → MayBoth number s m k (on_database.OverRows x) → goes_by_visible (seen m number) s.role x ≡ false → (r : Result Checked SqlState) → checked (seen m number) (as_seen (users_of s) (seen m number)) (on_database.OverRows x) ≡ r → Ends (on_database.OverRows x)
    by_checks x both told (Ok c) is = inl (by_count s x c both.here told is)
    by_checks x both told (Err code) is =
        inr (both_refuse (one (on_database.OverRows x)) (two (on_database.OverRows x)) code
        (staged (seen m number) (users_of s) (on_database.OverRows x) ∙ ap (λ (r : Result Checked SqlState). r >>= performed (seen m number) (as_seen (users_of s) (seen m number))) is) (unchecked (on_database.OverRows x) code is))

    over_rows : (x : RowStatement) → MayBoth number s m k (on_database.OverRows x) → (b : Bool) → goes_by_visible (seen m number) s.role x ≡ b → Ends (on_database.OverRows x)
    over_rows x both true told = by_visible x both told
    over_rows x both false told = by_checks x both told (checked (seen m number) (as_seen (users_of s) (seen m number)) (on_database.OverRows x)) refl

    unhiding : (x : DefiningStatement) → MayBoth number s m k (on_database.Defining x) → may_unhide x ≡ true → (r : Result Effect SqlState) → one (on_database.Defining x) ≡ r → Ends (on_database.Defining x)
    unhiding x both told (Err code) is = inr (defined_refused pairs (seen m number) (seen k number) same on_m on_k (users_of s) may x code is)
    unhiding x both told (Ok p) is = inl (by_definition x told (λ refusal.
        exec_answers (seen m number) (users_of s) (on_database.Defining x) p is refusal.0
        (sym (answer_of number s m both.here both.runs_here (Ok (statement.OnDatabase (on_database.Defining x))) ∙ carried_with number s m (on_database.Defining x) both.free p both.may_here is) ∙ refusal.1)))

    defining : (x : DefiningStatement) → MayBoth number s m k (on_database.Defining x) → (b : Bool) → may_unhide x ≡ b → Ends (on_database.Defining x)
    defining x both true told = unhiding x both told (one (on_database.Defining x)) refl
    defining x both false told = inr (defined_shown pairs (seen m number) (seen k number) same on_m on_k (users_of s) may x told)

    ends : (x : DatabaseStatement) → MayBoth number s m k x → Ends x
    ends (on_database.OverRows x) both = over_rows x both (goes_by_visible (seen m number) s.role x) refl
    ends (on_database.Defining x) both = defining x both (may_unhide x) refl

pub shown_hides : (pairs : UserPair → Bool) → Hides pairs (SameShownRows pairs) IsException
shown_hides pairs = record {
  definitions = λ d e same. same.definitions;
  turned = turned_rows pairs;
  joined = joined_rows pairs;
  ends = λ number s m k x both same on_m on_k may. ends pairs number s m k same on_m on_k may x both;
}

pub shown_told : runs_over_shown_rows
shown_told = told_so shown_to IsException (λ a. shown_hides a.pairs)
