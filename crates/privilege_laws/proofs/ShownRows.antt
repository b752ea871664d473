-- Statements over two databases that show a tenant the same.
use Rattle.std.proofs.Common.{◌≡◌, ◌||◌, Bool, true, false, not, bytes_eq, Some, Result, Ok, Err, refl, sym, ap, ◌∙◌, subst, inl, inr}
use Rattle.std.proofs.lemmas.Bool.{or_cases}
use Rattle.sql_types.specs.declared.state.SqlState.{SqlState}
use Rattle.sql_types.specs.declared.state.SqlState.TheVariants.{UniqueViolation}
use Rattle.sql_ast.specs.declared.statement.DatabaseStatement.{DatabaseStatement}
use Rattle.sql_ast.specs.declared.statement.DatabaseStatement.TheVariants as on_database
use Rattle.sql_ast.specs.declared.statement.DefiningStatement.{DefiningStatement}
use Rattle.sql_ast.specs.declared.statement.RowStatement.{RowStatement}
use Rattle.expressions.specs.Meaning.{UserNames}
use Rattle.expressions.specs.Stages.{◌>>=◌}
use Rattle.abstract_database.specs.Lists.{TheName, drop_where}
use Rattle.abstract_database.specs.Database.{TableOf, Database, definition_named, rows_named, without_rows}
use Rattle.abstract_database.specs.Roles.{may_set_role}
use Rattle.abstract_database.specs.Privileges.{has_some_privilege}
use Rattle.abstract_database.specs.Statements.{Effect, UserPair, as_seen, define, exec, exec_as}
use Rattle.abstract_database.proofs.ListLemmas.{bytes_same, same_bytes}
use Rattle.abstract_database.proofs.ResultLemmas.{ok_inside}
use Rattle.database_laws.specs.Closed.{EndBesideClosed}
use Rattle.database_laws.specs.Invariants.{IsSound}
use Rattle.database_laws.specs.Worlds.{is_silent, apparent_rows, SameApparentRows}
use Rattle.database_laws.specs.HiddenRuns.{MayActAs, SameApparentRowsForPairs, goes_by_visible, may_unhide}
use Rattle.database_laws.proofs.WorldLemmas.{definitions_alone}
use Rattle.database_laws.proofs.StageLemmas.{bared}
use Rattle.database_laws.proofs.ClosedLemmas.{closed_are_untold}
use Rattle.database_laws.proofs.AllAlikeRows.{EndAll, rows_end}
use Rattle.database_laws.proofs.AllAlikeDefinitions.{definition_ends}
use Rattle.privilege_laws.specs.Related.{EndRelated}
use Rattle.privilege_laws.specs.Reached.{IsReachedTable}
use Rattle.privilege_laws.specs.Shown.{SameShownRows}
use Rattle.privilege_laws.proofs.Reach.{reached_there, reached_itself}
use Rattle.privilege_laws.proofs.Mixed.{mixed, bare_mixed, rows_of_first, rows_of_second, differ_there, sound_mixed}
use Rattle.privilege_laws.proofs.DefiningAlike.{Stay, are_as_before, are_none, carried, bare_alike}
use Rattle.privilege_laws.proofs.ReachedTables.{rows_keep_definitions}

-- ---- what looks the same through a database between

-- a database between: the same rows of this name as the first, and it looks like the second
abbrev Between : (UserPair → Bool) → TheName → Database → Database → Type 0
Between pairs name p q = (m : Database) × (without_rows p ≡ without_rows m) × (rows_named p name ≡ rows_named m name) × SameApparentRowsForPairs pairs m q

pub named_in : (p m : Database) → without_rows p ≡ without_rows m → (name : TheName) → definition_named p name ≡ definition_named m name
named_in p m same name = definitions_alone p name ∙ ap (λ (x : Database). definition_named x name) same ∙ sym (definitions_alone m name)

pub acts_in : (pairs : UserPair → Bool) (p m : Database) → without_rows p ≡ without_rows m → (pair : UserPair) → MayActAs p pairs pair → MayActAs m pairs pair
acts_in pairs p m same pair acts = (acts.0, sym (ap (λ (x : Database). may_set_role x pair.session pair.current) same) ∙ acts.1)

shown_between : (pairs : UserPair → Bool) (p q : Database) (t : TableOf) → Between pairs t.name p q → (pair : UserPair) → MayActAs p pairs pair → definition_named p t.name ≡ Some t →
    apparent_rows p (as_seen pair p) t ≡ apparent_rows q (as_seen pair p) t
shown_between pairs p q t (m, same, rows, look) pair acts named =
    ap (drop_where (is_silent p (as_seen pair p) t)) rows
    ∙ ap (λ (x : Database). drop_where (is_silent x (as_seen pair p) t) (rows_named m t.name)) same
    ∙ subst (λ (u : UserNames). apparent_rows m u t ≡ apparent_rows q u t) (sym (ap (λ (x : Database). as_seen pair x) same))
    ((look.rows pair (acts_in pairs p m same pair acts)).rows t (sym (named_in p m same t.name) ∙ named))

either : (b c : Bool) → not (b || c) ≡ false → (b || c) ≡ true
either true c e = refl
either false true e = refl
either false false e = cc

or_closed : (b c : Bool) → not (b || c) ≡ true → c ≡ false
or_closed true c e = cc
or_closed false true e = cc
or_closed false false e = refl

module _ (pairs : UserPair → Bool) (d e : Database) (alike : SameShownRows pairs d e) (on_d : IsSound d) (on_e : IsSound e) (pair : UserPair) (may : MayActAs d pairs pair) where
  -- these names are reached, beside those on which the role has a privilege
  module _ (also : TheName → Bool) (reach : (name : TheName) → also name ≡ true → IsReachedTable pairs d name) where
    abbrev beside : TheName → Bool
    beside name = not (also name || has_some_privilege d pair.current name)

    abbrev middle : Database
    middle = mixed beside d e

    bare : without_rows d ≡ without_rows middle
    bare = sym (bare_mixed beside d e alike.definitions)

    reached_in : (name : TheName) → beside name ≡ false → IsReachedTable pairs d name
    reached_in name is = elim (or_cases (also name) (has_some_privilege d pair.current name) (either (also name) (has_some_privilege d pair.current name) is)) [
      | inl one ↦ reach name one
      | inr has ↦ reached_itself pairs d pair may name has
    ]

    look_at : (v : UserPair) → MayActAs d pairs v → (t : TableOf) → definition_named d t.name ≡ Some t → (b : Bool) → beside t.name ≡ b → apparent_rows middle (as_seen v d) t ≡ apparent_rows e (as_seen v d) t
    look_at v acts t named true is =
        ap (drop_where (is_silent middle (as_seen v d) t)) (rows_of_second beside d e alike.definitions t.name is)
        ∙ ap (λ (x : Database). drop_where (is_silent x (as_seen v d) t) (rows_named e t.name)) (sym bare ∙ alike.definitions)
    look_at v acts t named false is =
        ap (drop_where (is_silent middle (as_seen v d) t)) (rows_of_first beside d e alike.definitions t.name is)
        ∙ ap (λ (x : Database). drop_where (is_silent x (as_seen v d) t) (rows_named d t.name)) (sym bare)
        ∙ alike.rows v acts t named (reached_in t.name is)

    look : SameApparentRowsForPairs pairs middle e
    look = record {
      definitions = sym bare ∙ alike.definitions;
      rows = λ v acts.
          let acts_d = acts_in pairs middle d (sym bare) v acts in
          subst (λ (u : UserNames). SameApparentRows u middle e) (ap (λ (x : Database). as_seen v x) bare)
          (record { definitions = sym bare ∙ alike.definitions; rows = λ t named. look_at v acts_d t (named_in d middle bare t.name ∙ named) (beside t.name) refl });
    }

    may_middle : MayActAs middle pairs pair
    may_middle = acts_in pairs d middle bare pair may

    -- over rows: over the middle as over the first, and then as over the second
    first_half : (x : RowStatement) → EndBesideClosed beside (exec d pair (on_database.OverRows x)) (exec middle pair (on_database.OverRows x))
    first_half x = closed_are_untold beside pair d middle x (λ name is. or_closed (also name) (has_some_privilege d pair.current name) is) (differ_there beside d e alike.definitions)

    users_alike : (x : DatabaseStatement) → exec_as e (as_seen pair middle) x ≡ exec e pair x
    users_alike x = ap (λ (db : Database). exec_as e (as_seen pair db) x) (sym bare ∙ alike.definitions)

    abbrev NoKey : Result Effect SqlState → Type 0
    NoKey r = r ≡ Err UniqueViolation → ⊥

    no_key_middle : (x : RowStatement) → NoKey (exec d pair (on_database.OverRows x)) → NoKey (exec middle pair (on_database.OverRows x))
    no_key_middle x none is = at (exec d pair (on_database.OverRows x)) refl (subst (λ (r : Result Effect SqlState). EndBesideClosed beside (exec d pair (on_database.OverRows x)) r) is (first_half x)) where
      at : (r : Result Effect SqlState) → exec d pair (on_database.OverRows x) ≡ r → EndBesideClosed beside r (Err UniqueViolation) → ⊥
      at (Ok p) e both = both
      at (Err c) e both = none (e ∙ ap (λ (i : SqlState). Err i) both)

    second_half : (x : RowStatement) → goes_by_visible d pair.current x ≡ true → NoKey (exec d pair (on_database.OverRows x)) → NoKey (exec e pair (on_database.OverRows x)) →
        EndAll pairs (exec middle pair (on_database.OverRows x)) (exec e pair (on_database.OverRows x))
    second_half x told none none_there =
        subst (λ (r : Result Effect SqlState). EndAll pairs (exec middle pair (on_database.OverRows x)) r) (users_alike (on_database.OverRows x))
        (rows_end pairs middle e look (sound_mixed beside d e alike.definitions on_d on_e) on_e pair may_middle x (sym (ap (λ (db : Database). goes_by_visible db pair.current x) bare) ∙ told)
        (no_key_middle x none) (λ is. none_there (sym (users_alike (on_database.OverRows x)) ∙ is)))

    -- definitions: the same
    second_half_defining : (x : DefiningStatement) → may_unhide x ≡ false → EndAll pairs (exec middle pair (on_database.Defining x)) (exec e pair (on_database.Defining x))
    second_half_defining x hides =
        subst (λ (r : Result Effect SqlState). EndAll pairs (exec middle pair (on_database.Defining x)) r) (users_alike (on_database.Defining x))
        (definition_ends pairs middle e look pair may_middle x (λ p is. hides))

  -- ---- over rows

  abbrev none_also : TheName → Bool
  none_also name = false

  no_reach : (name : TheName) → none_also name ≡ true → IsReachedTable pairs d name
  no_reach name is = let contrary : false ≡ true = is in cc

  abbrev this_also : TheName → TheName → Bool
  this_also own name = bytes_eq name own

  this_reach : (own : TheName) → IsReachedTable pairs d own → (name : TheName) → this_also own name ≡ true → IsReachedTable pairs d name
  this_reach own r name is = subst (IsReachedTable pairs d) (sym (bytes_same name own is)) r

  this_open : (own : TheName) (r : IsReachedTable pairs d own) → beside (this_also own) (this_reach own r) own ≡ false
  this_open own r = at (bytes_eq own own) (has_some_privilege d pair.current own) (same_bytes own own refl) where
    at : (b c : Bool) → b ≡ true → not (b || c) ≡ false
    at true c is = refl
    at false c is = cc

  abbrev AnsweredAlike : Result Effect SqlState → Result Effect SqlState → Type 0
  AnsweredAlike (Ok p) (Ok q) = (p.answer ≡ q.answer) × (without_rows p.database ≡ without_rows q.database)
  AnsweredAlike (Err c) (Err k) = c ≡ k
  AnsweredAlike (Ok p) (Err k) = ⊥
  AnsweredAlike (Err c) (Ok q) = ⊥

  through : (closed : TheName → Bool) (r b k : Result Effect SqlState) → EndBesideClosed closed r b → EndAll pairs b k → AnsweredAlike r k
  through closed (Ok p) (Ok m) (Ok q) first second = (first.0 ∙ second.0, first.1.definitions ∙ second.1.definitions)
  through closed (Err c) (Err i) (Err k) first second = first ∙ second
  through closed (Ok p) (Ok m) (Err k) first second = second
  through closed (Err c) (Err i) (Ok q) first second = second
  through closed (Ok p) (Err i) k first second = absurd first
  through closed (Err c) (Ok m) k first second = absurd first

  module _ (x : RowStatement) (told : goes_by_visible d pair.current x ≡ true) (none : exec d pair (on_database.OverRows x) ≡ Err UniqueViolation → ⊥) (none_there : exec e pair (on_database.OverRows x) ≡ Err UniqueViolation → ⊥) where
    abbrev stmt : DatabaseStatement
    stmt = on_database.OverRows x

    between_rows : (p q : Effect) → exec d pair stmt ≡ Ok p → exec e pair stmt ≡ Ok q → (name : TheName) → IsReachedTable pairs d name → Between pairs name p.database q.database
    between_rows p q is_d is_e name r = at (exec (middle (this_also name) (this_reach name r)) pair stmt)
        (subst (λ (k : Result Effect SqlState). EndBesideClosed (beside (this_also name) (this_reach name r)) k (exec (middle (this_also name) (this_reach name r)) pair stmt)) is_d (first_half (this_also name) (this_reach name r) x))
        (subst (λ (k : Result Effect SqlState). EndAll pairs (exec (middle (this_also name) (this_reach name r)) pair stmt) k) is_e (second_half (this_also name) (this_reach name r) x told none none_there)) where
          at : (b : Result Effect SqlState) → EndBesideClosed (beside (this_also name) (this_reach name r)) (Ok p) b → EndAll pairs b (Ok q) → Between pairs name p.database q.database
          at (Ok m) first second = (m.database, first.1.definitions, first.1.rows name (this_open name r), second.1)
          at (Err c) first second = absurd first

    rows_at : (r k : Result Effect SqlState) → exec d pair stmt ≡ r → exec e pair stmt ≡ k → AnsweredAlike r k → EndRelated (SameShownRows pairs) r k
    rows_at (Ok p) (Ok q) is_d is_e both = (
      both.0,
      record {
        definitions = both.1;
        rows = λ v acts t named r.
            shown_between pairs p.database q.database t (between_rows p q is_d is_e t.name (reached_there pairs p.database d (rows_keep_definitions d pair x p is_d) t.name r)) v acts named;
      },
    )
    rows_at (Err c) (Err k) is_d is_e both = both
    rows_at (Ok p) (Err k) is_d is_e both = both
    rows_at (Err c) (Ok q) is_d is_e both = both

    pub rows_shown : EndRelated (SameShownRows pairs) (exec d pair stmt) (exec e pair stmt)
    rows_shown = rows_at (exec d pair stmt) (exec e pair stmt) refl refl
        (through (beside none_also no_reach) (exec d pair stmt) (exec (middle none_also no_reach) pair stmt) (exec e pair stmt) (first_half none_also no_reach x) (second_half none_also no_reach x told none none_there))

  -- ---- definitions

  module _ (x : DefiningStatement) where
    abbrev defines : DatabaseStatement
    defines = on_database.Defining x

    abbrev BareAnswer : Result Effect SqlState → Result Effect SqlState → Type 0
    BareAnswer r k = (r >>= λ y. Ok (bared y)) ≡ (k >>= λ y. Ok (bared y))

    -- over a database of the same definitions
    bare_there : (f : Database) → without_rows d ≡ without_rows f → BareAnswer (exec d pair defines) (exec f pair defines)
    bare_there f same =
        subst (λ (u : UserNames). BareAnswer (define d (as_seen pair d) x) (define f u x)) (ap (λ (db : Database). as_seen pair db) same) (bare_alike pairs d f same pair may x)

    by_bare : (r k : Result Effect SqlState) → BareAnswer r k → AnsweredAlike r k
    by_bare (Ok p) (Ok q) bare = let same = ok_inside (bared p) (bared q) bare in (ap (λ (y : Effect). y.answer) same, ap (λ (y : Effect). y.database) same)
    by_bare (Err c) (Err k) bare = cc
    by_bare (Ok p) (Err k) bare = cc
    by_bare (Err c) (Ok q) bare = cc

    stays_there : (f : Database) (same : without_rows d ≡ without_rows f) (p q : Effect) → exec d pair defines ≡ Ok p → exec f pair defines ≡ Ok q → (name : TheName) → Stay pairs d f same pair may p.database q.database name
    stays_there f same p q is_d is_f name = carried pairs d f same pair may x p q is_d (ap (λ (db : Database). define f (as_seen pair db) x) same ∙ is_f) name

    same_rows : (f : Database) (same : without_rows d ≡ without_rows f) (p q : Effect) (name : TheName) → rows_named d name ≡ rows_named f name → Stay pairs d f same pair may p.database q.database name → rows_named p.database name ≡ rows_named q.database name
    same_rows f same p q name rows (are_as_before reached on) = on rows
    same_rows f same p q name rows (are_none on_p on_q) = on_p ∙ sym on_q

    module _ (hides : may_unhide x ≡ false) where
      between_defined : (p q : Effect) → exec d pair defines ≡ Ok p → exec e pair defines ≡ Ok q → (name : TheName) → IsReachedTable pairs d name → Between pairs name p.database q.database
      between_defined p q is_d is_e name r = at (exec mid pair defines) refl
          (by_bare (Ok p) (exec mid pair defines) (subst (λ (k : Result Effect SqlState). BareAnswer k (exec mid pair defines)) is_d (bare_there mid same)))
          (subst (λ (k : Result Effect SqlState). EndAll pairs (exec mid pair defines) k) is_e (second_half_defining (this_also name) (this_reach name r) x hides)) where
            mid : Database
            mid = middle (this_also name) (this_reach name r)

            same : without_rows d ≡ without_rows mid
            same = bare (this_also name) (this_reach name r)

            at : (b : Result Effect SqlState) → exec mid pair defines ≡ b → AnsweredAlike (Ok p) b → EndAll pairs b (Ok q) → Between pairs name p.database q.database
            at (Ok m) is_m first second = (m.database, first.1, same_rows mid same p m name (sym (rows_of_first (beside (this_also name) (this_reach name r)) d e alike.definitions name (this_open name r))) (stays_there mid same p m is_d is_m name), second.1)
            at (Err c) is_m first second = absurd first

      shown_after : (p q : Effect) → exec d pair defines ≡ Ok p → exec e pair defines ≡ Ok q → (v : UserPair) → MayActAs p.database pairs v → (t : TableOf) → definition_named p.database t.name ≡ Some t → IsReachedTable pairs p.database t.name →
          Stay pairs d e alike.definitions pair may p.database q.database t.name → apparent_rows p.database (as_seen v p.database) t ≡ apparent_rows q.database (as_seen v p.database) t
      shown_after p q is_d is_e v acts t named r (are_as_before reached on) = shown_between pairs p.database q.database t (between_defined p q is_d is_e t.name (reached r)) v acts named
      shown_after p q is_d is_e v acts t named r (are_none on_p on_q) =
          ap (drop_where (is_silent p.database (as_seen v p.database) t)) on_p ∙ sym (ap (drop_where (is_silent q.database (as_seen v p.database) t)) on_q)

      defined_at : (r k : Result Effect SqlState) → exec d pair defines ≡ r → exec e pair defines ≡ k → AnsweredAlike r k → EndRelated (SameShownRows pairs) r k
      defined_at (Ok p) (Ok q) is_d is_e both = (
        both.0,
        record {
          definitions = both.1;
          rows = λ v acts t named r. shown_after p q is_d is_e v acts t named r (stays_there e alike.definitions p q is_d is_e t.name);
        },
      )
      defined_at (Err c) (Err k) is_d is_e both = both
      defined_at (Ok p) (Err k) is_d is_e both = both
      defined_at (Err c) (Ok q) is_d is_e both = both

      pub defined_shown : EndRelated (SameShownRows pairs) (exec d pair defines) (exec e pair defines)
      defined_shown = defined_at (exec d pair defines) (exec e pair defines) refl refl (by_bare (exec d pair defines) (exec e pair defines) (bare_there e alike.definitions))

    -- one that may bring it to light is refused alike
    pub defined_refused : (code : SqlState) → exec d pair defines ≡ Err code → EndRelated (SameShownRows pairs) (exec d pair defines) (exec e pair defines)
    defined_refused code is = at (exec d pair defines) (exec e pair defines) is (by_bare (exec d pair defines) (exec e pair defines) (bare_there e alike.definitions)) where
      at : (r k : Result Effect SqlState) → r ≡ Err code → AnsweredAlike r k → EndRelated (SameShownRows pairs) r k
      at (Err c) (Err k) is both = both
      at (Err c) (Ok q) is both = both
      at (Ok p) k is both = cc
