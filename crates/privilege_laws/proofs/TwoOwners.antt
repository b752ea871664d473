-- Two databases that differ in the rows of another tenant's table.
use Rattle.std.proofs.Common.{◌≡◌, ◌||◌, ℕ, zero, suc, pos, Bool, true, false, cond, codes, bytes_eq, List, [], ◌∷◌, slice_get, Option, Some, None, Ok, refl, sym, ap, ◌∙◌, subst, inl, inr, Less}
use Rattle.sql_types.specs.Row.{Row, value_at}
use Rattle.sql_types.specs.declared.value.Value.TheVariants.{Int}
use Rattle.sql_types.specs.declared.answer.Answer.{Answer}
use Rattle.sql_types.specs.declared.answer.Answer.TheVariants as answer
use Rattle.sql_ast.specs.Rows.{row_cmp}
use Rattle.sql_ast.specs.Scope.{type_of}
use Rattle.sql_ast.specs.declared.role.Membership.{Membership}
use Rattle.sql_ast.specs.declared.privilege.Descriptor.{Descriptor}
use Rattle.sql_ast.specs.declared.statement.Statement.{Statement}
use Rattle.sql_ast.specs.declared.statement.Statement.TheVariants as statement
use Rattle.sql_ast.specs.declared.statement.DatabaseStatement.TheVariants as on_database
use Rattle.sql_ast.specs.declared.statement.RowStatement.TheVariants as over_rows
use Rattle.expressions.specs.Types.{is_of}
use Rattle.abstract_database.specs.Lists.{TheName, Among}
use Rattle.abstract_database.specs.Database.{Table, Database, rows_in, rows_named}
use Rattle.abstract_database.specs.Roles.{may_set_role, is_in as is_in_role}
use Rattle.abstract_database.specs.Privileges.{has_some_privilege}
use Rattle.abstract_database.specs.Changes.{keeps_not_null, IsInKeyOrder}
use Rattle.abstract_database.specs.Statements.{UserPair}
use Rattle.abstract_database.specs.Machine.{Event, executes, Reading, Machine, is_writing, seen}
use Rattle.abstract_database.proofs.ListLemmas.{bytes_same}
use Rattle.database_laws.specs.Invariants.{IsSound}
use Rattle.database_laws.specs.Tables.{IsTyped, HasDistinctKeys, KeepsNotNull}
use Rattle.database_laws.specs.HiddenRuns.{holds_lock, AreSound}
use Rattle.database_laws.specs.Told.{happens, entries_of, AllFor, IsCrowded, by_lock, by_number, LeavesTenant, by_role}
use Rattle.database_laws.specs.TwoTenants.{ann, by_ann, of_ann, opened_by_ann}
use Rattle.database_laws.proofs.TwoTenants.{of_both, idle_acts}
use Rattle.privilege_laws.specs.Related.{NothingTells, MachinesRelated, IsToldRelated}
use Rattle.privilege_laws.specs.Reached.{IsReachedTable, SameReachedRows, reached_by}
use Rattle.privilege_laws.specs.TwoOwners.{letters, plans, row_of, with_both, with_plan, ann_selects, before_bob, behind_bob, PlansTellNothing, staff_members, staff_privileges, with_staff, PlansTellStaff}
use Rattle.privilege_laws.proofs.TablesTold.{runs_told}
use Rattle.privilege_laws.proofs.PatternsTold.{runs_part}

clash : true ≡ false → ⊥
clash e = cc

-- ---- whom ann acts as, and what she reaches

one_name : (b : Bool) → (b || false) ≡ true → b ≡ true
one_name true e = refl
one_name false e = cc

module _ (own others : List Row) where
  abbrev db : Database
  db = with_both [] [] own others

  acts_as_ann : (pair : UserPair) → by_ann pair ≡ true → may_set_role db pair.session pair.current ≡ true → codes "ann" ≡ pair.current
  acts_as_ann pair on may =
      let login : codes "ann" ≡ pair.session = bytes_same (codes "ann") pair.session on in
      bytes_same (codes "ann") pair.current (one_name (bytes_eq (codes "ann") pair.current) (ap (λ (n : TheName). may_set_role db n pair.current) login ∙ may))

  unreached : IsReachedTable by_ann db plans.name → ⊥
  unreached r =
      let current = acts_as_ann r.pair r.acts.0 r.acts.1 in
      let role : codes "ann" ≡ r.role = bytes_same (codes "ann") r.role (one_name (bytes_eq (codes "ann") r.role) (ap (λ (n : TheName). is_in_role [] n r.role) current ∙ r.in_role)) in
      clash (sym (ap (λ (n : TheName). has_some_privilege db n plans.name) role ∙ r.has))

abbrev found : List Row → List Row → Bool → Bool → Option Table
found own others b c = cond b (Some (record { definition = letters; rows = own })) (cond c (Some (record { definition = plans; rows = others })) None)

module _ (own others another : List Row) where
  rows_at : (name : TheName) (c : Bool) → bytes_eq plans.name name ≡ c → (c ≡ true → ⊥) → rows_named (with_both [] [] own others) name ≡ rows_named (with_both [] [] own another) name
  rows_at name true is never = absurd (never refl)
  rows_at name false is never =
      ap (λ (c : Bool). rows_in (found own others (bytes_eq letters.name name) c)) is
      ∙ sym (ap (λ (c : Bool). rows_in (found own another (bytes_eq letters.name name) c)) is)

  same_rows : SameReachedRows by_ann (with_both [] [] own others) (with_both [] [] own another)
  same_rows = record {
    definitions = refl;
    rows = λ name r. rows_at name (bytes_eq plans.name name) refl (λ is. unreached own others (subst (IsReachedTable by_ann (with_both [] [] own others)) (sym (bytes_same plans.name name is)) r));
  }

-- ---- what is sound

pub typed_row : (k : ℕ) (r : Row) → row_of k ≡ r → (index : ℕ) → is_of (type_of (slice_get letters.layout.columns index)) (value_at r index) ≡ true
typed_row k r is index = subst (λ (s : Row). is_of (type_of (slice_get letters.layout.columns index)) (value_at s index) ≡ true) is (at index) where
  at : (i : ℕ) → is_of (type_of (slice_get letters.layout.columns i)) (value_at (row_of k) i) ≡ true
  at zero = refl
  at (suc n) = refl

pub kept_row : (k : ℕ) (r : Row) → row_of k ≡ r → keeps_not_null letters.layout.columns r ≡ true
kept_row k r is = subst (λ (s : Row). keeps_not_null letters.layout.columns s ≡ true) is refl

module _ (memberships : List Membership) (more : List Descriptor) (own : List Row) (k : ℕ) where
  abbrev owned : Table
  owned = record { definition = letters; rows = own }

  abbrev other : Table
  other = record { definition = plans; rows = row_of k ∷ [] }

  each : (P : Table → Type 0) → P owned → P other → (t : Table) → Among t (with_both memberships more own (row_of k ∷ [])).tables → P t
  each P first second t among = elim among [ inl is ↦ subst P is first | inr later ↦ elim later [ inl is ↦ subst P is second | inr never ↦ absurd never ] ]

  other_typed : IsTyped other
  other_typed = (refl, λ r among index. elim among [ inl is ↦ typed_row k r is index | inr never ↦ absurd never ])

  other_kept : KeepsNotNull other
  other_kept r among = elim among [ inl is ↦ kept_row k r is | inr never ↦ absurd never ]

  other_in_order : IsInKeyOrder other
  other_in_order = (λ y h. absurd h, tt)

  sound_with : IsTyped owned → IsInKeyOrder owned → HasDistinctKeys owned → KeepsNotNull owned → IsSound (with_both memberships more own (row_of k ∷ []))
  sound_with typed ordered distinct kept = (each IsTyped typed other_typed, each IsInKeyOrder ordered other_in_order, each HasDistinctKeys distinct refl, each KeepsNotNull kept other_kept)

sound_one : (memberships : List Membership) (more : List Descriptor) (k : ℕ) → IsSound (with_both memberships more (row_of 1 ∷ []) (row_of k ∷ []))
sound_one memberships more k = sound_with memberships more (row_of 1 ∷ []) k
    (refl, λ r among index. elim among [ inl is ↦ typed_row 1 r is index | inr never ↦ absurd never ])
    (λ y h. absurd h, tt)
    refl
    (λ r among. elim among [ inl is ↦ kept_row 1 r is | inr never ↦ absurd never ])

sound_two : (k : ℕ) → IsSound (with_both [] [] (row_of 1 ∷ row_of 2 ∷ []) (row_of k ∷ []))
sound_two k = sound_with [] [] (row_of 1 ∷ row_of 2 ∷ []) k
    (refl, λ r among index. elim among [ inl is ↦ typed_row 1 r is index | inr later ↦ elim later [ inl is ↦ typed_row 2 r is index | inr never ↦ absurd never ] ])
    (λ y h. elim h [ inl is ↦ subst (λ (s : Row). row_cmp (0 ∷ []) (row_of 1) s ≡ Less) is refl | inr never ↦ absurd never ], (λ y h. absurd h, tt))
    refl
    (λ r among. elim among [ inl is ↦ kept_row 1 r is | inr later ↦ elim later [ inl is ↦ kept_row 2 r is | inr never ↦ absurd never ] ])

-- ---- both machines

committed_same : SameReachedRows by_ann (with_plan 1) (with_plan 2)
committed_same = same_rows (row_of 1 ∷ []) (row_of 1 ∷ []) (row_of 2 ∷ [])

held_same : SameReachedRows by_ann (with_both [] [] (row_of 1 ∷ row_of 2 ∷ []) (row_of 1 ∷ [])) (with_both [] [] (row_of 1 ∷ row_of 2 ∷ []) (row_of 2 ∷ []))
held_same = same_rows (row_of 1 ∷ row_of 2 ∷ []) (row_of 1 ∷ []) (row_of 2 ∷ [])

both_related : MachinesRelated (reached_by of_ann) of_ann before_bob behind_bob
both_related = record {
  sessions = of_both (λ n. entries_of n before_bob.sessions ≡ entries_of n behind_bob.sessions) refl refl;
  opened_for = of_both (λ n. AllFor by_ann (entries_of n before_bob.sessions)) (idle_acts, tt) (record { now = refl; reset = refl; rolled_back = refl }, tt);
  stopped = refl;
  lock = of_both (λ n. holds_lock n before_bob.holder ≡ holds_lock n behind_bob.holder) refl refl;
  committed = committed_same;
  seen = of_both (λ n. SameReachedRows by_ann (seen before_bob n) (seen behind_bob n)) committed_same held_same;
}

abbrev plan_in : List Row → ℕ
plan_in ((Int (pos n) ∷ []) ∷ rows) = n
plan_in rows = 0

abbrev plan_of : Database → ℕ
plan_of db = plan_in (rows_named db plans.name)

pub plans_tell_nothing : PlansTellNothing
plans_tell_nothing = record {
  differ = λ same. let contrary : 1 ≡ 2 = ap plan_of same in cc;
  unreached = unreached (row_of 1 ∷ []) (row_of 1 ∷ []);
  machines = both_related;
  sound = (record { committed = sound_one [] [] 1; holder = sound_two 1 }, record { committed = sound_one [] [] 2; holder = sound_two 2 });
  told = (refl, refl);
  refused = (refl, refl);
}

-- ---- by a membership

abbrev m : Machine
m = opened_by_ann (with_staff 1)

abbrev k : Machine
k = opened_by_ann (with_staff 2)

abbrev is_of_select : Event Reading → Bool
is_of_select (executes number (Ok (statement.OnDatabase (on_database.OverRows (over_rows.Select x))))) = true
is_of_select _ = false

select_writes_not : (x : Statement) → is_of_select (executes 1 (Ok x)) ≡ true → is_writing x ≡ true → ⊥
select_writes_not (statement.OnDatabase (on_database.OverRows (over_rows.Select x))) is writes = clash (sym writes)
select_writes_not (statement.OnDatabase (on_database.OverRows (over_rows.Insert x))) is writes = clash (sym is)
select_writes_not (statement.OnDatabase (on_database.OverRows (over_rows.Update x))) is writes = clash (sym is)
select_writes_not (statement.OnDatabase (on_database.OverRows (over_rows.Delete x))) is writes = clash (sym is)
select_writes_not (statement.OnDatabase (on_database.Defining x)) is writes = clash (sym is)
select_writes_not (statement.OfSession x) is writes = clash (sym is)

no_crowd : (number : ℕ) (event : Event Reading) → is_of_select event ≡ true → IsCrowded number m k event → ⊥
no_crowd number event is (by_lock x writes apart tells) = select_writes_not x is writes
no_crowd number event is (by_number login apart tells) = clash (sym is)

stays_hers : (number : ℕ) (event : Event Reading) → is_of_select event ≡ true → LeavesTenant of_ann number m event → ⊥
stays_hers number event is (by_role s changed x free there may sets foreign) = clash (sym is)

abbrev first_of : Answer → ℕ
first_of (answer.Rows ((Int (pos n) ∷ []) ∷ rows)) = n
first_of _ = 0

parts_for_staff : IsToldRelated (reached_by of_ann) NothingTells of_ann m k (happens (ann_selects plans) ∷ []) (happens (ann_selects plans) ∷ []) → ⊥
parts_for_staff told =
    elim (runs_part reached_by NothingTells of_ann m k (ann_selects plans) refl (λ same. let wrong : 1 ≡ 2 = ap first_of same in cc) told) [
      | inl tells ↦ tells
      | inr (inl crowd) ↦ no_crowd 1 (ann_selects plans) refl crowd
      | inr (inr leaves) ↦ stays_hers 1 (ann_selects plans) refl leaves
    ]

staff_sound : AreSound m × AreSound k
staff_sound = (record { committed = sound_one staff_members staff_privileges 1; holder = tt }, record { committed = sound_one staff_members staff_privileges 2; holder = tt })

pub plans_tell_staff : PlansTellStaff
plans_tell_staff = record {
  reached = record { pair = ann; acts = (refl, refl); role = ann.current; in_role = refl; has = refl };
  sound = staff_sound;
  told = (refl, refl);
  parts = parts_for_staff;
  unrelated = λ st. parts_for_staff (runs_told of_ann m k (happens (ann_selects plans) ∷ []) (happens (ann_selects plans) ∷ []) st staff_sound.0 staff_sound.1
      ((λ own. tt, λ foreign. absurd (clash foreign)), tt) ((λ own. tt, λ foreign. absurd (clash foreign)), tt) refl);
}
