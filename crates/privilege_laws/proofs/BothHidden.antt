-- Two databases that differ in rows that policies hide and in a table that is not reached, both at once.
use Rattle.std.proofs.Common.{◌≡◌, ◌⊎◌, ◌||◌, ◌&&◌, ℕ, pos, Bool, true, false, cond, codes, length, bytes_eq, List, [], ◌∷◌, Option, Some, None, refl, sym, ap, ◌∙◌, subst, inl, inr}
use Rattle.std.specs.Option.{option_map}
use Rattle.std.proofs.lemmas.Option.{same_Some}
use Rattle.sql_types.specs.Row.{Row}
use Rattle.sql_types.specs.declared.value.Value.TheVariants.{Int, Text}
use Rattle.sql_types.specs.declared.answer.Answer.{Answer}
use Rattle.sql_types.specs.declared.answer.Answer.TheVariants as answer
use Rattle.abstract_database.specs.Lists.{TheName}
use Rattle.abstract_database.specs.Database.{TableOf, Table, Database, definition_named, rows_named}
use Rattle.abstract_database.specs.Roles.{is_in as is_in_role}
use Rattle.abstract_database.specs.Privileges.{has_some_privilege}
use Rattle.abstract_database.specs.Changes.{IsInKeyOrder}
use Rattle.abstract_database.specs.Statements.{UserPair, as_seen}
use Rattle.abstract_database.proofs.ListLemmas.{bytes_same}
use Rattle.database_laws.specs.Invariants.{IsSound}
use Rattle.database_laws.specs.Tables.{EachTable, IsTyped, HasDistinctKeys, KeepsNotNull}
use Rattle.database_laws.specs.Worlds.{apparent_rows}
use Rattle.database_laws.specs.HiddenRuns.{SameApparentRowsForPairs, IsException}
use Rattle.database_laws.specs.Told.{entries_of, AllFor, happens, IsExceptionFor, IsToldAlike}
use Rattle.database_laws.specs.Told as machines
use Rattle.database_laws.specs.TwoTenants.{notes, note, with_notes, first, with_her_other, opened_by_ann, ann_asks, ann, by_ann, of_ann}
use Rattle.database_laws.proofs.TwoTenants.{acts_as_ann, of_both, idle_acts, premises_met}
use Rattle.privilege_laws.specs.Related.{MachinesRelated, IsToldRelated}
use Rattle.privilege_laws.specs.Reached.{IsReachedTable, SameReachedRows}
use Rattle.privilege_laws.specs.Shown.{SameShownRows, shown_to}
use Rattle.privilege_laws.specs.TwoOwners.{plans, row_of, notes_and_plan, bobs_first, bobs_second, BothAreHidden}
use Rattle.privilege_laws.proofs.PatternsTold.{runs_part}
use Rattle.privilege_laws.proofs.TwoOwners.{typed_row, kept_row}

clash : true ≡ false → ⊥
clash e = cc

-- ann is in no other role
alone : (b c : Bool) → (b || ((b && false) || ((c && false) || false))) ≡ true → b ≡ true
alone true c e = refl
alone false true e = cc
alone false false e = cc

module _ (rows : List Row) (k : ℕ) where
  abbrev db : Database
  db = notes_and_plan rows k

  unreached : IsReachedTable by_ann db plans.name → ⊥
  unreached r =
      let current : codes "ann" ≡ r.pair.current = ap (λ (p : UserPair). p.current) (acts_as_ann r.pair r.acts) in
      let role : codes "ann" ≡ r.role = bytes_same (codes "ann") r.role (alone (bytes_eq (codes "ann") r.role) (bytes_eq (codes "bob") r.role) (ap (λ (n : TheName). is_in_role db.memberships n r.role) current ∙ r.in_role)) in
      clash (sym (ap (λ (n : TheName). has_some_privilege db n plans.name) role ∙ r.has))

abbrev one_of_two : Bool → Bool → Option TableOf
one_of_two b c = option_map (λ (x : Table). x.definition) (cond b (Some (record { definition = notes; rows = [] })) (cond c (Some (record { definition = plans; rows = [] })) None))

notes_or_plans : (t : TableOf) (b c : Bool) → one_of_two b c ≡ Some t → (notes ≡ t) ⊎ (plans ≡ t)
notes_or_plans t true c e = inl (same_Some notes t e)
notes_or_plans t false true e = inr (same_Some plans t e)
notes_or_plans t false false e = cc

named_by : (rows : List Row) (k : ℕ) (t : TableOf) → definition_named (notes_and_plan rows k) t.name ≡ one_of_two (bytes_eq notes.name t.name) (bytes_eq plans.name t.name)
named_by rows k t = at (bytes_eq notes.name t.name) (bytes_eq plans.name t.name) where
  at : (b c : Bool) → option_map (λ (x : Table). x.definition) (cond b (Some (record { definition = notes; rows = rows })) (cond c (Some (record { definition = plans; rows = row_of k ∷ [] })) None)) ≡ one_of_two b c
  at true c = refl
  at false true = refl
  at false false = refl

both_shown : SameShownRows by_ann bobs_first bobs_second
both_shown = record {
  definitions = refl;
  rows = λ pair acts t named r.
      subst (λ (p : UserPair). apparent_rows bobs_first (as_seen p bobs_first) t ≡ apparent_rows bobs_second (as_seen p bobs_first) t) (acts_as_ann pair acts)
      (elim (notes_or_plans t (bytes_eq notes.name t.name) (bytes_eq plans.name t.name) (sym (named_by (note "ann" 1 ∷ note "bob" 1 ∷ []) 1 t) ∙ named)) [
        | inl is ↦ subst (λ (u : TableOf). apparent_rows bobs_first (as_seen ann bobs_first) u ≡ apparent_rows bobs_second (as_seen ann bobs_first) u) is refl
        | inr is ↦ absurd (unreached (note "ann" 1 ∷ note "bob" 1 ∷ []) 1 (subst (λ (u : TableOf). IsReachedTable by_ann bobs_first u.name) (sym is) r))
      ]);
}

machines_shown : MachinesRelated (shown_to of_ann) of_ann (opened_by_ann bobs_first) (opened_by_ann bobs_second)
machines_shown = record {
  sessions = λ number own. refl;
  opened_for = of_both (λ n. AllFor by_ann (entries_of n (opened_by_ann bobs_first).sessions)) (idle_acts, tt) tt;
  stopped = refl;
  lock = λ number own. refl;
  committed = both_shown;
  seen = λ number own. both_shown;
}

-- ---- what is sound

module _ (rows : List Row) (k : ℕ) (on : IsSound (with_notes rows)) where
  beside : (Q : Table → Type 0) → EachTable Q (with_notes rows) → Q (record { definition = plans; rows = row_of k ∷ [] }) → EachTable Q (notes_and_plan rows k)
  beside Q each plan t among = elim among [
    | inl is ↦ subst Q is (each (record { definition = notes; rows = rows }) (inl refl))
    | inr later ↦ elim later [ inl is ↦ subst Q is plan | inr never ↦ absurd never ]
  ]

  sound_beside : IsSound (notes_and_plan rows k)
  sound_beside = (
    beside IsTyped on.0 (refl, λ r among index. elim among [ inl is ↦ typed_row k r is index | inr never ↦ absurd never ]),
    beside IsInKeyOrder on.1 (λ y h. absurd h, tt),
    beside HasDistinctKeys on.2 refl,
    beside KeepsNotNull on.3 (λ r among. elim among [ inl is ↦ kept_row k r is | inr never ↦ absurd never ]),
  )

-- ---- neither alone

abbrev plan_in : List Row → ℕ
plan_in ((Int (pos n) ∷ []) ∷ rows) = n
plan_in rows = 0

one_two : ◌≡◌ {A = ℕ} 1 2 → ⊥
one_two e = cc

two_three : ◌≡◌ {A = ℕ} 2 3 → ⊥
two_three e = cc

not_by_rows : SameApparentRowsForPairs by_ann bobs_first bobs_second → ⊥
not_by_rows same =
    let rows : apparent_rows bobs_first (as_seen ann bobs_first) plans ≡ apparent_rows bobs_second (as_seen ann bobs_first) plans = (same.rows ann (refl, refl)).rows plans refl in
    one_two (ap plan_in rows)

not_by_tables : SameReachedRows by_ann bobs_first bobs_second → ⊥
not_by_tables same =
    let reached : IsReachedTable by_ann bobs_first notes.name = record { pair = ann; acts = (refl, refl); role = ann.current; in_role = refl; has = refl } in
    let rows : rows_named bobs_first notes.name ≡ rows_named bobs_second notes.name = same.rows notes.name reached in
    two_three (ap length rows)

-- ---- where her own notes differ

abbrev her_first : Answer → ℕ
her_first (answer.Rows ((Text t ∷ Int (pos n) ∷ []) ∷ rows)) = n
her_first _ = 0

abbrev is_refused : Answer → Bool
is_refused (answer.Refused code) = true
is_refused _ = false

parts_for_her : IsToldRelated (shown_to of_ann) IsException of_ann (opened_by_ann first) (opened_by_ann with_her_other) (happens ann_asks ∷ []) (happens ann_asks ∷ []) → ⊥
parts_for_her told = premises_met.parts (machines.told_apart refl
    (runs_part shown_to IsException of_ann (opened_by_ann first) (opened_by_ann with_her_other) ann_asks refl (λ same. let wrong : 1 ≡ 2 = ap her_first same in cc) told)
    (λ (code, here, there). clash (sym (ap is_refused here))))

pub both_are_hidden : BothAreHidden
both_are_hidden = record {
  machines = machines_shown;
  sound = (
    record { committed = sound_beside (note "ann" 1 ∷ note "bob" 1 ∷ []) 1 premises_met.sound_first; holder = tt },
    record { committed = sound_beside (note "ann" 1 ∷ note "bob" 2 ∷ note "bob" 3 ∷ []) 2 premises_met.sound_second; holder = tt },
  );
  told = (refl, refl);
  not_by_rows = not_by_rows;
  not_by_tables = not_by_tables;
  parts = parts_for_her;
}
