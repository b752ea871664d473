-- Records of a database with a table stand for no database in the other record format.
use Rattle.std.proofs.Common.{◌≡◌, ℕ, true, List, [], ◌∷◌, ◌++◌, refl, ap, sym, ◌∙◌, subst, inl}
use Rattle.std.proofs.lemmas.List.{append-nil}
use Rattle.sql_types.specs.Domain.{HasNoZero}
use Rattle.sql_ast.specs.declared.privilege.Action.TheVariants as action
use Rattle.sql_ast.specs.declared.privilege.Descriptor.{Descriptor}
use Rattle.store.specs.Records.{Record, Records, has_prefix}
use Rattle.abstract_database.specs.Lists.{TheName, Among}
use Rattle.abstract_database.specs.Database.{Table, Database, grantor_name, grantee_name}
use Rattle.abstract_database.specs.Privileges.{owner_descriptor}
use Rattle.stored_database.specs.Definitions.{TableDefinition, ids_of}
use Rattle.stored_database.specs.RecordFormat.{ended, descriptor_prefix, descriptor_record}
use Rattle.stored_database.specs.Items.{IsStoredDescriptor}
use Rattle.stored_database.specs.Records.{is_orphan, StandsFor}
use Rattle.stored_database.specs.BothRecordFormats.{placed, with_places}
use Rattle.stored_database.proofs.Lists.{into_map, of_map, of_flat_map}
use Rattle.stored_database.proofs.Names.{same_ended}
use Rattle.stored_database.proofs.Descriptors.{grantor_free, grantee_free}
use Rattle.stored_database.proofs.Validity.{stored_descriptors}
use Rattle.stored_database.proofs.AllRecords.{KindOf, of_role, of_membership, of_table, of_row, of_descriptor, of_policy, kind_of, numbered_table, none_there, held_at, holds_each}
use Rattle.stored_database.proofs.Wholeness.{standing_whole}

-- ---- keys

no_end : (name : TheName) → [] ≡ ended name → ⊥
no_end [] h = cc
no_end (b ∷ bs) h = cc

-- two names do not end three times
three_ends : (g h owner : TheName) → HasNoZero g → HasNoZero h → ended g ++ ended h ≡ 0 ∷ 0 ∷ ended owner → ⊥
three_ends g h owner p q is =
    let first = same_ended g [] (ended h) (0 ∷ ended owner) p tt is in
    let second = same_ended h [] [] (ended owner) q tt (append-nil (ended h) ∙ first.rest) in
    no_end owner second.rest

behind_place : {a b c d e f g a' b' c' d' e' f' g' : ℕ} {xs ys : List ℕ} → a ∷ b ∷ c ∷ d ∷ e ∷ f ∷ g ∷ xs ≡ a' ∷ b' ∷ c' ∷ d' ∷ e' ∷ f' ∷ g' ∷ ys → xs ≡ ys
behind_place h = cc

-- ---- the owner's descriptor with a place too many

abbrev owners : ℕ → TheName → TheName → Record
owners id table owner = descriptor_record id (owner_descriptor table owner action.Select)

no_descriptor : (id number : ℕ) (table owner name : TheName) (x : Descriptor) → IsStoredDescriptor name x → descriptor_record number x ≡ placed (owners id table owner) → ⊥
no_descriptor id number table owner name x stored is =
    three_ends (grantor_name x.grantor) (grantee_name x.grantee) owner (grantor_free x.grantor stored.grantor) (grantee_free x.grantee stored.grantee) (behind_place (ap (λ (e : Record). e.0) is))

-- ---- databases

module _ (records : Records) (b : Database) (r : StandsFor (with_places records) b) (id : ℕ) (table owner : TheName) where
  abbrev e : Record
  e = placed (owners id table owner)

  of_kind : Among e (with_places records) → KindOf (ids_of r.0.tables) e.0 → ⊥
  of_kind among (of_role has) = cc
  of_kind among (of_membership has) = cc
  of_kind among (of_table has) = cc
  of_kind among (of_row has) = cc
  of_kind among (of_policy number known has) = cc
  of_kind among (of_descriptor number known has) =
      let found = numbered_table r.0.tables number known in
      let held = held_at (with_places records) (descriptor_prefix found.0.id) (descriptor_record found.0.id) found.0.descriptors (r.1.defined.held.of_tables found.0 found.1).descriptors e among
      (subst (λ (i : ℕ). has_prefix (descriptor_prefix i) e.0 ≡ true) (sym found.2) has) in
      let x = of_map (descriptor_record found.0.id) found.0.descriptors e held in
      no_descriptor id found.0.id table owner found.0.definition.name x.0 (stored_descriptors r.0 r.1.defined.valid found.0 found.1 x.0 x.1) x.2

  not_there : Among (owners id table owner) records → ⊥
  not_there among =
      let placed_there = into_map placed records (owners id table owner) among in
      of_kind placed_there (kind_of (ids_of r.0.tables) e.0 (none_there (is_orphan (ids_of r.0.tables)) (with_places records) r.1.defined.no_other e placed_there))

no_table : (records : Records) (a b : Database) → StandsFor records a → StandsFor (with_places records) b → (u : Table) → Among u a.tables → ⊥
no_table records a b s r u among =
    let o = owner_descriptor u.definition.name u.definition.owner action.Select in
    let whole = standing_whole records a s in
    let granted : Among o a.descriptors = whole.definitions.descriptors.owners u among o (inl refl) in
    let t = of_flat_map (λ (t : TableDefinition). t.descriptors) s.0.tables o (subst (λ (z : Database). Among o z.descriptors) s.1.is granted) in
    not_there records b r t.0.id u.definition.name u.definition.owner
    (holds_each records (descriptor_prefix t.0.id) (descriptor_record t.0.id) t.0.descriptors (s.1.defined.held.of_tables t.0 t.1).descriptors _ (into_map (descriptor_record t.0.id) t.0.descriptors o t.2))

pub without_tables : (records : Records) (a b : Database) → StandsFor records a → StandsFor (with_places records) b → a.tables ≡ []
without_tables records a b s r = go a.tables refl where
  go : (us : List Table) → a.tables ≡ us → us ≡ []
  go [] is = refl
  go (u ∷ us) is = absurd (no_table records a b s r u (subst (λ (zs : List Table). Among u zs) (sym is) (inl refl)))
