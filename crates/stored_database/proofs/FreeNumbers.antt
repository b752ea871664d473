-- A number of no table has no records.
use Rattle.std.proofs.Common.{◌≡◌, ◌≤◌, ℕ, true, false, nat_eq, [], ◌∷◌, sym, ◌∙◌, subst, arith, ◌<◌, ◌^◌, ◌⊎◌, inl, inr}
use Rattle.std.specs.List.{list_any}
use Rattle.std.proofs.lemmas.Bool.{both_ways, false_from_ne_true, eq-eqb, eqb-true}
use Rattle.byteorder.specs.Endian.{big_bytes}
use Rattle.store.specs.Records.{Record, Records, has_prefix}
use Rattle.row_codec.specs.Rows.{row_prefix}
use Rattle.abstract_database.specs.Lists.{Among}
use Rattle.abstract_database.specs.Database.{Database}
use Rattle.abstract_database.specs.Whole.{max_tables}
use Rattle.abstract_database.proofs.ElementLemmas.{any_found, any_holds}
use Rattle.stored_database.specs.Definitions.{Definitions, ids_of}
use Rattle.stored_database.specs.RecordFormat.{descriptor_prefix, policy_prefix}
use Rattle.stored_database.specs.Valid.{AreValid}
use Rattle.stored_database.specs.Records.{is_orphan, is_row_key_of, is_orphan_row, Define, Shows, HasNoRecords}
use Rattle.stored_database.proofs.Tables.{small_id}
use Rattle.stored_database.proofs.Prefixes.{one_kind, one_id}
use Rattle.stored_database.proofs.AllRecords.{KindOf, of_role, of_membership, of_table, of_row, of_descriptor, of_policy, kind_of, none_there, numbered_table, of_row_table}
use Rattle.stored_database.proofs.Spelled.{where_none, kind_alone}

module _ (records : Records) (d : Definitions) (id : ℕ) (small : id < 2 ^ 32) (free : list_any (nat_eq id) (ids_of d.tables) ≡ false) where
  -- a number of a table is another one
  other : (i : ℕ) → Among i (ids_of d.tables) → i ≡ id → ⊥
  other i among same = both_ways (list_any (nat_eq id) (ids_of d.tables)) free (any_holds (nat_eq id) (ids_of d.tables) i among (eq-eqb id i (sym same)))

  small_number : AreValid d → (i : ℕ) → Among i (ids_of d.tables) → i < 2 ^ 32
  small_number v i among = let t = numbered_table d.tables i among in small_id i (subst (λ (n : ℕ). n ≤ max_tables) t.2 (v.tables t.0 t.1).most)

  no_descriptor : Define records d → (e : Record) → Among e records → has_prefix (descriptor_prefix id) e.0 ≡ true → ⊥
  no_descriptor p e among has = go (kind_of (ids_of d.tables) e.0 (none_there (is_orphan (ids_of d.tables)) records p.no_other e among)) where
    kind : (k : ℕ) → has_prefix (k ∷ []) e.0 ≡ true → k ≡ 4
    kind k is = one_kind e.0 k 4 is (kind_alone 4 (big_bytes 4 id) e.0 has)

    go : KindOf (ids_of d.tables) e.0 → ⊥
    go (of_role is) = let h = kind 1 is in omega (arith, h)
    go (of_membership is) = let h = kind 2 is in omega (arith, h)
    go (of_table is) = let h = kind 3 is in omega (arith, h)
    go (of_row is) = let h = kind 6 is in omega (arith, h)
    go (of_descriptor i there is) = other i there (one_id 4 e.0 i id (small_number p.valid i there) small is has)
    go (of_policy i there is) = let h = kind 5 (kind_alone 5 (big_bytes 4 i) e.0 is) in omega (arith, h)

  no_policy : Define records d → (e : Record) → Among e records → has_prefix (policy_prefix id) e.0 ≡ true → ⊥
  no_policy p e among has = go (kind_of (ids_of d.tables) e.0 (none_there (is_orphan (ids_of d.tables)) records p.no_other e among)) where
    kind : (k : ℕ) → has_prefix (k ∷ []) e.0 ≡ true → k ≡ 5
    kind k is = one_kind e.0 k 5 is (kind_alone 5 (big_bytes 4 id) e.0 has)

    go : KindOf (ids_of d.tables) e.0 → ⊥
    go (of_role is) = let h = kind 1 is in omega (arith, h)
    go (of_membership is) = let h = kind 2 is in omega (arith, h)
    go (of_table is) = let h = kind 3 is in omega (arith, h)
    go (of_row is) = let h = kind 6 is in omega (arith, h)
    go (of_descriptor i there is) = let h = kind 4 (kind_alone 4 (big_bytes 4 i) e.0 is) in omega (arith, h)
    go (of_policy i there is) = other i there (one_id 5 e.0 i id (small_number p.valid i there) small is has)

  no_row : (db : Database) → Shows records d db → (e : Record) → Among e records → has_prefix (row_prefix id) e.0 ≡ true → ⊥
  no_row db s e among has =
      let of = kind_alone 6 (big_bytes 4 id) e.0 has in
      let found = any_found (is_row_key_of e.0) (ids_of d.tables) (of_row_table (ids_of d.tables) e.0 of (none_there (is_orphan_row (ids_of d.tables)) records s.no_other_row e among)) in
      other found.0 found.1 (one_id 6 e.0 found.0 id (small_number s.defined.valid found.0 found.1) small found.2 has)

pub free_number : (records : Records) (d : Definitions) (db : Database) (id : ℕ) → Shows records d db → id < 2 ^ 32 → list_any (nat_eq id) (ids_of d.tables) ≡ false → HasNoRecords records id
free_number records d db id s small free = record {
  descriptors = where_none (has_prefix (descriptor_prefix id)) records (λ e among. false_from_ne_true (has_prefix (descriptor_prefix id) e.0) (no_descriptor records d id small free s.defined e among));
  policies = where_none (has_prefix (policy_prefix id)) records (λ e among. false_from_ne_true (has_prefix (policy_prefix id) e.0) (no_policy records d id small free s.defined e among));
  rows = where_none (has_prefix (row_prefix id)) records (λ e among. false_from_ne_true (has_prefix (row_prefix id) e.0) (no_row records d id small free db s e among));
}

-- numbers are from 1 to 1,024
out_of_range : (d : Definitions) → AreValid d → (id : ℕ) → (id ≡ 0) ⊎ (1024 < id) → list_any (nat_eq id) (ids_of d.tables) ≡ false
out_of_range d v id out = false_from_ne_true (list_any (nat_eq id) (ids_of d.tables)) taken where
  taken : list_any (nat_eq id) (ids_of d.tables) ≡ true → ⊥
  taken h =
      let found = any_found (nat_eq id) (ids_of d.tables) h in
      let t = numbered_table d.tables found.0 found.1 in
      let same : id ≡ t.0.id = eqb-true id found.0 found.2 ∙ sym t.2 in
      let least = (v.tables t.0 t.1).least in
      let most = (v.tables t.0 t.1).most in
      elim out [ inl zero_is ↦ omega (arith, same, least, zero_is) | inr above ↦ omega (arith, same, most, above) ]

pub no_number : (records : Records) (d : Definitions) (db : Database) (id : ℕ) → Shows records d db → id < 2 ^ 32 → (id ≡ 0) ⊎ (1024 < id) → HasNoRecords records id
no_number records d db id s small out = free_number records d db id s small (out_of_range d s.defined.valid id out)
