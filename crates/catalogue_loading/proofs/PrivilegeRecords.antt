-- What the records of privilege descriptors spell.
use Rattle.std.proofs.Common.{◌≡◌, ◌⊎◌, ℕ, inl, inr, subst, List, [], ◌∷◌, ◌++◌, refl, ap, sym, ◌∙◌, Err, arith}
use Rattle.std.proofs.lemmas.List.{append_cancel_left}
use Rattle.sql_types.specs.Name.{IsUtf8Name}
use Rattle.sql_ast.specs.declared.privilege.Grantor.{Grantor}
use Rattle.sql_ast.specs.declared.privilege.Grantor.TheVariants as grantor
use Rattle.sql_ast.specs.declared.privilege.Grantee.{Grantee}
use Rattle.sql_ast.specs.declared.privilege.Grantee.TheVariants as grantee
use Rattle.sql_ast.specs.declared.privilege.Descriptor.{Descriptor}
use Rattle.sql_ast.specs.Read.{IsReadGrantee}
use Rattle.store.specs.declared.fault.Fault.{Fault}
use Rattle.store.specs.declared.fault.Fault.TheVariants.{Memory, Device, Damaged}
use Rattle.store.specs.Records.{Record}
use Rattle.abstract_database.specs.Lists.{TheName}
use Rattle.abstract_database.specs.Database.{action_number}
use Rattle.stored_database.specs.Items.{IsStoredGrantor, IsStoredDescriptor}
use Rattle.stored_database.specs.RecordFormat.{ended, place_byte, descriptor_prefix, descriptor_record}
use Rattle.stored_database.proofs.Names.{no_zero_of}
use Rattle.catalogue_loading.specs.Decoding.{Decodes, IsSpelled, IsFront, IsOnlyFront, DecodesFront}
use Rattle.catalogue_loading.specs.Parties.{AreParties, IsStoredColumn, grantor_bytes, grantee_bytes, parties_bytes}

-- a name does not begin with a zero byte
not_zero : (name rest other : List ℕ) → IsUtf8Name name → 0 ∷ rest ≡ ended name ++ other → ⊥
not_zero [] rest other is h = absurd (omega (arith, is.name.some_byte))
not_zero (b ∷ bs) rest other is h = (no_zero_of (b ∷ bs) is).0 b_is where
  b_is : b ≡ 0
  b_is = cc

-- ---- parties: a role by its name, or the one that has none

module _ {P : Type 0} (unnamed : P) (role : TheName → P) (spell : P → List ℕ) (IsStored : P → Type 0)
    (is : (p : P) → (p ≡ unnamed) ⊎ ((name : TheName) × (p ≡ role name)))
    (zero_byte : spell unnamed ≡ 0 ∷ []) (of_name : (name : TheName) → spell (role name) ≡ ended name) (stored : (name : TheName) → IsStored (role name) → IsUtf8Name name) where
  -- a zero byte is how the one without a name is spelled
  unnamed_only : (bytes rest : List ℕ) → bytes ≡ 0 ∷ rest → IsOnlyFront IsStored spell bytes unnamed rest
  unnamed_only bytes rest zero p other front = go (is p) where
    same : 0 ∷ rest ≡ 0 ∷ other → rest ≡ other
    same h = cc

    go : (p ≡ unnamed) ⊎ ((name : TheName) × (p ≡ role name)) → (unnamed ≡ p) × (rest ≡ other)
    go (inl e) = (sym e, same (sym zero ∙ front.spelled ∙ ap (λ (q : P). spell q ++ other) e ∙ ap (λ (bs : List ℕ). bs ++ other) zero_byte))
    go (inr (name, e)) = absurd (not_zero name rest other (stored name (subst IsStored e front.valid))
        (sym zero ∙ front.spelled ∙ ap (λ (q : P). spell q ++ other) e ∙ ap (λ (bs : List ℕ). bs ++ other) (of_name name)))

  -- behind another one stands the name of a role
  role_only : (bytes name rest : List ℕ) → ((other : List ℕ) → bytes ≡ 0 ∷ other → ⊥) → IsOnlyFront IsUtf8Name ended bytes name rest → IsOnlyFront IsStored spell bytes (role name) rest
  role_only bytes name rest not_zero only p other front = go (is p) where
    go : (p ≡ unnamed) ⊎ ((other_name : TheName) × (p ≡ role other_name)) → (role name ≡ p) × (rest ≡ other)
    go (inl e) = absurd (not_zero other (front.spelled ∙ ap (λ (q : P). spell q ++ other) e ∙ ap (λ (bs : List ℕ). bs ++ other) zero_byte))
    go (inr (other_name, e)) =
        let same = only other_name other (record {
          valid = stored other_name (subst IsStored e front.valid);
          spelled = front.spelled ∙ ap (λ (q : P). spell q ++ other) e ∙ ap (λ (bs : List ℕ). bs ++ other) (of_name other_name);
        }) in
        (ap role same.0 ∙ sym e, same.1)

  no_party : (bytes : List ℕ) (fault : Fault) → ((other : List ℕ) → bytes ≡ 0 ∷ other → ⊥) → DecodesFront IsUtf8Name ended bytes (Err fault) → DecodesFront IsStored spell bytes (Err fault)
  no_party bytes Memory not_zero none = tt
  no_party bytes Device not_zero none = none
  no_party bytes Damaged not_zero none = λ p rest front. go p rest front (is p) where
    go : (p : P) (rest : List ℕ) → IsFront IsStored spell bytes p rest → (p ≡ unnamed) ⊎ ((name : TheName) × (p ≡ role name)) → ⊥
    go p rest front (inl e) = not_zero rest (front.spelled ∙ ap (λ (q : P). spell q ++ rest) e ∙ ap (λ (bs : List ℕ). bs ++ rest) zero_byte)
    go p rest front (inr (name, e)) = none name rest (record {
      valid = stored name (subst IsStored e front.valid);
      spelled = front.spelled ∙ ap (λ (q : P). spell q ++ rest) e ∙ ap (λ (bs : List ℕ). bs ++ rest) (of_name name);
    })

grantor_is : (g : Grantor) → (g ≡ grantor.System) ⊎ ((name : TheName) × (g ≡ grantor.Role name))
grantor_is grantor.System = inl refl
grantor_is (grantor.Role name) = inr (name, refl)

grantee_is : (g : Grantee) → (g ≡ grantee.Public) ⊎ ((name : TheName) × (g ≡ grantee.Role name))
grantee_is grantee.Public = inl refl
grantee_is (grantee.Role name) = inr (name, refl)

pub system_only : (bytes rest : List ℕ) → bytes ≡ 0 ∷ rest → IsOnlyFront IsStoredGrantor grantor_bytes bytes grantor.System rest
system_only = unnamed_only grantor.System (λ n. grantor.Role n) grantor_bytes IsStoredGrantor grantor_is refl (λ n. refl) (λ n h. h)

pub role_grants : (bytes name rest : List ℕ) → ((other : List ℕ) → bytes ≡ 0 ∷ other → ⊥) → IsOnlyFront IsUtf8Name ended bytes name rest
    → IsOnlyFront IsStoredGrantor grantor_bytes bytes (grantor.Role name) rest
role_grants = role_only grantor.System (λ n. grantor.Role n) grantor_bytes IsStoredGrantor grantor_is refl (λ n. refl) (λ n h. h)

pub no_grantor : (bytes : List ℕ) (fault : Fault) → ((other : List ℕ) → bytes ≡ 0 ∷ other → ⊥) → DecodesFront IsUtf8Name ended bytes (Err fault)
    → DecodesFront IsStoredGrantor grantor_bytes bytes (Err fault)
no_grantor = no_party grantor.System (λ n. grantor.Role n) grantor_bytes IsStoredGrantor grantor_is refl (λ n. refl) (λ n h. h)

pub public_only : (bytes rest : List ℕ) → bytes ≡ 0 ∷ rest → IsOnlyFront IsReadGrantee grantee_bytes bytes grantee.Public rest
public_only = unnamed_only grantee.Public (λ n. grantee.Role n) grantee_bytes IsReadGrantee grantee_is refl (λ n. refl) (λ n h. h)

pub role_is_granted : (bytes name rest : List ℕ) → ((other : List ℕ) → bytes ≡ 0 ∷ other → ⊥) → IsOnlyFront IsUtf8Name ended bytes name rest
    → IsOnlyFront IsReadGrantee grantee_bytes bytes (grantee.Role name) rest
role_is_granted = role_only grantee.Public (λ n. grantee.Role n) grantee_bytes IsReadGrantee grantee_is refl (λ n. refl) (λ n h. h)

pub no_grantee : (bytes : List ℕ) (fault : Fault) → ((other : List ℕ) → bytes ≡ 0 ∷ other → ⊥) → DecodesFront IsUtf8Name ended bytes (Err fault)
    → DecodesFront IsReadGrantee grantee_bytes bytes (Err fault)
no_grantee = no_party grantee.Public (λ n. grantee.Role n) grantee_bytes IsReadGrantee grantee_is refl (λ n. refl) (λ n h. h)

-- ---- descriptors

-- what stands after the prefix in the key of a descriptor's record
after_number : (id : ℕ) (rest : List ℕ) (entry : Record) (d : Descriptor) → entry.0 ≡ descriptor_prefix id ++ rest → descriptor_record id d ≡ entry
    → rest ≡ action_number d.action ∷ place_byte d.column ∷ parties_bytes (d.grantor, d.grantee)
after_number id rest entry d key is =
    append_cancel_left (descriptor_prefix id) rest (action_number d.action ∷ place_byte d.column ∷ parties_bytes (d.grantor, d.grantee))
    (sym key ∙ sym (ap (λ (e : Record). e.0) is))

-- a descriptor's key begins with the prefix
pub key_of : (id : ℕ) (entry : Record) (d : Descriptor) → descriptor_record id d ≡ entry
    → entry.0 ≡ descriptor_prefix id ++ (action_number d.action ∷ place_byte d.column ∷ parties_bytes (d.grantor, d.grantee))
key_of id entry d is = sym (ap (λ (e : Record). e.0) is)

-- what stands after the action: the place, and then who granted and to whom
after_action : (table : TheName) (id : ℕ) (rest : List ℕ) (number : ℕ) (placed : List ℕ) (entry : Record) (d : Descriptor)
    → entry.0 ≡ descriptor_prefix id ++ rest → rest ≡ number ∷ placed → IsSpelled (IsStoredDescriptor table) (descriptor_record id) entry d → placed ≡ place_byte d.column ∷ parties_bytes (d.grantor, d.grantee)
after_action table id rest number placed entry d key parts is = tails (sym parts ∙ after_number id rest entry d key is.spelled) where
  tails : {xs : List ℕ} {n : ℕ} → number ∷ placed ≡ n ∷ xs → placed ≡ xs
  tails h = cc

pub no_column : (table : TheName) (id : ℕ) (rest : List ℕ) (number place : ℕ) (placed parties : List ℕ) (entry : Record) (fault : Fault)
    → entry.0 ≡ descriptor_prefix id ++ rest → rest ≡ number ∷ placed → placed ≡ place ∷ parties → Decodes IsStoredColumn place_byte place (Err fault)
    → Decodes (IsStoredDescriptor table) (descriptor_record id) entry (Err fault)
no_column table id rest number place placed parties entry Memory key parts placed_is none = tt
no_column table id rest number place placed parties entry Device key parts placed_is none = none
no_column table id rest number place placed parties entry Damaged key parts placed_is none = λ d is.
    none d.column (record {
      valid = is.valid.column;
      spelled = heads (sym (after_action table id rest number placed entry d key parts is) ∙ placed_is);
    })
  where
    heads : {n : ℕ} {xs : List ℕ} → n ∷ xs ≡ place ∷ parties → n ≡ place
    heads h = cc

pub no_parties : (table : TheName) (id : ℕ) (rest : List ℕ) (number place : ℕ) (placed parties : List ℕ) (entry : Record) (fault : Fault)
    → entry.0 ≡ descriptor_prefix id ++ rest → rest ≡ number ∷ placed → placed ≡ place ∷ parties → Decodes AreParties parties_bytes parties (Err fault)
    → Decodes (IsStoredDescriptor table) (descriptor_record id) entry (Err fault)
no_parties table id rest number place placed parties entry Memory key parts whole none = tt
no_parties table id rest number place placed parties entry Device key parts whole none = none
no_parties table id rest number place placed parties entry Damaged key parts whole none = λ d is.
    none (d.grantor, d.grantee) (record {
      valid = record { grantor = is.valid.grantor; grantee = is.valid.grantee };
      spelled = tails (sym (after_action table id rest number placed entry d key parts is) ∙ whole);
    })
  where
    tails : {n : ℕ} {xs : List ℕ} → n ∷ xs ≡ place ∷ parties → xs ≡ parties
    tails h = cc
