-- Prefixes by which a key is known to be no orphan.
use Rattle.std.proofs.Common.{◌≡◌, ◌≤◌, ℕ, Bool, true, false, not, ◌||◌, ◌&&◌, List, [], length, take, refl, ap, sym, ◌∙◌, subst, inl, inr, suc}
use Rattle.std.proofs.Math.Seq.{take-append_seam}
use Rattle.std.specs.List.{list_any}
use Rattle.std.proofs.lemmas.Bool.{or_cases}
use Rattle.store.specs.Records.{has_prefix}
use Rattle.abstract_database.proofs.ElementLemmas.{any_found, any_holds}
use Rattle.stored_database.specs.RecordFormat.{role_prefix, membership_prefix, table_prefix, rows_prefix, descriptor_prefix, policy_prefix}
use Rattle.stored_database.specs.Records.{is_key_of, is_orphan, is_orphan_row, is_row_key_of}
use Rattle.stored_database.proofs.Lengths.{prefix_long}
use Rattle.stored_database.proofs.Prefixes.{front_of}
use Rattle.row_codec.specs.Rows.{row_prefix}
use Rattle.catalogue_loading.specs.Orphans.{IsKnownBy}

-- ---- so many bytes of a key

-- the key begins with a prefix of so many bytes, which begins with what is sought, and no key that begins with it is an orphan
pub record HasKnownPrefix (is_orphan : List ℕ → Bool) (sought : List ℕ) (count : ℕ) (key : List ℕ) : Type 0 where
  pub prefix : List ℕ
  pub long : length prefix ≡ count
  pub begins : has_prefix prefix key ≡ true
  pub within : has_prefix sought prefix ≡ true
  pub none : (other : List ℕ) → has_prefix prefix other ≡ true → is_orphan other ≡ false

prefix_taken : (prefix key : List ℕ) → has_prefix prefix key ≡ true → take (length prefix) key ≡ prefix
prefix_taken prefix key h =
    let rest = front_of prefix key h in
    ap (λ (zs : List ℕ). take (length prefix) zs) rest.1 ∙ take-append_seam prefix rest.0

module _ (q : List ℕ → Bool) (sought : List ℕ) (count : ℕ) (key : List ℕ) (front : HasKnownPrefix q sought count key) where
  taken : take count key ≡ front.prefix
  taken = subst (λ (n : ℕ). take n key ≡ front.prefix) front.long (prefix_taken front.prefix key front.begins)

  -- the key has so many bytes
  pub taken_whole : count ≡ length (take count key)
  taken_whole = sym (ap (λ (zs : List ℕ). length zs) taken ∙ front.long)

  pub known : count ≤ 5 → IsKnownBy q sought key (take count key)
  known few = subst (λ (zs : List ℕ). IsKnownBy q sought key zs) (sym taken) (record { begins = front.begins; within = front.within; short = short; none = front.none })
    where
      short : length front.prefix ≤ 5
      short = subst (λ (n : ℕ). n ≤ 5) (sym front.long) few

-- ---- kinds with tables

owned : (ids key : List ℕ) → list_any (is_key_of key) ids ≡ true → is_orphan ids key ≡ false
owned ids key h = go (has_prefix role_prefix key || has_prefix membership_prefix key || has_prefix table_prefix key || has_prefix rows_prefix key) (list_any (is_key_of key) ids) h where
  go : (a b : Bool) → b ≡ true → not (a || b) ≡ false
  go true b h = refl
  go false true h = refl
  go false false h = cc

either : (a b : Bool) → b ≡ true → (a || b) ≡ true
either true b h = refl
either false b h = h

pub table_front : (ids key : List ℕ) → list_any (is_key_of key) ids ≡ true → HasKnownPrefix (is_orphan ids) [] 5 key
table_front ids key h =
    let found = any_found (is_key_of key) ids h in
    let id = found.0 in
    let of_table : (other : List ℕ) → is_key_of other id ≡ true → is_orphan ids other ≡ false = λ other is. owned ids other (any_holds (is_key_of other) ids id found.1 is) in
    elim (or_cases (has_prefix (descriptor_prefix id) key) (has_prefix (policy_prefix id) key) found.2) [
      | inl d ↦ record {
        prefix = descriptor_prefix id;
        long = ap suc (prefix_long id);
        begins = d;
        within = refl;
        none = λ other is. of_table other (ap (λ (b : Bool). b || has_prefix (policy_prefix id) other) is);
      }
      | inr p ↦ record {
        prefix = policy_prefix id;
        long = ap suc (prefix_long id);
        begins = p;
        within = refl;
        none = λ other is. of_table other (either (has_prefix (descriptor_prefix id) other) (has_prefix (policy_prefix id) other) is);
      }
    ]

pub row_front : (ids key : List ℕ) → list_any (is_row_key_of key) ids ≡ true → HasKnownPrefix (is_orphan_row ids) rows_prefix 5 key
row_front ids key h =
    let found = any_found (is_row_key_of key) ids h in
    let id = found.0 in
    record {
      prefix = row_prefix id;
      long = ap suc (prefix_long id);
      begins = found.2;
      within = refl;
      none = λ other is. no_orphan (has_prefix rows_prefix other) (list_any (is_row_key_of other) ids) (any_holds (is_row_key_of other) ids id found.1 is);
    }
  where
    no_orphan : (a b : Bool) → b ≡ true → (a && not b) ≡ false
    no_orphan true true h = refl
    no_orphan true false h = cc
    no_orphan false b h = refl
