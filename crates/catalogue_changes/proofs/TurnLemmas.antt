-- One kind of records turned into others, and what stays.
use Rattle.std.proofs.Common.{◌≡◌, ◌<◌, ◌^◌, ℕ, Bool, true, false, not, ◌&&◌, ◌||◌, nat_eq, List, [], ◌∷◌, map, refl, ap, sym, ◌∙◌, subst, inl, inr}
use Rattle.std.specs.List.{AllByRecursion, list_any}
use Rattle.std.specs.declared.cmp.Ordering.{Ordering}
use Rattle.std.specs.declared.cmp.Ordering.TheVariants.{Less}
use Rattle.std.proofs.lemmas.Bool.{eqb-true, and_parts, false_from_ne_true}
use Rattle.byteorder.specs.Endian.{big_bytes}
use Rattle.sql_types.specs.Row.{Row}
use Rattle.store.specs.Records.{Record, Records, key_cmp, IsBefore, IsOrdered, entries_where, has_prefix}
use Rattle.row_codec.specs.Rows.{row_prefix}
use Rattle.abstract_database.specs.Lists.{Among, Rising}
use Rattle.abstract_database.specs.Whole.{Each}
use Rattle.abstract_database.proofs.ElementLemmas.{any_holds}
use Rattle.stored_database.specs.Definitions.{TableDefinition}
use Rattle.stored_database.specs.RecordFormat.{role_prefix, membership_prefix, table_prefix, rows_prefix}
use Rattle.stored_database.specs.Records.{is_key_of, is_orphan, is_orphan_row, HoldRows}
use Rattle.stored_database.proofs.Lists.{of_map, rest_of_each}
use Rattle.stored_database.proofs.Prefixes.{one_id}
use Rattle.catalogue_changes.specs.Differences.{differences, applied_in_turn}
use Rattle.entry_differences.proofs.DifferenceLemmas.{ordered_in_turn, elsewhere, part_leads_to, each_passes}

-- ---- tests of keys

-- no key passes both
abbrev pub AreApart : (List ℕ → Bool) → (List ℕ → Bool) → Type 0
AreApart p q = (k : List ℕ) → p k ≡ true → q k ≡ false

-- keys of two kinds
pub kinds_apart : (j k : ℕ) (ps qs : List ℕ) → nat_eq k j ≡ false → AreApart (has_prefix (j ∷ ps)) (has_prefix (k ∷ qs))
kinds_apart j k ps qs differ [] h = refl
kinds_apart j k ps qs differ (i ∷ key) h =
    ap (λ (b : Bool). b && has_prefix qs key) (ap (nat_eq k) (sym (eqb-true j i (and_parts (nat_eq j i) (has_prefix ps key) h).0)) ∙ differ)

-- keys of one kind and two numbers
pub ids_apart : (kind a b : ℕ) → a < 2 ^ 32 → b < 2 ^ 32 → (a ≡ b → ⊥) → AreApart (has_prefix (kind ∷ big_bytes 4 a)) (has_prefix (kind ∷ big_bytes 4 b))
ids_apart kind a b small_a small_b differ key h =
    false_from_ne_true (has_prefix (kind ∷ big_bytes 4 b) key) (λ e. differ (one_id kind key a b small_a small_b h e))

-- a key of a kind is no orphan
pub roles_no_orphans : (ids : List ℕ) → AreApart (has_prefix role_prefix) (is_orphan ids)
roles_no_orphans ids key h = ap (λ (b : Bool). not (b || has_prefix membership_prefix key || has_prefix table_prefix key || has_prefix rows_prefix key || list_any (is_key_of key) ids)) h

second : (a b c d e : Bool) → b ≡ true → not (a || b || c || d || e) ≡ false
second true b c d e h = refl
second false true c d e h = refl
second false false c d e h = cc

third : (a b c d e : Bool) → c ≡ true → not (a || b || c || d || e) ≡ false
third true b c d e h = refl
third false true c d e h = refl
third false false true d e h = refl
third false false false d e h = cc

pub memberships_no_orphans : (ids : List ℕ) → AreApart (has_prefix membership_prefix) (is_orphan ids)
memberships_no_orphans ids key h = second (has_prefix role_prefix key) (has_prefix membership_prefix key) (has_prefix table_prefix key) (has_prefix rows_prefix key) (list_any (is_key_of key) ids) h

pub tables_no_orphans : (ids : List ℕ) → AreApart (has_prefix table_prefix) (is_orphan ids)
tables_no_orphans ids key h = third (has_prefix role_prefix key) (has_prefix membership_prefix key) (has_prefix table_prefix key) (has_prefix rows_prefix key) (list_any (is_key_of key) ids) h

fourth : (a b c d e : Bool) → d ≡ true → not (a || b || c || d || e) ≡ false
fourth true b c d e h = refl
fourth false true c d e h = refl
fourth false false true d e h = refl
fourth false false false true e h = refl
fourth false false false false e h = cc

pub rows_no_orphans : (ids : List ℕ) → AreApart (has_prefix rows_prefix) (is_orphan ids)
rows_no_orphans ids key h = fourth (has_prefix role_prefix key) (has_prefix membership_prefix key) (has_prefix table_prefix key) (has_prefix rows_prefix key) (list_any (is_key_of key) ids) h

fifth : (a b c d e : Bool) → e ≡ true → not (a || b || c || d || e) ≡ false
fifth true b c d e h = refl
fifth false true c d e h = refl
fifth false false true d e h = refl
fifth false false false true e h = refl
fifth false false false false true h = refl
fifth false false false false false h = cc

-- nor is one of a table's number
pub table_keys_no_orphans : (ids : List ℕ) (id : ℕ) → Among id ids → (key : List ℕ) → is_key_of key id ≡ true → is_orphan ids key ≡ false
table_keys_no_orphans ids id among key h =
    fifth (has_prefix role_prefix key) (has_prefix membership_prefix key) (has_prefix table_prefix key) (has_prefix rows_prefix key) (list_any (is_key_of key) ids) (any_holds (is_key_of key) ids id among h)

-- a key of another kind than rows is no orphan row
pub no_orphan_rows : (j : ℕ) (ps ids : List ℕ) → nat_eq 6 j ≡ false → AreApart (has_prefix (j ∷ ps)) (is_orphan_row ids)
no_orphan_rows j ps ids differ key h = ap (λ (b : Bool). b && not (list_any (λ (id : ℕ). has_prefix (row_prefix id) key) ids)) (kinds_apart j 6 ps [] differ key h)

-- ---- one kind is turned

-- the records that pass are these, in order, and all that is apart from them is as it was
pub record IsTurned (p : List ℕ → Bool) (fs old new : Records) : Type 0 where
  pub ordered : IsOrdered new
  pub held : entries_where p new ≡ fs
  pub elsewhere : (q : List ℕ → Bool) → AreApart p q → entries_where q new ≡ entries_where q old

apart_all : (p q : List ℕ → Bool) → AreApart p q → (es : Records) → AllByRecursion (λ e. p e.0 ≡ true) es → AllByRecursion (λ e. q e.0 ≡ false) es
apart_all p q apart [] h = tt
apart_all p q apart (e ∷ es) h = (apart e.0 h.0, apart_all p q apart es h.1)

pub turned : (p : List ℕ → Bool) (es fs records : Records) → IsOrdered records → IsOrdered fs → entries_where p records ≡ es → entries_where p fs ≡ fs
    → IsTurned p fs records (applied_in_turn (differences es fs) records)
turned p es fs records o f held pass = record {
  ordered = ordered_in_turn (differences es fs) records o;
  held = part_leads_to p es fs records o f held pass;
  elsewhere = λ q apart. elsewhere q es fs records o
      (apart_all p q apart es (subst (λ (zs : Records). AllByRecursion (λ e. p e.0 ≡ true) zs) held (each_passes p records)))
      (apart_all p q apart fs (subst (λ (zs : Records). AllByRecursion (λ e. p e.0 ≡ true) zs) pass (each_passes p fs)));
}

-- ---- spellings

before_all : (key : List ℕ) (es : Records) → ((e : Record) → Among e es → key_cmp key e.0 ≡ Less) → IsBefore key es
before_all key [] h = tt
before_all key (e ∷ es) h = (h e (inl refl), before_all key es (λ f among. h f (inr among)))

-- spellings of items that rise
pub ordered_spelled : {X : Type 0} (P : X → Type 0) (cmp : X → X → Ordering) (spell : X → Record) → ((a b : X) → P a → P b → key_cmp (spell a).0 (spell b).0 ≡ cmp a b)
    → (xs : List X) → Each P xs → Rising cmp xs → IsOrdered (map spell xs)
ordered_spelled P cmp spell agrees [] h r = tt
ordered_spelled {X} P cmp spell agrees (x ∷ xs) h r = (before_all (spell x).0 (map spell xs) before, ordered_spelled P cmp spell agrees xs (rest_of_each P x xs h) r.1) where
  before : (e : Record) → Among e (map spell xs) → key_cmp (spell x).0 e.0 ≡ Less
  before e among =
      let y = of_map spell xs e among in
      subst (λ (z : Record). key_cmp (spell x).0 z.0 ≡ Less) y.2 (agrees x y.0 (h x (inl refl)) (h y.0 (inr y.1)) ∙ r.0 y.0 y.1)

pub spelled_pass : {X : Type 0} (p : List ℕ → Bool) (spell : X → Record) → ((x : X) → p (spell x).0 ≡ true) → (xs : List X) → entries_where p (map spell xs) ≡ map spell xs
spelled_pass p spell h [] = refl
spelled_pass p spell h (x ∷ xs) = rw (h x) (ap (λ (zs : Records). spell x ∷ zs) (spelled_pass p spell h xs))

-- ---- rows

-- the rows of tables stay with the records of each
pub rows_stay : (old new : Records) (ts : List TableDefinition) (rows : List (List Row))
    → ((t : TableDefinition) → Among t ts → entries_where (has_prefix (row_prefix t.id)) new ≡ entries_where (has_prefix (row_prefix t.id)) old) → HoldRows old ts rows → HoldRows new ts rows
rows_stay old new [] [] same h = tt
rows_stay old new [] (r ∷ rows) same h = absurd h
rows_stay old new (t ∷ ts) [] same h = absurd h
rows_stay old new (t ∷ ts) (r ∷ rows) same h = (same t (inl refl) ∙ h.0, rows_stay old new ts rows (λ u among. same u (inr among)) h.1)
