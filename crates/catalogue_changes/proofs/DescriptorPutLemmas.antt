-- Descriptors of one table that are granted, among those of all tables.
use Rattle.std.proofs.Common.{◌≡◌, Bool, true, List, [], ◌∷◌, filter, bytes_eq, refl, ap, sym, ◌∙◌, inl, inr}
use Rattle.std.specs.Ordering.{ordering_then}
use Rattle.std.specs.declared.cmp.Ordering.{Ordering}
use Rattle.std.specs.declared.cmp.Ordering.TheVariants.{Less, Equal, Greater}
use Rattle.std.specs.Cmp.{IsTotalOrder}
use Rattle.std.proofs.lemmas.Cmp.{then_total}
use Rattle.sql_ast.specs.declared.privilege.Descriptor.{Descriptor}
use Rattle.sql_ast.specs.declared.policy.Policy.{Policy}
use Rattle.store.proofs.Changes.{same_key}
use Rattle.abstract_database.specs.Lists.{TheName, Rising, drop_where}
use Rattle.abstract_database.specs.Database.{descriptor_cmp, policy_cmp}
use Rattle.abstract_database.specs.Privileges.{granted, with_option_of, with_descriptors}
use Rattle.abstract_database.specs.Whole.{Each}
use Rattle.abstract_database.proofs.ListLemmas.{same_bytes}
use Rattle.abstract_database.proofs.DescriptorOrder.{ordered_by, names_ordered, descriptors_ordered}
use Rattle.abstract_database.proofs.RisingPuts.{put_rises}
use Rattle.catalogue_changes.proofs.PutListLemmas.{drop_put, filter_put, each_put}

-- ---- orders

first_equal : (a b : Ordering) → ordering_then a b ≡ Equal → a ≡ Equal
first_equal Less b e = cc
first_equal Equal b e = refl
first_equal Greater b e = cc

pub one_table : (x y : Descriptor) → descriptor_cmp x y ≡ Equal → y.table ≡ x.table
one_table x y e = sym (same_key x.table y.table (first_equal _ _ e))

pub one_policy_table : (x y : Policy) → policy_cmp x y ≡ Equal → y.table ≡ x.table
one_policy_table x y e = sym (same_key x.table y.table (first_equal _ _ e))

pub policies_ordered : IsTotalOrder policy_cmp
policies_ordered = then_total (ordered_by names_ordered (λ (p : Policy). p.table)) (ordered_by names_ordered (λ (p : Policy). p.name))

-- ---- descriptors of a table

abbrev pub is_for_table : TheName → Descriptor → Bool
is_for_table name e = bytes_eq e.table name

abbrev pub AreFor : TheName → List Descriptor → Type 0
AreFor name ds = Each (λ (x : Descriptor). x.table ≡ name) ds

takes : (name : TheName) (x : Descriptor) → x.table ≡ name → (y : Descriptor) → descriptor_cmp x y ≡ Equal → (is_for_table name y ≡ true) × (is_for_table name (with_option_of y x) ≡ true)
takes name x own y e = let passes = same_bytes y.table name (one_table x y e ∙ own) in (passes, passes)

pub granted_rises : (x : Descriptor) (set : List Descriptor) → Rising descriptor_cmp set → Rising descriptor_cmp (granted x set)
granted_rises = put_rises descriptor_cmp descriptors_ordered with_option_of (λ x y z e. refl)

-- descriptors for other tables stay
pub others_stay : (name : TheName) (ds set : List Descriptor) → AreFor name ds → drop_where (is_for_table name) (with_descriptors ds set) ≡ drop_where (is_for_table name) set
others_stay name [] set own = refl
others_stay name (x ∷ ds) set own =
    others_stay name ds (granted x set) (λ y among. own y (inr among))
    ∙ drop_put descriptor_cmp with_option_of (is_for_table name) x set (same_bytes x.table name (own x (inl refl))) (takes name x (own x (inl refl)))

-- those for the table are granted among themselves
pub own_granted : (name : TheName) (ds set : List Descriptor) → AreFor name ds → Rising descriptor_cmp set → filter (is_for_table name) (with_descriptors ds set) ≡ with_descriptors ds (filter (is_for_table name) set)
own_granted name [] set own rising = refl
own_granted name (x ∷ ds) set own rising =
    own_granted name ds (granted x set) (λ y among. own y (inr among)) (granted_rises x set rising)
    ∙ ap (with_descriptors ds) (filter_put descriptor_cmp with_option_of (is_for_table name) descriptors_ordered x set (same_bytes x.table name (own x (inl refl))) (takes name x (own x (inl refl))) rising)

-- what holds of what is granted and of what was there, whatever their options, holds of all
pub each_granted : (P : Descriptor → Type 0) → ((x y : Descriptor) → P y → P (with_option_of y x)) → (ds set : List Descriptor) → Each P ds → Each P set → Each P (with_descriptors ds set)
each_granted P whatever [] set new old = old
each_granted P whatever (x ∷ ds) set new old =
    each_granted P whatever ds (granted x set) (λ y among. new y (inr among)) (each_put descriptor_cmp with_option_of P (λ a b p q. whatever a b q) x set (new x (inl refl)) old)
