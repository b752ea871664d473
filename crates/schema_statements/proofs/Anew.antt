-- Descriptors without those of the keys that come, and then granted those: what they are with those that come.
use Rattle.std.proofs.Common.{◌≡◌, ◌||◌, true, false, not, List, [], ◌∷◌, refl, sym, ap, ◌∙◌, inl}
use Rattle.std.specs.declared.cmp.Ordering.{Ordering}
use Rattle.std.specs.declared.cmp.Ordering.TheVariants.{Less, Equal, Greater}
use Rattle.std.specs.Ordering.{is_eq}
use Rattle.sql_ast.specs.declared.privilege.Descriptor.{Descriptor}
use Rattle.abstract_database.specs.Lists.{Among, Rising}
use Rattle.abstract_database.specs.Database.{descriptor_cmp}
use Rattle.abstract_database.specs.Privileges.{is_named_in, with_descriptors}
use Rattle.abstract_database.proofs.DescriptorOrder.{descriptors_ordered}
use Rattle.abstract_database.proofs.ElementLemmas.{of_filter}
use Rattle.grant_graph.proofs.Merges.{turned, stays_first, none_left, new_first}
use Rattle.schema_statements.specs.DescriptorChanges.{without_those, with_those}
use Rattle.schema_statements.proofs.Coming.{AreBehind, put_at, put_past, put_among_none, granted_among_none, beyond_all}
use Rattle.schema_statements.proofs.RevocationMarks.{none_named, first_out, kept_at}
use Rattle.std.proofs.Common.{subst}
use Rattle.abstract_database.specs.Lists.{TheName}
use Rattle.stored_database.specs.Definitions.{TableDefinition}
use Rattle.stored_database.proofs.Numbering.{rising_filter}
use Rattle.catalogue.specs.declared.table.TableParts.{TableParts}
use Rattle.catalogue.specs.Tables.{AreParts, definition_of}
use Rattle.catalogue.specs.Descriptors.{DescriptorsChanged, descriptors_after}
use Rattle.catalogue_changes.specs.DescriptorChanges.{IsChangeOf}
use Rattle.catalogue_changes.proofs.DescriptorPutLemmas.{AreFor, each_granted}
use Rattle.schema_statements.proofs.Orders.{all_rise}

pub none_out : (ds : List Descriptor) → without_those [] ds ≡ ds
none_out [] = refl
none_out (d ∷ ds) = ap (λ (l : List Descriptor). d ∷ l) (none_out ds)

left_behind : (d : Descriptor) (removed ds : List Descriptor) → AreBehind d ds → AreBehind d (without_those removed ds)
left_behind d removed ds behind x h = behind x (of_filter (λ v. not (is_named_in removed v)) ds x h).0

-- one that stands before all others is granted first
first_granted : (d : Descriptor) (gs ds : List Descriptor) → Rising descriptor_cmp (d ∷ gs) → AreBehind d ds → with_descriptors (d ∷ gs) ds ≡ d ∷ with_descriptors gs ds
first_granted d gs [] up behind = none_left d gs up
first_granted d gs (y ∷ ys) up behind = new_first d gs up y ys (behind y (inl refl))

abbrev IsAnew : List Descriptor → List Descriptor → Type 0
IsAnew added ds = with_descriptors added (without_those added ds) ≡ with_those added ds

-- where it holds behind the first descriptor, it holds from that on
module _ (y : Descriptor) (ys : List Descriptor) (r : Rising descriptor_cmp (y ∷ ys)) (rest : (added : List Descriptor) → Rising descriptor_cmp added → IsAnew added ys) where
  all_anew : (added : List Descriptor) → Rising descriptor_cmp added → IsAnew added (y ∷ ys)
  all_anew [] up = none_out (y ∷ ys)
  all_anew (d ∷ gs) up = go (descriptor_cmp d y) refl (all_anew gs up.1) where
    go : (o : Ordering) → descriptor_cmp d y ≡ o → IsAnew gs (y ∷ ys) → IsAnew (d ∷ gs) (y ∷ ys)
    go Less less later =
        let behind : AreBehind d (y ∷ ys) = beyond_all d y ys less r in
        ap (with_descriptors (d ∷ gs)) (first_out d gs (y ∷ ys) behind)
        ∙ first_granted d gs (without_those gs (y ∷ ys)) up (left_behind d gs (y ∷ ys) behind)
        ∙ ap (λ (l : List Descriptor). d ∷ l) later
        ∙ sym (put_past gs d (y ∷ ys) up.0)
        ∙ sym (ap (with_those gs) (put_at Less d y ys less))
    go Equal equal later =
        let behind : AreBehind d ys = λ v among. descriptors_ordered.congr d y v equal ∙ r.0 v among in
        let named = ap (λ (o : Ordering). is_eq o || is_named_in gs y) equal in
        ap (with_descriptors (d ∷ gs)) (kept_at (d ∷ gs) y ys true named ∙ first_out d gs ys behind)
        ∙ first_granted d gs (without_those gs ys) up (left_behind d gs ys behind)
        ∙ ap (λ (l : List Descriptor). d ∷ l) (rest gs up.1)
        ∙ sym (put_past gs d ys up.0)
        ∙ sym (ap (with_those gs) (put_at Equal d y ys equal))
    go Greater greater later =
        let behind : AreBehind y (d ∷ gs) = beyond_all y d gs (turned d y Greater greater) up in
        ap (with_descriptors (d ∷ gs)) (kept_at (d ∷ gs) y ys false (none_named y (d ∷ gs) behind))
        ∙ stays_first (d ∷ gs) y (without_those (d ∷ gs) ys) (λ v among. turned y v Less (behind v among))
        ∙ ap (λ (l : List Descriptor). y ∷ l) (rest (d ∷ gs) up)
        ∙ sym (put_past (d ∷ gs) y ys behind)

pub is_anew : (added ds : List Descriptor) → Rising descriptor_cmp added → Rising descriptor_cmp ds → IsAnew added ds
is_anew added [] up r = granted_among_none added up ∙ sym (put_among_none added up)
is_anew added (y ∷ ys) up r = all_anew y ys r (λ gs rises. is_anew gs ys rises r.1) added up

-- ---- the parts of the table

module _ (c : DescriptorsChanged) (t : TableDefinition) (changes : IsChangeOf t c) (p : TableParts) (are : AreParts p) (is : definition_of p ≡ t) where
  order : Rising descriptor_cmp t.descriptors
  order = subst (λ (u : TableDefinition). Rising descriptor_cmp u.descriptors) is are.order.descriptor_order

  abbrev pub left : List Descriptor
  left = without_those c.added (without_those c.removed t.descriptors)

  kept_rise : (removed ds : List Descriptor) → Rising descriptor_cmp ds → Rising descriptor_cmp (without_those removed ds)
  kept_rise removed ds r = rising_filter descriptor_cmp (λ d. not (is_named_in removed d)) ds r

  pub anew_is_after : with_descriptors c.added left ≡ descriptors_after c t.descriptors
  anew_is_after = is_anew c.added (without_those c.removed t.descriptors) changes.fits.come_rise (kept_rise c.removed t.descriptors order)

  rising : Rising descriptor_cmp (with_descriptors c.added left)
  rising = all_rise c.added left (kept_rise c.added (without_those c.removed t.descriptors) (kept_rise c.removed t.descriptors order))

  same_name : p.name ≡ t.definition.name
  same_name = ap (λ (u : TableDefinition). u.definition.name) is

  own : AreFor p.name (with_descriptors c.added left)
  own = each_granted (λ d. d.table ≡ p.name) (λ x y held. held) c.added left
      (subst (λ (n : TheName). AreFor n c.added) (sym same_name) changes.fits.own)
      (λ d h.
      let kept = of_filter (λ x. not (is_named_in c.added x)) (without_those c.removed t.descriptors) d h in
      let held = of_filter (λ x. not (is_named_in c.removed x)) t.descriptors d kept.0 in
      are.order.descriptors d (subst (λ (u : TableDefinition). Among d u.descriptors) (sym is) held.0))

  pub parts_anew : AreParts (record p { descriptors = with_descriptors c.added left })
  parts_anew = record {
    order = record { descriptors = own; descriptor_order = rising; policies = are.order.policies; policy_order = are.order.policy_order };
    bound = are.bound;
  }
