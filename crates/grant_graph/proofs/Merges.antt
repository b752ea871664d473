-- Descriptors in rising order are granted by a merge: the first of what is left stands first.
use Rattle.std.proofs.Common.{◌≡◌, List, [], ◌∷◌, refl, sym, ap, ◌∙◌, subst, arith, inl, inr, Ordering, Less, Equal, Greater, is_lt, is_eq, cond}
use Rattle.std.specs.Ordering.{ordering_reverse}
use Rattle.sql_ast.specs.declared.privilege.Descriptor.{Descriptor}
use Rattle.abstract_database.specs.Lists.{Among, Rising}
use Rattle.abstract_database.specs.Database.{descriptor_cmp}
use Rattle.abstract_database.specs.Privileges.{granted, with_option_of, with_descriptors}
use Rattle.abstract_database.proofs.DescriptorOrder.{descriptors_ordered}
use Rattle.grant_graph.specs.Merging.{IsStepOf}

pub turned : (x y : Descriptor) (o : Ordering) → descriptor_cmp x y ≡ o → descriptor_cmp y x ≡ ordering_reverse o
turned x y o e = descriptors_ordered.antisymm y x ∙ ap ordering_reverse e

-- put where the order says
put_at : (o : Ordering) (d y : Descriptor) (ys : List Descriptor) → descriptor_cmp d y ≡ o → granted d (y ∷ ys) ≡ cond (is_lt o) (d ∷ y ∷ ys) (cond (is_eq o) (with_option_of y d ∷ ys) (y ∷ granted d ys))
put_at o d y ys e = ap (λ (p : Ordering). cond (is_lt p) (d ∷ y ∷ ys) (cond (is_eq p) (with_option_of y d ∷ ys) (y ∷ granted d ys))) e

-- what stands before all that are granted stays the first
pub stays_first : (ds : List Descriptor) (y : Descriptor) (ys : List Descriptor) → ((d : Descriptor) → Among d ds → descriptor_cmp d y ≡ Greater) → with_descriptors ds (y ∷ ys) ≡ y ∷ with_descriptors ds ys
stays_first [] y ys behind = refl
stays_first (d ∷ ds) y ys behind =
    ap (λ (l : List Descriptor). with_descriptors ds l) (put_at Greater d y ys (behind d (inl refl)))
    ∙ stays_first ds y (granted d ys) (λ x h. behind x (inr h))

module _ (n : Descriptor) (ns : List Descriptor) (rising : Rising descriptor_cmp (n ∷ ns)) where
  behind_first : (x : Descriptor) → Among x ns → descriptor_cmp x n ≡ Greater
  behind_first x h = turned n x Less (rising.0 x h)

  pub none_left : with_descriptors (n ∷ ns) [] ≡ n ∷ with_descriptors ns []
  none_left = stays_first ns n [] behind_first

  module _ (y : Descriptor) (ys : List Descriptor) where
    pub new_first : descriptor_cmp n y ≡ Less → with_descriptors (n ∷ ns) (y ∷ ys) ≡ n ∷ with_descriptors ns (y ∷ ys)
    new_first e = ap (λ (l : List Descriptor). with_descriptors ns l) (put_at Less n y ys e) ∙ stays_first ns n (y ∷ ys) behind_first

    pub both_first : descriptor_cmp n y ≡ Equal → with_descriptors (n ∷ ns) (y ∷ ys) ≡ with_option_of y n ∷ with_descriptors ns ys
    both_first e =
        ap (λ (l : List Descriptor). with_descriptors ns l) (put_at Equal n y ys e)
        ∙ stays_first ns (with_option_of y n) ys (λ x h. turned y x Less (sym (descriptors_ordered.congr n y x e) ∙ rising.0 x h))

    pub old_first : descriptor_cmp n y ≡ Greater → with_descriptors (n ∷ ns) (y ∷ ys) ≡ y ∷ with_descriptors (n ∷ ns) ys
    old_first e = stays_first (n ∷ ns) y ys all_behind where
      all_behind : (x : Descriptor) → Among x (n ∷ ns) → descriptor_cmp x y ≡ Greater
      all_behind x (inl is) = ap (λ (z : Descriptor). descriptor_cmp z y) (sym is) ∙ e
      all_behind x (inr h) = turned y x Less (descriptors_ordered.trans y n x (turned n y Greater e) (rising.0 x h))

-- ---- steps

pub step_to_old : (old new : List Descriptor) (y : Descriptor) (ys : List Descriptor) → Rising descriptor_cmp new → old ≡ y ∷ ys → new ≡ [] → IsStepOf old new y ys new
step_to_old old new y ys rising is none = rw (is, none) (record { list = refl; rising = tt; fewer = omega arith })

pub step_to_new : (old new : List Descriptor) (n : Descriptor) (ns : List Descriptor) → Rising descriptor_cmp new → new ≡ n ∷ ns → old ≡ [] → IsStepOf old new n old ns
step_to_new old new n ns rising is none =
    let rises : Rising descriptor_cmp (n ∷ ns) = subst (Rising descriptor_cmp) is rising in
    rw (is, none) (record { list = none_left n ns rises; rising = rises.1; fewer = omega arith })

module _ (old new : List Descriptor) (n y : Descriptor) (ns ys : List Descriptor) (rising : Rising descriptor_cmp new) (new_is : new ≡ n ∷ ns) (old_is : old ≡ y ∷ ys) where
  rises : Rising descriptor_cmp (n ∷ ns)
  rises = subst (Rising descriptor_cmp) new_is rising

  pub step_before : descriptor_cmp n y ≡ Less → IsStepOf old new n old ns
  step_before e = rw (new_is, old_is) (record { list = new_first n ns rises y ys e; rising = rises.1; fewer = omega arith })

  pub step_both : descriptor_cmp n y ≡ Equal → IsStepOf old new (with_option_of y n) ys ns
  step_both e = rw (new_is, old_is) (record { list = both_first n ns rises y ys e; rising = rises.1; fewer = omega arith })

  pub step_after : descriptor_cmp n y ≡ Greater → IsStepOf old new y ys new
  step_after e = rw (new_is, old_is) (record { list = old_first n ns rises y ys e; rising = rises; fewer = omega arith })
