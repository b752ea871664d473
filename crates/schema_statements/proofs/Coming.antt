-- What comes where descriptors are granted beside others leads to what GRANT leaves.
use Rattle.std.proofs.Common.{◌≡◌, ◌⊎◌, Bool, true, false, not, ◌||◌, cond, List, [], ◌∷◌, ◌++◌, find, Option, Some, None, option_to_list, refl, sym, ap, ◌∙◌, subst, inl, inr}
use Rattle.std.specs.declared.cmp.Ordering.{Ordering}
use Rattle.std.specs.declared.cmp.Ordering.TheVariants.{Less, Equal, Greater}
use Rattle.std.specs.Ordering.{is_lt, is_eq, ordering_reverse}
use Rattle.sql_ast.specs.declared.privilege.Descriptor.{Descriptor}
use Rattle.abstract_database.specs.Lists.{TheName, Among, Rising, put, the_new}
use Rattle.abstract_database.specs.Database.{descriptor_cmp}
use Rattle.abstract_database.specs.Privileges.{same_key, with_option_of, with_descriptors}
use Rattle.abstract_database.specs.Whole.{Each}
use Rattle.abstract_database.proofs.DescriptorOrder.{descriptors_ordered}
use Rattle.catalogue.specs.Descriptors.{IsForTable}
use Rattle.grant_graph.proofs.Merges.{turned, stays_first, none_left, new_first, both_first}
use Rattle.schema_statements.specs.DescriptorChanges.{anew_beside, granted_anew, come_of, with_those}

-- each of these stands behind the descriptor
abbrev pub AreBehind : Descriptor → List Descriptor → Type 0
AreBehind y ds = (d : Descriptor) → Among d ds → descriptor_cmp y d ≡ Less

-- ---- what comes

inside : (x y : Descriptor) → ◌≡◌ {A = Option Descriptor} (Some x) (Some y) → x ≡ y
inside x y e = cc

pub equal_is : (o : Ordering) → is_eq o ≡ true → o ≡ Equal
equal_is Less e = cc
equal_is Equal e = refl
equal_is Greater e = cc

pub found_equal : (d : Descriptor) (ds : List Descriptor) (y : Descriptor) → find (same_key d) ds ≡ Some y → descriptor_cmp d y ≡ Equal
found_equal d [] y e = cc
found_equal d (x ∷ xs) y e = go (same_key d x) refl e (found_equal d xs y) where
  go : (b : Bool) → same_key d x ≡ b → cond b (Some x) (find (same_key d) xs) ≡ Some y → (find (same_key d) xs ≡ Some y → descriptor_cmp d y ≡ Equal) → descriptor_cmp d y ≡ Equal
  go true is f later = subst (λ v. descriptor_cmp d v ≡ Equal) (inside x y f) (equal_is (descriptor_cmp d x) is)
  go false is f later = later f

pub of_append : (xs ys : List Descriptor) (z : Descriptor) → Among z (xs ++ ys) → Among z xs ⊎ Among z ys
of_append [] ys z h = inr h
of_append (x ∷ xs) ys z (inl is) = inl (inl is)
of_append (x ∷ xs) ys z (inr h) = elim (of_append xs ys z h) [ inl k ↦ inl (inr k) | inr k ↦ inr k ]

-- a test of keys that what is granted passes
module _ (P : Descriptor → Type 0) (keeps : (y d : Descriptor) → descriptor_cmp d y ≡ Equal → P d → P (with_option_of y d)) where
  pub of_anew : (d : Descriptor) (o : Option Descriptor) → ((y : Descriptor) → o ≡ Some y → descriptor_cmp d y ≡ Equal) → P d → (z : Descriptor) → Among z (option_to_list (anew_beside d o)) → P z
  of_anew d None equal p z (inl is) = subst P is p
  of_anew d None equal p z (inr h) = absurd h
  of_anew d (Some y) equal p z h = go (y.grantable || not d.grantable) h where
    go : (b : Bool) → Among z (option_to_list (cond b None (Some (with_option_of y d)))) → P z
    go true k = absurd k
    go false (inl is) = subst P is (keeps y d (equal y refl) p)
    go false (inr k) = absurd k

  pub of_come : (ds granted : List Descriptor) → Each P granted → Each P (come_of ds granted)
  of_come ds [] each z h = absurd h
  of_come ds (d ∷ granted) each z h = elim (of_append (option_to_list (granted_anew ds d)) (come_of ds granted) z h) [
    | inl k ↦ of_anew d (find (same_key d) ds) (found_equal d ds) (each d (inl refl)) z k
    | inr k ↦ of_come ds granted (λ v among. each v (inr among)) z k
  ]

behind_too : (x : Descriptor) (y d : Descriptor) → descriptor_cmp d y ≡ Equal → descriptor_cmp x d ≡ Less → descriptor_cmp x (with_option_of y d) ≡ Less
behind_too x y d equal less = descriptors_ordered.antisymm x y ∙ ap ordering_reverse (sym (descriptors_ordered.congr d y x equal)) ∙ sym (descriptors_ordered.antisymm x d) ∙ less

pub come_behind : (x : Descriptor) (ds granted : List Descriptor) → AreBehind x granted → AreBehind x (come_of ds granted)
come_behind x ds granted behind = of_come (λ d. descriptor_cmp x d ≡ Less) (behind_too x) ds granted behind

pub come_for : (name : TheName) (ds granted : List Descriptor) → Each (IsForTable name) granted → ((y d : Descriptor) → descriptor_cmp d y ≡ Equal → d.table ≡ name → y.table ≡ name) → Each (IsForTable name) (come_of ds granted)
come_for name ds granted each same = of_come (IsForTable name) same ds granted each

-- ---- behind the first

none_found : (d : Descriptor) (ds : List Descriptor) → AreBehind d ds → find (same_key d) ds ≡ None
none_found d [] h = refl
none_found d (y ∷ ys) h = ap (λ (o : Ordering). cond (is_eq o) (Some y) (find (same_key d) ys)) (h y (inl refl)) ∙ none_found d ys (λ v among. h v (inr among))

found_at : (d y : Descriptor) (ys : List Descriptor) (o : Ordering) → descriptor_cmp d y ≡ o → find (same_key d) (y ∷ ys) ≡ cond (is_eq o) (Some y) (find (same_key d) ys)
found_at d y ys o e = ap (λ (p : Ordering). cond (is_eq p) (Some y) (find (same_key d) ys)) e

come_past : (y : Descriptor) (ys granted : List Descriptor) → AreBehind y granted → come_of (y ∷ ys) granted ≡ come_of ys granted
come_past y ys [] h = refl
come_past y ys (d ∷ granted) h =
    ap (λ (o : Option Descriptor). option_to_list (anew_beside d o) ++ come_of (y ∷ ys) granted) (found_at d y ys Greater (turned y d Less (h d (inl refl))))
    ∙ ap (λ (l : List Descriptor). option_to_list (granted_anew ys d) ++ l) (come_past y ys granted (λ v among. h v (inr among)))

come_beside_none : (granted : List Descriptor) → come_of [] granted ≡ granted
come_beside_none [] = refl
come_beside_none (d ∷ granted) = ap (λ (l : List Descriptor). d ∷ l) (come_beside_none granted)

pub put_at : (o : Ordering) (d y : Descriptor) (ys : List Descriptor) → descriptor_cmp d y ≡ o → put descriptor_cmp the_new d (y ∷ ys) ≡ cond (is_lt o) (d ∷ y ∷ ys) (cond (is_eq o) (d ∷ ys) (y ∷ put descriptor_cmp the_new d ys))
put_at o d y ys e = ap (λ (p : Ordering). cond (is_lt p) (d ∷ y ∷ ys) (cond (is_eq p) (d ∷ ys) (y ∷ put descriptor_cmp the_new d ys))) e

pub put_past : (added : List Descriptor) (y : Descriptor) (ys : List Descriptor) → AreBehind y added → with_those added (y ∷ ys) ≡ y ∷ with_those added ys
put_past [] y ys behind = refl
put_past (d ∷ added) y ys behind =
    ap (with_those added) (put_at Greater d y ys (turned y d Less (behind d (inl refl))))
    ∙ put_past added y (put descriptor_cmp the_new d ys) (λ x h. behind x (inr h))

pub put_among_none : (added : List Descriptor) → Rising descriptor_cmp added → with_those added [] ≡ added
put_among_none [] r = refl
put_among_none (d ∷ added) r = put_past added d [] r.0 ∙ ap (λ (l : List Descriptor). d ∷ l) (put_among_none added r.1)

pub granted_among_none : (granted : List Descriptor) → Rising descriptor_cmp granted → with_descriptors granted [] ≡ granted
granted_among_none [] r = refl
granted_among_none (d ∷ granted) r = none_left d granted r ∙ ap (λ (l : List Descriptor). d ∷ l) (granted_among_none granted r.1)

same_option : (y d : Descriptor) → (y.grantable || not d.grantable) ≡ true → with_option_of y d ≡ y
same_option y d e = ap (λ (b : Bool). record y { grantable = b }) (go y.grantable d.grantable e) where
  go : (a b : Bool) → (a || not b) ≡ true → (a || b) ≡ a
  go true b e = refl
  go false true e = cc
  go false false e = refl

-- ---- the law

pub beyond_all : (d y : Descriptor) (ys : List Descriptor) → descriptor_cmp d y ≡ Less → Rising descriptor_cmp (y ∷ ys) → AreBehind d (y ∷ ys)
beyond_all d y ys less r v (inl is) = subst (λ w. descriptor_cmp d w ≡ Less) is less
beyond_all d y ys less r v (inr later) = descriptors_ordered.trans d y v less (r.0 v later)

own_order : (o : Ordering) → o ≡ ordering_reverse o → o ≡ Equal
own_order Less e = cc
own_order Equal e = refl
own_order Greater e = cc

pub itself : (y : Descriptor) → descriptor_cmp y y ≡ Equal
itself y = own_order (descriptor_cmp y y) (descriptors_ordered.antisymm y y)

-- where it holds behind the first descriptor, it holds from that on
module _ (y : Descriptor) (ys : List Descriptor) (r : Rising descriptor_cmp (y ∷ ys)) (rest : (gs : List Descriptor) → Rising descriptor_cmp gs → with_those (come_of ys gs) ys ≡ with_descriptors gs ys) where
  past : (gs : List Descriptor) → Rising descriptor_cmp gs → AreBehind y gs → with_those (come_of (y ∷ ys) gs) (y ∷ ys) ≡ y ∷ with_descriptors gs ys
  past gs up behind =
      ap (λ (l : List Descriptor). with_those l (y ∷ ys)) (come_past y ys gs behind)
      ∙ put_past (come_of ys gs) y ys (come_behind y ys gs behind)
      ∙ ap (λ (l : List Descriptor). y ∷ l) (rest gs up)

  by_option : (d : Descriptor) (gs : List Descriptor) (b : Bool) → Rising descriptor_cmp gs → AreBehind y gs → (y.grantable || not d.grantable) ≡ b
      → with_those (option_to_list (cond b None (Some (with_option_of y d))) ++ come_of (y ∷ ys) gs) (y ∷ ys) ≡ with_option_of y d ∷ with_descriptors gs ys
  by_option d gs true up behind e = past gs up behind ∙ ap (λ (v : Descriptor). v ∷ with_descriptors gs ys) (sym (same_option y d e))
  by_option d gs false up behind e =
      let b = with_option_of y d in
      ap (λ (l : List Descriptor). with_those (b ∷ l) (y ∷ ys)) (come_past y ys gs behind)
      ∙ ap (with_those (come_of ys gs)) (put_at Equal b y ys (itself y))
      ∙ put_past (come_of ys gs) b ys (come_behind y ys gs behind)
      ∙ ap (λ (l : List Descriptor). b ∷ l) (rest gs up)

  all_leads : (gs : List Descriptor) → Rising descriptor_cmp gs → with_those (come_of (y ∷ ys) gs) (y ∷ ys) ≡ with_descriptors gs (y ∷ ys)
  all_leads [] up = refl
  all_leads (d ∷ gs) up = go (descriptor_cmp d y) refl (all_leads gs up.1) where
    go : (o : Ordering) → descriptor_cmp d y ≡ o → with_those (come_of (y ∷ ys) gs) (y ∷ ys) ≡ with_descriptors gs (y ∷ ys) → with_those (come_of (y ∷ ys) (d ∷ gs)) (y ∷ ys) ≡ with_descriptors (d ∷ gs) (y ∷ ys)
    go Less less later =
        let C = come_of (y ∷ ys) gs in
        ap (λ (o : Option Descriptor). with_those (option_to_list (anew_beside d o) ++ C) (y ∷ ys)) (none_found d (y ∷ ys) (beyond_all d y ys less r))
        ∙ ap (with_those C) (put_at Less d y ys less)
        ∙ put_past C d (y ∷ ys) (come_behind d (y ∷ ys) gs up.0)
        ∙ ap (λ (l : List Descriptor). d ∷ l) later
        ∙ sym (new_first d gs up y ys less)
    go Equal equal later =
        let behind : AreBehind y gs = λ v among. sym (descriptors_ordered.congr d y v equal) ∙ up.0 v among in
        ap (λ (o : Option Descriptor). with_those (option_to_list (anew_beside d o) ++ come_of (y ∷ ys) gs) (y ∷ ys)) (found_at d y ys Equal equal)
        ∙ by_option d gs (y.grantable || not d.grantable) up.1 behind refl
        ∙ sym (both_first d gs up y ys equal)
    go Greater greater later =
        let first : descriptor_cmp y d ≡ Less = turned d y Greater greater in
        let behind : AreBehind y (d ∷ gs) = beyond_all y d gs first up in
        past (d ∷ gs) up behind ∙ sym (stays_first (d ∷ gs) y ys (λ v among. turned y v Less (behind v among)))

pub come_leads : (ds granted : List Descriptor) → Rising descriptor_cmp ds → Rising descriptor_cmp granted → with_those (come_of ds granted) ds ≡ with_descriptors granted ds
come_leads [] granted r q = ap (λ (l : List Descriptor). with_those l []) (come_beside_none granted) ∙ put_among_none granted q ∙ sym (granted_among_none granted q)
come_leads (y ∷ ys) granted r q = all_leads y ys r (λ gs up. come_leads ys gs r.1 up) granted q
