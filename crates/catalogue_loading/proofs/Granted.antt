-- What tests of descriptors say of them.
use Rattle.std.proofs.Common.{◌≡◌, ◌<◌, ◌↔◌, IsTrue, ℕ, nat_lt, length, Bool, true, false, not, ◌&&◌, ◌||◌, List, [], ◌∷◌, Option, Some, None, is_some, refl, sym, ap, ◌∙◌, subst, inl, inr}
use Rattle.std.specs.Prelude.{IfSome}
use Rattle.std.specs.List.{list_any, list_all}
use Rattle.std.proofs.lemmas.Bool.{ltb-true, lt-ltb}
use Rattle.sql_ast.specs.declared.role.Role.{Role}
use Rattle.sql_ast.specs.declared.privilege.Action.{Action}
use Rattle.sql_ast.specs.declared.privilege.Action.TheVariants as action
use Rattle.sql_ast.specs.declared.privilege.Grantor.{Grantor}
use Rattle.sql_ast.specs.declared.privilege.Grantor.TheVariants as grantor
use Rattle.sql_ast.specs.declared.privilege.Grantee.{Grantee}
use Rattle.sql_ast.specs.declared.privilege.Grantee.TheVariants as grantee
use Rattle.sql_ast.specs.declared.privilege.Descriptor.{Descriptor}
use Rattle.abstract_database.specs.Lists.{TheName, Among}
use Rattle.abstract_database.specs.Database.{same_action}
use Rattle.abstract_database.specs.Privileges.{is_of_system, owner_descriptor, owner_descriptors, all_actions}
use Rattle.abstract_database.specs.Whole.{IsGrantorOf, IsGranteeOf, HasOwnerDescriptors}
use Rattle.abstract_database.proofs.Actions.{action_itself, actions_same}
use Rattle.abstract_database.proofs.ListLemmas.{bytes_same, same_bytes}
use Rattle.abstract_database.proofs.ElementLemmas.{any_found, any_holds}
use Rattle.stored_database.specs.Definitions.{TableDefinition}
use Rattle.stored_database.specs.Valid.{HasOwnDescriptors}
use Rattle.stored_database.proofs.Lists.{into_map, of_map}
use Rattle.grant_graph.proofs.Whole.{all_holds, all_found}
use Rattle.catalogue_loading.specs.ValidityChecks.{is_grantor_of, is_grantee_of, is_to, is_owners_own, is_on_column_of, is_given, is_granted, is_owners_for}
use Rattle.catalogue_loading.specs.ValidityParts.{IsGranted, HasGranted}
use Rattle.catalogue.proofs.OwnParts.{first_of, second_of, both_of}

grantor_of : (all : List Role) (g : Grantor) → is_grantor_of all g ≡ true → IsGrantorOf all g
grantor_of all grantor.System e = tt
grantor_of all (grantor.Role name) e = e

of_grantor : (all : List Role) (g : Grantor) → IsGrantorOf all g → is_grantor_of all g ≡ true
of_grantor all grantor.System h = refl
of_grantor all (grantor.Role name) h = h

grantee_of : (all : List Role) (b : Bool) (g : Grantee) → is_grantee_of all b g ≡ true → IsGranteeOf all b g
grantee_of all true grantee.Public e = cc
grantee_of all false grantee.Public e = refl
grantee_of all b (grantee.Role name) e = e

of_grantee : (all : List Role) (b : Bool) (g : Grantee) → IsGranteeOf all b g → is_grantee_of all b g ≡ true
of_grantee all true grantee.Public e = cc
of_grantee all false grantee.Public e = refl
of_grantee all b (grantee.Role name) h = h

implied : (a b : Bool) → (not a || b) ≡ true → a ≡ true → b ≡ true
implied true b e f = e
implied false b e f = cc

implies : (a b : Bool) → (a ≡ true → b ≡ true) → (not a || b) ≡ true
implies true b h = h refl
implies false b h = refl

to_owner : (owner : TheName) (g : Grantee) → is_to owner g ≡ true → g ≡ grantee.Role owner
to_owner owner grantee.Public e = cc
to_owner owner (grantee.Role name) e = ap grantee.Role (bytes_same name owner e)

by_system : (d : Descriptor) → is_of_system d ≡ true → d.grantor ≡ grantor.System
by_system d e = at d.grantor refl where
  at : (g : Grantor) → d.grantor ≡ g → d.grantor ≡ grantor.System
  at grantor.System h = h
  at (grantor.Role name) h = absurd (no (sym (role d.grantor name h) ∙ e)) where
    no : false ≡ true → ⊥
    no f = cc

    role : (g : Grantor) (n : TheName) → g ≡ grantor.Role n → is_of_system (record d { grantor = g }) ≡ false
    role g n is = ap (λ (x : Grantor). is_of_system (record d { grantor = x })) is

-- ---- columns

not_both : {b : Bool} → not b ≡ true → b ≡ true → ⊥
not_both e f = cc

column_there : (n : ℕ) (a : Action) (o : Option ℕ) → is_on_column_of n a o ≡ true → IfSome o (λ index. index < n)
column_there n a None e = tt
column_there n a (Some index) e = ltb-true index n (first_of (nat_lt index n) (not (same_action a action.Delete)) e)

no_delete : (n : ℕ) (a : Action) (o : Option ℕ) → is_on_column_of n a o ≡ true → a ≡ action.Delete → o ≡ None
no_delete n a None e is = refl
no_delete n a (Some index) e is =
    absurd (not_both (second_of (nat_lt index n) (not (same_action a action.Delete)) e) (ap (λ (b : Action). same_action b action.Delete) is))

other_action : (a : Action) (index : ℕ) → (a ≡ action.Delete → Some index ≡ None) → not (same_action a action.Delete) ≡ true
other_action action.Select index h = refl
other_action action.Insert index h = refl
other_action action.Update index h = refl
other_action action.Delete index h = absurd (no_none (h refl)) where
  no_none : Some index ≡ None → ⊥
  no_none e = cc

of_column : (n : ℕ) (a : Action) (o : Option ℕ) → IfSome o (λ index. index < n) → (a ≡ action.Delete → o ≡ None) → is_on_column_of n a o ≡ true
of_column n a None below h = refl
of_column n a (Some index) below h = both_of (nat_lt index n) (not (same_action a action.Delete)) (lt-ltb index n below) (other_action a index h)

missing : (o : Option ℕ) → not (is_some o) ≡ true → o ≡ None
missing None e = refl
missing (Some n) e = cc

all_four : (a : Action) → Among a all_actions
all_four action.Select = inl refl
all_four action.Insert = inr (inl refl)
all_four action.Update = inr (inr (inl refl))
all_four action.Delete = inr (inr (inr (inl refl)))

abbrev descriptor : Grantor → Grantee → TheName → Action → Option ℕ → Bool → Descriptor
descriptor g e n a c b = record { grantor = g; grantee = e; table = n; action = a; column = c; grantable = b }

same_descriptor : {g h : Grantor} {e f : Grantee} {n m : TheName} {c d : Option ℕ} {b z : Bool} → (a : Action) → g ≡ h → e ≡ f → n ≡ m → c ≡ d → b ≡ z → descriptor g e n a c b ≡ descriptor h f m a d z
same_descriptor a p q r s t = cc

module _ (all : List Role) (t : TableDefinition) (own : HasOwnDescriptors t) where
  abbrev name : TheName
  name = t.definition.name

  abbrev owner : TheName
  owner = t.definition.owner

  abbrev count : ℕ
  count = length t.definition.layout.columns

  -- a descriptor from the system that is the owner's own is one of the four
  owners_own : (d : Descriptor) → Among d t.descriptors → is_of_system d ≡ true → is_owners_own owner d ≡ true → d ≡ owner_descriptor name owner d.action
  owners_own d among s e =
      let more = second_of d.grantable (not (is_some d.column) && is_to owner d.grantee) e in
      let grantable : d.grantable ≡ true = first_of d.grantable (not (is_some d.column) && is_to owner d.grantee) e in
      let column : d.column ≡ None = missing d.column (first_of (not (is_some d.column)) (is_to owner d.grantee) more) in
      let to : d.grantee ≡ grantee.Role owner = to_owner owner d.grantee (second_of (not (is_some d.column)) (is_to owner d.grantee) more) in
      let from : d.grantor ≡ grantor.System = by_system d s in
      let table : d.table ≡ name = own d among in
      same_descriptor d.action from to table column grantable

  granted_of : (d : Descriptor) → Among d t.descriptors → is_granted all owner count d ≡ true → IsGranted all t.definition d
  granted_of d among e =
      let placed = first_of (is_on_column_of count d.action d.column) (is_given all owner d) e in
      let given = second_of (is_on_column_of count d.action d.column) (is_given all owner d) e in
      let more = second_of (is_grantor_of all d.grantor) (is_grantee_of all d.grantable d.grantee && (not (is_of_system d) || is_owners_own owner d)) given in
      record {
        column = column_there count d.action d.column placed;
        action = no_delete count d.action d.column placed;
        grantor = grantor_of all d.grantor (first_of (is_grantor_of all d.grantor) (is_grantee_of all d.grantable d.grantee && (not (is_of_system d) || is_owners_own owner d)) given);
        grantee = grantee_of all d.grantable d.grantee (first_of (is_grantee_of all d.grantable d.grantee) (not (is_of_system d) || is_owners_own owner d) more);
        system = λ s.
            let its = implied (is_of_system d) (is_owners_own owner d) (second_of (is_grantee_of all d.grantable d.grantee) (not (is_of_system d) || is_owners_own owner d) more) s in
            subst (λ (x : Descriptor). Among x (owner_descriptors name owner)) (sym (owners_own d among s its)) (into_map (owner_descriptor name owner) all_actions d.action (all_four d.action));
      }

  is_own : (d : Descriptor) → Among d (owner_descriptors name owner) → is_owners_own owner d ≡ true
  is_own d among =
      let found = of_map (owner_descriptor name owner) all_actions d among in
      subst (λ (x : Descriptor). is_owners_own owner x ≡ true) found.2 (same_bytes owner owner refl)

  of_given : (d : Descriptor) → IsGranted all t.definition d → is_given all owner d ≡ true
  of_given d h =
      both_of (is_grantor_of all d.grantor) (is_grantee_of all d.grantable d.grantee && (not (is_of_system d) || is_owners_own owner d)) (of_grantor all d.grantor h.grantor)
      (both_of (is_grantee_of all d.grantable d.grantee) (not (is_of_system d) || is_owners_own owner d) (of_grantee all d.grantable d.grantee h.grantee)
      (implies (is_of_system d) (is_owners_own owner d) (λ s. is_own d (h.system s))))

  of_granted : (d : Descriptor) → IsGranted all t.definition d → is_granted all owner count d ≡ true
  of_granted d h = both_of (is_on_column_of count d.action d.column) (is_given all owner d) (of_column count d.action d.column h.column h.action) (of_given d h)

  abbrev has_owners : Action → Bool
  has_owners a = list_any (is_owners_for owner a) t.descriptors

  owners_of : (a : Action) → has_owners a ≡ true → Among (owner_descriptor name owner a) t.descriptors
  owners_of a e =
      let found = any_found (is_owners_for owner a) t.descriptors e in
      let d = found.0 in
      let act = actions_same d.action a (first_of (same_action d.action a) (is_of_system d && is_owners_own owner d) found.2) in
      let more = second_of (same_action d.action a) (is_of_system d && is_owners_own owner d) found.2 in
      let is = owners_own d found.1 (first_of (is_of_system d) (is_owners_own owner d) more) (second_of (is_of_system d) (is_owners_own owner d) more) in
      subst (λ (x : Descriptor). Among x t.descriptors) (is ∙ ap (owner_descriptor name owner) act) found.1

  of_owners : (a : Action) → Among (owner_descriptor name owner a) t.descriptors → has_owners a ≡ true
  of_owners a among =
      any_holds (is_owners_for owner a) t.descriptors (owner_descriptor name owner a) among
      (both_of (same_action a a) (is_owners_own owner (owner_descriptor name owner a)) (action_itself a) (same_bytes owner owner refl))

  abbrev four : TheName → List Descriptor → Bool
  four n ds = list_any (is_owners_for n action.Select) ds && (list_any (is_owners_for n action.Insert) ds && (list_any (is_owners_for n action.Update) ds && list_any (is_owners_for n action.Delete) ds))

  abbrev have_four : Bool
  have_four = has_owners action.Select && (has_owners action.Insert && (has_owners action.Update && has_owners action.Delete))

  four_of : have_four ≡ true → HasOwnerDescriptors t.descriptors t.definition
  four_of e d (inl is) = subst (λ (x : Descriptor). Among x t.descriptors) is (owners_of action.Select (first_of (has_owners action.Select) (has_owners action.Insert && (has_owners action.Update && has_owners action.Delete)) e))
  four_of e d (inr later) = three d later (second_of (has_owners action.Select) (has_owners action.Insert && (has_owners action.Update && has_owners action.Delete)) e) where
    one : (x : Descriptor) → Among x (owner_descriptor name owner action.Delete ∷ []) → has_owners action.Delete ≡ true → Among x t.descriptors
    one x (inl is) f = subst (λ (y : Descriptor). Among y t.descriptors) is (owners_of action.Delete f)
    one x (inr none) f = absurd none

    two : (x : Descriptor) → Among x (owner_descriptor name owner action.Update ∷ owner_descriptor name owner action.Delete ∷ []) → (has_owners action.Update && has_owners action.Delete) ≡ true → Among x t.descriptors
    two x (inl is) f = subst (λ (y : Descriptor). Among y t.descriptors) is (owners_of action.Update (first_of (has_owners action.Update) (has_owners action.Delete) f))
    two x (inr more) f = one x more (second_of (has_owners action.Update) (has_owners action.Delete) f)

    three : (x : Descriptor) → Among x (owner_descriptor name owner action.Insert ∷ owner_descriptor name owner action.Update ∷ owner_descriptor name owner action.Delete ∷ []) → (has_owners action.Insert && (has_owners action.Update && has_owners action.Delete)) ≡ true → Among x t.descriptors
    three x (inl is) f = subst (λ (y : Descriptor). Among y t.descriptors) is (owners_of action.Insert (first_of (has_owners action.Insert) (has_owners action.Update && has_owners action.Delete) f))
    three x (inr more) f = two x more (second_of (has_owners action.Insert) (has_owners action.Update && has_owners action.Delete) f)

  of_four : HasOwnerDescriptors t.descriptors t.definition → have_four ≡ true
  of_four h =
      let at = λ (a : Action). of_owners a (h (owner_descriptor name owner a) (into_map (owner_descriptor name owner) all_actions a (all_four a))) in
      both_of (has_owners action.Select) (has_owners action.Insert && (has_owners action.Update && has_owners action.Delete)) (at action.Select)
      (both_of (has_owners action.Insert) (has_owners action.Update && has_owners action.Delete) (at action.Insert)
      (both_of (has_owners action.Update) (has_owners action.Delete) (at action.Update) (at action.Delete)))

  no : false ≡ true → ⊥
  no f = cc

  pub not_granted : list_all (is_granted all owner count) t.descriptors ≡ false → IsTrue false ↔ HasGranted all t
  not_granted e = (λ f. cc, λ h. absurd (no (sym e ∙ all_holds (is_granted all owner count) t.descriptors (λ (d : Descriptor) among. of_granted d (h.descriptors d among)))))

  pub granted_with : list_all (is_granted all owner count) t.descriptors ≡ true → (b : Bool) → b ≡ have_four → IsTrue b ↔ HasGranted all t
  granted_with e b is = (
    λ f. record { descriptors = λ (d : Descriptor) among. granted_of d among (all_found (is_granted all owner count) t.descriptors e d among); owners = four_of (sym is ∙ f) },
    λ h. is ∙ of_four h.owners,
  )

  -- the same of an owner, a number of columns and descriptors that are the table's
  here_granted : (b : Bool) (o : TheName) (n : ℕ) (ds : List Descriptor) → o ≡ owner → n ≡ count → ds ≡ t.descriptors → b ≡ list_all (is_granted all o n) ds → list_all (is_granted all owner count) t.descriptors ≡ b
  here_granted b o n ds p m q e = sym (subst (λ (xs : List Descriptor). b ≡ list_all (is_granted all owner count) xs) q
      (subst (λ (k : ℕ). b ≡ list_all (is_granted all owner k) ds) m (subst (λ (x : TheName). b ≡ list_all (is_granted all x n) ds) p e)))

  pub not_granted_at : (o : TheName) (n : ℕ) (ds : List Descriptor) → o ≡ owner → n ≡ count → ds ≡ t.descriptors → false ≡ list_all (is_granted all o n) ds → IsTrue false ↔ HasGranted all t
  not_granted_at o n ds p m q e = not_granted (here_granted false o n ds p m q e)

  pub granted_at : (o : TheName) (n : ℕ) (ds : List Descriptor) → o ≡ owner → n ≡ count → ds ≡ t.descriptors → true ≡ list_all (is_granted all o n) ds → (b : Bool) → b ≡ four o ds → IsTrue b ↔ HasGranted all t
  granted_at o n ds p m q e b is =
      granted_with (here_granted true o n ds p m q e) b
      (subst (λ (xs : List Descriptor). b ≡ four owner xs) q (subst (λ (x : TheName). b ≡ four x ds) p is))
