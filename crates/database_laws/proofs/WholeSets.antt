-- A set of descriptors stays whole when one is granted.
use Rattle.std.proofs.Common.{◌≡◌, ◌⊎◌, Bool, true, ◌&&◌, ◌||◌, ℕ, List, [], ◌∷◌, Option, Some, None, refl, sym, ap, ◌∙◌, subst, inl, inr, Ordering, Less, Equal, Greater, nat_cmp}
use Rattle.std.specs.Ordering.{ordering_then}
use Rattle.std.specs.Option.{option_cmp}
use Rattle.std.proofs.lemmas.Map.Lookups.{exact_unsigned}
use Rattle.std.proofs.lemmas.Bool.{and_parts, and_from, or_left, or_right, eq-eqb}
use Rattle.sql_ast.specs.declared.role.Role.{Role}
use Rattle.sql_ast.specs.declared.privilege.Action.{Action}
use Rattle.sql_ast.specs.declared.privilege.Grantor.{Grantor}
use Rattle.sql_ast.specs.declared.privilege.Grantor.TheVariants as grantor
use Rattle.sql_ast.specs.declared.privilege.Grantee.{Grantee}
use Rattle.sql_ast.specs.declared.privilege.Grantee.TheVariants as grantee
use Rattle.sql_ast.specs.declared.privilege.Descriptor.{Descriptor}
use Rattle.abstract_database.specs.Lists.{TheName, name_cmp, Among}
use Rattle.abstract_database.specs.Chains.{by_start, by_step}
use Rattle.abstract_database.specs.Database.{TableOf, Table, action_number, grantor_name, grantee_name, descriptor_cmp}
use Rattle.abstract_database.specs.Privileges.{IsSupported, is_of_system, is_same_role, privilege_of, is_for, supports, owner_descriptor, owner_descriptors, all_actions, granted, with_descriptors, with_option_of}
use Rattle.abstract_database.specs.Whole.{Each, OneOf, IsRoleOf, IsWholeRole, IsGrantorOf, IsGranteeOf, IsWholeDescriptor, IsDescriptorOf}
use Rattle.abstract_database.proofs.Actions.{actions_same}
use Rattle.database_laws.proofs.HoldingLemmas.{is_one_for, one_for}
use Rattle.database_laws.proofs.WholeLists.{PutFrom, fresh, there, merged, of_put, put_old, put_new, of_map}
use Rattle.database_laws.proofs.WholeRoles.{names_same, no_empty_role}

-- ---- keys

-- all but the grant option is the same
pub record HasKeyOf (p q : Descriptor) : Type 0 where
  pub table : q.table ≡ p.table
  pub action : q.action ≡ p.action
  pub column : q.column ≡ p.column
  pub grantor : q.grantor ≡ p.grantor
  pub grantee : q.grantee ≡ p.grantee

-- and where the one is grantable, so is the other
pub record Covers (p q : Descriptor) : Type 0 where
  pub key : HasKeyOf p q
  pub option : p.grantable ≡ true → q.grantable ≡ true

pub own_key : (p : Descriptor) → HasKeyOf p p
own_key p = record { table = refl; action = refl; column = refl; grantor = refl; grantee = refl }

-- the grant option is no part of the key
pub option_key : (p q : Descriptor) (o : Bool) → HasKeyOf p q → HasKeyOf p (record q { grantable = o })
option_key p q o k = record { table = k.table; action = k.action; column = k.column; grantor = k.grantor; grantee = k.grantee }

pub key_back : (p q : Descriptor) → HasKeyOf p q → HasKeyOf q p
key_back p q k = record { table = sym k.table; action = sym k.action; column = sym k.column; grantor = sym k.grantor; grantee = sym k.grantee }

pub covers_itself : (p : Descriptor) → Covers p p
covers_itself p = record { key = own_key p; option = λ e. e }

pub covers_both : (p q r : Descriptor) → Covers p q → Covers q r → Covers p r
covers_both p q r a b = record {
  key = record { table = b.key.table ∙ a.key.table; action = b.key.action ∙ a.key.action; column = b.key.column ∙ a.key.column; grantor = b.key.grantor ∙ a.key.grantor; grantee = b.key.grantee ∙ a.key.grantee };
  option = λ e. b.option (a.option e);
}

descriptor_of : Grantor → Grantee → TheName → Action → Option ℕ → Bool → Descriptor
descriptor_of g h t a c o = record { grantor = g; grantee = h; table = t; action = a; column = c; grantable = o }

made_same : (g g' : Grantor) (h h' : Grantee) (t t' : TheName) (a a' : Action) (c c' : Option ℕ) (o o' : Bool) → g ≡ g' → h ≡ h' → t ≡ t' → a ≡ a' → c ≡ c' → o ≡ o' → descriptor_of g h t a c o ≡ descriptor_of g' h' t' a' c' o'
made_same g g' h h' t t' a a' c c' o o' p q r s k u = cc

-- descriptors of one key with one option are one
pub descriptors_same : (p q : Descriptor) → HasKeyOf p q → q.grantable ≡ p.grantable → q ≡ p
unfolding descriptor_of
descriptors_same p q k e = made_same q.grantor p.grantor q.grantee p.grantee q.table p.table q.action p.action q.column p.column q.grantable p.grantable k.grantor k.grantee k.table k.action k.column e

then_equal : (a b : Ordering) → ordering_then a b ≡ Equal → (a ≡ Equal) × (b ≡ Equal)
then_equal Equal b e = (refl, e)
then_equal Less b e = cc
then_equal Greater b e = cc

pub same_grantor_name : (x y : Descriptor) → descriptor_cmp x y ≡ Equal → grantor_name x.grantor ≡ grantor_name y.grantor
same_grantor_name x y e =
    let table = then_equal (name_cmp x.table y.table) (ordering_then (nat_cmp (action_number x.action) (action_number y.action)) (ordering_then (option_cmp nat_cmp x.column y.column) (ordering_then (name_cmp (grantor_name x.grantor) (grantor_name y.grantor)) (name_cmp (grantee_name x.grantee) (grantee_name y.grantee))))) e in
    let number = then_equal (nat_cmp (action_number x.action) (action_number y.action)) (ordering_then (option_cmp nat_cmp x.column y.column) (ordering_then (name_cmp (grantor_name x.grantor) (grantor_name y.grantor)) (name_cmp (grantee_name x.grantee) (grantee_name y.grantee)))) table.1 in
    let place = then_equal (option_cmp nat_cmp x.column y.column) (ordering_then (name_cmp (grantor_name x.grantor) (grantor_name y.grantor)) (name_cmp (grantee_name x.grantee) (grantee_name y.grantee))) number.1 in
    names_same (grantor_name x.grantor) (grantor_name y.grantor) (then_equal (name_cmp (grantor_name x.grantor) (grantor_name y.grantor)) (name_cmp (grantee_name x.grantee) (grantee_name y.grantee)) place.1).0

pub numbered_same : (a b : Action) → nat_cmp (action_number a) (action_number b) ≡ Equal → a ≡ b
numbered_same a b e = actions_same a b (eq-eqb (action_number a) (action_number b) (exact_unsigned (action_number a) (action_number b) e))

columns_same : (a b : Option ℕ) → option_cmp nat_cmp a b ≡ Equal → a ≡ b
columns_same None None e = refl
columns_same None (Some j) e = cc
columns_same (Some i) None e = cc
columns_same (Some i) (Some j) e = ap Some (exact_unsigned i j e)

-- what is equal in their order is on one column, or on the whole table
pub same_column : (x y : Descriptor) → descriptor_cmp x y ≡ Equal → x.column ≡ y.column
same_column x y e =
    let who = ordering_then (name_cmp (grantor_name x.grantor) (grantor_name y.grantor)) (name_cmp (grantee_name x.grantee) (grantee_name y.grantee)) in
    let place = ordering_then (option_cmp nat_cmp x.column y.column) who in
    let table = then_equal (name_cmp x.table y.table) (ordering_then (nat_cmp (action_number x.action) (action_number y.action)) place) e in
    let number = then_equal (nat_cmp (action_number x.action) (action_number y.action)) place table.1 in
    columns_same x.column y.column (then_equal (option_cmp nat_cmp x.column y.column) who number.1).0

-- ---- the system

pub system_like : (p q : Descriptor) → q.grantor ≡ p.grantor → is_of_system p ≡ true → is_of_system q ≡ true
system_like p q e h = subst (λ g. is_of_system (record q { grantor = g }) ≡ true) (sym e) (as_its p q h) where
  as_its : (p q : Descriptor) → is_of_system p ≡ true → is_of_system (record q { grantor = p.grantor }) ≡ true
  as_its p q h = h

pub systems_grantor : (d : Descriptor) → is_of_system d ≡ true → d.grantor ≡ grantor.System
systems_grantor d h = at d.grantor h where
  at : (g : Grantor) → is_of_system (record d { grantor = g }) ≡ true → g ≡ grantor.System
  at grantor.System k = refl
  at (grantor.Role n) k = cc

pub owners_grantable : (table owner : TheName) (d : Descriptor) → Among d (owner_descriptors table owner) → d.grantable ≡ true
owners_grantable table owner d h = let from = of_map (owner_descriptor table owner) all_actions d h in sym (ap (λ (x : Descriptor). x.grantable) from.2)

pub owners_system : (table owner : TheName) (d : Descriptor) → Among d (owner_descriptors table owner) → is_of_system d ≡ true
owners_system table owner d h = let from = of_map (owner_descriptor table owner) all_actions d h in subst (λ (x : Descriptor). is_of_system x ≡ true) from.2 refl

pub owners_table : (table owner : TheName) (d : Descriptor) → Among d (owner_descriptors table owner) → d.table ≡ table
owners_table table owner d h = let from = of_map (owner_descriptor table owner) all_actions d h in sym (ap (λ (x : Descriptor). x.table) from.2)

-- ---- support

column_like : (a a' b b' : Option ℕ) → a' ≡ a → b' ≡ b → (a ≡ None) ⊎ (a ≡ b) → (a' ≡ None) ⊎ (a' ≡ b')
column_like a a' b b' p q (inl whole) = inl (p ∙ whole)
column_like a a' b b' p q (inr same) = inr (p ∙ same ∙ sym q)

-- what is for the privilege of a descriptor, and what has its key, is for the privilege of what has the key of the other
for_same : (p q x y : Descriptor) → HasKeyOf p q → HasKeyOf x y → is_for x.table (privilege_of x) p ≡ true → is_for y.table (privilege_of y) q ≡ true
for_same p q x y c k e =
    let is = is_one_for x.table (privilege_of x) p e in
    one_for y.table (privilege_of y) q (record {
      table = c.table ∙ is.table ∙ sym k.table;
      action = c.action ∙ is.action ∙ sym k.action;
      column = column_like p.column q.column x.column y.column c.column k.column is.column;
    })

role_like : (g g' : Grantee) (r r' : Grantor) → g' ≡ g → r' ≡ r → is_same_role g r ≡ true → is_same_role g' r' ≡ true
role_like g g' r r' p q e = subst (λ x. is_same_role x r' ≡ true) (sym p) (subst (λ y. is_same_role g y ≡ true) (sym q) e)

pub supports_covered : (p x q y : Descriptor) → Covers p q → HasKeyOf x y → supports p x ≡ true → supports q y ≡ true
supports_covered p x q y c k e =
    let parts = and_parts (is_for x.table (privilege_of x) p && p.grantable) (is_same_role p.grantee x.grantor) e in
    let front = and_parts (is_for x.table (privilege_of x) p) p.grantable parts.0 in
    and_from (is_for y.table (privilege_of y) q && q.grantable) (is_same_role q.grantee y.grantor)
    (and_from (is_for y.table (privilege_of y) q) q.grantable (for_same p q x y c.key k front.0) (c.option front.1))
    (role_like p.grantee q.grantee x.grantor y.grantor c.key.grantee k.grantor parts.1)

-- an element of the set covers this one
abbrev pub IsCoveredIn : List Descriptor → Descriptor → Type 0
IsCoveredIn set p = (q : Descriptor) × Among q set × Covers p q

pub supported_covered : (old new : List Descriptor) → ((p : Descriptor) → Among p old → IsCoveredIn new p) → (d : Descriptor) → IsSupported old d → (q : Descriptor) × IsSupported new q × Covers d q
supported_covered old new f d (by_start x h e) = let at = f d h in (at.0, by_start at.0 at.1 (system_like d at.0 at.2.key.grantor e), at.2)
supported_covered old new f d (by_step p x c h e) =
    let before = supported_covered old new f p c in
    let at = f d h in
    (at.0, by_step before.0 at.0 before.1 at.1 (supports_covered p d before.0 at.0 before.2 at.2.key e), at.2)

-- what has the key of a supported descriptor, and is in the set, is supported
pub same_support : (set : List Descriptor) (q x : Descriptor) → HasKeyOf q x → Among x set → IsSupported set q → IsSupported set x
same_support set q x k h (by_start y g e) = by_start x h (system_like q x k.grantor e)
same_support set q x k h (by_step p y c g e) = by_step p x c h (supports_covered p q p x (covers_itself p) k e)

-- ---- one grant

-- each descriptor of the set is whole over it
abbrev pub IsWholeSet : List Role → List Descriptor → Type 0
IsWholeSet all set = Each (IsWholeDescriptor all set) set

-- by the system, or supported by one of the set
abbrev pub IsBacked : List Descriptor → Descriptor → Type 0
IsBacked set d = (is_of_system d ≡ true) ⊎ ((p : Descriptor) × IsSupported set p × (supports p d ≡ true))

-- what may be granted
pub record MayBeGranted (all : List Role) (set : List Descriptor) (d : Descriptor) : Type 0 where
  pub grantor : IsGrantorOf all d.grantor
  pub grantee : IsGranteeOf all d.grantable d.grantee
  pub backed : IsBacked set d

pub backed_more : (old new : List Descriptor) → ((p : Descriptor) → Among p old → IsCoveredIn new p) → (d : Descriptor) → IsBacked old d → IsBacked new d
backed_more old new f d (inl system) = inl system
backed_more old new f d (inr by) = let at = supported_covered old new f by.0 by.1 in inr (at.0, at.1, supports_covered by.0 d at.0 d at.2 (own_key d) by.2)

granted_or : (all : List Role) (g : Grantee) (a b : Bool) → IsGranteeOf all a g → IsGranteeOf all b g → IsGranteeOf all (a || b) g
granted_or all grantee.Public a b p q = ap (λ x. x || b) p ∙ q
granted_or all (grantee.Role n) a b p q = p

option_kept : (a b : Bool) → a ≡ true → (a || b) ≡ a
option_kept a b e = or_left a b e ∙ sym e

module _ (all : List Role) (names : Each IsWholeRole all) where
  grantors_same : (g h : Grantor) → IsGrantorOf all g → IsGrantorOf all h → grantor_name g ≡ grantor_name h → g ≡ h
  grantors_same grantor.System grantor.System p q e = refl
  grantors_same grantor.System (grantor.Role n) p q e = absurd (no_empty_role all names (subst (IsRoleOf all) (sym e) q))
  grantors_same (grantor.Role n) grantor.System p q e = absurd (no_empty_role all names (subst (IsRoleOf all) e p))
  grantors_same (grantor.Role n) (grantor.Role m) p q e = ap grantor.Role e

  grantees_same : (g h : Grantee) (a b : Bool) → IsGranteeOf all a g → IsGranteeOf all b h → grantee_name g ≡ grantee_name h → g ≡ h
  grantees_same grantee.Public grantee.Public a b p q e = refl
  grantees_same grantee.Public (grantee.Role n) a b p q e = absurd (no_empty_role all names (subst (IsRoleOf all) (sym e) q))
  grantees_same (grantee.Role n) grantee.Public a b p q e = absurd (no_empty_role all names (subst (IsRoleOf all) e p))
  grantees_same (grantee.Role n) (grantee.Role m) a b p q e = ap grantee.Role e

  pub key_of_equal : (x y : Descriptor) → IsGrantorOf all x.grantor → IsGrantorOf all y.grantor → IsGranteeOf all x.grantable x.grantee → IsGranteeOf all y.grantable y.grantee → descriptor_cmp x y ≡ Equal → HasKeyOf x y
  key_of_equal x y p q r s e =
      let table = then_equal (name_cmp x.table y.table) (ordering_then (nat_cmp (action_number x.action) (action_number y.action)) (ordering_then (option_cmp nat_cmp x.column y.column) (ordering_then (name_cmp (grantor_name x.grantor) (grantor_name y.grantor)) (name_cmp (grantee_name x.grantee) (grantee_name y.grantee))))) e in
      let number = then_equal (nat_cmp (action_number x.action) (action_number y.action)) (ordering_then (option_cmp nat_cmp x.column y.column) (ordering_then (name_cmp (grantor_name x.grantor) (grantor_name y.grantor)) (name_cmp (grantee_name x.grantee) (grantee_name y.grantee)))) table.1 in
      let place = then_equal (option_cmp nat_cmp x.column y.column) (ordering_then (name_cmp (grantor_name x.grantor) (grantor_name y.grantor)) (name_cmp (grantee_name x.grantee) (grantee_name y.grantee))) number.1 in
      let who = then_equal (name_cmp (grantor_name x.grantor) (grantor_name y.grantor)) (name_cmp (grantee_name x.grantee) (grantee_name y.grantee)) place.1 in
      record {
        table = sym (names_same x.table y.table table.0);
        action = sym (numbered_same x.action y.action number.0);
        column = sym (columns_same x.column y.column place.0);
        grantor = grantors_same y.grantor x.grantor q p (sym (names_same (grantor_name x.grantor) (grantor_name y.grantor) who.0));
        grantee = grantees_same y.grantee x.grantee y.grantable x.grantable s r (sym (names_same (grantee_name x.grantee) (grantee_name y.grantee) who.1));
      }

  module _ (set : List Descriptor) (w : IsWholeSet all set) (d : Descriptor) (n : MayBeGranted all set d) where
    key_with : (y : Descriptor) → Among y set → descriptor_cmp d y ≡ Equal → HasKeyOf d y
    key_with y h e = key_of_equal d y n.grantor (w y h).grantor n.grantee (w y h).grantee e

    pub kept_old : (p : Descriptor) → Among p set → IsCoveredIn (granted d set) p
    kept_old p h = elim (put_old descriptor_cmp with_option_of d set p h) [
      | inl stays ↦ (p, stays, covers_itself p)
      | inr joins ↦ (with_option_of p d, joins.1, record { key = option_key p p (p.grantable || d.grantable) (own_key p); option = λ e. or_left p.grantable d.grantable e })
    ]

    pub kept_new : IsCoveredIn (granted d set) d
    kept_new = elim (put_new descriptor_cmp with_option_of d set) [
      | inl stays ↦ (d, stays, covers_itself d)
      | inr joins ↦ (with_option_of joins.0 d, joins.3, record { key = option_key d joins.0 (joins.0.grantable || d.grantable) (key_with joins.0 joins.1 joins.2); option = λ e. or_right joins.0.grantable d.grantable e })
    ]

    supported_old : (p x : Descriptor) → Among p set → HasKeyOf p x → Among x (granted d set) → IsSupported (granted d set) x
    supported_old p x h k g =
        let at = supported_covered set (granted d set) kept_old p (w p h).supported in
        same_support (granted d set) at.0 x (record { table = k.table ∙ sym at.2.key.table; action = k.action ∙ sym at.2.key.action; column = k.column ∙ sym at.2.key.column; grantor = k.grantor ∙ sym at.2.key.grantor; grantee = k.grantee ∙ sym at.2.key.grantee }) g at.1

    supported_new : (x : Descriptor) → d ≡ x → Among x (granted d set) → IsBacked set d → IsSupported (granted d set) x
    supported_new x is g (inl system) = by_start x g (subst (λ (y : Descriptor). is_of_system y ≡ true) is system)
    supported_new x is g (inr by) =
        let at = supported_covered set (granted d set) kept_old by.0 by.1 in
        by_step at.0 x at.1 g (subst (λ (y : Descriptor). supports at.0 y ≡ true) is (supports_covered by.0 d at.0 d at.2 (own_key d) by.2))

    whole_from : (x : Descriptor) → Among x (granted d set) → PutFrom descriptor_cmp with_option_of d set x → IsWholeDescriptor all (granted d set) x
    whole_from x g (fresh is) = record {
      grantor = subst (λ (y : Descriptor). IsGrantorOf all y.grantor) is n.grantor;
      grantee = subst (λ (y : Descriptor). IsGranteeOf all y.grantable y.grantee) is n.grantee;
      supported = supported_new x is g n.backed;
    }
    whole_from x g (there h) = record { grantor = (w x h).grantor; grantee = (w x h).grantee; supported = supported_old x x h (own_key x) g }
    whole_from x g (merged y h e is) = record {
      grantor = subst (λ (z : Descriptor). IsGrantorOf all z.grantor) is (w y h).grantor;
      grantee = subst (λ (z : Descriptor). IsGranteeOf all z.grantable z.grantee) is
          (granted_or all y.grantee y.grantable d.grantable (w y h).grantee (subst (IsGranteeOf all d.grantable) (sym (key_with y h e).grantee) n.grantee));
      supported = supported_old y x h (subst (λ (z : Descriptor). HasKeyOf y z) is (option_key y y (y.grantable || d.grantable) (own_key y))) g;
    }

    pub granted_whole : IsWholeSet all (granted d set)
    granted_whole x g = whole_from x g (of_put descriptor_cmp with_option_of d set x g)

  -- ---- grants, one after the other

  -- what some grants leave: whole, and each of the old and of the new descriptors is there, if perhaps with the option of another
  pub record AreGranted (set ds after : List Descriptor) : Type 0 where
    pub whole : IsWholeSet all after
    pub old : (p : Descriptor) → Among p set → IsCoveredIn after p
    pub new : (d : Descriptor) → Among d ds → IsCoveredIn after d

  covered_on : (middle after : List Descriptor) → ((p : Descriptor) → Among p middle → IsCoveredIn after p) → (d : Descriptor) → IsCoveredIn middle d → IsCoveredIn after d
  covered_on middle after f d at = let next = f at.0 at.1 in (next.0, next.1, covers_both d at.0 next.0 at.2 next.2)

  may_still : (old new : List Descriptor) → ((p : Descriptor) → Among p old → IsCoveredIn new p) → (d : Descriptor) → MayBeGranted all old d → MayBeGranted all new d
  may_still old new f d n = record { grantor = n.grantor; grantee = n.grantee; backed = backed_more old new f d n.backed }

  pub all_granted : (ds set : List Descriptor) → IsWholeSet all set → Each (MayBeGranted all set) ds → AreGranted set ds (with_descriptors ds set)
  all_granted [] set w n = record { whole = w; old = λ p h. (p, h, covers_itself p); new = λ d h. absurd h }
  all_granted (d ∷ ds) set w n =
      let first = n d (inl refl) in
      let rest : AreGranted (granted d set) ds (with_descriptors ds (granted d set)) =
      all_granted ds (granted d set) (granted_whole set w d first) (λ x h. may_still set (granted d set) (kept_old set w d first) x (n x (inr h))) in
      record {
        whole = rest.whole;
        old = λ p h. covered_on (granted d set) (with_descriptors ds (granted d set)) rest.old p (kept_old set w d first p h);
        new = λ x h. elim h [
          | inl is ↦ subst (IsCoveredIn (with_descriptors ds (granted d set))) is (covered_on (granted d set) (with_descriptors ds (granted d set)) rest.old d (kept_new set w d first))
          | inr later ↦ rest.new x later
        ];
      }

-- ---- the tables that they are for

abbrev IsForOne : List Table → Descriptor → Type 0
IsForOne tables d = OneOf (λ (t : Table). IsDescriptorOf t.definition d) tables

still_for : (t : TableOf) (y d : Descriptor) → IsDescriptorOf t y → IsDescriptorOf t (with_option_of y d)
still_for t y d k = record {
  table = k.table;
  column = k.column;
  action = k.action;
  system = λ system. let was = k.system system in
      subst (λ (z : Descriptor). Among z (owner_descriptors t.name t.owner)) (sym (descriptors_same y (with_option_of y d) (option_key y y (y.grantable || d.grantable) (own_key y)) (option_kept y.grantable d.grantable (owners_grantable t.name t.owner y was)))) was;
}

module _ (tables : List Table) where
  for_from : (d : Descriptor) (set : List Descriptor) → IsForOne tables d → Each (IsForOne tables) set → (x : Descriptor) → PutFrom descriptor_cmp with_option_of d set x → IsForOne tables x
  for_from d set n w x (fresh is) = subst (IsForOne tables) is n
  for_from d set n w x (there h) = w x h
  for_from d set n w x (merged y h e is) = let at = w y h in subst (IsForOne tables) is (at.0, at.1, still_for at.0.definition y d at.2)

  -- grants of descriptors for tables leave descriptors for tables
  pub all_for_tables : (ds set : List Descriptor) → Each (IsForOne tables) set → Each (IsForOne tables) ds → Each (IsForOne tables) (with_descriptors ds set)
  all_for_tables [] set w n = w
  all_for_tables (d ∷ ds) set w n = all_for_tables ds (granted d set) (λ x g. for_from d set (n d (inl refl)) w x (of_put descriptor_cmp with_option_of d set x g)) (λ x h. n x (inr h))
