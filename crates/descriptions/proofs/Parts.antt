-- What is found among the parts of one table is what is found among those of all.
use Rattle.std.proofs.Common.{◌≡◌, Bool, true, false, not, ◌&&◌, ◌||◌, cond, List, [], ◌∷◌, filter, flat_map, find, bytes_eq, Option, Some, refl, sym, ap, ◌∙◌}
use Rattle.std.specs.List.{list_any}
use Rattle.sql_ast.specs.declared.privilege.Action.{Action}
use Rattle.sql_ast.specs.declared.privilege.Descriptor.{Descriptor}
use Rattle.sql_ast.specs.declared.privilege.Grantee.{Grantee}
use Rattle.sql_ast.specs.declared.privilege.Grantee.TheVariants as grantee
use Rattle.sql_ast.specs.declared.privilege.Privilege.{Privilege}
use Rattle.abstract_database.specs.Lists.{TheName, Among, has_name}
use Rattle.abstract_database.specs.Database.{Database, is_role_named, same_action}
use Rattle.abstract_database.specs.Roles.{is_superuser, acts_as_owner}
use Rattle.abstract_database.specs.Privileges.{covers, is_for, reaches, role_of, has_privilege, grant_option_holders, holder_for, acting_grantor}
use Rattle.abstract_database.specs.Guards.{is_guarded, is_for_action, is_for_role, applicable}
use Rattle.stored_database.specs.Definitions.{TableDefinition, Definitions, database_with, database_of, descriptors_of}
use Rattle.stored_database.specs.Valid.{Describes}
use Rattle.stored_database.proofs.TableParts.{descriptors_found}
use Rattle.policy_composer.specs.Formulas.{applies}
use Rattle.policy_composer.specs.Guarding.{exempts, guards_from}
use Rattle.grant_graph.specs.Acting.{table_of}
use Rattle.sql_ast.specs.declared.role.Role.{Role}
use Rattle.sql_ast.specs.declared.role.Membership.{Membership}
use Rattle.policy_composer.proofs.Applicable.{applies_to_role, of_table}
use Rattle.policy_composer.proofs.Exempt.{guarded}
use Rattle.descriptions.specs.Descriptions.{AreItsRoles, given_to, is_one}

-- ---- lists

module _ {X : Type 0} (own test : X → Bool) (only : (x : X) → own x ≡ false → test x ≡ false) where
  any_at : (x : X) (xs : List X) (b : Bool) → own x ≡ b → list_any test xs ≡ list_any test (filter own xs) → (test x || list_any test xs) ≡ list_any test (cond b (x ∷ filter own xs) (filter own xs))
  any_at x xs true e h = ap (λ c. test x || c) h
  any_at x xs false e h = ap (λ c. c || list_any test xs) (only x e) ∙ h

  pub any_own : (xs : List X) → list_any test xs ≡ list_any test (filter own xs)
  any_own [] = refl
  any_own (x ∷ xs) = any_at x xs (own x) refl (any_own xs)

  filter_at : (x : X) (xs : List X) (b : Bool) → own x ≡ b → filter test xs ≡ filter test (filter own xs) → cond (test x) (x ∷ filter test xs) (filter test xs) ≡ filter test (cond b (x ∷ filter own xs) (filter own xs))
  filter_at x xs true e h = ap (λ l. cond (test x) (x ∷ l) l) h
  filter_at x xs false e h = ap (λ c. cond c (x ∷ filter test xs) (filter test xs)) (only x e) ∙ h

  pub filter_own : (xs : List X) → filter test xs ≡ filter test (filter own xs)
  filter_own [] = refl
  filter_own (x ∷ xs) = filter_at x xs (own x) refl (filter_own xs)

pub any_alike : {X : Type 0} (f g : X → Bool) (xs : List X) → ((x : X) → f x ≡ g x) → list_any f xs ≡ list_any g xs
any_alike f g [] h = refl
any_alike f g (x ∷ xs) h = ap (λ b. b || list_any f xs) (h x) ∙ ap (λ b. g x || b) (any_alike f g xs h)

pub filter_alike : {X : Type 0} (f g : X → Bool) (xs : List X) → ((x : X) → f x ≡ g x) → filter f xs ≡ filter g xs
filter_alike f g [] h = refl
filter_alike f g (x ∷ xs) h = ap (λ b. cond b (x ∷ filter f xs) (filter f xs)) (h x) ∙ ap (λ l. cond (g x) (x ∷ l) l) (filter_alike f g xs h)

module _ {X : Type 0} (own f g : X → Bool) (alike : (x : X) → f x ≡ g x) where
  and_at : (x : X) (ys zs : List X) (b : Bool) → ys ≡ filter g zs → cond (b && f x) (x ∷ ys) ys ≡ filter g (cond b (x ∷ zs) zs)
  and_at x ys zs true e = ap (λ c. cond c (x ∷ ys) ys) (alike x) ∙ ap (λ l. cond (g x) (x ∷ l) l) e
  and_at x ys zs false e = e

  pub filter_and : (xs : List X) → filter (λ x. own x && f x) xs ≡ filter g (filter own xs)
  filter_and [] = refl
  filter_and (x ∷ xs) = and_at x (filter (λ y. own y && f y) xs) (filter own xs) (own x) (filter_and xs)

-- ---- a table of a database

module _ (d : Definitions) (t : TableDefinition) (role : TheName) (set : List TheName) (has : AreItsRoles d.memberships role set) (db : Database) (described : Describes d db) (among : Among t d.tables) where
  abbrev the_name : TheName
  the_name = t.definition.name

  abbrev is_own : Descriptor → Bool
  is_own e = bytes_eq e.table the_name

  abbrev whole : Database
  whole = database_with d described.rows

  own_descriptors : filter is_own (descriptors_of d.tables) ≡ t.descriptors
  own_descriptors = descriptors_found d described.valid t among

  one_reaches : (g : Grantee) → reaches d.memberships role g ≡ is_one set g
  one_reaches grantee.Public = refl
  one_reaches (grantee.Role name) = sym (has name)

  pub given : given_to db role the_name ≡ filter (λ e. is_one set e.grantee) t.descriptors
  given =
      ap (λ (x : Database). given_to x role the_name) described.is
      ∙ filter_and is_own (λ e. reaches d.memberships role e.grantee) (λ e. is_one set e.grantee) (λ e. one_reaches e.grantee) (descriptors_of d.tables)
      ∙ ap (filter (λ (e : Descriptor). is_one set e.grantee)) own_descriptors

  pub held : (p : Privilege) → has_privilege db role the_name p ≡ (is_superuser (database_of d) role || list_any (λ e. is_for the_name p e && is_one set e.grantee) t.descriptors)
  held p =
      ap (λ (x : Database). has_privilege x role the_name p) described.is
      ∙ ap (λ b. is_superuser (database_of d) role || b)
      (any_own is_own (λ e. is_for the_name p e && reaches d.memberships role e.grantee) (λ e differs. ap (λ b. (b && same_action e.action p.action && covers e.column p.column) && reaches d.memberships role e.grantee) differs) (descriptors_of d.tables)
      ∙ any_alike (λ e. is_for the_name p e && reaches d.memberships role e.grantee) (λ e. is_for the_name p e && is_one set e.grantee) (filter is_own (descriptors_of d.tables)) (λ e. ap (λ b. is_for the_name p e && b) (one_reaches e.grantee))
      ∙ ap (list_any (λ (e : Descriptor). is_for the_name p e && is_one set e.grantee)) own_descriptors)

  pub held_among : (p : Privilege) (name : TheName) (es : List Descriptor) (superuser found : Bool) → name ≡ the_name → es ≡ t.descriptors
      → superuser ≡ is_superuser (database_of d) role → superuser ≡ false → found ≡ list_any (λ e. is_for name p e && is_one set e.grantee) es
      → found ≡ has_privilege db role the_name p
  held_among p name es superuser found same_name same_list is none e =
      e
      ∙ ap (λ n. list_any (λ x. is_for n p x && is_one set x.grantee) es) same_name
      ∙ ap (list_any (λ (x : Descriptor). is_for the_name p x && is_one set x.grantee)) same_list
      ∙ ap (λ b. b || list_any (λ x. is_for the_name p x && is_one set x.grantee) t.descriptors) (sym (sym is ∙ none))
      ∙ sym (held p)

  pub held_by_superuser : (p : Privilege) (superuser : Bool) → superuser ≡ is_superuser (database_of d) role → superuser ≡ true → true ≡ has_privilege db role the_name p
  held_by_superuser p superuser is so =
      ap (λ b. b || list_any (λ x. is_for the_name p x && is_one set x.grantee) t.descriptors) (sym so ∙ is)
      ∙ sym (held p)

  -- ---- who grants

  holders : (p : Privilege) → grant_option_holders (descriptors_of d.tables) the_name p ≡ grant_option_holders t.descriptors the_name p
  holders p =
      ap (flat_map (λ (e : Descriptor). role_of e.grantee))
      (filter_own is_own (λ e. is_for the_name p e && e.grantable) (λ e differs. ap (λ b. (b && same_action e.action p.action && covers e.column p.column) && e.grantable) differs) (descriptors_of d.tables)
      ∙ ap (filter (λ (e : Descriptor). is_for the_name p e && e.grantable)) own_descriptors)

  pub grants : (p : Privilege) → acting_grantor db role t.definition p
      ≡ cond (acts_as_owner (database_of d) role t.definition.owner) (Some t.definition.owner) (holder_for (database_of d) role (grant_option_holders t.descriptors the_name p))
  grants p =
      ap (λ (x : Database). acting_grantor x role t.definition p) described.is
      ∙ ap (λ l. cond (acts_as_owner (database_of d) role t.definition.owner) (Some t.definition.owner) (holder_for (database_of d) role l)) (holders p)

  abbrev grantor_in : List Role → List Membership → List Descriptor → TheName → TheName → Privilege → Option TheName
  grantor_in roles memberships es name owner p =
      acting_grantor (record { roles = roles; memberships = memberships; tables = []; descriptors = es; policies = [] }) role (table_of name owner) p

  pub grants_among : (p : Privilege) (roles : List Role) (memberships : List Membership) (es : List Descriptor) (name owner : TheName) (by : Option TheName)
      → roles ≡ d.roles → memberships ≡ d.memberships → es ≡ t.descriptors → name ≡ the_name → owner ≡ t.definition.owner
      → by ≡ grantor_in roles memberships es name owner p → by ≡ acting_grantor db role t.definition p
  grants_among p roles memberships es name owner by e f g h k is =
      is
      ∙ ap (λ x. grantor_in x memberships es name owner p) e
      ∙ ap (λ x. grantor_in d.roles x es name owner p) f
      ∙ ap (λ x. grantor_in d.roles d.memberships x name owner p) g
      ∙ ap (λ x. grantor_in d.roles d.memberships t.descriptors x owner p) h
      ∙ ap (λ x. grantor_in d.roles d.memberships t.descriptors the_name x p) k
      ∙ sym (grants p)

  -- ---- row security

  pub guards_alike : (enabled exempt forced in_owner : Bool) (owner : TheName) → enabled ≡ t.definition.row_security → exempt ≡ exempts (find (is_role_named role) d.roles)
      → forced ≡ t.definition.forced → owner ≡ t.definition.owner → in_owner ≡ has_name owner set
      → (enabled && not exempt && (forced || not in_owner)) ≡ guards_from set (find (is_role_named role) d.roles) t.definition
  guards_alike enabled exempt forced in_owner owner e f g h k = cc

  pub concerned : guards_from set (find (is_role_named role) d.roles) t.definition ≡ is_guarded db role t.definition
  concerned =
      guarded whole role set t.definition described.valid.whole.order.roles has
      ∙ ap (λ (x : Database). is_guarded x role t.definition) (sym described.is)

  pub apply_there : (a : Action) → filter (applies set a) t.policies ≡ applicable db role t.definition a
  apply_there a =
      filter_alike (applies set a) (λ p. is_for_action a p.command && is_for_role d.memberships role p.roles) t.policies (applies_to_role d.memberships role set has a)
      ∙ sym (of_table (λ p. is_for_action a p.command) (λ p. is_for_role d.memberships role p.roles) d t described.valid among)
      ∙ ap (λ (x : Database). applicable x role t.definition a) (sym described.is)
