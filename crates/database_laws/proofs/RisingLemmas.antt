-- Lists in rising order: what is put, dropped and changed leaves them so.
use Rattle.std.proofs.Common.{◌≡◌, Bool, true, false, not, cond, List, [], ◌∷◌, filter, Option, Ok, Err, refl, sym, ap, ◌∙◌, inl, inr, Ordering, Less, Equal, nat_cmp}
use Rattle.std.specs.Cmp.{IsTotalOrder}
use Rattle.std.specs.Cmp.Lexicographic.{options_total}
use Rattle.std.specs.Option.{option_cmp}
use Rattle.std.proofs.lemmas.Cmp.{nat_cmp_total, then_total}
use Rattle.sql_types.specs.declared.state.SqlState.TheVariants.{InvalidGrantOperation, DependentPrivileges}
use Rattle.abstract_database.specs.Lists.{TheName, Among, name_cmp, put, the_new, change_where, change_first, drop_where, Rising}
use Rattle.abstract_database.specs.Database.{Table, is_table_named, role_cmp, membership_cmp, table_cmp, descriptor_cmp, policy_cmp, action_number, grantor_name, grantee_name}
use Rattle.sql_types.specs.Row.{Row}
use Rattle.abstract_database.specs.Roles.{with_memberships, without_memberships, is_in, raised, is_named_by}
use Rattle.abstract_database.specs.Privileges.{with_descriptors, revoked, granted, with_option_of, is_taken_by, without_option, without_named, held_or_refused, held, abandoned, is_cascade, is_supported}
use Rattle.sql_ast.specs.declared.role.Membership.{Membership}
use Rattle.sql_ast.specs.declared.privilege.Descriptor.{Descriptor}
use Rattle.sql_ast.specs.declared.policy.Policy.{Policy}
use Rattle.sql_ast.specs.declared.statement.DropBehavior.{DropBehavior}
use Rattle.sql_ast.specs.declared.statement.RowSecurityChange.{RowSecurityChange}
use Rattle.abstract_database.proofs.RisingPuts.{put_rises}
use Rattle.abstract_database.proofs.ResultLemmas.{Every, every_ok, every_err}
use Rattle.database_laws.proofs.RowLemmas.{Part, none, keep, skip, rising_part}
use Rattle.database_laws.proofs.PrivilegeLemmas.{names_total}
use Rattle.sql_ast.specs.declared.statement.RowSecurityChange.TheVariants as change
use Rattle.abstract_database.specs.Definitions.{with_row_security}

-- ---- the orders

pub roles_total : IsTotalOrder role_cmp
roles_total = record { antisymm = λ a b. names_total.antisymm a.name b.name; trans = λ a b c. names_total.trans a.name b.name c.name; congr = λ a b c. names_total.congr a.name b.name c.name }

pub tables_total : IsTotalOrder table_cmp
tables_total = record { antisymm = λ a b. names_total.antisymm a.definition.name b.definition.name; trans = λ a b c. names_total.trans a.definition.name b.definition.name c.definition.name; congr = λ a b c. names_total.congr a.definition.name b.definition.name c.definition.name }

by_name : {X : Type 0} (f : X → TheName) → IsTotalOrder (λ (a b : X). name_cmp (f a) (f b))
by_name f = record { antisymm = λ a b. names_total.antisymm (f a) (f b); trans = λ a b c. names_total.trans (f a) (f b) (f c); congr = λ a b c. names_total.congr (f a) (f b) (f c) }

by_action : IsTotalOrder (λ (a b : Descriptor). nat_cmp (action_number a.action) (action_number b.action))
by_action = record {
  antisymm = λ a b. nat_cmp_total.antisymm (action_number a.action) (action_number b.action);
  trans = λ a b c. nat_cmp_total.trans (action_number a.action) (action_number b.action) (action_number c.action);
  congr = λ a b c. nat_cmp_total.congr (action_number a.action) (action_number b.action) (action_number c.action);
}

by_column : IsTotalOrder (λ (a b : Descriptor). option_cmp nat_cmp a.column b.column)
by_column = record {
  antisymm = λ a b. (options_total nat_cmp_total).antisymm a.column b.column;
  trans = λ a b c. (options_total nat_cmp_total).trans a.column b.column c.column;
  congr = λ a b c. (options_total nat_cmp_total).congr a.column b.column c.column;
}

pub memberships_total : IsTotalOrder membership_cmp
memberships_total = then_total (by_name (λ (m : Membership). m.role)) (by_name (λ (m : Membership). m.member))

pub policies_total : IsTotalOrder policy_cmp
policies_total = then_total (by_name (λ (p : Policy). p.table)) (by_name (λ (p : Policy). p.name))

pub descriptors_total : IsTotalOrder descriptor_cmp
descriptors_total =
    then_total (by_name (λ (d : Descriptor). d.table))
    (then_total by_action
    (then_total by_column
    (then_total (by_name (λ (d : Descriptor). grantor_name d.grantor)) (by_name (λ (d : Descriptor). grantee_name d.grantee)))))

pub the_new_alike : {X : Type 0} (cmp : X → X → Ordering) → IsTotalOrder cmp → (x y z : X) → cmp x y ≡ Equal → cmp (the_new y x) z ≡ cmp y z
the_new_alike cmp total x y z e = total.congr x y z e

-- ---- dropping and changing

module _ {X : Type 0} (cmp : X → X → Ordering) where
  part_at : (f : X → Bool) (x : X) (xs : List X) (b : Bool) → Part (filter f xs) xs → Part (cond b (x ∷ filter f xs) (filter f xs)) (x ∷ xs)
  part_at f x xs true p = keep p
  part_at f x xs false p = skip p

  part_of_filter : (f : X → Bool) (xs : List X) → Part (filter f xs) xs
  part_of_filter f [] = none
  part_of_filter f (x ∷ xs) = part_at f x xs (f x) (part_of_filter f xs)

  pub filter_rises : (f : X → Bool) (xs : List X) → Rising cmp xs → Rising cmp (filter f xs)
  filter_rises f xs r = rising_part cmp (part_of_filter f xs) r

  pub dropped_rise : (f : X → Bool) (xs : List X) → Rising cmp xs → Rising cmp (drop_where f xs)
  dropped_rise f xs r = filter_rises (λ x. not (f x)) xs r

  module _ (test : X → Bool) (change : X → X) (alike : (x z : X) → (cmp (change x) z ≡ cmp x z) × (cmp z (change x) ≡ cmp z x)) where
    at_change : (b : Bool) (x z : X) → (cmp (cond b (change x) x) z ≡ cmp x z) × (cmp z (cond b (change x) x) ≡ cmp z x)
    at_change true x z = alike x z
    at_change false x z = (refl, refl)

    before_all : (z : X) (xs : List X) → ((w : X) → Among w xs → cmp z w ≡ Less) → (w : X) → Among w (change_where test change xs) → cmp z w ≡ Less
    before_all z [] h w k = absurd k
    before_all z (x ∷ xs) h w (inl is) = sym (ap (cmp z) is) ∙ (at_change (test x) x z).1 ∙ h x (inl refl)
    before_all z (x ∷ xs) h w (inr later) = before_all z xs (λ v k. h v (inr k)) w later

    all_changed_rise : (xs : List X) → Rising cmp xs → Rising cmp (change_where test change xs)
    all_changed_rise [] r = tt
    all_changed_rise (x ∷ xs) r = (λ w h. (at_change (test x) x w).0 ∙ before_all x xs r.0 w h, all_changed_rise xs r.1)

    before_first_at : (b : Bool) (z x : X) (xs : List X) → cmp z x ≡ Less → ((w : X) → Among w xs → cmp z w ≡ Less) → ((w : X) → Among w (change_first test change xs) → cmp z w ≡ Less) →
        (w : X) → Among w (cond b (change x ∷ xs) (x ∷ change_first test change xs)) → cmp z w ≡ Less
    before_first_at true z x xs a more go w (inl is) = sym (ap (cmp z) is) ∙ (alike x z).1 ∙ a
    before_first_at true z x xs a more go w (inr later) = more w later
    before_first_at false z x xs a more go w (inl is) = sym (ap (cmp z) is) ∙ a
    before_first_at false z x xs a more go w (inr later) = go w later

    before_first : (z : X) (xs : List X) → ((w : X) → Among w xs → cmp z w ≡ Less) → (w : X) → Among w (change_first test change xs) → cmp z w ≡ Less
    before_first z [] h w k = absurd k
    before_first z (x ∷ xs) h w k = before_first_at (test x) z x xs (h x (inl refl)) (λ v j. h v (inr j)) (before_first z xs (λ v j. h v (inr j))) w k

    changed_rise_at : (b : Bool) (x : X) (xs : List X) → Rising cmp (x ∷ xs) → Rising cmp (change_first test change xs) → Rising cmp (cond b (change x ∷ xs) (x ∷ change_first test change xs))
    changed_rise_at true x xs r go = (λ w h. (alike x w).0 ∙ r.0 w h, r.1)
    changed_rise_at false x xs r go = (before_first x xs r.0, go)

    pub changed_rise : (xs : List X) → Rising cmp xs → Rising cmp (change_first test change xs)
    changed_rise [] r = tt
    changed_rise (x ∷ xs) r = changed_rise_at (test x) x xs r (changed_rise xs r.1)

pub with_security_alike : (c : RowSecurityChange) (t u : Table) → (table_cmp (with_row_security c t) u ≡ table_cmp t u) × (table_cmp u (with_row_security c t) ≡ table_cmp u t)
with_security_alike change.Enable t u = (refl, refl)
with_security_alike change.Disable t u = (refl, refl)
with_security_alike change.Force t u = (refl, refl)
with_security_alike change.NoForce t u = (refl, refl)

pub rows_rise : (name : TheName) (rows : List Row) (tables : List Table) → Rising table_cmp tables → Rising table_cmp (change_first (is_table_named name) (λ t. record t { rows = rows }) tables)
rows_rise name rows tables r = changed_rise table_cmp (is_table_named name) (λ (t : Table). record t { rows = rows }) (λ t u. (refl, refl)) tables r

-- ---- memberships and descriptors

granted_at : (m : Membership) (ms memberships : List Membership) (b : Bool) → Every (Rising membership_cmp) (with_memberships ms (put membership_cmp raised m memberships)) →
    Every (Rising membership_cmp) (cond b (Err InvalidGrantOperation) (with_memberships ms (put membership_cmp raised m memberships)))
granted_at m ms memberships true go = every_err (Rising membership_cmp) InvalidGrantOperation
granted_at m ms memberships false go = go

pub granted_rise : (ms memberships : List Membership) → Rising membership_cmp memberships → Every (Rising membership_cmp) (with_memberships ms memberships)
granted_rise [] memberships r = every_ok (Rising membership_cmp) memberships r
granted_rise (m ∷ ms) memberships r =
    granted_at m ms memberships (is_in memberships m.role m.member)
    (granted_rise ms (put membership_cmp raised m memberships) (put_rises membership_cmp memberships_total raised (λ x y z e. refl) m memberships r))

pub revoked_rise : (option : Bool) (roles members : List TheName) (memberships : List Membership) → Rising membership_cmp memberships → Rising membership_cmp (without_memberships option roles members memberships)
revoked_rise false roles members memberships r = dropped_rise membership_cmp (is_named_by roles members) memberships r
revoked_rise true roles members memberships r = all_changed_rise membership_cmp (is_named_by roles members) (λ (m : Membership). record m { admin = false }) (λ x z. (refl, refl)) memberships r

pub with_descriptors_rise : (ds set : List Descriptor) → Rising descriptor_cmp set → Rising descriptor_cmp (with_descriptors ds set)
with_descriptors_rise [] set r = r
with_descriptors_rise (d ∷ ds) set r = with_descriptors_rise ds (granted d set) (put_rises descriptor_cmp descriptors_total with_option_of (λ x y z e. refl) d set r)

unnamed_rise : (option : Bool) (named set : List Descriptor) → Rising descriptor_cmp set → Rising descriptor_cmp (without_named option named set)
unnamed_rise false named set r = dropped_rise descriptor_cmp (is_taken_by named) set r
unnamed_rise true named set r = all_changed_rise descriptor_cmp (is_taken_by named) without_option (λ x z. (refl, refl)) set r

held_rise : (cascade : Bool) (set lost : List Descriptor) → Rising descriptor_cmp set → Every (Rising descriptor_cmp) (held_or_refused cascade set lost)
held_rise true set lost r = every_ok (Rising descriptor_cmp) (held set) (filter_rises descriptor_cmp (is_supported set) set r)
held_rise false set [] r = every_ok (Rising descriptor_cmp) set r
held_rise false set (d ∷ ds) r = every_err (Rising descriptor_cmp) DependentPrivileges

pub left_rise : (option : Bool) (behavior : Option DropBehavior) (named set after : List Descriptor) → revoked option behavior named set ≡ Ok after → Rising descriptor_cmp set → Rising descriptor_cmp after
left_rise option behavior named set after e r =
    held_rise (is_cascade behavior) (without_named option named set) (abandoned (without_named option named set)) (unnamed_rise option named set r) after e
