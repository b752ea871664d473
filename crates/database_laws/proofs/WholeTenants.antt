-- The databases of two tenants are whole.
use Rattle.std.proofs.Common.{◌≡◌, ◌≢◌, ◌<◌, ◌^◌, ◌&&◌, ◌||◌, ℕ, zero, suc, nat_lt, nat_le, pos, Bool, true, false, codes, length, bytes_eq, List, [], ◌∷◌, slice_get, slice_index_or, IsAscii, FitsSigned, None, refl, sym, ap, ◌∙◌, subst, inl, inr, arith, Less}
use Rattle.std.specs.Int.{w64}
use Rattle.std.specs.List.{list_all, list_any}
use Rattle.std.specs.Ordering.{is_lt}
use Rattle.std.specs.declared.cmp.Ordering.{Ordering}
use Rattle.std.specs.declared.cmp.Ordering.TheVariants.{Equal, Greater}
use Rattle.std.proofs.lemmas.Bool.{and_parts, leb-true}
use Rattle.std.proofs.lemmas.Str.{IsUtf8-from_ascii}
use Prim.Native.String.{String}
use Rattle.sql_types.specs.Name.{IsUtf8Name}
use Rattle.sql_types.specs.Domain.{HasNoZero, IsText}
use Rattle.sql_types.specs.Row.{Row, value_at}
use Rattle.sql_ast.specs.declared.columns.Column.{Column}
use Rattle.sql_ast.specs.declared.policy.Policy.{Policy}
use Rattle.sql_ast.specs.declared.privilege.Action.{Action}
use Rattle.sql_ast.specs.declared.privilege.Action.TheVariants as action
use Rattle.sql_ast.specs.declared.privilege.Grantor.TheVariants as grantor
use Rattle.sql_ast.specs.declared.privilege.Grantee.TheVariants as grantee
use Rattle.sql_ast.specs.declared.privilege.Descriptor.{Descriptor}
use Rattle.sql_ast.specs.declared.role.Membership.{Membership}
use Rattle.sql_ast.specs.Fits.{FitsColumnIfAny, FitsTable}
use Rattle.sql_ast.specs.Rows.{row_cmp, KeepsLimits}
use Rattle.abstract_database.specs.Lists.{TheName, Among, Rising}
use Rattle.abstract_database.specs.Chains.{IsLedTo, by_start, by_step}
use Rattle.abstract_database.specs.Roles.{is_of_member, leads_on}
use Rattle.abstract_database.specs.Database.{Table, Database, role_cmp, membership_cmp, table_cmp, descriptor_cmp, policy_cmp}
use Rattle.abstract_database.specs.Privileges.{supports, owner_descriptor, owner_descriptors}
use Rattle.abstract_database.specs.Whole.{Each, OneOf, IsRoleOf, IsWholeRole, IsWholeMembership, IsWholeTable, AreWholeRows, IsWholeDescriptor, IsDescriptorOf, HasOwnerDescriptors, IsWholePolicy, IsPolicyOf, HasWholeDefinitions, HasWholeRows, IsWhole}
use Rattle.abstract_database.proofs.ListLemmas.{same_bytes}
use Rattle.database_laws.specs.TwoTenants.{notes, own_notes, note, of_app, with_notes, first, second}
use Rattle.database_laws.proofs.RowLemmas.{all_of_list}

-- ---- lists, element by element

abbrev AllOf : {X : Type 0} → (X → Type 0) → List X → Type 0
AllOf P [] = Unit {0}
AllOf P (x ∷ xs) = P x × AllOf P xs

each_in : {X : Type 0} (P : X → Type 0) (xs : List X) → AllOf P xs → Each P xs
each_in P [] all x h = absurd h
each_in P (y ∷ ys) all x (inl is) = subst P is all.0
each_in P (y ∷ ys) all x (inr h) = each_in P ys all.1 x h

module _ {X : Type 0} (cmp : X → X → Ordering) where
  abbrev rises : List X → Bool
  rises [] = true
  rises (x ∷ xs) = list_all (λ y. is_lt (cmp x y)) xs && rises xs

  less_if : (o : Ordering) → is_lt o ≡ true → o ≡ Less
  less_if Less e = refl
  less_if Equal e = cc
  less_if Greater e = cc

  rising_if : (xs : List X) → rises xs ≡ true → Rising cmp xs
  rising_if [] e = tt
  rising_if (x ∷ xs) e =
      let parts = and_parts (list_all (λ y. is_lt (cmp x y)) xs) (rises xs) e in
      (λ y h. less_if (cmp x y) (all_of_list (λ z. is_lt (cmp x z)) xs parts.0 y h), rising_if xs parts.1)

-- ---- names

-- ASCII, and not zero
abbrev is_plain_byte : ℕ → Bool
is_plain_byte b = nat_lt 0 b && nat_le b 127

abbrev is_plain : List ℕ → Bool
is_plain bytes = list_all is_plain_byte bytes

plain_parts : (b : ℕ) (bs : List ℕ) → is_plain (b ∷ bs) ≡ true → (b ≢ 0) × (b < 128) × (is_plain bs ≡ true)
plain_parts b bs e =
    let parts = and_parts (is_plain_byte b) (is_plain bs) e in
    let byte = and_parts (nat_lt 0 b) (nat_le b 127) parts.0 in
    let below = leb-true b 127 byte.1 in
    (λ is. (let wrong : false ≡ true = sym (ap (nat_lt 0) is) ∙ byte.0 in cc), omega (arith, below), parts.1)

no_zeros : (bytes : List ℕ) → is_plain bytes ≡ true → HasNoZero bytes
no_zeros [] e = tt
no_zeros (b ∷ bs) e = let parts = plain_parts b bs e in (parts.0, no_zeros bs parts.2)

none_at : (bytes : List ℕ) → HasNoZero bytes → (k d : ℕ) → k < length bytes → slice_index_or bytes k d ≢ 0
none_at [] h k d lt = absurd (omega (arith, lt))
none_at (b ∷ bs) h zero d lt = h.0
none_at (b ∷ bs) h (suc k) d lt = none_at bs h.1 k d (omega (arith, lt))

all_ascii : (bytes : List ℕ) → is_plain bytes ≡ true → IsAscii bytes
all_ascii [] e i = omega arith
all_ascii (b ∷ bs) e zero = (plain_parts b bs e).1
all_ascii (b ∷ bs) e (suc i) = all_ascii bs (plain_parts b bs e).2 i

name_of : (bytes : List ℕ) → (nat_le 1 (length bytes) && nat_le (length bytes) 63) ≡ true → is_plain bytes ≡ true → IsUtf8Name bytes
name_of bytes sized plain =
    let sizes = and_parts (nat_le 1 (length bytes)) (nat_le (length bytes) 63) sized in
    let some = leb-true 1 (length bytes) sizes.0 in
    record {
      name = record { some_byte = omega (arith, some); few_bytes = leb-true (length bytes) 63 sizes.1; no_zero = none_at bytes (no_zeros bytes plain) };
      utf8 = IsUtf8-from_ascii bytes (all_ascii bytes plain);
    }

text_of : (bytes : List ℕ) → is_plain bytes ≡ true → IsText bytes
text_of bytes plain = record { utf8 = IsUtf8-from_ascii bytes (all_ascii bytes plain); no_zero = no_zeros bytes plain }

ann_name : IsUtf8Name (codes "ann")
ann_name = name_of (codes "ann") refl refl

app_name : IsUtf8Name (codes "app")
app_name = name_of (codes "app") refl refl

bob_name : IsUtf8Name (codes "bob")
bob_name = name_of (codes "bob") refl refl

root_name : IsUtf8Name (codes "root")
root_name = name_of (codes "root") refl refl

notes_name : IsUtf8Name (codes "notes")
notes_name = name_of (codes "notes") refl refl

tenant_name : IsUtf8Name (codes "tenant")
tenant_name = name_of (codes "tenant") refl refl

k_name : IsUtf8Name (codes "k")
k_name = name_of (codes "k") refl refl

own_name : IsUtf8Name (codes "own")
own_name = name_of (codes "own") refl refl

-- ---- memberships

abbrev memberships_of_app : List Membership
memberships_of_app = of_app "ann" ∷ of_app "bob" ∷ []

none_starts : (name : TheName) (ms : List Membership) → list_any (is_of_member name) ms ≡ false → (m : Membership) → Among m ms → is_of_member name m ≡ true → ⊥
none_starts name [] none m among start = absurd among
none_starts name (x ∷ xs) none m (inl is) start = by (is_of_member name x) (ap (λ (y : Membership). is_of_member name y) is ∙ start) none where
  by : (b : Bool) → b ≡ true → (b || list_any (is_of_member name) xs) ≡ false → ⊥
  by true e f = cc
  by false e f = cc
none_starts name (x ∷ xs) none m (inr among) start = none_starts name xs (rest (is_of_member name x) none) m among start where
  rest : (b : Bool) → (b || list_any (is_of_member name) xs) ≡ false → list_any (is_of_member name) xs ≡ false
  rest true e = cc
  rest false e = e

-- a role that is a member of none leads to none
leads_nowhere : (name : TheName) (ms : List Membership) → list_any (is_of_member name) ms ≡ false → (m : Membership) → IsLedTo (is_of_member name) leads_on ms m → ⊥
leads_nowhere name ms none m (by_start x among start) = none_starts name ms none x among start
leads_nowhere name ms none m (by_step p x led among step) = leads_nowhere name ms none p led

of_app_whole : (role : String) → list_any (is_of_member (codes role)) memberships_of_app ≡ false → bytes_eq (codes role) (codes "app") ≡ false → (rows : List Row) →
    IsRoleOf (with_notes rows).roles (codes role) → IsWholeMembership (with_notes rows).roles memberships_of_app (of_app role)
of_app_whole role none other rows there = record {
  role = there;
  member = refl;
  no_cycle = λ in_app. elim in_app [
    | inl same ↦ (let wrong : true ≡ false = sym (same_bytes (codes role) (codes "app") same) ∙ other in cc)
    | inr chain ↦ leads_nowhere (codes role) memberships_of_app none chain.0 chain.1
  ];
}

-- ---- rows

small : (n : ℕ) → n < 2 ^ 63 → FitsSigned w64 (pos n)
small n lt = record { sfits = lt }

fits_at : (tenant : String) (n : ℕ) → IsText (codes tenant) → n < 2 ^ 63 → (index : ℕ) → FitsColumnIfAny (slice_get notes.layout.columns index) (value_at (note tenant n) index)
fits_at tenant n text lt zero = text
fits_at tenant n text lt (suc zero) = small n lt
fits_at tenant n text lt (suc (suc index)) = tt

fits : (tenant : String) (n : ℕ) → IsText (codes tenant) → n < 2 ^ 63 → KeepsLimits notes.layout (note tenant n) → FitsTable notes.layout (note tenant n)
fits tenant n text lt limits = record { columns = record { width = refl; each = fits_at tenant n text lt }; limits = limits }

ann_fits : FitsTable notes.layout (note "ann" 1)
ann_fits = fits "ann" 1 (text_of (codes "ann") refl) (omega arith) (record { key = leb-true _ _ refl; others = leb-true _ _ refl })

bob_text : IsText (codes "bob")
bob_text = text_of (codes "bob") refl

first_rows : HasWholeRows first
first_rows = each_in (λ (t : Table). AreWholeRows t.definition.layout t.rows) first.tables (
  record {
    fit = each_in (FitsTable notes.layout) (note "ann" 1 ∷ note "bob" 1 ∷ []) (ann_fits, (fits "bob" 1 bob_text (omega arith) (record { key = leb-true _ _ refl; others = leb-true _ _ refl }), tt));
    order = rising_if (row_cmp notes.layout.key) (note "ann" 1 ∷ note "bob" 1 ∷ []) refl;
  },
  tt,
)

bob_fits : (n : ℕ) → n < 2 ^ 63 → KeepsLimits notes.layout (note "bob" n) → FitsTable notes.layout (note "bob" n)
bob_fits n lt limits = fits "bob" n bob_text lt limits

second_rows : HasWholeRows second
second_rows = each_in (λ (t : Table). AreWholeRows t.definition.layout t.rows) second.tables (
  record {
    fit = each_in (FitsTable notes.layout) (note "ann" 1 ∷ note "bob" 2 ∷ note "bob" 3 ∷ []) (
      ann_fits,
      (
        bob_fits 2 (omega arith) (record { key = leb-true _ _ refl; others = leb-true _ _ refl }),
        (
          bob_fits 3 (omega arith) (record { key = leb-true _ _ refl; others = leb-true _ _ refl }),
          tt,
        ),
      ),
    );
    order = rising_if (row_cmp notes.layout.key) (note "ann" 1 ∷ note "bob" 2 ∷ note "bob" 3 ∷ []) refl;
  },
  tt,
)

-- ---- definitions

module _ (rows : List Row) where
  abbrev db : Database
  db = with_notes rows

  abbrev to_owner : Action → Descriptor
  to_owner a = owner_descriptor notes.name notes.owner a

  abbrev to_public : Action → Descriptor
  to_public a = record { grantor = grantor.Role notes.owner; grantee = grantee.Public; table = notes.name; action = a; column = None; grantable = false }

  -- what is so of each action's two is so of all
  by_action : (Q : Descriptor → Type 0) → ((a : Action) → Q (to_owner a)) → ((a : Action) → Q (to_public a)) → Each Q db.descriptors
  by_action Q own public =
      let delete : AllOf Q (to_owner action.Delete ∷ to_public action.Delete ∷ []) = (own action.Delete, (public action.Delete, tt)) in
      let update : AllOf Q (to_owner action.Update ∷ to_public action.Update ∷ to_owner action.Delete ∷ to_public action.Delete ∷ []) = (own action.Update, (public action.Update, delete)) in
      each_in Q db.descriptors (own action.Select, (public action.Select, (own action.Insert, (public action.Insert, update))))

  owner_at : (a : Action) → Among (to_owner a) db.descriptors
  owner_at action.Select = inl refl
  owner_at action.Insert = inr (inr (inl refl))
  owner_at action.Update = inr (inr (inr (inr (inl refl))))
  owner_at action.Delete = inr (inr (inr (inr (inr (inr (inl refl))))))

  public_at : (a : Action) → Among (to_public a) db.descriptors
  public_at action.Select = inr (inl refl)
  public_at action.Insert = inr (inr (inr (inl refl)))
  public_at action.Update = inr (inr (inr (inr (inr (inl refl)))))
  public_at action.Delete = inr (inr (inr (inr (inr (inr (inr (inl refl)))))))

  supported : (a : Action) → supports (to_owner a) (to_public a) ≡ true
  supported action.Select = refl
  supported action.Insert = refl
  supported action.Update = refl
  supported action.Delete = refl

  descriptors_whole : Each (IsWholeDescriptor db.roles db.descriptors) db.descriptors
  descriptors_whole = by_action (IsWholeDescriptor db.roles db.descriptors)
      (λ a. record { grantor = tt; grantee = refl; supported = by_start (to_owner a) (owner_at a) refl })
      (λ a. record { grantor = refl; grantee = refl; supported = by_step (to_owner a) (to_public a) (by_start (to_owner a) (owner_at a) refl) (public_at a) (supported a) })

  among_owners : (a : Action) → Among (to_owner a) (owner_descriptors notes.name notes.owner)
  among_owners action.Select = inl refl
  among_owners action.Insert = inr (inl refl)
  among_owners action.Update = inr (inr (inl refl))
  among_owners action.Delete = inr (inr (inr (inl refl)))

  abbrev ForNotes : Descriptor → Type 0
  ForNotes d = OneOf (λ (t : Table). IsDescriptorOf t.definition d) db.tables

  all_for_notes : Each ForNotes db.descriptors
  all_for_notes = by_action ForNotes
      (λ a. (record { definition = notes; rows = rows }, inl refl, record { table = refl; column = tt; action = λ e. refl; system = λ e. among_owners a }))
      (λ a. (record { definition = notes; rows = rows }, inl refl, record { table = refl; column = tt; action = λ e. refl; system = λ e. cc }))

  owner_has_all : Each (λ (t : Table). HasOwnerDescriptors db.descriptors t.definition) db.tables
  owner_has_all = each_in (λ (t : Table). HasOwnerDescriptors db.descriptors t.definition) db.tables (
    each_in (λ (d : Descriptor). Among d db.descriptors) (owner_descriptors notes.name notes.owner)
        (owner_at action.Select, (owner_at action.Insert, (owner_at action.Update, (owner_at action.Delete, tt)))),
    tt,
  )

  notes_whole : IsWholeTable db.roles notes
  notes_whole = record {
    name = notes_name;
    owner = refl;
    layout = record { some_column = omega arith; few_columns = omega arith; names_differ = refl; some_key = omega arith; key_differs = refl; key_not_null = refl };
    columns = each_in (λ (c : Column). IsUtf8Name c.name) notes.layout.columns (tenant_name, (k_name, tt));
  }

  own_whole : IsWholePolicy db.roles own_notes
  own_whole = record {
    name = own_name;
    roles = tt;
    using = record {
      text = text_of (codes "tenant = current_user") refl;
      expression = (record { table = tt; name = tenant_name }, tt);
    };
    check = tt;
    clauses = tt;
    size = leb-true _ _ refl;
  }

  definitions_whole : HasWholeDefinitions db
  definitions_whole = record {
    order = record {
      roles = rising_if role_cmp db.roles refl;
      memberships = rising_if membership_cmp db.memberships refl;
      tables = rising_if table_cmp db.tables refl;
      descriptors = rising_if descriptor_cmp db.descriptors refl;
      policies = rising_if policy_cmp db.policies refl;
    };
    roles = record {
      roles = each_in IsWholeRole db.roles (ann_name, (app_name, (bob_name, (root_name, tt))));
      memberships = each_in (IsWholeMembership db.roles db.memberships) db.memberships (of_app_whole "ann" refl refl rows refl, (of_app_whole "bob" refl refl rows refl, tt));
    };
    tables = record {
      tables = each_in (λ (t : Table). IsWholeTable db.roles t.definition) db.tables (notes_whole, tt);
      few = omega arith;
    };
    descriptors = record { descriptors = descriptors_whole; for_tables = all_for_notes; owners = owner_has_all };
    policies = record {
      policies = each_in (IsWholePolicy db.roles) db.policies (own_whole, tt);
      of_tables = each_in (λ (p : Policy). OneOf (λ (t : Table). IsPolicyOf t.definition p) db.tables) db.policies
          ((record { definition = notes; rows = rows }, inl refl, record { table = refl; using = refl; check = tt }), tt);
    };
  }

pub first_whole : IsWhole first
first_whole = record { definitions = definitions_whole (note "ann" 1 ∷ note "bob" 1 ∷ []); rows = first_rows }

pub second_whole : IsWhole second
second_whole = record { definitions = definitions_whole (note "ann" 1 ∷ note "bob" 2 ∷ note "bob" 3 ∷ []); rows = second_rows }
