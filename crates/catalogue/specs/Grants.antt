-- What the descriptors of a table give each grantee for each action.
use Rattle.std.specs.Prelude.{◌≡◌, ◌<◌, ◌+◌, ◌^◌, ◌&&◌, ℕ, Bool, false, nat_eq, nat_lt, cond, List, [], ◌∷◌, ◌++◌, Option, Some, None, is_none, option_to_list, bytes_eq}
use Rattle.std.specs.List.{list_any}
use Rattle.std.specs.Int.{bit_at}
use Rattle.std.specs.Int.Bits.{bit_or}
use Rattle.std.specs.Ordering.{nat_cmp, is_eq, ordering_then}
use Rattle.std.specs.declared.cmp.Ordering.{Ordering}
use Rattle.sql_ast.specs.declared.privilege.Action.{Action}
use Rattle.sql_ast.specs.declared.privilege.Descriptor.{Descriptor}
use Rattle.sql_ast.specs.declared.privilege.Grantee.{Grantee}
use Rattle.sql_ast.specs.declared.privilege.Grantee.TheVariants as grantee
use Rattle.abstract_database.specs.Lists.{TheName, name_cmp}
use Rattle.abstract_database.specs.Database.{action_number, same_action, grantee_name}
use Rattle.abstract_database.specs.Whole.{Each}
use Rattle.catalogue.specs.declared.grants.Granted.{Granted}

-- whether a descriptor is for this grantee: PUBLIC has the empty name
abbrev pub is_for : TheName → Descriptor → Bool
is_for g d = bytes_eq (grantee_name d.grantee) g

-- whether it gives the grantee the action, on its whole table or on a column
abbrev pub is_of : Action → TheName → Descriptor → Bool
is_of a g d = same_action d.action a && is_for g d

-- PUBLIC alone has the empty name
abbrev pub IsNamed : Grantee → Type 0
IsNamed grantee.Public = Unit {0}
IsNamed (grantee.Role name) = bytes_eq name [] ≡ false

abbrev pub AreNamed : List Descriptor → Type 0
AreNamed ds = Each (λ (d : Descriptor). IsNamed d.grantee) ds

-- ---- masks

-- the bit of the whole table, or of a column
abbrev pub bit_of : Option ℕ → ℕ
bit_of None = 0
bit_of (Some i) = i + 1

-- the mask in which this bit alone is set, if a mask has it
abbrev pub mask_of : Option ℕ → ℕ
mask_of None = 1
mask_of (Some i) = cond (nat_lt i 31) (2 ^ (i + 1)) 0

abbrev pub has_bit : ℕ → ℕ → Bool
has_bit mask n = nat_eq (bit_at mask n) 1

-- whether the descriptor gives the grantee the action on what has the bit
abbrev pub gives_bit : Action → TheName → ℕ → Descriptor → Bool
gives_bit a g n d = same_action d.action a && nat_eq (bit_of d.column) n && is_for g d

-- the mask says what the descriptors give the grantee for the action, on whatever has a bit
abbrev pub IsGivenBy : List Descriptor → Action → TheName → ℕ → Type 0
IsGivenBy ds a g mask = (n : ℕ) → n < 32 → has_bit mask n ≡ list_any (gives_bit a g n) ds

-- ---- the index

-- the order of an entry beside that of this grantee and action
abbrev pub cmp_with : TheName → Action → Granted → Ordering
cmp_with g a x = ordering_then (name_cmp (grantee_name x.grantee) g) (nat_cmp (action_number x.action) (action_number a))

abbrev pub granted_cmp : Granted → Granted → Ordering
granted_cmp x y = cmp_with (grantee_name y.grantee) y.action x

-- whether this is what the grantee has for the action
abbrev pub is_entry_of : TheName → Action → Granted → Bool
is_entry_of g a x = bytes_eq (grantee_name x.grantee) g && same_action x.action a

-- whether it is something that the grantee has
abbrev pub is_entry_for : TheName → Granted → Bool
is_entry_for g x = bytes_eq (grantee_name x.grantee) g

-- the entries say what the descriptors give each grantee for each action, and there is one where a descriptor gives something
pub record IsIndexOf (ds : List Descriptor) (xs : List Granted) : Type 0 where
  pub named : AreNamed ds
  pub bits : (a : Action) (g : TheName) (n : ℕ) → n < 32 → list_any (λ x. is_entry_of g a x && has_bit x.mask n) xs ≡ list_any (gives_bit a g n) ds
  pub entries : (a : Action) (g : TheName) → list_any (is_entry_of g a) xs ≡ list_any (is_of a g) ds

-- ---- how it is made

-- the entry of one descriptor
abbrev pub entry_of : Descriptor → Granted
entry_of d = record { grantee = d.grantee; action = d.action; mask = mask_of d.column }

-- the first of two entries of one grantee and action, with what both give
abbrev pub joined : Granted → Granted → Granted
joined x y = record x { mask = bit_or x.mask y.mask }

-- the entries with one that does not stand before them
abbrev pub joined_with : Granted → List Granted → List Granted
joined_with z [] = z ∷ []
joined_with z (y ∷ []) = cond (is_eq (granted_cmp y z)) (joined y z ∷ []) (y ∷ z ∷ [])
joined_with z (y ∷ x ∷ xs) = y ∷ joined_with z (x ∷ xs)

-- the entries with others, one after another
abbrev pub join_each : List Granted → List Granted → List Granted
join_each xs [] = xs
join_each xs (z ∷ zs) = join_each (joined_with z xs) zs

-- ---- how it is changed

-- a mask with what one descriptor gives the grantee for the action
abbrev pub with_given : Action → TheName → Descriptor → ℕ → ℕ
with_given a g d mask = cond (is_of a g d) (bit_or (mask_of d.column) mask) mask

-- the mask of what all of the descriptors give it
abbrev pub mask_given : Action → TheName → List Descriptor → ℕ
mask_given a g [] = 0
mask_given a g (d ∷ ds) = with_given a g d (mask_given a g ds)

-- whether one of the descriptors gives the grantee of an entry its action
abbrev pub is_given : List Descriptor → Granted → Bool
is_given ds x = list_any (is_of x.action (grantee_name x.grantee)) ds

-- the entry with the mask of what the descriptors give
abbrev pub with_mask_of : List Descriptor → Granted → Granted
with_mask_of ds x = record x { mask = mask_given x.action (grantee_name x.grantee) ds }

-- what is left of an entry, if anything is, where some descriptors went and these are left
abbrev pub still_given : List Descriptor → List Descriptor → Granted → Option Granted
still_given removed left x = cond (is_given removed x) (cond (is_given left x) (Some (with_mask_of left x)) None) (Some x)

-- what is left of each
abbrev pub left_of : List Descriptor → List Descriptor → List Granted → List Granted
left_of removed left [] = []
left_of removed left (x ∷ xs) = option_to_list (still_given removed left x) ++ left_of removed left xs
