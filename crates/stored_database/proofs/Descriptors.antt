-- Each privilege descriptor has a record of its own.
use Rattle.std.proofs.Common.{◌≡◌, ℕ, nat_eq, Bool, if◌then◌else◌, List, [], ◌∷◌, ◌++◌, Option, Some, None, refl, ap, sym, ◌∙◌, arith}
use Rattle.std.proofs.lemmas.List.{append_cancel_left}
use Rattle.sql_types.specs.Name.{IsUtf8Name}
use Rattle.sql_types.specs.Domain.{HasNoZero}
use Rattle.sql_ast.specs.declared.privilege.Action.{Action}
use Rattle.sql_ast.specs.declared.privilege.Action.TheVariants as action
use Rattle.sql_ast.specs.declared.privilege.Grantor.{Grantor}
use Rattle.sql_ast.specs.declared.privilege.Grantor.TheVariants as grantor
use Rattle.sql_ast.specs.declared.privilege.Grantee.{Grantee}
use Rattle.sql_ast.specs.declared.privilege.Grantee.TheVariants as grantee
use Rattle.sql_ast.specs.declared.privilege.Descriptor.{Descriptor}
use Rattle.sql_ast.specs.Read.{IsReadGrantee}
use Rattle.store.specs.Records.{Record}
use Rattle.abstract_database.specs.Lists.{TheName}
use Rattle.abstract_database.specs.Database.{action_number, grantor_name, grantee_name}
use Rattle.stored_database.specs.RecordFormat.{ended, bit, place_byte, descriptor_prefix, descriptor_record}
use Rattle.stored_database.specs.Items.{IsStoredGrantor, IsStoredDescriptor}
use Rattle.stored_database.proofs.Names.{no_zero_of, same_ended, same_last, same_bit}

abbrev action_at : ℕ → Action
action_at n = if nat_eq n 1 then action.Select else if nat_eq n 2 then action.Insert else if nat_eq n 3 then action.Update else action.Delete

action_read : (a : Action) → action_at (action_number a) ≡ a
action_read action.Select = refl
action_read action.Insert = refl
action_read action.Update = refl
action_read action.Delete = refl

-- ---- who grants, and to whom

abbrev grantor_at : List ℕ → Grantor
grantor_at [] = grantor.System
grantor_at (x ∷ xs) = grantor.Role (x ∷ xs)

abbrev grantee_at : List ℕ → Grantee
grantee_at [] = grantee.Public
grantee_at (x ∷ xs) = grantee.Role (x ∷ xs)

named_grantor : (name : TheName) → IsUtf8Name name → grantor_at name ≡ grantor.Role name
named_grantor [] is = absurd (omega (arith, is.name.some_byte))
named_grantor (x ∷ xs) is = refl

named_grantee : (name : TheName) → IsUtf8Name name → grantee_at name ≡ grantee.Role name
named_grantee [] is = absurd (omega (arith, is.name.some_byte))
named_grantee (x ∷ xs) is = refl

grantor_read : (g : Grantor) → IsStoredGrantor g → grantor_at (grantor_name g) ≡ g
grantor_read grantor.System h = refl
grantor_read (grantor.Role name) h = named_grantor name h

grantee_read : (g : Grantee) → IsReadGrantee g → grantee_at (grantee_name g) ≡ g
grantee_read grantee.Public h = refl
grantee_read (grantee.Role name) h = named_grantee name h

pub grantor_free : (g : Grantor) → IsStoredGrantor g → HasNoZero (grantor_name g)
grantor_free grantor.System h = tt
grantor_free (grantor.Role name) h = no_zero_of name h

pub grantee_free : (g : Grantee) → IsReadGrantee g → HasNoZero (grantee_name g)
grantee_free grantee.Public h = tt
grantee_free (grantee.Role name) h = no_zero_of name h

-- ---- places

-- a place tells the column
pub same_place : (c d : Option ℕ) → place_byte c ≡ place_byte d → c ≡ d
same_place None None h = refl
same_place None (Some j) h = cc
same_place (Some i) None h = cc
same_place (Some i) (Some j) h = cc

-- ---- descriptors

abbrev descriptor_with : Grantor → Grantee → TheName → Action → Option ℕ → Bool → Descriptor
descriptor_with g e t a c b = record { grantor = g; grantee = e; table = t; action = a; column = c; grantable = b }

same_descriptor : (a b : Descriptor) → a.grantor ≡ b.grantor → a.grantee ≡ b.grantee → a.table ≡ b.table → a.action ≡ b.action → a.column ≡ b.column → a.grantable ≡ b.grantable → a ≡ b
same_descriptor a b p q r s c t = all p q r s c t where
  all : {g g' : Grantor} {e e' : Grantee} {n n' : TheName} {x x' : Action} {o o' : Option ℕ} {y y' : Bool}
      → g ≡ g' → e ≡ e' → n ≡ n' → x ≡ x' → o ≡ o' → y ≡ y' → descriptor_with g e n x o y ≡ descriptor_with g' e' n' x' o' y'
  all p q r s c t = cc

pub one_descriptor : (table : TheName) (id : ℕ) (a b : Descriptor) → IsStoredDescriptor table a → IsStoredDescriptor table b → descriptor_record id a ≡ descriptor_record id b → a ≡ b
one_descriptor table id a b p q h =
    let keys = ap (λ (e : Record). e.0) h in
    let values : bit a.grantable ∷ [] ≡ bit b.grantable ∷ [] = ap (λ (e : Record). e.1) h in
    let bits : bit a.grantable ≡ bit b.grantable = cc in
    let after : action_number a.action ∷ place_byte a.column ∷ (ended (grantor_name a.grantor) ++ ended (grantee_name a.grantee)) ≡ action_number b.action ∷ place_byte b.column ∷ (ended (grantor_name b.grantor) ++ ended (grantee_name b.grantee))
    = append_cancel_left (descriptor_prefix id) _ _ keys in
    let places : place_byte a.column ≡ place_byte b.column = cc in
    let actions : action_number a.action ≡ action_number b.action = cc in
    let names : ended (grantor_name a.grantor) ++ ended (grantee_name a.grantee) ≡ ended (grantor_name b.grantor) ++ ended (grantee_name b.grantee) = cc in
    let first = same_ended (grantor_name a.grantor) (grantor_name b.grantor) (ended (grantee_name a.grantee)) (ended (grantee_name b.grantee))
    (grantor_free a.grantor p.grantor) (grantor_free b.grantor q.grantor) names in
    let second = same_last (grantee_name a.grantee) (grantee_name b.grantee) (grantee_free a.grantee p.grantee) (grantee_free b.grantee q.grantee) first.rest in
    same_descriptor a b
    (sym (grantor_read a.grantor p.grantor) ∙ ap grantor_at first.item ∙ grantor_read b.grantor q.grantor)
    (sym (grantee_read a.grantee p.grantee) ∙ ap grantee_at second ∙ grantee_read b.grantee q.grantee)
    (p.table ∙ sym q.table)
    (sym (action_read a.action) ∙ ap action_at actions ∙ action_read b.action)
    (same_place a.column b.column places)
    (same_bit a.grantable b.grantable bits)
