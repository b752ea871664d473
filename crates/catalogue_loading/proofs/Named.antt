-- What the records of roles and memberships spell.
use Rattle.std.proofs.Common.{◌≡◌, ℕ, List, [], ◌∷◌, ◌++◌, ap, sym, ◌∙◌, Err}
use Rattle.std.proofs.lemmas.List.{append-nil}
use Rattle.sql_ast.specs.declared.role.Membership.{Membership}
use Rattle.std.specs.Borrow.{Bor}
use Rattle.sql_types.specs.Name.{IsUtf8Name}
use Rattle.sql_types.specs.Value.{owned}
use Rattle.sql_types.specs.declared.value.Value.TheVariants.{Text}
use Rattle.sql_types.specs.declared.value.ValueRef.{ValueRef}
use Rattle.sql_types.specs.declared.value.ValueRef.TheVariants as lent
use Rattle.store.specs.declared.fault.Fault.{Fault}
use Rattle.store.specs.declared.fault.Fault.TheVariants.{Memory, Device, Damaged}
use Rattle.store.specs.Records.{Record}
use Rattle.stored_database.specs.Items.{IsStoredMembership}
use Rattle.stored_database.specs.RecordFormat.{ended, membership_record}
use Rattle.catalogue_loading.specs.Decoding.{IsSpelled, Decodes, IsOnlyFront, DecodesFront}

-- the names of a membership that has this record
pub names_of : (entry : Record) (names : List ℕ) (m : Membership) → entry.0 ≡ 2 ∷ names → membership_record m ≡ entry → names ≡ ended m.role ++ ended m.member
names_of entry names m key is = tails (sym key ∙ sym (ap (λ (e : Record). e.0) is)) where
  tails : 2 ∷ names ≡ 2 ∷ (ended m.role ++ ended m.member) → names ≡ ended m.role ++ ended m.member
  tails h = cc

-- after the role stands the member
member_after : (entry : Record) (names : List ℕ) (role rest : List ℕ) (m : Membership) → entry.0 ≡ 2 ∷ names → IsOnlyFront IsUtf8Name ended names role rest
    → IsSpelled IsStoredMembership membership_record entry m → rest ≡ ended m.member
member_after entry names role rest m key only is = (only m.role (ended m.member) (record { valid = is.valid.role; spelled = names_of entry names m key is.spelled })).1

-- where no member stands after the role, the record is that of no membership
pub no_member : (entry : Record) (names : List ℕ) (role rest : List ℕ) (fault : Fault) → entry.0 ≡ 2 ∷ names → IsOnlyFront IsUtf8Name ended names role rest
    → DecodesFront IsUtf8Name ended rest (Err fault) → Decodes IsStoredMembership membership_record entry (Err fault)
no_member entry names role rest Memory key only none = tt
no_member entry names role rest Device key only none = none
no_member entry names role rest Damaged key only none = λ m is.
    none m.member [] (record { valid = is.valid.member; spelled = member_after entry names role rest m key only is ∙ sym (append-nil (ended m.member)) })

-- nor where something stands after the member
pub more_after : (entry : Record) (names : List ℕ) (role member rest more : List ℕ) (m : Membership) → entry.0 ≡ 2 ∷ names → IsOnlyFront IsUtf8Name ended names role rest
    → IsOnlyFront IsUtf8Name ended rest member more → IsSpelled IsStoredMembership membership_record entry m → more ≡ []
more_after entry names role member rest more m key only next is =
    (next m.member [] (record { valid = is.valid.member; spelled = member_after entry names role rest m key only is ∙ sym (append-nil (ended m.member)) })).1

-- a text in place is the text that it stands for
pub lent_text : (value : ValueRef) (lent_bytes : Bor (List ℕ)) (text : List ℕ) → value ≡ lent.Text lent_bytes → owned value ≡ Text text → lent_bytes.now ≡ text
lent_text value lent_bytes text is same = texts (sym (ap owned is) ∙ same) where
  texts : Text lent_bytes.now ≡ Text text → lent_bytes.now ≡ text
  texts h = cc
