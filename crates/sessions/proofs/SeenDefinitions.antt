-- What a session sees, as a server knows it and as the machine does.
use Rattle.std.proofs.Common.{◌≡◌, ℕ, nat_eq, Bool, true, false, not, is_some, Option, Some, None, refl, sym, ap, subst}
use Rattle.store.specs.Records.{Records}
use Rattle.transactions.specs.Views.{applied_all}
use Rattle.abstract_database.specs.Database.{Database}
use Rattle.abstract_database.specs.Machine.{Holder, seen_by, is_held_by_other}
use Rattle.stored_database.specs.Definitions.{Definitions}
use Rattle.stored_database.specs.Records.{Shows}
use Rattle.server.specs.declared.writer.Writer.{Writer}
use Rattle.server.specs.Writers.{definitions_or}
use Rattle.server.specs.Standing.{HolderShows}
use Rattle.sessions.specs.Admission.{HasRolesOf}
use Rattle.sessions.specs.Writers.{is_lock_of_other, definitions_seen}

pub has_roles : (records : Records) (d : Definitions) (db : Database) → Shows records d db → HasRolesOf d db
has_roles records d db shown = record { roles = ap (λ (x : Database). x.roles) shown.is; memberships = ap (λ (x : Database). x.memberships) shown.is }

-- the roles that the session sees are those of the definitions that it sees
pub sees_roles : (records : Records) (d : Definitions) (writer : Option Writer) (db : Database) (holder : Option Holder) (number : ℕ) → Shows records d db → HolderShows records d writer holder
    → HasRolesOf (definitions_seen number writer d) (seen_by number holder db)
sees_roles records d None db None number shown held = has_roles records d db shown
sees_roles records d None db (Some h) number shown held = absurd held
sees_roles records d (Some writer) db None number shown held = absurd held
sees_roles records d (Some writer) db (Some h) number shown held =
    subst (λ (n : ℕ). HasRolesOf (definitions_seen number (Some writer) d) (seen_by number (Some (record h { session = n })) db)) (sym held.0) (by_number (nat_eq writer.session number) refl)
  where
    by_number : (b : Bool) → b ≡ nat_eq writer.session number
        → HasRolesOf (definitions_seen number (Some writer) d) (seen_by number (Some (record h { session = writer.session })) db)
    by_number true is = rw (sym is) (has_roles (applied_all writer.lists records) (definitions_or writer.catalogue d) h.database held.1)
    by_number false is = rw (sym is) (has_roles records d db shown)

-- another session holds the writer lock where the machine's holder is another
pub held_by_other : (records : Records) (d : Definitions) (writer : Option Writer) (holder : Option Holder) (number : ℕ) → HolderShows records d writer holder
    → is_held_by_other number holder ≡ is_lock_of_other number writer
held_by_other records d None None number held = refl
held_by_other records d None (Some h) number held = absurd held
held_by_other records d (Some writer) None number held = absurd held
held_by_other records d (Some writer) (Some h) number held = ap (λ (n : ℕ). not (nat_eq n number)) held.0

-- somebody holds the writer lock where the machine has a holder
pub is_held : (records : Records) (d : Definitions) (writer : Option Writer) (holder : Option Holder) → HolderShows records d writer holder → is_some writer ≡ is_some holder
is_held records d None None held = refl
is_held records d None (Some h) held = absurd held
is_held records d (Some writer) None held = absurd held
is_held records d (Some writer) (Some h) held = refl
