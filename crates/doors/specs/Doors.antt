-- Whom a place lets in.
use Rattle.std.specs.Prelude.{ℕ, Bool, true, List, bytes_eq, if◌then◌else◌}
use Rattle.doors.specs.declared.door.Door.{Door}
use Rattle.doors.specs.declared.door.Door.TheVariants.{Anyone, Only}
use Rattle.talks.specs.declared.want.Want.{Want}
use Rattle.talks.specs.declared.want.Want.TheVariants as want

-- one may come in as the role of this name
abbrev pub admits : Door → List ℕ → Bool
admits Anyone role = true
admits (Only name) role = bytes_eq name role

-- this opens no session but for a role as which one may come in
abbrev pub opens_only : Door → Want → Bool
opens_only door (want.Open session login entry) = admits door login
opens_only door _ = true

-- what is wanted there: nothing more, where that would open another session
abbrev pub wanted_at : Door → Want → Want
wanted_at door w = if opens_only door w then w else want.OutOfMemory
