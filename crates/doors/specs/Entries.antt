-- How sessions are asked for at a place that may admit no superuser.
use Rattle.std.specs.Prelude.{◌≡◌, Bool, true, false, if◌then◌else◌}
use Rattle.talks.specs.declared.want.Want.{Want}
use Rattle.talks.specs.declared.want.Want.TheVariants as want

-- it is a session that is wanted
abbrev pub is_open : Want → Bool
is_open (want.Open session login entry) = true
is_open _ = false

-- the same, but a session with an entry that admits no superuser
abbrev pub barred : Want → Want
barred (want.Open session login entry) = want.Open session login (record entry { no_superuser = true })
barred w = w

-- what is wanted there, by whether the place admits no superuser
abbrev pub wanted_with : Bool → Want → Want
wanted_with no_superuser w = if no_superuser then barred w else w

-- where a session is wanted that no superuser may have, it is this one
abbrev pub IsEntered : Bool → Want → Want → Type 0
IsEntered no_superuser opening w = no_superuser ≡ true → is_open w ≡ true → opening ≡ barred w
