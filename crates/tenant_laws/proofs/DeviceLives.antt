-- Lives on two devices that a tenant is told alike.
use Rattle.std.proofs.Common.{refl}
use Rattle.sector_device.specs.declared.device.Device.{Ghosts}
use Rattle.abstract_database.specs.Runs.{ReadingRelation}
use Rattle.tenant_laws.specs.DeviceLives.{stops_on, lives_from, what_devices_tell_a_tenant, lives_on_devices_are_lived, stopped_lives_are_lived}
use Rattle.tenant_laws.proofs.LivesTold.{lives_tell}

pub devices_tell : {D E : Type 0} (g : Ghosts D) (h : Ghosts E) (X Y : Type 0) (Reads : ReadingRelation) → what_devices_tell_a_tenant g h X Y Reads
devices_tell g h X Y Reads once a s v lives others on on_there same sound sound_there hides hides_there asks =
    lives_tell Reads (stops_on g) (stops_on h) once a (lives_from g X Reads s lives on).database (lives_from h Y Reads v others on_there).database
    (lives_from g X Reads s lives on).lives (lives_from h Y Reads v others on_there).lives same sound sound_there hides hides_there asks

pub whole_lives : {D : Type 0} (g : Ghosts D) (X : Type 0) (Reads : ReadingRelation) → lives_on_devices_are_lived g X Reads
whole_lives g X Reads last begin end events before after x lives (next, (told, moments, is_after, (is, served, stops)), later) = (refl, refl)

pub stopped_lives : {D : Type 0} (g : Ghosts D) (Reads : ReadingRelation) → stopped_lives_are_lived g Reads
stopped_lives g Reads last begin device events told moments life stop next later stops = (refl, refl)
