-- Calls that write nothing, over several calls.
use Rattle.sector_device.specs.declared.device.Device.{Ghosts}
use Rattle.cow_pages.specs.declared.cow.CowPages.{CowPages}
use Rattle.cow_pages.specs.Cow.{device_below}
use Rattle.cow_pages.specs.PreservedLaws.{preserved_same, preserved_joined}
use Rattle.cow_pages.specs.ReadingLaws.{reads_none, reads_joined}
use Rattle.kv_store.specs.Unwritten.{WritesNothing}

-- no call at all
pub nothing_written : {D : Type 0} {g : Ghosts D} (p : CowPages D g) → WritesNothing p p
nothing_written {D} {g} p = record {
  preserved = preserved_same p;
  content = λ now. reads_none (device_below p) now.present;
  stays = λ now. now;
}

-- calls, and then calls
pub nothing_written_joined : {D : Type 0} {g : Ghosts D} (p q r : CowPages D g) → WritesNothing p q → WritesNothing q r → WritesNothing p r
nothing_written_joined {D} {g} p q r first second = record {
  preserved = preserved_joined p q r first.preserved second.preserved;
  content = λ now.
      reads_joined (device_below p) (device_below q) (device_below r) first.preserved.preserved.history (first.content now) (second.content (first.stays now));
  stays = λ now. second.stays (first.stays now);
}
