-- When a commit writes a root.
use Rattle.std.specs.Prelude.{◌≡◌, ◌+◌, Result, OnOk}
use Rattle.sector_device.specs.declared.device.Device.{Ghosts}
use Rattle.cow_pages.specs.declared.cow.CowPages.{CowPages}
use Rattle.cow_pages.specs.Cow.{root_of}
use Rattle.page_roots.specs.declared.format.Format.{Format}
use Rattle.page_roots.specs.Formats.{has_journal}
use Rattle.kv_store.specs.Contents.{is_journaled}
use Rattle.kv_store.specs.declared.commit.RootWrite.{RootWrite}
use Rattle.kv_store.specs.declared.commit.RootWrite.TheVariants.{Always}

-- a commit that always writes one has the next number
abbrev pub IsAnew : {D : Type 0} {g : Ghosts D} {E : Type 0} → RootWrite → Result (Unit {0}) E → CowPages D g → CowPages D g → Type 0
IsAnew switch result old new = switch ≡ Always → OnOk result ((root_of new).number ≡ (root_of old).number + 1)

-- in a format that says of a journal what the root says, the next root says it, too
abbrev pub KeepsKind : {D : Type 0} {g : Ghosts D} → Format → CowPages D g → CowPages D g → Type 0
KeepsKind format old new = has_journal format ≡ is_journaled old → is_journaled new ≡ is_journaled old
