-- What is said of a source that was only read, of it as it was before.
use Rattle.std.proofs.Common.{◌≡◌, ◌⊎◌, ◌/◌, ℕ, None, Some, Err}
use Rattle.sector_device.specs.Device.{DeviceState, HasFailed, Image, KeepsHistory}
use Rattle.store.specs.declared.fault.Fault.TheVariants as read
use Rattle.store.specs.declared.fault.StoreFault.TheVariants as write
use Rattle.cow_pages.specs.Held.{KeepsContent}
use Rattle.cow_pages.specs.Image.{first_fault}
use Rattle.cow_pages.specs.PreservedLaws.{failed_later}
use Rattle.cow_pages.specs.declared.open.OpenFault.{OpenFault}
use Rattle.cow_pages.specs.declared.open.OpenFault.TheVariants as pages
use Rattle.journal_store.specs.DeviceImages.{IsReadAs}
use Rattle.journal_store.specs.DeviceOpening.{IsNamedFor}
use Rattle.copies.specs.declared.fault.CopyFault.{CopyFault}
use Rattle.copies.specs.declared.fault.CopyFault.TheVariants.{Pages, Read, Write, WrongSize, Full}
use Rattle.databases.specs.Databases.{MeansNone}
use Rattle.dumps.proofs.Moved.{moved}
use Rattle.database_dumps.specs.Counting.{CountsPages}
use Rattle.database_dumps.specs.Dumping.{DumpsDatabase, IsDumpOf, IsDumpOfImage}

module _ (d mid e : DeviceState) (first : KeepsHistory d mid) (content : KeepsContent d mid) (second : KeepsHistory mid e) where
  before : (P : ℕ → Image → Type 0) → P mid.sectors mid.content → P d.sectors d.content
  before P is = moved P d.sectors mid.sectors d.content mid.content first.sectors content.content is

  named_before : (fault : OpenFault) → IsNamedFor fault mid → IsNamedFor fault d
  named_before pages.WrongSize named = before (λ n i. first_fault n i ≡ Some pages.WrongSize) named
  named_before pages.NotADatabase named = before (λ n i. first_fault n i ≡ Some pages.NotADatabase) named
  named_before (pages.NewerFormat format) named = before (λ n i. first_fault n i ≡ Some (pages.NewerFormat format)) named
  named_before pages.Damaged named = before (λ n i. (first_fault n i ≡ Some pages.Damaged) ⊎ ((first_fault n i ≡ None) × IsReadAs (n / 8) i None)) named
  named_before pages.Device named = tt
  named_before pages.Memory named = before (λ n i. (first_fault n i ≡ None) ⊎ (first_fault n i ≡ Some pages.Damaged)) named

  failed_before : HasFailed mid e → HasFailed d e
  failed_before failed = failed_later d mid e first second failed

  none_before : MeansNone (mid.sectors / 8) mid.content → MeansNone (d.sectors / 8) d.content
  none_before none = before (λ n i. MeansNone (n / 8) i) none

  -- a dump of it
  pub dump_before : (dump : DeviceState) → IsDumpOf mid dump → IsDumpOf d dump
  dump_before dump is = before (λ n i. IsDumpOfImage (n / 8) i dump) is

  -- why it was not dumped
  pub undumped_before : (why : CopyFault) (old new : DeviceState) → DumpsDatabase mid e (Err why) old new → DumpsDatabase d e (Err why) old new
  undumped_before (Pages pages.WrongSize) old new is = named_before pages.WrongSize is
  undumped_before (Pages pages.NotADatabase) old new is = named_before pages.NotADatabase is
  undumped_before (Pages (pages.NewerFormat format)) old new is = named_before (pages.NewerFormat format) is
  undumped_before (Pages pages.Damaged) old new is = named_before pages.Damaged is
  undumped_before (Pages pages.Device) old new is = failed_before is
  undumped_before (Pages pages.Memory) old new is = named_before pages.Memory is
  undumped_before (Read read.Memory) old new is = tt
  undumped_before (Read read.Device) old new is = failed_before is
  undumped_before (Read read.Damaged) old new is = none_before is
  undumped_before (Write write.Full) old new is = tt
  undumped_before (Write write.Memory) old new is = tt
  undumped_before (Write write.Device) old new is = is
  undumped_before (Write write.Number) old new is = absurd is
  undumped_before WrongSize old new is = absurd is
  undumped_before (Full least) old new is = absurd is

  -- or its pages were not counted
  pub uncounted_before : (why : CopyFault) → CountsPages mid e (Err why) → CountsPages d e (Err why)
  uncounted_before (Pages pages.WrongSize) is = named_before pages.WrongSize is
  uncounted_before (Pages pages.NotADatabase) is = named_before pages.NotADatabase is
  uncounted_before (Pages (pages.NewerFormat format)) is = named_before (pages.NewerFormat format) is
  uncounted_before (Pages pages.Damaged) is = named_before pages.Damaged is
  uncounted_before (Pages pages.Device) is = failed_before is
  uncounted_before (Pages pages.Memory) is = named_before pages.Memory is
  uncounted_before (Read read.Memory) is = tt
  uncounted_before (Read read.Device) is = failed_before is
  uncounted_before (Read read.Damaged) is = none_before is
  uncounted_before (Write write.Memory) is = tt
  uncounted_before (Write write.Full) is = absurd is
  uncounted_before (Write write.Device) is = absurd is
  uncounted_before (Write write.Number) is = absurd is
  uncounted_before WrongSize is = absurd is
  uncounted_before (Full least) is = tt
