-- A dump of the database in a file, by what was done one after the other.
use Rattle.std.proofs.Common.{◌≢◌, ◌<◌, ◌≤◌, ℕ, List, Result, Ok, Err}
use Rattle.sector_device.specs.Device.{DeviceState, KeepsHistory}
use Rattle.sector_device.specs.declared.device.Device.{Ghosts}
use Rattle.systems.specs.Systems.{HoldsZeros, IsOpen, IsSameBut, IsUnnamed, SystemState}
use Rattle.cow_pages.specs.Held.{KeepsContent}
use Rattle.copies.specs.declared.fault.CopyFault.{CopyFault}
use Rattle.dumps.specs.OnDevice.{BeginsWithZeros}
use Rattle.database_dumps.specs.Dumping.{DumpsDatabase}
use Rattle.database_dumps.proofs.Earlier.{dump_before, uncounted_before, undumped_before}
use Rattle.cli.specs.declared.copy_fault.CopyRefusal.{CopyRefusal}
use Rattle.cli.specs.Copying.{Renames}
use Rattle.cli.specs.Dumping.{IsUncounted, WritesDump, dumping}
use Rattle.cli.specs.NewFiles.{IsTried, MakesBeside}
use Rattle.cli.proofs.Blank.{blank_of_zeros}
use Rattle.cli.proofs.NewFiles.{made_and_named, made_and_unnamed}

-- a device of zeros begins with them
zeros_begin : (pages : ℕ) (d : DeviceState) → HoldsZeros pages d → ((s : ℕ) → d.faithful → s < d.sectors → d.left s (d.content s)) → BeginsWithZeros d
zeros_begin pages d holds there = λ s lt inside. holds.zeros s (d.content s) (there s holds.faithful inside)

writes_dump : {D : Type 0} (g : Ghosts D) (device left blank dump : D) (result : Result (Unit {0}) CopyFault) → (g.state blank).faithful → BeginsWithZeros (g.state blank) → DumpsDatabase (g.state device) (g.state left) result (g.state blank) (g.state dump)
    → WritesDump g result device left blank dump
writes_dump g device left blank dump (Ok x) faithful zeros is = is faithful zeros
writes_dump g device left blank dump (Err why) faithful zeros is = is

-- one was tried on a new device
module _ {D L : Type 0} (g : Ghosts D) (old : SystemState D L) (partial target : List ℕ) (pages : ℕ) (device left blank dump : D) (free : old.faithful → IsUnnamed old partial) (zeros : old.faithful → HoldsZeros pages (g.state blank))
    (there : (s : ℕ) → (g.state blank).faithful → s < (g.state blank).sectors → (g.state blank).left s ((g.state blank).content s)) (history : KeepsHistory (g.state device) (g.state left)) (content : (g.state device).faithful → KeepsContent (g.state device) (g.state left)) where
  pub dump_tried : (result : Result (Unit {0}) CopyFault) → ((g.state device).faithful → DumpsDatabase (g.state device) (g.state left) result (g.state blank) (g.state dump)) → IsTried g (dumping g) old partial target device pages result left blank dump
  dump_tried result dumps = record {
    is_blank = λ is. record { new = free is; zeros = zeros is; blank = blank_of_zeros pages (g.state blank) (zeros is) };
    does = λ is faithful. writes_dump g device left blank dump result (zeros is).faithful (zeros_begin pages (g.state blank) (zeros is) there) (dumps faithful);
    history = history;
    content = content;
  }

-- a whole one is named, or taken away
module _ {D L : Type 0} (g : Ghosts D) (old mid new : SystemState D L) (partial target : List ℕ) (pages : ℕ) (device left blank dump : D) (making : old.faithful → IsSameBut partial old mid) (counts : old.failures ≤ mid.failures) (is_open : old.faithful → IsOpen mid partial) (differ : target ≢ partial)
    (tried : IsTried g (dumping g) old partial target device pages (Ok tt) left blank dump) where
  pub dump_named : (result : Result (Unit {0}) CopyRefusal) → Renames mid partial target dump result new → MakesBeside g (dumping g) old partial target device result left new
  dump_named (Ok tt) renamed = made_and_named g (dumping g) old mid new partial target pages device left blank dump tt making counts is_open differ tried renamed
  dump_named (Err fault) refused = made_and_unnamed g (dumping g) old mid new partial target pages device left blank dump tt making counts is_open differ tried fault refused

-- what is said of a device whose pages were counted, of it as it was before
module _ {D : Type 0} (g : Ghosts D) (device later left : D) (history : KeepsHistory (g.state device) (g.state later)) (content : KeepsContent (g.state device) (g.state later)) (second : KeepsHistory (g.state later) (g.state left)) where
  pub dump_earlier : (result : Result (Unit {0}) CopyFault) (blank dump : D) → WritesDump g result later left blank dump → WritesDump g result device left blank dump
  dump_earlier (Ok x) blank dump is = dump_before (g.state device) (g.state later) (g.state left) history content second (g.state dump) is
  dump_earlier (Err why) blank dump is = undumped_before (g.state device) (g.state later) (g.state left) history content second why (g.state blank) (g.state dump) is

  pub uncounted_earlier : (fault : CopyRefusal) → IsUncounted g fault later left → IsUncounted g fault device left
  uncounted_earlier fault (why, is, counts) = (why, is, uncounted_before (g.state device) (g.state later) (g.state left) history content second why counts)
