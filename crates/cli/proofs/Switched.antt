-- The database stays where a journal is turned on or off.
use Rattle.std.proofs.Common.{◌≡◌, ◌⊎◌, ◌/◌, ℕ, List, Bool, true, false, Option, Result, Ok, Err, inl, inr, ⊎_elim, sym, subst}
use Rattle.std.proofs.Math.Path.{fun_ext}
use Rattle.sector_device.specs.Timeline.{LeavesOnly, joined, weakened}
use Rattle.sector_device.specs.Device.{DeviceState, Image}
use Rattle.sector_device.specs.declared.device.Device.{Ghosts}
use Rattle.store.specs.Store.{Contents}
use Rattle.abstract_database.specs.Database.{Database}
use Rattle.server.specs.Standing.{Stands, Means}
use Rattle.journal_store.specs.DeviceImages.{HasContents, records_on}
use Rattle.journal_store.specs.Faults.{KeepsContents, MayLeave}
use Rattle.journal_store.proofs.DeviceReading.{content_leaves}
use Rattle.databases.specs.Databases.{HoldsDatabase, IsUnwritten}
use Rattle.systems.specs.Systems.{SystemState}
use Rattle.cli.specs.declared.fault.CommandFault.{CommandFault}
use Rattle.cli.specs.Switching.{Switches, KeepsDatabase, IsFileSwitched, SwitchesFile}

-- an image has one contents at most
abbrev pub HasOneContents : Type 0
HasOneContents = (image : Image) (pages others : ℕ) (contents other : Contents) → HasContents pages contents image → HasContents others other image → contents ≡ other

-- ---- a device that was read, and then switched

-- it holds the database still
holds_still : (d m : DeviceState) (db : Database) → IsUnwritten d m → HoldsDatabase d db → HoldsDatabase m db
holds_still d m db unwritten holds = record {
  contents = holds.contents;
  has = subst (λ (n : ℕ). HasContents (n / 8) holds.contents m.content) (sym unwritten.history.sectors)
      (subst (λ (image : Image). HasContents (d.sectors / 8) holds.contents image) (sym (fun_ext unwritten.content.content)) holds.has);
  stands = holds.stands;
}

-- what a stop leaves, from before it was read on
keeps_since : (d m e : DeviceState) → IsUnwritten d m → KeepsDatabase m e → KeepsDatabase d e
keeps_since d m e unwritten keeps db holds =
    let mine = λ (x : Option Contents). (records_on d).left x ⊎ Means x db in
    let others = λ (x : Option Contents). (records_on m).left x ⊎ Means x db in
    let first : LeavesOnly (records_on d).left (records_on d) (records_on m) = content_leaves d m unwritten.content unwritten.history.sectors in
    let after = keeps db (holds_still d m db unwritten holds) in
    record {
      during = joined mine (records_on d) (records_on m) (records_on e)
          (weakened (records_on d).left mine (records_on d) (records_on m) (λ x left. inl left) first)
          (weakened others mine (records_on m) (records_on e) (λ x may. ⊎_elim (λ left. inl (first.now x left)) (λ is. inr is) may) after.during);
      now = after.now;
    }

-- ---- switched

module _ (one : HasOneContents) where
  database_stays : (d e : DeviceState) (contents : Contents) → KeepsContents contents d e → KeepsDatabase d e
  database_stays d e contents keeps db holds =
      let same : holds.contents ≡ contents = one d.content (d.sectors / 8) (d.sectors / 8) holds.contents contents holds.has keeps.had in
      let stands : Stands contents db = subst (λ (c : Contents). Stands c db) same holds.stands in
      record {
        during = weakened (MayLeave d contents) (λ x. (records_on d).left x ⊎ Means x db) (records_on d) (records_on e) (λ x may. ⊎_elim (λ left. inl left) (λ is. inr (contents, is, stands)) may) keeps.any_moment;
        now = λ x left. (contents, keeps.now x left, stands);
      }

  stays_switched : {D : Type 0} (g : Ghosts D) (on : Bool) (d e : DeviceState) (number : ℕ) → d.faithful → Switches g on d (Ok number) e → KeepsDatabase d e
  stays_switched g true d e number faithful turns = let is = turns.outcome faithful in database_stays d e is.contents is.keeps
  stays_switched g false d e number faithful turns = let is = turns.outcome faithful in database_stays d e is.contents is.keeps

  pub stays : {D : Type 0} (g : Ghosts D) (on : Bool) (d m e : DeviceState) (number : ℕ) → d.faithful → IsUnwritten d m → Switches g on m (Ok number) e → KeepsDatabase d e
  stays g on d m e number faithful unwritten switches = keeps_since d m e unwritten (stays_switched g on m e number (unwritten.history.faithful faithful) switches)

-- ---- in a file

pub so_switched : {D L : Type 0} (g : Ghosts D) (old : SystemState D L) (path : List ℕ) (on : Bool) (result : Result (Unit {0}) CommandFault) (new : SystemState D L) → IsFileSwitched g old path on result new → SwitchesFile g old path on result new
so_switched g old path on (Ok x) new is = is
so_switched g old path on (Err fault) new is = inr is
