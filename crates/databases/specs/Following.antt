-- Lives that follow each other on devices, without end. A stop may end each of them at any moment.
use Rattle.std.specs.Prelude.{◌≡◌, ℕ, List, [], ◌∷◌, ◌++◌, Option, Result, Ok, Err}
use Rattle.sector_device.specs.Device.{DeviceState}
use Rattle.sector_device.specs.declared.device.Device.{Ghosts}
use Rattle.sql_types.specs.declared.answer.Answer.{Answer}
use Rattle.store.specs.Store.{Contents}
use Rattle.abstract_database.specs.Runs.{ReadingRelation, Standing}
use Rattle.databases.specs.declared.fault.DatabaseFault.{DatabaseFault}
use Rattle.databases.specs.Lives.{ClientEvent, IsNoLife}
use Rattle.databases.specs.OnDevice.{records_on, IsLifeOn, IsServedOn, PromisesLife}
use Rattle.databases.specs.Stopping.{is_left_by, IsWithin, StopsAt}

-- A life: the device when it began and when it ended, its events, the answers before and after it, whether there was one, and what
-- stopped it: a stop at this moment, or one after all that it did.
pub record Life (D : Type 0) : Type 0 where
  pub begin : D
  pub end : D
  pub events : List ClientEvent
  pub before : List Answer
  pub after : List Answer
  pub result : Result (Unit {0}) DatabaseFault
  pub stop : Option ℕ

-- a life keeps the promise of a life on a device
abbrev pub IsPromised : {D : Type 0} (g : Ghosts D) (X : Type 0) → ReadingRelation → Life D → Type 0
IsPromised g X Reads life = PromisesLife g X Reads life.events life.before life.after life.begin life.end life.result

-- all lives are promised
abbrev pub ArePromised : {D : Type 0} (g : Ghosts D) (X : Type 0) → ReadingRelation → List (Life D) → Type 0
ArePromised g X Reads [] = Unit {0}
ArePromised g X Reads (life ∷ lives) = IsPromised g X Reads life × ArePromised g X Reads lives

-- Each device is faithful, and holds at its start what the last stop may have left; that was a stop at a moment of the life before.
abbrev pub AreStopped : {D : Type 0} → (D → DeviceState) → (Option Contents → Type 0) → List (Life D) → Type 0
AreStopped state left [] = Unit {0}
AreStopped state left (life ∷ lives) =
    (state life.begin).faithful
    × ((x : Option Contents) → (records_on (state life.begin)).left x → left x)
    × IsWithin life.stop (records_on (state life.begin)) (records_on (state life.end))
    × AreStopped state (is_left_by life.stop (records_on (state life.end))) lives

-- a life leads from where the last one was stopped to where it is stopped itself; one that did not begin leads nowhere
abbrev pub LeadsOn : {D : Type 0} (g : Ghosts D) (X : Type 0) → ReadingRelation → Standing → Life D → Result (Unit {0}) DatabaseFault → Standing → Type 0
LeadsOn g X Reads last life (Ok x) next = (told : List Answer) × (moments : List ℕ) × (life.after ≡ life.before ++ told)
    × ((is : IsLifeOn Reads last life.events told moments (g.state life.begin) (g.state life.end))
    × IsServedOn g X Reads is.0.begin life.events told moments life.end × StopsAt last is.0 life.stop next)
LeadsOn g X Reads last life (Err fault) next =
    (life.after ≡ life.before) × IsNoLife last (records_on (g.state life.begin)) (records_on (g.state life.end)) × (next ≡ last)

-- each life goes on from where the one before it was stopped
abbrev pub GoOn : {D : Type 0} (g : Ghosts D) (X : Type 0) → ReadingRelation → Standing → List (Life D) → Type 0
GoOn g X Reads last [] = Unit {0}
GoOn g X Reads last (life ∷ lives) = (next : Standing) × LeadsOn g X Reads last life life.result next × GoOn g X Reads next lives
