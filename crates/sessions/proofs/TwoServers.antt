-- Two servers, of which a tenant asks the same.
use Rattle.std.proofs.Common.{◌≡◌, false, Option, Some, None, refl, sym, ◌∙◌}
use Rattle.store.specs.Records.{Records}
use Rattle.store.specs.Store.{StoreState}
use Rattle.abstract_database.specs.Database.{Database}
use Rattle.abstract_database.specs.Whole.{IsWhole}
use Rattle.abstract_database.specs.Machine.{Holder, machine_over}
use Rattle.abstract_database.specs.Runs.{At}
use Rattle.stored_database.specs.Definitions.{Definitions}
use Rattle.stored_database.specs.Records.{Shows, StandsFor}
use Rattle.database_laws.specs.HiddenRuns.{SameApparentRowsForPairs, AreSound}
use Rattle.database_laws.specs.Told.{Tenant, IsAlikeTo}
use Rattle.database_laws.specs.Invariants.{HoldsOfHolder, IsSound}
use Rattle.database_laws.specs.Runs.{ReadsOnce}
use Rattle.database_laws.specs.WholeDatabases.{whole_databases_are_sound}
use Rattle.database_laws.proofs.ToldStores.{told_by_stores, goes_alike, goes_unseen}
use Rattle.server.specs.declared.server.Server.{Server}
use Rattle.server.specs.declared.writer.Writer.{Writer}
use Rattle.server.specs.Standing.{event_of, events_of, stops_of, HolderShows, Represents, at_start}
use Rattle.sessions.specs.Readings.{ReadsText}
use Rattle.sessions.specs.TwoServers.{servers_tell_a_tenant, opened_servers_tell_a_tenant, servers_step_alike, steps_of_others_go_unseen}

module _ (once : ReadsOnce ReadsText) (whole : (records : Records) (db : Database) → StandsFor records db → IsWhole db) (sound : whole_databases_are_sound) where
  -- what a store shows is sound
  shown_sound : (records : Records) (d : Definitions) (db : Database) → Shows records d db → IsSound db
  shown_sound records d db shows = sound db (whole records db (d, shows))

  holder_sound : (records : Records) (d : Definitions) (writer : Option Writer) (h : Option Holder) → HolderShows records d writer h → HoldsOfHolder IsSound h
  holder_sound records d None None held = tt
  holder_sound records d None (Some h) held = absurd held
  holder_sound records d (Some writer) None held = tt
  holder_sound records d (Some writer) (Some h) held = shown_sound _ _ h.database held.1

  -- and so is the machine at which a server stands that works
  machine_sound : {S X : Type 0} (state : S → StoreState) (server : Server S X) (w : At) → Represents state server w → w.standing.machine.stopped ≡ false → AreSound w.standing.machine
  machine_sound state server w stands on =
      let works = (stands.works (sym stands.stopped ∙ on)).1 in record {
        committed = shown_sound _ _ w.standing.machine.committed works.committed;
        holder = holder_sound _ _ server.writer w.standing.machine.holder works.held;
      }

  pub told : {S T X Y : Type 0} (state : S → StoreState) (other_state : T → StoreState) → servers_tell_a_tenant S T X Y state other_state
  told state other_state a w v events others answers answers_there before after other_before other_after alike same here unseen there unseen_there =
      let one = here.ran here.sound w here.stood in
      let two = there.ran there.sound v there.stood in
      told_by_stores ReadsText (stops_of (state after.store).time) (stops_of (other_state other_after.store).time) once a w v one.0 two.0 (events_of 0 events) (events_of 0 others) answers answers_there
      alike (machine_sound state before w here.stood here.works) (machine_sound other_state other_before v there.stood there.works)
      one.2 two.2 unseen unseen_there same

  pub steps_alike : {S T X Y : Type 0} (state : S → StoreState) (other_state : T → StoreState) → servers_step_alike S T X Y state other_state
  steps_alike state other_state a e x y before after other_before other_after s own opens_so first second =
      let one = first s.sound_here s.here s.stands_here in
      let two = second s.sound_there s.there s.stands_there in
      record {
        here = one.0;
        there = two.0;
        stands_here = one.1;
        stands_there = two.1;
        goes = goes_alike ReadsText (stops_of (state after.store).time) (stops_of (other_state other_after.store).time) once a s.here s.there one.0 two.0 (event_of 0 e) x y
            s.alike (machine_sound state before s.here s.stands_here s.works) (machine_sound other_state other_before s.there s.stands_there (sym s.alike.stopped ∙ s.works)) own opens_so one.2 two.2;
      }

  pub others_unseen : {S T X Y : Type 0} (state : S → StoreState) (other_state : T → StoreState) → steps_of_others_go_unseen S T X Y state other_state
  others_unseen state other_state a e x before after other s foreign first =
      let one = first s.sound_here s.here s.stands_here in (
        one.0,
        one.1,
        λ hides.
            goes_unseen ReadsText (stops_of (state after.store).time) once a s.here s.there one.0 (event_of 0 e) x s.alike (machine_sound state before s.here s.stands_here s.works) foreign hides one.2,
      )

  opened : (a : Tenant) (d e : Database) → SameApparentRowsForPairs a.pairs d e → IsAlikeTo a (machine_over d) (machine_over e)
  opened a d e all = record { sessions = λ number own. refl; opened_for = λ number own. tt; stopped = refl; lock = λ number own. refl; committed = all; seen = λ number own. all }

  pub opened_told : {S T X Y : Type 0} (state : S → StoreState) (other_state : T → StoreState) → opened_servers_tell_a_tenant S T X Y state other_state
  opened_told {S} {T} {X} {Y} state other_state a d e events others answers answers_there before after other_before other_after all same here unseen there unseen_there =
      told {S = S} {T = T} {X = X} {Y = Y} state other_state a (at_start (state before.store) d) (at_start (other_state other_before.store) e) events others answers answers_there before after other_before other_after
      (opened a d e all) same here unseen there unseen_there
