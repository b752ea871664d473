-- The clients that were served over the database that was opened, at the place that was asked for.
use Rattle.std.proofs.Common.{arith, ◌≡◌, ◌≤◌, ◌∙◌, ap, sym, subst, inl, inr, ℕ, Bool, List, Result, Ok, Err}
use Rattle.sector_device.specs.Device.{IsSynced}
use Rattle.sector_device.specs.declared.device.Device.{Ghosts}
use Rattle.channels.specs.declared.attend.Attend.{Ghosts as AttendGhosts}
use Rattle.channels.specs.Channels.{KeepsAll}
use Rattle.systems.specs.declared.place.ListenPlace.{ListenPlace}
use Rattle.systems.specs.Places.{IsBoundFor, IsOfKind, the_place}
use Rattle.systems.specs.Systems.{HasDevice, Hears, IsBound, IsOpen, IsSame, IsSameBut, IsSameButAt, SystemState}
use Rattle.abstract_database.specs.Runs.{ReadingRelation}
use Rattle.journal_store.specs.declared.device_stores.DeviceStore.{DeviceStore}
use Rattle.server.specs.declared.server.Server.{Server}
use Rattle.talks.specs.declared.talk.Talk.{Ghosts as TalkGhosts}
use Rattle.talks.specs.declared.clients.ServedClients.{Ghosts as ClientsGhosts}
use Rattle.talks.specs.declared.serving.ServeEnd.{ServeEnd}
use Rattle.talks.specs.Conversations.{awaited}
use Rattle.wire.specs.ScriptRun.{Known}
use Rattle.databases.specs.declared.database.Opened.{Opened}
use Rattle.databases.specs.Openings.{device_under, state_under}
use Rattle.cli.specs.declared.fault.CommandFault.{CommandFault}
use Rattle.cli.specs.declared.fault.CommandFault.TheVariants.{Exists, InUse, Memory, Device, WrongSize, NotADatabase, NewerFormat, Damaged, Full, Number, PrintedTo, Net, Partial, NoRoom, NotADump, OtherDump, DamagedDump, NoDumpRoom, ScriptUnread, ScriptNotUtf8, NoPassword, ManyLines, NoRole, StatementRefused, NotOverRows, FirstFormat, NoSwitchRoom, NoSwitchNumber, Output}
use Rattle.cli.specs.declared.serve_clients.ManyClients.{ManyClients}
use Rattle.cli.specs.Files.{ChangesDevice, IsOpenedAt}
use Rattle.cli.specs.Migrations.{TellsMigration}
use Rattle.cli.specs.Serving.{IsBoundBetween}
use Rattle.cli.specs.ServingClients.{AreNotServedAt, AreNotServedOver, IsUnboundAt, ServesAllAs, ServesClientsAt, ServesClientsOn, ServesComing, TakesNobody}
use Rattle.cli.proofs.Changes.{at_joined, at_then_same, but_then_same, closed_again, rose_between}
use Rattle.cli.proofs.Served.{both_changed}

pub counts_between : (a b c d : ℕ) → a ≤ b → b ≤ c → c ≤ d → a ≤ d
counts_between a b c d first middle last = omega (arith, first, middle, last)

-- a place that was bound, whose listener was polled, and that was given up
pub bound_between : {D L : Type 0} (old mid polled new : SystemState D L) (place bound : ListenPlace) (listener ended : L) → IsOfKind (the_place place) (the_place bound) → (old.faithful → IsBoundFor (the_place place) (the_place bound))
    → (old.faithful → Hears old (the_place bound) listener) → (old.faithful → IsBound mid (the_place bound)) → (old.faithful → IsSameButAt (the_place bound) old mid) → (mid.faithful → IsSame mid polled)
    → (polled.faithful → IsBound polled (the_place bound) → Hears new (the_place bound) ended) → (polled.faithful → IsSameButAt (the_place bound) polled new) → IsBoundBetween old place bound listener ended new
bound_between old mid polled new place bound listener ended kind asked heard opens binding polling unbound giving = record {
  kind = kind;
  asked = asked;
  heard = heard;
  unbound = λ is.
      let at_mid = (binding is).faithful is in
      let same = polling at_mid in
      unbound (same.faithful at_mid) (same.listeners (the_place bound) ∙ opens is);
  others = λ is.
      let at_mid = (binding is).faithful is in
      let same = polling at_mid in
      at_joined (the_place bound) old polled new (at_then_same (the_place bound) old mid polled (binding is) same) (giving (same.faithful at_mid));
}

-- ---- at a place that was bound

module _ {D L X C T P : Type 0} (g : Ghosts D) (a : AttendGhosts L C) (t : TalkGhosts T) (p : ClientsGhosts P T) (Reads : ReadingRelation) (open_told : List ℕ) (Made : T → Type 0) (many : ManyClients) (server : Server (DeviceStore D g) X) (listener polled : L) (coming : KeepsAll (a.coming listener) (a.coming polled))
    (closed : KeepsAll (a.closed listener) (a.closed polled)) where
  -- who comes to a listener that is polled is who came to it before
  served_from : (end : ServeEnd) (left : D) (ended : L) → ServesComing g a t p Reads Made many server polled end left ended → ServesComing g a t p Reads Made many server listener end left ended
  served_from end left ended it = record {
    before = it.before;
    after = it.after;
    coming = λ c. it.coming c ∙ ap awaited (coming c);
    expected = it.expected;
    none_waits = it.none_waits;
    none_contends = it.none_contends;
    none_refused = it.none_refused;
    none_looked = it.none_looked;
    made = it.made;
    serves = it.serves;
    closed = it.closed;
  }

  none_from : (left : D) (ended : L) → TakesNobody g a t p Reads server polled left ended → TakesNobody g a t p Reads server listener left ended
  none_from left ended it = record { left_is = it.left_is; coming = λ c. it.coming c ∙ coming c; closed = λ c. it.closed c ∙ closed c }

  pub clients_served_at : (old new : SystemState D L) (place bound : ListenPlace) (before after : Known) (ended : L) (left : D) → IsBoundBetween old place bound listener ended new → (result : Result ServeEnd CommandFault)
      → ServesClientsOn g a t p Reads bound open_told Made many server polled before result left ended after → ServesClientsAt g a t p Reads old place open_told Made many server before result left new after
  clients_served_at old new place bound before after ended left between (Ok end) it = record { bound = bound; listener = listener; ended = ended; between = between; told = it.0; serves = served_from end left ended it.1 }
  clients_served_at old new place bound before after ended left between (Err Output) it = record { bound = bound; listener = listener; ended = ended; between = between; none = none_from left ended it }
  clients_served_at old new place bound before after ended left between (Err Memory) it = (record { bound = bound; listener = listener; ended = ended; between = between; none = none_from left ended it.0 }, it.1)
  clients_served_at old new place bound before after ended left between (Err (Net cause)) it = absurd it
  clients_served_at old new place bound before after ended left between (Err Exists) it = absurd it
  clients_served_at old new place bound before after ended left between (Err InUse) it = absurd it
  clients_served_at old new place bound before after ended left between (Err (Device cause)) it = absurd it
  clients_served_at old new place bound before after ended left between (Err WrongSize) it = absurd it
  clients_served_at old new place bound before after ended left between (Err NotADatabase) it = absurd it
  clients_served_at old new place bound before after ended left between (Err (NewerFormat format)) it = absurd it
  clients_served_at old new place bound before after ended left between (Err Damaged) it = absurd it
  clients_served_at old new place bound before after ended left between (Err Full) it = absurd it
  clients_served_at old new place bound before after ended left between (Err Number) it = absurd it
  clients_served_at old new place bound before after ended left between (Err Partial) it = absurd it
  clients_served_at old new place bound before after ended left between (Err (NoRoom pages least)) it = absurd it
  clients_served_at old new place bound before after ended left between (Err NotADump) it = absurd it
  clients_served_at old new place bound before after ended left between (Err (OtherDump version)) it = absurd it
  clients_served_at old new place bound before after ended left between (Err DamagedDump) it = absurd it
  clients_served_at old new place bound before after ended left between (Err (NoDumpRoom pages)) it = absurd it
  clients_served_at old new place bound before after ended left between (Err (ScriptUnread cause)) it = absurd it
  clients_served_at old new place bound before after ended left between (Err (ScriptNotUtf8 line byte)) it = absurd it
  clients_served_at old new place bound before after ended left between (Err NoPassword) it = absurd it
  clients_served_at old new place bound before after ended left between (Err ManyLines) it = absurd it
  clients_served_at old new place bound before after ended left between (Err NoRole) it = absurd it
  clients_served_at old new place bound before after ended left between (Err (StatementRefused code)) it = absurd it
  clients_served_at old new place bound before after ended left between (Err NotOverRows) it = absurd it
  clients_served_at old new place bound before after ended left between (Err FirstFormat) it = absurd it
  clients_served_at old new place bound before after ended left between (Err NoSwitchRoom) it = absurd it
  clients_served_at old new place bound before after ended left between (Err NoSwitchNumber) it = absurd it
  clients_served_at old new place bound before after ended left between (Err PrintedTo) it = absurd it

-- ---- once the database was opened

module _ (X : Type 0) {D L C T P : Type 0} (g : Ghosts D) (a : AttendGhosts L C) (t : TalkGhosts T) (p : ClientsGhosts P T) (Reads : ReadingRelation) (old mid end new : SystemState D L) (path : List ℕ) (place : ListenPlace) (open_told : List ℕ) (Made : T → Type 0) (many : ManyClients) (told : Bool) (before noted after : Known)
    (opened : Opened D X g) (at : IsOpenedAt g old path opened mid) (renewed : old.faithful → IsSynced (state_under opened.server)) (tells : TellsMigration opened.was_migrated path told before noted) where
  -- the device, where the place was not bound
  left_changed : (left : D) → IsUnboundAt g a t p Reads mid place open_told Made many opened.server noted left end after → (end.faithful → IsOpen end path → HasDevice new path left) → (end.faithful → IsSameBut path end new)
      → old.faithful → ChangesDevice g old path at.device (device_under opened.server) new
  left_changed left none closed closing is =
      let at_mid = (at.others is).faithful is in
      let same = none.same at_mid in
      subst (λ (d : D). ChangesDevice g old path at.device d new) none.left_is
      (closed_again g path at.device left old end new (at.named is) (same.devices path ∙ at.is_open is) (but_then_same path old mid end (at.others is) same) closed closing is)

  none_served : (left : D) (heard : Known) → TellsMigration opened.was_migrated path told before heard → (end.faithful → IsOpen end path → HasDevice new path left) → (end.faithful → IsSameBut path end new)
      → AreNotServedAt g a t p Reads mid place open_told Made many opened.server noted left end → AreNotServedOver X g a t p Reads old path place open_told Made many told before heard new
  none_served left heard migrated closed closing it = record {
    file = record { device = at.device; opened = opened; is_opened = at.is_opened; tells = migrated };
    bound = it.bound;
    kind = it.between.kind;
    asked_for = λ is. it.between.asked ((at.others is).faithful is);
    listener = it.listener;
    ended = it.ended;
    left = left;
    none = it.none;
    changes = both_changed g old mid end new path place opened at it.bound it.listener it.ended left it.between closed closing;
  }

  silent_tells : after ≡ noted → TellsMigration opened.was_migrated path told before after
  silent_tells silent = subst (λ (known : Known). TellsMigration opened.was_migrated path told before known) (sym silent) tells

  pub clients_served_so : (result : Result ServeEnd CommandFault) (left : D) → (end.faithful → IsOpen end path → HasDevice new path left) → (end.faithful → IsSameBut path end new) → end.failures ≤ new.failures
      → ServesClientsAt g a t p Reads mid place open_told Made many opened.server noted result left end after → ServesAllAs X g a t p Reads old path place open_told Made many told before result new after
  clients_served_so (Ok finish) left closed closing counts it = record {
    noted = noted;
    file = record { device = at.device; opened = opened; is_opened = at.is_opened; tells = tells };
    renewed = renewed;
    bound = it.bound;
    kind = it.between.kind;
    asked_for = λ is. it.between.asked ((at.others is).faithful is);
    tells = it.told;
    listener = it.listener;
    ended = it.ended;
    left = left;
    serves = it.serves;
    changes = both_changed g old mid end new path place opened at it.bound it.listener it.ended left it.between closed closing;
  }
  clients_served_so (Err (Net cause)) left closed closing counts it =
      elim it [
        | inl none ↦ inl (record {
          file = record { device = at.device; opened = opened; is_opened = at.is_opened; tells = silent_tells none.silent };
          failed = rose_between old.failures mid.failures end.failures new.failures at.counts none.counts counts none.failed;
          changes = left_changed left none closed closing;
        })
        | inr unpolled ↦ inr (none_served left after (silent_tells unpolled.silent) closed closing unpolled.unserved, rose_between old.failures mid.failures end.failures new.failures at.counts unpolled.counts counts unpolled.failed)
      ]
  clients_served_so (Err Output) left closed closing counts it = (noted, none_served left noted tells closed closing it)
  clients_served_so (Err Memory) left closed closing counts it = inr (none_served left after (silent_tells it.1) closed closing it.0)
  clients_served_so (Err Exists) left closed closing counts it = absurd it
  clients_served_so (Err InUse) left closed closing counts it = absurd it
  clients_served_so (Err (Device cause)) left closed closing counts it = absurd it
  clients_served_so (Err WrongSize) left closed closing counts it = absurd it
  clients_served_so (Err NotADatabase) left closed closing counts it = absurd it
  clients_served_so (Err (NewerFormat format)) left closed closing counts it = absurd it
  clients_served_so (Err Damaged) left closed closing counts it = absurd it
  clients_served_so (Err Full) left closed closing counts it = absurd it
  clients_served_so (Err Number) left closed closing counts it = absurd it
  clients_served_so (Err Partial) left closed closing counts it = absurd it
  clients_served_so (Err (NoRoom pages least)) left closed closing counts it = absurd it
  clients_served_so (Err NotADump) left closed closing counts it = absurd it
  clients_served_so (Err (OtherDump version)) left closed closing counts it = absurd it
  clients_served_so (Err DamagedDump) left closed closing counts it = absurd it
  clients_served_so (Err (NoDumpRoom pages)) left closed closing counts it = absurd it
  clients_served_so (Err (ScriptUnread cause)) left closed closing counts it = absurd it
  clients_served_so (Err (ScriptNotUtf8 line byte)) left closed closing counts it = absurd it
  clients_served_so (Err NoPassword) left closed closing counts it = absurd it
  clients_served_so (Err ManyLines) left closed closing counts it = absurd it
  clients_served_so (Err NoRole) left closed closing counts it = absurd it
  clients_served_so (Err (StatementRefused code)) left closed closing counts it = absurd it
  clients_served_so (Err NotOverRows) left closed closing counts it = absurd it
  clients_served_so (Err FirstFormat) left closed closing counts it = absurd it
  clients_served_so (Err NoSwitchRoom) left closed closing counts it = absurd it
  clients_served_so (Err NoSwitchNumber) left closed closing counts it = absurd it
  clients_served_so (Err PrintedTo) left closed closing counts it = absurd it
