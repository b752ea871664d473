-- What serving many clients at once at a place, over the database in a file, does.
use Rattle.std.specs.Prelude.{◌≡◌, ◌==◌, ◌≤◌, ◌++◌, ◌⊎◌, ◌*◌, ◌^◌, ◌-◌, ℕ, Bool, true, List, [], codes, Option, Some, None, Result, Ok, Err, if◌then◌else◌}
use Rattle.std.specs.Duration.{as_nanos}
use Rattle.std.specs.Option.{unwrap_or}
use Rattle.std.specs.declared.time.Duration.{Duration}
use Rattle.std.specs.Io.KnownBytes.{Appends}
use Rattle.sector_device.specs.Device.{IsSynced}
use Rattle.sector_device.specs.declared.device.Device.{Ghosts}
use Rattle.sql_types.specs.declared.answer.Answer.TheVariants.{Refused}
use Rattle.sql_types.specs.declared.state.SqlState.TheVariants.{TooManyConnections}
use Rattle.channels.specs.declared.attend.Attend.{Ghosts as AttendGhosts}
use Rattle.channels.specs.Channels.{NamedBytes, KeepsAll}
use Rattle.systems.specs.declared.place.ListenPlace.{ListenPlace}
use Rattle.systems.specs.Places.{IsBoundFor, IsOfKind, the_place}
use Rattle.systems.specs.Systems.{IsSame, Rose, SystemState}
use Rattle.abstract_database.specs.Runs.{ReadingRelation}
use Rattle.journal_store.specs.declared.device_stores.DeviceStore.{DeviceStore}
use Rattle.server.specs.declared.server.Server.{Server}
use Rattle.wire.specs.AnswerFrames.{answer_frames}
use Rattle.wire.specs.AnswerText.{answer_text}
use Rattle.wire.specs.ScriptRun.{Known}
use Rattle.polled_clients.specs.declared.clients.ClientLimits.{ClientLimits}
use Rattle.postgres_messages.specs.Backend.{error_response, reply_bytes}
use Rattle.postgres_messages.specs.declared.backend.Severity.TheVariants.{Fatal}
use Rattle.doors.specs.declared.door.Door.{Door}
use Rattle.doors.specs.declared.door.Door.TheVariants.{Anyone, Only}
use Rattle.password_talks.specs.declared.login.PasswordPlace.{PasswordPlace}
use Rattle.talks.specs.declared.talk.Talk.{Ghosts as TalkGhosts}
use Rattle.talks.specs.declared.clients.ServedClients.{Ghosts as ClientsGhosts}
use Rattle.talks.specs.declared.serving.ServeEnd.{ServeEnd}
use Rattle.talks.specs.Clients.{Contention}
use Rattle.talks.specs.Conversations.{awaited, gone}
use Rattle.databases.specs.Openings.{device_under, state_under}
use Rattle.databases.specs.Runs.{ServesClientsFrom}
use Rattle.cli.specs.declared.fault.CommandFault.{CommandFault}
use Rattle.cli.specs.declared.fault.CommandFault.TheVariants.{Memory, Net, Output}
use Rattle.cli.specs.declared.opened.CommandEnd.{CommandEnd}
use Rattle.cli.specs.declared.serve_clients.ManyClients.{ManyClients}
use Rattle.cli.specs.declared.served_place.PlaceDoor.{PlaceDoor}
use Rattle.cli.specs.declared.served_place.PlaceDoor.TheVariants as whom
use Rattle.cli.specs.declared.served_place.Protocol.{Protocol}
use Rattle.cli.specs.declared.served_place.Protocol.TheVariants.{Frames, Postgres}
use Rattle.cli.specs.Commands.{IsFileOpened, IsFileUnopened}
use Rattle.cli.specs.Files.{ChangesDevice}
use Rattle.cli.specs.Serving.{ChangesBoth, IsBoundBetween, listening_text}

-- how many are served in all: where none is said, as many as there are numbers of clients
abbrev pub asked_connections : ManyClients → ℕ
asked_connections many = unwrap_or many.connections (2 ^ 32 - 1)

-- how many seconds one may wait: for 0 it does not
abbrev pub asked_wait : ℕ → Option ℕ
asked_wait seconds = if seconds == 0 then None else Some seconds

-- a limit of so many seconds, where there is one
abbrev pub IsLimitOf : Option ℕ → Option Duration → Type 0
IsLimitOf None None = Unit {0}
IsLimitOf None (Some limit) = ⊥
IsLimitOf (Some seconds) None = ⊥
IsLimitOf (Some seconds) (Some limit) = as_nanos limit ≡ seconds * 1_000_000_000

-- what is asked for, as the clients take it
pub record AreLimits (many : ManyClients) (limits : ClientLimits) : Type 0 where
  pub connections : limits.connections ≡ asked_connections many
  pub at_once : limits.at_once ≡ many.at_once
  pub wait : IsLimitOf (asked_wait many.wait) limits.wait
  pub idle : IsLimitOf many.idle limits.idle
  pub block : IsLimitOf (Some many.block) limits.block

-- nobody holds the writer lock for which another's statement was held back or refused; whether one may only for so long
abbrev pub uncontended : Bool → Contention
uncontended limited = record { holder = None; cut_off = None; is_limited = limited; expelled = None }

-- what one is told who comes while as many are served at once as may be: a refusal of session 0, or the error by which PostgreSQL says so
abbrev pub crowded_said : Protocol → List ℕ
crowded_said Frames = answer_frames 0 (answer_text (Refused TooManyConnections))
crowded_said Postgres = reply_bytes (error_response (record { severity = Fatal; code = codes "53300"; message = codes "sorry, too many clients already"; position = None }))

-- the door of a place, where it asks for no passwords
abbrev pub IsDoorFor : PlaceDoor → Door → Type 0
IsDoorFor whom.Anyone Anyone = Unit {0}
IsDoorFor whom.Anyone (Only name) = ⊥
IsDoorFor (whom.Only role) Anyone = ⊥
IsDoorFor (whom.Only role) (Only name) = name ≡ role.now
IsDoorFor (whom.Passwords table mock) door = ⊥

-- a place that asks for passwords: the verifiers are kept in the table of this name, and that of the role `mock` stands in for those that are missing
abbrev pub password_place : List ℕ → List ℕ → PasswordPlace
password_place table mock = record { table = table; mock = mock }

-- `a` is what is said of listeners that are polled, `t` of conversations, `p` of clients that come to such a listener, and `Made` of the conversations
-- that are made there
module _ {D X L C T P : Type 0} (g : Ghosts D) (a : AttendGhosts L C) (t : TalkGhosts T) (p : ClientsGhosts P T) (Reads : ReadingRelation) where
  -- the clients that come to a listener were served from this server on: so many in all, each of whose bytes are those that come to the listener.
  -- Nobody waited before, and none could not be taken. The conversation of each is one of those that are made there. Of each that was let go
  -- the listener has what had gone out to it
  pub record ServesComing (Made : T → Type 0) (many : ManyClients) (server : Server (DeviceStore D g) X) (listener : L) (end : ServeEnd) (left : D) (ended : L) : Type 0 where
    pub before : P
    pub after : P
    pub coming : (c : ℕ) → p.at before c ≡ awaited (a.coming listener c)
    pub expected : p.expected before ≡ Some (asked_connections many)
    pub none_waits : p.waiting before ≡ []
    pub none_contends : p.contention before ≡ uncontended true
    pub none_refused : p.refusals before ≡ 0
    pub none_looked : p.looks before ≡ 0
    pub made : (talk : T) → p.makes (p.maker before) talk → Made talk
    pub serves : ServesClientsFrom g t p Reads server before end left after
    pub closed : (c : ℕ) (sent : NamedBytes) → p.at after c ≡ gone sent → a.closed ended c ≡ sent

  -- nobody was taken, and the device is as opening has left it
  pub record TakesNobody (server : Server (DeviceStore D g) X) (listener : L) (left : D) (ended : L) : Type 0 where
    pub left_is : left ≡ device_under server
    pub coming : KeepsAll (a.coming listener) (a.coming ended)
    pub closed : KeepsAll (a.closed listener) (a.closed ended)

  -- ---- at a listener that is polled

  -- it was told where the server listens, and what is to be told of open places, and those that came were served; or that was not taken, or memory was
  -- refused, and nobody was
  module _ (place : ListenPlace) (open_told : List ℕ) (Made : T → Type 0) (many : ManyClients) (server : Server (DeviceStore D g) X) (listener : L) (told_before : Known) where
    abbrev pub ServesClientsOn : Result ServeEnd CommandFault → D → L → Known → Type 0
    ServesClientsOn (Ok end) left ended told_after = Appends told_before told_after (listening_text place ++ open_told) × ServesComing Made many server listener end left ended
    ServesClientsOn (Err Output) left ended told_after = TakesNobody server listener left ended
    ServesClientsOn (Err Memory) left ended told_after = TakesNobody server listener left ended × (told_after ≡ told_before)
    ServesClientsOn (Err fault) left ended told_after = ⊥

  -- ---- at a place

  module _ (old : SystemState D L) (place : ListenPlace) (open_told : List ℕ) (Made : T → Type 0) (many : ManyClients) (server : Server (DeviceStore D g) X) (before : Known) where
    -- it was not bound, and nothing was done
    pub record IsUnboundAt (left : D) (new : SystemState D L) (after : Known) : Type 0 where
      pub left_is : left ≡ device_under server
      pub failed : Rose old.failures new.failures
      pub counts : old.failures ≤ new.failures
      pub same : old.faithful → IsSame old new
      pub silent : after ≡ before

    -- it was bound and told, and those that came there were served. `open_told` is what is told of open places
    pub record AreServedAt (end : ServeEnd) (left : D) (new : SystemState D L) (after : Known) : Type 0 where
      pub bound : ListenPlace
      pub listener : L
      pub ended : L
      pub between : IsBoundBetween old place bound listener ended new
      pub told : Appends before after (listening_text bound ++ open_told)
      pub serves : ServesComing Made many server listener end left ended

    -- it was bound, and nobody was taken there
    pub record AreNotServedAt (left : D) (new : SystemState D L) : Type 0 where
      pub bound : ListenPlace
      pub listener : L
      pub ended : L
      pub between : IsBoundBetween old place bound listener ended new
      pub none : TakesNobody server listener left ended

    -- it was bound, the system does not tell who comes, and nobody was taken
    pub record AreUnpolledAt (left : D) (new : SystemState D L) (after : Known) : Type 0 where
      pub unserved : AreNotServedAt left new
      pub failed : Rose old.failures new.failures
      pub counts : old.failures ≤ new.failures
      pub silent : after ≡ before

    abbrev pub ServesClientsAt : Result ServeEnd CommandFault → D → SystemState D L → Known → Type 0
    ServesClientsAt (Ok end) left new after = AreServedAt end left new after
    ServesClientsAt (Err (Net cause)) left new after = IsUnboundAt left new after ⊎ AreUnpolledAt left new after
    ServesClientsAt (Err Output) left new after = AreNotServedAt left new
    ServesClientsAt (Err Memory) left new after = AreNotServedAt left new × (after ≡ before)
    ServesClientsAt (Err fault) left new after = ⊥

-- ---- a place and a file

-- `X` decides events, `path` is that of the file, and `open_told` is what is told of open places
module _ (X : Type 0) {D L C T P : Type 0} (g : Ghosts D) (a : AttendGhosts L C) (t : TalkGhosts T) (p : ClientsGhosts P T) (Reads : ReadingRelation) (old : SystemState D L) (path : List ℕ) (place : ListenPlace) (open_told : List ℕ) (Made : T → Type 0) (many : ManyClients) where
  -- the database was opened, of which a stop left each sector as it was read then, and the place bound, it was told where, and those that
  -- came there were served; the file is there as the server has left it
  pub record AreServedOver (told : Bool) (before : Known) (end : ServeEnd) (new : SystemState D L) (after : Known) : Type 0 where
    pub noted : Known
    pub file : IsFileOpened X g old path told before noted
    pub renewed : old.faithful → IsSynced (state_under file.opened.server)
    pub bound : ListenPlace
    pub kind : IsOfKind (the_place place) (the_place bound)
    pub asked_for : old.faithful → IsBoundFor (the_place place) (the_place bound)
    pub tells : Appends noted after (listening_text bound ++ open_told)
    pub listener : L
    pub ended : L
    pub left : D
    pub serves : ServesComing g a t p Reads Made many file.opened.server listener end left ended
    pub changes : old.faithful → ChangesBoth old path (the_place bound) file.device left listener ended new

  -- the database was opened and the place bound, and nobody was taken there; the file is there as opening it has left it
  pub record AreNotServedOver (told : Bool) (before noted : Known) (new : SystemState D L) : Type 0 where
    pub file : IsFileOpened X g old path told before noted
    pub bound : ListenPlace
    pub kind : IsOfKind (the_place place) (the_place bound)
    pub asked_for : old.faithful → IsBoundFor (the_place place) (the_place bound)
    pub listener : L
    pub ended : L
    pub left : D
    pub none : TakesNobody g a t p Reads file.opened.server listener left ended
    pub changes : old.faithful → ChangesBoth old path (the_place bound) file.device left listener ended new

  -- the database was opened, and the place not bound: the file is there as opening it has left it
  pub record IsUnboundOver (told : Bool) (before : Known) (new : SystemState D L) (after : Known) : Type 0 where
    pub file : IsFileOpened X g old path told before after
    pub failed : Rose old.failures new.failures
    pub changes : old.faithful → ChangesDevice g old path file.device (device_under file.opened.server) new

  -- why nobody was served: once the database was opened, the place was not bound, the system does not tell who comes there, memory was refused, or
  -- standard error did not take where it is; or none was opened
  abbrev pub AreUnserved : Bool → Known → CommandFault → SystemState D L → Known → Type 0
  AreUnserved told before (Net cause) new after = IsUnboundOver told before new after ⊎ (AreNotServedOver told before after new × Rose old.failures new.failures)
  AreUnserved told before Output new after = (noted : Known) × AreNotServedOver told before noted new
  AreUnserved told before Memory new after = IsFileUnopened X g old path Memory told before new after ⊎ AreNotServedOver told before after new
  AreUnserved told before fault new after = IsFileUnopened X g old path fault told before new after

  -- they were served, or they were not
  abbrev pub ServesAllAs : Bool → Known → Result ServeEnd CommandFault → SystemState D L → Known → Type 0
  ServesAllAs told before (Ok end) new after = AreServedOver told before end new after
  ServesAllAs told before (Err fault) new after = AreUnserved told before fault new after

  abbrev pub ServesClientsFile : Known → CommandEnd ServeEnd → SystemState D L → Known → Type 0
  ServesClientsFile before end new after = ServesAllAs end.told before end.outcome new after
