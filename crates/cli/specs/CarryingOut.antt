-- What the program does for the words of its command line, with what they say of refusals.
use Rattle.std.specs.Prelude.{ℕ, List, Option, Some, None}
use Rattle.sector_device.specs.declared.device.Device.{Ghosts}
use Rattle.abstract_database.specs.Runs.{ReadingRelation}
use Rattle.systems.specs.Systems.{SystemState}
use Rattle.channels.specs.declared.attend.Attend.{Ghosts as AttendGhosts}
use Rattle.doors.specs.declared.door_talk.DoorTalk.{DoorTalk}
use Rattle.doors.specs.declared.entry_talk.EntryTalk.{EntryTalk}
use Rattle.password_talks.specs.declared.password_talk.PasswordTalk.{PasswordTalk}
use Rattle.placed_talks.specs.declared.placed_talk.PlacedTalk.{PlacedTalk}
use Rattle.postgres_logins.specs.declared.postgres_login_talk.PostgresLoginTalk.{PostgresLoginTalk}
use Rattle.talks.specs.declared.talk.Talk.{Ghosts as TalkGhosts}
use Rattle.talks.specs.declared.clients.ServedClients.{Ghosts as ClientsGhosts}
use Rattle.wire.specs.declared.sink.Sink.{Ghosts as SinkGhosts}
use Rattle.wire.specs.Listening.{Listening}
use Rattle.wire.specs.ScriptRun.{Known}
use Rattle.cli.specs.declared.command.Invocation.{Invocation}
use Rattle.cli.specs.declared.ending.Performed.{Performed}
use Rattle.cli.specs.declared.refusals.ExplainedRun.{ExplainedRun}
use Rattle.cli.specs.ExplainedRuns.{ExplainsRun}
use Rattle.cli.specs.Program.{IsPerformed}
use Rattle.cli.specs.Refusals.{explained_run}

-- `X` decides events, `g` is what is said of the devices of files, `k` of the sink that takes answers, `c` of the sinks of connections,
-- `a` of listeners that are polled, `t` of conversations in frames, `p` of clients that come to such a listener and have them, `u` and `q` the same of
-- PostgreSQL's protocol, `v` and `w` of frames that ask for passwords, `m` and `n` of PostgreSQL's protocol that does, `o` and `r` of conversations at several
-- places, `contents` of what takes messages, `MayDraw` of what the system draws,
-- `listening` of listeners and `state` of systems
module _ (X : Type 0) {D L K C S E H T P U Q V W M N R I : Type 0} (g : Ghosts D) (k : SinkGhosts K) (c : SinkGhosts C) (a : AttendGhosts L H) (t : TalkGhosts (DoorTalk T)) (p : ClientsGhosts P (DoorTalk T)) (u : TalkGhosts (DoorTalk U)) (q : ClientsGhosts Q (DoorTalk U)) (v : TalkGhosts (PasswordTalk V)) (w : ClientsGhosts W (PasswordTalk V)) (m : TalkGhosts (PostgresLoginTalk M)) (n : ClientsGhosts N (PostgresLoginTalk M)) {s : TalkGhosts (PlacedTalk (DoorTalk T) (DoorTalk U) (PasswordTalk V) (PostgresLoginTalk M))}
    (o : TalkGhosts (EntryTalk (PlacedTalk (DoorTalk T) (DoorTalk U) (PasswordTalk V) (PostgresLoginTalk M)) s)) (r : ClientsGhosts R (EntryTalk (PlacedTalk (DoorTalk T) (DoorTalk U) (PasswordTalk V) (PostgresLoginTalk M)) s))
    (contents : E → Known) (MayDraw : I → List ℕ → Type 0) (Reads : ReadingRelation) (listening : L → Option Listening) (state : S → SystemState D L) (old : SystemState D L) where
  -- this run was made, and its refusals were told of; without one the order was performed
  abbrev pub CarriesOut : Option ExplainedRun → Invocation → K → E → SystemState D L → Performed K E → Type 0
  CarriesOut (Some run) order out err new done = ExplainsRun X g k contents Reads old run out err new done
  CarriesOut None order out err new done = IsPerformed X g k c a t p u q v w m n o r MayDraw Reads listening state old order done.exit new out done.out (contents err) (contents done.err)

  -- an order was carried out: with `--explain` or `--stop` refusals were told of, and with `--stop` the run ended at the first
  abbrev pub IsCarriedOut : Invocation → K → E → SystemState D L → Performed K E → Type 0
  IsCarriedOut order out err new done = CarriesOut (explained_run order) order out err new done
