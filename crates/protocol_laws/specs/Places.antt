-- Conversations at the places of the program: which stand alike, and with what they begin that the bytes of their clients do not tell.
use Rattle.std.specs.Prelude.{◌≡◌}
use Rattle.doors.specs.declared.door_talk.DoorTalk.{DoorTalk}
use Rattle.doors.specs.declared.entry_talk.EntryTalk.{EntryTalk}
use Rattle.frame_talks.specs.declared.frame_talk.FrameTalk.{FrameTalk}
use Rattle.heading_talks.specs.declared.heading_talk.HeadingTalk.{HeadingTalk}
use Rattle.password_talks.specs.declared.password_talk.PasswordTalk.{PasswordTalk}
use Rattle.placed_talks.specs.declared.placed_talk.PlacedTalk.{PlacedTalk}
use Rattle.placed_talks.specs.declared.placed_talk.PlacedTalk.TheVariants.{Frames, Postgres, FramesWithPassword, PostgresWithPassword}
use Rattle.postgres_logins.specs.declared.postgres_login_talk.PostgresLoginTalk.{PostgresLoginTalk}
use Rattle.postgres_talks.specs.declared.postgres_talk.PostgresTalk.{PostgresTalk}
use Rattle.talks.specs.declared.talk.Talk.{Ghosts}
use Rattle.protocol_laws.specs.Alike.{DrewTheSame, DrewTheSameThere, HaveOneProcess}

-- ---- kinds

-- both conversations are of one kind, and stand as is said of that kind
pub data AreOfOneKind {F P V W : Type 0} (f : F → F → Type 0) (p : P → P → Type 0) (v : V → V → Type 0) (w : W → W → Type 0) : PlacedTalk F P V W → PlacedTalk F P V W → Type 0 where
  in_frames : {t u : F} → f t u → AreOfOneKind f p v w (Frames t) (Frames u)
  by_postgres : {t u : P} → p t u → AreOfOneKind f p v w (Postgres t) (Postgres u)
  frames_with_password : {t u : V} → v t u → AreOfOneKind f p v w (FramesWithPassword t) (FramesWithPassword u)
  postgres_with_password : {t u : W} → w t u → AreOfOneKind f p v w (PostgresWithPassword t) (PostgresWithPassword u)

-- ---- the conversations of the program

-- in frames, whose client may ask which columns a statement would answer
abbrev pub AskingTalk : Type 0
AskingTalk = HeadingTalk FrameTalk

-- at one of several places
abbrev pub PlaceTalk : Type 0
PlaceTalk = PlacedTalk (DoorTalk AskingTalk) (DoorTalk PostgresTalk) (PasswordTalk AskingTalk) (PostgresLoginTalk PostgresTalk)

-- ---- how they begin

-- both clients may ask, or none
abbrev pub MayBothAsk : AskingTalk → AskingTalk → Type 0
MayBothAsk t u = t.may_ask ≡ u.may_ask

-- at one door, and inside so
abbrev pub AtOneDoor : {T : Type 0} → (T → T → Type 0) → DoorTalk T → DoorTalk T → Type 0
AtOneDoor Begin t u = (t.door ≡ u.door) × Begin t.talk u.talk

-- at one place that asks for a password, with the same bytes drawn, and inside so
abbrev pub BehindOneDraw : {T : Type 0} → (T → T → Type 0) → PasswordTalk T → PasswordTalk T → Type 0
BehindOneDraw Begin t u = DrewTheSame t u × Begin t.talk u.talk

abbrev pub BehindOneDrawThere : {T : Type 0} → (T → T → Type 0) → PostgresLoginTalk T → PostgresLoginTalk T → Type 0
BehindOneDrawThere Begin t u = DrewTheSameThere t u × Begin t.talk u.talk

-- at places of one kind that both admit superusers, or none
abbrev pub AtOnePlace : {k : Ghosts PlaceTalk} → EntryTalk PlaceTalk k → EntryTalk PlaceTalk k → Type 0
AtOnePlace t u = (t.no_superuser ≡ u.no_superuser)
    × AreOfOneKind (AtOneDoor MayBothAsk) (AtOneDoor HaveOneProcess) (BehindOneDraw MayBothAsk) (BehindOneDrawThere HaveOneProcess) t.talk u.talk
