-- The conversations of Guarddb's frames and of PostgreSQL's protocol, and those around them, as what they say and want.
use Rattle.std.proofs.Common.{◌≡◌, ℕ, false, None}
use Rattle.talks.specs.declared.talk.Talk.{Ghosts}
use Rattle.talks.specs.declared.want.Want.TheVariants as want
use Rattle.wire.specs.Frame.{next_frame}
use Rattle.frame_talks.specs.declared.frame_talk.FrameTalk.{FrameTalk}
use Rattle.frame_talks.specs.FrameTalks.{front_of, HearsFrame, RefusesFrame, asked_session, said_to}
use Rattle.doors.specs.declared.door_talk.DoorTalk.{DoorTalk}
use Rattle.doors.specs.Doors.{wanted_at}
use Rattle.doors.specs.DoorTalks.{SaysThen}
use Rattle.heading_talks.specs.declared.heading_talk.HeadingTalk.{HeadingTalk}
use Rattle.heading_talks.specs.HeadingFrames.{next_heading, taken_if}
use Rattle.heading_talks.specs.HeadingTalks as heading
use Rattle.password_talks.specs.declared.stage.LoginStage.TheVariants as login_stage
use Rattle.password_talks.specs.declared.password_talk.PasswordTalk.{PasswordTalk}
use Rattle.password_talks.specs.Logins as login
use Rattle.password_talks.specs.PasswordTalks as password
use Rattle.placed_talks.specs.declared.placed_talk.PlacedTalk.{PlacedTalk}
use Rattle.placed_talks.specs.Kinds.{comes_as_of, front_of as front_of_kind, hears_as, learns_as, rejects_as, starts_as, wants_of}
use Rattle.postgres_logins.specs.declared.stage.SaslStage.TheVariants as sasl_stage
use Rattle.postgres_logins.specs.declared.postgres_login_talk.PostgresLoginTalk.{PostgresLoginTalk}
use Rattle.postgres_logins.specs.Logins as sasl
use Rattle.postgres_logins.specs.PostgresLoginTalks as postgres_login
use Rattle.postgres_talks.specs.declared.postgres_talk.PostgresTalk.{PostgresTalk}
use Rattle.postgres_talks.specs.Moments.{first_moment}
use Rattle.postgres_talks.specs.Talks.{HearsMessage, Learns, Rejects, front_of as message_front_of}

abbrev pub frames : Ghosts FrameTalk
frames = record {
  starts = λ t. t.want ≡ want.Message;
  wants = λ t. t.want;
  front = λ t bytes. front_of (next_frame bytes);
  hears = λ t message said u. HearsFrame (next_frame message) said u.want;
  rejects = λ t said u. RefusesFrame said u.want;
  learns = λ t reply said u. (said ≡ said_to (asked_session t.want) reply) × (u.want ≡ want.Message);
  comes_as = λ t. None;
}

abbrev pub messages : Ghosts PostgresTalk
messages = record {
  starts = λ t. (process : ℕ) × (t.moment ≡ first_moment process);
  wants = λ t. t.moment.want;
  front = λ t bytes. message_front_of t.moment.stage bytes;
  hears = λ t message said u. HearsMessage t.moment message said u.moment;
  rejects = λ t said u. Rejects t.moment said u.moment;
  learns = λ t reply said u. Learns t.moment reply said u.moment;
  comes_as = λ t. None;
}

module _ {T : Type 0} (k : Ghosts T) where
  -- a client may ask which columns a statement would answer
  abbrev pub asked : Ghosts (HeadingTalk T)
  asked = record {
    starts = λ t. (t.question ≡ want.Message) × k.starts t.talk;
    wants = λ t. heading.wanted (heading.asked_session t.question) t.question (k.wants t.talk);
    front = λ t bytes. heading.front_over (taken_if t.may_ask (next_heading bytes)) (k.front t.talk bytes);
    hears = λ t message said u. heading.HearsMessage k (heading.asked_by (taken_if t.may_ask (next_heading message))) t message said u;
    rejects = λ t said u. heading.RejectsMessage k t said u;
    learns = λ t reply said u. heading.LearnsReply k (heading.asked_session t.question) t reply said u;
    comes_as = λ t. k.comes_as t.talk;
  }

  abbrev pub at_door : Ghosts (DoorTalk T)
  at_door = record {
    starts = λ t. k.starts t.talk;
    wants = λ t. wanted_at t.door (k.wants t.talk);
    front = λ t bytes. k.front t.talk bytes;
    hears = λ t message said u. SaysThen k t.door (k.hears t.talk message) said u.talk × (u.door ≡ t.door);
    rejects = λ t said u. SaysThen k t.door (k.rejects t.talk) said u.talk × (u.door ≡ t.door);
    learns = λ t reply said u. SaysThen k t.door (k.learns t.talk reply) said u.talk × (u.door ≡ t.door);
    comes_as = λ t. k.comes_as t.talk;
  }

  -- behind a password
  abbrev pub behind_login : Ghosts (PasswordTalk T)
  behind_login = record {
    starts = λ t. (t.login.stage ≡ login_stage.Silent) × (t.login.want ≡ want.Message) × (t.is_found ≡ false) × k.starts t.talk;
    wants = λ t. password.wanted t.login t.is_found (k.wants t.talk);
    front = λ t bytes. password.front_at k (login.is_admitted t.login.stage) t.talk bytes;
    hears = λ t message said u. password.HearsMessage k t message said u;
    rejects = λ t said u. password.RejectsMessage k t said u;
    learns = λ t reply said u. password.LearnsReply k t reply said u;
    comes_as = λ t. login.shown_role t.login.stage;
  }

  abbrev pub behind_sasl_login : Ghosts (PostgresLoginTalk T)
  behind_sasl_login = record {
    starts = λ t. (t.login.stage ≡ sasl_stage.Starting 0) × (t.login.want ≡ want.Message) × (t.is_found ≡ false) × k.starts t.talk;
    wants = λ t. postgres_login.wanted t.login t.is_found (k.wants t.talk);
    front = λ t bytes. postgres_login.front_at k t.login.stage t.talk bytes;
    hears = λ t message said u. postgres_login.HearsMessage k t message said u;
    rejects = λ t said u. postgres_login.RejectsMessage k t said u;
    learns = λ t reply said u. postgres_login.LearnsReply k t reply said u;
    comes_as = λ t. sasl.shown_role t.login.stage;
  }

-- of one of four kinds
abbrev pub placed : {F P V W : Type 0} → Ghosts F → Ghosts P → Ghosts V → Ghosts W → Ghosts (PlacedTalk F P V W)
placed f p v w = record {
  starts = λ t. starts_as f p v w t;
  wants = λ t. wants_of f p v w t;
  front = λ t bytes. front_of_kind f p v w t bytes;
  hears = λ t message said u. hears_as f p v w t message said u;
  rejects = λ t said u. rejects_as f p v w t said u;
  learns = λ t reply said u. learns_as f p v w t reply said u;
  comes_as = λ t. comes_as_of f p v w t;
}
