-- Conversations at a door, behind a password, and at several places, as what they say and want.
use Rattle.std.proofs.Common.{◌≡◌, false}
use Rattle.talks.specs.declared.talk.Talk.{Ghosts}
use Rattle.talks.specs.declared.want.Want.TheVariants as want
use Rattle.doors.specs.Doors.{wanted_at}
use Rattle.doors.specs.DoorTalks.{SaysThen}
use Rattle.doors.specs.declared.door_talk.DoorTalk.{DoorTalk}
use Rattle.password_talks.specs.declared.password_talk.PasswordTalk.{PasswordTalk}
use Rattle.password_talks.specs.declared.stage.LoginStage.TheVariants as stage
use Rattle.password_talks.specs.Logins.{is_admitted, shown_role}
use Rattle.password_talks.specs.PasswordTalks.{HearsMessage, LearnsReply, RejectsMessage, front_at, wanted}
use Rattle.postgres_logins.specs.declared.postgres_login_talk.PostgresLoginTalk.{PostgresLoginTalk}
use Rattle.postgres_logins.specs.declared.stage.SaslStage.TheVariants as sasl
use Rattle.postgres_logins.specs.Logins.{shown_role as shown_in_messages}
use Rattle.postgres_logins.specs.PostgresLoginTalks.{HearsMessage as HearsInMessages, LearnsReply as LearnsInMessages, RejectsMessage as RejectsInMessages, front_at as front_in_messages, wanted as wanted_in_messages}
use Rattle.placed_talks.specs.declared.placed_talk.PlacedTalk.{PlacedTalk}
use Rattle.placed_talks.specs.Kinds.{comes_as_of, front_of, hears_as, learns_as, rejects_as, starts_as, wants_of}

abbrev pub door_talk : {T : Type 0} → Ghosts T → Ghosts (DoorTalk T)
door_talk k = record {
  starts = λ t. k.starts t.talk;
  wants = λ t. wanted_at t.door (k.wants t.talk);
  front = λ t bytes. k.front t.talk bytes;
  hears = λ t message said u. SaysThen k t.door (k.hears t.talk message) said u.talk × (u.door ≡ t.door);
  rejects = λ t said u. SaysThen k t.door (k.rejects t.talk) said u.talk × (u.door ≡ t.door);
  learns = λ t reply said u. SaysThen k t.door (k.learns t.talk reply) said u.talk × (u.door ≡ t.door);
  comes_as = λ t. k.comes_as t.talk;
}

abbrev pub password_talk : {T : Type 0} → Ghosts T → Ghosts (PasswordTalk T)
password_talk k = record {
  starts = λ t. (t.login.stage ≡ stage.Silent) × (t.login.want ≡ want.Message) × (t.is_found ≡ false) × k.starts t.talk;
  wants = λ t. wanted t.login t.is_found (k.wants t.talk);
  front = λ t bytes. front_at k (is_admitted t.login.stage) t.talk bytes;
  hears = λ t message said u. HearsMessage k t message said u;
  rejects = λ t said u. RejectsMessage k t said u;
  learns = λ t reply said u. LearnsReply k t reply said u;
  comes_as = λ t. shown_role t.login.stage;
}

abbrev pub login_talk : {T : Type 0} → Ghosts T → Ghosts (PostgresLoginTalk T)
login_talk k = record {
  starts = λ t. (t.login.stage ≡ sasl.Starting 0) × (t.login.want ≡ want.Message) × (t.is_found ≡ false) × k.starts t.talk;
  wants = λ t. wanted_in_messages t.login t.is_found (k.wants t.talk);
  front = λ t bytes. front_in_messages k t.login.stage t.talk bytes;
  hears = λ t message said u. HearsInMessages k t message said u;
  rejects = λ t said u. RejectsInMessages k t said u;
  learns = λ t reply said u. LearnsInMessages k t reply said u;
  comes_as = λ t. shown_in_messages t.login.stage;
}

abbrev pub placed_talk : {F P V W : Type 0} → Ghosts F → Ghosts P → Ghosts V → Ghosts W → Ghosts (PlacedTalk F P V W)
placed_talk f p v w = record {
  starts = λ t. starts_as f p v w t;
  wants = λ t. wants_of f p v w t;
  front = λ t bytes. front_of f p v w t bytes;
  hears = λ t message said u. hears_as f p v w t message said u;
  rejects = λ t said u. rejects_as f p v w t said u;
  learns = λ t reply said u. learns_as f p v w t reply said u;
  comes_as = λ t. comes_as_of f p v w t;
}
