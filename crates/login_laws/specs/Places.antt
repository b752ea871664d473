-- The places of a server, which are of several kinds, and who is entitled to sessions at each.
use Rattle.std.specs.Prelude.{ℕ, List, []}
use Rattle.store.specs.Store.{StoreState}
use Rattle.doors.specs.declared.door.Door.{Door}
use Rattle.doors.specs.declared.door_talk.DoorTalk.{DoorTalk}
use Rattle.password_talks.specs.declared.login.PasswordPlace.{PasswordPlace}
use Rattle.password_talks.specs.declared.password_talk.PasswordTalk.{PasswordTalk}
use Rattle.postgres_logins.specs.declared.postgres_login_talk.PostgresLoginTalk.{PostgresLoginTalk}
use Rattle.placed_talks.specs.declared.placed_talk.PlacedTalk.{PlacedTalk}
use Rattle.placed_talks.specs.declared.placed_talk.PlacedTalk.TheVariants as kind
use Rattle.login_laws.specs.Entitled.{Entitlement}
use Rattle.login_laws.specs.Shown.{MayComeIn, ShowedPassword, ShowedPasswordInMessages}

-- where a conversation is: at a door; or where it asks for a password, in frames or in PostgreSQL's messages
pub data SomePlace : Type 0 where
  at_door : Door → SomePlace
  with_password : PasswordPlace → SomePlace
  with_password_in_messages : PasswordPlace → SomePlace

module _ {F P V W : Type 0} where
  -- the place of a conversation, by its kind
  abbrev pub place_of : PlacedTalk (DoorTalk F) (DoorTalk P) (PasswordTalk V) (PostgresLoginTalk W) → SomePlace
  place_of (kind.Frames talk) = at_door talk.door
  place_of (kind.Postgres talk) = at_door talk.door
  place_of (kind.FramesWithPassword talk) = with_password talk.login.place
  place_of (kind.PostgresWithPassword talk) = with_password_in_messages talk.login.place

  -- and what was drawn for it
  abbrev pub drawn_of : PlacedTalk (DoorTalk F) (DoorTalk P) (PasswordTalk V) (PostgresLoginTalk W) → List ℕ
  drawn_of (kind.Frames talk) = []
  drawn_of (kind.Postgres talk) = []
  drawn_of (kind.FramesWithPassword talk) = talk.login.drawn
  drawn_of (kind.PostgresWithPassword talk) = talk.login.drawn

-- at a door one is entitled to come in; elsewhere one has shown the password, by the protocol of the place
abbrev pub EntitledAt : {S X : Type 0} → (S → StoreState) → Entitlement SomePlace S X
EntitledAt state (at_door door) drawn sent said past role = MayComeIn door drawn sent said past role
EntitledAt state (with_password place) drawn sent said past role = ShowedPassword state place drawn sent said past role
EntitledAt state (with_password_in_messages place) drawn sent said past role = ShowedPasswordInMessages state place drawn sent said past role
