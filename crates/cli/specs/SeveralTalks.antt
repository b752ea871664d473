-- The conversations at several places, and what is said of them.
use Rattle.std.specs.Prelude.{◌≡◌, ℕ, Bool, true, false, List, [], ◌∷◌, Option, Some, None, map, slice_get}
use Rattle.std.specs.Global.{Vec}
use Rattle.doors.specs.declared.door_talk.DoorTalk.{DoorTalk}
use Rattle.doors.specs.declared.entry_talk.EntryTalk.{EntryTalk}
use Rattle.talks.specs.declared.talk.Talk.{Ghosts as TalkGhosts}
use Rattle.password_talks.specs.declared.login.PasswordPlace.{PasswordPlace}
use Rattle.password_talks.specs.declared.password_talk.PasswordTalk.{PasswordTalk}
use Rattle.postgres_logins.specs.declared.postgres_login_talk.PostgresLoginTalk.{PostgresLoginTalk}
use Rattle.placed_talks.specs.declared.placed_talk.PlacedTalk.{PlacedTalk}
use Rattle.placed_talks.specs.declared.placed_talk.PlacedTalk.TheVariants as kind
use Rattle.cli.specs.declared.served_place.NamedPlace.{NamedPlace}
use Rattle.cli.specs.declared.served_place.PlaceDoor.{PlaceDoor}
use Rattle.cli.specs.declared.served_place.PlaceDoor.TheVariants.{Anyone, Only, Passwords}
use Rattle.cli.specs.declared.served_place.Protocol.{Protocol}
use Rattle.cli.specs.declared.served_place.Protocol.TheVariants.{Frames, Postgres}
use Rattle.cli.specs.declared.served_place.ServedPlace.{ServedPlace}
use Rattle.cli.specs.ServingClients.{IsDoorFor, crowded_said, password_place}

-- a place asks for a password, and where it does
abbrev pub AsksFor : PlaceDoor → PasswordPlace → Type 0
AsksFor Anyone place = ⊥
AsksFor (Only role) place = ⊥
AsksFor (Passwords table mock) place = place ≡ password_place table.now mock.now

-- `Drawn` says which bytes an exchange of a login may begin with
module _ {F P V W : Type 0} (Drawn : List ℕ → Type 0) where
  -- a conversation by the protocol of the place, at its door: for the one role, for anyone, or for who shows a password of that table
  abbrev pub StandsAt : ServedPlace → PlacedTalk (DoorTalk F) (DoorTalk P) (PasswordTalk V) (PostgresLoginTalk W) → Type 0
  StandsAt served (kind.Frames talk) = (served.protocol ≡ Frames) × IsDoorFor served.door talk.door
  StandsAt served (kind.Postgres talk) = (served.protocol ≡ Postgres) × IsDoorFor served.door talk.door
  StandsAt served (kind.FramesWithPassword talk) = (served.protocol ≡ Frames) × AsksFor served.door talk.login.place × Drawn talk.login.drawn
  StandsAt served (kind.PostgresWithPassword talk) = (served.protocol ≡ Postgres) × AsksFor served.door talk.login.place × Drawn talk.login.drawn

module _ {F P V W : Type 0} {s : TalkGhosts (PlacedTalk (DoorTalk F) (DoorTalk P) (PasswordTalk V) (PostgresLoginTalk W))} (Drawn : List ℕ → Type 0) where
  -- a conversation by all the words of a place: it admits no superuser where the place does not
  abbrev pub StandsAs : NamedPlace → EntryTalk (PlacedTalk (DoorTalk F) (DoorTalk P) (PasswordTalk V) (PostgresLoginTalk W)) s → Type 0
  StandsAs named talk = (talk.no_superuser ≡ named.no_superuser) × StandsAt Drawn named.served talk.talk

  -- at the place of this number
  abbrev pub StandsAtPlace : List NamedPlace → ℕ → EntryTalk (PlacedTalk (DoorTalk F) (DoorTalk P) (PasswordTalk V) (PostgresLoginTalk W)) s → Type 0
  StandsAtPlace places n talk = (named : NamedPlace) × (slice_get places n ≡ Some named) × StandsAs named talk

  -- at one of them
  abbrev pub StandsAtOne : List NamedPlace → EntryTalk (PlacedTalk (DoorTalk F) (DoorTalk P) (PasswordTalk V) (PostgresLoginTalk W)) s → Type 0
  StandsAtOne places talk = (n : ℕ) × StandsAtPlace places n talk

-- a place asks for passwords
abbrev pub asks_there : PlaceDoor → Bool
asks_there Anyone = false
asks_there (Only role) = false
asks_there (Passwords table mock) = true

abbrev pub asks_named : Option NamedPlace → Bool
asks_named None = false
asks_named (Some named) = asks_there named.served.door

-- the place of this number does
abbrev pub asks_at : List NamedPlace → ℕ → Bool
asks_at places n = asks_named (slice_get places n)

-- by which protocol clients are spoken to at each place
abbrev pub protocols_of : List NamedPlace → List Protocol
protocols_of places = map (λ named. named.served.protocol) places

-- what is said by each protocol to one who comes while as many are served as may be
abbrev pub AreCrowdedSaid : List Protocol → List (Vec ℕ) → Type 0
AreCrowdedSaid [] [] = Unit {0}
AreCrowdedSaid (p ∷ protocols) (v ∷ said) = (v.items ≡ crowded_said p) × AreCrowdedSaid protocols said
AreCrowdedSaid _ _ = ⊥
