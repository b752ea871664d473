-- Conversations at one of several places of the program.
use Rattle.std.proofs.Common.{◌≡◌, ◌≤◌, ℕ, List, ◌++◌, length, refl, Result}
use Rattle.sql_types.specs.declared.state.SqlState.{SqlState}
use Rattle.sql_lexer.specs.Lexeme.{Lexeme}
use Rattle.sql_lexer.specs.Lexing.{Lexes}
use Rattle.talks.specs.declared.talk.MessageFront.TheVariants.{Whole, Bad}
use Rattle.talks.specs.declared.talk.Talk.{Ghosts}
use Rattle.doors.specs.declared.door_talk.DoorTalk.{DoorTalk}
use Rattle.placed_talks.specs.declared.placed_talk.PlacedTalk.TheVariants.{Frames, Postgres, FramesWithPassword, PostgresWithPassword}
use Rattle.postgres_logins.specs.declared.postgres_login_talk.PostgresLoginTalk.{PostgresLoginTalk}
use Rattle.postgres_logins.specs.FrontLaws.{bad_more_if, front_more_if}
use Rattle.postgres_logins.specs.Logins.{is_admitted}
use Rattle.postgres_talks.specs.declared.postgres_talk.PostgresTalk.{PostgresTalk}
use Rattle.postgres_talks.specs.TalkLaws.{bad_more, front_more}
use Rattle.postgres_talks.specs.Talks.{front_of}
use Rattle.served_tenants.specs.Saying.{SpeaksOnce}
use Rattle.served_tenants.proofs.SpokenOnce.{doors_once}
use Rattle.protocol_laws.specs.Alike.{AreLoginTalksAlike, ArePasswordTalksAlike, HaveOneProcess, StandAtOneMoment}
use Rattle.protocol_laws.specs.Places.{AreOfOneKind, PlaceTalk, MayBothAsk, AtOneDoor, BehindOneDraw, BehindOneDrawThere}
use Rattle.protocol_laws.proofs.FramedOnce.{AreFramesAlike, framed_more, framed_bad, framed_at_door, begun_at_door, framed_behind_login, behind_login_more, behind_login_bad, begun_behind_login}
use Rattle.protocol_laws.proofs.LoginsOnce.{begun_alike, logins_once}
use Rattle.protocol_laws.proofs.PlacesOnce.{begun_of_one_kind, kinds_once}
use Rattle.protocol_laws.proofs.PostgresOnce.{begun_alike as begun_so, messages_once}
use Rattle.protocol_laws.proofs.TalkGhosts.{asked, at_door, behind_login, behind_sasl_login, frames, messages, placed}

abbrev pub place_talks : Ghosts PlaceTalk
place_talks = placed (at_door (asked frames)) (at_door messages) (behind_login (asked frames)) (behind_sasl_login messages)

-- ---- fronts

pub place_more : (t : PlaceTalk) (bytes more : List ℕ) (n : ℕ) → place_talks.front t bytes ≡ Whole n → (n ≤ length bytes) × (place_talks.front t (bytes ++ more) ≡ Whole n)
place_more (Frames t) bytes more n is = framed_more t.talk bytes more n is
place_more (Postgres t) bytes more n is = front_more t.talk.moment.stage bytes more n is
place_more (FramesWithPassword t) bytes more n is = behind_login_more t bytes more n is
place_more (PostgresWithPassword t) bytes more n is =
    front_more_if (is_admitted t.login.stage) t.login.stage (front_of t.talk.moment.stage bytes) (front_of t.talk.moment.stage (bytes ++ more)) bytes more n (λ it. front_more t.talk.moment.stage bytes more n it) is

pub place_bad : (t : PlaceTalk) (bytes more : List ℕ) → place_talks.front t bytes ≡ Bad → place_talks.front t (bytes ++ more) ≡ Bad
place_bad (Frames t) bytes more is = framed_bad t.talk bytes more is
place_bad (Postgres t) bytes more is = bad_more t.talk.moment.stage bytes more is
place_bad (FramesWithPassword t) bytes more is = behind_login_bad t bytes more is
place_bad (PostgresWithPassword t) bytes more is =
    bad_more_if (is_admitted t.login.stage) t.login.stage (front_of t.talk.moment.stage bytes) (front_of t.talk.moment.stage (bytes ++ more)) bytes more (λ it. bad_more t.talk.moment.stage bytes more it) is

-- ---- what is said

abbrev pub ArePlaceTalksAlike : PlaceTalk → PlaceTalk → Type 0
ArePlaceTalksAlike = AreOfOneKind (AtOneDoor AreFramesAlike) (AtOneDoor StandAtOneMoment) (ArePasswordTalksAlike AreFramesAlike) (AreLoginTalksAlike StandAtOneMoment)

abbrev pub BeginAtPlaces : PlaceTalk → PlaceTalk → Type 0
BeginAtPlaces = AreOfOneKind (AtOneDoor MayBothAsk) (AtOneDoor HaveOneProcess) (BehindOneDraw MayBothAsk) (BehindOneDrawThere HaveOneProcess)

module _ (one_lexing : (text : List ℕ) (r s : Result (List Lexeme) SqlState) → Lexes text r → Lexes text s → r ≡ s) where
  messages_said_once : SpeaksOnce messages StandAtOneMoment
  messages_said_once = messages_once one_lexing messages (λ t. t.moment) (λ t. refl) (λ t bytes. refl) (λ t u message said h. h) (λ t u said h. h) (λ t u r said h. h)

  at_door_once : SpeaksOnce (at_door messages) (AtOneDoor StandAtOneMoment)
  at_door_once =
      doors_once messages StandAtOneMoment messages_said_once (at_door messages) (λ t. t.door) (λ t. t.talk) (λ t. refl) (λ t bytes. refl) (λ t u message said it. it) (λ t u said it. it) (λ t u r said it. it)

  behind_sasl_login_once : SpeaksOnce (behind_sasl_login messages) (AreLoginTalksAlike StandAtOneMoment)
  behind_sasl_login_once =
      logins_once messages StandAtOneMoment messages_said_once (behind_sasl_login messages) (λ t. refl) (λ t bytes. refl) (λ t u message said h. h) (λ t u said h. h) (λ t u r said h. h)

  pub place_talks_once : SpeaksOnce place_talks ArePlaceTalksAlike
  place_talks_once =
      kinds_once (at_door (asked frames)) (at_door messages) (behind_login (asked frames)) (behind_sasl_login messages)
      (AtOneDoor AreFramesAlike) (AtOneDoor StandAtOneMoment) (ArePasswordTalksAlike AreFramesAlike) (AreLoginTalksAlike StandAtOneMoment)
      framed_at_door at_door_once framed_behind_login behind_sasl_login_once
      place_talks (λ t. refl) (λ t bytes. refl) (λ t u message said h. h) (λ t u said h. h) (λ t u r said h. h)

-- ---- beginnings

begun_messages : (t u : PostgresTalk) → messages.starts t → messages.starts u → HaveOneProcess t u → StandAtOneMoment t u
begun_messages t u starts starts_there same = begun_so starts.0 starts_there.0 t.moment u.moment starts.1 starts_there.1 same

begun_messages_at_door : (t u : DoorTalk PostgresTalk) → (at_door messages).starts t → (at_door messages).starts u → AtOneDoor HaveOneProcess t u → AtOneDoor StandAtOneMoment t u
begun_messages_at_door t u starts starts_there same = (same.0, begun_messages t.talk u.talk starts starts_there same.1)

begun_behind_sasl_login : (t u : PostgresLoginTalk PostgresTalk) → (behind_sasl_login messages).starts t → (behind_sasl_login messages).starts u → BehindOneDrawThere HaveOneProcess t u → AreLoginTalksAlike StandAtOneMoment t u
begun_behind_sasl_login t u starts starts_there same =
    begun_alike StandAtOneMoment t u starts.0 starts_there.0 starts.1 starts_there.1 starts.2 starts_there.2 same.0 (begun_messages t.talk u.talk starts.3 starts_there.3 same.1)

pub begun_at_places : (t u : PlaceTalk) → place_talks.starts t → place_talks.starts u → BeginAtPlaces t u → ArePlaceTalksAlike t u
begun_at_places =
    begun_of_one_kind (at_door (asked frames)) (at_door messages) (behind_login (asked frames)) (behind_sasl_login messages)
    (AtOneDoor AreFramesAlike) (AtOneDoor MayBothAsk) (AtOneDoor StandAtOneMoment) (AtOneDoor HaveOneProcess)
    (ArePasswordTalksAlike AreFramesAlike) (BehindOneDraw MayBothAsk) (AreLoginTalksAlike StandAtOneMoment) (BehindOneDrawThere HaveOneProcess)
    begun_at_door begun_messages_at_door begun_behind_login begun_behind_sasl_login
