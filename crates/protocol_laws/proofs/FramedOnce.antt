-- Guarddb's frames in which a client may ask, at a door and behind a password.
use Rattle.std.proofs.Common.{◌≡◌, ◌≤◌, ◌∙◌, ℕ, List, ◌++◌, length, refl, sym}
use Rattle.talks.specs.declared.talk.MessageFront.TheVariants.{Whole, Bad}
use Rattle.wire.specs.Frame.{next_frame}
use Rattle.frame_talks.specs.declared.frame_talk.FrameTalk.{FrameTalk}
use Rattle.frame_talks.specs.FrameLaws.{bad_more, front_more}
use Rattle.frame_talks.specs.FrameTalks.{front_of}
use Rattle.doors.specs.declared.door_talk.DoorTalk.{DoorTalk}
use Rattle.heading_talks.specs.FrontLaws.{bad_more_over, front_more_over}
use Rattle.heading_laws.proofs.AskedOnce.{asked_once}
use Rattle.password_talks.specs.declared.password_talk.PasswordTalk.{PasswordTalk}
use Rattle.password_talks.specs.FrontLaws.{bad_more_if, front_more_if}
use Rattle.password_talks.specs.Logins.{is_admitted}
use Rattle.served_tenants.specs.Saying.{SpeaksOnce}
use Rattle.served_tenants.proofs.SpokenOnce.{doors_once, frames_once}
use Rattle.protocol_laws.specs.Alike.{ArePasswordTalksAlike}
use Rattle.protocol_laws.specs.Places.{AskingTalk, MayBothAsk, AtOneDoor, BehindOneDraw}
use Rattle.protocol_laws.proofs.PasswordsOnce.{begun_alike, passwords_once}
use Rattle.protocol_laws.proofs.TalkGhosts.{asked, at_door, behind_login, frames}

-- ---- by themselves

abbrev pub AreFramesAlike : AskingTalk → AskingTalk → Type 0
AreFramesAlike t u = (t.may_ask ≡ u.may_ask) × (t.question ≡ u.question) × (t.talk.want ≡ u.talk.want)

pub framed_once : SpeaksOnce (asked frames) AreFramesAlike
framed_once =
    asked_once frames (λ (t u : FrameTalk). t.want ≡ u.want) (frames_once frames (λ t. t.want) (λ t. refl) (λ t bytes. refl) (λ t u message said h. h) (λ t u said h. h) (λ t u r said h. h))
    (asked frames) (λ t. refl) (λ t bytes. refl) (λ t u message said h. h) (λ t u said h. h) (λ t u r said h. h)

pub framed_more : (t : AskingTalk) (bytes more : List ℕ) (n : ℕ) → (asked frames).front t bytes ≡ Whole n → (n ≤ length bytes) × ((asked frames).front t (bytes ++ more) ≡ Whole n)
framed_more t bytes more n is = front_more_over t.may_ask bytes more n (front_of (next_frame bytes)) (front_of (next_frame (bytes ++ more))) (λ it. front_more bytes more n it) is

pub framed_bad : (t : AskingTalk) (bytes more : List ℕ) → (asked frames).front t bytes ≡ Bad → (asked frames).front t (bytes ++ more) ≡ Bad
framed_bad t bytes more is = bad_more_over t.may_ask bytes more (front_of (next_frame bytes)) (front_of (next_frame (bytes ++ more))) (λ it. bad_more bytes more it) is

begun_framed : (t u : AskingTalk) → (asked frames).starts t → (asked frames).starts u → MayBothAsk t u → AreFramesAlike t u
begun_framed t u starts starts_there same = (same, starts.0 ∙ sym starts_there.0, starts.1 ∙ sym starts_there.1)

-- ---- at a door

pub framed_at_door : SpeaksOnce (at_door (asked frames)) (AtOneDoor AreFramesAlike)
framed_at_door =
    doors_once (asked frames) AreFramesAlike framed_once (at_door (asked frames)) (λ t. t.door) (λ t. t.talk) (λ t. refl) (λ t bytes. refl) (λ t u message said it. it) (λ t u said it. it) (λ t u r said it. it)

pub begun_at_door : (t u : DoorTalk AskingTalk) → (at_door (asked frames)).starts t → (at_door (asked frames)).starts u → AtOneDoor MayBothAsk t u → AtOneDoor AreFramesAlike t u
begun_at_door t u starts starts_there same = (same.0, begun_framed t.talk u.talk starts starts_there same.1)

-- ---- behind a password

pub framed_behind_login : SpeaksOnce (behind_login (asked frames)) (ArePasswordTalksAlike AreFramesAlike)
framed_behind_login =
    passwords_once (asked frames) AreFramesAlike framed_once (behind_login (asked frames)) (λ t. refl) (λ t bytes. refl) (λ t u message said h. h) (λ t u said h. h) (λ t u r said h. h)

pub behind_login_more : (t : PasswordTalk AskingTalk) (bytes more : List ℕ) (n : ℕ) → (behind_login (asked frames)).front t bytes ≡ Whole n → (n ≤ length bytes) × ((behind_login (asked frames)).front t (bytes ++ more) ≡ Whole n)
behind_login_more t bytes more n is =
    front_more_if (is_admitted t.login.stage) ((asked frames).front t.talk bytes) ((asked frames).front t.talk (bytes ++ more)) bytes more n (λ it. framed_more t.talk bytes more n it) is

pub behind_login_bad : (t : PasswordTalk AskingTalk) (bytes more : List ℕ) → (behind_login (asked frames)).front t bytes ≡ Bad → (behind_login (asked frames)).front t (bytes ++ more) ≡ Bad
behind_login_bad t bytes more is =
    bad_more_if (is_admitted t.login.stage) ((asked frames).front t.talk bytes) ((asked frames).front t.talk (bytes ++ more)) bytes more (λ it. framed_bad t.talk bytes more it) is

pub begun_behind_login : (t u : PasswordTalk AskingTalk) → (behind_login (asked frames)).starts t → (behind_login (asked frames)).starts u → BehindOneDraw MayBothAsk t u → ArePasswordTalksAlike AreFramesAlike t u
begun_behind_login t u starts starts_there same =
    begun_alike AreFramesAlike t u starts.0 starts_there.0 starts.1 starts_there.1 starts.2 starts_there.2 same.0 (begun_framed t.talk u.talk starts.3 starts_there.3 same.1)
