-- Fronts of what a client may send before it is let in.
use Rattle.std.proofs.Common.{◌≡◌, ◌≤◌, ℕ, Bool, true, false, List, ◌++◌, length, refl, ap}
use Rattle.postgres_messages.specs.declared.front.StreamFront.{StreamFront}
use Rattle.postgres_messages.specs.declared.front.StreamFront.TheVariants as stream
use Rattle.postgres_messages.specs.Front.{message_front, start_front}
use Rattle.postgres_messages.proofs.Fronts as fronts
use Rattle.talks.specs.declared.talk.MessageFront.{MessageFront}
use Rattle.talks.specs.declared.talk.MessageFront.TheVariants.{Whole, Bad}
use Rattle.password_talks.specs.PasswordTalks.{front_if}
use Rattle.postgres_logins.specs.declared.stage.SaslStage.{SaslStage}
use Rattle.postgres_logins.specs.declared.stage.SaslStage.TheVariants as stage
use Rattle.postgres_logins.specs.EntryMessages.{entry_front, front_in}

pub whole_in : (f : StreamFront) (n : ℕ) → front_in f ≡ Whole n → f ≡ stream.Whole n
whole_in stream.Nothing n is = cc
whole_in (stream.Whole m) n is = let same : m ≡ n = cc in ap stream.Whole same
whole_in stream.Bad n is = cc

bad_in : (f : StreamFront) → front_in f ≡ Bad → f ≡ stream.Bad
bad_in stream.Nothing is = cc
bad_in (stream.Whole m) is = cc
bad_in stream.Bad is = refl

start_more : (bytes more : List ℕ) (n : ℕ) → front_in (start_front bytes) ≡ Whole n → (n ≤ length bytes) × (front_in (start_front (bytes ++ more)) ≡ Whole n)
start_more bytes more n is =
    let whole = whole_in (start_front bytes) n is in
    ((fronts.start_within bytes n whole).1, ap front_in (fronts.start_more bytes more n whole))

later_more : (bytes more : List ℕ) (n : ℕ) → front_in (message_front 2000 bytes) ≡ Whole n → (n ≤ length bytes) × (front_in (message_front 2000 (bytes ++ more)) ≡ Whole n)
later_more bytes more n is =
    let whole = whole_in (message_front 2000 bytes) n is in
    ((fronts.front_within 2000 bytes n whole).1, ap front_in (fronts.front_more 2000 bytes more n whole))

later_bad : (bytes more : List ℕ) → front_in (message_front 2000 bytes) ≡ Bad → front_in (message_front 2000 (bytes ++ more)) ≡ Bad
later_bad bytes more is = ap front_in (fronts.bad_more 2000 bytes more (bad_in (message_front 2000 bytes) is))

entry_more : (s : SaslStage) (bytes more : List ℕ) (n : ℕ) → entry_front s bytes ≡ Whole n → (n ≤ length bytes) × (entry_front s (bytes ++ more) ≡ Whole n)
entry_more (stage.Starting answered) bytes more n is = start_more bytes more n is
entry_more s bytes more n is = later_more bytes more n is

entry_bad : (s : SaslStage) (bytes more : List ℕ) → entry_front s bytes ≡ Bad → entry_front s (bytes ++ more) ≡ Bad
entry_bad (stage.Starting answered) bytes more is = ap front_in (fronts.start_bad bytes more (bad_in (start_front bytes) is))
entry_bad s bytes more is = later_bad bytes more is

-- ---- before the password was shown, and after

pub front_more_if : (b : Bool) (s : SaslStage) (here there : MessageFront) (bytes more : List ℕ) (n : ℕ) → (here ≡ Whole n → (n ≤ length bytes) × (there ≡ Whole n))
    → front_if b here (entry_front s bytes) ≡ Whole n → (n ≤ length bytes) × (front_if b there (entry_front s (bytes ++ more)) ≡ Whole n)
front_more_if true s here there bytes more n inside is = inside is
front_more_if false s here there bytes more n inside is = entry_more s bytes more n is

pub bad_more_if : (b : Bool) (s : SaslStage) (here there : MessageFront) (bytes more : List ℕ) → (here ≡ Bad → there ≡ Bad)
    → front_if b here (entry_front s bytes) ≡ Bad → front_if b there (entry_front s (bytes ++ more)) ≡ Bad
bad_more_if true s here there bytes more inside is = inside is
bad_more_if false s here there bytes more inside is = entry_bad s bytes more is
