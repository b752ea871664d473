-- Fronts of messages.
use Rattle.std.proofs.Common.{◌≡◌, ◌≤◌, ℕ, List, ◌++◌, length, refl, ap}
use Rattle.postgres_messages.specs.declared.front.StreamFront.{StreamFront}
use Rattle.postgres_messages.specs.declared.front.StreamFront.TheVariants as stream
use Rattle.postgres_messages.specs.Front.{message_front, start_front}
use Rattle.talks.specs.declared.talk.MessageFront.TheVariants.{Whole, Bad}
use Rattle.postgres_talks.specs.declared.moment.TalkStage.{TalkStage}
use Rattle.postgres_talks.specs.declared.moment.TalkStage.TheVariants as stage
use Rattle.postgres_talks.specs.Talks.{front_in, front_of}
use Rattle.postgres_messages.proofs.Fronts as fronts

whole_in : (f : StreamFront) (n : ℕ) → front_in f ≡ Whole n → f ≡ stream.Whole n
whole_in stream.Nothing n is = cc
whole_in (stream.Whole m) n is = let same : m ≡ n = cc in ap stream.Whole same
whole_in stream.Bad n is = cc

bad_in : (f : StreamFront) → front_in f ≡ Bad → f ≡ stream.Bad
bad_in stream.Nothing is = cc
bad_in (stream.Whole m) is = cc
bad_in stream.Bad is = refl

start_more : (bytes more : List ℕ) (n : ℕ) → front_in (start_front bytes) ≡ Whole n → (n ≤ length bytes) × (front_in (start_front (bytes ++ more)) ≡ Whole n)
start_more bytes more n is =
    let whole = whole_in (start_front bytes) n is in
    ((fronts.start_within bytes n whole).1, ap front_in (fronts.start_more bytes more n whole))

later_more : (bytes more : List ℕ) (n : ℕ) → front_in (message_front 131072 bytes) ≡ Whole n → (n ≤ length bytes) × (front_in (message_front 131072 (bytes ++ more)) ≡ Whole n)
later_more bytes more n is =
    let whole = whole_in (message_front 131072 bytes) n is in
    ((fronts.front_within 131072 bytes n whole).1, ap front_in (fronts.front_more 131072 bytes more n whole))

later_bad : (bytes more : List ℕ) → front_in (message_front 131072 bytes) ≡ Bad → front_in (message_front 131072 (bytes ++ more)) ≡ Bad
later_bad bytes more is = ap front_in (fronts.bad_more 131072 bytes more (bad_in (message_front 131072 bytes) is))

pub front_more : (s : TalkStage) (bytes more : List ℕ) (n : ℕ) → front_of s bytes ≡ Whole n → (n ≤ length bytes) × (front_of s (bytes ++ more) ≡ Whole n)
front_more stage.Starting bytes more n is = start_more bytes more n is
front_more s bytes more n is = later_more bytes more n is

pub bad_more : (s : TalkStage) (bytes more : List ℕ) → front_of s bytes ≡ Bad → front_of s (bytes ++ more) ≡ Bad
bad_more stage.Starting bytes more is = ap front_in (fronts.start_bad bytes more (bad_in (start_front bytes) is))
bad_more s bytes more is = later_bad bytes more is
