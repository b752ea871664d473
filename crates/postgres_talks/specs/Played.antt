-- What a connection says over all that it takes in.
use Rattle.std.specs.Prelude.{◌≡◌, ◌⊎◌, ℕ, List, [], ◌∷◌, ◌++◌, take, drop}
use Rattle.sql_types.specs.declared.state.SqlState.TheVariants.{ProtocolViolation}
use Rattle.talks.specs.Wants.{Learnt, learnt, FitsWant}
use Rattle.talks.specs.declared.talk.MessageFront.TheVariants.{Whole, Bad}
use Rattle.talks.specs.declared.want.Want.TheVariants as want
use Rattle.talks.specs.declared.want.Reply.{Reply}
use Rattle.postgres_talks.specs.declared.fault.TalkFault.TheVariants as fault
use Rattle.postgres_talks.specs.declared.moment.TalkMoment.{TalkMoment}
use Rattle.postgres_talks.specs.declared.requests.Request.{Request}
use Rattle.postgres_talks.specs.Sayings.{Saying, Says, fatal_said}
use Rattle.postgres_talks.specs.Moments.{ends, said_to_reply, after_reply}
use Rattle.postgres_talks.specs.Requests.{IsRequest, said_to_request, after_request}
use Rattle.postgres_talks.specs.Talks.{front_of}

-- what a connection takes in: a message that asks this, what it wanted, or bytes that begin no message
pub data Input : Type 0 where
  asked : Request → Input
  told : Reply → Input
  bad : Input

abbrev pub said_to_input : TalkMoment → Input → List Saying
said_to_input m (asked r) = said_to_request r m
said_to_input m (told r) = said_to_reply m r
said_to_input m bad = fatal_said (fault.Refused ProtocolViolation) ∷ []

abbrev pub after_input : TalkMoment → Input → TalkMoment
after_input m (asked r) = after_request r m
after_input m (told r) = after_reply m r
after_input m bad = ends m

-- one after the other
abbrev pub said_in : TalkMoment → List Input → List Saying
said_in m [] = []
said_in m (i ∷ is) = said_to_input m i ++ said_in (after_input m i) is

abbrev pub after_all : TalkMoment → List Input → TalkMoment
after_all m [] = m
after_all m (i ∷ is) = after_all (after_input m i) is

-- the bytes up to a rest and all that was learnt were taken in as this, each when it was wanted
abbrev pub TakesIn : TalkMoment → List ℕ → List Learnt → List ℕ → List Input → Type 0
TakesIn m bytes xs rest [] = (xs ≡ []) × (rest ≡ bytes)
TakesIn m bytes xs rest (asked r ∷ is) = (n : ℕ) × (m.want ≡ want.Message) × (front_of m.stage bytes ≡ Whole n)
    × IsRequest m (take n bytes) r × TakesIn (after_request r m) (drop n bytes) xs rest is
TakesIn m bytes xs rest (bad ∷ is) = (m.want ≡ want.Message) × (front_of m.stage bytes ≡ Bad) × TakesIn (ends m) bytes xs rest is
TakesIn m bytes [] rest (told r ∷ is) = ⊥
TakesIn m bytes (x ∷ xs) rest (told r ∷ is) = (m.want ≡ x.want) × FitsWant x.want r × (x.reply ≡ r) × TakesIn (after_reply m r) bytes xs rest is

-- From this moment all was taken in and answered, and it stands so.
pub record HasPlayed (m : TalkMoment) (bytes : List ℕ) (xs : List Learnt) (said rest : List ℕ) (n : TalkMoment) : Type 0 where
  pub inputs : List Input
  pub took : TakesIn m bytes xs rest inputs
  pub says : Says (said_in m inputs) said
  pub stands : n ≡ after_all m inputs

-- Memory was refused: it stood so before that, and may have learnt one thing more, of which it has said nothing.
pub record LostMemory (m : TalkMoment) (bytes : List ℕ) (xs : List Learnt) (said rest : List ℕ) : Type 0 where
  pub stood : TalkMoment
  pub before : List Learnt
  pub played : HasPlayed m bytes before said rest stood
  pub lost : (xs ≡ before) ⊎ ((r : Reply) × FitsWant stood.want r × (xs ≡ before ++ learnt stood.want r ∷ []))

abbrev pub PlayedOrGaveUp : TalkMoment → List ℕ → List Learnt → List ℕ → List ℕ → TalkMoment → Type 0
PlayedOrGaveUp m bytes xs said rest n = HasPlayed m bytes xs said rest n ⊎ ((n.want ≡ want.OutOfMemory) × LostMemory m bytes xs said rest)
