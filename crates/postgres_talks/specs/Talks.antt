-- The conversation: what stands at the front of bytes, and what is heard and learnt.
use Rattle.std.specs.Prelude.{◌≡◌, ℕ, List, [], ◌∷◌}
use Rattle.sql_types.specs.declared.state.SqlState.TheVariants.{ProtocolViolation}
use Rattle.postgres_messages.specs.declared.front.StreamFront.{StreamFront}
use Rattle.postgres_messages.specs.declared.front.StreamFront.TheVariants as stream
use Rattle.postgres_messages.specs.Front.{message_front, start_front}
use Rattle.talks.specs.declared.talk.MessageFront.{MessageFront}
use Rattle.talks.specs.declared.talk.MessageFront.TheVariants.{Nothing, Whole, Bad}
use Rattle.talks.specs.declared.want.Reply.{Reply}
use Rattle.postgres_talks.specs.declared.fault.TalkFault.TheVariants as fault
use Rattle.postgres_talks.specs.declared.moment.TalkStage.{TalkStage}
use Rattle.postgres_talks.specs.declared.moment.TalkStage.TheVariants as stage
use Rattle.postgres_talks.specs.declared.moment.TalkMoment.{TalkMoment}
use Rattle.postgres_talks.specs.declared.requests.Request.{Request}
use Rattle.postgres_talks.specs.Sayings.{Says, fatal_said}
use Rattle.postgres_talks.specs.Moments.{ends, said_to_reply, after_reply}
use Rattle.postgres_talks.specs.Requests.{IsRequest, said_to_request, after_request}

abbrev pub front_in : StreamFront → MessageFront
front_in stream.Nothing = Nothing
front_in (stream.Whole n) = Whole n
front_in stream.Bad = Bad

-- a packet of the start, and then messages of at most 131,072 bytes behind their kind
abbrev pub front_of : TalkStage → List ℕ → MessageFront
front_of stage.Starting bytes = front_in (start_front bytes)
front_of s bytes = front_in (message_front 131072 bytes)

-- a message asks one thing, and this is said to it
pub record HearsMessage (m : TalkMoment) (bytes said : List ℕ) (n : TalkMoment) : Type 0 where
  pub asked : Request
  pub is_asked : IsRequest m bytes asked
  pub says : Says (said_to_request asked m) said
  pub stands : n ≡ after_request asked m

-- a bad message ends the connection
pub record Rejects (m : TalkMoment) (said : List ℕ) (n : TalkMoment) : Type 0 where
  pub says : Says (fatal_said (fault.Refused ProtocolViolation) ∷ []) said
  pub stands : n ≡ ends m

pub record Learns (m : TalkMoment) (r : Reply) (said : List ℕ) (n : TalkMoment) : Type 0 where
  pub says : Says (said_to_reply m r) said
  pub stands : n ≡ after_reply m r
