-- What a client may send before it is let in: packets of the start, and then two messages of kind p (PostgreSQL 15 manual, 55.2.1, 55.3.1 and 55.7).
use Rattle.std.specs.Prelude.{◌≡◌, ◌==◌, ◌&&◌, ℕ, Bool, nat_le, nat_lt, if◌then◌else◌, List, [], ◌∷◌, length, take, drop, codes, bytes_eq, Option, Some, None}
use Rattle.std.specs.Str.{is_utf8}
use Rattle.sql_types.specs.declared.state.SqlState.TheVariants.{InvalidAuthorization, ProtocolViolation}
use Rattle.postgres_messages.specs.declared.front.StreamFront.{StreamFront}
use Rattle.postgres_messages.specs.declared.front.StreamFront.TheVariants as stream
use Rattle.postgres_messages.specs.Front.{message_front, start_front}
use Rattle.postgres_messages.specs.Sasl.{TheInitial, SpellsInitial}
use Rattle.postgres_messages.specs.Start.{TheParameter, TheStart, cancel_request, gss_request, ssl_request, startup, other_version, SpellsStart}
use Rattle.talks.specs.declared.talk.MessageFront.{MessageFront}
use Rattle.talks.specs.declared.talk.MessageFront.TheVariants.{Nothing, Whole, Bad}
use Rattle.postgres_logins.specs.declared.start_request.StartRequest.{StartRequest}
use Rattle.postgres_logins.specs.declared.start_request.StartRequest.TheVariants as request
use Rattle.postgres_logins.specs.declared.stage.SaslStage.{SaslStage}
use Rattle.postgres_logins.specs.declared.stage.SaslStage.TheVariants as stage

-- ---- fronts

abbrev pub front_in : StreamFront → MessageFront
front_in stream.Nothing = Nothing
front_in (stream.Whole n) = Whole n
front_in stream.Bad = Bad

-- a packet of the start, and then a message of at most 2,000 bytes behind its kind
abbrev pub entry_front : SaslStage → List ℕ → MessageFront
entry_front (stage.Starting answered) bytes = front_in (start_front bytes)
entry_front s bytes = front_in (message_front 2000 bytes)

-- ---- packets of the start

-- the packet that a message is, or none
abbrev pub IsPacket : List ℕ → Option TheStart → Type 0
IsPacket message (Some p) = SpellsStart message p
IsPacket message None = (p : TheStart) → SpellsStart message p → ⊥

-- the value of the first parameter `user`
abbrev pub user_in : List TheParameter → Option (List ℕ)
user_in [] = None
user_in (p ∷ ps) = if bytes_eq p.name (codes "user") then Some p.value else user_in ps

-- no role is named
abbrev pub nameless : StartRequest
nameless = request.Unfit InvalidAuthorization

-- a role is named by text
abbrev pub login_of : Option (List ℕ) → StartRequest
login_of None = nameless
login_of (Some role) = if nat_lt 0 (length role) && is_utf8 role then request.Login role else nameless

abbrev pub packet_request : TheStart → StartRequest
packet_request ssl_request = request.Encryption
packet_request gss_request = request.Encryption
packet_request (cancel_request process key) = request.Leave
packet_request (startup minor parameters) = login_of (user_in parameters)
packet_request (other_version code body) = request.Unfit ProtocolViolation

-- what a packet asks
abbrev pub start_request : Option TheStart → StartRequest
start_request (Some p) = packet_request p
start_request None = request.Unfit ProtocolViolation

-- what a message asks that is to be a packet of the start
abbrev pub AsksAtStart : List ℕ → StartRequest → Type 0
AsksAtStart message r = (o : Option TheStart) × IsPacket message o × (r ≡ start_request o)

-- ---- messages of kind p

-- the body of a message: what stands behind its kind and its length, if its kind is p
abbrev pub answer_in : List ℕ → Option (List ℕ)
answer_in [] = None
answer_in (kind ∷ rest) = if kind == 112 && nat_le 4 (length rest) then Some (drop 4 rest) else None

-- the SASLInitialResponse that a body is, or none
abbrev pub IsInitial : List ℕ → Option TheInitial → Type 0
IsInitial body (Some i) = SpellsInitial body i
IsInitial body None = (i : TheInitial) → SpellsInitial body i → ⊥

-- the first message of an exchange, where the mechanism is the one that was offered
abbrev pub first_of : Option TheInitial → Option (List ℕ)
first_of (Some i) = if bytes_eq i.mechanism (codes "SCRAM-SHA-256") then i.response else None
first_of None = None

-- it begins an exchange by this first message, or is none that does
abbrev pub CarriesFirstIn : Option (List ℕ) → Option (List ℕ) → Type 0
CarriesFirstIn (Some body) first = (o : Option TheInitial) × IsInitial body o × (first ≡ first_of o)
CarriesFirstIn None first = first ≡ None

abbrev pub CarriesFirst : List ℕ → Option (List ℕ) → Type 0
CarriesFirst message first = CarriesFirstIn (answer_in message) first

-- ---- at the front of some bytes

-- they begin with a packet that asks this, which is so many bytes long, and this is the rest
pub record SendsPacket (bytes : List ℕ) (r : StartRequest) (size : ℕ) (rest : List ℕ) : Type 0 where
  pub front : start_front bytes ≡ stream.Whole size
  pub asks : AsksAtStart (take size bytes) r
  pub rest_is : rest ≡ drop size bytes

-- they begin with a message that has the first message of an exchange
pub record SendsFirst (bytes first rest : List ℕ) : Type 0 where
  pub size : ℕ
  pub front : message_front 2000 bytes ≡ stream.Whole size
  pub is_first : CarriesFirst (take size bytes) (Some first)
  pub rest_is : rest ≡ drop size bytes

-- they begin with a message of kind p, which carries this
pub record SendsLast (bytes last rest : List ℕ) : Type 0 where
  pub size : ℕ
  pub front : message_front 2000 bytes ≡ stream.Whole size
  pub carries : answer_in (take size bytes) ≡ Some last
  pub rest_is : rest ≡ drop size bytes
