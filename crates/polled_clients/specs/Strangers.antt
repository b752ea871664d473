-- Who is there, and no session was opened for it yet.
use Rattle.std.specs.Prelude.{◌==◌, ◌||◌, not, ℕ, Bool, true, false, List, [], ◌∷◌, ◌++◌, length, filter, Option, Some, None, nat_lt, if◌then◌else◌}
use Rattle.std.specs.declared.time.Duration.{Duration}
use Rattle.sql_types.specs.declared.answer.Answer.TheVariants as answer
use Rattle.talks.specs.declared.want.Want.{Want}
use Rattle.talks.specs.declared.want.Want.TheVariants as want
use Rattle.talks.specs.declared.want.Reply.{Reply}
use Rattle.talks.specs.declared.want.Reply.TheVariants as reply
use Rattle.polled_clients.specs.LockWatches.{is_over}
use Rattle.polled_clients.specs.declared.strangers.Stranger.{Stranger}
use Rattle.polled_clients.specs.declared.strangers.Strangers.{Strangers}

-- an event was carried out, or a session opened
abbrev pub is_granted : Reply → Bool
is_granted (reply.Answer (answer.Refused state)) = false
is_granted (reply.Answer a) = true
is_granted _ = false

-- what is wanted is a session, and it was opened
abbrev pub opens_session : Want → Reply → Bool
opens_session (want.Open session login entry) r = is_granted r
opens_session _ r = false

-- with a client last that comes now, where it is limited how long one is there without a session
abbrev pub with_stranger : Option Duration → Stranger → List Stranger → List Stranger
with_stranger None s queue = queue
with_stranger (Some limit) s queue = queue ++ s ∷ []

-- at a place that has no strangers it is none
abbrev pub with_guest : Bool → Option Duration → Stranger → List Stranger → List Stranger
with_guest is_guest limit s queue = if is_guest then with_stranger limit s queue else queue

abbrev pub without_stranger : ℕ → List Stranger → List Stranger
without_stranger c queue = filter (λ s. not (s.client == c)) queue

-- who is to end: who came first, where its place is wanted, where more than 32 are there, or where it was there for as long as it may
abbrev pub first_to_end : Bool → Duration → Option Duration → List Stranger → Option ℕ
first_to_end crowded asked limit [] = None
first_to_end crowded asked limit (s ∷ rest) = if crowded || (nat_lt 32 (length (s ∷ rest)) || is_over asked limit s.came) then Some s.client else None

-- the same, by the moment of the last look
abbrev pub who_ends : Bool → Strangers → Option ℕ
who_ends crowded x = first_to_end crowded x.asked x.limit x.queue.items
