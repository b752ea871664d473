-- What a conversation wants, and what it learns.
use Rattle.std.specs.Prelude.{◌≡◌, ◌==◌, ℕ, Bool, true, false, List, [], ◌∷◌, None, Result, Ok, Err, if◌then◌else◌}
use Rattle.std.specs.declared.alloc.AllocError.{AllocError}
use Rattle.sql_types.specs.declared.answer.Answer.TheVariants as answer
use Rattle.sql_types.specs.declared.event.Event.TheVariants as event
use Rattle.sql_types.specs.declared.state.SqlState.TheVariants.{LockNotAvailable, OutOfMemory}
use Rattle.sql_types.specs.declared.tag.Tag.TheVariants as tag
use Rattle.talks.specs.declared.want.Want.{Want}
use Rattle.talks.specs.declared.want.Want.TheVariants as want
use Rattle.talks.specs.declared.want.Reply.{Reply}
use Rattle.talks.specs.declared.want.Reply.TheVariants as reply

-- it wants a step of the machine: an event that opens no session, or a session
abbrev pub WantsStep : Want → Type 0
WantsStep (want.Event (event.Open session login)) = ⊥
WantsStep (want.Event (event.Statement session text)) = Unit {0}
WantsStep (want.Event (event.Close session)) = Unit {0}
WantsStep (want.Open session login entry) = Unit {0}
WantsStep _ = ⊥

-- it wants to be told something: the machine then stands as before, or has stopped
abbrev pub WantsQuestion : Want → Type 0
WantsQuestion (want.Standing session) = Unit {0}
WantsQuestion (want.Description session text) = Unit {0}
WantsQuestion (want.Verifier table role) = Unit {0}
WantsQuestion _ = ⊥

-- it wants no more than the end of its connection
abbrev pub WantsEnd : Want → Type 0
WantsEnd (want.End late) = Unit {0}
WantsEnd _ = ⊥

-- a reply is of the kind that was wanted
abbrev pub FitsWant : Want → Reply → Type 0
FitsWant (want.Event e) (reply.Answer a) = Unit {0}
FitsWant (want.Open session login entry) (reply.Answer a) = Unit {0}
FitsWant (want.Standing session) (reply.Standing b) = Unit {0}
FitsWant (want.Description session text) (reply.Description d) = Unit {0}
FitsWant (want.Verifier table role) (reply.Verifier v) = Unit {0}
FitsWant _ _ = ⊥

-- what a conversation wanted, and what it was told of that
pub record Learnt : Type 0 where
  pub want : Want
  pub reply : Reply

abbrev pub learnt : Want → Reply → Learnt
learnt w r = record { want = w; reply = r }

-- what client c learns where client d is told this
abbrev pub own : ℕ → ℕ → Learnt → List Learnt
own d c x = if d == c then x ∷ [] else []

-- this opens the session of this number for the role of this name
abbrev pub OpensSession : Want → ℕ → List ℕ → Type 0
OpensSession (want.Open session login entry) n role = (session ≡ n) × (login ≡ role)
OpensSession _ n role = ⊥

-- a step is answered as one that opened a session
abbrev pub TellsOpened : Reply → Type 0
TellsOpened r = r ≡ reply.Answer (answer.Done tag.Open None None)

-- a step is refused for memory
abbrev pub RefusesMemory : Reply → Type 0
RefusesMemory r = r ≡ reply.Answer (answer.Refused OutOfMemory)

-- a step is refused since another session holds the writer lock
abbrev pub refuses_lock : Reply → Bool
refuses_lock (reply.Answer (answer.Refused LockNotAvailable)) = true
refuses_lock _ = false

-- this is so, or that; or an allocation failed, where it may
abbrev pub TellsWhether : Type 0 → Type 0 → Type 0 → Result Bool AllocError → Type 0
TellsWhether This That MayFail (Ok true) = This
TellsWhether This That MayFail (Ok false) = That
TellsWhether This That MayFail (Err error) = MayFail

-- of the sessions that a client has, one is open for a role that is lacked
abbrev pub HasLostRole : (ℕ → List ℕ → Type 0) → (List ℕ → Type 0) → Type 0
HasLostRole Has Lacks = (n : ℕ) × ((login : List ℕ) × Has n login × Lacks login)
