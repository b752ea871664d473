-- The conversation with one client: what was heard, learnt and said.
use Rattle.std.specs.Prelude.{◌≡◌, ◌≢◌, ◌⊎◌, ℕ, Bool, true, List, [], ◌∷◌, ◌++◌, take, drop, Option, Some, None}
use Rattle.std.specs.Io.KnownBytes.{append_known, Appends, Consumes, IsAtEnd}
use Rattle.talks.specs.Wants.{Learnt, FitsWant, WantsEnd}
use Rattle.talks.specs.declared.want.Want.{Want}
use Rattle.talks.specs.declared.want.Want.TheVariants as want
use Rattle.talks.specs.declared.talk.MessageFront.TheVariants.{Nothing, Whole, Bad}
use Rattle.talks.specs.declared.talk.Talk.{Ghosts}
use Rattle.talks.specs.declared.clients.EndCause.{EndCause}
use Rattle.talks.specs.declared.clients.EndCause.TheVariants as end_cause

-- ---- one reading of the bytes of a client

-- From a conversation that stands so, over these bytes: this was learnt and this said, this is left of the bytes, and it stands so. Nothing is
-- said of what an allocation failed for, and then it wants no more than its end.
pub data Heard {T : Type 0} (k : Ghosts T) : T → List ℕ → List Learnt → List ℕ → List ℕ → T → Type 0 where
  stays : {t : T} {bytes : List ℕ} → Heard k t bytes [] [] bytes t
  hears : {t u v : T} {bytes said also rest : List ℕ} {xs : List Learnt} (n : ℕ) → k.wants t ≡ want.Message → k.front t bytes ≡ Whole n
      → k.hears t (take n bytes) said u → Heard k u (drop n bytes) xs also rest v → Heard k t bytes xs (said ++ also) rest v
  rejects : {t u v : T} {bytes said also rest : List ℕ} {xs : List Learnt} → k.wants t ≡ want.Message → k.front t bytes ≡ Bad
      → k.rejects t said u → Heard k u bytes xs also rest v → Heard k t bytes xs (said ++ also) rest v
  learns : {t u v : T} {bytes said also rest : List ℕ} {xs : List Learnt} (x : Learnt) → k.wants t ≡ x.want → FitsWant x.want x.reply
      → k.learns t x.reply said u → Heard k u bytes xs also rest v → Heard k t bytes (x ∷ xs) (said ++ also) rest v
  loses : {t u v : T} {bytes also rest : List ℕ} {xs : List Learnt} (x : Learnt) → k.wants t ≡ x.want → FitsWant x.want x.reply
      → k.wants u ≡ want.OutOfMemory → Heard k u bytes xs also rest v → Heard k t bytes (x ∷ xs) also rest v
  breaks : {t u v : T} {bytes also rest : List ℕ} {xs : List Learnt}
      → k.wants u ≡ want.OutOfMemory → Heard k u bytes xs also rest v → Heard k t bytes xs also rest v

-- ---- a client

-- the conversation with a client, and its connection
pub record Conversation (T : Type 0) : Type 0 where
  pub talk : T
  -- what has come of its bytes and was not heard
  pub held : List ℕ
  -- what is still to come of them, where that is known
  pub remaining : Option (List ℕ)
  -- what has gone out to it, where that is known
  pub sent : Option (List ℕ)
  -- what was said to it besides, and has not gone out
  pub unsent : List ℕ
  -- how often its connection has failed
  pub failures : ℕ
  -- a limit was set that may end it
  pub limited : Bool
  -- why its connection has ended, once it has
  pub end_cause : Option EndCause

-- all that was said to a client, where that is known
abbrev pub told : {T : Type 0} → Conversation T → Option (List ℕ)
told x = append_known x.sent x.unsent

-- where a client is: to come, with these bytes, where they are known; there; or gone, after this has gone out to it
pub data ClientState (T : Type 0) : Type 0 where
  awaited : Option (List ℕ) → ClientState T
  there : Conversation T → ClientState T
  gone : Option (List ℕ) → ClientState T

abbrev pub IsGone : {T : Type 0} → ClientState T → Type 0
IsGone (awaited bytes) = ⊥
IsGone (there x) = ⊥
IsGone (gone sent) = Unit {0}

abbrev pub IsThere : {T : Type 0} → ClientState T → Type 0
IsThere (awaited bytes) = ⊥
IsThere (there x) = Unit {0}
IsThere (gone sent) = ⊥

abbrev pub IsAwaited : {T : Type 0} → ClientState T → Type 0
IsAwaited (awaited bytes) = Unit {0}
IsAwaited (there x) = ⊥
IsAwaited (gone sent) = ⊥

-- once its connection has ended a client learns nothing, and that has one reason
abbrev pub EndsOnce : Option EndCause → List Learnt → Option EndCause → Type 0
EndsOnce None xs new = Unit {0}
EndsOnce (Some w) xs new = (xs ≡ []) × (new ≡ Some w)

-- why the connection of a client has ended
abbrev pub ending : {T : Type 0} → ClientState T → Option EndCause
ending (awaited bytes) = None
ending (there x) = x.end_cause
ending (gone sent) = None

-- what is wanted, while the connection has not ended
abbrev pub unless_ended : Option EndCause → Want → Option Want
unless_ended None w = Some w
unless_ended (Some reason) w = None

module _ {T : Type 0} (k : Ghosts T) where
  -- what the conversation with a client wants
  abbrev pub wanted : ClientState T → Option Want
  wanted (awaited bytes) = None
  wanted (there x) = unless_ended x.end_cause (k.wants x.talk)
  wanted (gone sent) = None

  -- the role of which a client has shown that it comes as that
  abbrev pub comes_as : ClientState T → Option (List ℕ)
  comes_as (awaited bytes) = None
  comes_as (there x) = k.comes_as x.talk
  comes_as (gone sent) = None

  -- some bytes came and were heard, this was learnt, and just that was said which the protocol says to all this
  abbrev pub Continues : Conversation T → List Learnt → Conversation T → Type 0
  Continues x xs y = (came : List ℕ) × (said : List ℕ)
      × Consumes x.remaining y.remaining came
      × Heard k x.talk (x.held ++ came) xs said y.held y.talk
      × Appends (told x) (told y) said
      × (y.limited ≡ x.limited) × EndsOnce x.end_cause xs y.end_cause

  -- a client that has just come, with a conversation of this kind
  pub record IsNew (made : T → Type 0) (bytes : Option (List ℕ)) (x : Conversation T) : Type 0 where
    pub starts : k.starts x.talk
    pub is_made : made x.talk
    pub held : x.held ≡ []
    pub remaining : x.remaining ≡ bytes
    pub sent : (x.sent ≡ None) ⊎ (x.sent ≡ Some [])
    pub unsent : x.unsent ≡ []
    pub failures : x.failures ≡ 0
    pub end_cause : x.end_cause ≡ None

  -- each end has its cause; that of Stopped is the machine's, that of HeldTheLock what the client has held, and that of RoleDropped what it has lost
  abbrev pub HasCause : EndCause → Conversation T → Type 0
  HasCause end_cause.Input x = (k.wants x.talk ≡ want.Message) × (k.front x.talk x.held ≡ Nothing) × IsAtEnd x.remaining × (x.unsent ≡ [])
  HasCause end_cause.Finished x = WantsEnd (k.wants x.talk) × (x.unsent ≡ [])
  HasCause end_cause.Failed x = x.failures ≢ 0
  HasCause end_cause.Limit x = x.limited ≡ true
  HasCause end_cause.Memory x = k.wants x.talk ≡ want.OutOfMemory
  HasCause end_cause.Stopped x = Unit {0}
  HasCause end_cause.HeldTheLock x = Unit {0}
  HasCause end_cause.RoleDropped x = Unit {0}

  -- the connection has ended, with its cause
  abbrev pub HasEnded : Conversation T → Type 0
  HasEnded x = (w : EndCause) × (x.end_cause ≡ Some w) × HasCause w x

  -- between these two states a client learnt this: it came, with a conversation of this kind, and it went once its connection had ended
  abbrev pub Passes : (T → Type 0) → ClientState T → List Learnt → ClientState T → Type 0
  Passes made (awaited bytes) xs (awaited left) = (xs ≡ []) × (left ≡ bytes)
  Passes made (awaited bytes) xs (there y) = (x : Conversation T) × IsNew made bytes x × Continues x xs y
  Passes made (awaited bytes) xs (gone sent) = (x : Conversation T) × IsNew made bytes x × ((y : Conversation T) × Continues x xs y × HasEnded y × (y.sent ≡ sent))
  Passes made (there x) xs (awaited left) = ⊥
  Passes made (there x) xs (there y) = Continues x xs y
  Passes made (there x) xs (gone sent) = (y : Conversation T) × Continues x xs y × HasEnded y × (y.sent ≡ sent)
  Passes made (gone old) xs (awaited left) = ⊥
  Passes made (gone old) xs (there y) = ⊥
  Passes made (gone old) xs (gone sent) = (xs ≡ []) × (sent ≡ old)
