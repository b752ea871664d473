-- Which clients are entitled to sessions, by what was done for them before, at the places of a server.
use Rattle.std.specs.Prelude.{◌≡◌, ◌⊎◌, ℕ, Bool, true, false, List, [], ◌∷◌, ◌++◌, Option, Some, None}
use Rattle.std.specs.List.{AllByRecursion}
use Rattle.std.specs.Io.KnownBytes.{append_known, Appends, Consumes}
use Rattle.store.specs.Store.{StoreState}
use Rattle.abstract_database.specs.Lists.{TheName}
use Rattle.abstract_database.specs.Runs.{At, ReadingRelation}
use Rattle.server.specs.Standing.{Represents}
use Rattle.server.specs.Superusers.{may_become_superuser}
use Rattle.talks.specs.declared.want.Want.{Want}
use Rattle.talks.specs.declared.want.Want.TheVariants as want
use Rattle.talks.specs.declared.talk.Talk.{Ghosts as TalkGhosts}
use Rattle.talks.specs.declared.clients.ServedClients.{Ghosts as ClientsGhosts}
use Rattle.talks.specs.Conversations.{ClientState, awaited, there, gone, told, IsAwaited, Heard}
use Rattle.talks.specs.Turns.{Turn, TakesTurns}
use Rattle.served_machine.specs.declared.machine.ServedMachine.{ServedMachine}
use Rattle.served_machine.specs.Machines.{machine_of}
use Rattle.served_machine.specs.Admitted.{WantsAdmitted}
use Rattle.served_machine.specs.Sessions.{HasOwnSession, IsSoundServer}
use Rattle.login_laws.specs.Answers.{IsAnswerOf, IsOpening}
use Rattle.login_laws.specs.Done.{Done, done_for, told_in, all_done}

-- whether a client is entitled to a session for the role of this name: by its place, the bytes that were drawn for its conversation, those that it has
-- sent, those that were said to it, and what was done for it before
abbrev pub Entitlement : Type 0 → Type 0 → Type 0 → Type 1
Entitlement P S X = P → (drawn sent said : List ℕ) → List (Done S X) → TheName → Type 0

module _ {S X : Type 0} (Entitled : List (Done S X) → TheName → Type 0) where
  -- once this was done for it a client wants no session but one to which it is entitled
  abbrev pub WantsAsEntitled : List (Done S X) → Want → Type 0
  WantsAsEntitled past (want.Open session login entry) = Entitled past login
  WantsAsEntitled past _ = Unit {0}

  -- so it is of each thing that it wanted, one after the other
  abbrev pub WantedAsEntitled : List (Done S X) → List (Done S X) → Type 0
  WantedAsEntitled past [] = Unit {0}
  WantedAsEntitled past (x ∷ xs) = WantsAsEntitled past x.exchange.want × WantedAsEntitled (past ++ x ∷ []) xs

  -- one thing that was done for it opened this session, to which it was entitled then
  pub record OpenedAsEntitled (state : S → StoreState) (xs : List (Done S X)) (n : ℕ) (login : TheName) : Type 0 where
    pub past : List (Done S X)
    pub opening : Done S X
    pub later : List (Done S X)
    pub is_done : xs ≡ past ++ opening ∷ later
    pub opened : IsOpening state opening later n login
    pub entitled : Entitled past login

-- at a place that admits no superuser a client wants no session but with an entry that says so
abbrev pub WantsBarred : Bool → Want → Type 0
WantsBarred no_superuser (want.Open session login entry) = no_superuser ≡ true → entry.no_superuser ≡ true
WantsBarred no_superuser _ = Unit {0}

-- of a role that was let in for a session: it may not become a superuser, by the database that was committed where the server stood then
abbrev pub IsNoSuperuser : {S X : Type 0} → (S → StoreState) → Done S X → Type 0
IsNoSuperuser state x = (n : ℕ) (login : TheName) → WantsAdmitted state x.server x.exchange.want n login → (w : At) → Represents state x.server w → may_become_superuser w.standing.machine.committed login ≡ false

-- ---- a client that came

-- this is what came of a client that was awaited and stands so now: its bytes begin so, where it is known which they are. What is left of the bytes of one
-- that is there is still to come
abbrev pub HasSent : {T : Type 0} → ClientState T → ClientState T → List ℕ → Type 0
HasSent (awaited bytes) (awaited left) sent = ⊥
HasSent (awaited bytes) (there x) sent = Consumes bytes x.remaining sent
HasSent (awaited bytes) (gone told) sent = (left : Option (List ℕ)) × Consumes bytes left sent
HasSent (there x) now sent = ⊥
HasSent (gone told) now sent = ⊥

-- since so much had gone out to a client this was said to it, where that is known; the last of it may not have gone out
abbrev pub WasSaid : {T : Type 0} → Option (List ℕ) → ClientState T → List ℕ → Type 0
WasSaid before (awaited bytes) said = ⊥
WasSaid before (there x) said = Appends before (told x) said
WasSaid before (gone sent) said = (unsent : List ℕ) × Appends before (append_known sent unsent) said

-- where a client is still there, its conversation stands so now, and these bytes came that it has not heard
abbrev pub StandsNow : {T : Type 0} → ClientState T → T → List ℕ → Type 0
StandsNow (awaited bytes) last rest = ⊥
StandsNow (there x) last rest = (x.talk ≡ last) × (x.held ≡ rest)
StandsNow (gone told) last rest = Unit {0}

-- `made` are the conversations that the server makes; `client` is a client before all this was done for it, and `now` after it
module _ {P S X T : Type 0} (state : S → StoreState) (t : TalkGhosts T) (made : T → Type 0) (place_of : T → P) (drawn_of : T → List ℕ) (Entitled : Entitlement P S X) (client now : ClientState T) (xs : List (Done S X)) where
  -- A client came that was awaited, with a conversation that the server made and that began then. It heard what the client sent, and said what was said.
  -- What had gone out to the client by then is not known, or was nothing; where it is known, all that was said to it since is this. All that was done for
  -- the client is what that conversation learnt. While the client is there, its conversation stands so
  pub record Came (talk : T) (sent said : List ℕ) : Type 0 where
    pub is_made : made talk
    pub starts : t.starts talk
    pub has_sent : HasSent client now sent
    pub gone_out : Option (List ℕ)
    pub none_yet : (gone_out ≡ None) ⊎ (gone_out ≡ Some [])
    pub was_said : WasSaid gone_out now said
    pub rest : List ℕ
    pub last : T
    pub heard : Heard t talk sent (told_in xs) said rest last
    pub stands : StandsNow now last rest

  -- nothing was done for it; or it came, and wanted sessions only as it was entitled at the place of its conversation. So does what that wants next
  abbrev pub WantsOnlyAsEntitled : Type 0
  WantsOnlyAsEntitled = (xs ≡ []) ⊎ ((talk : T) × (sent : List ℕ) × (said : List ℕ) × (came : Came talk sent said)
      × WantedAsEntitled (Entitled (place_of talk) (drawn_of talk) sent said) [] xs × WantsAsEntitled (Entitled (place_of talk) (drawn_of talk) sent said) xs (t.wants came.last))

  -- it came, and this session was opened for it as it was entitled there
  abbrev pub HasSessionAsEntitled : ℕ → TheName → Type 0
  HasSessionAsEntitled n login = (talk : T) × (sent : List ℕ) × (said : List ℕ) × Came talk sent said × OpenedAsEntitled (Entitled (place_of talk) (drawn_of talk) sent said) state xs n login

  -- it came, and before this was done for it the session was opened for it as it was entitled there
  abbrev pub IsAnsweredAsEntitled : List (Done S X) → ℕ → TheName → Type 0
  IsAnsweredAsEntitled past n login = (talk : T) × (sent : List ℕ) × (said : List ℕ) × Came talk sent said × OpenedAsEntitled (Entitled (place_of talk) (drawn_of talk) sent said) state past n login

-- ---- the laws

module _ (P S X T C : Type 0) (Reads : ReadingRelation) (state : S → StoreState) (t : TalkGhosts T) (k : ClientsGhosts C T) (place_of : T → P) (drawn_of : T → List ℕ) (Entitled : Entitlement P S X) where
  -- whatever turns a server over a sound store takes, a client that comes in them wants sessions only as it is entitled
  abbrev pub sessions_are_wanted_as_entitled : Type 0
  sessions_are_wanted_as_entitled = (old : ServedMachine S X) (before : C) (turns : List Turn) (new : ServedMachine S X) (after : C) (took : TakesTurns (machine_of Reads state) t k old before turns new after) →
      IsSoundServer state old.server → (c : ℕ) → IsAwaited (k.at before c) →
      WantsOnlyAsEntitled state t (k.makes (k.maker before)) place_of drawn_of Entitled (k.at before c) (k.at after c) (done_for c (all_done Reads state t k old before turns new after took))

  -- and each session that it has after them, and had not before, was opened in them as it was entitled
  abbrev pub sessions_are_opened_as_entitled : Type 0
  sessions_are_opened_as_entitled = (old : ServedMachine S X) (before : C) (turns : List Turn) (new : ServedMachine S X) (after : C) (took : TakesTurns (machine_of Reads state) t k old before turns new after) →
      IsSoundServer state old.server → (c : ℕ) → IsAwaited (k.at before c) → (n : ℕ) (login : TheName) → (HasOwnSession state old.server c n login → ⊥) → HasOwnSession state new.server c n login →
      HasSessionAsEntitled state t (k.makes (k.maker before)) place_of drawn_of Entitled (k.at before c) (k.at after c) (done_for c (all_done Reads state t k old before turns new after took)) n login

  -- and each answer of a session that is told to it in them, of one that it had not before, is of a session that was opened before so
  abbrev pub sessions_are_answered_as_entitled : Type 0
  sessions_are_answered_as_entitled = (old : ServedMachine S X) (before : C) (turns : List Turn) (new : ServedMachine S X) (after : C) (took : TakesTurns (machine_of Reads state) t k old before turns new after) →
      IsSoundServer state old.server → (past : List (Done S X)) (x : Done S X) (later : List (Done S X)) → all_done Reads state t k old before turns new after took ≡ past ++ x ∷ later → IsAwaited (k.at before x.exchange.client) →
      (number : ℕ) (login : TheName) (answer : IsAnswerOf state x number login) → (HasOwnSession state old.server x.exchange.client answer.own login → ⊥) →
      IsAnsweredAsEntitled state t (k.makes (k.maker before)) place_of drawn_of Entitled (k.at before x.exchange.client) (k.at after x.exchange.client) (done_for x.exchange.client (all_done Reads state t k old before turns new after took)) (done_for x.exchange.client past) answer.own login

  -- of a client that came with a conversation, where the place of that admits no superuser: each session that it wants in them is wanted so
  abbrev pub superusers_are_barred : (no_superuser : T → Bool) → Type 0
  superusers_are_barred no_superuser = (old : ServedMachine S X) (before : C) (turns : List Turn) (new : ServedMachine S X) (after : C) (took : TakesTurns (machine_of Reads state) t k old before turns new after) →
      (c : ℕ) (talk : T) (sent said : List ℕ) →
      Came state t (k.makes (k.maker before)) place_of drawn_of Entitled (k.at before c) (k.at after c) (done_for c (all_done Reads state t k old before turns new after took)) talk sent said →
      AllByRecursion (λ x. WantsBarred (no_superuser talk) x.exchange.want) (done_for c (all_done Reads state t k old before turns new after took))

  -- so each role for which it was let in there may not become a superuser
  abbrev pub superusers_are_not_let_in : (no_superuser : T → Bool) → Type 0
  superusers_are_not_let_in no_superuser = (old : ServedMachine S X) (before : C) (turns : List Turn) (new : ServedMachine S X) (after : C) (took : TakesTurns (machine_of Reads state) t k old before turns new after) →
      (c : ℕ) (talk : T) (sent said : List ℕ) →
      Came state t (k.makes (k.maker before)) place_of drawn_of Entitled (k.at before c) (k.at after c) (done_for c (all_done Reads state t k old before turns new after took)) talk sent said →
      no_superuser talk ≡ true → AllByRecursion (IsNoSuperuser state) (done_for c (all_done Reads state t k old before turns new after took))
