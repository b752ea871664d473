-- What an opening that is answered as one says: the place admitted its role, and no session had its number.
use Rattle.std.proofs.Common.{◌≡◌, ◌∙◌, ℕ, Bool, true, false, cond, List, [], ◌∷◌, Some, None, is_some, nat_eq, nat_le, length, inl, inr, refl, sym, ap, subst}
use Rattle.std.proofs.lemmas.Bool.{eq-eqb}
use Rattle.sql_types.specs.declared.answer.Answer.{Answer}
use Rattle.sql_types.specs.declared.answer.Answer.TheVariants as answer
use Rattle.sql_types.specs.declared.event.Event.TheVariants as event
use Rattle.sql_types.specs.declared.state.SqlState.{SqlState}
use Rattle.sql_types.specs.declared.state.SqlState.TheVariants.{ConnectionNameInUse, DiskFull, InvalidAuthorization, IoError, OutOfMemory, ProgramLimitExceeded, TooManyConnections}
use Rattle.sql_types.specs.declared.tag.Tag.TheVariants as tag
use Rattle.store.specs.Store.{StoreState}
use Rattle.abstract_database.specs.Lists.{TheName}
use Rattle.abstract_database.specs.Roles.{may_log_in}
use Rattle.abstract_database.specs.Machine.{Event, Machine, Outside, Reading, Session, Transition, client_of, number_in, opens, own_sessions, refuses, running_transition, session_of, succeeds, transition, with_session_changed}
use Rattle.abstract_database.specs.Runs.{Counts, IsStep, IsTransition, ReadingRelation, by_transition, for_memory, for_space, for_number, for_device}
use Rattle.server.specs.declared.server.Server.{Server}
use Rattle.talks.specs.declared.want.Want.{Want}
use Rattle.talks.specs.declared.want.Want.TheVariants as want
use Rattle.talks.specs.declared.want.Reply.{Reply}
use Rattle.talks.specs.declared.want.Reply.TheVariants as reply
use Rattle.talks.specs.declared.want.SessionEntry.{SessionEntry}
use Rattle.talks.specs.Wants.{OpensSession, TellsOpened}
use Rattle.served_machine.specs.Admitted.{WantsAdmitted}
use Rattle.served_machine.specs.Served.{IsLetIn, OpensFor, TakesEvent, TakesStep, has_stopped, turns_away, lacks_memory, takes}
use Rattle.served_machine.specs.Sessions.{HasOwnSession, HasSession, IsSoundServer}

-- ---- by the machine

-- the answer of an event that opened a session
abbrev opened : Answer
opened = answer.Done tag.Open None None

-- which is no refusal
no_refusal : (a : Answer) (s : SqlState) → a ≡ answer.Refused s → a ≡ opened → ⊥
no_refusal a s refused says = let wrong : answer.Refused s ≡ opened = sym refused ∙ says in cc

none_at : (b : Bool) (number : ℕ) (e : ℕ × Session) (es : List (ℕ × Session)) (any : TheName) → nat_eq number e.0 ≡ b → (is_some (session_of number es) ≡ false → HasSession es number any → ⊥)
    → is_some (cond b (Some e.1) (session_of number es)) ≡ false → HasSession (e ∷ es) number any → ⊥
none_at true number e es any is later none has = let wrong : true ≡ false = none in cc
none_at false number e es any is later none (inl here) = let wrong : true ≡ false = sym (eq-eqb number e.0 (sym here.0)) ∙ is in cc
none_at false number e es any is later none (inr rest) = later none rest

-- where no session has a number, none has it for any role
none_there : (es : List (ℕ × Session)) (number : ℕ) (any : TheName) → is_some (session_of number es) ≡ false → HasSession es number any → ⊥
none_there [] number any none has = absurd has
none_there (e ∷ es) number any none has = none_at (nat_eq number e.0) number e es any refl (none_there es number any) none has

module _ (m : Machine) (number : ℕ) (login : TheName) where
  -- no session has the number
  abbrev IsFree : Type 0
  IsFree = is_some (session_of number m.sessions) ≡ false

  free_at : (a b c : Bool) → is_some (session_of number m.sessions) ≡ a
      → (cond a (refuses m ConnectionNameInUse) (cond b (refuses m TooManyConnections) (cond c (succeeds tag.Open (with_session_changed m number (record { login = login; role = login; block = Outside }))) (refuses m InvalidAuthorization)))).answer ≡ opened
      → IsFree
  free_at true b c is says = absurd (no_refusal (answer.Refused ConnectionNameInUse) ConnectionNameInUse refl says)
  free_at false b c is says = is

  free_running : (stopped : Bool) → (cond stopped (refuses m IoError) (running_transition m (opens number login))).answer ≡ opened → IsFree
  free_running true says = absurd (no_refusal (answer.Refused IoError) IoError refl says)
  free_running false says = free_at (is_some (session_of number m.sessions)) (nat_le 256 (length (own_sessions (client_of number) m.sessions))) (may_log_in m.committed login) refl says

  free_before : (Reads : ReadingRelation) (t : Transition) → IsTransition Reads m (opens number login) t → t.answer ≡ opened → IsFree
  free_before Reads t is says =
      free_running m.stopped (ap (λ (e : Event Reading). (transition m e).answer) (sym is.read) ∙ (sym (ap (λ (u : Transition). u.answer) is.is) ∙ says))

  free_step : (Reads : ReadingRelation) (old new : Counts) (a : Answer) (after : Machine) → IsStep Reads old new m (opens number login) a after → a ≡ opened → IsFree
  free_step Reads old new a after (by_transition is) says = free_before Reads (record { answer = a; machine = after }) is says
  free_step Reads old new a after (for_memory refused is may) says = absurd (no_refusal a OutOfMemory refused says)
  free_step Reads old new a after (for_space refused is may rises) says = absurd (no_refusal a DiskFull refused says)
  free_step Reads old new a after (for_number refused is may greatest) says = absurd (no_refusal a ProgramLimitExceeded refused says)
  free_step Reads old new a after (for_device t is may refused stays failed) says = absurd (no_refusal a IoError refused says)

-- ---- by the server

answer_inside : (a b : Answer) → reply.Answer a ≡ reply.Answer b → a ≡ b
answer_inside a b is = cc

module _ {S X : Type 0} (Reads : ReadingRelation) (state : S → StoreState) (old new : Server S X) where
  -- the client had no session of this number
  abbrev HadNone : ℕ → ℕ → Type 0
  HadNone c n = (any : TheName) → HasOwnSession state old c n any → ⊥

  had_none : (c n : ℕ) (login : TheName) (a : Answer) → TakesEvent Reads state c (event.Open n login) a old new → a ≡ opened → IsSoundServer state old → HadNone c n
  had_none c n login a made says sound any had =
      let w = sound.1.0 in
      let next = made.steps sound.0 w sound.1.1 in
      none_there w.standing.machine.sessions (number_in c n) any (free_step w.standing.machine (number_in c n) login Reads w.counts next.0.counts a next.0.standing.machine next.2.step says)
      (subst (λ (es : List (ℕ × Session)). HasSession es (number_in c n) any) (had.1.sessions ∙ sym sound.1.1.sessions) had.3)

  opening_new : (c k : ℕ) (role : TheName) (entry : SessionEntry) (a : Answer) → a ≡ opened → IsSoundServer state old → OpensFor Reads state c k role entry a old new → IsLetIn state old entry role × HadNone c k
  opening_new c k role entry a says sound (has_stopped stopped refused is) = absurd (no_refusal a IoError refused says)
  opening_new c k role entry a says sound (turns_away runs away refused is) = absurd (no_refusal a InvalidAuthorization refused says)
  opening_new c k role entry a says sound (lacks_memory runs admitted refused is) = absurd (no_refusal a OutOfMemory refused says)
  opening_new c k role entry a says sound (takes runs admitted small made) = (admitted, had_none c k role a made says sound)

  -- a step that is answered so opened a session for whom its place admitted, and of a number that was free
  pub opens_new : (c : ℕ) (w : Want) (r : Reply) (n : ℕ) (login : TheName) → IsSoundServer state old → OpensSession w n login → TellsOpened r → TakesStep Reads state c w r old new → WantsAdmitted state old w n login × HadNone c n
  opens_new c (want.Open k role entry) (reply.Answer a) n login sound it tells made =
      let taken = opening_new c k role entry a (answer_inside a opened tells) sound made in
      ((it.0, it.1, subst (λ (l : TheName). IsLetIn state old entry l) it.1 taken.0), λ any had. taken.1 any (subst (λ (m : ℕ). HasOwnSession state old c m any) (sym it.0) had))
  opens_new c (want.Open k role entry) (reply.Standing b) n login sound it tells made = absurd made
  opens_new c (want.Open k role entry) (reply.Description x) n login sound it tells made = absurd made
  opens_new c (want.Open k role entry) (reply.Verifier v) n login sound it tells made = absurd made
  opens_new c want.Message r n login sound it tells made = absurd it
  opens_new c (want.Event e) r n login sound it tells made = absurd it
  opens_new c (want.Standing k) r n login sound it tells made = absurd it
  opens_new c (want.Description k text) r n login sound it tells made = absurd it
  opens_new c (want.Verifier table role) r n login sound it tells made = absurd it
  opens_new c (want.End late) r n login sound it tells made = absurd it
  opens_new c want.OutOfMemory r n login sound it tells made = absurd it
