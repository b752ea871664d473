-- A session comes only by the event that opens it, which is answered so, and keeps its login role.
use Rattle.std.proofs.Common.{◌≡◌, ◌⊎◌, ◌∙◌, inl, inr, ℕ, Bool, true, false, cond, List, [], ◌∷◌, refl, sym, ap, subst, nat_eq, nat_le, length, is_some, Option, Some, None}
use Rattle.std.proofs.lemmas.Bool.{eqb-true, eq-eqb}
use Rattle.sql_types.specs.declared.answer.Answer.{Answer}
use Rattle.sql_types.specs.declared.answer.Answer.TheVariants as answer
use Rattle.sql_types.specs.declared.state.SqlState.TheVariants.{InvalidAuthorization, TooManyConnections, ConnectionNameInUse, IoError}
use Rattle.sql_types.specs.declared.tag.Tag.TheVariants as tag
use Rattle.abstract_database.specs.Lists.{TheName}
use Rattle.abstract_database.specs.Roles.{may_log_in}
use Rattle.abstract_database.specs.Machine.{client_of, own_sessions, Outside, Session, Event, opens, executes, closes, Reading, Machine, Transition, refuses, succeeds, session_of, with_session, without_session, with_session_changed, close_session, execute_in, execute, running_transition, transition}
use Rattle.abstract_database.specs.Runs.{TheText, ReadingRelation, IsReadAs, IsTransition, Counts, IsStep, by_transition, for_memory, for_space, for_number, for_device}
use Rattle.database_laws.proofs.SessionLemmas.{SessionsAfter, all_stay, one_changes, after_reading}
use Rattle.served_machine.specs.Sessions.{HasSession}

-- ---- lists

there_at : (b : Bool) (number : ℕ) (e : ℕ × Session) (es : List (ℕ × Session)) (s : Session) → nat_eq number e.0 ≡ b
    → (session_of number es ≡ Some s → HasSession es number s.login) → cond b (Some e.1) (session_of number es) ≡ Some s → HasSession (e ∷ es) number s.login
there_at true number e es s is later found = let same : e.1 ≡ s = cc in inl (sym (eqb-true number e.0 is), ap (λ (t : Session). t.login) same)
there_at false number e es s is later found = inr (later found)

-- the session of a number is there
there : (es : List (ℕ × Session)) (number : ℕ) (s : Session) → session_of number es ≡ Some s → HasSession es number s.login
there [] number s found = cc
there (e ∷ es) number s found = there_at (nat_eq number e.0) number e es s refl (there es number s) found

not_there_at : (b : Bool) (number : ℕ) (e : ℕ × Session) (es : List (ℕ × Session)) (l : TheName) → nat_eq number e.0 ≡ b
    → (is_some (session_of number es) ≡ false → HasSession es number l → ⊥) → is_some (cond b (Some e.1) (session_of number es)) ≡ false → HasSession (e ∷ es) number l → ⊥
not_there_at true number e es l is later none has = let wrong : true ≡ false = none in cc
not_there_at false number e es l is later none (inl here) = let wrong : true ≡ false = sym (eq-eqb number e.0 (sym here.0)) ∙ is in cc
not_there_at false number e es l is later none (inr rest) = later none rest

-- no session is there where none has its number
not_there : (es : List (ℕ × Session)) (number : ℕ) (l : TheName) → is_some (session_of number es) ≡ false → HasSession es number l → ⊥
not_there [] number l none has = absurd has
not_there (e ∷ es) number l none has = not_there_at (nat_eq number e.0) number e es l refl (not_there es number l) none has

with_at : (b : Bool) (number : ℕ) (e : ℕ × Session) (es : List (ℕ × Session)) (s : Session) (n : ℕ) (l : TheName) → nat_eq number e.0 ≡ b
    → (HasSession (with_session es number s) n l → HasSession es n l ⊎ ((number ≡ n) × (s.login ≡ l)))
    → HasSession (cond b ((e.0, s) ∷ es) (e ∷ with_session es number s)) n l → HasSession (e ∷ es) n l ⊎ ((number ≡ n) × (s.login ≡ l))
with_at true number e es s n l is later (inl here) = inr (eqb-true number e.0 is ∙ here.0, here.1)
with_at true number e es s n l is later (inr rest) = inl (inr rest)
with_at false number e es s n l is later (inl here) = inl (inl here)
with_at false number e es s n l is later (inr rest) = elim (later rest) [ inl old ↦ inl (inr old) | inr new ↦ inr new ]

-- with a session in place of another, or at the end
pub with_one : (es : List (ℕ × Session)) (number : ℕ) (s : Session) (n : ℕ) (l : TheName) → HasSession (with_session es number s) n l → HasSession es n l ⊎ ((number ≡ n) × (s.login ≡ l))
with_one [] number s n l (inl here) = inr here
with_one [] number s n l (inr never) = absurd never
with_one (e ∷ es) number s n l has = with_at (nat_eq number e.0) number e es s n l refl (with_one es number s n l) has

without_at : (b : Bool) (e : ℕ × Session) (es rest : List (ℕ × Session)) (n : ℕ) (l : TheName) → (HasSession rest n l → HasSession es n l) → HasSession (cond b es (e ∷ rest)) n l → HasSession (e ∷ es) n l
without_at true e es rest n l later has = inr has
without_at false e es rest n l later (inl here) = inl here
without_at false e es rest n l later (inr has) = inr (later has)

-- without one
without_one : (es : List (ℕ × Session)) (number n : ℕ) (l : TheName) → HasSession (without_session number es) n l → HasSession es n l
without_one [] number n l has = has
without_one (e ∷ es) number n l has = without_at (nat_eq number e.0) e es (without_session number es) n l (without_one es number n l) has

-- ---- transitions

module _ (m : Machine) (n : ℕ) (l : TheName) where
  -- the session was there before
  abbrev WasThere : Transition → Type 0
  WasThere t = HasSession t.machine.sessions n l → HasSession m.sessions n l

  -- the event opens it where it was not there, and is answered so
  abbrev pub IsOpenedBy : {T : Type 0} → Event T → Answer → Type 0
  IsOpenedBy event a = (event ≡ opens n l) × (a ≡ answer.Done tag.Open None None) × (HasSession m.sessions n l → ⊥)

  -- the session was there before, or the event opens it
  abbrev Comes : Event Reading → Transition → Type 0
  Comes event t = HasSession t.machine.sessions n l → HasSession m.sessions n l ⊎ IsOpenedBy event t.answer

  after_statement : (number : ℕ) (s : Session) (t : Transition) → session_of number m.sessions ≡ Some s → SessionsAfter m number s t → WasThere t
  after_statement number s t found (all_stay is) has = subst (λ (es : List (ℕ × Session)). HasSession es n l) is has
  after_statement number s t found (one_changes changed login block is) has =
      elim (with_one m.sessions number changed n l (subst (λ (es : List (ℕ × Session)). HasSession es n l) is has)) [
        | inl old ↦ old
        | inr it ↦ subst (λ (k : ℕ). HasSession m.sessions k l) it.0 (subst (λ (k : TheName). HasSession m.sessions number k) (sym login ∙ it.1) (there m.sessions number s found))
      ]

  executed : (number : ℕ) (reading : Reading) (found : Option Session) → session_of number m.sessions ≡ found → WasThere (execute m number reading found)
  executed number reading None is has = has
  executed number reading (Some s) is has = after_statement number s (execute_in m number s reading) is (after_reading m number s reading) has

  closed : (number : ℕ) (found : Option Session) → WasThere (close_session m number found)
  closed number None has = has
  closed number (Some s) has = without_one m.sessions number n l has

  opened_at : (number : ℕ) (login : TheName) (a b c : Bool) → is_some (session_of number m.sessions) ≡ a
      → Comes (opens number login) (cond a (refuses m ConnectionNameInUse) (cond b (refuses m TooManyConnections) (cond c (succeeds tag.Open (with_session_changed m number (record { login = login; role = login; block = Outside }))) (refuses m InvalidAuthorization))))
  opened_at number login true b c is has = inl has
  opened_at number login false true c is has = inl has
  opened_at number login false false true is has = elim (with_one m.sessions number (record { login = login; role = login; block = Outside }) n l has) [
    | inl old ↦ inl old
    | inr it ↦ inr (
      ap (λ (k : ℕ). opens k login) it.0 ∙ ap (λ (k : TheName). opens n k) it.1,
      refl,
      λ was. not_there m.sessions n l (subst (λ (k : ℕ). is_some (session_of k m.sessions) ≡ false) it.0 is) was,
    )
  ]
  opened_at number login false false false is has = inl has

  running : (event : Event Reading) → Comes event (running_transition m event)
  running (opens number login) has = opened_at number login (is_some (session_of number m.sessions)) (nat_le 256 (length (own_sessions (client_of number) m.sessions))) (may_log_in m.committed login) refl has
  running (closes number) has = inl (closed number (session_of number m.sessions) has)
  running (executes number reading) has = inl (executed number reading (session_of number m.sessions) refl has)

  stopped_or : (b : Bool) (event : Event Reading) → Comes event (cond b (refuses m IoError) (running_transition m event))
  stopped_or true event has = inl has
  stopped_or false event has = running event has

  comes : (event : Event Reading) → Comes event (transition m event)
  comes event has = stopped_or m.stopped event has

  -- ---- events

  -- a text opens none
  as_text : (Reads : ReadingRelation) (e : Event TheText) (event : Event Reading) → IsReadAs Reads m e event → event ≡ opens n l → e ≡ opens n l
  as_text Reads (opens number login) event read is =
      let same : ◌≡◌ {A = Event Reading} (opens number login) (opens n l) = sym read ∙ is in
      let numbers : number ≡ n = cc in
      let names : login ≡ l = cc in
      ap (λ (k : ℕ). opens k login) numbers ∙ ap (λ (k : TheName). opens n k) names
  as_text Reads (closes number) event read is = let never : ◌≡◌ {A = Event Reading} (closes number) (opens n l) = sym read ∙ is in cc
  as_text Reads (executes number text) event read is = let never : ◌≡◌ {A = Event Reading} (executes number read.0) (opens n l) = sym read.1 ∙ is in cc

  by_event : (Reads : ReadingRelation) (e : Event TheText) (t : Transition) → IsTransition Reads m e t → HasSession t.machine.sessions n l → HasSession m.sessions n l ⊎ IsOpenedBy e t.answer
  by_event Reads e t is has =
      elim (comes is.as_read (subst (λ (u : Transition). HasSession u.machine.sessions n l) is.is has)) [
        | inl old ↦ inl old
        | inr opened ↦ inr (as_text Reads e is.as_read is.read opened.0, ap (λ (u : Transition). u.answer) is.is ∙ opened.1, opened.2)
      ]

  same_sessions : (after : Machine) → after ≡ m → HasSession after.sessions n l → HasSession m.sessions n l
  same_sessions after is has = subst (λ (k : Machine). HasSession k.sessions n l) is has

  -- a session that is open after an event over a store was open before, for the same role, or the event opens it for that role, and is answered so
  pub by_step : (Reads : ReadingRelation) (old new : Counts) (e : Event TheText) (a : Answer) (after : Machine) → IsStep Reads old new m e a after → HasSession after.sessions n l
      → HasSession m.sessions n l ⊎ IsOpenedBy e a
  by_step Reads old new e a after (by_transition is) has = by_event Reads e (record { answer = a; machine = after }) is has
  by_step Reads old new e a after (for_memory refused is may) has = inl (same_sessions after is has)
  by_step Reads old new e a after (for_space refused is may rises) has = inl (same_sessions after is has)
  by_step Reads old new e a after (for_number refused is may greatest) has = inl (same_sessions after is has)
  by_step Reads old new e a after (for_device t is may refused stays failed) has = inl (subst (λ (k : Machine). HasSession k.sessions n l) stays has)
