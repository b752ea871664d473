-- Look-ups of verifiers in which the device fails.
use Rattle.std.proofs.Common.{◌≡◌, ◌∙◌, ℕ, nat_eq, nat_le, Bool, true, false, cond, List, length, map, None, is_some, Ok, Err, refl, sym, ap, subst}
use Rattle.std.proofs.lemmas.Bool.{eqb-true}
use Rattle.sql_types.specs.declared.answer.Answer.TheVariants.{Refused}
use Rattle.sql_types.specs.declared.state.SqlState.{SqlState}
use Rattle.sql_types.specs.declared.state.SqlState.TheVariants.{InvalidAuthorization, TooManyConnections, OutOfMemory, IoError, ConnectionDoesNotExist, ConnectionNameInUse}
use Rattle.sql_types.specs.declared.tag.Tag.TheVariants as tag
use Rattle.store.specs.Store.{StoreState}
use Rattle.abstract_database.specs.Lists.{TheName}
use Rattle.abstract_database.specs.Roles.{may_log_in}
use Rattle.abstract_database.specs.Machine.{opens, Machine, Session, Transition, refuses, succeeds, client_of, own_sessions, session_of, with_session_changed, running_transition, transition}
use Rattle.abstract_database.specs.Runs.{ReadingRelation, Counts, At, IsStep, by_transition, for_memory, for_space, for_number, for_device}
use Rattle.database_laws.specs.HiddenRuns.{AreSound}
use Rattle.database_laws.specs.Told.{entries_of, AllFor, IsAlikeTo}
use Rattle.database_laws.proofs.RefusedAlike.{one_code}
use Rattle.database_laws.proofs.TenantSessions.{with_other}
use Rattle.client_laws.specs.Renumbered.{IsOneToOne, renumbered, renumbered_entry, renumbered_machine}
use Rattle.client_laws.proofs.Numbers.{client_in, client_renumbered}
use Rattle.client_laws.proofs.Lists.{with_so}
use Rattle.server.specs.declared.server.Server.{Server}
use Rattle.server.specs.Standing.{Represents}
use Rattle.server.specs.LookUps.{Found, found_refused, look_up_client, look_up_number, look_up_session, IsFoundInRow, LooksVerifierUp, had_stopped, lacked_memory, was_refused, did_not_open, read, failed}
use Rattle.served_tenants.specs.ServedTenants.{ClientsOfTenant, tenant_of}

-- ---- one that is told as a failure of the device has stopped the server

-- what is found for a refusal is no such failure, if it is none for another with its code
as_refused : (c d : SqlState) → Refused d ≡ Refused c → (found_refused d ≡ Err IoError → ⊥) → found_refused c ≡ Err IoError → ⊥
as_refused c d same other finds = other (ap found_refused (one_code d c same) ∙ finds)

module _ (m : Machine) (k : ℕ) (login : TheName) (code : SqlState) where
  at_tests : (used full may : Bool)
      → (cond used (refuses m ConnectionNameInUse) (cond full (refuses m TooManyConnections) (cond may (succeeds tag.Open (with_session_changed m k (look_up_session login))) (refuses m InvalidAuthorization)))).answer ≡ Refused code
      → found_refused code ≡ Err IoError → ⊥
  at_tests true full may is finds = as_refused code ConnectionNameInUse is (λ e. let contrary : ◌≡◌ {A = Found} (Err ConnectionNameInUse) (Err IoError) = e in cc) finds
  at_tests false true may is finds = as_refused code TooManyConnections is (λ e. let contrary : ◌≡◌ {A = Found} (Err TooManyConnections) (Err IoError) = e in cc) finds
  at_tests false false true is finds = cc
  at_tests false false false is finds = as_refused code InvalidAuthorization is (λ e. let contrary : ◌≡◌ {A = Found} (Ok None) (Err IoError) = e in cc) finds

  -- the opening of a session is refused otherwise
  no_failure : (Reads : ReadingRelation) (old new : Counts) (after : Machine) → m.stopped ≡ false → IsStep Reads old new m (opens k login) (Refused code) after → found_refused code ≡ Err IoError → ⊥
  no_failure Reads old new after runs (by_transition is) finds =
      at_tests (is_some (session_of k m.sessions)) (nat_le 256 (length (own_sessions (client_of k) m.sessions))) (may_log_in m.committed login)
      (sym (ap (λ (b : Bool). (cond b (refuses m IoError) (running_transition m (opens k login))).answer) runs) ∙ sym (ap (λ (t : Transition). t.answer) (is.is ∙ ap (transition m) is.read))) finds
  no_failure Reads old new after runs (for_memory answer same may) finds = as_refused code OutOfMemory (sym answer) (λ e. let contrary : ◌≡◌ {A = Found} (Err OutOfMemory) (Err IoError) = e in cc) finds
  no_failure Reads old new after runs (for_space answer same may rises) finds = absurd may
  no_failure Reads old new after runs (for_number answer same may greatest) finds = absurd may
  no_failure Reads old new after runs (for_device t is may answer same broke) finds = absurd may

in_row : (stopped : Bool) (f : Found) → IsFoundInRow stopped f → f ≡ Err IoError → stopped ≡ true
in_row true f found io = refl
in_row false f found io = let contrary : IoError ≡ OutOfMemory = subst (λ (x : Found). IsFoundInRow false x) io found in cc

module _ {S X : Type 0} (Reads : ReadingRelation) (state : S → StoreState) (role : TheName) (f : Found) (old new : Server S X) where
  pub stops_where_it_fails : LooksVerifierUp Reads state role f old new → (state old.store).sound → (w : At) → Represents state old w → f ≡ Err IoError → new.stopped ≡ true
  stops_where_it_fails (had_stopped was told is) sound w here io = ap (λ (s : Server S X). s.stopped) is ∙ was
  stops_where_it_fails (lacked_memory runs told is) sound w here io = let contrary : ◌≡◌ {A = Found} (Err OutOfMemory) (Err IoError) = sym told ∙ io in cc
  stops_where_it_fails (was_refused code runs told made) sound w here io =
      let led = made.steps sound w here in
      absurd (no_failure w.standing.machine look_up_number role code Reads w.counts led.0.counts led.0.standing.machine (here.stopped ∙ runs) led.2.step (sym told ∙ io))
  stops_where_it_fails (did_not_open a runs told made accepted none) sound w here io = let contrary : ◌≡◌ {A = Found} (Err ConnectionDoesNotExist) (Err IoError) = sym told ∙ io in cc
  stops_where_it_fails (read a b mid runs found made accepted closed) sound w here io = in_row new.stopped f found io
  stops_where_it_fails (failed a text mid runs told made accepted stops fails) sound w here io = stops

-- ---- machines that have stopped in look-ups for one role look alike

-- the device has failed in the session of a look-up
abbrev pub stopped_in : TheName → Machine → Machine
stopped_in role m = record (with_session_changed m look_up_number (look_up_session role)) { stopped = true }

-- where that session is not the tenant's
module _ (a : ClientsOfTenant) (place : ℕ → ℕ) (apart : IsOneToOne place) (other : a.clients (place look_up_client) ≡ false) (role : TheName) where
  abbrev rm : Machine → Machine
  rm = renumbered_machine place

  elsewhere : (number : ℕ) → a.clients (client_of number) ≡ true → nat_eq number (renumbered place look_up_number) ≡ false
  elsewhere number own = by (nat_eq number (renumbered place look_up_number)) refl where
    others : a.clients (client_of (renumbered place look_up_number)) ≡ false
    others = ap a.clients (client_renumbered place look_up_number) ∙ ap (λ (c : ℕ). a.clients (place c)) (client_in look_up_client 0) ∙ other

    by : (b : Bool) → nat_eq number (renumbered place look_up_number) ≡ b → nat_eq number (renumbered place look_up_number) ≡ false
    by true is = let contrary : true ≡ false = sym own ∙ ap (λ (n : ℕ). a.clients (client_of n)) (eqb-true number (renumbered place look_up_number) is) ∙ others in cc
    by false is = is

  pub same_entries : (m : Machine) (number : ℕ) → a.clients (client_of number) ≡ true → entries_of number (rm (stopped_in role m)).sessions ≡ entries_of number (rm m).sessions
  same_entries m number own =
      ap (entries_of number) (sym (with_so place apart look_up_number (look_up_session role) m.sessions))
      ∙ with_other (renumbered place look_up_number) number (elsewhere number own) (look_up_session role) (map (renumbered_entry place) m.sessions)

pub stopped_sound : (place : ℕ → ℕ) (role : TheName) (m : Machine) → AreSound (renumbered_machine place m) → AreSound (renumbered_machine place (stopped_in role m))
stopped_sound place role m on = record { committed = on.committed; holder = on.holder }

pub stopped_alike : (a : ClientsOfTenant) (place place_there : ℕ → ℕ) → IsOneToOne place → IsOneToOne place_there → a.clients (place look_up_client) ≡ false → a.clients (place_there look_up_client) ≡ false → (role : TheName) (m k : Machine) →
    IsAlikeTo (tenant_of a) (renumbered_machine place m) (renumbered_machine place_there k) → IsAlikeTo (tenant_of a) (renumbered_machine place (stopped_in role m)) (renumbered_machine place_there (stopped_in role k))
stopped_alike a place place_there apart apart_there other other_there role m k st = record {
  sessions = λ number own. same_entries a place apart other role m number own ∙ st.sessions number own ∙ sym (same_entries a place_there apart_there other_there role k number own);
  opened_for = λ number own. subst (λ (es : List (ℕ × Session)). AllFor a.pairs es) (sym (same_entries a place apart other role m number own)) (st.opened_for number own);
  stopped = refl;
  lock = st.lock;
  committed = st.committed;
  seen = st.seen;
}
