-- One event of a session over two machines that look alike to all that it may act as.
use Rattle.std.proofs.Common.{◌≡◌, ◌⊎◌, ◌&&◌, ℕ, nat_le, Bool, true, false, cond, length, is_some, Option, Some, None, Ok, refl, sym, ap, ◌∙◌, subst, inl, inr}
use Rattle.sql_types.specs.declared.state.SqlState.TheVariants.{InvalidAuthorization, TooManyConnections, ConnectionDoesNotExist, ConnectionNameInUse, IoError}
use Rattle.sql_types.specs.declared.tag.Tag.TheVariants as tag
use Rattle.sql_ast.specs.declared.statement.Statement.{Statement}
use Rattle.abstract_database.specs.Lists.{TheName}
use Rattle.abstract_database.specs.Database.{Database}
use Rattle.abstract_database.specs.Roles.{may_log_in}
use Rattle.abstract_database.specs.Machine.{client_of, own_sessions, Outside, Session, Event, opens, executes, closes, Reading, Machine, Transition, refuses, succeeds, session_of, with_session_changed, is_held_by_other, open_session, close_session, is_writing, execute, execute_in, running_transition, transition}
use Rattle.database_laws.specs.Invariants.{IsSound}
use Rattle.database_laws.specs.HiddenRuns.{as_itself, MachinesAlikeForSession, AreSound, answer_to, after, IsException}
use Rattle.database_laws.proofs.LastingLemmas.{transition_holds}
use Rattle.database_laws.proofs.SoundLemmas.{sound}
use Rattle.database_laws.proofs.AlikeRuns.{stay, change, Alike, ReadsWithin, step_in}
use Rattle.abstract_database.specs.Statements.{UserPair}

-- each event keeps what is sound
pub sound_after : (m : Machine) (event : Event Reading) → AreSound m → AreSound (after m event)
sound_after m event on = let keeps = transition_holds IsSound sound m event on.committed on.holder in record { committed = keeps.0; holder = keeps.1 }

module _ (number : ℕ) (pairs : UserPair → Bool) where
  abbrev pub Step : Machine → Machine → Event Reading → Type 0
  Step m k event = IsException number m k event ⊎ Alike number pairs m k (transition m event) (transition k event)

  module _ (m k : Machine) (st : MachinesAlikeForSession number pairs m k) (on_m : AreSound m) (on_k : AreSound k) where
    pub stopped_both : (event : Event Reading) → m.stopped ≡ true → Alike number pairs m k (transition m event) (transition k event)
    stopped_both event on =
        subst (λ (t : Transition). Alike number pairs m k t (transition k event)) (sym (ap (λ (b : Bool). cond b (refuses m IoError) (running_transition m event)) on))
        (subst (λ (u : Transition). Alike number pairs m k (refuses m IoError) u) (sym (ap (λ (b : Bool). cond b (refuses k IoError) (running_transition k event)) (sym st.stopped ∙ on)))
        (record { answers = refl; move = stay }))

    pub running_both : (event : Event Reading) (t u : Transition) → m.stopped ≡ false → running_transition m event ≡ t → running_transition k event ≡ u → Alike number pairs m k t u → Alike number pairs m k (transition m event) (transition k event)
    running_both event t u on is is_k both =
        subst (λ (x : Transition). Alike number pairs m k x (transition k event)) (sym (ap (λ (b : Bool). cond b (refuses m IoError) (running_transition m event)) on ∙ is))
        (subst (λ (x : Transition). Alike number pairs m k t x) (sym (ap (λ (b : Bool). cond b (refuses k IoError) (running_transition k event)) (sym st.stopped ∙ on) ∙ is_k)) both)

    abbrev SameLock : Reading → Type 0
    SameLock reading = (x : Statement) → reading ≡ Ok x → (is_writing x && is_held_by_other number m.holder) ≡ (is_writing x && is_held_by_other number k.holder)

    -- where the session sets a role, it is one of the pairs
    abbrev StaysWithin : Reading → Type 0
    StaysWithin reading = (s : Session) → session_of number m.sessions ≡ Some s → ReadsWithin number pairs m s reading

    executed_at : (reading : Reading) → SameLock reading → StaysWithin reading → m.stopped ≡ false → (o : Option Session) → session_of number m.sessions ≡ o → Step m k (executes number reading)
    executed_at reading same stays on None there =
        inr (running_both (executes number reading) (refuses m ConnectionDoesNotExist) (refuses k ConnectionDoesNotExist) on
        (ap (λ (p : Option Session). execute m number reading p) there) (ap (λ (p : Option Session). execute k number reading p) (sym st.session ∙ there))
        (record { answers = refl; move = stay }))
    executed_at reading same stays on (Some s) there =
        elim (step_in number pairs m k st on_m on_k s (st.opened_for s there) there on reading same (stays s there)) [
          | inl exception ↦ inl exception
          | inr both ↦ inr (running_both (executes number reading) (execute_in m number s reading) (execute_in k number s reading) on
              (ap (λ (p : Option Session). execute m number reading p) there) (ap (λ (p : Option Session). execute k number reading p) (sym st.session ∙ there)) both)
        ]

    by_stop : (event : Event Reading) → (m.stopped ≡ false → Step m k event) → (b : Bool) → m.stopped ≡ b → Step m k event
    by_stop event h true on = inr (stopped_both event on)
    by_stop event h false on = h on

    pub executed : (reading : Reading) → SameLock reading → StaysWithin reading → Step m k (executes number reading)
    executed reading same stays = by_stop (executes number reading) (λ on. executed_at reading same stays on (session_of number m.sessions) refl) m.stopped refl

    opened_as : (l : TheName) (a b c : Bool) → (c ≡ true → pairs (as_itself l) ≡ true) → Alike number pairs m k
        (cond a (refuses m ConnectionNameInUse) (cond b (refuses m TooManyConnections) (cond c (succeeds tag.Open (with_session_changed m number (record { login = l; role = l; block = Outside }))) (refuses m InvalidAuthorization))))
        (cond a (refuses k ConnectionNameInUse) (cond b (refuses k TooManyConnections) (cond c (succeeds tag.Open (with_session_changed k number (record { login = l; role = l; block = Outside }))) (refuses k InvalidAuthorization))))
    opened_as l true b c own = record { answers = refl; move = stay }
    opened_as l false true c own = record { answers = refl; move = stay }
    opened_as l false false true own = record { answers = refl; move = change (record { login = l; role = l; block = Outside }) (record { now = own refl; reset = own refl; rolled_back = tt }) }
    opened_as l false false false own = record { answers = refl; move = stay }

    abbrev pub opening : TheName → Machine → Bool → Bool → Bool → Transition
    opening l n a b c = cond a (refuses n ConnectionNameInUse) (cond b (refuses n TooManyConnections) (cond c (succeeds tag.Open (with_session_changed n number (record { login = l; role = l; block = Outside }))) (refuses n InvalidAuthorization)))

    pub opened : (l : TheName) → (may_log_in m.committed l ≡ true → pairs (as_itself l) ≡ true) → nat_le 256 (length (own_sessions (client_of number) m.sessions)) ≡ nat_le 256 (length (own_sessions (client_of number) k.sessions)) → Step m k (opens number l)
    opened l own room = by_stop (opens number l) (λ on. inr (running_both (opens number l) (open_session m number l) (open_session k number l) on refl refl
        (subst (λ (a : Bool). Alike number pairs m k (open_session m number l) (opening l k a (nat_le 256 (length (own_sessions (client_of number) k.sessions))) (may_log_in k.committed l))) (ap (λ (o : Option Session). is_some o) st.session)
        (subst (λ (b : Bool). Alike number pairs m k (open_session m number l) (opening l k (is_some (session_of number m.sessions)) b (may_log_in k.committed l))) room
        (subst (λ (c : Bool). Alike number pairs m k (open_session m number l) (opening l k (is_some (session_of number m.sessions)) (nat_le 256 (length (own_sessions (client_of number) m.sessions))) c)) (ap (λ (db : Database). may_log_in db l) st.committed.definitions)
        (opened_as l (is_some (session_of number m.sessions)) (nat_le 256 (length (own_sessions (client_of number) m.sessions))) (may_log_in m.committed l) own)))))) m.stopped refl

    closed_at : (o : Option Session) → (close_session m number o).answer ≡ (close_session k number o).answer
    closed_at None = refl
    closed_at (Some s) = refl

    pub closes_alike : answer_to m (closes number) ≡ answer_to k (closes number)
    closes_alike = at m.stopped refl where
      at : (b : Bool) → m.stopped ≡ b → answer_to m (closes number) ≡ answer_to k (closes number)
      at true on =
          ap (λ (b : Bool). (cond b (refuses m IoError) (running_transition m (closes number))).answer) on
          ∙ sym (ap (λ (b : Bool). (cond b (refuses k IoError) (running_transition k (closes number))).answer) (sym st.stopped ∙ on))
      at false on =
          ap (λ (b : Bool). (cond b (refuses m IoError) (running_transition m (closes number))).answer) on
          ∙ closed_at (session_of number m.sessions)
          ∙ ap (λ (o : Option Session). (close_session k number o).answer) st.session
          ∙ sym (ap (λ (b : Bool). (cond b (refuses k IoError) (running_transition k (closes number))).answer) (sym st.stopped ∙ on))
