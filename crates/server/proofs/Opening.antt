-- What the opening of a session comes to over a store, and its closing.
use Rattle.std.proofs.Common.{◌≡◌, ◌∙◌, ℕ, nat_eq, nat_le, Bool, true, false, cond, length, List, [], ◌∷◌, Option, Some, None, is_some, refl, sym, ap, subst, eq-eqb}
use Rattle.std.proofs.lemmas.Bool.{eqb-true}
use Rattle.sql_types.specs.declared.answer.Answer.{Answer}
use Rattle.sql_types.specs.declared.answer.Answer.TheVariants.{Refused}
use Rattle.sql_types.specs.declared.state.SqlState.{SqlState}
use Rattle.sql_types.specs.declared.state.SqlState.TheVariants.{OutOfMemory, IoError, InvalidAuthorization, ConnectionNameInUse, TooManyConnections}
use Rattle.sql_types.specs.declared.tag.Tag.TheVariants as tag
use Rattle.abstract_database.specs.Lists.{TheName}
use Rattle.abstract_database.specs.Roles.{may_log_in}
use Rattle.abstract_database.specs.Machine.{opens, closes, Machine, Session, Holder, Transition, refuses, succeeds, client_of, own_sessions, session_of, with_session, with_session_changed, without_session, released, close_session, running_transition, transition}
use Rattle.abstract_database.specs.Runs.{ReadingRelation, Counts, IsStep, by_transition, for_memory, for_space, for_number, for_device}
use Rattle.server.specs.Standing.{HoldsInBlock}
use Rattle.server.specs.LookUps.{IsAccepted, look_up_session}

-- ---- opening

-- it was refused, and nothing has changed; or one session more is open, of a number that none had
pub data Opened (m : Machine) (k : ℕ) (login : TheName) (a : Answer) (after : Machine) : Type 0 where
  refused : (code : SqlState) → a ≡ Refused code → after ≡ m → (code ≡ InvalidAuthorization → may_log_in m.committed login ≡ false) → Opened m k login a after
  opened : IsAccepted a → session_of k m.sessions ≡ None → after ≡ with_session_changed m k (look_up_session login) → Opened m k login a after

none_there : (o : Option Session) → is_some o ≡ false → o ≡ None
none_there None is = refl
none_there (Some s) is = cc

module _ (m : Machine) (k : ℕ) (login : TheName) where
  abbrev IsOpened : Transition → Type 0
  IsOpened t = Opened m k login t.answer t.machine

  at_tests : (used full may : Bool) → is_some (session_of k m.sessions) ≡ used → may_log_in m.committed login ≡ may
      → IsOpened (cond used (refuses m ConnectionNameInUse) (cond full (refuses m TooManyConnections) (cond may (succeeds tag.Open (with_session_changed m k (look_up_session login))) (refuses m InvalidAuthorization))))
  at_tests true full may used is = refused ConnectionNameInUse refl refl (λ same. cc)
  at_tests false true may used is = refused TooManyConnections refl refl (λ same. cc)
  at_tests false false true used is = opened (λ code same. cc) (none_there (session_of k m.sessions) used) refl
  at_tests false false false used is = refused InvalidAuthorization refl refl (λ same. is)

  unless_stopped : (b : Bool) → IsOpened (cond b (refuses m IoError) (running_transition m (opens k login)))
  unless_stopped true = refused IoError refl refl (λ same. cc)
  unless_stopped false = at_tests (is_some (session_of k m.sessions)) (nat_le 256 (length (own_sessions (client_of k) m.sessions))) (may_log_in m.committed login) refl refl

  pub opening : (Reads : ReadingRelation) (old new : Counts) (a : Answer) (after : Machine) → IsStep Reads old new m (opens k login) a after → Opened m k login a after
  opening Reads old new a after (by_transition is) =
      subst IsOpened (sym (is.is ∙ ap (transition m) is.read)) (unless_stopped m.stopped)
  opening Reads old new a after (for_memory answer same may) = refused OutOfMemory answer same (λ e. cc)
  opening Reads old new a after (for_space answer same may rises) = absurd may
  opening Reads old new a after (for_number answer same may greatest) = absurd may
  opening Reads old new a after (for_device t is may answer same failed) = absurd may

-- ---- closing

abbrev pub closed_machine : Machine → ℕ → Machine
closed_machine m k = record m { sessions = without_session k m.sessions; holder = released k m.holder }

module _ (m : Machine) (k : ℕ) (s : Session) (there : session_of k m.sessions ≡ Some s) (runs : m.stopped ≡ false) where
  unless_none : (found : Option Session) → found ≡ Some s → (close_session m k found).machine ≡ closed_machine m k
  unless_none None is = cc
  unless_none (Some t) is = refl

  -- the session is gone
  pub closing : (Reads : ReadingRelation) (old new : Counts) (a : Answer) (after : Machine) → IsStep Reads old new m (closes k) a after → after ≡ closed_machine m k
  closing Reads old new a after (by_transition is) =
      ap (λ (t : Transition). t.machine) (is.is ∙ ap (transition m) is.read ∙ ap (λ (b : Bool). cond b (refuses m IoError) (running_transition m (closes k))) runs)
      ∙ unless_none (session_of k m.sessions) there
  closing Reads old new a after (for_memory answer same may) = absurd may
  closing Reads old new a after (for_space answer same may rises) = absurd may
  closing Reads old new a after (for_number answer same may greatest) = absurd may
  closing Reads old new a after (for_device t is may answer same failed) = absurd may

-- ---- opened and closed again

with_there : (b : Bool) (k : ℕ) (e : ℕ × Session) (es : List (ℕ × Session)) (s : Session) → nat_eq k e.0 ≡ b → (t : Session) × (session_of k (with_session es k s) ≡ Some t)
    → (t : Session) × (session_of k (cond b ((e.0, s) ∷ es) (e ∷ with_session es k s)) ≡ Some t)
with_there true k e es s is later = (s, ap (λ (b : Bool). cond b (Some s) (session_of k es)) is)
with_there false k e es s is later = (later.0, ap (λ (b : Bool). cond b (Some e.1) (session_of k (with_session es k s))) is ∙ later.1)

-- who was put there is there
pub there_with : (es : List (ℕ × Session)) (k : ℕ) (s : Session) → (t : Session) × (session_of k (with_session es k s) ≡ Some t)
there_with [] k s = (s, ap (λ (b : Bool). cond {A = Option Session} b (Some s) None) (eq-eqb k k refl))
there_with (e ∷ es) k s = with_there (nat_eq k e.0) k e es s refl (there_with es k s)

none_at : (b : Bool) (k : ℕ) (e : ℕ × Session) (es : List (ℕ × Session)) → cond b (Some e.1) (session_of k es) ≡ None → (b ≡ true → ⊥) × (session_of k es ≡ None)
none_at true k e es none = cc
none_at false k e es none = (λ wrong. cc, none)

without_there : (b : Bool) (k : ℕ) (e : ℕ × Session) (es : List (ℕ × Session)) (s : Session) → nat_eq k e.0 ≡ b → (b ≡ true → ⊥) → without_session k (with_session es k s) ≡ es
    → without_session k (cond b ((e.0, s) ∷ es) (e ∷ with_session es k s)) ≡ e ∷ es
without_there true k e es s is other later = absurd (other refl)
without_there false k e es s is other later =
    ap (λ (b : Bool). cond b (with_session es k s) (e ∷ without_session k (with_session es k s))) is ∙ ap (λ (l : List (ℕ × Session)). e ∷ l) later

-- one that was put there and taken away again
as_before : (es : List (ℕ × Session)) (k : ℕ) (s : Session) → session_of k es ≡ None → without_session k (with_session es k s) ≡ es
as_before [] k s none = ap (λ (b : Bool). cond {A = List (ℕ × Session)} b [] ((k, s) ∷ [])) (eq-eqb k k refl)
as_before (e ∷ es) k s none =
    let apart = none_at (nat_eq k e.0) k e es none in
    without_there (nat_eq k e.0) k e es s refl apart.0 (as_before es k s apart.1)

-- who is not there holds no lock
held_by_others : (h : Option Holder) (k : ℕ) (es : List (ℕ × Session)) → HoldsInBlock h es → session_of k es ≡ None → released k h ≡ h
held_by_others None k es in_block free = refl
held_by_others (Some h) k es in_block free = by_number (nat_eq h.session k) refl
  where
    by_number : (b : Bool) → nat_eq h.session k ≡ b → released k (Some h) ≡ Some h
    by_number true is =
        let gone : Some in_block.0 ≡ None = sym in_block.1 ∙ ap (λ (n : ℕ). session_of n es) (eqb-true h.session k is) ∙ free in
        cc
    by_number false is = ap (λ (b : Bool). cond {A = Option Holder} b None (Some h)) is

pub closed_again : (m : Machine) (k : ℕ) (s : Session) → HoldsInBlock m.holder m.sessions → session_of k m.sessions ≡ None → closed_machine (with_session_changed m k s) k ≡ m
closed_again m k s in_block free =
    ap (λ (es : List (ℕ × Session)). record m { sessions = es; holder = released k m.holder }) (as_before m.sessions k s free)
    ∙ ap (λ (h : Option Holder). record m { holder = h }) (held_by_others m.holder k m.sessions in_block free)
