-- An event of another session, and an event that both machines refuse.
use Rattle.std.proofs.Common.{◌≡◌, ◌⊎◌, ◌==◌, ℕ, nat_eq, Bool, true, false, not, cond, Option, Some, None, refl, sym, ap, ◌∙◌, subst, inl, inr}
use Rattle.std.proofs.lemmas.Bool.{eqb-true, eq-eqb}
use Rattle.abstract_database.specs.Lists.{TheName}
use Rattle.abstract_database.specs.Database.{Database}
use Rattle.abstract_database.specs.Statements.{UserPair}
use Rattle.abstract_database.specs.Machine.{Block, Outside, Inside, Failed, Session, Event, opens, executes, closes, Reading, Machine, Holder, session_of, in_block, with_session_changed, is_held_by_other, seen_by, seen, transition}
use Rattle.database_laws.specs.Blocks.{IsOpen, IsRefused, IsInBlock}
use Rattle.database_laws.specs.Sessions.{number_of}
use Rattle.database_laws.specs.HiddenRuns.{RollsBackWithin, holds_lock, after}
use Rattle.database_laws.proofs.LockLemmas.{transition_preserves}
use Rattle.database_laws.proofs.SessionLemmas.{others_stay}
use Rattle.database_laws.proofs.RefusalLemmas.{fails_the_block, changes_nothing}
use Rattle.database_laws.proofs.AlikeRuns.{held_at}
use Rattle.database_laws.proofs.OthersLeftOut.{LockAfter, kept, freed, taken, turns}
use Rattle.privilege_laws.specs.Related.{Relation, Telling}
use Rattle.privilege_laws.proofs.Moves.{Hides, AlikeForSession, MoveAlike, stay, change}

clash : true ≡ false → ⊥
clash e = cc

-- ---- an event of another session

not_both : (a b n : ℕ) → nat_eq a b ≡ false → (n == a) ≡ true → (n == b) ≡ false
not_both a b n apart own = subst (λ (x : ℕ). (x == b) ≡ false) (sym (eqb-true n a own)) apart

other_than : (number n : ℕ) → nat_eq number n ≡ false → (n == number) ≡ false
other_than number n apart = by (n == number) refl where
  by : (b : Bool) → (n == number) ≡ b → b ≡ false
  by false e = refl
  by true e = let contrary : true ≡ false = sym (eq-eqb number n (sym (eqb-true n number e))) ∙ apart in cc

-- where the session did not hold the writer lock, it does not after another's event
not_held_at : (number n : ℕ) (old new : Option Holder) → nat_eq number n ≡ false → holds_lock number old ≡ false → LockAfter n old new → holds_lock number new ≡ false
not_held_at number n old new apart free kept = free
not_held_at number n None new apart free freed = refl
not_held_at number n (Some h) new apart free freed = by (h.session == n) where
  by : (b : Bool) → holds_lock number (cond b None (Some h)) ≡ false
  by true = refl
  by false = free
not_held_at number n old new apart free (taken db) = other_than number n apart

seen_free : (number : ℕ) (h : Option Holder) (db : Database) → holds_lock number h ≡ false → seen_by number h db ≡ db
seen_free number None db e = refl
seen_free number (Some h) db e = held_at number h db false e

holder_is_other : (number n : ℕ) (h : Option Holder) → nat_eq number n ≡ false → holds_lock number h ≡ true → is_held_by_other n h ≡ true
holder_is_other number n None apart own = cc
holder_is_other number n (Some h) apart own = ap not (not_both number n h.session apart own)

module _ (number : ℕ) (pairs : UserPair → Bool) (R : Relation) (T : Telling) (h : Hides pairs R T) (m k : Machine) (st : AlikeForSession number pairs R m k) (event : Event Reading) (apart : nat_eq number (number_of event) ≡ false)
    (hides : R m.committed (after m event).committed) where
  committed_alike : R (after m event).committed k.committed
  committed_alike = h.joined (after m event).committed m.committed k.committed (h.turned m.committed (after m event).committed hides) st.committed

  session_stays : session_of number (after m event).sessions ≡ session_of number m.sessions
  session_stays = others_stay m event number apart

  lock_and_seen : (b : Bool) → holds_lock number m.holder ≡ b → (holds_lock number (after m event).holder ≡ holds_lock number m.holder) × R (seen (after m event) number) (seen k number)
  lock_and_seen true own =
      let same = transition_preserves m event (holder_is_other number (number_of event) m.holder apart own) in (
        ap (holds_lock number) same.1,
        subst (λ (x : Database). R x (seen k number)) (sym (ap (λ (g : Option Holder). seen_by number g (after m event).committed) same.1 ∙ ap (seen_by number m.holder) same.0)) st.seen,
      )
  lock_and_seen false own =
      let free = not_held_at number (number_of event) m.holder (after m event).holder apart own (turns m event).lock in (
        free ∙ sym own,
        subst (λ (x : Database). R x (seen k number)) (sym (seen_free number (after m event).holder (after m event).committed free))
            (subst (λ (x : Database). R (after m event).committed x) (sym (seen_free number k.holder k.committed (sym st.lock ∙ own))) committed_alike),
      )

  pub alike_after_others : AlikeForSession number pairs R (after m event) k
  alike_after_others =
      let places = lock_and_seen (holds_lock number m.holder) refl in
      record {
        session = session_stays ∙ st.session;
        opened_for = λ s is. st.opened_for s (sym session_stays ∙ is);
        stopped = (turns m event).stopped ∙ st.stopped;
        lock = places.0 ∙ st.lock;
        committed = committed_alike;
        seen = places.1;
      }

-- ---- what both refuse leaves them alike

in_block_or_not : (m : Machine) (number : ℕ) (reading : Reading) → IsInBlock m (executes number reading) ⊎ (IsInBlock m (executes number reading) → ⊥)
in_block_or_not m number reading = by_stop m.stopped refl where
  same_session : (s t : Session) → ◌≡◌ {A = Option Session} (Some s) (Some t) → s ≡ t
  same_session s t e = cc

  by_block : m.stopped ≡ false → (s : Session) → session_of number m.sessions ≡ Some s → (b : Block) → s.block ≡ b → IsInBlock m (executes number reading) ⊎ (IsInBlock m (executes number reading) → ⊥)
  by_block on s there (Inside role) e = inl (s, record { running = on; session = there }, (role, e))
  by_block on s there Outside e = inr (λ (t, o, (role, inside)). let contrary : Outside ≡ Inside role = sym e ∙ ap (λ (u : Session). u.block) (same_session s t (sym there ∙ o.session)) ∙ inside in cc)
  by_block on s there (Failed role) e = inr (λ (t, o, (r, inside)). let contrary : Failed role ≡ Inside r = sym e ∙ ap (λ (u : Session). u.block) (same_session s t (sym there ∙ o.session)) ∙ inside in cc)

  by_session : m.stopped ≡ false → (o : Option Session) → session_of number m.sessions ≡ o → IsInBlock m (executes number reading) ⊎ (IsInBlock m (executes number reading) → ⊥)
  by_session on None there = inr (λ (t, o, inside). let contrary : ◌≡◌ {A = Option Session} None (Some t) = sym there ∙ o.session in cc)
  by_session on (Some s) there = by_block on s there s.block refl

  by_stop : (b : Bool) → m.stopped ≡ b → IsInBlock m (executes number reading) ⊎ (IsInBlock m (executes number reading) → ⊥)
  by_stop true on = inr (λ (t, o, inside). clash (sym on ∙ o.running))
  by_stop false on = by_session on (session_of number m.sessions) refl

module _ (pairs : UserPair → Bool) (R : Relation) (T : Telling) (h : Hides pairs R T) (m k : Machine) where
  both_stay : (number : ℕ) (event : Event Reading) → (IsInBlock m event → ⊥) → (IsInBlock k event → ⊥) → IsRefused (transition m event) → IsRefused (transition k event) → MoveAlike number pairs R m k (after m event) (after k event)
  both_stay number event out out_k r q =
      subst (λ (n : Machine). MoveAlike number pairs R m k n (after k event)) (sym (changes_nothing m event out r))
      (subst (λ (j : Machine). MoveAlike number pairs R m k m j) (sym (changes_nothing k event out_k q)) stay)

  module _ (number : ℕ) (st : AlikeForSession number pairs R m k) (reading : Reading) (r : IsRefused (transition m (executes number reading))) (q : IsRefused (transition k (executes number reading))) where
    both_fail : (s : Session) → IsOpen m number s → (role : TheName) → s.block ≡ Inside role → MoveAlike number pairs R m k (after m (executes number reading)) (after k (executes number reading))
    both_fail s o role inside =
        let own = st.opened_for s o.session in
        let o_k : IsOpen k number s = record { running = sym st.stopped ∙ o.running; session = sym st.session ∙ o.session } in
        subst (λ (n : Machine). MoveAlike number pairs R m k n (after k (executes number reading))) (sym (fails_the_block m number s role reading o inside r))
        (subst (λ (j : Machine). MoveAlike number pairs R m k (with_session_changed m number (in_block (Failed role) s)) j) (sym (fails_the_block k number s role reading o_k inside q))
        (change (in_block (Failed role) s) (record { now = own.now; reset = own.reset; rolled_back = subst (RollsBackWithin pairs s.login) inside own.rolled_back })))

    pub texts_refused : MoveAlike number pairs R m k (after m (executes number reading)) (after k (executes number reading))
    texts_refused = elim (in_block_or_not m number reading) [
      | inl inside ↦ both_fail inside.0 inside.1 inside.2.0 inside.2.1
      | inr out ↦ both_stay number (executes number reading) out
          (λ (s, o, inside). out (s, record { running = st.stopped ∙ o.running; session = st.session ∙ o.session }, inside)) r q
    ]

  pub refused_moves : (number : ℕ) → AlikeForSession number pairs R m k → (event : Event Reading) → number_of event ≡ number → IsRefused (transition m event) → IsRefused (transition k event) → MoveAlike number pairs R m k (after m event) (after k event)
  refused_moves number st (opens n l) at r q = both_stay number (opens n l) (λ x. x) (λ x. x) r q
  refused_moves number st (closes n) at r q = both_stay number (closes n) (λ x. x) (λ x. x) r q
  refused_moves number st (executes n reading) at r q =
      subst (λ (i : ℕ). MoveAlike i pairs R m k (after m (executes n reading)) (after k (executes n reading))) at (texts_refused n (subst (λ (i : ℕ). AlikeForSession i pairs R m k) (sym at) st) reading r q)
