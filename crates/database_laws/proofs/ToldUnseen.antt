-- Others that make no statement but those over rows out of a tenant's sight.
use Rattle.std.proofs.Common.{◌≡◌, ◌==◌, ℕ, Bool, true, false, not, cond, List, [], ◌∷◌, Option, Some, None, refl, sym, ap, ◌∙◌, subst}
use Rattle.std.proofs.lemmas.Bool.{eqb-true, eq-eqb}
use Rattle.abstract_database.specs.Database.{Database}
use Rattle.abstract_database.specs.Machine.{Event, Reading, Machine, Holder, is_held_by_other, seen_by}
use Rattle.database_laws.specs.Sessions.{number_of}
use Rattle.database_laws.specs.HiddenRuns.{SameApparentRowsForPairs, AreSound, after}
use Rattle.database_laws.specs.OutOfSight.{LooksCommitted, IsUnseen}
use Rattle.database_laws.specs.Told.{Tenant, Act, happens, declares, restarts, follows, OthersHoldOutOfSight, OthersActOutOfSight, OthersKeepOutOfSight, unseen_acts_are_out_of_sight}
use Rattle.database_laws.proofs.LockLemmas.{transition_preserves}
use Rattle.database_laws.proofs.OthersLeftOut.{LockAfter, kept, freed, taken, turns}
use Rattle.database_laws.proofs.UnseenEvents.{all_same, event_unseen}
use Rattle.database_laws.proofs.ToldRuns.{sound_follows}

-- ---- whose the writer lock is after an event

not_other : (b : Bool) → not b ≡ false → b ≡ true
not_other true e = refl
not_other false e = cc

-- where no other session holds it, the session of the event does, if one does
lock_is_own : (n : ℕ) (old new : Option Holder) → is_held_by_other n old ≡ false → LockAfter n old new → (h : Holder) → new ≡ Some h → (h.session == n) ≡ true
lock_is_own n None new free kept h is = cc
lock_is_own n (Some g) new free kept h is = subst (λ (x : Holder). (x.session == n) ≡ true) (one_of g h is) (not_other (g.session == n) free)
  where
    one_of : (g h : Holder) → ◌≡◌ {A = Option Holder} (Some g) (Some h) → g ≡ h
    one_of g h e = cc
lock_is_own n None new free freed h is = cc
lock_is_own n (Some g) new free freed h is =
    let none : None ≡ Some h = sym (ap (λ (b : Bool). cond b None (Some g)) (not_other (g.session == n) free)) ∙ is in cc
lock_is_own n old new free (taken db) h is = subst (λ (x : Holder). (x.session == n) ≡ true) (one_of (record { session = n; database = db }) h is) (eq-eqb n n refl)
  where
    one_of : (g h : Holder) → ◌≡◌ {A = Option Holder} (Some g) (Some h) → g ≡ h
    one_of g h e = cc

-- ---- acts of others

module _ (a : Tenant) (m : Machine) (on : AreSound m) (hold : OthersHoldOutOfSight a m) (event : Event Reading) where
  abbrev n : ℕ
  n = number_of event

  held_stays : is_held_by_other n m.holder ≡ true → OthersHoldOutOfSight a (after m event)
  held_stays other =
      let same = transition_preserves m event other in
      λ h is apart. subst (λ (x : Database). SameApparentRowsForPairs a.pairs x h.database) (sym same.0) (hold h (sym same.1 ∙ is) apart)

  is_its : is_held_by_other n m.holder ≡ false → (h : Holder) → (after m event).holder ≡ Some h → (h.session == n) ≡ true
  is_its free h is = lock_is_own n m.holder (after m event).holder free (turns m event).lock h is

  own_keeps : a.sessions n ≡ true → OthersHoldOutOfSight a (after m event)
  own_keeps own = by (is_held_by_other n m.holder) refl where
    by : (b : Bool) → is_held_by_other n m.holder ≡ b → OthersHoldOutOfSight a (after m event)
    by true other = held_stays other
    by false free = λ h is apart.
        let wrong : true ≡ false = sym own ∙ sym (ap a.sessions (eqb-true h.session n (is_its free h is))) ∙ apart in cc

  module _ (other_number : a.sessions n ≡ false) (unseen : IsUnseen a.pairs m event) where
    looks_at : (h : Option Holder) → m.holder ≡ h → SameApparentRowsForPairs a.pairs m.committed (seen_by n h m.committed)
    looks_at None e = all_same a.pairs m.committed
    looks_at (Some h) e = by (h.session == n) refl where
      by : (b : Bool) → (h.session == n) ≡ b → SameApparentRowsForPairs a.pairs m.committed (cond b h.database m.committed)
      by true own = hold h e (ap a.sessions (eqb-true h.session n own) ∙ other_number)
      by false apart = all_same a.pairs m.committed

    changes : SameApparentRowsForPairs a.pairs m.committed (after m event).committed × LooksCommitted a.pairs n (after m event)
    changes = event_unseen a.pairs m event on (looks_at m.holder refl) unseen

    other_keeps : OthersHoldOutOfSight a (after m event)
    other_keeps = by (is_held_by_other n m.holder) refl where
      by : (b : Bool) → is_held_by_other n m.holder ≡ b → OthersHoldOutOfSight a (after m event)
      by true other = held_stays other
      by false free = λ h is apart.
          subst (λ (b : Bool). SameApparentRowsForPairs a.pairs (after m event).committed (cond b h.database (after m event).committed)) (is_its free h is)
          (subst (λ (o : Option Holder). SameApparentRowsForPairs a.pairs (after m event).committed (seen_by n o (after m event).committed)) is changes.1)

unseen_acts : (a : Tenant) (m : Machine) (acts : List Act) → AreSound m → OthersHoldOutOfSight a m → OthersActOutOfSight a m acts → OthersKeepOutOfSight a m acts
unseen_acts a m [] on hold act = tt
unseen_acts a m (restarts ∷ later) on hold act = ((act.0.0, λ no. cc), unseen_acts a (follows m restarts) later (sound_follows a m restarts on) (λ h is. cc) act.2)
unseen_acts a m (declares event ∷ later) on hold act = ((act.0.0, λ no. cc), unseen_acts a (after m event) later (sound_follows a m (declares event) on) act.1 act.2)
unseen_acts a m (happens event ∷ later) on hold act =
    ((act.0.0, λ other. (changes a m on hold event other (act.0.1 other)).0), unseen_acts a (after m event) later (sound_follows a m (happens event) on) (by (a.sessions (number_of event)) refl) act.2)
  where
    by : (b : Bool) → a.sessions (number_of event) ≡ b → OthersHoldOutOfSight a (after m event)
    by true own = own_keeps a m on hold event own
    by false other = other_keeps a m on hold event other (act.0.1 other)

pub acts_out_of_sight : unseen_acts_are_out_of_sight
acts_out_of_sight a m acts on hold act = unseen_acts a m acts on hold act
