-- Laws of look-ups: a server stands after one as before, or has stopped.
use Rattle.std.specs.Prelude.{◌<◌, ◌^◌}
use Rattle.std.proofs.Common.{◌≡◌, ◌∙◌, inl, inr, ℕ, true, List, sym, ap, subst, arith}
use Rattle.store.specs.Store.{StoreState}
use Rattle.abstract_database.specs.Lists.{TheName}
use Rattle.abstract_database.specs.Machine.{Machine, Session, number_in}
use Rattle.abstract_database.specs.Runs.{ReadingRelation, At}
use Rattle.server.specs.declared.server.Server.{Server}
use Rattle.server.specs.Standing.{Represents}
use Rattle.server.specs.LookUps.{Found, look_up_client, look_up_number, look_up_session, IsLeftByLookUp, as_it_was, stopped_within}
use Rattle.served_machine.specs.Sessions.{HasSession, HasOwnSession, IsSoundServer}
use Rattle.served_machine.specs.SessionLaws.{with_one}
use Rattle.served_machine.specs.Served.{LooksUpKept}

-- the number of a client's session is none of a look-up's
number_apart : (d n : ℕ) → n < 2 ^ 32 → (d ≡ look_up_client → ⊥) → look_up_number ≡ number_in d n → ⊥
number_apart d n small other same = other (omega (arith, small, same))

module _ {S X : Type 0} (Reads : ReadingRelation) (state : S → StoreState) (table role : TheName) (r : Found) (old new : Server S X) (looks : LooksUpKept Reads state table role r old new) where
  pub looked_sound : IsSoundServer state old → IsSoundServer state new
  looked_sound sound = let next = looks.leaves sound.0 sound.1.0 sound.1.1 in (looks.history.sound sound.0, (next.0, next.1))

  -- a session that a client has then was open before
  module _ (sound : IsSoundServer state old) (d n : ℕ) (login : TheName) (has : HasOwnSession state new d n login) where
    abbrev before : Machine
    before = sound.1.0.standing.machine

    abbrev IsThere : Machine → Type 0
    IsThere m = HasSession m.sessions (number_in d n) login

    by_leaving : (next : At) → Represents state new next → IsLeftByLookUp role r before next.standing.machine → IsThere next.standing.machine → IsThere before
    by_leaving next here (as_it_was same) there = subst IsThere same there
    by_leaving next here (stopped_within answer free same) there =
        let stops : new.stopped ≡ true = sym here.stopped ∙ ap (λ (m : Machine). m.stopped) same in
        elim (with_one before.sessions look_up_number (look_up_session role) (number_in d n) login (subst IsThere same there)) [
          | inl old ↦ old
          | inr own ↦ absurd (number_apart d n has.2 (has.4 stops) own.0)
        ]

    pub looked_open : HasOwnSession state old d n login
    looked_open =
        let next = looks.leaves sound.0 sound.1.0 sound.1.1 in
        let there : IsThere next.0.standing.machine = subst (λ (es : List (ℕ × Session)). HasSession es (number_in d n) login) (has.1.sessions ∙ sym next.1.sessions) has.3 in
        (sound.1.0, sound.1.1, has.2, by_leaving next.0 next.1 next.2 there, λ was. has.4 (ap (λ (s : Server S X). s.stopped) (looks.stopped was).1 ∙ was))
