-- Runs over a store.
use Rattle.std.proofs.Common.{◌≤◌, ◌<◌, ℕ, List, [], ◌∷◌, length, Option, Some, None, sym, subst}
use Rattle.std.proofs.Math.Nat.{le_trans, le_refl}
use Rattle.sql_types.specs.declared.answer.Answer.{Answer}
use Rattle.abstract_database.specs.Lists.{TheName}
use Rattle.abstract_database.specs.Machine.{client_of, own_sessions, Session, Event, opens, executes, closes, Machine, session_of}
use Rattle.abstract_database.specs.Runs.{TheText, ReadingRelation, Counts, Commits, IsStep, by_transition, for_memory, for_space, for_number, for_device, RanBy, Stops, IsFoundAt, At, Happens}
use Rattle.database_laws.specs.Runs.{Next}
use Rattle.database_laws.specs.StoreRuns.{ReadsNoLongText}

-- ---- without the store

module _ (Reads : ReadingRelation) (old new : Counts) (m after : Machine) (answer : Answer) where
  no_commit : ReadsNoLongText Reads → (number : ℕ) (text : TheText) → (length text ≤ 65536 → ⊥) → (o : Option Session) → Commits Reads m number text o → ⊥
  no_commit bound number text long None c = c
  no_commit bound number text long (Some s) c = long (bound text c.0 c.1)

  pub long_is_own : ReadsNoLongText Reads → (number : ℕ) (text : TheText) → (length text ≤ 65536 → ⊥) → IsStep Reads old new m (executes number text) answer after → Next Reads m (executes number text) answer after
  long_is_own bound number text long (by_transition is) = is
  long_is_own bound number text long (for_memory a b may) = absurd (long may.1)
  long_is_own bound number text long (for_space a b may rises) = absurd (no_commit bound number text long (session_of number m.sessions) may.1)
  long_is_own bound number text long (for_number a b may greatest) = absurd (no_commit bound number text long (session_of number m.sessions) may.1)
  long_is_own bound number text long (for_device t is may a b failed) = absurd (long may.1)

  pub full_is_own : (number : ℕ) (login : TheName) → (length (own_sessions (client_of number) m.sessions) < 256 → ⊥) → IsStep Reads old new m (opens number login) answer after → Next Reads m (opens number login) answer after
  full_is_own number login full (by_transition is) = is
  full_is_own number login full (for_memory a b may) = absurd (full may.2)
  full_is_own number login full (for_space a b may rises) = absurd may
  full_is_own number login full (for_number a b may greatest) = absurd may
  full_is_own number login full (for_device t is may a b failed) = absurd may

  pub close_is_own : (number : ℕ) → IsStep Reads old new m (closes number) answer after → Next Reads m (closes number) answer after
  close_is_own number (by_transition is) = is
  close_is_own number (for_memory a b may) = absurd may
  close_is_own number (for_space a b may rises) = absurd may
  close_is_own number (for_number a b may greatest) = absurd may
  close_is_own number (for_device t is may a b failed) = absurd may

-- ---- over a run

module _ (Reads : ReadingRelation) (Leave : Stops) where
  pub none_falls : (w end : At) (events : List (Event TheText)) (answers : List Answer) → RanBy (Happens Reads Leave) w events answers end → w.counts.number ≤ end.counts.number
  none_falls w end [] [] x = subst (λ (e : At). w.counts.number ≤ e.counts.number) (sym x) (le_refl w.counts.number)
  none_falls w end [] (a ∷ as') x = absurd x
  none_falls w end (e ∷ es) [] x = absurd x
  none_falls w end (e ∷ es) (a ∷ as') (next, h, rest) = le_trans h.counts.number (none_falls next end es as' rest)

  pub left_at_end : (w end : At) (event : Event TheText) (events : List (Event TheText)) (answer : Answer) (answers : List Answer) →
      RanBy (Happens Reads Leave) w (event ∷ events) (answer ∷ answers) end → Leave end.moment end.moment (IsFoundAt end.standing)
  left_at_end w end event [] answer [] (next, h, is) = subst (λ (e : At). Leave e.moment e.moment (IsFoundAt e.standing)) (sym is) h.now
  left_at_end w end event [] answer (a ∷ as') (next, h, rest) = absurd rest
  left_at_end w end event (e ∷ es) answer [] (next, h, rest) = absurd rest
  left_at_end w end event (e ∷ es) answer (a ∷ as') (next, h, rest) = left_at_end next end e es a as' rest
