-- Runs of the machine, and over a store.
use Rattle.std.proofs.Common.{◌≡◌, ℕ, Bool, true, false, cond, List, [], ◌∷◌, Option, Some, None, IsSome, refl, sym, ap, ◌∙◌, subst, inl, inr}
use Rattle.sql_types.specs.declared.answer.Answer.{Answer}
use Rattle.sql_types.specs.declared.answer.Answer.TheVariants.{Refused}
use Rattle.sql_types.specs.declared.state.SqlState.{SqlState}
use Rattle.sql_types.specs.declared.state.SqlState.TheVariants.{OutOfMemory, DiskFull, ProgramLimitExceeded, IoError}
use Rattle.abstract_database.specs.Lists.{Among}
use Rattle.abstract_database.specs.Database.{Database}
use Rattle.abstract_database.specs.Machine.{Session, Event, opens, executes, closes, Reading, Machine, Transition, transition_to, refuses, session_of, execute, transition}
use Rattle.abstract_database.specs.Runs.{TheText, ReadingRelation, MayRead, IsReadAs, IsTransition, RanBy, Stops, At, Happens, IsStep, by_transition, for_device, under_way_after, Counts}
use Rattle.abstract_database.specs.Runs as step
use Rattle.database_laws.specs.Runs.{ReadsOnce, Next, RunsJoin, RunsPart, IsOfStore, CountsAsNotIssued, for_memory, for_space, for_number, IsRefusedBy, by_machine, by_store, by_device}

-- ---- one transition

module _ (Reads : ReadingRelation) (once : ReadsOnce Reads) where
  there_at : (m : Machine) (number : ℕ) (text : TheText) (a b : Reading) (there : Option Session) → (IsSome there → Reads text a) → (IsSome there → Reads text b) → execute m number a there ≡ execute m number b there
  there_at m number text a b None ra rb = refl
  there_at m number text a b (Some s) ra rb = ap (λ (r : Reading). execute m number r (Some s)) (once text a b (ra refl) (rb refl))

  running_at : (m : Machine) (number : ℕ) (text : TheText) (a b : Reading) (stopped : Bool) → (stopped ≡ false → IsSome (session_of number m.sessions) → Reads text a) → (stopped ≡ false → IsSome (session_of number m.sessions) → Reads text b) →
      cond stopped (refuses m IoError) (execute m number a (session_of number m.sessions)) ≡ cond stopped (refuses m IoError) (execute m number b (session_of number m.sessions))
  running_at m number text a b true ra rb = refl
  running_at m number text a b false ra rb = there_at m number text a b (session_of number m.sessions) (ra refl) (rb refl)

  same_as_read : (m : Machine) (event : Event TheText) (x y : Event Reading) → IsReadAs Reads m event x → IsReadAs Reads m event y → transition m x ≡ transition m y
  same_as_read m (opens number login) x y rx ry = ap (transition m) (rx ∙ sym ry)
  same_as_read m (closes number) x y rx ry = ap (transition m) (rx ∙ sym ry)
  same_as_read m (executes number text) x y (a, is_a, ra) (b, is_b, rb) =
      ap (transition m) is_a
      ∙ running_at m number text a b m.stopped (λ e k. ra (e, k)) (λ e k. rb (e, k))
      ∙ sym (ap (transition m) is_b)

  pub only_transition : (m : Machine) (event : Event TheText) (t u : Transition) → IsTransition Reads m event t → IsTransition Reads m event u → t ≡ u
  only_transition m event t u x y = x.is ∙ same_as_read m event x.as_read y.as_read x.read y.read ∙ sym y.is

  pub only_run : (m end other_end : Machine) (events : List (Event TheText)) (answers others : List Answer) →
      RanBy (Next Reads) m events answers end → RanBy (Next Reads) m events others other_end → (answers ≡ others) × (end ≡ other_end)
  only_run m end other_end [] [] [] x y = (refl, x ∙ sym y)
  only_run m end other_end [] (a ∷ as') others x y = absurd x
  only_run m end other_end [] [] (b ∷ bs) x y = absurd y
  only_run m end other_end (e ∷ es) [] others x y = absurd x
  only_run m end other_end (e ∷ es) (a ∷ as') [] x y = absurd y
  only_run m end other_end (e ∷ es) (a ∷ as') (b ∷ bs) (n, x, xs) (k, y, ys) =
      let same = only_transition m e (transition_to a n) (transition_to b k) x y in
      let answer : a ≡ b = ap (λ (t : Transition). t.answer) same in
      let machine : n ≡ k = ap (λ (t : Transition). t.machine) same in
      let rest = only_run k end other_end es as' bs (subst (λ (w : Machine). RanBy (Next Reads) w es as' end) machine xs) ys in
      (ap (λ (c : Answer). c ∷ as') answer ∙ ap (λ (l : List Answer). b ∷ l) rest.0, rest.1)

-- ---- joining and parting

module _ {W E : Type 0} (Happens : W → E → Answer → W → Type 0) where
  pub joined : RunsJoin Happens
  joined w middle end [] later [] others x y = subst (λ (v : W). RanBy Happens v later others end) x y
  joined w middle end [] later (a ∷ as') others x y = absurd x
  joined w middle end (e ∷ es) later [] others x y = absurd x
  joined w middle end (e ∷ es) later (a ∷ as') others (n, x, xs) y = (n, x, joined n middle end es later as' others xs y)

  pub parted : RunsPart Happens
  parted w end [] later all x = record { middle = w; answers = []; others = all; all_are = refl; before = refl; after = x }
  parted w end (e ∷ es) later [] x = absurd x
  parted w end (e ∷ es) later (a ∷ as') (n, x, xs) =
      let rest = parted n end es later as' xs in
      record { middle = rest.middle; answers = a ∷ rest.answers; others = rest.others; all_are = ap (λ (l : List Answer). a ∷ l) rest.all_are; before = (n, x, rest.before); after = rest.after }

-- ---- over a store

module _ (Reads : ReadingRelation) (Leave : Stops) where
  own_step : (old new : Counts) (m : Machine) (event : Event TheText) (answer : Answer) (after : Machine) (was : Option Database) (s : IsStep Reads old new m event answer after) → (IsOfStore answer → ⊥) →
      Next Reads m event answer after × (under_way_after s was ≡ was)
  own_step old new m event answer after was (by_transition is) own = (is, refl)
  own_step old new m event answer after was (step.for_memory e a may) own = absurd (own (inl e))
  own_step old new m event answer after was (step.for_space e a may rises) own = absurd (own (inr (inl e)))
  own_step old new m event answer after was (step.for_number e a may greatest) own = absurd (own (inr (inr (inl e))))
  own_step old new m event answer after was (for_device t is may e a failed) own = absurd (own (inr (inr (inr e))))

  pub own_transition : (w next : At) (event : Event TheText) (answer : Answer) → Happens Reads Leave w event answer next → (IsOfStore answer → ⊥) →
      Next Reads w.standing.machine event answer next.standing.machine × (next.standing.under_way ≡ w.standing.under_way)
  own_transition w next event answer h own =
      let found = own_step w.counts next.counts w.standing.machine event answer next.standing.machine w.standing.under_way h.step own in
      (found.0, h.under_way ∙ found.1)

  pub own_run : (w end : At) (events : List (Event TheText)) (answers : List Answer) → RanBy (Happens Reads Leave) w events answers end →
      ((a : Answer) → Among a answers → IsOfStore a → ⊥) →
      RanBy (Next Reads) w.standing.machine events answers end.standing.machine × (end.standing.under_way ≡ w.standing.under_way)
  own_run w end [] [] x own = (ap (λ (v : At). v.standing.machine) x, ap (λ (v : At). v.standing.under_way) x)
  own_run w end [] (a ∷ as') x own = absurd x
  own_run w end (e ∷ es) [] x own = absurd x
  own_run w end (e ∷ es) (a ∷ as') (n, x, xs) own =
      let first = own_transition w n e a x (own a (inl refl)) in
      let rest = own_run n end es as' xs (λ b h. own b (inr h)) in
      ((n.standing.machine, first.0, rest.0), rest.1 ∙ first.1)

  answer_inside : (a b : SqlState) → Refused a ≡ Refused b → a ≡ b
  answer_inside a b e = cc

  refused_step : (old new : Counts) (m : Machine) (event : Event TheText) (answer : Answer) (code : SqlState) (after : Machine) → IsStep Reads old new m event answer after → answer ≡ Refused code → IsRefusedBy Reads old new m event code after
  refused_step old new m event answer code after (by_transition is) e = by_machine (subst (λ (a : Answer). Next Reads m event a after) e is)
  refused_step old new m event answer code after (step.for_memory is same may) e = by_store (subst (CountsAsNotIssued old new) (answer_inside OutOfMemory code (sym is ∙ e)) for_memory) same
  refused_step old new m event answer code after (step.for_space is same may rises) e = by_store (subst (CountsAsNotIssued old new) (answer_inside DiskFull code (sym is ∙ e)) (for_space rises)) same
  refused_step old new m event answer code after (step.for_number is same may greatest) e = by_store (subst (CountsAsNotIssued old new) (answer_inside ProgramLimitExceeded code (sym is ∙ e)) (for_number greatest)) same
  refused_step old new m event answer code after (for_device t is may at same failed) e = by_device (answer_inside code IoError (sym e ∙ at)) failed same

  pub refused_over : (w next : At) (event : Event TheText) (code : SqlState) → Happens Reads Leave w event (Refused code) next →
      IsRefusedBy Reads w.counts next.counts w.standing.machine event code next.standing.machine
  refused_over w next event code h = refused_step w.counts next.counts w.standing.machine event (Refused code) code next.standing.machine h.step refl
