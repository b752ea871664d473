-- What the exchanges of a server commit.
use Rattle.std.specs.Prelude.{if◌then◌else◌}
use Rattle.std.proofs.Common.{◌≡◌, ◌⊎◌, ◌∙◌, ◌≤◌, ℕ, zero, suc, Bool, true, false, cond, List, [], ◌∷◌, length, refl, sym, ap, subst, inl, inr, arith}
use Rattle.sql_types.specs.declared.answer.Answer.{Answer}
use Rattle.sql_types.specs.declared.event.Event.{Event}
use Rattle.sql_types.specs.declared.event.Event.TheVariants as event
use Rattle.abstract_database.specs.Database.{Database}
use Rattle.abstract_database.specs.Lists.{TheName}
use Rattle.abstract_database.specs.Machine.{Event as MachineEvent, Reading, Machine, Transition}
use Rattle.abstract_database.specs.Runs.{TheText, ReadingRelation, IsReadAs, Counts, At, IsStep, by_transition, for_device}
use Rattle.abstract_database.specs.Runs as step
use Rattle.database_laws.specs.Blocks.{IsCommittedAt}
use Rattle.database_laws.specs.HiddenRuns.{SameApparentRowsForPairs, AreSound, after}
use Rattle.database_laws.proofs.CommitLemmas.{committed_by}
use Rattle.database_laws.proofs.OthersLeftOut.{all_back}
use Rattle.database_laws.proofs.RunsAlike.{sound_after}
use Rattle.database_laws.proofs.UnseenEvents.{all_same, all_turned}
use Rattle.abstract_database.specs.Statements.{UserPair}
use Rattle.server.specs.Standing.{event_of}
use Rattle.server.specs.LookUps.{Found, IsLeftByLookUp, as_it_was, stopped_within}
use Rattle.talks.specs.declared.want.Want.{Want}
use Rattle.talks.specs.declared.want.Want.TheVariants as want
use Rattle.talks.specs.declared.want.Reply.{Reply}
use Rattle.talks.specs.declared.want.SessionEntry.{SessionEntry}
use Rattle.talks.specs.Turns.{Exchange}
use Rattle.served_tenants.specs.Exchanges.{CarriesOutAt, OpensSessionAt, has_stopped, turns_away, lacks_memory, takes, Replies, Exchanges}
use Rattle.served_tenants.specs.ServedTenants.{ClientsOfTenant, is_own, own_exchanges, IsEventOf, OthersOutOfSight}
use Rattle.served_lives.specs.ServedLives.{IsCommit, one_less, CommitsBehind}

-- ---- databases that look alike

pub looks_on : (pairs : UserPair → Bool) (d e f : Database) → SameApparentRowsForPairs pairs d e → SameApparentRowsForPairs pairs e f → SameApparentRowsForPairs pairs d f
looks_on pairs d e f first second = all_back pairs e d f (all_turned pairs d e first) second

-- ---- one event

module _ (Reads : ReadingRelation) where
  -- what is committed is as before, or it is a commit
  abbrev Commits : Machine → MachineEvent TheText → Machine → Type 0
  Commits m e next = (next.committed ≡ m.committed) ⊎ ((read : MachineEvent Reading) × IsReadAs Reads m e read × IsCommittedAt m read next.committed)

  committed_in : (old new : Counts) (m : Machine) (e : MachineEvent TheText) (x : Answer) (next : Machine) → IsStep Reads old new m e x next → Commits m e next
  committed_in old new m e x next (by_transition is) = at (committed_by m is.as_read) where
    is_after : next.committed ≡ (after m is.as_read).committed
    is_after = ap (λ (t : Transition). t.machine.committed) is.is

    at : ((after m is.as_read).committed ≡ m.committed) ⊎ IsCommittedAt m is.as_read (after m is.as_read).committed → Commits m e next
    at (inl same) = inl (is_after ∙ same)
    at (inr commits) = inr (is.as_read, is.read, subst (λ (d : Database). IsCommittedAt m is.as_read d) (sym is_after) commits)
  committed_in old new m e x next (step.for_memory is kept may) = inl (ap (λ (n : Machine). n.committed) kept)
  committed_in old new m e x next (step.for_space is kept may rises) = inl (ap (λ (n : Machine). n.committed) kept)
  committed_in old new m e x next (step.for_number is kept may greatest) = inl (ap (λ (n : Machine). n.committed) kept)
  committed_in old new m e x next (for_device t is may io kept broke) = inl (ap (λ (n : Machine). n.committed) kept)

  sound_in : (old new : Counts) (m : Machine) (e : MachineEvent TheText) (x : Answer) (next : Machine) → AreSound m → IsStep Reads old new m e x next → AreSound next
  sound_in old new m e x next on (by_transition is) = subst AreSound (sym (ap (λ (t : Transition). t.machine) is.is)) (sound_after m is.as_read on)
  sound_in old new m e x next on (step.for_memory is kept may) = subst AreSound (sym kept) on
  sound_in old new m e x next on (step.for_space is kept may rises) = subst AreSound (sym kept) on
  sound_in old new m e x next on (step.for_number is kept may greatest) = subst AreSound (sym kept) on
  sound_in old new m e x next on (for_device t is may io kept broke) = subst AreSound (sym kept) (record { committed = on.committed; holder = on.holder })

  -- ---- one exchange

  module _ (w next : At) (c : ℕ) where
    abbrev Leads : Want → Type 0
    Leads x = (next.standing.machine.committed ≡ w.standing.machine.committed) ⊎ IsCommit Reads w c x next

    stays : (x : Want) → next ≡ w → Leads x
    stays x same = inl (ap (λ (u : At). u.standing.machine.committed) same)

    carried : (e : Event) (p : Answer) (x : Want) → IsEventOf x e → CarriesOutAt Reads w c e p next → Leads x
    carried e p x is it = at (committed_in w.counts next.counts w.standing.machine (event_of c e) p next.standing.machine it.step) where
      at : Commits w.standing.machine (event_of c e) next.standing.machine → Leads x
      at (inl same) = inl same
      at (inr (read, reads, commits)) = inr (record { event = e; is = is; read = read; reads = reads; commits = commits })

    opened : (n : ℕ) (login : TheName) (entry : SessionEntry) (p : Answer) → OpensSessionAt Reads w c n login entry p next → Leads (want.Open n login entry)
    opened n login entry p (has_stopped was e same) = stays (want.Open n login entry) same
    opened n login entry p (turns_away runs away e same) = stays (want.Open n login entry) same
    opened n login entry p (lacks_memory runs admitted e same) = stays (want.Open n login entry) same
    opened n login entry p (takes runs admitted it) = carried (event.Open n login) p (want.Open n login entry) refl it

    looked : (table role : TheName) (f : Found) → IsLeftByLookUp role f w.standing.machine next.standing.machine → Leads (want.Verifier table role)
    looked table role f (as_it_was same) = inl (ap (λ (m : Machine). m.committed) same)
    looked table role f (stopped_within io free is) = inl (ap (λ (m : Machine). m.committed) is)

    pub commits_in : (x : Want) (r : Reply) → Replies Reads w c x r next → Leads x
    commits_in (want.Event (event.Statement n text)) r it = carried (event.Statement n text) it.0 (want.Event (event.Statement n text)) refl it.2
    commits_in (want.Event (event.Close n)) r it = carried (event.Close n) it.0 (want.Event (event.Close n)) refl it.2
    commits_in (want.Event (event.Open n login)) r it = absurd it
    commits_in (want.Open n login entry) r it = opened n login entry it.0 it.2
    commits_in (want.Standing n) r it = stays (want.Standing n) it.1
    commits_in (want.Description n text) r it = stays (want.Description n text) it.3
    commits_in (want.Verifier table role) r it = looked table role it.0 it.2
    commits_in want.Message r it = absurd it
    commits_in (want.End late) r it = absurd it
    commits_in want.OutOfMemory r it = absurd it

    -- what is sound stays so
    abbrev Sound : At → Type 0
    Sound u = AreSound u.standing.machine

    stays_sound : next ≡ w → Sound w → Sound next
    stays_sound same on = subst Sound (sym same) on

    carried_sound : (e : Event) (p : Answer) → CarriesOutAt Reads w c e p next → Sound w → Sound next
    carried_sound e p it on = sound_in w.counts next.counts w.standing.machine (event_of c e) p next.standing.machine on it.step

    opened_sound : (n : ℕ) (login : TheName) (entry : SessionEntry) (p : Answer) → OpensSessionAt Reads w c n login entry p next → Sound w → Sound next
    opened_sound n login entry p (has_stopped was e same) on = stays_sound same on
    opened_sound n login entry p (turns_away runs away e same) on = stays_sound same on
    opened_sound n login entry p (lacks_memory runs admitted e same) on = stays_sound same on
    opened_sound n login entry p (takes runs admitted it) on = carried_sound (event.Open n login) p it on

    looked_sound : (role : TheName) (f : Found) → IsLeftByLookUp role f w.standing.machine next.standing.machine → Sound w → Sound next
    looked_sound role f (as_it_was same) on = subst AreSound (sym same) on
    looked_sound role f (stopped_within io free is) on = subst AreSound (sym is) (record { committed = on.committed; holder = on.holder })

    reply_sound : (x : Want) (r : Reply) → Replies Reads w c x r next → Sound w → Sound next
    reply_sound (want.Event (event.Statement n text)) r it on = carried_sound (event.Statement n text) it.0 it.2 on
    reply_sound (want.Event (event.Close n)) r it on = carried_sound (event.Close n) it.0 it.2 on
    reply_sound (want.Event (event.Open n login)) r it on = absurd it
    reply_sound (want.Open n login entry) r it on = opened_sound n login entry it.0 it.2 on
    reply_sound (want.Standing n) r it on = stays_sound it.1 on
    reply_sound (want.Description n text) r it on = stays_sound it.3 on
    reply_sound (want.Verifier table role) r it on = looked_sound role it.0 it.2 on
    reply_sound want.Message r it on = absurd it
    reply_sound (want.End late) r it on = absurd it
    reply_sound want.OutOfMemory r it on = absurd it

  -- ---- exchanges

  pub sound_at_end : (xs : List Exchange) (w end : At) → Exchanges Reads w xs end → AreSound w.standing.machine → AreSound end.standing.machine
  sound_at_end [] w end made on = subst (λ (u : At). AreSound u.standing.machine) (sym made) on
  sound_at_end (x ∷ xs) w end (next, it, its) on = sound_at_end xs next end its (reply_sound w next x.client x.want x.reply it on)

  module _ (a : ClientsOfTenant) (place : ℕ → ℕ) where
    -- a commit behind one exchange more
    pub passed : (before rest : ℕ) (w end : At) (x : Exchange) (xs : List Exchange) (made : Exchanges Reads w (x ∷ xs) end) → (if is_own a place x then one_less before else before) ≡ rest →
        CommitsBehind Reads a place rest made.0 xs end made.2 → CommitsBehind Reads a place before w (x ∷ xs) end made
    passed before rest w end x xs made is commits = inr (subst (λ (n : ℕ). CommitsBehind Reads a place n made.0 xs end made.2) (sym is) commits)

    none_before : (b : Bool) → (if b then one_less 0 else 0) ≡ 0
    none_before true = refl
    none_before false = refl

    -- the tenant commits something, or what is committed looks to it as before
    pub commits_or_looks : (xs : List Exchange) (w end : At) (made : Exchanges Reads w xs end) → OthersOutOfSight a place Reads w xs end made →
        CommitsBehind Reads a place 0 w xs end made ⊎ SameApparentRowsForPairs a.pairs w.standing.machine.committed end.standing.machine.committed
    commits_or_looks [] w end made keep =
        inr (subst (λ (u : At). SameApparentRowsForPairs a.pairs w.standing.machine.committed u.standing.machine.committed) (sym made) (all_same a.pairs w.standing.machine.committed))
    commits_or_looks (x ∷ xs) w end (next, it, its) keep = by (is_own a place x) refl (commits_or_looks xs next end its keep.1) where
      then_on : SameApparentRowsForPairs a.pairs w.standing.machine.committed next.standing.machine.committed →
          CommitsBehind Reads a place 0 next xs end its ⊎ SameApparentRowsForPairs a.pairs next.standing.machine.committed end.standing.machine.committed →
          CommitsBehind Reads a place 0 w (x ∷ xs) end (next, it, its) ⊎ SameApparentRowsForPairs a.pairs w.standing.machine.committed end.standing.machine.committed
      then_on looks (inl commits) = inl (passed 0 0 w end x xs (next, it, its) (none_before (is_own a place x)) commits)
      then_on looks (inr on) = inr (looks_on a.pairs w.standing.machine.committed next.standing.machine.committed end.standing.machine.committed looks on)

      by_own : is_own a place x ≡ true → (next.standing.machine.committed ≡ w.standing.machine.committed) ⊎ IsCommit Reads w x.client x.want next →
          CommitsBehind Reads a place 0 next xs end its ⊎ SameApparentRowsForPairs a.pairs next.standing.machine.committed end.standing.machine.committed →
          CommitsBehind Reads a place 0 w (x ∷ xs) end (next, it, its) ⊎ SameApparentRowsForPairs a.pairs w.standing.machine.committed end.standing.machine.committed
      by_own own (inl same) rest =
          then_on (subst (λ (d : Database). SameApparentRowsForPairs a.pairs w.standing.machine.committed d) (sym same) (all_same a.pairs w.standing.machine.committed)) rest
      by_own own (inr commits) rest = inl (inl (refl, own, commits))

      by : (b : Bool) → is_own a place x ≡ b → CommitsBehind Reads a place 0 next xs end its ⊎ SameApparentRowsForPairs a.pairs next.standing.machine.committed end.standing.machine.committed →
          CommitsBehind Reads a place 0 w (x ∷ xs) end (next, it, its) ⊎ SameApparentRowsForPairs a.pairs w.standing.machine.committed end.standing.machine.committed
      by true own rest = by_own own (commits_in w next x.client x.want x.reply it) rest
      by false other rest = then_on (keep.0.1 other) rest

    -- ---- how many come before a commit

    step_own : (before rest all more : ℕ) → rest ≡ one_less before → all ≡ suc more → suc rest ≤ more → suc before ≤ all
    step_own zero rest all more is counts few = omega (arith, counts, few)
    step_own (suc n) rest all more is counts few = let less : rest ≡ n = is in omega (arith, less, counts, few)

    pub fewer_before : (before : ℕ) (xs : List Exchange) (w end : At) (made : Exchanges Reads w xs end) → CommitsBehind Reads a place before w xs end made → suc before ≤ length (own_exchanges a place xs)
    fewer_before before [] w end made commits = absurd commits
    fewer_before before (x ∷ xs) w end (next, it, its) (inl (none, own, commit)) = first (length (own_exchanges a place (x ∷ xs))) (length (own_exchanges a place xs)) (counts true own) where
      counts : (b : Bool) → is_own a place x ≡ b → length (own_exchanges a place (x ∷ xs)) ≡ length (cond b (x ∷ own_exchanges a place xs) (own_exchanges a place xs))
      counts b is = ap (λ (c : Bool). length (cond c (x ∷ own_exchanges a place xs) (own_exchanges a place xs))) is

      first : (all more : ℕ) → all ≡ suc more → suc before ≤ all
      first all more is = omega (arith, none, is)
    fewer_before before (x ∷ xs) w end (next, it, its) (inr commits) =
        by (is_own a place x) refl (fewer_before (if is_own a place x then one_less before else before) xs next end its commits) where
          counts : (b : Bool) → is_own a place x ≡ b → length (own_exchanges a place (x ∷ xs)) ≡ length (cond b (x ∷ own_exchanges a place xs) (own_exchanges a place xs))
          counts b is = ap (λ (c : Bool). length (cond c (x ∷ own_exchanges a place xs) (own_exchanges a place xs))) is

          passes : (b : Bool) → is_own a place x ≡ b → (if is_own a place x then one_less before else before) ≡ (if b then one_less before else before)
          passes b is = ap (λ (c : Bool). if c then one_less before else before) is

          same : (rest all more : ℕ) → rest ≡ before → all ≡ more → suc rest ≤ more → suc before ≤ all
          same rest all more is equal few = omega (arith, is, equal, few)

          by : (b : Bool) → is_own a place x ≡ b → suc (if is_own a place x then one_less before else before) ≤ length (own_exchanges a place xs) → suc before ≤ length (own_exchanges a place (x ∷ xs))
          by true own few = step_own before _ _ _ (passes true own) (counts true own) few
          by false other few = same _ _ _ (passes false other) (counts false other) few
