-- Laws of roles that are dropped: only a step that tells so may drop one, and no end of a session makes one.
use Rattle.std.proofs.Common.{◌≡◌, ◌⊎◌, ◌∙◌, ◌&&◌, inl, inr, Bool, true, false, cond, not, ℕ, Option, Some, None, refl, sym, ap, subst}
use Rattle.std.proofs.lemmas.Bool.{and_parts}
use Rattle.sql_types.specs.declared.answer.Answer.{Answer}
use Rattle.sql_types.specs.declared.event.Event.{Event}
use Rattle.sql_types.specs.declared.event.Event.TheVariants as event
use Rattle.sql_types.specs.declared.state.SqlState.TheVariants.{IoError}
use Rattle.store.specs.Store.{StoreState}
use Rattle.abstract_database.specs.Lists.{TheName}
use Rattle.abstract_database.specs.Database.{Database, has_role}
use Rattle.abstract_database.specs.Machine.{Event as MachineEvent, closes, Reading, Machine, Session, refuses, close_session, number_in, session_of, transition}
use Rattle.abstract_database.specs.Runs.{ReadingRelation, At, Counts, IsStep, by_transition, for_memory, for_space, for_number, for_device}
use Rattle.stored_database.specs.Definitions.{Definitions, database_of}
use Rattle.server.specs.declared.server.Server.{Server}
use Rattle.server.specs.Standing.{Represents}
use Rattle.server.specs.Dropped.{lacks_role}
use Rattle.talks.specs.declared.want.Want.{Want}
use Rattle.talks.specs.declared.want.Want.TheVariants as want
use Rattle.talks.specs.declared.want.Reply.{Reply}
use Rattle.talks.specs.declared.want.Reply.TheVariants as reply
use Rattle.talks.specs.declared.want.SessionEntry.{SessionEntry}
use Rattle.served_machine.specs.Sessions.{IsSoundServer}
use Rattle.served_machine.specs.Served.{TakesEvent, OpensFor, has_stopped, turns_away, lacks_memory, takes, TakesStep, ClosesOne}

not_true : (b : Bool) → not b ≡ true → b ≡ false
not_true true is = sym is
not_true false is = refl

-- ---- the end of a session

-- keeps the committed database
closing : (m : Machine) (number : ℕ) (b : Bool) (found : Option Session) → (cond b (refuses m IoError) (close_session m number found)).machine.committed ≡ m.committed
closing m number true found = refl
closing m number false None = refl
closing m number false (Some s) = refl

close_keeps : (Reads : ReadingRelation) (old new : Counts) (m : Machine) (number : ℕ) (a : Answer) (after : Machine) → IsStep Reads old new m (closes number) a after → after.committed ≡ m.committed
close_keeps Reads old new m number a after (by_transition is) =
    ap (λ t. t.machine.committed) is.is ∙ ap (λ (e : MachineEvent Reading). (transition m e).machine.committed) is.read ∙ closing m number m.stopped (session_of number m.sessions)
close_keeps Reads old new m number a after (for_memory refused is may) = ap (λ (k : Machine). k.committed) is
close_keeps Reads old new m number a after (for_space refused is may rises) = ap (λ (k : Machine). k.committed) is
close_keeps Reads old new m number a after (for_number refused is may greatest) = ap (λ (k : Machine). k.committed) is
close_keeps Reads old new m number a after (for_device t is may refused stays failed) = ap (λ (k : Machine). k.committed) stays

-- ---- roles

module _ {S X : Type 0} (state : S → StoreState) (server : Server S X) (role : TheName) where
  -- a server lacks none once it has stopped
  pub lacks_running : lacks_role server role ≡ true → server.stopped ≡ false
  lacks_running lacks = not_true server.stopped (and_parts (not server.stopped) (not (has_role (database_of server.catalogue) role)) lacks).0

  pub lacks_told : lacks_role server role ≡ true → has_role (database_of server.catalogue) role ≡ false
  lacks_told lacks = not_true (has_role (database_of server.catalogue) role) (and_parts (not server.stopped) (not (has_role (database_of server.catalogue) role)) lacks).1

  pub lacks_if : server.stopped ≡ false → has_role (database_of server.catalogue) role ≡ false → lacks_role server role ≡ true
  lacks_if runs none = ap (λ (b : Bool). not b && not (has_role (database_of server.catalogue) role)) runs ∙ ap (λ (b : Bool). not b) none

  -- the definitions of a server that works are those of its committed database
  pub same_roles : (w : At) → Represents state server w → server.stopped ≡ false → has_role w.standing.machine.committed role ≡ has_role (database_of server.catalogue) role
  same_roles w at runs = ap (λ (db : Database). has_role db role) (at.works runs).1.committed.is

module _ {S X : Type 0} (Reads : ReadingRelation) (state : S → StoreState) (old new : Server S X) (role : TheName) where
  -- a role that is lacked then was lacked before, or may have been dropped
  abbrev IsOld : Type 0
  IsOld = (lacks_role old role ≡ true) ⊎ (new.may_have_dropped ≡ true)

  by_definitions : (b stopped : Bool) → new.may_have_dropped ≡ b → old.stopped ≡ stopped → (old.stopped ≡ true → new ≡ old) → (new.may_have_dropped ≡ false → new.catalogue ≡ old.catalogue) → lacks_role new role ≡ true → IsOld
  by_definitions true stopped told was stays keeps lacks = inr told
  by_definitions false true told was stays keeps lacks = inl (subst (λ (s : Server S X). lacks_role s role ≡ true) (stays was) lacks)
  by_definitions false false told was stays keeps lacks =
      inl (lacks_if state old role was (ap (λ (d : Definitions). has_role (database_of d) role) (sym (keeps told)) ∙ lacks_told state new role lacks))

  event_roles : (c : ℕ) (e : Event) (a : Answer) → TakesEvent Reads state c e a old new → lacks_role new role ≡ true → IsOld
  event_roles c e a made lacks = by_definitions new.may_have_dropped old.stopped refl refl (λ was. (made.stopped was).1) made.dropped lacks

  same_lacks : new ≡ old → lacks_role new role ≡ true → IsOld
  same_lacks is lacks = inl (subst (λ (s : Server S X). lacks_role s role ≡ true) is lacks)

  opens_roles : (c n : ℕ) (login : TheName) (entry : SessionEntry) (a : Answer) → OpensFor Reads state c n login entry a old new → lacks_role new role ≡ true → IsOld
  opens_roles c n login entry a (has_stopped stopped refused is) lacks = same_lacks is lacks
  opens_roles c n login entry a (turns_away runs away refused is) lacks = same_lacks is lacks
  opens_roles c n login entry a (lacks_memory runs way refused is) lacks = same_lacks is lacks
  opens_roles c n login entry a (takes runs admitted small made) lacks = event_roles c (event.Open n login) a made lacks

  pub steps_roles : (c : ℕ) (w : Want) (r : Reply) → TakesStep Reads state c w r old new → lacks_role new role ≡ true → IsOld
  steps_roles c (want.Event (event.Statement n text)) (reply.Answer a) made lacks = event_roles c (event.Statement n text) a made lacks
  steps_roles c (want.Event (event.Close n)) (reply.Answer a) made lacks = event_roles c (event.Close n) a made lacks
  steps_roles c (want.Open n login entry) (reply.Answer a) made lacks = opens_roles c n login entry a made lacks
  steps_roles c (want.Event (event.Open n login)) r made lacks = absurd made
  steps_roles c (want.Event (event.Statement n text)) (reply.Standing b) made lacks = absurd made
  steps_roles c (want.Event (event.Close n)) (reply.Standing b) made lacks = absurd made
  steps_roles c (want.Open n login entry) (reply.Standing b) made lacks = absurd made
  steps_roles c (want.Event (event.Statement n text)) (reply.Description x) made lacks = absurd made
  steps_roles c (want.Event (event.Close n)) (reply.Description x) made lacks = absurd made
  steps_roles c (want.Open n login entry) (reply.Description x) made lacks = absurd made
  steps_roles c (want.Event (event.Statement n text)) (reply.Verifier v) made lacks = absurd made
  steps_roles c (want.Event (event.Close n)) (reply.Verifier v) made lacks = absurd made
  steps_roles c (want.Open n login entry) (reply.Verifier v) made lacks = absurd made
  steps_roles c want.Message r made lacks = absurd made
  steps_roles c (want.Standing n) r made lacks = absurd made
  steps_roles c (want.Description n text) r made lacks = absurd made
  steps_roles c (want.Verifier table name) r made lacks = absurd made
  steps_roles c (want.End late) r made lacks = absurd made
  steps_roles c want.OutOfMemory r made lacks = absurd made

  closed_roles : (c : ℕ) (stopped : Bool) → new.stopped ≡ stopped → IsSoundServer state old → ClosesOne Reads state c old new → lacks_role old role ≡ true → old.may_have_dropped ≡ true
      → (new.stopped ≡ true) ⊎ ((lacks_role new role ≡ true) × (new.may_have_dropped ≡ true))
  closed_roles c true is sound made lacks told = inl is
  closed_roles c false is sound made lacks told =
      let w = sound.1.0 in
      let at = sound.1.1 in
      let next = made.closes.steps sound.0 w at in
      let same = close_keeps Reads w.counts next.0.counts w.standing.machine (number_in c made.closes.session) made.closes.answer next.0.standing.machine next.2.step in
      inr (
        lacks_if state new role is (sym (same_roles state new role next.0 next.1 is) ∙ ap (λ (db : Database). has_role db role) same ∙ same_roles state old role w at (lacks_running state old role lacks) ∙ lacks_told state old role lacks),
        made.closes.dropped ∙ told,
      )

  pub closes_roles : (c : ℕ) → IsSoundServer state old → ClosesOne Reads state c old new → lacks_role old role ≡ true → old.may_have_dropped ≡ true
      → (new.stopped ≡ true) ⊎ ((lacks_role new role ≡ true) × (new.may_have_dropped ≡ true))
  closes_roles c sound made lacks told = closed_roles c new.stopped refl sound made lacks told
