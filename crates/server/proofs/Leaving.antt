-- What a look-up leaves of a machine.
use Rattle.std.proofs.Common.{◌≡◌, ◌∙◌, ℕ, Bool, true, false, List, Some, None, Err, refl, sym, ap, subst}
use Rattle.sql_types.specs.declared.answer.Answer.{Answer}
use Rattle.sql_types.specs.declared.answer.Answer.TheVariants.{Refused}
use Rattle.sql_types.specs.declared.event.Event.TheVariants as event
use Rattle.sql_types.specs.declared.state.SqlState.TheVariants.{IoError}
use Rattle.store.specs.Store.{StoreState}
use Rattle.abstract_database.specs.Lists.{TheName}
use Rattle.abstract_database.specs.Machine.{executes, closes, Machine, Session, session_of}
use Rattle.abstract_database.specs.Runs.{TheText, ReadingRelation, IsStep, At}
use Rattle.server.specs.declared.server.Server.{Server}
use Rattle.server.specs.Standing.{HoldsInBlock, Represents}
use Rattle.server.specs.LookUps.{Found, look_up_number, look_up_session, TakesOwn, IsAccepted, LooksVerifierUp, had_stopped, lacked_memory, was_refused, did_not_open, read, failed, IsLeftByLookUp, as_it_was, stopped_within, LeavesMachine}
use Rattle.server.proofs.Opening.{Opened, refused, opened, opening, closed_machine, closing, there_with, closed_again}
use Rattle.server.proofs.Staying.{stopping}

-- after an opening that was accepted the server works
pub still_runs : {S X : Type 0} (Reads : ReadingRelation) (state : S → StoreState) (role : TheName) (old : Server S X) (a : Answer) (mid : Server S X) → IsAccepted a
    → TakesOwn Reads state (event.Open 0 role) a old mid → mid.stopped ≡ false
still_runs Reads state role old a mid accepted made = by_stop mid.stopped refl
  where
    by_stop : (b : Bool) → mid.stopped ≡ b → mid.stopped ≡ false
    by_stop true is = absurd (accepted IoError (made.running is))
    by_stop false is = is

module _ {S X : Type 0} (Reads : ReadingRelation) (state : S → StoreState) (role : TheName) (r : Found) (old new : Server S X) where
  same_left : new ≡ old → LeavesMachine state role r old new
  same_left is sound w here = (w, subst (λ (s : Server S X). Represents state s w) (sym is) here, as_it_was refl)

  -- no session was opened
  unopened_left : (a : Answer) → (IsAccepted a → session_of look_up_number new.sessions.entries ≡ None) → TakesOwn Reads state (event.Open 0 role) a old new → LeavesMachine state role r old new
  unopened_left a none made sound w here =
      let next = made.steps sound w here in
      (next.0, next.1, by_opening next.0 next.1 (opening w.standing.machine look_up_number role Reads w.counts next.0.counts a next.0.standing.machine next.2.step))
    where
      by_opening : (next : At) → Represents state new next → Opened w.standing.machine look_up_number role a next.standing.machine → IsLeftByLookUp role r w.standing.machine next.standing.machine
      by_opening next there (refused code answer same why) = as_it_was same
      by_opening next there (opened accepted free same) =
          let put = there_with w.standing.machine.sessions look_up_number (look_up_session role) in
          let found : session_of look_up_number new.sessions.entries ≡ Some put.0 = ap (session_of look_up_number) (sym there.sessions ∙ ap (λ (m : Machine). m.sessions) same) ∙ put.1 in
          let wrong : None ≡ Some put.0 = sym (none accepted) ∙ found in
          cc

  -- the session was opened, and closed again
  closed_left : old.stopped ≡ false → (a b : Answer) (mid : Server S X) → IsAccepted a → TakesOwn Reads state (event.Open 0 role) a old mid → TakesOwn Reads state (event.Close 0) b mid new
      → LeavesMachine state role r old new
  closed_left runs a b mid accepted made closed sound w here =
      let first = made.steps sound w here in
      let last = closed.steps (made.history.sound sound) first.0 first.1 in (
        last.0,
        last.1,
        by_opening first.0 last.0 (first.1.stopped ∙ still_runs Reads state role old a mid accepted made) last.2.step
            (opening w.standing.machine look_up_number role Reads w.counts first.0.counts a first.0.standing.machine first.2.step),
      )
    where
      by_opening : (first last : At) → first.standing.machine.stopped ≡ false → IsStep Reads first.counts last.counts first.standing.machine (closes look_up_number) b last.standing.machine
          → Opened w.standing.machine look_up_number role a first.standing.machine → IsLeftByLookUp role r w.standing.machine last.standing.machine
      by_opening first last going step (refused code answer same why) = absurd (accepted code answer)
      by_opening first last going step (opened taken free same) =
          let m = w.standing.machine in
          let put = there_with m.sessions look_up_number (look_up_session role) in
          let there : session_of look_up_number first.standing.machine.sessions ≡ Some put.0 = ap (λ (n : Machine). session_of look_up_number n.sessions) same ∙ put.1 in
          let in_block : HoldsInBlock m.holder m.sessions = subst (λ (es : List (ℕ × Session)). HoldsInBlock m.holder es) (sym here.sessions) (here.works runs).1.in_block in
          as_it_was (closing first.standing.machine look_up_number put.0 there going Reads first.counts last.counts b last.standing.machine step
          ∙ ap (λ (n : Machine). closed_machine n look_up_number) same ∙ closed_again m look_up_number (look_up_session role) in_block free)

  -- the device failed in the session
  stopped_left : (a : Answer) (text : TheText) (mid : Server S X) → r ≡ Err IoError → IsAccepted a → TakesOwn Reads state (event.Open 0 role) a old mid → new.stopped ≡ true
      → TakesOwn Reads state (event.Statement 0 text) (Refused IoError) mid new → LeavesMachine state role r old new
  stopped_left a text mid told accepted made stops fails sound w here =
      let first = made.steps sound w here in
      let last = fails.steps (made.history.sound sound) first.0 first.1 in (
        last.0,
        last.1,
        by_opening first.0 last.0 (first.1.stopped ∙ still_runs Reads state role old a mid accepted made) (last.1.stopped ∙ stops) last.2.step
            (opening w.standing.machine look_up_number role Reads w.counts first.0.counts a first.0.standing.machine first.2.step),
      )
    where
      by_opening : (first last : At) → first.standing.machine.stopped ≡ false → last.standing.machine.stopped ≡ true
          → IsStep Reads first.counts last.counts first.standing.machine (executes look_up_number text) (Refused IoError) last.standing.machine
          → Opened w.standing.machine look_up_number role a first.standing.machine → IsLeftByLookUp role r w.standing.machine last.standing.machine
      by_opening first last going ends step (refused code answer same why) = absurd (accepted code answer)
      by_opening first last going ends step (opened taken free same) =
          stopped_within told free (stopping first.standing.machine Reads first.counts last.counts (executes look_up_number text) (Refused IoError) last.standing.machine going ends step
          ∙ ap (λ (n : Machine). record n { stopped = true }) same)

  pub leaves : LooksVerifierUp Reads state role r old new → LeavesMachine state role r old new
  leaves (had_stopped was told is) = same_left is
  leaves (lacked_memory runs told is) = same_left is
  leaves (was_refused code runs told made) = unopened_left (Refused code) (λ accepted. absurd (accepted code refl)) made
  leaves (did_not_open a runs told made accepted none) = unopened_left a (λ taken. none) made
  leaves (read a b mid runs told made accepted closed) = closed_left runs a b mid accepted made closed
  leaves (failed a text mid runs told made accepted stops fails) = stopped_left a text mid told accepted made stops fails
