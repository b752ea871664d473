-- Runs over a store, under other numbers.
use Rattle.std.proofs.Common.{◌≡◌, ◌⊎◌, ◌∙◌, ◌<◌, ℕ, List, [], ◌∷◌, Option, Some, None, IsSome, sym, ap, subst}
use Rattle.sql_types.specs.declared.answer.Answer.{Answer}
use Rattle.sql_ast.specs.declared.statement.Statement.{Statement}
use Rattle.abstract_database.specs.Machine.{Block, Outside, Inside, Failed, Session, Holder, Event, opens, executes, closes, Reading, Machine, Transition, transition_to, session_of}
use Rattle.abstract_database.specs.Runs.{TheText, ReadingRelation, MayRead, IsReadAs, IsTransition, RanBy, Stops, At, Happens, MayRunOutOfMemory, MayCallStore, IsHeldBy, CommitsAt, Commits, MayCommit, IsStep, by_transition, for_memory, for_space, for_number, for_device, IsFoundAt, IsBrought, under_way_after}
use Rattle.client_laws.specs.Renumbered.{IsOneToOne, renumbered, renumbered_holder, renumbered_machine, renumbered_event, renumbered_events, renumbered_transition, renumbered_at, numbers_change_no_run}
use Rattle.client_laws.proofs.Lists.{session_so, as_many}
use Rattle.client_laws.proofs.Moving.{moves_so}

module _ (Reads : ReadingRelation) (place : ℕ → ℕ) (apart : IsOneToOne place) where
  abbrev R : ℕ → ℕ
  R = renumbered place

  abbrev pub rm : Machine → Machine
  rm = renumbered_machine place

  abbrev pub re : {T : Type 0} → Event T → Event T
  re event = renumbered_event place event

  may_read : (m : Machine) (n : ℕ) → MayRead m n → MayRead (rm m) (R n)
  may_read m n may = (may.0, subst (λ (o : Option Session). IsSome o) (sym (session_so place apart n m.sessions)) may.1)

  may_read_back : (m : Machine) (n : ℕ) → MayRead (rm m) (R n) → MayRead m n
  may_read_back m n may = (may.0, subst (λ (o : Option Session). IsSome o) (session_so place apart n m.sessions) may.1)

  read_so : (m : Machine) (event : Event TheText) (read : Event Reading) → IsReadAs Reads m event read → IsReadAs Reads (rm m) (re event) (re read)
  read_so m (opens n login) read is = ap (λ (e : Event Reading). re e) is
  read_so m (closes n) read is = ap (λ (e : Event Reading). re e) is
  read_so m (executes n text) read (reading, is, reads) = (reading, ap (λ (e : Event Reading). re e) is, λ may. reads (may_read_back m n may))

  transition_so : (m : Machine) (event : Event TheText) (t : Transition) → IsTransition Reads m event t → IsTransition Reads (rm m) (re event) (renumbered_transition place t)
  transition_so m event t is = record {
    as_read = re is.as_read;
    read = read_so m event is.as_read is.read;
    is = ap (renumbered_transition place) is.is ∙ sym (moves_so place apart m is.as_read);
  }

  call_so : (m : Machine) (event : Event TheText) → MayCallStore m event → MayCallStore (rm m) (re event)
  call_so m (opens n login) may = absurd may
  call_so m (executes n text) may = (may_read m n may.0, may.1)
  call_so m (closes n) may = absurd may

  memory_so : (m : Machine) (event : Event TheText) → MayRunOutOfMemory m event → MayRunOutOfMemory (rm m) (re event)
  memory_so m (opens n login) may =
      (may.0, session_so place apart n m.sessions ∙ may.1, subst (λ (i : ℕ). i < 256) (sym (as_many place apart n m.sessions)) may.2)
  memory_so m (executes n text) may = call_so m (executes n text) may
  memory_so m (closes n) may = absurd may

  held_so : (n : ℕ) (o : Option Holder) → IsHeldBy n o → IsHeldBy (R n) (renumbered_holder place o)
  held_so n None held = absurd held
  held_so n (Some h) held = ap R held

  commits_at : (m : Machine) (n : ℕ) (b : Block) (x : Statement) → CommitsAt m n b x → CommitsAt (rm m) (R n) b x
  commits_at m n Outside x writes = writes
  commits_at m n (Inside role) x (is, held) = (is, held_so n m.holder held)
  commits_at m n (Failed role) x never = absurd never

  commits_so : (m : Machine) (n : ℕ) (text : TheText) (o : Option Session) → Commits Reads m n text o → Commits Reads (rm m) (R n) text o
  commits_so m n text None never = absurd never
  commits_so m n text (Some s) (x, reads, at) = (x, reads, commits_at m n s.block x at)

  commit_so : (m : Machine) (event : Event TheText) → MayCommit Reads m event → MayCommit Reads (rm m) (re event)
  commit_so m (opens n login) may = absurd may
  commit_so m (closes n) may = absurd may
  commit_so m (executes n text) (on, commits) =
      (on, subst (Commits Reads (rm m) (R n) text) (sym (session_so place apart n m.sessions)) (commits_so m n text (session_of n m.sessions) commits))

  module _ (Leave : Stops) where
    abbrev pub ra : At → At
    ra w = renumbered_at place w

    pub happens_so : (w : At) (event : Event TheText) (x : Answer) (next : At) → Happens Reads Leave w event x next → Happens Reads Leave (ra w) (re event) x (ra next)
    happens_so w event x next it = by it.step it.under_way it.during where
      by : (step : IsStep Reads w.counts next.counts w.standing.machine event x next.standing.machine) → next.standing.under_way ≡ under_way_after step w.standing.under_way →
          Leave w.moment next.moment (λ db. IsFoundAt w.standing db ⊎ IsBrought step db) → Happens Reads Leave (ra w) (re event) x (ra next)
      by (by_transition is) under during = record {
        counts = it.counts;
        step = by_transition (transition_so w.standing.machine event (transition_to x next.standing.machine) is);
        under_way = under;
        later = it.later;
        during = during;
        now = it.now;
      }
      by (for_memory e kept may) under during = record {
        counts = it.counts;
        step = for_memory e (ap rm kept) (memory_so w.standing.machine event may);
        under_way = under;
        later = it.later;
        during = during;
        now = it.now;
      }
      by (for_space e kept may rises) under during = record {
        counts = it.counts;
        step = for_space e (ap rm kept) (commit_so w.standing.machine event may) rises;
        under_way = under;
        later = it.later;
        during = during;
        now = it.now;
      }
      by (for_number e kept may greatest) under during = record {
        counts = it.counts;
        step = for_number e (ap rm kept) (commit_so w.standing.machine event may) greatest;
        under_way = under;
        later = it.later;
        during = during;
        now = it.now;
      }
      by (for_device t is may e kept broke) under during = record {
        counts = it.counts;
        step = for_device (renumbered_transition place t) (transition_so w.standing.machine event t is) (call_so w.standing.machine event may) e (ap rm kept) broke;
        under_way = under;
        later = it.later;
        during = during;
        now = it.now;
      }

    abbrev pub run_so : (w end : At) (events : List (Event TheText)) (answers : List Answer) → RanBy (Happens Reads Leave) w events answers end →
        RanBy (Happens Reads Leave) (ra w) (renumbered_events place events) answers (ra end)
    run_so w end [] [] ran = ap ra ran
    run_so w end (event ∷ events) (x ∷ answers) (next, it, its) = (ra next, happens_so w event x next it, run_so next end events answers its)
    run_so w end [] (x ∷ answers) ran = absurd ran
    run_so w end (event ∷ events) [] ran = absurd ran

pub runs_so : (Reads : ReadingRelation) (Leave : Stops) → numbers_change_no_run Reads Leave
runs_so Reads Leave place apart w end events answers ran = run_so Reads place apart Leave w end events answers ran
