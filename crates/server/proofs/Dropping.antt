-- A server stands where it stands, whether its last step may have dropped a role or not; and sessions for roles that are lacked.
use Rattle.std.proofs.Common.{◌≡◌, ◌∙◌, ◌||◌, ◌+◌, ℕ, zero, suc, Bool, true, false, List, [], ◌∷◌, take, Option, Some, None, Result, Ok, Err, is_some, refl, sym, ap, add-one}
use Rattle.std.specs.Prelude.{slice_get}
use Rattle.std.specs.List.{list_any}
use Rattle.sql_types.specs.declared.answer.Answer.{Answer}
use Rattle.sql_types.specs.declared.event.Event.{Event}
use Rattle.store.specs.Store.{StoreState}
use Rattle.store.specs.declared.fault.StoreFault.{StoreFault}
use Rattle.store.specs.declared.fault.StoreFault.TheVariants.{Memory, Full, Number, Device}
use Rattle.abstract_database.specs.Database.{Database}
use Rattle.abstract_database.specs.Machine.{Holder}
use Rattle.abstract_database.specs.Runs.{ReadingRelation, At}
use Rattle.stored_database.specs.Definitions.{Definitions}
use Rattle.server.specs.declared.decision.Decision.{Decision}
use Rattle.server.specs.declared.server.Server.{Server}
use Rattle.server.specs.declared.writer.Writer.{Writer}
use Rattle.server.specs.Standing.{Works, Represents}
use Rattle.server.specs.Runs.{Steps}
use Rattle.server.specs.Writers.{definitions_or, definitions_under, changes_definitions}
use Rattle.server.specs.Attempts.{after_attempt}
use Rattle.server.specs.Decisions.{Carries}
use Rattle.server.specs.Dropped.{KeepsDefinitions}

-- ---- where a server stands

module _ {S X : Type 0} (Reads : ReadingRelation) (state : S → StoreState) (server : Server S X) (b : Bool) where
  abbrev told : Server S X
  told = record server { may_have_dropped = b }

  works_told : (db : Database) (holder : Option Holder) → Works state server db holder → Works state told db holder
  works_told db holder w = record { unfailed = w.unfailed; second = w.second; committed = w.committed; held = w.held; in_block = w.in_block }

  stands_told : (w : At) → Represents state server w → Represents state told w
  stands_told w at = record {
    moment = at.moment;
    counts = at.counts;
    sessions = at.sessions;
    stopped = at.stopped;
    works = λ runs. (let it = at.works runs in (it.0, works_told w.standing.machine.committed w.standing.machine.holder it.1));
    left = at.left;
  }

  -- a step from there
  pub steps_from : (c : ℕ) (e : Event) (a : Answer) (new : Server S X) → Steps Reads state c told e a new → Steps Reads state c server e a new
  steps_from c e a new made sound w at = made sound w (stands_told w at)

  -- and a step to there
  pub steps_to : (c : ℕ) (old : Server S X) (e : Event) (a : Answer) → Steps Reads state c old e a server → Steps Reads state c old e a told
  steps_to c old e a made sound w at = let led = made sound w at in (led.0, stands_told led.0 led.1, led.2, led.3)

  pub carries_from : (new : Server S X) (what : Decision) (r : Result Answer StoreFault) → Carries Reads state told new what r → Carries Reads state server new what r
  carries_from new what r it sound runs db holder e w decides = it sound runs db holder e (works_told db holder w) decides

-- ---- definitions

pub attempt_keeps : {S X : Type 0} (old tried : Server S X) (r : Result Answer StoreFault) → KeepsDefinitions old tried → KeepsDefinitions old (after_attempt r tried)
attempt_keeps old tried (Ok a) keeps = keeps
attempt_keeps old tried (Err Memory) keeps = keeps
attempt_keeps old tried (Err Full) keeps = keeps
attempt_keeps old tried (Err Number) keeps = keeps
attempt_keeps old tried (Err Device) keeps = keeps

same_or : (next : Option Definitions) (d : Definitions) → is_some next ≡ false → definitions_or next d ≡ d
same_or None d is = refl
same_or (Some after) d is = absurd (cc)

-- a session that holds the lock and has changed none
pub same_under : (writer : Option Writer) (d : Definitions) → changes_definitions writer ≡ false → definitions_under writer d ≡ d
same_under None d is = refl
same_under (Some writer) d is = same_or writer.catalogue d is

-- ---- one after the other

or_first : (a b : Bool) → (a || b) ≡ false → a ≡ false
or_first true b is = is
or_first false b is = refl

or_second : (a b : Bool) → (a || b) ≡ false → b ≡ false
or_second true b is = absurd (cc)
or_second false b is = is

neither : (a b : Bool) → a ≡ false → b ≡ false → (a || b) ≡ false
neither true b first second = absurd (cc)
neither false b first second = second

module _ {A : Type 0} (test : A → Bool) where
  none_next : (xs : List A) (i : ℕ) (x : A) → slice_get xs i ≡ Some x → test x ≡ false → list_any test (take i xs) ≡ false → list_any test (take (suc i) xs) ≡ false
  none_next [] i x is fails none = cc
  none_next (y ∷ ys) zero x is fails none = let same : y ≡ x = cc in neither (test y) false (ap test same ∙ fails) refl
  none_next (y ∷ ys) (suc i) x is fails none =
      neither (test y) (list_any test (take (suc i) ys)) (or_first (test y) (list_any test (take i ys)) none) (none_next ys i x is fails (or_second (test y) (list_any test (take i ys)) none))

  -- none up to one that fails, and none up to the next
  pub none_more : (xs : List A) (i : ℕ) (x : A) → slice_get xs i ≡ Some x → test x ≡ false → list_any test (take i xs) ≡ false → list_any test (take (i + 1) xs) ≡ false
  none_more xs i x is fails none = rw (add-one i) (none_next xs i x is fails none)

  -- one that passes
  pub one_passes : (xs : List A) (i : ℕ) (x : A) → slice_get xs i ≡ Some x → test x ≡ true → list_any test xs ≡ true
  one_passes [] i x is passes = cc
  one_passes (y ∷ ys) zero x is passes = let same : y ≡ x = cc in ap (λ (b : Bool). b || list_any test ys) (ap test same ∙ passes)
  one_passes (y ∷ ys) (suc i) x is passes = or_later (test y) (list_any test ys) (one_passes ys i x is passes)
    where
      or_later : (a b : Bool) → b ≡ true → (a || b) ≡ true
      or_later true b is = refl
      or_later false b is = is
