-- What a tenant is told by two servers, each over a store of its own, with whatever others do out of its sight.
use Rattle.std.specs.Prelude.{◌≡◌, ◌⊎◌, Bool, true, false, List, [], ◌∷◌, filter, Err}
use Rattle.sql_types.specs.declared.state.SqlState.{SqlState}
use Rattle.sql_types.specs.declared.state.SqlState.TheVariants.{IoError}
use Rattle.sql_types.specs.declared.answer.Answer.{Answer}
use Rattle.sql_types.specs.declared.answer.Answer.TheVariants as answer
use Rattle.abstract_database.specs.Roles.{may_log_in}
use Rattle.abstract_database.specs.Machine.{Event, opens, executes, closes, Reading, Machine}
use Rattle.abstract_database.specs.Runs.{TheText, ReadingRelation, IsReadAs, RanBy, Stops, At, Happens}
use Rattle.database_laws.specs.Codes.{is_of_stores}
use Rattle.database_laws.specs.HiddenRuns.{SameApparentRowsForPairs, as_itself, AreSound, IsInPlace}
use Rattle.database_laws.specs.Runs.{ReadsOnce}
use Rattle.database_laws.specs.Sessions.{number_of}
use Rattle.database_laws.specs.Told.{Tenant, IsAlikeTo, happens, IsExceptionFor}

abbrev pub is_text_of : Tenant → Event TheText → Bool
is_text_of a event = a.sessions (number_of event)

-- the events of the tenant's sessions, as texts
abbrev pub own_texts : Tenant → List (Event TheText) → List (Event TheText)
own_texts a events = filter (is_text_of a) events

-- the tenant opens its sessions for its own login roles alone, but for attempts that are refused
abbrev pub OpensAsOwn : Tenant → Machine → Event TheText → Type 0
OpensAsOwn a m (opens number login) = may_log_in m.committed login ≡ true → a.pairs (as_itself login) ≡ true
OpensAsOwn a m (executes number text) = Unit {0}
OpensAsOwn a m (closes number) = Unit {0}

-- in a run each event of another leaves what is committed as it looks to all that the tenant may act as
abbrev pub KeepOutOfSight : (Reads : ReadingRelation) (Leave : Stops) → Tenant → (w end : At) (events : List (Event TheText)) (answers : List Answer) → RanBy (Happens Reads Leave) w events answers end → Type 0
KeepOutOfSight Reads Leave a w end [] [] ran = Unit {0}
KeepOutOfSight Reads Leave a w end (event ∷ events) (x ∷ answers) ran =
    ((is_text_of a event ≡ true → OpensAsOwn a w.standing.machine event) × (is_text_of a event ≡ false → SameApparentRowsForPairs a.pairs w.standing.machine.committed ran.0.standing.machine.committed))
    × KeepOutOfSight Reads Leave a ran.0 end events answers ran.2
KeepOutOfSight Reads Leave a w end [] (x ∷ answers) ran = Unit {0}
KeepOutOfSight Reads Leave a w end (event ∷ events) [] ran = Unit {0}

-- the text of the event is read as the refusal with this code
abbrev pub IsReadAsCode : ReadingRelation → Event TheText → SqlState → Type 0
IsReadAsCode Reads (opens number login) code = ⊥
IsReadAsCode Reads (executes number text) code = Reads text (Err code)
IsReadAsCode Reads (closes number) code = ⊥

-- both answers are one refusal; and the text is not read as it, if it is for memory, for space or of the device
abbrev pub AreRefusedAlike : ReadingRelation → Event TheText → Answer → Answer → Type 0
AreRefusedAlike Reads event x y = (code : SqlState) × (x ≡ answer.Refused code) × (y ≡ answer.Refused code) × (is_of_stores code ≡ true → IsReadAsCode Reads event code → ⊥)

-- the answers to the tenant's own events are the same, up to the first exception, to the first own event that a store refuses in
-- place of the machine, or to the first failure of a device under an event of another. What both refuse alike ends nothing
pub data IsToldAlikeBy (Reads : ReadingRelation) (Leave LeaveOther : Stops) (a : Tenant) : At → At → List (Event TheText) → List Answer → List (Event TheText) → List Answer → Type 0 where
  all_told : {w v : At} → IsAlikeTo a w.standing.machine v.standing.machine → IsToldAlikeBy Reads Leave LeaveOther a w v [] [] [] []
  told_apart : {w v : At} {event : Event TheText} {events others : List (Event TheText)} {x y : Answer} {answers told : List Answer} → is_text_of a event ≡ true → (read : Event Reading) →
      IsReadAs Reads w.standing.machine event read → IsExceptionFor a w.standing.machine v.standing.machine (happens read) → (AreRefusedAlike Reads event x y → ⊥) → IsToldAlikeBy Reads Leave LeaveOther a w v (event ∷ events) (x ∷ answers) (event ∷ others) (y ∷ told)
  refused_alone : (next later : At) {w v : At} {event : Event TheText} {events others : List (Event TheText)} {x y : Answer} {answers told : List Answer} → is_text_of a event ≡ true →
      Happens Reads Leave w event x next → Happens Reads LeaveOther v event y later → IsInPlace w.counts next.counts x ⊎ IsInPlace v.counts later.counts y → (AreRefusedAlike Reads event x y → ⊥) → IsToldAlikeBy Reads Leave LeaveOther a w v (event ∷ events) (x ∷ answers) (event ∷ others) (y ∷ told)
  told_alike : (next later : At) {w v : At} {event : Event TheText} {events others : List (Event TheText)} {x : Answer} {answers told : List Answer} → is_text_of a event ≡ true →
      Happens Reads Leave w event x next → Happens Reads LeaveOther v event x later → IsToldAlikeBy Reads Leave LeaveOther a next later events answers others told → IsToldAlikeBy Reads Leave LeaveOther a w v (event ∷ events) (x ∷ answers) (event ∷ others) (x ∷ told)
  untold_here : (next : At) {w v : At} {event : Event TheText} {events others : List (Event TheText)} {x : Answer} {answers told : List Answer} → is_text_of a event ≡ false →
      Happens Reads Leave w event x next → IsToldAlikeBy Reads Leave LeaveOther a next v events answers others told → IsToldAlikeBy Reads Leave LeaveOther a w v (event ∷ events) (x ∷ answers) others told
  untold_there : (later : At) {w v : At} {event : Event TheText} {events others : List (Event TheText)} {x : Answer} {answers told : List Answer} → is_text_of a event ≡ false →
      Happens Reads LeaveOther v event x later → IsToldAlikeBy Reads Leave LeaveOther a w later events answers others told → IsToldAlikeBy Reads Leave LeaveOther a w v events answers (event ∷ others) (x ∷ told)
  failed_here : {w v : At} {event : Event TheText} {events others : List (Event TheText)} {x : Answer} {answers told : List Answer} → is_text_of a event ≡ false → x ≡ answer.Refused IoError →
      IsToldAlikeBy Reads Leave LeaveOther a w v (event ∷ events) (x ∷ answers) others told
  failed_there : {w v : At} {event : Event TheText} {events others : List (Event TheText)} {x : Answer} {answers told : List Answer} → is_text_of a event ≡ false → x ≡ answer.Refused IoError →
      IsToldAlikeBy Reads Leave LeaveOther a w v events answers (event ∷ others) (x ∷ told)

-- two servers over stores of their own, of which the tenant asks the same, tell it the same
abbrev pub what_stores_tell_a_tenant : ReadingRelation → Stops → Stops → Type 0
what_stores_tell_a_tenant Reads Leave LeaveOther = ReadsOnce Reads → (a : Tenant) (w v end other_end : At) (events others : List (Event TheText)) (answers told : List Answer) →
    IsAlikeTo a w.standing.machine v.standing.machine → AreSound w.standing.machine → AreSound v.standing.machine →
    (ran : RanBy (Happens Reads Leave) w events answers end) (ran_there : RanBy (Happens Reads LeaveOther) v others told other_end) →
    KeepOutOfSight Reads Leave a w end events answers ran → KeepOutOfSight Reads LeaveOther a v other_end others told ran_there → own_texts a events ≡ own_texts a others →
    IsToldAlikeBy Reads Leave LeaveOther a w v events answers others told

-- ---- one event

-- one own event over two stores: an exception, or refused by a store in place of the machine, and not refused alike by both; or
-- answered the same, and such that the machines are alike to the tenant again
pub data GoesAlike (Reads : ReadingRelation) (a : Tenant) (w v next later : At) (event : Event TheText) (x y : Answer) : Type 0 where
  goes_apart : (read : Event Reading) → IsReadAs Reads w.standing.machine event read → IsExceptionFor a w.standing.machine v.standing.machine (happens read) → (AreRefusedAlike Reads event x y → ⊥) → GoesAlike Reads a w v next later event x y
  goes_refused : IsInPlace w.counts next.counts x ⊎ IsInPlace v.counts later.counts y → (AreRefusedAlike Reads event x y → ⊥) → GoesAlike Reads a w v next later event x y
  goes_on : x ≡ y → IsAlikeTo a next.standing.machine later.standing.machine → GoesAlike Reads a w v next later event x y

-- so goes each own event
abbrev pub own_events_go_alike : ReadingRelation → Stops → Stops → Type 0
own_events_go_alike Reads Leave LeaveOther = ReadsOnce Reads → (a : Tenant) (w v next later : At) (event : Event TheText) (x y : Answer) →
    IsAlikeTo a w.standing.machine v.standing.machine → AreSound w.standing.machine → AreSound v.standing.machine → is_text_of a event ≡ true → OpensAsOwn a w.standing.machine event →
    Happens Reads Leave w event x next → Happens Reads LeaveOther v event y later → GoesAlike Reads a w v next later event x y

-- an event of another, out of sight of all that the tenant acts as, leaves the machines alike to it, or the device of its store has failed
abbrev pub others_go_unseen : ReadingRelation → Stops → Type 0
others_go_unseen Reads Leave = ReadsOnce Reads → (a : Tenant) (w v next : At) (event : Event TheText) (x : Answer) → IsAlikeTo a w.standing.machine v.standing.machine → AreSound w.standing.machine →
    is_text_of a event ≡ false → SameApparentRowsForPairs a.pairs w.standing.machine.committed next.standing.machine.committed →
    Happens Reads Leave w event x next → IsAlikeTo a next.standing.machine v.standing.machine ⊎ (x ≡ answer.Refused IoError)
