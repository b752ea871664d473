-- What a tenant is told by two servers, each over a store of its own, over databases that it is not to tell apart, by whatever relation.
use Rattle.std.specs.Prelude.{◌≡◌, ◌⊎◌, true, false, List, [], ◌∷◌}
use Rattle.sql_types.specs.declared.state.SqlState.TheVariants.{IoError}
use Rattle.sql_types.specs.declared.answer.Answer.{Answer}
use Rattle.sql_types.specs.declared.answer.Answer.TheVariants as answer
use Rattle.abstract_database.specs.Machine.{Event, Reading}
use Rattle.abstract_database.specs.Runs.{TheText, ReadingRelation, IsReadAs, RanBy, Stops, At, Happens}
use Rattle.database_laws.specs.HiddenRuns.{AreSound, IsInPlace}
use Rattle.database_laws.specs.Runs.{ReadsOnce}
use Rattle.database_laws.specs.Told.{Tenant, happens}
use Rattle.database_laws.specs.ToldApart.{NoStoreGives}
use Rattle.database_laws.specs.ToldStores.{is_text_of, own_texts, OpensAsOwn, AreRefusedAlike}
use Rattle.privilege_laws.specs.Related.{Relation, Telling, MachinesRelated, MayPart}

-- in a run each event of another leaves what is committed related to what was
abbrev pub KeepRelated : (Reads : ReadingRelation) (Leave : Stops) → Relation → Tenant → (w end : At) (events : List (Event TheText)) (answers : List Answer) → RanBy (Happens Reads Leave) w events answers end → Type 0
KeepRelated Reads Leave R a w end [] [] ran = Unit {0}
KeepRelated Reads Leave R a w end (event ∷ events) (x ∷ answers) ran =
    ((is_text_of a event ≡ true → OpensAsOwn a w.standing.machine event) × (is_text_of a event ≡ false → R w.standing.machine.committed ran.0.standing.machine.committed))
    × KeepRelated Reads Leave R a ran.0 end events answers ran.2
KeepRelated Reads Leave R a w end [] (x ∷ answers) ran = Unit {0}
KeepRelated Reads Leave R a w end (event ∷ events) [] ran = Unit {0}

-- the answers to the tenant's own events are the same, up to the first that may be answered differently, to the first own event that a store
-- refuses in place of the machine, or to the first failure of a device under an event of another. What both refuse alike ends nothing
pub data IsToldRelatedBy (Reads : ReadingRelation) (Leave LeaveOther : Stops) (R : Relation) (T : Telling) (a : Tenant) : At → At → List (Event TheText) → List Answer → List (Event TheText) → List Answer → Type 0 where
  all_told : {w v : At} → MachinesRelated R a w.standing.machine v.standing.machine → IsToldRelatedBy Reads Leave LeaveOther R T a w v [] [] [] []
  told_apart : {w v : At} {event : Event TheText} {events others : List (Event TheText)} {x y : Answer} {answers told : List Answer} → is_text_of a event ≡ true → (read : Event Reading) →
      IsReadAs Reads w.standing.machine event read → MayPart T a w.standing.machine v.standing.machine (happens read) → (AreRefusedAlike Reads event x y → ⊥) → IsToldRelatedBy Reads Leave LeaveOther R T a w v (event ∷ events) (x ∷ answers) (event ∷ others) (y ∷ told)
  refused_alone : (next later : At) {w v : At} {event : Event TheText} {events others : List (Event TheText)} {x y : Answer} {answers told : List Answer} → is_text_of a event ≡ true →
      Happens Reads Leave w event x next → Happens Reads LeaveOther v event y later → IsInPlace w.counts next.counts x ⊎ IsInPlace v.counts later.counts y → (AreRefusedAlike Reads event x y → ⊥) → IsToldRelatedBy Reads Leave LeaveOther R T a w v (event ∷ events) (x ∷ answers) (event ∷ others) (y ∷ told)
  told_alike : (next later : At) {w v : At} {event : Event TheText} {events others : List (Event TheText)} {x : Answer} {answers told : List Answer} → is_text_of a event ≡ true →
      Happens Reads Leave w event x next → Happens Reads LeaveOther v event x later → IsToldRelatedBy Reads Leave LeaveOther R T a next later events answers others told → IsToldRelatedBy Reads Leave LeaveOther R T a w v (event ∷ events) (x ∷ answers) (event ∷ others) (x ∷ told)
  untold_here : (next : At) {w v : At} {event : Event TheText} {events others : List (Event TheText)} {x : Answer} {answers told : List Answer} → is_text_of a event ≡ false →
      Happens Reads Leave w event x next → IsToldRelatedBy Reads Leave LeaveOther R T a next v events answers others told → IsToldRelatedBy Reads Leave LeaveOther R T a w v (event ∷ events) (x ∷ answers) others told
  untold_there : (later : At) {w v : At} {event : Event TheText} {events others : List (Event TheText)} {x : Answer} {answers told : List Answer} → is_text_of a event ≡ false →
      Happens Reads LeaveOther v event x later → IsToldRelatedBy Reads Leave LeaveOther R T a w later events answers others told → IsToldRelatedBy Reads Leave LeaveOther R T a w v events answers (event ∷ others) (x ∷ told)
  failed_here : {w v : At} {event : Event TheText} {events others : List (Event TheText)} {x : Answer} {answers told : List Answer} → is_text_of a event ≡ false → x ≡ answer.Refused IoError →
      IsToldRelatedBy Reads Leave LeaveOther R T a w v (event ∷ events) (x ∷ answers) others told
  failed_there : {w v : At} {event : Event TheText} {events others : List (Event TheText)} {x : Answer} {answers told : List Answer} → is_text_of a event ≡ false → x ≡ answer.Refused IoError →
      IsToldRelatedBy Reads Leave LeaveOther R T a w v events answers (event ∷ others) (x ∷ told)

-- two servers over stores of their own, of which the tenant asks the same, tell it the same
abbrev pub StoresTellRelated : (Tenant → Relation) → Telling → ReadingRelation → Stops → Stops → Type 0
StoresTellRelated R T Reads Leave LeaveOther = ReadsOnce Reads → (a : Tenant) (w v end other_end : At) (events others : List (Event TheText)) (answers told : List Answer) →
    MachinesRelated (R a) a w.standing.machine v.standing.machine → AreSound w.standing.machine → AreSound v.standing.machine →
    (ran : RanBy (Happens Reads Leave) w events answers end) (ran_there : RanBy (Happens Reads LeaveOther) v others told other_end) →
    KeepRelated Reads Leave (R a) a w end events answers ran → KeepRelated Reads LeaveOther (R a) a v other_end others told ran_there → own_texts a events ≡ own_texts a others →
    IsToldRelatedBy Reads Leave LeaveOther (R a) T a w v events answers others told

-- ---- what that forbids

-- two different answers to an own event that no store gives in place of the machine's are told alike only where the event may part
abbrev pub StoresPartWhereTold : (Tenant → Relation) → Telling → ReadingRelation → Stops → Stops → Type 0
StoresPartWhereTold R T Reads Leave LeaveOther = (a : Tenant) (w v : At) (event : Event TheText) (x y : Answer) → is_text_of a event ≡ true → (x ≡ y → ⊥) → NoStoreGives x → NoStoreGives y →
    IsToldRelatedBy Reads Leave LeaveOther (R a) T a w v (event ∷ []) (x ∷ []) (event ∷ []) (y ∷ []) →
    (read : Event Reading) × IsReadAs Reads w.standing.machine event read × MayPart T a w.standing.machine v.standing.machine (happens read)

-- and behind an event of another, only where the machine that this event left makes it
abbrev pub StoresPartBehindOthers : (Tenant → Relation) → Telling → ReadingRelation → Stops → Stops → Type 0
StoresPartBehindOthers R T Reads Leave LeaveOther = (a : Tenant) (w v : At) (other event : Event TheText) (z x y : Answer) → is_text_of a other ≡ false → (z ≡ answer.Refused IoError → ⊥) →
    is_text_of a event ≡ true → (x ≡ y → ⊥) → NoStoreGives x → NoStoreGives y →
    IsToldRelatedBy Reads Leave LeaveOther (R a) T a w v (other ∷ event ∷ []) (z ∷ x ∷ []) (event ∷ []) (y ∷ []) →
    (next : At) × Happens Reads Leave w other z next × ((read : Event Reading) × IsReadAs Reads next.standing.machine event read × MayPart T a next.standing.machine v.standing.machine (happens read))
