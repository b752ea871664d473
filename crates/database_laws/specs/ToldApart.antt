-- What the laws of tenants forbid: two different answers to an own event, but at one of the exceptions.
use Rattle.std.specs.Prelude.{◌≡◌, true, false, List, [], ◌∷◌}
use Rattle.sql_types.specs.declared.state.SqlState.TheVariants.{IoError}
use Rattle.sql_types.specs.declared.answer.Answer.{Answer}
use Rattle.sql_types.specs.declared.answer.Answer.TheVariants as answer
use Rattle.abstract_database.specs.Machine.{Event, Reading, Machine}
use Rattle.abstract_database.specs.Runs.{TheText, ReadingRelation, Counts, Stops, At, Happens}
use Rattle.database_laws.specs.HiddenRuns.{IsInPlace, AreOneRefusal, answer_to, after}
use Rattle.database_laws.specs.Told.{Tenant, IsAlikeTo, Act, happens, follows, is_of, IsExceptionFor, IsToldAlike}
use Rattle.database_laws.specs.ToldStores.{is_text_of, AreRefusedAlike, IsToldAlikeBy}

-- ---- machines

-- an own event that is answered differently over two machines is told alike only at an exception of these machines
abbrev pub machines_part_at_exceptions : Type 0
machines_part_at_exceptions = (a : Tenant) (m k : Machine) (event : Event Reading) → is_of a (happens event) ≡ true → (answer_to m event ≡ answer_to k event → ⊥) →
    IsToldAlike a m k (happens event ∷ []) (happens event ∷ []) → IsExceptionFor a m k (happens event)

-- and behind an act of another only at an exception of the machine that this act left
abbrev pub machines_part_behind_others : Type 0
machines_part_behind_others = (a : Tenant) (m k : Machine) (other : Act) (event : Event Reading) → is_of a other ≡ false → is_of a (happens event) ≡ true →
    (answer_to (follows m other) event ≡ answer_to k event → ⊥) → IsToldAlike a m k (other ∷ happens event ∷ []) (happens event ∷ []) → IsExceptionFor a (follows m other) k (happens event)

-- an own event that both refuse alike is no exception: the law goes on behind it
abbrev pub one_refusal_parts_no_machines : Type 0
one_refusal_parts_no_machines = (a : Tenant) (m k : Machine) (event : Event Reading) (later others : List Act) → is_of a (happens event) ≡ true → AreOneRefusal (answer_to m event) (answer_to k event) →
    IsToldAlike a m k (happens event ∷ later) (happens event ∷ others) → IsToldAlike a (after m event) (after k event) later others

-- ---- stores

-- no store gives the answer in place of the machine's
abbrev pub NoStoreGives : Answer → Type 0
NoStoreGives x = (old new : Counts) → IsInPlace old new x → ⊥

abbrev pub stores_part_at_exceptions : ReadingRelation → Stops → Stops → Type 0
stores_part_at_exceptions Reads Leave LeaveOther = (a : Tenant) (w v : At) (event : Event TheText) (x y : Answer) → is_text_of a event ≡ true → (x ≡ y → ⊥) → NoStoreGives x → NoStoreGives y →
    IsToldAlikeBy Reads Leave LeaveOther a w v (event ∷ []) (x ∷ []) (event ∷ []) (y ∷ []) →
    (read : Event Reading) × IsExceptionFor a w.standing.machine v.standing.machine (happens read)

abbrev pub stores_part_behind_others : ReadingRelation → Stops → Stops → Type 0
stores_part_behind_others Reads Leave LeaveOther = (a : Tenant) (w v : At) (other event : Event TheText) (z x y : Answer) → is_text_of a other ≡ false → (z ≡ answer.Refused IoError → ⊥) →
    is_text_of a event ≡ true → (x ≡ y → ⊥) → NoStoreGives x → NoStoreGives y →
    IsToldAlikeBy Reads Leave LeaveOther a w v (other ∷ event ∷ []) (z ∷ x ∷ []) (event ∷ []) (y ∷ []) →
    (next : At) × Happens Reads Leave w other z next × ((read : Event Reading) × IsExceptionFor a next.standing.machine v.standing.machine (happens read))

-- an own event that both refuse alike leaves the machines alike to the tenant
abbrev pub one_refusal_parts_no_stores : ReadingRelation → Stops → Stops → Type 0
one_refusal_parts_no_stores Reads Leave LeaveOther = (a : Tenant) (w v : At) (event : Event TheText) (x y : Answer) → is_text_of a event ≡ true → AreRefusedAlike Reads event x y →
    IsToldAlikeBy Reads Leave LeaveOther a w v (event ∷ []) (x ∷ []) (event ∷ []) (y ∷ []) →
    (next : At) × (later : At) × Happens Reads Leave w event x next × Happens Reads LeaveOther v event y later × IsAlikeTo a next.standing.machine later.standing.machine
