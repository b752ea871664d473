-- Where the laws of tenants let two answers to an own event differ.
use Rattle.std.proofs.Common.{◌≡◌, Bool, true, false, List, [], ◌∷◌, refl, sym, ◌∙◌, inl, inr}
use Rattle.sql_types.specs.declared.state.SqlState.TheVariants.{IoError}
use Rattle.sql_types.specs.declared.answer.Answer.{Answer}
use Rattle.sql_types.specs.declared.answer.Answer.TheVariants as answer
use Rattle.abstract_database.specs.Machine.{Reading, Event, Machine}
use Rattle.abstract_database.specs.Runs.{TheText, ReadingRelation, Stops, At, Happens}
use Rattle.database_laws.specs.HiddenRuns.{AreOneRefusal, answer_to, after}
use Rattle.database_laws.specs.Told.{Tenant, IsAlikeTo, Act, happens, follows, is_of, IsExceptionFor, IsToldAlike}
use Rattle.database_laws.specs.Told as machines
use Rattle.database_laws.specs.ToldStores.{is_text_of, AreRefusedAlike, IsToldAlikeBy, all_told, told_apart, refused_alone, told_alike, untold_here, untold_there, failed_here, failed_there}
use Rattle.database_laws.specs.ToldApart.{machines_part_at_exceptions, machines_part_behind_others, NoStoreGives, stores_part_at_exceptions, stores_part_behind_others, one_refusal_parts_no_machines, one_refusal_parts_no_stores}

both : (b : Bool) → b ≡ true → b ≡ false → ⊥
both b on foreign = let wrong : true ≡ false = sym on ∙ foreign in cc

-- ---- machines

own_parts : (a : Tenant) (m k : Machine) (event other : Event Reading) → is_of a (happens event) ≡ true → is_of a (happens other) ≡ true → (answer_to m event ≡ answer_to k event → ⊥) →
    IsToldAlike a m k (happens event ∷ []) (happens other ∷ []) → IsExceptionFor a m k (happens event)
own_parts a m k event other own owns differ (machines.told_apart o exception none) = exception
own_parts a m k event other own owns differ (machines.told_alike o same rest) = absurd (differ same)
own_parts a m k event other own owns differ (machines.untold_here foreign rest) = absurd (both (is_of a (happens event)) own foreign)
own_parts a m k event other own owns differ (machines.untold_there foreign rest) = absurd (both (is_of a (happens other)) owns foreign)

pub machines_part : machines_part_at_exceptions
machines_part a m k event own differ told = own_parts a m k event event own own differ told

behind : (a : Tenant) (m k : Machine) (other : Act) (event event_there : Event Reading) → is_of a other ≡ false → is_of a (happens event) ≡ true → is_of a (happens event_there) ≡ true →
    (answer_to (follows m other) event ≡ answer_to k event → ⊥) → IsToldAlike a m k (other ∷ happens event ∷ []) (happens event_there ∷ []) → IsExceptionFor a (follows m other) k (happens event)
behind a m k other event there not_own own owns differ (machines.untold_here foreign rest) = own_parts a (follows m other) k event there own owns differ rest
behind a m k other event there not_own own owns differ (machines.untold_there foreign rest) = absurd (both (is_of a (happens there)) owns foreign)
behind a m k other event there not_own own owns differ (machines.told_apart o exception none) = absurd (both (is_of a other) o not_own)
behind a m k other event there not_own own owns differ (machines.told_alike o same rest) = absurd (both (is_of a other) o not_own)

pub machines_part_behind : machines_part_behind_others
machines_part_behind a m k other event not_own own differ told = behind a m k other event event not_own own own differ told

-- an event that is refused alike
goes_on : (a : Tenant) (m k : Machine) (event other : Event Reading) (later others : List Act) → event ≡ other → is_of a (happens event) ≡ true → is_of a (happens other) ≡ true → AreOneRefusal (answer_to m event) (answer_to k event) →
    IsToldAlike a m k (happens event ∷ later) (happens other ∷ others) → IsToldAlike a (after m event) (after k event) later others
goes_on a m k event other later others same own owns one (machines.told_apart o exception none) = absurd (none one)
goes_on a m k event other later others same own owns one (machines.told_alike o answers rest) = rest
goes_on a m k event other later others same own owns one (machines.untold_here foreign rest) = absurd (both (is_of a (happens event)) own foreign)
goes_on a m k event other later others same own owns one (machines.untold_there foreign rest) = absurd (both (is_of a (happens other)) owns foreign)

pub machines_go_on : one_refusal_parts_no_machines
machines_go_on a m k event later others own one told = goes_on a m k event event later others refl own own one told

-- ---- stores

module _ (Reads : ReadingRelation) (Leave LeaveOther : Stops) (a : Tenant) where
  own_parts_by : (w v : At) (event other : Event TheText) (x y : Answer) → is_text_of a event ≡ true → is_text_of a other ≡ true → (x ≡ y → ⊥) → NoStoreGives x → NoStoreGives y →
      IsToldAlikeBy Reads Leave LeaveOther a w v (event ∷ []) (x ∷ []) (other ∷ []) (y ∷ []) → (read : Event Reading) × IsExceptionFor a w.standing.machine v.standing.machine (happens read)
  own_parts_by w v event other x y own owns differ fine good (told_apart o read is exception none) = (read, exception)
  own_parts_by w v event other x y own owns differ fine good (refused_alone next later o here there (inl p) none) = absurd (fine w.counts next.counts p)
  own_parts_by w v event other x y own owns differ fine good (refused_alone next later o here there (inr p) none) = absurd (good v.counts later.counts p)
  own_parts_by w v event other x y own owns differ fine good (told_alike next later o here there rest) = absurd (differ refl)
  own_parts_by w v event other x y own owns differ fine good (untold_here next foreign here rest) = absurd (both (is_text_of a event) own foreign)
  own_parts_by w v event other x y own owns differ fine good (untold_there later foreign here rest) = absurd (both (is_text_of a other) owns foreign)
  own_parts_by w v event other x y own owns differ fine good (failed_here foreign is) = absurd (both (is_text_of a event) own foreign)
  own_parts_by w v event other x y own owns differ fine good (failed_there foreign is) = absurd (both (is_text_of a other) owns foreign)

  abbrev Leaves : At → At → Event TheText → Answer → Answer → Type 0
  Leaves w v event x y = (next : At) × (later : At) × Happens Reads Leave w event x next × Happens Reads LeaveOther v event y later × IsAlikeTo a next.standing.machine later.standing.machine

  alike_at_end : (w v : At) → IsToldAlikeBy Reads Leave LeaveOther a w v [] [] [] [] → IsAlikeTo a w.standing.machine v.standing.machine
  alike_at_end w v (all_told st) = st

  goes_on_by : (w v : At) (event other : Event TheText) (x y : Answer) → is_text_of a event ≡ true → is_text_of a other ≡ true → AreRefusedAlike Reads event x y →
      IsToldAlikeBy Reads Leave LeaveOther a w v (event ∷ []) (x ∷ []) (other ∷ []) (y ∷ []) → Leaves w v event x y
  goes_on_by w v event other x y own owns one (told_apart o read is exception none) = absurd (none one)
  goes_on_by w v event other x y own owns one (refused_alone next later o here there place none) = absurd (none one)
  goes_on_by w v event other x y own owns one (told_alike next later o here there rest) = (next, later, here, there, alike_at_end next later rest)
  goes_on_by w v event other x y own owns one (untold_here next foreign here rest) = absurd (both (is_text_of a event) own foreign)
  goes_on_by w v event other x y own owns one (untold_there later foreign here rest) = absurd (both (is_text_of a other) owns foreign)
  goes_on_by w v event other x y own owns one (failed_here foreign is) = absurd (both (is_text_of a event) own foreign)
  goes_on_by w v event other x y own owns one (failed_there foreign is) = absurd (both (is_text_of a other) owns foreign)

  behind_by : (w v : At) (before event other : Event TheText) (z x y : Answer) → is_text_of a before ≡ false → (z ≡ answer.Refused IoError → ⊥) → is_text_of a event ≡ true → is_text_of a other ≡ true →
      (x ≡ y → ⊥) → NoStoreGives x → NoStoreGives y → IsToldAlikeBy Reads Leave LeaveOther a w v (before ∷ event ∷ []) (z ∷ x ∷ []) (other ∷ []) (y ∷ []) →
      (next : At) × Happens Reads Leave w before z next × ((read : Event Reading) × IsExceptionFor a next.standing.machine v.standing.machine (happens read))
  behind_by w v before event other z x y not_own went own owns differ fine good (untold_here next foreign here rest) = (next, here, own_parts_by next v event other x y own owns differ fine good rest)
  behind_by w v before event other z x y not_own went own owns differ fine good (told_apart o read is exception none) = absurd (both (is_text_of a before) o not_own)
  behind_by w v before event other z x y not_own went own owns differ fine good (refused_alone next later o here there place none) = absurd (both (is_text_of a before) o not_own)
  behind_by w v before event other z x y not_own went own owns differ fine good (told_alike next later o here there rest) = absurd (both (is_text_of a before) o not_own)
  behind_by w v before event other z x y not_own went own owns differ fine good (untold_there later foreign here rest) = absurd (both (is_text_of a other) owns foreign)
  behind_by w v before event other z x y not_own went own owns differ fine good (failed_here foreign is) = absurd (went is)
  behind_by w v before event other z x y not_own went own owns differ fine good (failed_there foreign is) = absurd (both (is_text_of a other) owns foreign)

pub stores_part : (Reads : ReadingRelation) (Leave LeaveOther : Stops) → stores_part_at_exceptions Reads Leave LeaveOther
stores_part Reads Leave LeaveOther a w v event x y own differ fine good told = own_parts_by Reads Leave LeaveOther a w v event event x y own own differ fine good told

pub stores_part_behind : (Reads : ReadingRelation) (Leave LeaveOther : Stops) → stores_part_behind_others Reads Leave LeaveOther
stores_part_behind Reads Leave LeaveOther a w v other event z x y not_own went own differ fine good told =
    behind_by Reads Leave LeaveOther a w v other event event z x y not_own went own own differ fine good told

pub stores_go_on : (Reads : ReadingRelation) (Leave LeaveOther : Stops) → one_refusal_parts_no_stores Reads Leave LeaveOther
stores_go_on Reads Leave LeaveOther a w v event x y own one told = goes_on_by Reads Leave LeaveOther a w v event event x y own own one told
