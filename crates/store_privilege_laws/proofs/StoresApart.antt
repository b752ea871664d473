-- Where the law of related stores lets two answers to an own event differ.
use Rattle.std.proofs.Common.{◌≡◌, Bool, true, false, [], ◌∷◌, refl, sym, ◌∙◌, inl, inr}
use Rattle.sql_types.specs.declared.state.SqlState.TheVariants.{IoError}
use Rattle.sql_types.specs.declared.answer.Answer.{Answer}
use Rattle.sql_types.specs.declared.answer.Answer.TheVariants as answer
use Rattle.abstract_database.specs.Machine.{Event, Reading}
use Rattle.abstract_database.specs.Runs.{TheText, ReadingRelation, IsReadAs, Stops, At, Happens}
use Rattle.database_laws.specs.Told.{Tenant, happens}
use Rattle.database_laws.specs.ToldApart.{NoStoreGives}
use Rattle.database_laws.specs.ToldStores.{is_text_of}
use Rattle.privilege_laws.specs.Related.{Relation, Telling, MayPart}
use Rattle.store_privilege_laws.specs.RelatedStores.{IsToldRelatedBy, told_apart, refused_alone, told_alike, untold_here, untold_there, failed_here, failed_there, StoresPartWhereTold, StoresPartBehindOthers}

both : (b : Bool) → b ≡ true → b ≡ false → ⊥
both b on foreign = let wrong : true ≡ false = sym on ∙ foreign in cc

module _ (Reads : ReadingRelation) (Leave LeaveOther : Stops) (R : Relation) (T : Telling) (a : Tenant) where
  abbrev Parts : At → At → Event TheText → Type 0
  Parts w v event = (read : Event Reading) × IsReadAs Reads w.standing.machine event read × MayPart T a w.standing.machine v.standing.machine (happens read)

  own_parts : (w v : At) (event other : Event TheText) (x y : Answer) → is_text_of a event ≡ true → is_text_of a other ≡ true → (x ≡ y → ⊥) → NoStoreGives x → NoStoreGives y →
      IsToldRelatedBy Reads Leave LeaveOther R T a w v (event ∷ []) (x ∷ []) (other ∷ []) (y ∷ []) → Parts w v event
  own_parts w v event other x y own owns differ fine good (told_apart o read is exception none) = (read, is, exception)
  own_parts w v event other x y own owns differ fine good (refused_alone next later o here there (inl p) none) = absurd (fine w.counts next.counts p)
  own_parts w v event other x y own owns differ fine good (refused_alone next later o here there (inr p) none) = absurd (good v.counts later.counts p)
  own_parts w v event other x y own owns differ fine good (told_alike next later o here there rest) = absurd (differ refl)
  own_parts w v event other x y own owns differ fine good (untold_here next foreign here rest) = absurd (both (is_text_of a event) own foreign)
  own_parts w v event other x y own owns differ fine good (untold_there later foreign here rest) = absurd (both (is_text_of a other) owns foreign)
  own_parts w v event other x y own owns differ fine good (failed_here foreign is) = absurd (both (is_text_of a event) own foreign)
  own_parts w v event other x y own owns differ fine good (failed_there foreign is) = absurd (both (is_text_of a other) owns foreign)

  behind : (w v : At) (before event other : Event TheText) (z x y : Answer) → is_text_of a before ≡ false → (z ≡ answer.Refused IoError → ⊥) → is_text_of a event ≡ true → is_text_of a other ≡ true →
      (x ≡ y → ⊥) → NoStoreGives x → NoStoreGives y → IsToldRelatedBy Reads Leave LeaveOther R T a w v (before ∷ event ∷ []) (z ∷ x ∷ []) (other ∷ []) (y ∷ []) →
      (next : At) × Happens Reads Leave w before z next × Parts next v event
  behind w v before event other z x y not_own went own owns differ fine good (untold_here next foreign here rest) = (next, here, own_parts next v event other x y own owns differ fine good rest)
  behind w v before event other z x y not_own went own owns differ fine good (told_apart o read is exception none) = absurd (both (is_text_of a before) o not_own)
  behind w v before event other z x y not_own went own owns differ fine good (refused_alone next later o here there place none) = absurd (both (is_text_of a before) o not_own)
  behind w v before event other z x y not_own went own owns differ fine good (told_alike next later o here there rest) = absurd (both (is_text_of a before) o not_own)
  behind w v before event other z x y not_own went own owns differ fine good (untold_there later foreign here rest) = absurd (both (is_text_of a other) owns foreign)
  behind w v before event other z x y not_own went own owns differ fine good (failed_here foreign is) = absurd (went is)
  behind w v before event other z x y not_own went own owns differ fine good (failed_there foreign is) = absurd (both (is_text_of a other) owns foreign)

pub stores_part : (R : Tenant → Relation) (T : Telling) (Reads : ReadingRelation) (Leave LeaveOther : Stops) → StoresPartWhereTold R T Reads Leave LeaveOther
stores_part R T Reads Leave LeaveOther a w v event x y own differ fine good told = own_parts Reads Leave LeaveOther (R a) T a w v event event x y own own differ fine good told

pub stores_part_behind : (R : Tenant → Relation) (T : Telling) (Reads : ReadingRelation) (Leave LeaveOther : Stops) → StoresPartBehindOthers R T Reads Leave LeaveOther
stores_part_behind R T Reads Leave LeaveOther a w v other event z x y not_own went own differ fine good told =
    behind Reads Leave LeaveOther (R a) T a w v other event event z x y not_own went own own differ fine good told
