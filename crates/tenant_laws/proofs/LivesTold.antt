-- Lives of two databases of which a tenant asks the same: it is told alike, by induction over the lives.
use Rattle.std.proofs.Common.{◌≡◌, ◌⊎◌, Bool, true, false, cond, List, [], ◌∷◌, Option, IsSome, refl, sym, ap, ◌∙◌, subst, inl, inr}
use Rattle.sql_types.specs.declared.answer.Answer.{Answer}
use Rattle.sql_types.specs.declared.answer.Answer.TheVariants as answer
use Rattle.sql_types.specs.declared.state.SqlState.TheVariants.{IoError}
use Rattle.abstract_database.specs.Database.{Database}
use Rattle.abstract_database.specs.Machine.{Session, Event, opens, executes, closes, Reading, Machine, Transition, transition_to, machine_over, transition}
use Rattle.abstract_database.specs.Runs.{TheText, ReadingRelation, IsReadAs, IsTransition, RanBy, Counts, Standing, Stops, At, Happens, IsStep, IsBrought, by_transition, for_device}
use Rattle.abstract_database.specs.Runs as step
use Rattle.database_laws.specs.Runs.{ReadsOnce}
use Rattle.database_laws.specs.Sessions.{number_of}
use Rattle.database_laws.specs.Blocks.{IsCommittedAt}
use Rattle.database_laws.specs.Invariants.{IsSound}
use Rattle.database_laws.specs.HiddenRuns.{SameApparentRowsForPairs, AreSound, after}
use Rattle.database_laws.specs.Told.{Tenant, IsAlikeTo, happens, declares, OpensItsOwn, IsExceptionFor}
use Rattle.database_laws.specs.ToldStores.{is_text_of, own_texts, OpensAsOwn, KeepOutOfSight, IsToldAlikeBy, all_told, told_apart, refused_alone, told_alike, untold_here, untold_there, failed_here, failed_there, GoesAlike, goes_apart, goes_refused, goes_on}
use Rattle.database_laws.proofs.RunLemmas.{only_transition}
use Rattle.database_laws.proofs.RunsAlike.{sound_after}
use Rattle.database_laws.proofs.CommitLemmas.{committed_by}
use Rattle.database_laws.proofs.OthersLeftOut.{all_back}
use Rattle.database_laws.proofs.UnseenEvents.{all_turned}
use Rattle.database_laws.proofs.ToldRuns.{Came, parts, goes_on_alike, is_declared, comes, for_one, turned}
use Rattle.database_laws.proofs.ToldStores.{goes_alike, goes_unseen}
use Rattle.tenant_laws.specs.TenantLives.{IsLeftByStop, is_committed, had_failed, was_under_way, LifeOver, LivesOver, no_more, lived, event_left, own_left, IsOfFailure, StopsOutOfSight, LivesOutOfSight, AskTheSame, IsToldToTheEnd, PartsAtStop, by_commit, by_commit_there, by_exception, by_failure, by_failure_there, LivesTellAlike, what_lives_tell_a_tenant}

-- ---- what is sound stays so

sound_step : (Reads : ReadingRelation) (old new : Counts) (m : Machine) (event : Event TheText) (x : Answer) (next : Machine) → AreSound m → IsStep Reads old new m event x next → AreSound next
sound_step Reads old new m event x next on (by_transition is) = subst AreSound (sym (ap (λ (t : Transition). t.machine) is.is)) (sound_after m is.as_read on)
sound_step Reads old new m event x next on (step.for_memory e kept may) = subst AreSound (sym kept) on
sound_step Reads old new m event x next on (step.for_space e kept may rises) = subst AreSound (sym kept) on
sound_step Reads old new m event x next on (step.for_number e kept may greatest) = subst AreSound (sym kept) on
sound_step Reads old new m event x next on (for_device t is may e kept broke) = subst AreSound (sym kept) (record { committed = on.committed; holder = on.holder })

sound_run : (Reads : ReadingRelation) (Leave : Stops) (w end : At) (events : List (Event TheText)) (answers : List Answer) → RanBy (Happens Reads Leave) w events answers end → AreSound w.standing.machine → AreSound end.standing.machine
sound_run Reads Leave w end [] [] ran on = subst (λ (u : At). AreSound u.standing.machine) (sym ran) on
sound_run Reads Leave w end [] (x ∷ answers) ran on = absurd ran
sound_run Reads Leave w end (event ∷ events) [] ran on = absurd ran
sound_run Reads Leave w end (event ∷ events) (x ∷ answers) (n, it, its) on =
    sound_run Reads Leave n end events answers its (sound_step Reads w.counts n.counts w.standing.machine event x n.standing.machine on it.step)

first_same : (x y : Event TheText) (xs ys : List (Event TheText)) → (x ∷ xs) ≡ (y ∷ ys) → (x ≡ y) × (xs ≡ ys)
first_same x y xs ys e = (ap first_of e, ap rest_of e) where
  first_of : List (Event TheText) → Event TheText
  first_of [] = x
  first_of (z ∷ zs) = z

  rest_of : List (Event TheText) → List (Event TheText)
  rest_of [] = []
  rest_of (z ∷ zs) = zs

-- ---- one life: the tenant is told alike, and where that did not end early the machines are alike to it where the lives ended

module _ (Reads : ReadingRelation) (Leave LeaveOther : Stops) (once : ReadsOnce Reads) (a : Tenant) where
  record Tells (w v end other_end : At) (events : List (Event TheText)) (answers : List Answer) (others : List (Event TheText)) (told : List Answer) : Type 0 where
    so : IsToldAlikeBy Reads Leave LeaveOther a w v events answers others told
    alike : IsToldToTheEnd so → IsAlikeTo a end.standing.machine other_end.standing.machine

  abbrev Goes : List (Event TheText) → List Answer → At → Type 0
  Goes events answers end = (w v other_end : At) (others : List (Event TheText)) (told : List Answer) → IsAlikeTo a w.standing.machine v.standing.machine → AreSound w.standing.machine → AreSound v.standing.machine →
      (ran : RanBy (Happens Reads Leave) w events answers end) (ran_there : RanBy (Happens Reads LeaveOther) v others told other_end) →
      KeepOutOfSight Reads Leave a w end events answers ran → KeepOutOfSight Reads LeaveOther a v other_end others told ran_there → own_texts a events ≡ own_texts a others →
      Tells w v end other_end events answers others told

  -- an own event in the first run: the second comes to it, too
  abbrev ReachesOwn : At → At → At → Event TheText → Answer → List (Event TheText) → List Answer → List (Event TheText) → List Answer → Type 0
  ReachesOwn w n end event x events answers others told = (v other_end : At) → IsAlikeTo a w.standing.machine v.standing.machine → AreSound v.standing.machine →
      (ran_there : RanBy (Happens Reads LeaveOther) v others told other_end) → KeepOutOfSight Reads LeaveOther a v other_end others told ran_there →
      (event ∷ own_texts a events) ≡ own_texts a others → Tells w v end other_end (event ∷ events) (x ∷ answers) others told

  module _ (w n end : At) (event : Event TheText) (x : Answer) (events : List (Event TheText)) (answers : List Answer) (on_w : AreSound w.standing.machine) (own : is_text_of a event ≡ true) (opens_so : OpensAsOwn a w.standing.machine event)
      (here : Happens Reads Leave w event x n) (ran : RanBy (Happens Reads Leave) n events answers end) (keep : KeepOutOfSight Reads Leave a n end events answers ran) (go : Goes events answers end) where
    meets : (v j other_end : At) (y : Answer) (fs : List (Event TheText)) (told : List Answer) → AreSound v.standing.machine → (ran_there : RanBy (Happens Reads LeaveOther) j fs told other_end) →
        KeepOutOfSight Reads LeaveOther a j other_end fs told ran_there → own_texts a events ≡ own_texts a fs → Happens Reads LeaveOther v event y j → GoesAlike Reads a w v n j event x y →
        Tells w v end other_end (event ∷ events) (x ∷ answers) (event ∷ fs) (y ∷ told)
    meets v j other_end y fs told on_v ran_there keeps equal it (goes_apart read is exception none) = record { so = told_apart own read is exception none; alike = λ ended. absurd ended }
    meets v j other_end y fs told on_v ran_there keeps equal it (goes_refused place none) = record { so = refused_alone n j own here it place none; alike = λ ended. absurd ended }
    meets v j other_end y fs told on_v ran_there keeps equal it (goes_on is next) =
        subst (λ (z : Answer). Tells w v end other_end (event ∷ events) (x ∷ answers) (event ∷ fs) (z ∷ told)) is
        (let rest = go n j other_end fs told next (sound_step Reads w.counts n.counts w.standing.machine event x n.standing.machine on_w here.step)
        (sound_step Reads v.counts j.counts v.standing.machine event y j.standing.machine on_v it.step) ran ran_there keep keeps equal in
        record { so = told_alike n j own here (subst (λ (z : Answer). Happens Reads LeaveOther v event z j) (sym is) it) rest.so; alike = rest.alike })

    to_own : (others : List (Event TheText)) (told : List Answer) → ReachesOwn w n end event x events answers others told
    to_own [] [] v other_end st on_v ran_there keeps equal = let contrary : (event ∷ own_texts a events) ≡ [] = equal in cc
    to_own [] (y ∷ told) v other_end st on_v ran_there keeps equal = absurd ran_there
    to_own (f ∷ fs) [] v other_end st on_v ran_there keeps equal = absurd ran_there
    to_own (f ∷ fs) (y ∷ told) v other_end st on_v (j, it, its) keeps equal = by (is_text_of a f) refl (to_own fs told) where
      by : (b : Bool) → is_text_of a f ≡ b → ReachesOwn w n end event x events answers fs told → Tells w v end other_end (event ∷ events) (x ∷ answers) (f ∷ fs) (y ∷ told)
      by true own_f on =
          let both = first_same event f (own_texts a events) (own_texts a fs) (equal ∙ ap (λ (b : Bool). cond b (f ∷ own_texts a fs) (own_texts a fs)) own_f) in
          let it_same : Happens Reads LeaveOther v event y j = subst (λ (z : Event TheText). Happens Reads LeaveOther v z y j) (sym both.0) it in
          subst (λ (z : Event TheText). Tells w v end other_end (event ∷ events) (x ∷ answers) (z ∷ fs) (y ∷ told)) both.0
          (meets v j other_end y fs told on_v its keeps.1 both.1 it_same
          (goes_alike Reads Leave LeaveOther once a w v n j event x y st on_w on_v own opens_so here it_same))
      by false other on =
          at (goes_unseen Reads LeaveOther once a v w j f y (turned a w.standing.machine v.standing.machine st) on_v other (keeps.0.1 other) it) where
            at : IsAlikeTo a j.standing.machine w.standing.machine ⊎ (y ≡ answer.Refused IoError) → Tells w v end other_end (event ∷ events) (x ∷ answers) (f ∷ fs) (y ∷ told)
            at (inl next) =
                let rest = on j other_end (turned a j.standing.machine w.standing.machine next) (sound_step Reads v.counts j.counts v.standing.machine f y j.standing.machine on_v it.step) its keeps.1
                (equal ∙ ap (λ (b : Bool). cond b (f ∷ own_texts a fs) (own_texts a fs)) other) in
                record { so = untold_there j other it rest.so; alike = rest.alike }
            at (inr e) = record { so = failed_there other e; alike = λ ended. absurd ended }

  abbrev NoneMore : List (Event TheText) → List Answer → Type 0
  NoneMore others told = (w v end other_end : At) → end ≡ w → IsAlikeTo a w.standing.machine v.standing.machine → AreSound v.standing.machine → (ran_there : RanBy (Happens Reads LeaveOther) v others told other_end) →
      KeepOutOfSight Reads LeaveOther a v other_end others told ran_there → [] ≡ own_texts a others → Tells w v end other_end [] [] others told

  none_more : (others : List (Event TheText)) (told : List Answer) → NoneMore others told
  none_more [] [] w v end other_end ended st on_v ran_there keeps equal = record {
    so = all_told st;
    alike = λ told_all. subst (λ (u : At). IsAlikeTo a u.standing.machine other_end.standing.machine) (sym ended)
        (subst (λ (u : At). IsAlikeTo a w.standing.machine u.standing.machine) (sym ran_there) st);
  }
  none_more [] (y ∷ told) w v end other_end ended st on_v ran_there keeps equal = absurd ran_there
  none_more (f ∷ fs) [] w v end other_end ended st on_v ran_there keeps equal = absurd ran_there
  none_more (f ∷ fs) (y ∷ told) w v end other_end ended st on_v (j, it, its) keeps equal = by (is_text_of a f) refl (none_more fs told) where
    by : (b : Bool) → is_text_of a f ≡ b → NoneMore fs told → Tells w v end other_end [] [] (f ∷ fs) (y ∷ told)
    by true own_f on = let contrary : [] ≡ (f ∷ own_texts a fs) = equal ∙ ap (λ (b : Bool). cond b (f ∷ own_texts a fs) (own_texts a fs)) own_f in cc
    by false other on =
        at (goes_unseen Reads LeaveOther once a v w j f y (turned a w.standing.machine v.standing.machine st) on_v other (keeps.0.1 other) it) where
          at : IsAlikeTo a j.standing.machine w.standing.machine ⊎ (y ≡ answer.Refused IoError) → Tells w v end other_end [] [] (f ∷ fs) (y ∷ told)
          at (inl next) =
              let rest = on w j end other_end ended (turned a j.standing.machine w.standing.machine next) (sound_step Reads v.counts j.counts v.standing.machine f y j.standing.machine on_v it.step) its keeps.1
              (equal ∙ ap (λ (b : Bool). cond b (f ∷ own_texts a fs) (own_texts a fs)) other) in
              record { so = untold_there j other it rest.so; alike = rest.alike }
          at (inr e) = record { so = failed_there other e; alike = λ told_all. absurd told_all }

  tells : (events : List (Event TheText)) (answers : List Answer) (end : At) → Goes events answers end
  tells [] [] end w v other_end others told st on_w on_v ran ran_there keep keeps equal = none_more others told w v end other_end ran st on_v ran_there keeps equal
  tells [] (x ∷ answers) end w v other_end others told st on_w on_v ran ran_there keep keeps equal = absurd ran
  tells (event ∷ events) [] end w v other_end others told st on_w on_v ran ran_there keep keeps equal = absurd ran
  tells (event ∷ events) (x ∷ answers) end w v other_end others told st on_w on_v (n, it, its) ran_there keep keeps equal = by (is_text_of a event) refl (tells events answers end) where
    by : (b : Bool) → is_text_of a event ≡ b → Goes events answers end → Tells w v end other_end (event ∷ events) (x ∷ answers) others told
    by true own go =
        to_own w n end event x events answers on_w own (keep.0.0 own) it its keep.1 go others told v other_end st on_v ran_there keeps
        (sym (ap (λ (b : Bool). cond b (event ∷ own_texts a events) (own_texts a events)) own) ∙ equal)
    by false other go = at (goes_unseen Reads Leave once a w v n event x st on_w other (keep.0.1 other) it) where
      at : IsAlikeTo a n.standing.machine v.standing.machine ⊎ (x ≡ answer.Refused IoError) → Tells w v end other_end (event ∷ events) (x ∷ answers) others told
      at (inl next) =
          let rest = go n v other_end others told next (sound_step Reads w.counts n.counts w.standing.machine event x n.standing.machine on_w it.step) on_v its ran_there keep.1 keeps
          (sym (ap (λ (b : Bool). cond b (event ∷ own_texts a events) (own_texts a events)) other) ∙ equal) in
          record { so = untold_here n other it rest.so; alike = rest.alike }
      at (inr e) = record { so = failed_here other e; alike = λ ended. absurd ended }

-- ---- a stop

-- what an event brings is of a transition of the machine
brings : (Reads : ReadingRelation) (old new : Counts) (m : Machine) (event : Event TheText) (x : Answer) (next : Machine) (db : Database) (s : IsStep Reads old new m event x next) → IsBrought s db →
    (t : Transition) × IsTransition Reads m event t × (db ≡ t.machine.committed)
brings Reads old new m event x next db (by_transition is) brought = (transition_to x next, is, brought)
brings Reads old new m event x next db (step.for_memory e kept may) brought = absurd brought
brings Reads old new m event x next db (step.for_space e kept may rises) brought = absurd brought
brings Reads old new m event x next db (step.for_number e kept may greatest) brought = absurd brought
brings Reads old new m event x next db (for_device t is may e kept broke) brought = (t, is, brought)

number_read : (Reads : ReadingRelation) (m : Machine) (event : Event TheText) (read : Event Reading) → IsReadAs Reads m event read → number_of read ≡ number_of event
number_read Reads m (opens n l) read is = ap (λ (e : Event Reading). number_of e) is
number_read Reads m (closes n) read is = ap (λ (e : Event Reading). number_of e) is
number_read Reads m (executes n text) read (reading, is, reads) = ap (λ (e : Event Reading). number_of e) is

-- what a stop left looks as what was committed, and nothing of the tenant's was left unanswered; or a device had failed; or it is what an
-- own event brought
data Leaves (Reads : ReadingRelation) (a : Tenant) (m : Machine) (left : List (Event TheText)) (OfFailure : Type 0) (db : Database) : Type 0 where
  leaves_none : left ≡ [] → SameApparentRowsForPairs a.pairs m.committed db → IsSound db → Leaves Reads a m left OfFailure db
  leaves_failure : OfFailure → Leaves Reads a m left OfFailure db
  leaves_own : (x : Event TheText) → left ≡ x ∷ [] → is_text_of a x ≡ true → OpensAsOwn a m x → (read : Event Reading) → IsReadAs Reads m x read → db ≡ (after m read).committed → IsSound db → Leaves Reads a m left OfFailure db

-- how two stops part
data Parts (Reads : ReadingRelation) (a : Tenant) (m k : Machine) (left left_there : List (Event TheText)) (Fails FailsThere : Type 0) (d e : Database) : Type 0 where
  parts_by_commit : (x : Event TheText) → left ≡ x ∷ [] → left_there ≡ [] → (read : Event Reading) → IsReadAs Reads m x read → IsCommittedAt m read d → Parts Reads a m k left left_there Fails FailsThere d e
  parts_by_commit_there : (x : Event TheText) → left ≡ [] → left_there ≡ x ∷ [] → (read : Event Reading) → IsReadAs Reads k x read → IsCommittedAt k read e → Parts Reads a m k left left_there Fails FailsThere d e
  parts_by_exception : (x : Event TheText) → left ≡ x ∷ [] → left_there ≡ x ∷ [] → (read : Event Reading) → IsReadAs Reads m x read → IsExceptionFor a m k (happens read) → Parts Reads a m k left left_there Fails FailsThere d e
  parts_by_failure : Fails → Parts Reads a m k left left_there Fails FailsThere d e
  parts_by_failure_there : FailsThere → Parts Reads a m k left left_there Fails FailsThere d e

module _ (Reads : ReadingRelation) (a : Tenant) where
  left_by : (Leave : Stops) (here : At) (db : Database) (leaves : IsLeftByStop Reads Leave here db) → SameApparentRowsForPairs a.pairs here.standing.machine.committed here.standing.machine.committed →
      AreSound here.standing.machine → StopsOutOfSight a leaves → Leaves Reads a here.standing.machine (own_texts a (event_left leaves)) (IsOfFailure leaves) db
  left_by Leave here db (is_committed is) same on hides =
      leaves_none refl (subst (λ (d : Database). SameApparentRowsForPairs a.pairs here.standing.machine.committed d) (sym is) same) (subst IsSound (sym is) on.committed)
  left_by Leave here db (had_failed is) same on hides = leaves_failure tt
  left_by Leave here db (was_under_way event x next it brought) same on hides = by (is_text_of a event) refl where
    made : (t : Transition) × IsTransition Reads here.standing.machine event t × (db ≡ t.machine.committed)
    made = brings Reads here.counts next.counts here.standing.machine event x next.standing.machine db it.step brought

    is_after : db ≡ (after here.standing.machine made.1.as_read).committed
    is_after = made.2 ∙ ap (λ (t : Transition). t.machine.committed) made.1.is

    sound_left : IsSound db
    sound_left = subst IsSound (sym is_after) (sound_after here.standing.machine made.1.as_read on).committed

    by : (b : Bool) → is_text_of a event ≡ b → Leaves Reads a here.standing.machine (cond (is_text_of a event) (event ∷ []) []) ⊥ db
    by true own = leaves_own event (ap (λ (b : Bool). cond b (event ∷ []) []) own) own (hides.0 own) made.1.as_read made.1.read is_after sound_left
    by false other = leaves_none (ap (λ (b : Bool). cond b (event ∷ []) []) other) (hides.1 other) sound_left

  opens_own : (m : Machine) (event : Event TheText) (read : Event Reading) → IsReadAs Reads m event read → OpensAsOwn a m event → OpensItsOwn a m (happens read)
  opens_own m (opens n l) read is own = subst (λ (e : Event Reading). OpensItsOwn a m (happens e)) (sym is) own
  opens_own m (closes n) read is own = subst (λ (e : Event Reading). OpensItsOwn a m (happens e)) (sym is) tt
  opens_own m (executes n text) read (reading, is, reads) own = subst (λ (e : Event Reading). OpensItsOwn a m (happens e)) (sym is) tt

  module _ (once : ReadsOnce Reads) (m k : Machine) (st : IsAlikeTo a m k) (on_m : AreSound m) (on_k : AreSound k) where
    -- what is read over one machine is read over the other
    read_there : (event : Event TheText) (x : Event Reading) → is_text_of a event ≡ true → IsReadAs Reads m event x → IsReadAs Reads k event x
    read_there (opens n l) x own read = read
    read_there (closes n) x own read = read
    read_there (executes n text) x own (reading, is, reads) =
        (reading, is, λ may. reads (st.stopped ∙ may.0, subst (λ (o : Option Session). IsSome o) (sym (for_one a m k st n own).session) may.1))

    -- two readings of one event over a machine lead to one
    same_after : (event : Event TheText) (x y : Event Reading) → IsReadAs Reads k event x → IsReadAs Reads k event y → (after k x).committed ≡ (after k y).committed
    same_after event x y read_x read_y =
        ap (λ (t : Transition). t.machine.committed)
        (only_transition Reads once k event (transition k x) (transition k y) (record { as_read = x; read = read_x; is = refl }) (record { as_read = y; read = read_y; is = refl }))

    abbrev Alike : Database → Database → Type 0
    Alike d e = SameApparentRowsForPairs a.pairs d e

    -- what looks as what is committed over the one looks so over the other
    joins : (d e : Database) → Alike d k.committed → Alike k.committed e → Alike d e
    joins d e first second = all_turned a.pairs e d (all_back a.pairs k.committed e d second (all_turned a.pairs d k.committed first))

    module _ (left left_there : List (Event TheText)) (Fails FailsThere : Type 0) (d e : Database) where
      abbrev Stopped : Type 0
      Stopped = Parts Reads a m k left left_there Fails FailsThere d e ⊎ (Alike d e × IsSound d × IsSound e)

      both_own : (x : Event TheText) → left ≡ x ∷ [] → left_there ≡ x ∷ [] → is_text_of a x ≡ true → OpensAsOwn a m x → (read other : Event Reading) → IsReadAs Reads m x read → IsReadAs Reads k x other →
          d ≡ (after m read).committed → e ≡ (after k other).committed → IsSound d → IsSound e → Stopped
      both_own x is is_there own opens_so read other reads reads_there from from_there on_d on_e =
          at (comes a m k st on_m on_k (happens read) (ap a.sessions (number_read Reads m x read reads) ∙ own) (opens_own m x read reads opens_so))
        where
          at : Came a m k st on_m on_k (happens read) → Stopped
          at (parts exception none) = inl (parts_by_exception x is is_there read reads exception)
          at (goes_on_alike answers next) =
              inr (
                subst (λ (z : Database). Alike z e) (sym from)
                    (subst (λ (z : Database). Alike (after m read).committed z) (sym (from_there ∙ same_after x other read reads_there (read_there x read own reads))) next.committed),
                on_d,
                on_e,
              )
          at (is_declared event declared) = let contrary : declares event ≡ happens read = declared in cc

      by_own : (x : Event TheText) → left ≡ x ∷ [] → left_there ≡ [] → (read : Event Reading) → IsReadAs Reads m x read → d ≡ (after m read).committed → Alike k.committed e → IsSound d → IsSound e → Stopped
      by_own x is none read reads from looks on_d on_e = at (committed_by m read) where
        at : ((after m read).committed ≡ m.committed) ⊎ IsCommittedAt m read (after m read).committed → Stopped
        at (inl same) = inr (joins d e (subst (λ (z : Database). Alike z k.committed) (sym (from ∙ same)) st.committed) looks, on_d, on_e)
        at (inr commits) = inl (parts_by_commit x is none read reads (subst (λ (z : Database). IsCommittedAt m read z) (sym from) commits))

      by_own_there : (x : Event TheText) → left ≡ [] → left_there ≡ x ∷ [] → (read : Event Reading) → IsReadAs Reads k x read → e ≡ (after k read).committed → Alike m.committed d → IsSound d → IsSound e → Stopped
      by_own_there x none is read reads from looks on_d on_e = at (committed_by k read) where
        at : ((after k read).committed ≡ k.committed) ⊎ IsCommittedAt k read (after k read).committed → Stopped
        at (inl same) = inr (subst (λ (z : Database). Alike d z) (sym (from ∙ same)) (all_back a.pairs m.committed d k.committed looks st.committed), on_d, on_e)
        at (inr commits) = inl (parts_by_commit_there x none is read reads (subst (λ (z : Database). IsCommittedAt k read z) (sym from) commits))

      stopped : Leaves Reads a m left Fails d → Leaves Reads a k left_there FailsThere e → ((x y : Event TheText) → left ≡ x ∷ [] → left_there ≡ y ∷ [] → x ≡ y) → Stopped
      stopped (leaves_failure failed) there same = inl (parts_by_failure failed)
      stopped (leaves_none none looks on_d) (leaves_failure failed) same = inl (parts_by_failure_there failed)
      stopped (leaves_own x is own opens_so read reads from on_d) (leaves_failure failed) same = inl (parts_by_failure_there failed)
      stopped (leaves_none none looks on_d) (leaves_none none_there looks_there on_e) same =
          inr (joins d e (all_back a.pairs m.committed d k.committed looks st.committed) looks_there, on_d, on_e)
      stopped (leaves_own x is own opens_so read reads from on_d) (leaves_none none looks on_e) same = by_own x is none read reads from looks on_d on_e
      stopped (leaves_none none looks on_d) (leaves_own x is own opens_so read reads from on_e) same = by_own_there x none is read reads from looks on_d on_e
      stopped (leaves_own x is own opens_so read reads from on_d) (leaves_own y is_there owns opens_there other reads_there from_there on_e) same =
          let one : y ≡ x = sym (same x y is is_there) in
          both_own x is (subst (λ (z : Event TheText). left_there ≡ z ∷ []) one is_there) own opens_so read other reads (subst (λ (z : Event TheText). IsReadAs Reads k z other) one reads_there) from from_there on_d on_e

-- ---- life by life

over_both : (a : Tenant) (d e : Database) → SameApparentRowsForPairs a.pairs d e → IsAlikeTo a (machine_over d) (machine_over e)
over_both a d e same = record { sessions = λ i own. refl; opened_for = λ i own. tt; stopped = refl; lock = λ i own. refl; committed = same; seen = λ i own. same }

over_one : (d : Database) → IsSound d → AreSound (machine_over d)
over_one d on = record { committed = on; holder = tt }

-- a database that looks like another looks like itself
itself : (a : Tenant) (d e : Database) → SameApparentRowsForPairs a.pairs d e → SameApparentRowsForPairs a.pairs d d
itself a d e same = all_back a.pairs e d d (all_turned a.pairs d e same) (all_turned a.pairs d e same)

itself_there : (a : Tenant) (d e : Database) → SameApparentRowsForPairs a.pairs d e → SameApparentRowsForPairs a.pairs e e
itself_there a d e same = all_back a.pairs d e e same same

module _ {T U : Type 0} (Reads : ReadingRelation) (leave : T → Stops) (leave_there : U → Stops) (once : ReadsOnce Reads) (a : Tenant) where
  module _ (d e : Database) (life : LifeOver Reads leave d) (other : LifeOver Reads leave_there e) (same : SameApparentRowsForPairs a.pairs d e) (on_d : IsSound d) (on_e : IsSound e) where
    opened_here : life.begin.standing.machine ≡ machine_over d
    opened_here = ap (λ (s : Standing). s.machine) life.over

    opened_there : other.begin.standing.machine ≡ machine_over e
    opened_there = ap (λ (s : Standing). s.machine) other.over

    sound_here : AreSound life.begin.standing.machine
    sound_here = subst AreSound (sym opened_here) (over_one d on_d)

    sound_there : AreSound other.begin.standing.machine
    sound_there = subst AreSound (sym opened_there) (over_one e on_e)

    begun : IsAlikeTo a life.begin.standing.machine other.begin.standing.machine
    begun =
        subst (λ (m : Machine). IsAlikeTo a m other.begin.standing.machine) (sym opened_here)
        (subst (λ (k : Machine). IsAlikeTo a (machine_over d) k) (sym opened_there) (over_both a d e same))

    abbrev PartsHere : At → At → Type 0
    PartsHere end other_end = Parts Reads a end.standing.machine other_end.standing.machine (own_left a life) (own_left a other) (IsOfFailure life.leaves) (IsOfFailure other.leaves) life.left other.left

    of_parts : PartsHere life.end other.end → PartsAtStop a life other
    of_parts (parts_by_commit x is none read reads commits) = by_commit x is none read reads commits
    of_parts (parts_by_commit_there x none is read reads commits) = by_commit_there x none is read reads commits
    of_parts (parts_by_exception x is is_there read reads exception) = by_exception x is is_there read reads exception
    of_parts (parts_by_failure failed) = by_failure failed
    of_parts (parts_by_failure_there failed) = by_failure_there failed

    tells_of : KeepOutOfSight Reads (leave life.time) a life.begin life.end life.events life.answers life.ran → KeepOutOfSight Reads (leave_there other.time) a other.begin other.end other.events other.answers other.ran →
        own_texts a life.events ≡ own_texts a other.events → Tells Reads (leave life.time) (leave_there other.time) once a life.begin other.begin life.end other.end life.events life.answers other.events other.answers
    tells_of keep keeps equal =
        tells Reads (leave life.time) (leave_there other.time) once a life.events life.answers life.end life.begin other.begin other.end other.events other.answers begun sound_here sound_there life.ran other.ran keep keeps equal

    stopped_of : IsAlikeTo a life.end.standing.machine other.end.standing.machine → StopsOutOfSight a life.leaves → StopsOutOfSight a other.leaves →
        ((x y : Event TheText) → own_left a life ≡ x ∷ [] → own_left a other ≡ y ∷ [] → x ≡ y) → PartsHere life.end other.end ⊎ (SameApparentRowsForPairs a.pairs life.left other.left × IsSound life.left × IsSound other.left)
    stopped_of st hides hides_there one =
        let on_end = sound_run Reads (leave life.time) life.begin life.end life.events life.answers life.ran sound_here in
        let on_other = sound_run Reads (leave_there other.time) other.begin other.end other.events other.answers other.ran sound_there in
        stopped Reads a once life.end.standing.machine other.end.standing.machine st on_end on_other (own_left a life) (own_left a other) (IsOfFailure life.leaves) (IsOfFailure other.leaves) life.left other.left
        (left_by Reads a (leave life.time) life.end life.left life.leaves (itself a life.end.standing.machine.committed other.end.standing.machine.committed st.committed) on_end hides)
        (left_by Reads a (leave_there other.time) other.end other.left other.leaves (itself_there a life.end.standing.machine.committed other.end.standing.machine.committed st.committed) on_other hides_there)
        one

  abbrev AllTold : (d : Database) → LivesOver Reads leave d → Type 0
  AllTold d lives = (e : Database) (others : LivesOver Reads leave_there e) → SameApparentRowsForPairs a.pairs d e → IsSound d → IsSound e → LivesOutOfSight a lives → LivesOutOfSight a others → AskTheSame a lives others → LivesTellAlike a lives others

  lives_told : (d : Database) (lives : LivesOver Reads leave d) → AllTold d lives
  lives_told d no_more e others same on_d on_e hides hides_there asks = tt
  lives_told d (lived life lives) e no_more same on_d on_e hides hides_there asks = tt
  lives_told d (lived life lives) e (lived other others) same on_d on_e hides hides_there asks = at (lives_told life.left lives) where
    telling : Tells Reads (leave life.time) (leave_there other.time) once a life.begin other.begin life.end other.end life.events life.answers other.events other.answers
    telling = tells_of d e life other same on_d on_e hides.0 hides_there.0 asks.0

    next : AllTold life.left lives → Parts Reads a life.end.standing.machine other.end.standing.machine (own_left a life) (own_left a other) (IsOfFailure life.leaves) (IsOfFailure other.leaves) life.left other.left
        ⊎ (SameApparentRowsForPairs a.pairs life.left other.left × IsSound life.left × IsSound other.left) → PartsAtStop a life other ⊎ (SameApparentRowsForPairs a.pairs life.left other.left × LivesTellAlike a lives others)
    next later (inl parted) = inl (of_parts d e life other same on_d on_e parted)
    next later (inr (alike, on_left, on_other)) = inr (alike, later other.left others alike on_left on_other hides.2 hides_there.2 asks.2)

    at : AllTold life.left lives → LivesTellAlike a (lived life lives) (lived other others)
    at later = (telling.so, λ ended. next later (stopped_of d e life other same on_d on_e (telling.alike ended) hides.1 hides_there.1 asks.1))

pub lives_tell : {T U : Type 0} (Reads : ReadingRelation) (leave : T → Stops) (leave_there : U → Stops) → what_lives_tell_a_tenant Reads leave leave_there
lives_tell Reads leave leave_there once a d e lives others same on_d on_e hides hides_there asks = lives_told Reads leave leave_there once a d lives e others same on_d on_e hides hides_there asks
