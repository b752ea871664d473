-- The bytes that each client of a tenant gets in two runs: they are the same up to a listed event.
use Rattle.std.specs.Prelude.{◌≡◌, ◌⊎◌, ℕ, nat_eq, true, false, if◌then◌else◌, List, [], ◌∷◌, ◌++◌}
use Rattle.sql_types.specs.declared.state.SqlState.TheVariants.{IoError}
use Rattle.sql_types.specs.declared.answer.Answer.{Answer}
use Rattle.sql_types.specs.declared.answer.Answer.TheVariants as answer
use Rattle.abstract_database.specs.Machine.{Event, Reading, client_of, own_number}
use Rattle.abstract_database.specs.Runs.{TheText, ReadingRelation, IsReadAs, RanBy, Stops, At, Happens}
use Rattle.database_laws.specs.Sessions.{number_of}
use Rattle.database_laws.specs.HiddenRuns.{AreSound, IsInPlace}
use Rattle.database_laws.specs.Runs.{ReadsOnce}
use Rattle.database_laws.specs.Told.{Tenant, IsAlikeTo, happens, IsExceptionFor}
use Rattle.database_laws.specs.ToldApart.{NoStoreGives}
use Rattle.database_laws.specs.ToldStores.{is_text_of, own_texts, KeepOutOfSight, AreRefusedAlike}
use Rattle.client_laws.specs.Renumbered.{IsOneToOne, renumbered_machine, renumbered_events, renumbered_at}
use Rattle.client_laws.specs.Clients.{in_run}

-- ---- bytes

-- how the answer to an event of a session, by the client's own number of it, is spelled
abbrev pub Spelling : Type 0
Spelling = ℕ → Answer → List ℕ

-- all that a client gets for its events, one answer after the other
abbrev pub bytes_of : Spelling → ℕ → List (Event TheText) → List Answer → List ℕ
bytes_of spell client [] answers = []
bytes_of spell client (event ∷ events) [] = []
bytes_of spell client (event ∷ events) (x ∷ answers) =
    if nat_eq client (client_of (number_of event)) then spell (own_number (number_of event)) x ++ bytes_of spell client events answers else bytes_of spell client events answers

-- each session of a client is the tenant's
abbrev pub IsClientOf : Tenant → ℕ → Type 0
IsClientOf a client = (number : ℕ) → client_of number ≡ client → a.sessions number ≡ true

-- ---- how far two runs go alike

module _ (Reads : ReadingRelation) (Leave LeaveOther : Stops) (a : Tenant) where
  -- where both stand here, and these events are left, with these answers: none; or an own event first at which the runs may part; or an event
  -- of another under which the device has failed
  pub data EndAlike (here there : At) : List (Event TheText) → List Answer → List (Event TheText) → List Answer → Type 0 where
    nothing_left : IsAlikeTo a here.standing.machine there.standing.machine → EndAlike here there [] [] [] []
    at_exception : {event : Event TheText} {events others : List (Event TheText)} {x y : Answer} {answers told : List Answer} → is_text_of a event ≡ true → (read : Event Reading) →
        IsReadAs Reads here.standing.machine event read → IsExceptionFor a here.standing.machine there.standing.machine (happens read) → (AreRefusedAlike Reads event x y → ⊥) →
        EndAlike here there (event ∷ events) (x ∷ answers) (event ∷ others) (y ∷ told)
    at_refusal : (next later : At) {event : Event TheText} {events others : List (Event TheText)} {x y : Answer} {answers told : List Answer} → is_text_of a event ≡ true →
        Happens Reads Leave here event x next → Happens Reads LeaveOther there event y later → IsInPlace here.counts next.counts x ⊎ IsInPlace there.counts later.counts y → (AreRefusedAlike Reads event x y → ⊥) →
        EndAlike here there (event ∷ events) (x ∷ answers) (event ∷ others) (y ∷ told)
    at_failure : {event : Event TheText} {events others : List (Event TheText)} {x : Answer} {answers told : List Answer} → is_text_of a event ≡ false → x ≡ answer.Refused IoError →
        EndAlike here there (event ∷ events) (x ∷ answers) others told
    at_failure_there : {event : Event TheText} {events others : List (Event TheText)} {x : Answer} {answers told : List Answer} → is_text_of a event ≡ false → x ≡ answer.Refused IoError →
        EndAlike here there events answers (event ∷ others) (x ∷ told)

  -- Two runs begin alike: each client of the tenant gets the same bytes in both, by whatever spelling, up to where they end so
  pub record BeginAlike (w v : At) (events : List (Event TheText)) (answers : List Answer) (others : List (Event TheText)) (told : List Answer) : Type 0 where
    pub done : List (Event TheText)
    pub left : List (Event TheText)
    pub done_there : List (Event TheText)
    pub left_there : List (Event TheText)
    pub answered : List Answer
    pub to_answer : List Answer
    pub answered_there : List Answer
    pub to_answer_there : List Answer
    pub events_are : events ≡ done ++ left
    pub answers_are : answers ≡ answered ++ to_answer
    pub others_are : others ≡ done_there ++ left_there
    pub told_are : told ≡ answered_there ++ to_answer_there
    pub here : At
    pub there : At
    pub ran : RanBy (Happens Reads Leave) w done answered here
    pub ran_there : RanBy (Happens Reads LeaveOther) v done_there answered_there there
    pub bytes : (spell : Spelling) (client : ℕ) → IsClientOf a client → bytes_of spell client done answered ≡ bytes_of spell client done_there answered_there
    pub ends : EndAlike here there left to_answer left_there to_answer_there

-- two servers of many clients, of which a tenant asks the same in one order over all of its clients: each gets the same bytes up to the
-- first listed event
abbrev pub clients_get_the_same_bytes : ReadingRelation → Stops → Stops → Type 0
clients_get_the_same_bytes Reads Leave LeaveOther = ReadsOnce Reads → (a : Tenant) (place place_there : ℕ → ℕ) → IsOneToOne place → IsOneToOne place_there →
    (w v end other_end : At) (events others : List (Event TheText)) (answers told : List Answer) →
    IsAlikeTo a (renumbered_machine place w.standing.machine) (renumbered_machine place_there v.standing.machine) → AreSound w.standing.machine → AreSound v.standing.machine →
    (ran : RanBy (Happens Reads Leave) w events answers end) (ran_there : RanBy (Happens Reads LeaveOther) v others told other_end) →
    KeepOutOfSight Reads Leave (in_run place a) w end events answers ran → KeepOutOfSight Reads LeaveOther (in_run place_there a) v other_end others told ran_there →
    renumbered_events place (own_texts (in_run place a) events) ≡ renumbered_events place_there (own_texts (in_run place_there a) others) →
    BeginAlike Reads Leave LeaveOther a (renumbered_at place w) (renumbered_at place_there v) (renumbered_events place events) answers (renumbered_events place_there others) told

-- by its place a client gets the bytes that it gets by its number
abbrev pub places_change_no_bytes : Type 0
places_change_no_bytes = (spell : Spelling) (place : ℕ → ℕ) → IsOneToOne place → (client : ℕ) (events : List (Event TheText)) (answers : List Answer) →
    bytes_of spell (place client) (renumbered_events place events) answers ≡ bytes_of spell client events answers

-- ---- what that forbids

-- two answers to an own event that are spelled differently, and that no store gives, are an exception of the machines
abbrev pub bytes_part_at_exceptions : ReadingRelation → Stops → Stops → Type 0
bytes_part_at_exceptions Reads Leave LeaveOther = (a : Tenant) (w v : At) (event : Event TheText) (x y : Answer) (spell : Spelling) →
    IsClientOf a (client_of (number_of event)) → (spell (own_number (number_of event)) x ≡ spell (own_number (number_of event)) y → ⊥) → NoStoreGives x → NoStoreGives y →
    BeginAlike Reads Leave LeaveOther a w v (event ∷ []) (x ∷ []) (event ∷ []) (y ∷ []) →
    (read : Event Reading) × IsReadAs Reads w.standing.machine event read × IsExceptionFor a w.standing.machine v.standing.machine (happens read)
