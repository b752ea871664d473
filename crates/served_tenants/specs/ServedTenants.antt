-- What two servers of many clients tell a tenant, each over a store of its own.
use Rattle.std.specs.Prelude.{◌≡◌, ◌⊎◌, ℕ, Bool, true, false, List, [], ◌∷◌, filter, Err}
use Rattle.sql_types.specs.declared.answer.Answer.{Answer}
use Rattle.sql_types.specs.declared.answer.Answer.TheVariants.{Refused}
use Rattle.sql_types.specs.declared.event.Event.{Event}
use Rattle.sql_types.specs.declared.event.Event.TheVariants as event
use Rattle.sql_types.specs.declared.state.SqlState.{SqlState}
use Rattle.sql_types.specs.declared.state.SqlState.TheVariants.{OutOfMemory, IoError}
use Rattle.sql_ast.specs.declared.description.StatementDescription.TheVariants as describes
use Rattle.store.specs.Store.{StoreState}
use Rattle.abstract_database.specs.Database.{Database}
use Rattle.abstract_database.specs.Lists.{TheName}
use Rattle.abstract_database.specs.Machine.{Event as MachineEvent, Reading, Machine, machine_over, client_of}
use Rattle.abstract_database.specs.Roles.{may_log_in}
use Rattle.abstract_database.specs.Runs.{TheText, ReadingRelation, IsReadAs, At}
use Rattle.abstract_database.specs.Statements.{UserPair}
use Rattle.kept_verifiers.specs.Verifiers.{kept_text}
use Rattle.database_laws.specs.HiddenRuns.{SameApparentRowsForPairs, as_itself, IsInPlace}
use Rattle.database_laws.specs.Runs.{ReadsOnce}
use Rattle.database_laws.specs.Told.{Tenant, IsAlikeTo, happens, IsExceptionFor}
use Rattle.database_laws.specs.ToldStores.{AreRefusedAlike}
use Rattle.client_laws.specs.Renumbered.{IsOneToOne, renumbered_machine}
use Rattle.server.specs.Standing.{event_of}
use Rattle.server.specs.LookUps.{look_up_client}
use Rattle.talks.specs.declared.want.Want.{Want}
use Rattle.talks.specs.declared.want.Want.TheVariants as want
use Rattle.talks.specs.declared.want.Reply.{Reply}
use Rattle.talks.specs.declared.want.Reply.TheVariants as reply
use Rattle.talks.specs.declared.talk.Talk.{Ghosts as TalkGhosts}
use Rattle.talks.specs.declared.clients.ServedClients.{Ghosts as ClientsGhosts}
use Rattle.talks.specs.Turns.{Exchange, Turn, TakesTurns}
use Rattle.served_machine.specs.declared.machine.ServedMachine.{ServedMachine}
use Rattle.served_machine.specs.Entries.{admits}
use Rattle.served_machine.specs.Machines.{machine_of}
use Rattle.served_tenants.specs.Exchanges.{Replies, Exchanges, exchanges_of, HasServed}

-- ---- a tenant

-- the pairs of users as which a tenant acts, and its clients, by the places that these have in both runs
pub record ClientsOfTenant : Type 0 where
  pub pairs : UserPair → Bool
  pub clients : ℕ → Bool

-- all sessions of its clients are the tenant's
abbrev pub tenant_of : ClientsOfTenant → Tenant
tenant_of a = record { pairs = a.pairs; sessions = λ number. a.clients (client_of number) }

-- once each client is numbered by its place, where two servers stand looks alike to the tenant
abbrev pub SeemAlike : ClientsOfTenant → (place place_there : ℕ → ℕ) → At → At → Type 0
SeemAlike a place place_there w v = IsAlikeTo (tenant_of a) (renumbered_machine place w.standing.machine) (renumbered_machine place_there v.standing.machine)

-- ---- one run

module _ (a : ClientsOfTenant) (place : ℕ → ℕ) where
  abbrev pub is_own : Exchange → Bool
  is_own x = a.clients (place x.client)

  abbrev pub own_exchanges : List Exchange → List Exchange
  own_exchanges xs = filter is_own xs

  -- the sessions in which the server looks verifiers up, which are no client's, count as the tenant's
  abbrev pub HasLookUpSessions : Type 0
  HasLookUpSessions = a.clients (place look_up_client) ≡ true

  -- the tenant opens its sessions for its own login roles alone, but for attempts that are refused
  abbrev pub OpensItsOwn : Machine → Want → Type 0
  OpensItsOwn m (want.Open n login entry) = admits m.committed entry login ≡ true → may_log_in m.committed login ≡ true → a.pairs (as_itself login) ≡ true
  OpensItsOwn m _ = Unit {0}

  -- what others do leaves what is committed as it looks to all that the tenant acts as
  abbrev pub OthersOutOfSight : (Reads : ReadingRelation) (w : At) (xs : List Exchange) (end : At) → Exchanges Reads w xs end → Type 0
  OthersOutOfSight Reads w [] end made = Unit {0}
  OthersOutOfSight Reads w (x ∷ xs) end made =
      ((is_own x ≡ true → OpensItsOwn w.standing.machine x.want) × (is_own x ≡ false → SameApparentRowsForPairs a.pairs w.standing.machine.committed made.0.standing.machine.committed))
      × OthersOutOfSight Reads made.0 xs end made.2

-- ---- two runs

-- a client at one place wants the same
abbrev pub AreAskedAlike : (place place_there : ℕ → ℕ) → Exchange → Exchange → Type 0
AreAskedAlike place place_there x y = (place x.client ≡ place_there y.client) × (x.want ≡ y.want)

-- the tenant's clients want the same, in one order over all of them, for as long as they are told the same and both runs go on
abbrev pub AskAlike : (place place_there : ℕ → ℕ) → List Exchange → List Exchange → Type 0
AskAlike place place_there [] ys = Unit {0}
AskAlike place place_there (x ∷ xs) [] = Unit {0}
AskAlike place place_there (x ∷ xs) (y ∷ ys) = AreAskedAlike place place_there x y × (x.reply ≡ y.reply → AskAlike place place_there xs ys)

-- ---- where two runs may part

-- this is the event that is wanted
abbrev pub IsEventOf : Want → Event → Type 0
IsEventOf (want.Event f) e = e ≡ f
IsEventOf (want.Open n login entry) e = e ≡ event.Open n login
IsEventOf _ e = ⊥

-- memory is refused to what may be refused it before the server is asked: the opening of a session, or a description
abbrev pub LacksMemory : Want → Reply → Type 0
LacksMemory (want.Open n login entry) r = r ≡ reply.Answer (Refused OutOfMemory)
LacksMemory (want.Description n text) r = r ≡ reply.Description (describes.Refused OutOfMemory)
LacksMemory _ r = ⊥

-- a verifier was not looked up
abbrev pub FailsToLookUp : Reply → Type 0
FailsToLookUp r = (code : SqlState) × (r ≡ reply.Verifier (Err code))

-- the device of the server has failed in this
abbrev pub DeviceFailed : Reply → Type 0
DeviceFailed r = (r ≡ reply.Answer (Refused IoError)) ⊎ (r ≡ reply.Verifier (Err IoError))

module _ (Reads : ReadingRelation) (a : ClientsOfTenant) (place place_there : ℕ → ℕ) where
  -- An event of the tenant, by its client's place, which both servers carry out from here, with these answers: it is an exception of the laws of
  -- machines, or a store refuses it in place of the machine; and not both refuse it alike
  pub data PartsAtEvent (w next v later : At) (e : MachineEvent TheText) (p q : Answer) : Type 0 where
    at_exception : (read : MachineEvent Reading) → IsReadAs Reads (renumbered_machine place w.standing.machine) e read →
        IsExceptionFor (tenant_of a) (renumbered_machine place w.standing.machine) (renumbered_machine place_there v.standing.machine) (happens read) → (AreRefusedAlike Reads e p q → ⊥) → PartsAtEvent w next v later e p q
    at_refusal : IsInPlace w.counts next.counts p ⊎ IsInPlace v.counts later.counts q → (AreRefusedAlike Reads e p q → ⊥) → PartsAtEvent w next v later e p q

  -- What a client at this place wants in both runs may part them: as such an event; where memory is refused to it in one run alone; as the
  -- look-up of a verifier that failed, or that the tables of both keep otherwise, where the replies differ; or as one in which the devices of
  -- both have failed, if the sessions of look-ups count as the tenant's
  pub data MayPart (w next v later : At) (c : ℕ) (x : Want) (r s : Reply) : Type 0 where
    by_event : (e : Event) (p q : Answer) → IsEventOf x e → r ≡ reply.Answer p → s ≡ reply.Answer q → PartsAtEvent w next v later (event_of c e) p q → MayPart w next v later c x r s
    for_memory : LacksMemory x r ⊎ LacksMemory x s → (r ≡ s → ⊥) → MayPart w next v later c x r s
    by_look_up : (table role : TheName) → x ≡ want.Verifier table role →
        FailsToLookUp r ⊎ FailsToLookUp s ⊎ (kept_text w.standing.machine.committed table role ≡ kept_text v.standing.machine.committed table role → ⊥) → (r ≡ s → ⊥) → MayPart w next v later c x r s
    in_look_up_session : (table role : TheName) → x ≡ want.Verifier table role → w.standing.machine.stopped ≡ false → v.standing.machine.stopped ≡ false →
        r ≡ reply.Verifier (Err IoError) → s ≡ reply.Verifier (Err IoError) → HasLookUpSessions a place ⊎ HasLookUpSessions a place_there → MayPart w next v later c x r s

  -- From where two servers stand, their exchanges tell the tenant alike: each of its own is the same in both, client by place, up to the end of
  -- one run, or to the first at which they may part, or at which the device fails under another
  pub data TellAlike : At → At → List Exchange → List Exchange → Type 0 where
    over_here : {w v : At} {ys : List Exchange} → SeemAlike a place place_there w v → TellAlike w v [] ys
    over_there : {w v : At} {xs : List Exchange} → SeemAlike a place place_there w v → TellAlike w v xs []
    told_alike : (next later : At) {w v : At} {x y : Exchange} {xs ys : List Exchange} → is_own a place x ≡ true → AreAskedAlike place place_there x y → x.reply ≡ y.reply →
        Replies Reads w x.client x.want x.reply next → Replies Reads v y.client y.want y.reply later → TellAlike next later xs ys → TellAlike w v (x ∷ xs) (y ∷ ys)
    told_apart : (next later : At) {w v : At} {x y : Exchange} {xs ys : List Exchange} → is_own a place x ≡ true → AreAskedAlike place place_there x y →
        Replies Reads w x.client x.want x.reply next → Replies Reads v y.client y.want y.reply later → MayPart w next v later (place x.client) x.want x.reply y.reply → TellAlike w v (x ∷ xs) (y ∷ ys)
    untold_here : (next : At) {w v : At} {x : Exchange} {xs ys : List Exchange} → is_own a place x ≡ false → Replies Reads w x.client x.want x.reply next → TellAlike next v xs ys → TellAlike w v (x ∷ xs) ys
    untold_there : (later : At) {w v : At} {y : Exchange} {xs ys : List Exchange} → is_own a place_there y ≡ false → Replies Reads v y.client y.want y.reply later → TellAlike w later xs ys → TellAlike w v xs (y ∷ ys)
    failed_here : {w v : At} {x : Exchange} {xs ys : List Exchange} → is_own a place x ≡ false → DeviceFailed x.reply → TellAlike w v (x ∷ xs) ys
    failed_there : {w v : At} {y : Exchange} {xs ys : List Exchange} → is_own a place_there y ≡ false → DeviceFailed y.reply → TellAlike w v xs (y ∷ ys)

-- ---- the law

-- Two servers stand where it looks alike to a tenant, and take turns for clients. Others keep out of its sight in both. Its clients want the same,
-- in one order over all of them, for as long as they are told the same. Then they are told the same, up to where the runs may part
abbrev pub servers_tell_clients : (S Z X Y T U C D : Type 0) (Reads : ReadingRelation) (state : S → StoreState) (state_there : Z → StoreState) (t : TalkGhosts T) (u : TalkGhosts U) (k : ClientsGhosts C T) (j : ClientsGhosts D U) → Type 0
servers_tell_clients S Z X Y T U C D Reads state state_there t u k j = ReadsOnce Reads → (a : ClientsOfTenant) (place place_there : ℕ → ℕ) → IsOneToOne place → IsOneToOne place_there → (w v : At) → SeemAlike a place place_there w v →
    (old : ServedMachine S X) (before : C) (turns : List Turn) (new : ServedMachine S X) (after : C) (took : TakesTurns (machine_of Reads state) t k old before turns new after) →
    (old_there : ServedMachine Z Y) (before_there : D) (turns_there : List Turn) (new_there : ServedMachine Z Y) (after_there : D) (took_there : TakesTurns (machine_of Reads state_there) u j old_there before_there turns_there new_there after_there) →
    (here : HasServed Reads state t k w old before turns new after took) (there : HasServed Reads state_there u j v old_there before_there turns_there new_there after_there took_there) →
    let xs = exchanges_of Reads state t k old before turns new after took in
    let ys = exchanges_of Reads state_there u j old_there before_there turns_there new_there after_there took_there in
    OthersOutOfSight a place Reads w xs here.end here.made → OthersOutOfSight a place_there Reads v ys there.end there.made →
    AskAlike place place_there (own_exchanges a place xs) (own_exchanges a place_there ys) →
    TellAlike Reads a place place_there w v xs ys

-- two servers with no session open, over databases which look alike to the tenant, stand so, whatever the places
abbrev pub opened_servers_look_alike : Type 0
opened_servers_look_alike = (a : ClientsOfTenant) (place place_there : ℕ → ℕ) (w v : At) (d e : Database) → w.standing.machine ≡ machine_over d → v.standing.machine ≡ machine_over e →
    SameApparentRowsForPairs a.pairs d e → SeemAlike a place place_there w v
