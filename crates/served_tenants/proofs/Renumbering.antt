-- Where a server stands, once each client is numbered by its place.
use Rattle.std.specs.Prelude.{if◌then◌else◌}
use Rattle.std.proofs.Common.{◌≡◌, ◌∙◌, ℕ, Bool, true, false, not, Option, Some, None, IsSome, Ok, Err, refl, sym, ap, subst}
use Rattle.sql_types.specs.declared.answer.Answer.{Answer}
use Rattle.sql_types.specs.declared.event.Event.{Event}
use Rattle.sql_types.specs.declared.event.Event.TheVariants as event
use Rattle.sql_types.specs.declared.state.SqlState.TheVariants.{InsufficientPrivilege, InFailedTransaction, InvalidAuthorization, IoError}
use Rattle.sql_ast.specs.declared.description.StatementDescription.{StatementDescription}
use Rattle.sql_ast.specs.declared.description.StatementDescription.TheVariants.{Refused}
use Rattle.sql_ast.specs.declared.statement.Statement.TheVariants as statement
use Rattle.sql_ast.specs.declared.statement.DatabaseStatement.{DatabaseStatement}
use Rattle.expressions.specs.Stages.{◌>>=◌, require}
use Rattle.abstract_database.specs.Database.{Database, has_role}
use Rattle.abstract_database.specs.Descriptions.{describe, described_if, description_in, description_for, description}
use Rattle.abstract_database.specs.Machine.{Event as MachineEvent, opens, executes, closes, Machine, Holder, Session, Reading, number_in, has_failed, keeps_role, seen, session_of, users_of}
use Rattle.abstract_database.specs.Runs.{TheText, ReadingRelation, MayRead, At, Happens}
use Rattle.database_laws.specs.Invariants.{IsSound, HoldsOfHolder}
use Rattle.database_laws.specs.HiddenRuns.{AreSound}
use Rattle.database_laws.specs.ToldStores.{is_text_of}
use Rattle.client_laws.specs.Renumbered.{IsOneToOne, renumbered_holder, renumbered_machine, renumbered_event, renumbered_at}
use Rattle.client_laws.proofs.Numbers.{client_in, in_place}
use Rattle.client_laws.proofs.Lists.{session_so, seen_so}
use Rattle.client_laws.proofs.Stores.{happens_so}
use Rattle.server.specs.Standing.{event_of}
use Rattle.served_tenants.specs.Exchanges.{unsaid, CarriesOutAt}
use Rattle.served_tenants.specs.ServedTenants.{ClientsOfTenant, tenant_of}

-- ---- whose events and sessions are

pub own_session : (a : ClientsOfTenant) (c n : ℕ) (b : Bool) → a.clients c ≡ b → (tenant_of a).sessions (number_in c n) ≡ b
own_session a c n b own = ap a.clients (client_in c n) ∙ own

pub own_text : (a : ClientsOfTenant) (c : ℕ) (e : Event) (b : Bool) → a.clients c ≡ b → is_text_of (tenant_of a) (event_of c e) ≡ b
own_text a c (event.Open n login) b own = own_session a c n b own
own_text a c (event.Statement n text) b own = own_session a c n b own
own_text a c (event.Close n) b own = own_session a c n b own

-- ---- what is sound stays so

holder_sound : (place : ℕ → ℕ) (o : Option Holder) → HoldsOfHolder IsSound o → HoldsOfHolder IsSound (renumbered_holder place o)
holder_sound place None sound = tt
holder_sound place (Some h) sound = sound

pub sound_so : (place : ℕ → ℕ) (m : Machine) → AreSound m → AreSound (renumbered_machine place m)
sound_so place m sound = record { committed = sound.committed; holder = holder_sound place m.holder sound.holder }

-- in a session that sees this database
abbrev describe_seen : Session → DatabaseStatement → Database → StatementDescription
describe_seen s x db = described_if (do
  unfailed ← require (not (has_failed s.block)) InFailedTransaction
  authorized ← require (has_role db s.login) InvalidAuthorization
  require (keeps_role db s) InsufficientPrivilege) (describe db (users_of s) x)

module _ (place : ℕ → ℕ) (apart : IsOneToOne place) where
  abbrev rm : Machine → Machine
  rm = renumbered_machine place

  -- ---- events

  at_place : (c : ℕ) (e : Event) → renumbered_event place (event_of c e) ≡ event_of (place c) e
  at_place c (event.Open n login) = ap (λ (k : ℕ). opens k login) (in_place place c n)
  at_place c (event.Statement n text) = ap (λ (k : ℕ). executes k text) (in_place place c n)
  at_place c (event.Close n) = ap (λ (k : ℕ). closes k) (in_place place c n)

  pub lifted : (Reads : ReadingRelation) (w next : At) (c : ℕ) (e : Event) (p : Answer) → CarriesOutAt Reads w c e p next → CarriesOutAt Reads (renumbered_at place w) (place c) e p (renumbered_at place next)
  lifted Reads w next c e p it =
      subst (λ (x : MachineEvent TheText). Happens Reads unsaid (renumbered_at place w) x p (renumbered_at place next)) (at_place c e) (happens_so Reads place apart unsaid w (event_of c e) p next it)

  -- ---- sessions

  pub session_at : (c n : ℕ) (m : Machine) → session_of (number_in (place c) n) (rm m).sessions ≡ session_of (number_in c n) m.sessions
  session_at c n m = ap (λ (k : ℕ). session_of k (rm m).sessions) (sym (in_place place c n)) ∙ session_so place apart (number_in c n) m.sessions

  seen_at : (c n : ℕ) (m : Machine) → seen (rm m) (number_in (place c) n) ≡ seen m (number_in c n)
  seen_at c n m = ap (λ (k : ℕ). seen (rm m) k) (sym (in_place place c n)) ∙ seen_so place apart (number_in c n) m.holder m.committed

  in_session : (c n : ℕ) (m : Machine) (s : Session) (reading : Reading) → description_in (rm m) (number_in (place c) n) s reading ≡ description_in m (number_in c n) s reading
  in_session c n m s (Err code) = refl
  in_session c n m s (Ok (statement.OfSession x)) = refl
  in_session c n m s (Ok (statement.OnDatabase x)) = ap (describe_seen s x) (seen_at c n m)

  for_session : (c n : ℕ) (m : Machine) (reading : Reading) (o : Option Session) → description_for (rm m) (number_in (place c) n) reading o ≡ description_for m (number_in c n) reading o
  for_session c n m reading None = refl
  for_session c n m reading (Some s) = in_session c n m s reading

  pub described_at : (c n : ℕ) (m : Machine) (reading : Reading) → description (rm m) (number_in (place c) n) reading ≡ description m (number_in c n) reading
  described_at c n m reading =
      ap (λ (o : Option Session). if m.stopped then Refused IoError else description_for (rm m) (number_in (place c) n) reading o) (session_at c n m)
      ∙ ap (λ (d : StatementDescription). if m.stopped then Refused IoError else d) (for_session c n m reading (session_of (number_in c n) m.sessions))

-- ---- a text that is not read

pub one_description : (m : Machine) (n : ℕ) (x y : Reading) → (MayRead m n → x ≡ y) → description m n x ≡ description m n y
one_description m n x y same = by m.stopped refl where
  by_session : m.stopped ≡ false → (o : Option Session) → session_of n m.sessions ≡ o → description_for m n x o ≡ description_for m n y o
  by_session on None is = refl
  by_session on (Some s) is = ap (λ (r : Reading). description_in m n s r) (same (on, subst (λ (o : Option Session). IsSome o) (sym is) refl))

  by : (b : Bool) → m.stopped ≡ b → description m n x ≡ description m n y
  by true is =
      ap (λ (b : Bool). if b then Refused IoError else description_for m n x (session_of n m.sessions)) is
      ∙ sym (ap (λ (b : Bool). if b then Refused IoError else description_for m n y (session_of n m.sessions)) is)
  by false is = ap (λ (d : StatementDescription). if m.stopped then Refused IoError else d) (by_session is (session_of n m.sessions) refl)
