-- A server as a machine of many clients.
use Rattle.std.specs.Prelude.{◌≡◌, true}
use Rattle.store.specs.Store.{StoreState}
use Rattle.abstract_database.specs.Runs.{ReadingRelation}
use Rattle.server.specs.Dropped.{lacks_role}
use Rattle.talks.specs.declared.machine.Machine.{Ghosts}
use Rattle.served_machine.specs.declared.machine.ServedMachine.{ServedMachine}
use Rattle.served_machine.specs.Sessions.{HasOwnSession, IsSoundServer}
use Rattle.served_machine.specs.Served.{TakesStep, TellsClient, ClosesOne}
use Rattle.served_machine.specs.Locks.{LocksOut, LetsIn, TakesLock, LeavesLock, IsHolder, MayLackMemory as MayLack}

-- what a served machine is to those who talk to it
abbrev pub machine_of : {S X : Type 0} → ReadingRelation → (S → StoreState) → Ghosts (ServedMachine S X)
machine_of Reads state = record {
  Steps = λ old c w r new. TakesStep Reads state c w r old.server new.server;
  Tells = λ old c w r new. TellsClient Reads state c w r old.server new.server;
  Closes = λ old c new. ClosesOne Reads state c old.server new.server;
  IsSound = λ m. IsSoundServer state m.server;
  moment = λ m. (state m.server.store).time.moment;
  stopped = λ m. m.server.stopped;
  Has = λ m c n login. HasOwnSession state m.server c n login;
  IsLockedOut = λ m c w. LocksOut Reads state m.server c w;
  IsFree = λ m c w. LetsIn Reads state m.server c w;
  AsksForLock = λ m c w. TakesLock Reads state m.server c w;
  AsksForNone = λ m c w. LeavesLock Reads state m.server c w;
  IsHeldBy = λ m c. IsHolder state m.server c;
  MayLackMemory = λ m c w. MayLack state m.server c w;
  LacksRole = λ m role. lacks_role m.server role ≡ true;
  MayHaveDropped = λ m. m.server.may_have_dropped ≡ true;
}
