-- What an event is answered that was attempted, and the server then.
use Rattle.std.specs.Prelude.{true, Result, Ok, Err}
use Rattle.sql_types.specs.declared.answer.Answer.{Answer}
use Rattle.sql_types.specs.declared.answer.Answer.TheVariants.{Refused}
use Rattle.sql_types.specs.declared.state.SqlState.{SqlState}
use Rattle.sql_types.specs.declared.state.SqlState.TheVariants.{OutOfMemory, DiskFull, ProgramLimitExceeded, IoError}
use Rattle.store.specs.declared.fault.StoreFault.{StoreFault}
use Rattle.store.specs.declared.fault.StoreFault.TheVariants.{Memory, Full, Number, Device}
use Rattle.server.specs.declared.server.Server.{Server}

-- what an event is refused with for a fault
abbrev pub code_of : StoreFault → SqlState
code_of Memory = OutOfMemory
code_of Full = DiskFull
code_of Number = ProgramLimitExceeded
code_of Device = IoError

abbrev pub answer_to : Result Answer StoreFault → Answer
answer_to (Ok answer) = answer
answer_to (Err fault) = Refused (code_of fault)

-- the server then: where its device failed it stops
abbrev pub after_fault : {S X : Type 0} → StoreFault → Server S X → Server S X
after_fault Memory server = server
after_fault Full server = server
after_fault Number server = server
after_fault Device server = record server { stopped = true }

abbrev pub after_attempt : {S X : Type 0} → Result Answer StoreFault → Server S X → Server S X
after_attempt (Ok answer) server = server
after_attempt (Err fault) server = after_fault fault server
