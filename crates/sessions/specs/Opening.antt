-- What a decision makes of the machine of a server that works, for the opening of a session.
use Rattle.std.specs.Prelude.{◌≡◌, ℕ, Option}
use Rattle.abstract_database.specs.Lists.{TheName}
use Rattle.abstract_database.specs.Database.{Database}
use Rattle.abstract_database.specs.Machine.{Holder, Transition, transition_to, opens, open_session, with_session}
use Rattle.abstract_database.specs.Runs.{MayRunOutOfMemory}
use Rattle.server.specs.declared.decision.Decision.{Decision}
use Rattle.server.specs.declared.decision.Decision.TheVariants as decision
use Rattle.server.specs.declared.decision.SessionChange.TheVariants as change
use Rattle.server.specs.Standing.{HoldsInBlock}
use Rattle.server.specs.Decisions.{Entries, machine_at}

-- doing the decision is this transition, and a holder is still in a block: nothing changes, or a session is opened
abbrev pub OpensBy : Database → Option Holder → Entries → ℕ → TheName → Transition → Decision → Type 0
OpensBy db holder sessions number login t (decision.Answer answer change.Keep) = t ≡ transition_to answer (machine_at db holder sessions)
OpensBy db holder sessions number login t (decision.Open answer at s) =
    MayRunOutOfMemory (machine_at db holder sessions) (opens number login) × HoldsInBlock holder (with_session sessions at s)
    × (t ≡ transition_to answer (machine_at db holder (with_session sessions at s)))
OpensBy db holder sessions number login t _ = ⊥

-- doing the decision is the opening of a session of this number for this role
abbrev pub Opens : Database → Option Holder → Entries → ℕ → TheName → Decision → Type 0
Opens db holder sessions number login what = OpensBy db holder sessions number login (open_session (machine_at db holder sessions) number login) what
