-- What is answered while many clients are served, and when nobody is there any more.
use Rattle.std.specs.Prelude.{◌≡◌, List, [], ◌∷◌}
use Rattle.store.specs.Store.{StoreState}
use Rattle.abstract_database.specs.Runs.{ReadingRelation}
use Rattle.talks.specs.Clients.{LeavesNobody}
use Rattle.talks.specs.Turns.{Turn, TakesTurns}
use Rattle.talks.specs.declared.talk.Talk.{Ghosts as TalkGhosts}
use Rattle.talks.specs.declared.clients.ServedClients.{Ghosts as ClientsGhosts}
use Rattle.talks.specs.declared.serving.ServeEnd.{ServeEnd}
use Rattle.talks.specs.declared.serving.ServeEnd.TheVariants as served
use Rattle.served_machine.specs.declared.machine.ServedMachine.{ServedMachine}
use Rattle.served_machine.specs.Machines.{machine_of}
use Rattle.served_clients.specs.Taken.{Taken}
use Rattle.served_clients.specs.Spelled.{of_turns}
use Rattle.databases.specs.Lives.{of_client}
use Rattle.databases.specs.Answered.{Answered, nothing_answered}

-- the events that a server took, each of its client
abbrev pub of_taken : List Taken → Answered
of_taken [] = nothing_answered
of_taken (t ∷ taken) =
    let more = of_taken taken in
    record { events = of_client t.client t.event ∷ more.events; answers = t.answer ∷ more.answers; moments = t.moment ∷ more.moments }

-- all that was answered in these turns: the events that clients wanted, those that close what they have left open, and those that look-ups are
abbrev pub IsOfTurns : {S X T C : Type 0} (Reads : ReadingRelation) (state : S → StoreState) (t : TalkGhosts T) (k : ClientsGhosts C T)
    (old : ServedMachine S X) (before : C) (turns : List Turn) (new : ServedMachine S X) (after : C) → TakesTurns (machine_of Reads state) t k old before turns new after → Answered → Type 0
IsOfTurns Reads state t k old before turns new after took it = it ≡ of_taken (of_turns Reads state t k old before turns new after took)

-- it ended since nothing more was to be done, and so nobody is there any more
abbrev pub EndsWithNobody : ServeEnd → Type 0
EndsWithNobody (served.Ended finish) = LeavesNobody finish
EndsWithNobody served.TurnLimit = ⊥
