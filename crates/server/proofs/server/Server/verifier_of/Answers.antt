use Rattle.std.proofs.Common.{◌≡◌, false, inl, inr, refl, sym, subst, Err}
use Rattle.sql_types.specs.declared.answer.Answer.TheVariants.{Refused}
use Rattle.sql_types.specs.declared.event.Event.TheVariants as event
use Rattle.sql_types.specs.declared.state.SqlState.TheVariants.{OutOfMemory, IoError}
use Rattle.store.proofs.Reading.{history_joined}
use Rattle.server.specs.LookUps.{Found, TakesOwn, IsAccepted, FindsKept, had_stopped, lacked_memory, was_refused}
use Rattle.server.proofs.Leaving.{still_runs, leaves}
use Rattle.server.proofs.LookingUp.{never_both, refused_finds, own_opening, found_before, looked_up, refused_running}
use Rattle.server.proofs.server.Server.verifier_of.Goals as goal

-- ---- nothing was done

pub returns-then-self-clause-looks : goal.returns-then-self-clause-looks
returns-then-self-clause-looks g c =
    had_stopped c.if-self.true refl refl

pub returns-then-self-clause-leaves : goal.returns-then-self-clause-leaves
returns-then-self-clause-leaves g c =
    leaves g.X.EventHandler.Reads g.S.Map.state c.args.role.now (Err IoError) c.args.self.now c.args.self.now (had_stopped c.if-self.true refl refl)

pub returns-in_default-clause-looks : goal.returns-in_default-clause-looks
returns-in_default-clause-looks g c =
    lacked_memory c.if-self.false refl refl

pub returns-in_default-clause-leaves : goal.returns-in_default-clause-leaves
returns-in_default-clause-leaves g c =
    leaves g.X.EventHandler.Reads g.S.Map.state c.args.role.now (Err OutOfMemory) c.args.self.now c.args.self.now (lacked_memory c.if-self.false refl refl)

-- ---- the opening was refused

pub returns-in-Refused-clause-stopped : goal.returns-in-Refused-clause-stopped
returns-in-Refused-clause-stopped g c is =
    absurd (never_both c.args.self.now.stopped c.if-self.false is)

pub returns-in-Refused-clause-running : goal.returns-in-Refused-clause-running
returns-in-Refused-clause-running g c stops =
    refused_running c.found_refused.result c.in-Refused.code c.step.result c.in-Refused.is c.found_refused.ensures (c.step.ensures.running stops)

pub returns-in-Refused-clause-looks : goal.returns-in-Refused-clause-looks
returns-in-Refused-clause-looks g c =
    was_refused c.in-Refused.code c.if-self.false c.found_refused.ensures
    (own_opening g.X.EventHandler.Reads g.S.Map.state c.args.table.now c.args.role.now c.args.self.now c.in-Ok.login c.step.result (Refused c.in-Refused.code) c.step.new.self
    c.in-Ok.ensures c.in-Refused.is c.step.ensures.history c.step.ensures.stopped c.step.ensures.running c.step.ensures.steps)

pub returns-in-Refused-clause-leaves : goal.returns-in-Refused-clause-leaves
returns-in-Refused-clause-leaves g c =
    leaves g.X.EventHandler.Reads g.S.Map.state c.args.role.now c.found_refused.result c.args.self.now c.step.new.self
    (was_refused c.in-Refused.code c.if-self.false c.found_refused.ensures
    (own_opening g.X.EventHandler.Reads g.S.Map.state c.args.table.now c.args.role.now c.args.self.now c.in-Ok.login c.step.result (Refused c.in-Refused.code) c.step.new.self
    c.in-Ok.ensures c.in-Refused.is c.step.ensures.history c.step.ensures.stopped c.step.ensures.running c.step.ensures.steps))

pub returns-in-Refused-clause-finds : goal.returns-in-Refused-clause-finds
returns-in-Refused-clause-finds g c =
    subst (λ (r : Found). FindsKept g.S.Map.state c.args.table.now c.args.role.now r c.args.self.now) (sym c.found_refused.ensures)
    (refused_finds g.X.EventHandler.Reads g.S.Map.state c.args.table.now c.args.role.now c.args.self.now c.in-Refused.code c.step.new.self
    (own_opening g.X.EventHandler.Reads g.S.Map.state c.args.table.now c.args.role.now c.args.self.now c.in-Ok.login c.step.result (Refused c.in-Refused.code) c.step.new.self
    c.in-Ok.ensures c.in-Refused.is c.step.ensures.history c.step.ensures.stopped c.step.ensures.running c.step.ensures.steps))

-- ---- a session was opened

pub returns-clause-history : goal.returns-clause-history
returns-clause-history g c =
    history_joined (g.S.Map.state c.args.self.now.store) (g.S.Map.state c.step.new.self.store) (g.S.Map.state c.read_in_session.new.self.store) c.step.ensures.history c.read_in_session.ensures.history

pub returns-clause-stopped : goal.returns-clause-stopped
returns-clause-stopped g c is =
    absurd (never_both c.args.self.now.stopped c.if-self.false is)

pub returns-clause-running : goal.returns-clause-running
returns-clause-running g c stops =
    let accepted : IsAccepted c.step.result = (λ code same. elim c.in-Rows.is [ inl rows ↦ cc | inr done ↦ cc ]) in
    let made : TakesOwn g.X.EventHandler.Reads g.S.Map.state (event.Open 0 c.args.role.now) c.step.result c.args.self.now c.step.new.self =
    own_opening g.X.EventHandler.Reads g.S.Map.state c.args.table.now c.args.role.now c.args.self.now c.in-Ok.login c.step.result c.step.result c.step.new.self
    c.in-Ok.ensures refl c.step.ensures.history c.step.ensures.stopped c.step.ensures.running c.step.ensures.steps in
    let works : c.step.new.self.stopped ≡ false = still_runs g.X.EventHandler.Reads g.S.Map.state c.args.role.now c.args.self.now c.step.result c.step.new.self accepted made in
    c.read_in_session.ensures.running works stops

pub returns-clause-looks : goal.returns-clause-looks
returns-clause-looks g c =
    let accepted : IsAccepted c.step.result = (λ code same. elim c.in-Rows.is [ inl rows ↦ cc | inr done ↦ cc ]) in
    let made : TakesOwn g.X.EventHandler.Reads g.S.Map.state (event.Open 0 c.args.role.now) c.step.result c.args.self.now c.step.new.self =
    own_opening g.X.EventHandler.Reads g.S.Map.state c.args.table.now c.args.role.now c.args.self.now c.in-Ok.login c.step.result c.step.result c.step.new.self
    c.in-Ok.ensures refl c.step.ensures.history c.step.ensures.stopped c.step.ensures.running c.step.ensures.steps in
    let works : c.step.new.self.stopped ≡ false = still_runs g.X.EventHandler.Reads g.S.Map.state c.args.role.now c.args.self.now c.step.result c.step.new.self accepted made in
    looked_up g.X.EventHandler.Reads g.S.Map.state c.args.table.now c.args.role.now c.args.self.now c.step.result c.step.new.self c.read_in_session.new.self c.read_in_session.result c.if-self.false accepted made (c.read_in_session.ensures.reads works)

pub returns-clause-leaves : goal.returns-clause-leaves
returns-clause-leaves g c =
    let accepted : IsAccepted c.step.result = (λ code same. elim c.in-Rows.is [ inl rows ↦ cc | inr done ↦ cc ]) in
    let made : TakesOwn g.X.EventHandler.Reads g.S.Map.state (event.Open 0 c.args.role.now) c.step.result c.args.self.now c.step.new.self =
    own_opening g.X.EventHandler.Reads g.S.Map.state c.args.table.now c.args.role.now c.args.self.now c.in-Ok.login c.step.result c.step.result c.step.new.self
    c.in-Ok.ensures refl c.step.ensures.history c.step.ensures.stopped c.step.ensures.running c.step.ensures.steps in
    let works : c.step.new.self.stopped ≡ false = still_runs g.X.EventHandler.Reads g.S.Map.state c.args.role.now c.args.self.now c.step.result c.step.new.self accepted made in
    leaves g.X.EventHandler.Reads g.S.Map.state c.args.role.now c.read_in_session.result c.args.self.now c.read_in_session.new.self
    (looked_up g.X.EventHandler.Reads g.S.Map.state c.args.table.now c.args.role.now c.args.self.now c.step.result c.step.new.self c.read_in_session.new.self c.read_in_session.result c.if-self.false accepted made (c.read_in_session.ensures.reads works))

pub returns-clause-finds : goal.returns-clause-finds
returns-clause-finds g c =
    let accepted : IsAccepted c.step.result = (λ code same. elim c.in-Rows.is [ inl rows ↦ cc | inr done ↦ cc ]) in
    let made : TakesOwn g.X.EventHandler.Reads g.S.Map.state (event.Open 0 c.args.role.now) c.step.result c.args.self.now c.step.new.self =
    own_opening g.X.EventHandler.Reads g.S.Map.state c.args.table.now c.args.role.now c.args.self.now c.in-Ok.login c.step.result c.step.result c.step.new.self
    c.in-Ok.ensures refl c.step.ensures.history c.step.ensures.stopped c.step.ensures.running c.step.ensures.steps in
    let works : c.step.new.self.stopped ≡ false = still_runs g.X.EventHandler.Reads g.S.Map.state c.args.role.now c.args.self.now c.step.result c.step.new.self accepted made in
    found_before g.X.EventHandler.Reads g.S.Map.state c.args.table.now c.args.role.now c.args.self.now c.step.result c.step.new.self c.read_in_session.result accepted made (c.read_in_session.ensures.finds works)
