use Rattle.std.proofs.Common.{◌≡◌, ◌==◌, ◌&&◌, ◌∙◌, ℕ, Bool, refl, sym, ap, arith}
use Rattle.std.specs.List.{list_any}
use Rattle.std.proofs.lemmas.List.{take_all}
use Rattle.abstract_database.specs.Machine.{Session, client_of}
use Rattle.server.specs.Dropped.{lacks_role}
use Rattle.server.proofs.Clients.{ended}
use Rattle.server.proofs.Dropping.{none_more, one_passes}
use Rattle.server.proofs.server.Server.has_lost_role.Goals.{in-Some+else-is_lost, in_default}
use Rattle.server.proofs.server.Server.has_lost_role.Goals as goal

pub returns-then-is_lost : goal.returns-then-is_lost
returns-then-is_lost g c =
    let self = c.args.self.now in
    sym (one_passes (λ e. (client_of e.0 == c.args.client) && lacks_role self e.1.login) self.sessions.entries c.loop-place.place (c.in-Some.number.now, c.in-Some.session.now) (sym c.in-Some.ensures.entry)
    (sym c.is_lost.ensures ∙ c.if-is_lost.true))

pub loop-place-init : goal.loop-place-init
loop-place-init g c = refl

pub loop-place-preserved : goal.loop-place-preserved
loop-place-preserved g c =
    let entries = c.args.self.now.sessions.entries in
    let test : (ℕ × Session) → Bool = λ e. (client_of e.0 == c.args.client) && lacks_role c.args.self.now e.1.login in
    elim c.match-get_index.branch [
      | in-Some+else-is_lost w ↦ none_more test entries c.loop-place.place (w.in-Some.number.now, w.in-Some.session.now) (sym w.in-Some.ensures.entry) (sym w.is_lost.ensures ∙ w.if-is_lost.false) c.loop-place.invariant
      | in_default w ↦ ap (list_any test) (ended entries c.loop-place.place (sym w.in_default.ensures.entry)) ∙ c.loop-place.invariant
    ]

pub returns : goal.returns
returns g c =
    let self = c.args.self.now in
    let test : (ℕ × Session) → Bool = λ e. (client_of e.0 == c.args.client) && lacks_role self e.1.login in
    sym (sym (ap (list_any test) (take_all c.loop-place.place self.sessions.entries (let len = c.len-place-end.ensures.len in let past = c.loop-place-test.false in omega (arith, len, past)))) ∙ c.loop-place.invariant)
