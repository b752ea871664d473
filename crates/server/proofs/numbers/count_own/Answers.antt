use Rattle.std.proofs.Common.{length, refl, sym, ◌∙◌, ap, arith}
use Rattle.std.proofs.lemmas.List.{take_all}
use Rattle.abstract_database.specs.Machine.{client_of, own_sessions}
use Rattle.server.proofs.Clients.{ended, counted, passed_by}
use Rattle.server.proofs.numbers.count_own.Goals.{in-Some+then-client_of-client, in-Some+else-client_of-client, in_default}
use Rattle.server.proofs.numbers.count_own.Goals as goal

pub loop-place-init : goal.loop-place-init
loop-place-init c = record { own = refl; within = omega arith }

pub overflow_add-count : goal.overflow_add-count
overflow_add-count c =
    let within = c.loop-place.invariant.within in
    let place = c.loop-place-test.true in
    let small = c.len-place-end.ensures.small in
    omega (arith, within, place, small)

pub loop-place-preserved : goal.loop-place-preserved
loop-place-preserved c = elim c.match-get_index.branch [
  | in-Some+then-client_of-client w ↦ record {
    own = w.count-is ∙ counted (client_of c.args.number) c.args.sessions.now.entries c.loop-place.place c.loop-place.count (w.in-Some.other.now, w.in-Some.field-0-1.now) (sym w.in-Some.ensures.entry)
        (sym w.client_of.ensures ∙ w.if-client_of-client.true ∙ c.client_of-client.ensures) c.loop-place.invariant.own;
    within = (let is = w.count-is in let within = c.loop-place.invariant.within in omega (arith, is, within));
  }
  | in-Some+else-client_of-client w ↦ record {
    own = w.count-is ∙ passed_by (client_of c.args.number) c.args.sessions.now.entries c.loop-place.place c.loop-place.count (w.in-Some.other.now, w.in-Some.field-0-1.now) (sym w.in-Some.ensures.entry)
        (λ same. w.if-client_of-client.false (w.client_of.ensures ∙ same ∙ sym c.client_of-client.ensures)) c.loop-place.invariant.own;
    within = (let is = w.count-is in let within = c.loop-place.invariant.within in omega (arith, is, within));
  }
  | in_default w ↦ record {
    own = w.count-is ∙ c.loop-place.invariant.own
        ∙ sym (ap (λ l. length (own_sessions (client_of c.args.number) l)) (ended c.args.sessions.now.entries c.loop-place.place (sym w.in_default.ensures.entry)));
    within = (let is = w.count-is in let within = c.loop-place.invariant.within in omega (arith, is, within));
  }
]

pub returns : goal.returns
returns c = c.loop-place.invariant.own ∙ ap (λ l. length (own_sessions (client_of c.args.number) l))
    (take_all c.loop-place.place c.args.sessions.now.entries (let len = c.len-place-end.ensures.len in let past = c.loop-place-test.false in omega (arith, len, past)))
