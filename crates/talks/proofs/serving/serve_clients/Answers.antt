use Rattle.std.proofs.Common.{arith, refl, [], ◌∷◌, ◌++◌}
use Rattle.talks.proofs.Courses.{course}
use Rattle.talks.proofs.Sessions.{closed}
use Rattle.talks.proofs.Turning.{one_more, goes_none, turns_goes, turns_more, talked, went, expected_kept}
use Rattle.talks.proofs.serving.serve_clients.Goals as goal
use Rattle.talks.proofs.serving.serve_clients.Goals.{in-Step, in-Question, in-Left}

pub loop-init : goal.loop-init
loop-init g c = ([], (refl, goes_none g.M.Machine g.T.Talk g.C.ServedClients g.met.T.Talk.front_more g.met.T.Talk.bad_more c.args.clients.now), omega arith)

pub returns-in-Ended : goal.returns-in-Ended
returns-in-Ended g c =
    let m = g.M.Machine in
    let t = g.T.Talk in
    let k = g.C.ServedClients in
    let met = g.met.T.Talk in
    let laws = g.met.M.Machine in
    let turns = c.loop.invariant.0 in
    let old = c.args.machine.now in
    let before = c.args.clients.now in
    let new = c.loop.machine in
    let after = c.next-next.new.self in
    let it = c.in-Ended.ensures in
    let took = turns_goes m t k met.front_more met.bad_more old new before c.loop.clients after turns c.loop.invariant.1 (record { moved = it.moved; waiting = it.waiting; contention = it.contention; maker = it.maker; expected = it.expected }) in
    record {
      turns = turns;
      took = took;
      talked = talked m t k met.front_more met.bad_more old new before after turns took;
      course = course m t k old before turns new after took;
      went = went m t k met.front_more met.bad_more old new before after turns took;
      closed = closed m t k laws.steps_sound laws.tells_sound laws.closes_sound laws.steps_open laws.tells_open laws.closes_open laws.steps_stopped laws.tells_stopped laws.closes_stopped old before turns new after took;
      expected = expected_kept m t k met.front_more met.bad_more old new before after turns took;
      ended = it.next;
    }

pub returns : goal.returns
returns g c =
    let m = g.M.Machine in
    let t = g.T.Talk in
    let k = g.C.ServedClients in
    let met = g.met.T.Talk in
    let laws = g.met.M.Machine in
    let turns = c.loop.invariant.0 in
    let old = c.args.machine.now in
    let before = c.args.clients.now in
    let new = c.loop.machine in
    let after = c.loop.clients in
    let took = c.loop.invariant.1 in
    record {
      turns = turns;
      took = took;
      talked = talked m t k met.front_more met.bad_more old new before after turns took;
      course = course m t k old before turns new after took;
      went = went m t k met.front_more met.bad_more old new before after turns took;
      closed = closed m t k laws.steps_sound laws.tells_sound laws.closes_sound laws.steps_open laws.tells_open laws.closes_open laws.steps_stopped laws.tells_stopped laws.closes_stopped old before turns new after took;
      expected = expected_kept m t k met.front_more met.bad_more old new before after turns took;
      ended = omega (arith, c.loop.invariant.2);
    }

pub loop-preserved : goal.loop-preserved
loop-preserved g c =
    let m = g.M.Machine in
    let t = g.T.Talk in
    let k = g.C.ServedClients in
    let met = g.met.T.Talk in
    let turns = c.loop.invariant.0 in
    let old = c.args.machine.now in
    let before = c.args.clients.now in
    let seen = c.next-next.new.self in
    let it = c.next-next.ensures in
    let took = turns_goes m t k met.front_more met.bad_more old c.loop.machine before c.loop.clients seen turns c.loop.invariant.1 (record { moved = it.moved; waiting = it.waiting; contention = it.contention; maker = it.maker; expected = it.expected }) in
    elim c.match-next.branch [
      | in-Step w ↦ rw (w.machine-is, w.clients-is) (let turn = w.take_step.ensures in
          (turns ++ turn.0 ∷ [], turns_more m t k met.front_more met.bad_more old c.loop.machine w.take_step.new.machine before seen w.take_step.new.clients turns turn.0 took turn.1 turn.2, one_more c.loop.counter turns turn.0 c.loop.invariant.2))
      | in-Question w ↦ rw (w.machine-is, w.clients-is) (let turn = w.answer_question.ensures in
          (turns ++ turn.0 ∷ [], turns_more m t k met.front_more met.bad_more old c.loop.machine w.answer_question.new.machine before seen w.answer_question.new.clients turns turn.0 took turn.1 turn.2, one_more c.loop.counter turns turn.0 c.loop.invariant.2))
      | in-Left w ↦ rw (w.machine-is, w.clients-is) (let turn = w.leave.ensures in
          (turns ++ turn.0 ∷ [], turns_more m t k met.front_more met.bad_more old c.loop.machine w.leave.new.machine before seen w.leave.new.clients turns turn.0 took turn.1 turn.2, one_more c.loop.counter turns turn.0 c.loop.invariant.2))
    ]
