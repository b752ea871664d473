use Rattle.std.proofs.Common.{inl, inr, refl, sym}
use Rattle.std.proofs.lemmas.Bool.Decides.{eqb_tells}
use Rattle.talks.specs.Turns.{ends, leaves}
use Rattle.talks.proofs.Turning.{stays_as_it_is}
use Rattle.talks.proofs.serving.leave.Goals as goal

pub returns-then-not-close_next : goal.returns-then-not-close_next
returns-then-not-close_next g c =
    let client = c.args.client in (
      ends client c.args.end_cause,
      (c.requires.ending, c.requires.leaving, c.requires.stopped, c.close_next.ensures.none c.if-not-close_next.true, c.close_next.ensures.kept c.if-not-close_next.true, c.close.ensures.gone, c.close.ensures.waiting, c.requires.cut_off, c.requires.expelled),
      record {
        passed = c.close.ensures.passed;
        alone = λ e is. elim (eqb_tells client e) [ inl same ↦ inr same.1 | inr other ↦ inl (c.close.ensures.alone e (λ same. other.1 (sym same)) is) ];
        contention = c.close.ensures.contention;
        maker = c.close.ensures.maker;
        expected = c.close.ensures.expected;
      },
    )

pub returns-else-not-close_next : goal.returns-else-not-close_next
returns-else-not-close_next g c = (
  leaves c.args.client,
  (c.requires.leaving, c.close_next.ensures.closed c.if-not-close_next.false, refl),
  stays_as_it_is g.M.Machine g.T.Talk g.C.ServedClients g.met.T.Talk.front_more g.met.T.Talk.bad_more c.close_next.new.self c.args.client c.args.clients.now,
)
