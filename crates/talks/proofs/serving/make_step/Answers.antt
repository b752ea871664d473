use Rattle.std.proofs.Common.{inl, refl, sym, subst}
use Rattle.std.proofs.lemmas.List.{append-nil}
use Rattle.std.specs.Prelude.{List, []}
use Rattle.talks.specs.Wants.{Learnt, WantsStep}
use Rattle.talks.specs.Conversations.{wanted, Passes}
use Rattle.talks.specs.Turns.{steps, MayGo, learnt_of}
use Rattle.talks.proofs.Turning.{same_want, exchange}
use Rattle.talks.proofs.serving.make_step.Goals as goal

pub returns : goal.returns
returns g c =
    let w = c.want.result.now in
    let client = c.args.client in
    let at = g.C.ServedClients.at in
    let wants = wanted g.T.Talk (at c.args.clients.now client) in
    let d = exchange client w c.step-reply.result in (
      steps d [],
      (
        (
          c.step-reply.new.self,
          c.want.ensures,
          same_want WantsStep wants c.requires.0 w c.requires.1 c.want.ensures c.requires.2,
          inl (same_want (MayGo g.M.Machine g.T.Talk g.C.ServedClients c.args.machine.now c.args.clients.now client) wants c.requires.0 w c.requires.1 c.want.ensures c.requires.3),
          c.step-reply.ensures.steps,
          refl,
          λ dropped. refl,
        ),
        (c.learn.new.self, c.learn.ensures.learnt, refl),
        c.learn.ensures.waiting,
        (c.requires.4, tt),
        c.requires.5,
      ),
      record {
        passed = λ e. subst (λ (xs : List Learnt). Passes g.T.Talk (g.C.ServedClients.makes (g.C.ServedClients.maker c.args.clients.now)) (at c.args.clients.now e) xs (at c.learn.new.self e)) (sym (append-nil (learnt_of e d))) (c.learn.ensures.passed w c.want.ensures e);
        alone = λ e is. inl (c.learn.ensures.gone e is);
        contention = (g.C.ServedClients.contention c.learn.new.self, c.learn.ensures.contention, refl);
        maker = c.learn.ensures.maker;
        expected = c.learn.ensures.expected;
      },
    )
