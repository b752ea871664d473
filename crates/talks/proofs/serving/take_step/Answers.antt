use Rattle.std.proofs.Common.{◌∙◌, Bool, Result, Ok, inl, refl, ap, subst}
use Rattle.std.specs.declared.alloc.AllocError.{AllocError}
use Rattle.talks.specs.Wants.{TellsWhether}
use Rattle.talks.specs.Turns.{waits, MayGo, MustWait}
use Rattle.talks.proofs.serving.take_step.Goals as goal

pub returns-in-Ok-false : goal.returns-in-Ok-false
returns-in-Ok-false g c =
    let client = c.args.client in
    let machine = c.args.machine.now in
    let clients = c.args.clients.now in
    let w = c.requires.0 in
    let told = c.in-Ok-false.is ∙ ap (λ (b : Bool). Ok b) c.in-Ok-false.field-0-test in (
      waits client w,
      (
        c.requires.1,
        subst (λ (r : Result Bool AllocError). TellsWhether (MayGo g.M.Machine g.T.Talk g.C.ServedClients machine clients client w) (MustWait g.M.Machine g.T.Talk g.C.ServedClients machine clients client w)
            (g.M.Machine.MayLackMemory machine client w) r) told (c.may_go.ensures w c.requires.1),
        refl,
        c.hold_back.ensures.waiting,
        c.requires.3,
        c.requires.4,
      ),
      record { passed = c.hold_back.ensures.moved.passed; alone = λ e is. inl (c.hold_back.ensures.moved.gone e is); contention = c.hold_back.ensures.contention; maker = c.hold_back.ensures.maker; expected = c.hold_back.ensures.expected },
    )
