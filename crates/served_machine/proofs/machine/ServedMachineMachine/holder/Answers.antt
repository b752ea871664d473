use Rattle.std.proofs.Common.{◌≡◌, ◌∙◌, Some, None, refl, ap, sym}
use Rattle.std.specs.Option.{option_map}
use Rattle.server.specs.declared.numbers.ClientSession.{ClientSession}
use Rattle.served_machine.proofs.Holding.{whose}
use Rattle.served_machine.proofs.machine.ServedMachineMachine.holder.Goals as goal

pub returns-in-Some : goal.returns-in-Some
returns-in-Some g c = (
  (λ stopped. let never : None ≡ Some c.in-Some.holder = sym (c.holder.ensures.stopped stopped) ∙ c.in-Some.is in absurd (cc)),
  (λ runs w here. sym (ap (option_map (λ (x : ClientSession). x.client)) c.in-Some.is) ∙ whose w.standing.machine.holder c.holder.result (c.holder.ensures.running runs w here)),
)

pub returns-in-None : goal.returns-in-None
returns-in-None g c = (
  (λ stopped. refl),
  (λ runs w here. sym (ap (option_map (λ (x : ClientSession). x.client)) c.in-None.is) ∙ whose w.standing.machine.holder c.holder.result (c.holder.ensures.running runs w here)),
)
