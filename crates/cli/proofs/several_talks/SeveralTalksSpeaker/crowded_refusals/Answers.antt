use Rattle.cli.proofs.CrowdedSaid.{all_said}
use Rattle.cli.proofs.several_talks.SeveralTalksSpeaker.crowded_refusals.Goals as goal

pub returns : goal.returns
returns g c = all_said c.args.self.now.places.items c.loop-rest.rest.now c.loop-rest.all.items c.in_default.len_below c.loop-rest.invariant
