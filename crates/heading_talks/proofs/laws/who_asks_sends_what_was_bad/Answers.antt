use Rattle.heading_talks.proofs.Fronts.{asks_bad}
use Rattle.heading_talks.proofs.laws.who_asks_sends_what_was_bad.Goals as goal

pub returns : goal.returns
returns c bytes text session size is = asks_bad bytes text session size is
