use Rattle.std.proofs.Common.{drop, refl}
use Rattle.journal.specs.Sectors.{part_with}
use Rattle.journal.proofs.Opening.{sound_part}
use Rattle.journal.proofs.chain.is_sound.Goals as goal

pub returns-in-Part : goal.returns-in-Part
returns-in-Part c =
    sound_part c.args.root c.args.room c.args.end c.args.place c.args.sector.now c.in-Part.tag c.may_stand.result c.in-Part.ensures.exact
    ((c.in-Part.ensures.found (part_with c.in-Part.tag (drop 24 c.args.sector.now))).0 refl).0.in_range c.may_stand.ensures
