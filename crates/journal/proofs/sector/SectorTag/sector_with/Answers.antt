use Rattle.journal.specs.Sectors.{part_with}
use Rattle.journal.proofs.Written.{sector_written}
use Rattle.journal.proofs.sector.SectorTag.sector_with.Goals as goal

pub returns : goal.returns
returns c = sector_written (part_with c.args.self.now c.args.part.now) _ _ _ _ _ _ c.magic_then_zeros-bytes.ensures c.put_u64.ensures c.put_u64-2.ensures c.put_u16.ensures c.put_u16-2.ensures c.put_part.ensures
