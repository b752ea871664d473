use Rattle.std.proofs.Common.{refl}
use Rattle.std.proofs.lemmas.Slice.Eq.{bytes_eq-Decides}
use Rattle.page_roots.specs.Sector.{zeros}
use Rattle.page_roots.proofs.Spelled.{empty_at}
use Rattle.page_roots.proofs.sector.empty_sector.Goals as goal

pub returns-clause-read : goal.returns-clause-read
returns-clause-read c sector = empty_at sector zeros ((bytes_eq-Decides zeros zeros).1 refl)
