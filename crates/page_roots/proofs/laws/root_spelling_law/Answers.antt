use Rattle.std.proofs.Common.{refl}
use Rattle.std.proofs.lemmas.Slice.Eq.{bytes_eq-Decides}
use Rattle.page_roots.specs.Sector.{zeros}
use Rattle.page_roots.proofs.Choosing.{parity_of}
use Rattle.page_roots.proofs.Spelled.{empty_at, root_at-root_bytes}
use Rattle.page_roots.proofs.laws.root_spelling_law.Goals as goal

pub returns-clause-read : goal.returns-clause-read
returns-clause-read c = root_at-root_bytes

pub returns-clause-parity : goal.returns-clause-parity
returns-clause-parity c = parity_of

pub returns-clause-empty : goal.returns-clause-empty
returns-clause-empty c sector = empty_at sector zeros ((bytes_eq-Decides zeros zeros).1 refl)
