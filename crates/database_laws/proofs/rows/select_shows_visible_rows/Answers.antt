use Rattle.database_laws.proofs.SelectionLemmas.{is_shown}
use Rattle.std.proofs.Common.{refl}
use Rattle.database_laws.proofs.ProductLemmas.{product_in_order}
use Rattle.database_laws.proofs.KeyOrderLemmas.{sorted_by_keys}
use Rattle.database_laws.proofs.rows.select_shows_visible_rows.Goals as goal

pub returns-clause-shown : goal.returns-clause-shown
returns-clause-shown c = λ db users s e is. is_shown db users s e is

pub returns-clause-sorted : goal.returns-clause-sorted
returns-clause-sorted c = sorted_by_keys

pub returns-clause-product : goal.returns-clause-product
returns-clause-product c = (refl, product_in_order)
