use Rattle.std.proofs.Common.{refl}
use Rattle.stored_database.proofs.examples.records_by_the_byte.Goals as goal

pub returns : goal.returns
returns c = record { superuser = refl; role = refl; membership = refl; table = refl; descriptor = refl; record_format_1 = refl; public = refl; first_column = refl; fourth_column = refl; policy = refl; row = refl }
