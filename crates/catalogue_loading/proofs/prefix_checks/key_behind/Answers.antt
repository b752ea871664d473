use Rattle.std.proofs.Common.{ℕ, length, refl}
use Rattle.std.proofs.lemmas.List.{drop-replicate}
use Rattle.catalogue_loading.proofs.prefix_checks.key_behind.Goals as goal

pub returns : goal.returns
returns c = rw (c.copy_from_slice.ensures.after, drop-replicate {X = ℕ} (length c.args.prefix.now) 206 255) refl
