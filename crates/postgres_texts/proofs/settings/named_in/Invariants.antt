use Rattle.std.proofs.Common.{◌≡◌, length}
use Rattle.postgres_texts.specs.Settings.{named_in}
use Rattle.postgres_texts.proofs.settings.named_in.Given as goal

abbrev pub invariant-loop-settings : goal.invariant-loop-settings
invariant-loop-settings l = named_in l.settings l.name ≡ named_in l.initial.settings l.name

abbrev pub decreases-loop-settings : goal.decreases-loop-settings
decreases-loop-settings l = length l.settings
