use Rattle.std.proofs.Common.{take, map}
use Rattle.postgres_talks.specs.Moments.{setting_said}
use Rattle.postgres_talks.specs.Sayings.{Puts}
use Rattle.postgres_talks.proofs.telling.say_settings.Given as goal

abbrev pub invariant-loop-setting : goal.invariant-loop-setting
invariant-loop-setting l = Puts (map setting_said (take l.setting-index l.settings)) l.fn.said l.said
