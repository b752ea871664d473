use Rattle.std.proofs.Common.{◌≡◌, length, map}
use Rattle.postgres_texts.specs.Settings.{spelled_in}
use Rattle.postgres_texts.proofs.settings.spelled_in.Given as goal

abbrev pub invariant-loop-values : goal.invariant-loop-values
invariant-loop-values l = spelled_in (map (λ v. (v.0.now, v.1.now)) l.values) l.text ≡ spelled_in (map (λ v. (v.0.now, v.1.now)) l.initial.values) l.text

abbrev pub decreases-loop-values : goal.decreases-loop-values
decreases-loop-values l = length l.values
