use Rattle.std.proofs.Common.{◌≡◌, take, map}
use Rattle.postgres_talks.specs.Formats.{format_of}
use Rattle.postgres_talks.proofs.formats.formats_of.Given as goal

abbrev pub invariant-loop-code : goal.invariant-loop-code
invariant-loop-code l = l.formats.items ≡ map format_of (take l.code-index l.codes)
