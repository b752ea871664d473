-- A template as the program keeps it.
use Rattle.std.specs.Prelude.{ℕ, List, map, slice_range, Option, Some, None}
use Rattle.statement_parameters.specs.declared.span.PartSpan.{PartSpan}
use Rattle.statement_parameters.specs.declared.span.PartSpans.{PartSpans}
use Rattle.statement_parameters.specs.Parts.{StatementPart, token, parameter}
use Rattle.statement_parameters.specs.Templates.{Fragment}

abbrev pub part_in : List ℕ → Option ℕ → ℕ → ℕ → StatementPart
part_in masked_text (Some n) start end = parameter n
part_in masked_text None start end = token (slice_range masked_text start end)

abbrev pub fragment_in : List ℕ → PartSpan → Fragment
fragment_in masked_text s = record { before = slice_range masked_text s.from s.start; part = part_in masked_text s.parameter s.start s.end }

abbrev pub fragments_in : List ℕ → List PartSpan → List Fragment
fragments_in masked_text spans = map (fragment_in masked_text) spans

abbrev pub viewed_spans : PartSpans → List Fragment
viewed_spans s = fragments_in s.masked.now s.spans.now
