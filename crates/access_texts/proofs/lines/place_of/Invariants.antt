use Rattle.std.proofs.Common.{◌≡◌, ◌+◌, length, map}
use Rattle.section_texts.specs.LineTexts.{texts_of}
use Rattle.access_texts.specs.Lines.{put_place}
use Rattle.access_texts.proofs.lines.place_of.Given as goal

-- the place so far, and the place among the lines that are left, are the place
abbrev pub invariant-loop-rest : goal.invariant-loop-rest
invariant-loop-rest l = record {
  place : l.place + put_place l.subject (map texts_of l.rest) ≡ put_place l.subject (map texts_of l.lines);
  within : l.place + length l.rest ≡ length l.lines;
}

abbrev pub decreases-loop-rest : goal.decreases-loop-rest
decreases-loop-rest l = length l.rest
