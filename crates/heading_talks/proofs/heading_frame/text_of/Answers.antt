use Rattle.std.proofs.Common.{inl, inr}
use Rattle.std.specs.Str.{is_utf8}
use Rattle.std.proofs.lemmas.Str.{IsUtf8-from_is_utf8, is_utf8-from_IsUtf8}
use Rattle.std.proofs.lemmas.Bool.{cases_Bool}
use Rattle.heading_talks.proofs.heading_frame.text_of.Goals as goal

pub returns-in-Ok : goal.returns-in-Ok
returns-in-Ok c = let e = c.in-Ok.ensures.cases in (e.0, is_utf8-from_IsUtf8 c.args.bytes.now e.1)

pub returns-in-Err : goal.returns-in-Err
returns-in-Err c = let e = c.in-Err.ensures.cases in elim (cases_Bool (is_utf8 c.args.bytes.now)) [
  | inl fits ↦ absurd (e.0 (IsUtf8-from_is_utf8 c.args.bytes.now fits))
  | inr unfit ↦ unfit
]
