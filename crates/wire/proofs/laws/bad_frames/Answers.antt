use Rattle.std.proofs.Common.{refl}
use Rattle.std.specs.Str.{chars, is_utf8}
use Rattle.wire.specs.Frame.{next_frame}
use Rattle.wire.proofs.laws.bad_frames.Goals as goal

pub returns-clause-text : goal.returns-clause-text
unfolding next_frame is_utf8 chars
returns-clause-text c = refl
