use Rattle.wire.proofs.AnswerFrames.{frames_end, frames_more}
use Rattle.wire.proofs.laws.long_answers.Goals as goal

pub returns-clause-one : goal.returns-clause-one
returns-clause-one c = frames_end

pub returns-clause-more : goal.returns-clause-more
returns-clause-more c = frames_more
