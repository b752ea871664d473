-- The conversation in Guarddb's frames, as what it says and wants.
use Rattle.std.proofs.Common.{◌≡◌, None}
use Rattle.talks.specs.declared.talk.Talk.{Ghosts}
use Rattle.talks.specs.declared.want.Want.TheVariants as want
use Rattle.wire.specs.Frame.{next_frame}
use Rattle.frame_talks.specs.declared.frame_talk.FrameTalk.{FrameTalk}
use Rattle.frame_talks.specs.FrameTalks.{front_of, HearsFrame, RefusesFrame, asked_session, said_to}

abbrev pub frames : Ghosts FrameTalk
frames = record {
  starts = λ t. t.want ≡ want.Message;
  wants = λ t. t.want;
  front = λ t bytes. front_of (next_frame bytes);
  hears = λ t message said u. HearsFrame (next_frame message) said u.want;
  rejects = λ t said u. RefusesFrame said u.want;
  learns = λ t reply said u. (said ≡ said_to (asked_session t.want) reply) × (u.want ≡ want.Message);
  comes_as = λ t. None;
}
