-- What is wanted where a message is.
use Rattle.std.proofs.Common.{◌≡◌}
use Rattle.talks.specs.declared.want.Want.{Want}
use Rattle.talks.specs.declared.want.Want.TheVariants as want
use Rattle.heading_talks.specs.HeadingTalks.{asked_session, wanted}

-- then nothing was asked, and the conversation inside wants one
pub inner_message : (q w : Want) → wanted (asked_session q) q w ≡ want.Message → w ≡ want.Message
inner_message want.Message w h = h
inner_message (want.Event e) w h = h
inner_message (want.Open session login entry) w h = h
inner_message (want.Standing session) w h = h
inner_message (want.Description session text) w h = cc
inner_message (want.Verifier table role) w h = h
inner_message (want.End late) w h = h
inner_message want.OutOfMemory w h = h

pub inner_lost : (q w : Want) → wanted (asked_session q) q w ≡ want.OutOfMemory → w ≡ want.OutOfMemory
inner_lost want.Message w h = h
inner_lost (want.Event e) w h = h
inner_lost (want.Open session login entry) w h = h
inner_lost (want.Standing session) w h = h
inner_lost (want.Description session text) w h = cc
inner_lost (want.Verifier table role) w h = h
inner_lost (want.End late) w h = h
inner_lost want.OutOfMemory w h = h
