-- What the program has read of a message, as the frame that it is.
use Rattle.password_talks.specs.declared.early_frame.EarlyFrame.{EarlyFrame}
use Rattle.password_talks.specs.declared.early_frame.EarlyFrame.TheVariants as view
use Rattle.password_talks.specs.EarlyFrames.{TheFrame, begins, ends, event, bad}

abbrev pub viewed_frame : EarlyFrame → TheFrame
viewed_frame (view.Begins label role first) = begins label role.now first.now
viewed_frame (view.Ends label last) = ends label last.now
viewed_frame (view.Event session) = event session
viewed_frame view.Bad = bad
