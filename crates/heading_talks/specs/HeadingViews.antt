-- What the program has read at the front of a stream, as what stands there.
use Rattle.heading_talks.specs.declared.heading_frame.HeadingView.{HeadingView}
use Rattle.heading_talks.specs.declared.heading_frame.HeadingView.TheVariants as view
use Rattle.heading_talks.specs.HeadingFrames.{NextHeading, part, asks, other}

abbrev pub viewed_heading : HeadingView → NextHeading
viewed_heading view.Part = part
viewed_heading (view.Asks session text size) = asks session text.now size
viewed_heading view.Other = other
