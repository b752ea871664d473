-- What the program has read at the front of a stream, as what stands there.
use Rattle.sql_types.specs.declared.event.Event.{Event}
use Rattle.sql_types.specs.declared.event.Event.TheVariants as event
use Rattle.wire.specs.declared.frame_view.EventView.{EventView}
use Rattle.wire.specs.declared.frame_view.EventView.TheVariants as event_view
use Rattle.wire.specs.declared.frame_view.FrameView.{FrameView}
use Rattle.wire.specs.declared.frame_view.FrameView.TheVariants as frame_view
use Rattle.wire.specs.Frame.{NextFrame, incomplete, bad, whole}

abbrev pub viewed_event : EventView → Event
viewed_event (event_view.Open session login) = event.Open session login.now
viewed_event (event_view.Statement session text) = event.Statement session text.now
viewed_event (event_view.Close session) = event.Close session

abbrev pub viewed_frame : FrameView → NextFrame
viewed_frame frame_view.Incomplete = incomplete
viewed_frame frame_view.Bad = bad
viewed_frame (frame_view.Whole view size) = whole (viewed_event view) size
