-- Clients in memory, as a listener gives them and gets them back.
use Rattle.std.specs.Prelude.{ℕ, List, [], ◌∷◌, ◌++◌, Option, Some, None}
use Rattle.std.specs.declared.alloc.Global.{Global}
use Rattle.std.specs.declared.vec.Vec.{Vec}
use Rattle.wire.specs.Answers.{Known}
use Rattle.wire.specs.Listening.{Line, line_of}
use Rattle.wire.specs.declared.frame_sink.FrameSink.{FrameSink}
use Rattle.systems.specs.declared.listener.Clients.{Clients}
use Rattle.systems.specs.declared.listener.Clients.TheVariants as clients
use Rattle.systems.specs.declared.listener.MemReader.{MemReader}

-- a client that comes has been told nothing
abbrev pub coming_line : Option MemReader → Option Line
coming_line None = None
coming_line (Some reader) = Some (line_of (Some reader.sent.reader.items) (Some []))

abbrev pub coming_lines : List (Option MemReader) → List (Option Line)
coming_lines [] = []
coming_lines (client ∷ others) = coming_line client ∷ coming_lines others

-- those that were closed, in the order of their closing
abbrev pub closed_lines : (FrameSink (Vec ℕ Global) → Known) → Clients → List Line
closed_lines held clients.Nobody = []
closed_lines held (clients.Client' sent sink p others) = closed_lines held others ++ line_of (Some sent.reader.items) (held sink) ∷ []
