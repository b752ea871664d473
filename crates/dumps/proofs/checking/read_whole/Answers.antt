use Rattle.sector_device.specs.Device.{history_joined}
use Rattle.cow_pages.specs.ReadingLaws.{reads_joined}
use Rattle.dumps.proofs.WholeReads.{unread_since, whole_read}
use Rattle.dumps.proofs.checking.read_whole.Goals as goal

pub returns-clause-history : goal.returns-clause-history
returns-clause-history g c = history_joined (g.D.Device.state c.args.dump.now) (g.D.Device.state c.read_head.new.device) (g.D.Device.state c.read_to_end.new.dump) c.read_head.ensures.history c.read_to_end.ensures.history

pub returns-clause-content : goal.returns-clause-content
returns-clause-content g c = λ faithful.
    let history = c.read_head.ensures.history in
    reads_joined (g.D.Device.state c.args.dump.now) (g.D.Device.state c.read_head.new.device) (g.D.Device.state c.read_to_end.new.dump) history (c.read_head.ensures.content faithful) (c.read_to_end.ensures.content (history.faithful faithful))

pub returns-clause-whole : goal.returns-clause-whole
returns-clause-whole g c = λ faithful.
    let old = g.D.Device.state c.args.dump.now in
    let mid = g.D.Device.state c.read_head.new.device in
    let history = c.read_head.ensures.history in
    whole_read old mid c.in-Ok.begun.0 c.in-Ok.begun.1 c.read_to_end.result history (c.read_head.ensures.content faithful) (c.in-Ok.ensures.begun faithful)
    (λ before hashed within. c.read_to_end.ensures.whole (history.faithful faithful) before hashed within)

pub returns-clause-refused : goal.returns-clause-refused
returns-clause-refused g c = λ faithful it holds.
    let old = g.D.Device.state c.args.dump.now in
    let mid = g.D.Device.state c.read_head.new.device in
    let new = g.D.Device.state c.read_to_end.new.dump in
    let history = c.read_head.ensures.history in
    let begun = c.in-Ok.ensures.begun faithful in
    unread_since c.read_to_end.result old mid new it c.in-Ok.begun.0 c.in-Ok.begun.1 history (c.read_head.ensures.content faithful) c.read_to_end.ensures.history begun holds
    (λ before lists hashed on. c.read_to_end.ensures.refused (history.faithful faithful) before lists hashed on)
