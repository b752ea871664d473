use Rattle.std.proofs.Common.{◌*◌, IfOk, sym, ap, ◌∙◌, arith}
use Rattle.std.proofs.Math.Path.{fun_ext}
use Rattle.sector_device.specs.Device.{Image, history_joined}
use Rattle.cow_pages.specs.ReadingLaws.{reads_joined}
use Rattle.dumps.specs.OnDevice.{DumpGoesOn, IsNextPart, LeavesToRead, bytes_from}
use Rattle.dumps.proofs.Following.{none_behind}
use Rattle.dumps.proofs.Moved.{cause_later, moved, moved_back}
use Rattle.dumps.proofs.reading.read_list.Goals as goal

pub returns-then-place-pages-clause-damaged : goal.returns-then-place-pages-clause-damaged
returns-then-place-pages-clause-damaged g c = λ faithful before lists hashed on damaged.
    let d = g.D.Device.state c.args.device.now in
    none_behind d.sectors c.args.place.now.page d.content before c.args.place.now.lists lists (omega (arith, c.if-place-pages.true, c.sectors-pages.ensures)) on

pub returns-clause-history : goal.returns-clause-history
returns-clause-history g c =
    history_joined (g.D.Device.state c.args.device.now) (g.D.Device.state c.read_pages.new.device) (g.D.Device.state c.read_part.new.device) c.read_pages.ensures.history c.read_part.ensures.history

pub returns-clause-content : goal.returns-clause-content
returns-clause-content g c = λ faithful.
    let old = g.D.Device.state c.args.device.now in
    let history = c.read_pages.ensures.history in
    reads_joined old (g.D.Device.state c.read_pages.new.device) (g.D.Device.state c.read_part.new.device) history (c.read_pages.ensures.content faithful) (c.read_part.ensures.content (history.faithful faithful))

pub returns-clause-next : goal.returns-clause-next
returns-clause-next g c = λ faithful before hashed.
    let old = g.D.Device.state c.args.device.now in
    let mid = g.D.Device.state c.read_pages.new.device in
    let read = c.read_pages.ensures in
    let same = (read.content faithful).content in
    let first = c.as_slice.ensures.value ∙ c.in_ok-first.ensures.bytes faithful ∙ ap (λ (i : Image). bytes_from i (8 * c.args.place.now.page) 8) (sym (fun_ext same)) in
    moved (λ n i. IfOk c.read_part.result (λ found. IsNextPart n i before c.args.place.now found c.read_part.new.place)) old.sectors mid.sectors old.content mid.content read.history.sectors same
    (c.read_part.ensures.next (read.history.faithful faithful) first before hashed)

pub returns-clause-goes_on : goal.returns-clause-goes_on
returns-clause-goes_on g c = λ faithful before lists hashed on.
    let old = g.D.Device.state c.args.device.now in
    let mid = g.D.Device.state c.read_pages.new.device in
    let read = c.read_pages.ensures in
    let same = (read.content faithful).content in
    let first = c.as_slice.ensures.value ∙ c.in_ok-first.ensures.bytes faithful ∙ ap (λ (i : Image). bytes_from i (8 * c.args.place.now.page) 8) (sym (fun_ext same)) in
    moved (λ n i. IfOk c.read_part.result (λ found. LeavesToRead n i before lists found c.read_part.new.place)) old.sectors mid.sectors old.content mid.content read.history.sectors same
    (c.read_part.ensures.goes_on (read.history.faithful faithful) first before lists hashed
    (moved_back (λ n i. DumpGoesOn n i c.args.place.now.page before c.args.place.now.lists lists) old.sectors mid.sectors old.content mid.content read.history.sectors same on))

pub returns-clause-damaged : goal.returns-clause-damaged
returns-clause-damaged g c = λ faithful before lists hashed on.
    let old = g.D.Device.state c.args.device.now in
    let mid = g.D.Device.state c.read_pages.new.device in
    let read = c.read_pages.ensures in
    let same = (read.content faithful).content in
    let first = c.as_slice.ensures.value ∙ c.in_ok-first.ensures.bytes faithful ∙ ap (λ (i : Image). bytes_from i (8 * c.args.place.now.page) 8) (sym (fun_ext same)) in
    c.read_part.ensures.damaged (read.history.faithful faithful) first before lists hashed
    (moved_back (λ n i. DumpGoesOn n i c.args.place.now.page before c.args.place.now.lists lists) old.sectors mid.sectors old.content mid.content read.history.sectors same on)

pub returns-clause-cause : goal.returns-clause-cause
returns-clause-cause g c =
    cause_later c.read_part.result (g.D.Device.state c.args.device.now) (g.D.Device.state c.read_pages.new.device) (g.D.Device.state c.read_part.new.device) c.read_pages.ensures.history c.read_part.ensures.history c.read_part.ensures.cause
