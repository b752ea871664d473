use Rattle.std.proofs.Common.{sym, subst}
use Rattle.sector_device.specs.Device.{history_joined, history_none}
use Rattle.cow_pages.specs.PreservedLaws.{failed_later}
use Rattle.cow_pages.specs.ReadingLaws.{reads_joined, reads_none}
use Rattle.dumps.specs.Reading.{IsUnread}
use Rattle.dumps.proofs.Heads.{unread}
use Rattle.dumps.proofs.ListsRead.{all_read, ends_of, inside, none_read, none_refused, one_more_read, reads_of}
use Rattle.dumps.proofs.checking.read_to_end.Goals as goal

pub loop-init : goal.loop-init
loop-init g c =
    let d = g.D.Device.state c.args.dump.now in
    record {
      history = history_none d;
      content = λ faithful. reads_none d (g.met.D.Device.only_now c.args.dump.now faithful);
      so_far = λ faithful before hashed within. none_read d.sectors d.content before c.args.place.now within hashed;
    }

pub loop-preserved : goal.loop-preserved
loop-preserved g c =
    let old = g.D.Device.state c.args.dump.now in
    let mid = g.D.Device.state c.loop.dump in
    let new = g.D.Device.state c.read_list.new.device in
    let is = c.loop.invariant in
    record {
      history = history_joined old mid new is.history c.read_list.ensures.history;
      content = λ faithful. reads_joined old mid new is.history (is.content faithful) (c.read_list.ensures.content (is.history.faithful faithful));
      so_far = λ faithful before hashed within.
          let there = is.history.faithful faithful in
          one_more_read old.sectors old.content before c.in-Some._list c.args.place.now c.loop.place c.read_list.new.place (is.so_far faithful before hashed within)
          (reads_of old mid c.loop.place c.read_list.new.place c.in-Ok.found c.in-Some._list is.history (is.content faithful) c.in-Some.is (λ b holds. c.in-Ok.ensures.next there b holds) (λ b ls holds on. c.in-Ok.ensures.goes_on there b ls holds on));
    }

pub returns-in-None-clause-history : goal.returns-in-None-clause-history
returns-in-None-clause-history g c = history_joined (g.D.Device.state c.args.dump.now) (g.D.Device.state c.loop.dump) (g.D.Device.state c.read_list.new.device) c.loop.invariant.history c.read_list.ensures.history

pub returns-in-None-clause-content : goal.returns-in-None-clause-content
returns-in-None-clause-content g c = λ faithful.
    let is = c.loop.invariant in
    reads_joined (g.D.Device.state c.args.dump.now) (g.D.Device.state c.loop.dump) (g.D.Device.state c.read_list.new.device) is.history (is.content faithful) (c.read_list.ensures.content (is.history.faithful faithful))

pub returns-in-None-clause-whole : goal.returns-in-None-clause-whole
returns-in-None-clause-whole g c = λ faithful before hashed within.
    let old = g.D.Device.state c.args.dump.now in
    let mid = g.D.Device.state c.loop.dump in
    let is = c.loop.invariant in
    let there = is.history.faithful faithful in
    let so_far = is.so_far faithful before hashed within in
    let ends = ends_of old mid c.loop.place c.read_list.new.place c.in-Ok.found is.history (is.content faithful) c.in-None.is (λ b holds. c.in-Ok.ensures.next there b holds) (λ b ls holds on. c.in-Ok.ensures.goes_on there b ls holds on) in
    (so_far.lists, all_read old.sectors old.content before c.args.place.now c.loop.place so_far ends)

pub returns-in-Err-clause-history : goal.returns-in-Err-clause-history
returns-in-Err-clause-history g c = history_joined (g.D.Device.state c.args.dump.now) (g.D.Device.state c.loop.dump) (g.D.Device.state c.read_list.new.device) c.loop.invariant.history c.read_list.ensures.history

pub returns-in-Err-clause-content : goal.returns-in-Err-clause-content
returns-in-Err-clause-content g c = λ faithful.
    let is = c.loop.invariant in
    reads_joined (g.D.Device.state c.args.dump.now) (g.D.Device.state c.loop.dump) (g.D.Device.state c.read_list.new.device) is.history (is.content faithful) (c.read_list.ensures.content (is.history.faithful faithful))

pub returns-in-Err-clause-refused : goal.returns-in-Err-clause-refused
returns-in-Err-clause-refused g c = λ faithful before lists hashed on.
    let old = g.D.Device.state c.args.dump.now in
    let mid = g.D.Device.state c.loop.dump in
    let new = g.D.Device.state c.read_list.new.device in
    let is = c.loop.invariant in
    let there = is.history.faithful faithful in
    let so_far = is.so_far faithful before hashed (inside old.sectors old.content c.args.place.now.page before c.args.place.now.lists lists on) in
    subst (λ f. IsUnread f old new) (sym c.from.ensures)
    (unread c.in-Err.fault old new
    (none_refused old mid before c.args.place.now c.loop.place lists c.in-Err.fault is.history (is.content faithful) so_far on (λ b ls holds goes. c.in-Err.ensures.damaged there b ls holds goes))
    (λ device. failed_later old mid new is.history c.read_list.ensures.history (c.in-Err.ensures.cause device)))
