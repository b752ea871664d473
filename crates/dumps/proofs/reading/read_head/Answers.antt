use Rattle.std.proofs.Common.{IfErr, ◌≡◌, ℕ, List, true, false, drop, refl, sym, ap, subst, ◌∙◌, arith}
use Rattle.sha2.specs.Hashers.{Holds256}
use Rattle.byteorder.specs.Endian.{big_number}
use Rattle.sector_device.specs.Device.{HasFailed}
use Rattle.dumps.specs.Faults.{of_read}
use Rattle.dumps.specs.declared.fault.DumpFault.TheVariants.{Device}
use Rattle.dumps.specs.Form.{head}
use Rattle.dumps.specs.Reading.{IsUnread}
use Rattle.dumps.proofs.Heads.{answered, device_given, dump_has_pages, head_there, number_in_head, unread}
use Rattle.dumps.proofs.reading.read_head.Goals as goal

pub returns-then-not-has_pages-clause-unread : goal.returns-then-not-has_pages-clause-unread
returns-then-not-has_pages-clause-unread g c = λ faithful dump holds.
    let d = g.D.Device.state c.args.device.now in
    let wrong : false ≡ true = c.if-not-has_pages.ensures.1 (dump_has_pages d.sectors d.content dump holds) in
    absurd cc

pub returns-in_err-page-clause-unread : goal.returns-in_err-page-clause-unread
returns-in_err-page-clause-unread g c = λ faithful dump holds.
    let old = g.D.Device.state c.args.device.now in
    let new = g.D.Device.state c.read_pages.new.device in
    answered (λ r. IfErr r (λ fault. IsUnread fault old new)) (of_read c.in_err-page.field-0.0) c.from_residual.result c.from_residual.ensures.1
    (unread c.in_err-page.field-0.0 old new c.in_err-page.ensures.undamaged c.in_err-page.ensures.cause)

pub returns-in_err-page-clause-cause : goal.returns-in_err-page-clause-cause
returns-in_err-page-clause-cause g c =
    let old = g.D.Device.state c.args.device.now in
    let new = g.D.Device.state c.read_pages.new.device in
    answered (λ r. IfErr r (λ fault. fault ≡ Device → HasFailed old new)) (of_read c.in_err-page.field-0.0) c.from_residual.result c.from_residual.ensures.1
    (λ is. c.in_err-page.ensures.cause (device_given c.in_err-page.field-0.0 is))

pub returns-then-not-are_equal-clause-unread : goal.returns-then-not-are_equal-clause-unread
returns-then-not-are_equal-clause-unread g c = λ faithful dump holds.
    let d = g.D.Device.state c.args.device.now in
    let page = c.in_ok-page.page.items in
    let is : page ≡ head dump.number = head_there d.sectors d.content dump page holds (c.in_ok-page.ensures.bytes faithful) c.in_ok-page.ensures.count in
    let number : c.number_in-number.result ≡ dump.number =
    c.number_in-number.ensures ∙ ap (λ (l : List ℕ). big_number 8 (drop 20 l)) (c.as_slice.ensures.value ∙ is) ∙ number_in_head dump.number holds.is.fits in
    let wrong : false ≡ true = c.if-not-are_equal.ensures.1 (c.as_slice-2.ensures.value ∙ is ∙ sym (c.as_slice-3.ensures.value ∙ c.in_ok-expected.ensures.spelled ∙ ap head number)) in
    absurd cc

pub returns-clause-begun : goal.returns-clause-begun
returns-clause-begun g c = λ faithful.
    let whole = c.if-not-has_pages.ensures.0 refl in
    let same = c.if-not-are_equal.ensures.0 refl in
    record {
      fits = omega arith;
      whole = whole.1;
      some = whole.0;
      there = sym (c.in_ok-page.ensures.bytes faithful) ∙ sym c.as_slice-2.ensures.value ∙ same ∙ c.as_slice-3.ensures.value ∙ c.in_ok-expected.ensures.spelled;
      page = c.behind_head.ensures.page;
      lists = c.behind_head.ensures.lists;
      hashed = subst (λ (l : List ℕ). Holds256 c.behind_head.result.hasher l) (c.as_slice-4.ensures.value ∙ sym c.as_slice-2.ensures.value ∙ same ∙ c.as_slice-3.ensures.value ∙ c.in_ok-expected.ensures.spelled) c.behind_head.ensures.hashed;
    }
