use Rattle.std.proofs.Common.{◌≡◌, inr, sym, ◌∙◌}
use Rattle.std.proofs.lemmas.Bool.{false≢true}
use Rattle.pages.specs.declared.array.PageFault.TheVariants as page
use Rattle.kv_store.proofs.Renewing.{history_renewed, renewed}
use Rattle.kv_store.proofs.read_only.ReadOnlyPages.renew.Goals as goal

pub returns-in-Ok-clause-preserved : goal.returns-in-Ok-clause-preserved
returns-in-Ok-clause-preserved g c =
    let p = c.args.self.now.below in
    let is = c.write_protected.ensures in
    renewed g.met.D.Device.only_now p c.write_protected.new.self 0 is.device.size is.device.writes is.memory
    (λ failed. absurd (false≢true (sym c.in-Ok.ensures.outcome ∙ failed))) (λ had. absurd (false≢true (c.in-Ok.ensures.closed had).0))

pub returns-in-Err-clause-preserved : goal.returns-in-Err-clause-preserved
returns-in-Err-clause-preserved g c =
    let p = c.args.self.now.below in
    let is = c.write_protected.ensures in
    renewed g.met.D.Device.only_now p c.write_protected.new.self 0 is.device.size is.device.writes is.memory
    (λ failed. c.in-Err.ensures.outcome.cause) (λ had. c.in-Err.ensures.outcome.has_failed)

pub returns-in-Err-clause-faults : goal.returns-in-Err-clause-faults
returns-in-Err-clause-faults g c =
    let is = c.write_protected.ensures in
    record {
      well_formed = λ bad. (let no : page.Device ≡ page.Malformed = bad in cc);
      cause = inr (λ other. (history_renewed 0 _ _ is.device.size is.device.writes, c.in-Err.ensures.outcome));
    }
