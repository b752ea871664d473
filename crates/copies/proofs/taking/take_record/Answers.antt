use Rattle.std.proofs.Common.{◌≡◌, IfErr}
use Rattle.store.specs.declared.fault.Fault.TheVariants.{Damaged}
use Rattle.copies.specs.RecordCopies.{HasOutsized}
use Rattle.copies.proofs.Taken.{answered_fault, first_outsized}
use Rattle.copies.proofs.taking.take_record.Goals as goal

pub returns-in_err-put_record-clause-damaged : goal.returns-in_err-put_record-clause-damaged
returns-in_err-put_record-clause-damaged g c = λ sound records ahead.
    answered_fault (λ r. IfErr r (λ f. f ≡ Damaged → HasOutsized records)) c.in_err-put_record.field-0.0 c.from_residual-in_err-put_record.result c.from_residual-in_err-put_record.ensures.1
    (λ is. first_outsized _ _ c.in_ok-step.field-0 records c.entry-found.result c.if-not-branch.false c.entry-found.ensures
    (c.in_ok-step.ensures.goes.answer sound records ahead) (c.in_err-put_record.ensures.damaged is))
