use Rattle.std.proofs.Common.{◌∙◌, arith, ap, inl, inr}
use Rattle.systems.specs.Systems.{IsUnnamed, Rose}
use Rattle.cli.specs.declared.copy_fault.CopyRefusal.TheVariants.{New}
use Rattle.cli.proofs.Changes.{rose_between, same_then_but}
use Rattle.cli.proofs.Copied.{stands_against}
use Rattle.cli.proofs.Taken.{done_or_failed}
use Rattle.cli.proofs.file_copies.rename_copy.Goals as goal

pub returns-in-Ok-clause-renames : goal.returns-in-Ok-clause-renames
returns-in-Ok-clause-renames g c = record { free = c.in-Ok.ensures.new; named = c.in-Ok.ensures.renamed; gone = c.in-Ok.ensures.gone; others = c.in-Ok.ensures.others; counts = c.in-Ok.ensures.counts }

pub returns-in-Err-clause-renames : goal.returns-in-Err-clause-renames
returns-in-Err-clause-renames g c =
    let old = g.Y.System.state c.args.system.now in
    let mid = g.Y.System.state c.rename.new.self in
    let new = g.Y.System.state c.remove.new.self in
    let partial = c.args.partial.now in
    let kept = c.in-Err.ensures.kept in
    record {
      why = c.in-Err.fault;
      is = ap New c.from.ensures;
      cause = λ is. stands_against old new partial c.args.target.now c.in-Err.fault (c.in-Err.ensures.exists is)
          (λ cause refused. rose_between old.failures old.failures mid.failures new.failures (omega arith) c.in-Err.ensures.counts c.remove.ensures.counts (c.in-Err.ensures.cause cause refused));
      removed = λ is opened. (
          elim (done_or_failed (IsUnnamed new partial) (Rose mid.failures new.failures) c.remove.result (c.remove.ensures.removed ((kept is).faithful is) ((kept is).devices partial ∙ opened)) c.remove.ensures.cause) [
            | inl gone ↦ inl gone
            | inr failed ↦ inr (rose_between old.failures mid.failures new.failures new.failures c.in-Err.ensures.counts c.remove.ensures.counts (omega arith) failed)
          ]
          );
      others = λ is. same_then_but partial old mid new (kept is) (c.remove.ensures.others ((kept is).faithful is));
      counts = omega (arith, c.in-Err.ensures.counts, c.remove.ensures.counts);
    }

pub returns-in-Ok-clause-left : goal.returns-in-Ok-clause-left
returns-in-Ok-clause-left g c = λ is differ x now. c.rename.ensures.left_there is x now

pub returns-in-Err-clause-left : goal.returns-in-Err-clause-left
returns-in-Err-clause-left g c = λ is differ x now.
    c.rename.ensures.left_there is x (c.remove.ensures.left ((c.in-Err.ensures.kept is).faithful is) c.args.target.now differ x now)
