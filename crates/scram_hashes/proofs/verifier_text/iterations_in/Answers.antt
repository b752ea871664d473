use Rattle.std.proofs.Common.{◌≡◌, arith, ap, sym, ◌∙◌, true, decimal}
use Rattle.std.proofs.lemmas.Slice.Eq.{bytes_eq-Decides}
use Rattle.std.proofs.lemmas.Fmt.{parse-decimal}
use Rattle.scram_hashes.proofs.verifier_text.iterations_in.Goals as goal
use Rattle.scram_hashes.proofs.verifier_text.iterations_in.Goals.{else-as_written-via-then-as_written+then-iterations-ge-LEAST_ITERATIONS+else-iterations-le-MOST_ITERATIONS, else-as_written-via-then-as_written+else-iterations-ge-LEAST_ITERATIONS, else-as_written-via-else-as_written}

pub returns-in_default : goal.returns-in_default
returns-in_default c iterations count e =
    let ok = parse-decimal 32 iterations c.args.text.now c.parse.result (omega (arith, count.most)) (omega (arith, count.most)) e c.parse.ensures.value.0 in
    c.in_default.not-Ok iterations ok

pub returns-else-as_written : goal.returns-else-as_written
returns-else-as_written c iterations count e =
    let ok = parse-decimal 32 iterations c.args.text.now c.parse.result (omega (arith, count.most)) (omega (arith, count.most)) e c.parse.ensures.value.0 in
    let same : c.in-Ok.iterations ≡ iterations = cc (ok, c.in-Ok.is) in
    let equal : c.eq-as_written.result ≡ true =
    c.eq-as_written.ensures ∙ (bytes_eq-Decides c.format.result.now c.args.text.now).1 (c.format.ensures.text ∙ ap decimal same ∙ sym e) in
    elim c.else-as_written.branch [
      | else-as_written-via-then-as_written+then-iterations-ge-LEAST_ITERATIONS+else-iterations-le-MOST_ITERATIONS w ↦ omega (arith, w.if-iterations-le-MOST_ITERATIONS.false, count.most)
      | else-as_written-via-then-as_written+else-iterations-ge-LEAST_ITERATIONS w ↦ omega (arith, w.if-iterations-ge-LEAST_ITERATIONS.false, count.least)
      | else-as_written-via-else-as_written w ↦ cc (equal, w.if-as_written.false)
    ]
