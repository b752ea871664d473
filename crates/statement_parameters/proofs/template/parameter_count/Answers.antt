use Rattle.std.proofs.Common.{◌≡◌, ◌≤◌, ◌∷◌, [], ℕ, List, length, drop, max, arith}
use Rattle.std.specs.Prelude.{slice_index_or}
use Rattle.std.proofs.lemmas.List.{take_rest}
use Rattle.statement_parameters.specs.declared.span.PartSpan.{PartSpan}
use Rattle.statement_parameters.specs.Spans.{fragment_in, fragments_in}
use Rattle.statement_parameters.specs.Templates.{greatest_from, number_of}
use Rattle.statement_parameters.proofs.template.parameter_count.Goals as goal

more : (m : List ℕ) (z after : List PartSpan) (d : PartSpan) (n k g w : ℕ) → 1 ≤ length z → after ≡ drop 1 z → ((text : List ℕ) → k ≡ number_of (fragment_in text (slice_index_or z 0 d)).part) → g ≡ max n k
    → greatest_from n (fragments_in m z) ≡ w → greatest_from g (fragments_in m after) ≡ w
more m [] after d n k g w some is number greater whole = absurd (omega (arith, some))
more m (s ∷ ss) after d n k g w some is number greater whole = let e : after ≡ ss = is in rw (e, greater, number m) whole

pub loop-rest-preserved : goal.loop-rest-preserved
loop-rest-preserved c = more _ c.loop-rest.rest.now _ _ c.loop-rest.count c.number_of.result _ _ c.in-len1-up.len_at_least (take_rest c.loop-rest.rest.now 1) c.number_of.ensures c.greater-count.ensures c.loop-rest.invariant
