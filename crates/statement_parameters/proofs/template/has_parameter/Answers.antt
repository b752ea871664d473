use Rattle.std.proofs.Common.{◌≡◌, ◌∙◌, ◌≤◌, ◌∷◌, [], ℕ, Bool, true, false, List, length, drop, sym, ap, arith, eq-eqb}
use Rattle.std.specs.Prelude.{◌==◌, ◌||◌, slice_index_or}
use Rattle.std.proofs.lemmas.Bool.{ne_eqb}
use Rattle.std.proofs.lemmas.List.{take_rest}
use Rattle.statement_parameters.specs.declared.span.PartSpan.{PartSpan}
use Rattle.statement_parameters.specs.Spans.{fragment_in, fragments_in}
use Rattle.statement_parameters.specs.Templates.{has_parameter, number_of}
use Rattle.statement_parameters.proofs.template.has_parameter.Goals as goal

hit : (m : List ℕ) (z : List PartSpan) (d : PartSpan) (w : Bool) (k n : ℕ) → 1 ≤ length z → ((text : List ℕ) → k ≡ number_of (fragment_in text (slice_index_or z 0 d)).part) → k ≡ n
    → has_parameter (fragments_in m z) n ≡ w → true ≡ w
hit m [] d w k n some number same whole = absurd (omega (arith, some))
hit m (s ∷ ss) d w k n some number same whole =
    ap (λ (b : Bool). b || has_parameter (fragments_in m ss) n) (sym (eq-eqb (number_of (fragment_in m s).part) n (sym (number m) ∙ same))) ∙ whole

miss : (m : List ℕ) (z after : List PartSpan) (d : PartSpan) (w : Bool) (k n : ℕ) → 1 ≤ length z → after ≡ drop 1 z → ((text : List ℕ) → k ≡ number_of (fragment_in text (slice_index_or z 0 d)).part) → (k ≡ n → ⊥)
    → has_parameter (fragments_in m z) n ≡ w → has_parameter (fragments_in m after) n ≡ w
miss m [] after d w k n some is number other whole = absurd (omega (arith, some))
miss m (s ∷ ss) after d w k n some is number other whole =
    let e : after ≡ ss = is in
    rw e (ap (λ (b : Bool). b || has_parameter (fragments_in m ss) n) (sym (ne_eqb (number_of (fragment_in m s).part) n (λ same. other (number m ∙ same)))) ∙ whole)

pub returns-then-number_of-number : goal.returns-then-number_of-number
returns-then-number_of-number c = hit _ c.loop-rest.rest.now _ _ c.number_of.result _ c.in-len1-up.len_at_least c.number_of.ensures c.if-number_of-number.true c.loop-rest.invariant

pub loop-rest-preserved : goal.loop-rest-preserved
loop-rest-preserved c = miss _ c.loop-rest.rest.now _ _ _ c.number_of.result _ c.in-len1-up.len_at_least (take_rest c.loop-rest.rest.now 1) c.number_of.ensures c.if-number_of-number.false c.loop-rest.invariant
