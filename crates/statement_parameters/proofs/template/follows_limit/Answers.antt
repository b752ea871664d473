use Rattle.std.proofs.Common.{◌≡◌, ◌∙◌, ◌≤◌, ◌∷◌, [], ℕ, Bool, true, false, List, length, refl, sym, arith, eq-eqb}
use Rattle.std.specs.Prelude.{◌==◌, ◌&&◌, if◌then◌else◌, slice_index_or}
use Rattle.statement_parameters.specs.declared.span.PartSpan.{PartSpan}
use Rattle.statement_parameters.specs.Spans.{fragment_in, fragments_in}
use Rattle.statement_parameters.specs.Templates.{is_limit, is_limited, number_of}
use Rattle.statement_parameters.proofs.template.follows_limit.Goals as goal

taken : (b x r : Bool) → b ≡ true → x ≡ true → true ≡ (if b && x then true else r)
taken true true r e f = refl
taken false x r e f = absurd (cc)
taken true false r e f = absurd (cc)

hit : (m : List ℕ) (z : List PartSpan) (d : PartSpan) (behind w : Bool) (k n : ℕ) → 1 ≤ length z → behind ≡ true → ((text : List ℕ) → k ≡ number_of (fragment_in text (slice_index_or z 0 d)).part) → k ≡ n
    → is_limited behind n (fragments_in m z) ≡ w → true ≡ w
hit m [] d behind w k n some limits number same whole = absurd (omega (arith, some))
hit m (s ∷ ss) d behind w k n some limits number same whole =
    taken behind (number_of (fragment_in m s).part == n) (is_limited (is_limit (fragment_in m s).part) n (fragments_in m ss)) limits (eq-eqb _ n (sym (number m) ∙ same)) ∙ whole

pub returns-then-number_of-number : goal.returns-then-number_of-number
returns-then-number_of-number c = hit _ c.loop-rest.rest.now _ _ _ c.number_of.result _ c.in-len1-up.len_at_least c.if-behind.true c.number_of.ensures c.if-number_of-number.true c.loop-rest.invariant
