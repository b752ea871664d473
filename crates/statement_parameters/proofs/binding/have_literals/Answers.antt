use Rattle.std.proofs.Common.{◌≡◌, ◌∙◌, ◌≤◌, ◌∷◌, [], ℕ, Bool, true, false, List, length, drop, sym, arith}
use Rattle.std.specs.Prelude.{is_some, slice_index_or}
use Rattle.std.proofs.lemmas.List.{take_rest}
use Rattle.statement_parameters.specs.declared.span.PartSpan.{PartSpan}
use Rattle.statement_parameters.specs.Parts.{part_tokens, tokens_with}
use Rattle.statement_parameters.specs.Spans.{fragment_in, fragments_in}
use Rattle.statement_parameters.specs.Templates.{parts_of}
use Rattle.statement_parameters.proofs.Bound.{first_there, first_missing}
use Rattle.statement_parameters.proofs.binding.have_literals.Goals as goal

missing : (m : List ℕ) (ls : List (List (List ℕ))) (z : List PartSpan) (d : PartSpan) (has w : Bool) → 1 ≤ length z → ((text : List ℕ) → has ≡ is_some (part_tokens ls (fragment_in text (slice_index_or z 0 d)).part)) → has ≡ false
    → is_some (tokens_with ls (parts_of (fragments_in m z))) ≡ w → false ≡ w
missing m ls [] d has w some is so whole = absurd (omega (arith, some))
missing m ls (s ∷ ss) d has w some is so whole = sym (first_missing (part_tokens ls (fragment_in m s).part) (tokens_with ls (parts_of (fragments_in m ss))) (sym (is m) ∙ so)) ∙ whole

more : (m : List ℕ) (ls : List (List (List ℕ))) (z after : List PartSpan) (d : PartSpan) (has w : Bool) → 1 ≤ length z → after ≡ drop 1 z → ((text : List ℕ) → has ≡ is_some (part_tokens ls (fragment_in text (slice_index_or z 0 d)).part)) → has ≡ true
    → is_some (tokens_with ls (parts_of (fragments_in m z))) ≡ w → is_some (tokens_with ls (parts_of (fragments_in m after))) ≡ w
more m ls [] after d has w some e is so whole = absurd (omega (arith, some))
more m ls (s ∷ ss) after d has w some e is so whole =
    let f : after ≡ ss = e in rw f (sym (first_there (part_tokens ls (fragment_in m s).part) (tokens_with ls (parts_of (fragments_in m ss))) (sym (is m) ∙ so)) ∙ whole)

pub returns-then-not-has_literal : goal.returns-then-not-has_literal
returns-then-not-has_literal c = missing _ _ c.loop-rest.rest.now _ _ _ c.in-len1-up.len_at_least c.has_literal.ensures c.if-not-has_literal.true c.loop-rest.invariant

pub loop-rest-preserved : goal.loop-rest-preserved
loop-rest-preserved c = more _ _ c.loop-rest.rest.now _ _ _ _ c.in-len1-up.len_at_least (take_rest c.loop-rest.rest.now 1) c.has_literal.ensures c.if-not-has_literal.false c.loop-rest.invariant
