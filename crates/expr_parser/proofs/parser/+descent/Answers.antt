use Rattle.std.proofs.Common.{sym, ◌∙◌, arith, rules, add-one}
use Rattle.std.proofs.lemmas.Bool.{iff_false}
use Rattle.sql_lexer.specs.Lexeme.{lexemes}
use Rattle.sql_ast.specs.Term.{term_of}
use Rattle.expr_parser.specs.Grammar.{compared, not_compared, no_not}
use Rattle.expr_parser.proofs.Readings.{spells_lt, from_here}
use Rattle.expr_parser.proofs.Descent.{found, missing, within_tokens, chaining_begins, chaining_goes_on, chaining_ends, chaining_stuck, compare_alone, compare_stuck, compare_both, notting_goes_on, notted, not_never, wrapped, testing_begins, testing_ends, testing_null_on, testing_not_null_on, no_is, no_null_on, alone_ok, literal, literal_too_large, no_number, minusing_goes_on, minused, minus_never, opposed}
use Rattle.expr_parser.proofs.Primaries.{literal_read, literal_missing, column_found, column_missing, unclosed, closed, no_member, members_le, members_go_on, last_member}
use Rattle.expr_parser.proofs.parser.+descent.Goals as goal
use Rattle.expr_parser.proofs.parser.+descent.Goals.{chain_at-in-Some-joiner_at+in_ok-right+in_default-2, chain_at-in_default-joiner_at, test_at-else-loop-alloc-test, test_at-then-loop-alloc-test+else-has+else-has-2, test_at-else-has-2-via-then-has-2+else-has-3, test_at-else-has-2-via-else-has-2}

pub chain_at-loop-operator-init : goal.chain_at-loop-operator-init
chain_at-loop-operator-init t c =
    let r = found _ _ _ _ _ _ c.in_ok-left.ensures c.in-Some.is in
    chaining_begins r.0 r.1

pub chain_at-loop-operator-smaller : goal.chain_at-loop-operator-smaller
chain_at-loop-operator-smaller t c =
    let r = found _ _ _ _ _ _ c.in_ok-right.ensures c.in-Some-2.is in
    let lt = spells_lt r.0 in
    let le = within_tokens _ r.0 in
    omega arith

pub chain_at-loop-operator-preserved : goal.chain_at-loop-operator-preserved
chain_at-loop-operator-preserved t c =
    let r = found _ _ _ _ _ _ c.in_ok-right.ensures c.in-Some-2.is in
    rw c.in_ok-left-2.ensures (chaining_goes_on c.loop-operator.invariant (sym c.joiner_at.ensures.value ∙ c.in-Some-joiner_at.is) r.0 r.1)

pub chain_at-returns : goal.chain_at-returns
chain_at-returns t c =
    elim c.match-joiner_at.branch [
      | chain_at-in-Some-joiner_at+in_ok-right+in_default-2 w ↦ chaining_stuck c.loop-operator.invariant (missing _ _ _ _ w.in_ok-right.ensures w.in_default-2.is)
      | chain_at-in_default-joiner_at w ↦ chaining_ends c.loop-operator.invariant (sym c.joiner_at.ensures.value ∙ w.in_default-joiner_at.is)
    ]

pub comparison_at-returns-in_default-comparer_at : goal.comparison_at-returns-in_default-comparer_at
comparison_at-returns-in_default-comparer_at t c =
    let r = found _ _ _ _ _ _ c.in_ok-left.ensures c.in-Some.is in
    (not_compared r.0, compare_alone r.0 r.1 (sym c.comparer_at.ensures.value ∙ c.in_default-comparer_at.is))

pub comparison_at-chain_at-requires-2 : goal.comparison_at-chain_at-requires-2
comparison_at-chain_at-requires-2 t c =
    let r = found _ _ _ _ _ _ c.in_ok-left.ensures c.in-Some.is in
    let lt = spells_lt r.0 in
    search rules

pub comparison_at-returns-in_default-2 : goal.comparison_at-returns-in_default-2
comparison_at-returns-in_default-2 t c =
    let r = found _ _ _ _ _ _ c.in_ok-left.ensures c.in-Some.is in
    (not_compared r.0, compare_stuck r.0 r.1 (missing _ _ _ _ c.in_ok-right.ensures c.in_default-2.is))

pub comparison_at-returns : goal.comparison_at-returns
comparison_at-returns t c =
    let r = found _ _ _ _ _ _ c.in_ok-left.ensures c.in-Some.is in
    let s = found _ _ _ _ _ _ c.in_ok-right.ensures c.in-Some-2.is in (
      rw c.in_ok-tree.ensures (compared {j = c.in-Some-2.next} {r = term_of c.in-Some-2.right} r.0 (sym c.comparer_at.ensures.value ∙ c.in-Some-comparer_at.is) (rw (← add-one) s.0)),
      compare_both r.0 r.1 s.0 s.1,
    )

pub negation_at-loop-first-preserved : goal.negation_at-loop-first-preserved
negation_at-loop-first-preserved t c = notting_goes_on c.loop-first.invariant (c.has.ensures.value.0 c.loop-first-test.true)

pub negation_at-returns-in_default : goal.negation_at-returns-in_default
negation_at-returns-in_default t c =
    not_never c.loop-first.invariant (iff_false c.has.ensures.value c.loop-first-test.false) (missing _ _ _ _ c.in_ok-tree.ensures c.in_default.is)

pub negation_at-loop-first-2-init : goal.negation_at-loop-first-2-init
negation_at-loop-first-2-init t c =
    let r = found _ _ _ _ _ _ c.in_ok-tree.ensures c.in-Some.is in
    (c.loop-first.invariant.ordered, c.loop-first.invariant.each, no_not r.0)

pub negation_at-loop-first-2-preserved : goal.negation_at-loop-first-2-preserved
negation_at-loop-first-2-preserved t c = (
  omega arith,
  λ k p q. c.loop-first-2.invariant.1 k p (omega arith),
  rw c.in_ok-tree-2.ensures (wrapped (omega arith) (c.loop-first-2.invariant.1 _ (omega arith) (omega arith)) c.loop-first-2.invariant.2),
)

pub negation_at-returns : goal.negation_at-returns
negation_at-returns t c =
    let r = found _ _ _ _ _ _ c.in_ok-tree.ensures c.in-Some.is in
    (from_here (omega arith) c.loop-first-2.invariant.2, notted c.loop-first.invariant (iff_false c.has.ensures.value c.loop-first-test.false) r.1)

pub test_at-loop-alloc-init : goal.test_at-loop-alloc-init
test_at-loop-alloc-init t c =
    let r = found _ _ _ _ _ _ c.in_ok-tree.ensures c.in-Some.is in
    testing_begins r.0 r.1

pub test_at-loop-alloc-preserved-then-has : goal.test_at-loop-alloc-preserved-then-has
test_at-loop-alloc-preserved-then-has t c =
    rw c.in_ok-tree-2.ensures (testing_null_on c.loop-alloc.invariant (c.has.ensures.value.0 c.loop-alloc-test.true) (c.has-in-loop-alloc.ensures.value.0 c.if-has.true))

pub test_at-loop-alloc-preserved : goal.test_at-loop-alloc-preserved
test_at-loop-alloc-preserved t c =
    rw c.in_ok-tree-3.ensures (testing_not_null_on c.loop-alloc.invariant (c.has.ensures.value.0 c.loop-alloc-test.true) (c.has-else-has.ensures.value.0 c.if-has-2.true) (c.has-then-has-2.ensures.value.0 c.if-has-3.true))

pub test_at-returns : goal.test_at-returns
test_at-returns t c = testing_ends c.loop-alloc.invariant (
    elim c.loop-alloc-test.branch [
      | test_at-else-loop-alloc-test w ↦ no_is _ (iff_false c.has.ensures.value w.loop-alloc-test.false)
      | test_at-then-loop-alloc-test+else-has+else-has-2 w ↦ no_null_on _ (iff_false w.has-in-loop-alloc.ensures.value w.if-has.false) (
          elim w.else-has-2.branch [
            | test_at-else-has-2-via-then-has-2+else-has-3 v ↦ λ _. iff_false v.has-then-has-2.ensures.value v.if-has-3.false
            | test_at-else-has-2-via-else-has-2 v ↦ λ g. absurd (iff_false w.has-else-has.ensures.value v.if-has-2.false g)
          ])
    ])

pub signed_at-loop-first-preserved : goal.signed_at-loop-first-preserved
signed_at-loop-first-preserved t c = minusing_goes_on c.loop-first.invariant (c.minus_at.ensures.value.0 c.loop-first-test.true)

pub signed_at-loop-first-2-preserved : goal.signed_at-loop-first-2-preserved
signed_at-loop-first-2-preserved t c = (
  omega arith,
  λ k p q. c.loop-first-2.invariant.1 k p (omega arith),
  rw c.in_ok-tree-2.ensures (opposed (omega arith) (c.loop-first-2.invariant.1 _ (omega arith) (omega arith)) c.loop-first-2.invariant.2),
)

pub signed_at-returns : goal.signed_at-returns
signed_at-returns t c =
    let r = found _ _ _ _ _ _ c.in_ok-tree.ensures c.in-Some.is in
    (from_here (omega arith) c.loop-first-2.invariant.2, minused c.loop-first.invariant r.1)

pub signed_at-returns-in_default : goal.signed_at-returns-in_default
signed_at-returns-in_default t c = minus_never c.loop-first.invariant (missing _ _ _ _ c.in_ok-tree.ensures c.in_default.is)

pub signed_at-loop-first-2-init : goal.signed_at-loop-first-2-init
signed_at-loop-first-2-init t c =
    let r = found _ _ _ _ _ _ c.in_ok-tree.ensures c.in-Some.is in
    (c.loop-first.invariant.ordered, c.loop-first.invariant.each, r.0)

pub unsigned_at-returns-in-Some-negative : goal.unsigned_at-returns-in-Some-negative
unsigned_at-returns-in-Some-negative t c = literal _ _ _ _ _ (c.has.ensures.value.0 c.if-not-has.false) (sym c.number_at.ensures.value ∙ c.in-Some.is) c.negative.ensures c.in-Some-negative.is

pub unsigned_at-returns-in-None : goal.unsigned_at-returns-in-None
unsigned_at-returns-in-None t c = literal_too_large _ _ _ _ (c.has.ensures.value.0 c.if-not-has.false) (sym c.number_at.ensures.value ∙ c.in-Some.is) c.negative.ensures c.in-None.is

pub unsigned_at-returns-in_default : goal.unsigned_at-returns-in_default
unsigned_at-returns-in_default t c = no_number _ _ (c.has.ensures.value.0 c.if-not-has.false) c.requires (sym c.number_at.ensures.value ∙ c.in_default.is)

pub unsigned_at-returns-then-not-has : goal.unsigned_at-returns-then-not-has
unsigned_at-returns-then-not-has t c = alone_ok _ _ _ (iff_false c.has.ensures.value c.if-not-has.true) c.primary_at.ensures

pub primary_at-loop-first-init : goal.primary_at-loop-first-init
primary_at-loop-first-init t c = (omega arith, no_member)

pub primary_at-loop-first-preserved : goal.primary_at-loop-first-preserved
primary_at-loop-first-preserved t c = (omega arith, members_go_on c.loop-first.invariant.1 (c.member_at.ensures.value.0 c.loop-first-test.true))

pub primary_at-member_test_at-requires-clause-words : goal.primary_at-member_test_at-requires-clause-words
primary_at-member_test_at-requires-clause-words t c = (last_member c.loop-first-2.invariant.1 (omega arith)).last

pub primary_at-loop-first-2-preserved : goal.primary_at-loop-first-2-preserved
primary_at-loop-first-2-preserved t c =
    let b = last_member c.loop-first-2.invariant.1 (omega arith) in
    (members_le b.before, b.before, c.in_ok-found-2.ensures)

pub simple_at-returns-in-Some : goal.simple_at-returns-in-Some
simple_at-returns-in-Some t c = column_found (lexemes c.args.tokens.now) c.args.at _ _ c.requires c.in_ok-found.ensures c.in-Some.is

pub simple_at-literal_at-requires : goal.simple_at-literal_at-requires
simple_at-literal_at-requires t c = column_missing (lexemes c.args.tokens.now) c.args.at _ c.in_ok-found.ensures c.in_default.is

pub simple_at-returns-in-Some-2 : goal.simple_at-returns-in-Some-2
simple_at-returns-in-Some-2 t c = literal_read (lexemes c.args.tokens.now) c.args.at _ _ c.in_ok-found-2.ensures.value c.in-Some-2.is (column_missing (lexemes c.args.tokens.now) c.args.at _ c.in_ok-found.ensures c.in_default.is) c.requires

pub simple_at-returns-in-None : goal.simple_at-returns-in-None
simple_at-returns-in-None t c = literal_missing (lexemes c.args.tokens.now) c.args.at _ c.in_ok-found-2.ensures.value c.in-None.is (column_missing (lexemes c.args.tokens.now) c.args.at _ c.in_ok-found.ensures c.in_default.is) (iff_false c.has.ensures.value c.if-has.false) c.requires

pub inside_at-returns-then-has : goal.inside_at-returns-then-has
inside_at-returns-then-has t c =
    let r = found _ _ _ _ _ _ c.in_ok-tree.ensures c.in-Some.is in
    closed c.requires r.0 r.1 (c.has.ensures.value.0 c.if-has.true)

pub inside_at-returns-else-has : goal.inside_at-returns-else-has
inside_at-returns-else-has t c =
    let r = found _ _ _ _ _ _ c.in_ok-tree.ensures c.in-Some.is in
    unclosed _ _ _ _ c.requires r.0 r.1 (iff_false c.has.ensures.value c.if-has.false)
