-- Operands that stand alone.
use Rattle.std.proofs.Common.{◌≡◌, ℕ, suc, ◌+◌, ◌≤◌, ◌<◌, List, Option, Some, slice_get, sym, ap, subst, ◌∙◌, arith, add-one, option_map}
use Rattle.sql_lexer.specs.Lexeme.{Lexeme, kind_at}
use Rattle.sql_ast.specs.Term.{term_of}
use Rattle.sql_ast.specs.Term as tree
use Rattle.sql_ast.specs.declared.expression.ColumnName.{ColumnName}
use Rattle.sql_ast.specs.declared.expression.Comparison.{Comparison}
use Rattle.sql_ast.specs.declared.expression.Expression.{Expression}
use Rattle.expr_parser.specs.declared.level.Level.{Level}
use Rattle.expr_parser.specs.declared.level.Level.TheVariants as level
use Rattle.expr_parser.specs.Grammar.{Tree, chained, comparison, primary, operand, comparer, leaf, Spells, chain, no_not, tests, compared, not_compared, no_minus, by_leaf, ends, untested, ReadsLongestPart}
use Rattle.expr_parser.specs.Precedence.{token_precedence, part_precedence, WholeIsLongest}
use Rattle.expr_parser.proofs.Readings.{same, shorter, longer, one, operand_precedence}

pub whole_is_longest : WholeIsLongest
whole_is_longest ts part i j k d e a lt b = elim (one a b) [ same p q ↦ omega arith | shorter p q ↦ absurd (omega (arith, lt)) | longer p q ↦ omega arith ]

-- what spells a part is an operand of each level, where no operator between stands behind it
raised : {ts : List Lexeme} {i j : ℕ} {e : Tree} (c : Level) → Spells ts primary i j e → Spells ts (operand c) i j e
raised level.Term d = no_minus d
raised level.Sum d = chain (no_minus d) ends
raised level.And d = no_not (tests (not_compared (chain (chain (no_minus d) ends) ends)) untested)
raised level.Or d = chain (no_not (tests (not_compared (chain (chain (no_minus d) ends) ends)) untested)) ends

raised_comparison : {ts : List Lexeme} {i j : ℕ} {e : Tree} (c : Level) → part_precedence (chained c) < 3 → Spells ts comparison i j e → Spells ts (operand c) i j e
raised_comparison level.Or lt d = chain (no_not (tests d untested)) ends
raised_comparison level.And lt d = no_not (tests d untested)
raised_comparison level.Sum lt d = absurd (omega (arith, lt))
raised_comparison level.Term lt d = absurd (omega (arith, lt))

reads : {ts : List Lexeme} {i j : ℕ} {e : Tree} (c : Level) → Spells ts (operand c) i j e → token_precedence (kind_at ts j) ≤ part_precedence (chained c) → Spells ts (operand c) i j e × ((k : ℕ) (f : Tree) → Spells ts (operand c) i k f → k ≤ j)
reads {ts} {i} {j} {e} c d le = (d, λ k f g. whole_is_longest ts (operand c) i j k e f d (omega (arith, le, operand_precedence c)) g)

-- the leaf that was read
read_leaf : (ts : List Lexeme) (i : ℕ) (x : Expression ColumnName) (o : Option (Expression ColumnName)) → option_map term_of o ≡ leaf (slice_get ts i) → o ≡ Some x → leaf (slice_get ts i) ≡ Some (term_of x)
read_leaf ts i x o h e = sym h ∙ ap (option_map term_of) e

pub leaf_alone : (ts : List Lexeme) (i : ℕ) (x : Expression ColumnName) (c : Level) (o : Option (Expression ColumnName)) → option_map term_of o ≡ leaf (slice_get ts i) → o ≡ Some x → token_precedence (kind_at ts (i + 1)) ≤ part_precedence (chained c) → ReadsLongestPart ts (operand c) i (Some (x, i + 1))
leaf_alone ts i x c o h e le =
    let d : Spells ts primary i (i + 1) (term_of x) = rw add-one (by_leaf (read_leaf ts i x o h e)) in
    reads c (raised c d) le

-- an operand of one token of a comparison
side : {ts : List Lexeme} {i : ℕ} {e : Tree} → leaf (slice_get ts i) ≡ Some e → Spells ts (chained level.Sum) i (suc i) e
side h = chain (chain (no_minus (by_leaf h)) ends) ends

pub comparison_alone : (ts : List Lexeme) (i : ℕ) (x y z : Expression ColumnName) (o : Comparison) (c : Level) (l r : Option (Expression ColumnName)) → part_precedence (chained c) < 3 → option_map term_of l ≡ leaf (slice_get ts i) → l ≡ Some x → comparer (kind_at ts (i + 1)) ≡ Some o → option_map term_of r ≡ leaf (slice_get ts (i + 2)) → r ≡ Some y → term_of z ≡ tree.comparison o (term_of x) (term_of y) → token_precedence (kind_at ts (i + 3)) ≤ part_precedence (chained c) → ReadsLongestPart ts (operand c) i (Some (z, i + 3))
comparison_alone ts i x y z o c l r lt h e g k f q le =
    let two : i + 2 ≡ suc (suc i) = omega arith in
    let three : i + 3 ≡ suc (suc (suc i)) = omega arith in
    let right : leaf (slice_get ts (i + 2)) ≡ Some (term_of y) = read_leaf ts (i + 2) y r k f in
    let a : leaf (slice_get ts (suc (suc i))) ≡ Some (term_of y) = subst (λ n. leaf (slice_get ts n) ≡ Some (term_of y)) two right in
    let b : comparer (kind_at ts (suc i)) ≡ Some o = subst (λ n. comparer (kind_at ts n) ≡ Some o) (add-one i) g in
    let d : Spells ts comparison i (suc (suc (suc i))) (tree.comparison o (term_of x) (term_of y)) = compared (side (read_leaf ts i x l h e)) b (side a) in
    let s : Spells ts comparison i (i + 3) (term_of z) = rw three (rw q d) in
    reads c (raised_comparison c lt s) le
