use Rattle.std.proofs.Common.{◌-◌, ◌≡◌, ℕ, ◌+◌, ◌*◌, ◌<◌, ◌≤◌, length, suc, Some, None}
use Rattle.sql_lexer.specs.Lexeme.{lexemes, kind_at}
use Rattle.sql_lexer.specs.declared.token.TokenKind.TheVariants.{Reserved, Punctuation}
use Rattle.sql_lexer.specs.declared.token.Reserved.TheVariants.{Not}
use Rattle.sql_lexer.specs.declared.token.Punctuation.TheVariants.{Minus}
use Rattle.sql_ast.specs.Term.{term_of}
use Rattle.expr_parser.specs.Grammar.{Spells, negation, signed, primary, counted, ReadsLongestPart}
use Rattle.expr_parser.specs.declared.level.Level.{Level}
use Rattle.expr_parser.specs.declared.level.Level.TheVariants as level
use Rattle.expr_parser.proofs.Descent.{Chaining, Notting, Testing, Minusing}
use Rattle.expr_parser.proofs.Primaries.{AreMembers}
use Rattle.expr_parser.proofs.parser.+descent.Given as goal

-- a chain calls only what is below it, until a parenthesis is passed
abbrev weight : Level → ℕ
weight level.Or = 15
weight level.And = 13
weight level.Sum = 8
weight level.Term = 6

abbrev pub decreases-chain_at : goal.decreases-chain_at
decreases-chain_at l = (length l.tokens.now - l.at) * 20 + weight l.level

abbrev pub decreases-comparison_at : goal.decreases-comparison_at
decreases-comparison_at l = (length l.tokens.now - l.at) * 20 + 9

abbrev pub decreases-negation_at : goal.decreases-negation_at
decreases-negation_at l = (length l.tokens.now - l.at) * 20 + 11

abbrev pub decreases-operand_at : goal.decreases-operand_at
decreases-operand_at l = (length l.tokens.now - l.at) * 20 + (weight l.level - 1)

abbrev pub decreases-primary_at : goal.decreases-primary_at
decreases-primary_at l = (length l.tokens.now - l.at) * 20 + 2

abbrev pub decreases-simple_at : goal.decreases-simple_at
decreases-simple_at l = (length l.tokens.now - l.at) * 20 + 1

abbrev pub invariant-primary_at-loop-first : goal.invariant-primary_at-loop-first
invariant-primary_at-loop-first l = (l.at ≤ l.first) × AreMembers (lexemes l.tokens) l.at l.first

abbrev pub decreases-primary_at-loop-first : goal.decreases-primary_at-loop-first
decreases-primary_at-loop-first l = length l.tokens - l.first

abbrev pub invariant-primary_at-loop-first-2 : goal.invariant-primary_at-loop-first-2
invariant-primary_at-loop-first-2 l = (l.at ≤ l.first) × AreMembers (lexemes l.tokens) l.at l.first × ReadsLongestPart (lexemes l.tokens) primary l.first l.found

abbrev pub decreases-primary_at-loop-first-2 : goal.decreases-primary_at-loop-first-2
decreases-primary_at-loop-first-2 l = l.first - l.at

abbrev pub decreases-test_at : goal.decreases-test_at
decreases-test_at l = (length l.tokens.now - l.at) * 20 + 10

abbrev pub invariant-chain_at-loop-operator : goal.invariant-chain_at-loop-operator
invariant-chain_at-loop-operator l = Chaining (lexemes l.tokens) l.level l.at l.end (term_of l.left)

abbrev pub decreases-chain_at-loop-operator : goal.decreases-chain_at-loop-operator
decreases-chain_at-loop-operator l = length l.tokens - l.end

abbrev pub invariant-negation_at-loop-first : goal.invariant-negation_at-loop-first
invariant-negation_at-loop-first l = Notting (lexemes l.tokens) l.at l.first

abbrev pub decreases-negation_at-loop-first : goal.decreases-negation_at-loop-first
decreases-negation_at-loop-first l = length l.tokens - l.first

abbrev pub invariant-negation_at-loop-first-2 : goal.invariant-negation_at-loop-first-2
invariant-negation_at-loop-first-2 l = (l.at ≤ l.first) × ((k : ℕ) → l.at ≤ k → k < l.first → kind_at (lexemes l.tokens) k ≡ Some (Reserved Not)) × Spells (lexemes l.tokens) negation l.first l.end (term_of l.tree)

abbrev pub decreases-negation_at-loop-first-2 : goal.decreases-negation_at-loop-first-2
decreases-negation_at-loop-first-2 l = l.first - l.at

abbrev pub invariant-test_at-loop-alloc : goal.invariant-test_at-loop-alloc
invariant-test_at-loop-alloc l = Testing (lexemes l.tokens) l.at l.end (term_of l.tree)

abbrev pub decreases-test_at-loop-alloc : goal.decreases-test_at-loop-alloc
decreases-test_at-loop-alloc l = length l.tokens - l.end

abbrev pub decreases-signed_at : goal.decreases-signed_at
decreases-signed_at l = (length l.tokens.now - l.at) * 20 + 4

abbrev pub decreases-unsigned_at : goal.decreases-unsigned_at
decreases-unsigned_at l = (length l.tokens.now - l.at) * 20 + 3

abbrev pub decreases-inside_at : goal.decreases-inside_at
decreases-inside_at l = (length l.tokens.now - l.at) * 20

abbrev pub invariant-signed_at-loop-first : goal.invariant-signed_at-loop-first
invariant-signed_at-loop-first l = Minusing (lexemes l.tokens) l.at l.first

abbrev pub decreases-signed_at-loop-first : goal.decreases-signed_at-loop-first
decreases-signed_at-loop-first l = length l.tokens - l.first

abbrev pub invariant-signed_at-loop-first-2 : goal.invariant-signed_at-loop-first-2
invariant-signed_at-loop-first-2 l = (l.at ≤ l.first) × ((k : ℕ) → l.at ≤ k → k < l.first → (kind_at (lexemes l.tokens) k ≡ Some (Punctuation Minus)) × (counted (kind_at (lexemes l.tokens) (suc k)) ≡ None)) × Spells (lexemes l.tokens) signed l.first l.end (term_of l.tree)

abbrev pub decreases-signed_at-loop-first-2 : goal.decreases-signed_at-loop-first-2
decreases-signed_at-loop-first-2 l = l.first - l.at
