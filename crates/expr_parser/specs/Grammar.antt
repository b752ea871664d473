-- Which tokens spell which expression.
use Rattle.std.specs.Prelude.{◌≡◌, ℕ, suc, ◌≤◌, ◌^◌, true, false, List, Option, Some, None, slice_get, nat_lt, nat_le, if◌then◌else◌, pos, neg_ℤ}
use Rattle.std.specs.Option.{option_map}
use Rattle.sql_types.specs.declared.value.Value.TheVariants as value
use Rattle.sql_lexer.specs.Lexeme.{Lexeme, kind_at}
use Rattle.sql_lexer.specs.Content.{name, name_in, text_in}
use Rattle.sql_lexer.specs.declared.token.TokenKind.{TokenKind}
use Rattle.sql_lexer.specs.declared.token.TokenKind.TheVariants.{Reserved, Unreserved, Word, QuotedIdentifier, Text, Number, Punctuation}
use Rattle.sql_lexer.specs.declared.token.Reserved.TheVariants.{And, CurrentUser, False, Is, Not, Null, Or, SessionUser, True}
use Rattle.sql_lexer.specs.declared.token.Unreserved.TheVariants.{Member, Of}
use Rattle.sql_lexer.specs.declared.token.Punctuation.TheVariants.{Open, Close, Dot, Star, Plus, Minus, Slash, Percent, Equal, NotEqual, Less, LessOrEqual, Greater, GreaterOrEqual}
use Rattle.sql_ast.specs.Term.{Term, term_of}
use Rattle.sql_ast.specs.Term as tree
use Rattle.sql_ast.specs.declared.expression.ColumnName.{ColumnName}
use Rattle.sql_ast.specs.declared.expression.Comparison.{Comparison}
use Rattle.sql_ast.specs.declared.expression.Comparison.TheVariants as comparing
use Rattle.sql_ast.specs.declared.expression.Operation.TheVariants as operating
use Rattle.sql_ast.specs.declared.expression.Expression.{Expression}
use Rattle.expr_parser.specs.declared.level.Level.{Level}
use Rattle.expr_parser.specs.declared.level.Level.TheVariants as level
use Rattle.expr_parser.specs.declared.level.Connective.{Connective}
use Rattle.expr_parser.specs.declared.level.Connective.TheVariants as connective

-- an expression as it is written
abbrev pub Tree : Type 0
Tree = Term ColumnName

-- the parts of the grammar: a chain for each level of precedence, and what stands between them
pub data Part : Type 0 where
  chained : Level → Part
  negation : Part
  test : Part
  comparison : Part
  signed : Part
  primary : Part

-- expr = conj {OR conj}, conj = neg {AND neg}, sum = term {("+" | "-") term}, term = sign {("*" | "/" | "%") sign}
abbrev pub operand : Level → Part
operand level.Or = chained level.And
operand level.And = negation
operand level.Sum = chained level.Term
operand level.Term = signed

-- what joins the operands of a chain of a level
abbrev pub joiner : Level → Option TokenKind → Option Connective
joiner level.Or (Some (Reserved Or)) = Some connective.Or
joiner level.And (Some (Reserved And)) = Some connective.And
joiner level.Sum (Some (Punctuation Plus)) = Some (connective.Arithmetic operating.Add)
joiner level.Sum (Some (Punctuation Minus)) = Some (connective.Arithmetic operating.Subtract)
joiner level.Term (Some (Punctuation Star)) = Some (connective.Arithmetic operating.Multiply)
joiner level.Term (Some (Punctuation Slash)) = Some (connective.Arithmetic operating.Divide)
joiner level.Term (Some (Punctuation Percent)) = Some (connective.Arithmetic operating.Remainder)
joiner _ _ = None

-- two operands and what joins them
abbrev pub joined : Connective → Tree → Tree → Tree
joined connective.Or l r = tree.disjunction l r
joined connective.And l r = tree.conjunction l r
joined (connective.Arithmetic o) l r = tree.operation o l r

-- "=" | "<>" | "<" | "<=" | ">" | ">="
abbrev pub comparer : Option TokenKind → Option Comparison
comparer (Some (Punctuation Equal)) = Some comparing.Equal
comparer (Some (Punctuation NotEqual)) = Some comparing.NotEqual
comparer (Some (Punctuation Less)) = Some comparing.Less
comparer (Some (Punctuation LessOrEqual)) = Some comparing.LessOrEqual
comparer (Some (Punctuation Greater)) = Some comparing.Greater
comparer (Some (Punctuation GreaterOrEqual)) = Some comparing.GreaterOrEqual
comparer _ = None

-- a number that stands alone, below 2 ^ 63
abbrev pub positive : ℕ → Option Tree
positive n = if nat_lt n (2 ^ 63) then Some (tree.literal (value.Int (pos n))) else None

-- the number token's value
abbrev pub counted : Option TokenKind → Option ℕ
counted (Some (Number n)) = Some n
counted _ = None

-- the number after a "-" that begins a sign: it may be 2 ^ 63 too
abbrev pub negative : ℕ → Option Tree
negative n = if nat_le n (2 ^ 63) then Some (tree.literal (value.Int (neg_ℤ (pos n)))) else None

-- a column by its name, and by its table's where that is given
abbrev pub column_of : Option (List ℕ) → List ℕ → Tree
column_of t n = tree.column (record { table = t; column = n })

-- a name by itself
abbrev pub bare_column : List ℕ → Tree
bare_column n = column_of None n

-- name "." name
abbrev pub table_column : List ℕ → List ℕ → Tree
table_column t n = column_of (Some t) n

-- a text as a value
abbrev pub text_literal : List ℕ → Tree
text_literal t = tree.literal (value.Text t)

-- an expression of one token
abbrev pub leaf_of : TokenKind → List ℕ → Option Tree
leaf_of (Reserved Null) bytes = Some (tree.literal value.Null)
leaf_of (Reserved True) bytes = Some (tree.literal (value.Bool true))
leaf_of (Reserved False) bytes = Some (tree.literal (value.Bool false))
leaf_of (Reserved CurrentUser) bytes = Some tree.current_user
leaf_of (Reserved SessionUser) bytes = Some tree.session_user
leaf_of (Number n) bytes = positive n
leaf_of Word bytes = option_map bare_column (name_in Word bytes)
leaf_of (Unreserved w) bytes = option_map bare_column (name_in (Unreserved w) bytes)
leaf_of QuotedIdentifier bytes = option_map bare_column (name_in QuotedIdentifier bytes)
leaf_of Text bytes = option_map text_literal (text_in Text bytes)
leaf_of _ bytes = None

-- what a token of a kind is whatever its bytes are: a number that is a BIGINT, a truth value, NULL or a user
abbrev pub constant : TokenKind → Option Tree
constant (Reserved Null) = Some (tree.literal value.Null)
constant (Reserved True) = Some (tree.literal (value.Bool true))
constant (Reserved False) = Some (tree.literal (value.Bool false))
constant (Reserved CurrentUser) = Some tree.current_user
constant (Reserved SessionUser) = Some tree.session_user
constant (Number n) = positive n
constant _ = None

-- the expression that a token is by itself, if one is there
abbrev pub leaf : Option Lexeme → Option Tree
leaf None = None
leaf (Some t) = leaf_of t.kind t.bytes

mutual
  -- the tokens from the first index to before the second spell the tree, as this part of the grammar
  pub data Spells (ts : List Lexeme) : Part → ℕ → ℕ → Tree → Type 0 where
    -- a chain is an operand and what comes after it
    chain : {c : Level} {i k j : ℕ} {l e : Tree} → Spells ts (operand c) i k l → Continues ts c l k j e → Spells ts (chained c) i j e
    -- neg = NOT neg | test
    by_not : {i j : ℕ} {e : Tree} → kind_at ts i ≡ Some (Reserved Not) → Spells ts negation (suc i) j e → Spells ts negation i j (tree.negation e)
    no_not : {i j : ℕ} {e : Tree} → Spells ts test i j e → Spells ts negation i j e
    -- test = comp {IS [NOT] NULL}
    tests : {i k j : ℕ} {l e : Tree} → Spells ts comparison i k l → Tested ts l k j e → Spells ts test i j e
    -- comp = sum [("=" | "<>" | "<" | "<=" | ">" | ">=") sum]
    compared : {i k j : ℕ} {o : Comparison} {l r : Tree} → Spells ts (chained level.Sum) i k l → comparer (kind_at ts k) ≡ Some o → Spells ts (chained level.Sum) (suc k) j r → Spells ts comparison i j (tree.comparison o l r)
    not_compared : {i j : ℕ} {e : Tree} → Spells ts (chained level.Sum) i j e → Spells ts comparison i j e
    -- sign = "-" number | "-" sign | prim, where a "-" directly before a number is the number's
    by_number : {i n : ℕ} {e : Tree} → kind_at ts i ≡ Some (Punctuation Minus) → counted (kind_at ts (suc i)) ≡ Some n → negative n ≡ Some e → Spells ts signed i (suc (suc i)) e
    by_minus : {i j : ℕ} {e : Tree} → kind_at ts i ≡ Some (Punctuation Minus) → counted (kind_at ts (suc i)) ≡ None → Spells ts signed (suc i) j e → Spells ts signed i j (tree.minus e)
    no_minus : {i j : ℕ} {e : Tree} → Spells ts primary i j e → Spells ts signed i j e
    -- prim = number | text | TRUE | FALSE | NULL | CURRENT_USER | SESSION_USER | name | name "." name | "(" expr ")" | MEMBER OF prim
    by_leaf : {i : ℕ} {e : Tree} → leaf (slice_get ts i) ≡ Some e → Spells ts primary i (suc i) e
    qualified : {i : ℕ} {t n : List ℕ} → name (slice_get ts i) ≡ Some t → kind_at ts (suc i) ≡ Some (Punctuation Dot) → name (slice_get ts (suc (suc i))) ≡ Some n → Spells ts primary i (suc (suc (suc i))) (table_column t n)
    inside : {i j : ℕ} {e : Tree} → kind_at ts i ≡ Some (Punctuation Open) → Spells ts (chained level.Or) (suc i) j e → kind_at ts j ≡ Some (Punctuation Close) → Spells ts primary i (suc j) e
    by_member : {i j : ℕ} {e : Tree} → kind_at ts i ≡ Some (Unreserved Member) → kind_at ts (suc i) ≡ Some (Unreserved Of) → Spells ts primary (suc (suc i)) j e → Spells ts primary i j (tree.member_test e)

  -- the tokens from k to before j go on with the chain of which l is the front, to the whole e: it groups to the left
  pub data Continues (ts : List Lexeme) : Level → Tree → ℕ → ℕ → Tree → Type 0 where
    ends : {c : Level} {l : Tree} {k : ℕ} → Continues ts c l k k l
    goes_on : {c : Level} {l r e : Tree} {o : Connective} {k m j : ℕ} → joiner c (kind_at ts k) ≡ Some o → Spells ts (operand c) (suc k) m r → Continues ts c (joined o l r) m j e → Continues ts c l k j e

  -- the same for the tests after an operand
  pub data Tested (ts : List Lexeme) : Tree → ℕ → ℕ → Tree → Type 0 where
    untested : {l : Tree} {k : ℕ} → Tested ts l k k l
    is_null : {l e : Tree} {k j : ℕ} → kind_at ts k ≡ Some (Reserved Is) → kind_at ts (suc k) ≡ Some (Reserved Null) → Tested ts (tree.null_test l) (suc (suc k)) j e → Tested ts l k j e
    is_not_null : {l e : Tree} {k j : ℕ} → kind_at ts k ≡ Some (Reserved Is) → kind_at ts (suc k) ≡ Some (Reserved Not) → kind_at ts (suc (suc k)) ≡ Some (Reserved Null) → Tested ts (tree.not_null_test l) (suc (suc (suc k))) j e → Tested ts l k j e

-- the tokens from the first index to before the second spell an expression
abbrev pub SpellsExpr : List Lexeme → ℕ → ℕ → Tree → Type 0
SpellsExpr ts i j e = Spells ts (chained level.Or) i j e

-- the tokens from i on: the longest front that spells this part and its end, or None where no front does
abbrev pub ReadsLongestPart : List Lexeme → Part → ℕ → Option (Expression ColumnName × ℕ) → Type 0
ReadsLongestPart ts part i None = (j : ℕ) (e : Tree) → Spells ts part i j e → ⊥
ReadsLongestPart ts part i (Some found) = Spells ts part i found.1 (term_of found.0) × ((j : ℕ) (e : Tree) → Spells ts part i j e → j ≤ found.1)

-- the same for expressions: the longest front from i on that spells one and its end, or None where no front does
abbrev pub ReadsLongest : List Lexeme → ℕ → Option (Tree × ℕ) → Type 0
ReadsLongest ts i None = (j : ℕ) (e : Tree) → SpellsExpr ts i j e → ⊥
ReadsLongest ts i (Some found) = SpellsExpr ts i found.1 found.0 × ((j : ℕ) (e : Tree) → SpellsExpr ts i j e → j ≤ found.1)

-- a "-" that is no number's
abbrev pub IsMinus : List Lexeme → ℕ → Type 0
IsMinus ts k = (kind_at ts k ≡ Some (Punctuation Minus)) × (counted (kind_at ts (suc k)) ≡ None)

-- the words MEMBER OF
abbrev pub IsMember : List Lexeme → ℕ → Type 0
IsMember ts k = (kind_at ts k ≡ Some (Unreserved Member)) × (kind_at ts (suc k) ≡ Some (Unreserved Of))

-- no primary begins at an index
abbrev pub HasNoPrimary : List Lexeme → ℕ → Type 0
HasNoPrimary ts i = (j : ℕ) (e : Tree) → Spells ts primary i j e → ⊥

-- the column that begins with a name, than which no primary is longer unless it is MEMBER OF an operand, or None where no name stands there
abbrev pub ReadsColumn : List Lexeme → ℕ → Option (Expression ColumnName × ℕ) → Type 0
ReadsColumn ts i None = name (slice_get ts i) ≡ None
ReadsColumn ts i (Some found) = Spells ts primary i found.1 (term_of found.0) × ((IsMember ts i → HasNoPrimary ts (suc (suc i))) → (j : ℕ) (e : Tree) → Spells ts primary i j e → j ≤ found.1)
