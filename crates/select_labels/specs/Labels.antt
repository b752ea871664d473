-- The labels of items: an item is an expression, or an expression, AS and a name.
use Rattle.std.specs.Prelude.{ℕ, ◌==◌, ◌&&◌, not, Bool, true, false, if◌then◌else◌, List, [], ◌∷◌, ◌++◌, Option, Some, None}
use Rattle.std.specs.List.{flat_map}
use Rattle.std.specs.Str.{bytes_eq}
use Rattle.sql_lexer.specs.declared.token.TokenKind.{TokenKind}
use Rattle.sql_lexer.specs.declared.token.TokenKind.TheVariants as kind
use Rattle.sql_lexer.specs.declared.token.Punctuation.TheVariants as punctuation
use Rattle.sql_lexer.specs.declared.token.Reserved.TheVariants as reserved
use Rattle.sql_lexer.specs.Content.{name_in}
use Rattle.sql_lexer.specs.Lexeme.{Lexeme}
use Rattle.sql_lexer.specs.Parentheses.{open_after}

-- a label: AS, the word behind it, and the name that this is
pub record TheLabel : Type 0 where
  pub sign : Lexeme
  pub word : Lexeme
  pub name : List ℕ
  -- what it labels is a column of this name
  pub column : Bool

abbrev pub is_as : TokenKind → Bool
is_as (kind.Reserved reserved.As) = true
is_as k = false

abbrev pub is_star : TokenKind → Bool
is_star (kind.Punctuation punctuation.Star) = true
is_star k = false

abbrev pub is_dot : TokenKind → Bool
is_dot (kind.Punctuation punctuation.Dot) = true
is_dot k = false

-- any word with A to Z in lower case, a reserved one as others, or what stands between double quotes
abbrev pub label_name : TokenKind → List ℕ → Option (List ℕ)
label_name (kind.Reserved w) bytes = name_in kind.Word bytes
label_name k bytes = name_in k bytes

-- ---- what is labelled

abbrev pub has_name : List ℕ → Option (List ℕ) → Bool
has_name n None = false
has_name n (Some m) = bytes_eq m n

abbrev pub is_named : List ℕ → Lexeme → Bool
is_named n t = has_name n (name_in t.kind t.bytes)

-- a name, or one behind a dot
abbrev pub is_column : List ℕ → List Lexeme → Bool
is_column n (t ∷ []) = is_named n t
is_column n (q ∷ dot ∷ t ∷ []) = is_dot dot.kind && is_named n t
is_column n ts = false

-- some tokens, but no `*` alone
abbrev pub may_be_labelled : List Lexeme → Bool
may_be_labelled [] = false
may_be_labelled (t ∷ []) = not (is_star t.kind)
may_be_labelled (t ∷ u ∷ ts) = true

-- ---- the label of an item: None where AS is misplaced, Some None where there is no AS

abbrev pub label_by : List Lexeme → Lexeme → Lexeme → Option (List ℕ) → Option (Option TheLabel)
label_by expression sign word None = None
label_by expression sign word (Some n) = Some (Some (record { sign = sign; word = word; name = n; column = is_column n expression }))

-- behind AS stands one word
abbrev pub label_of : List Lexeme → Lexeme → List Lexeme → Option (Option TheLabel)
label_of expression sign (word ∷ []) = label_by expression sign word (label_name word.kind word.bytes)
label_of expression sign words = None

-- AS stands outside parentheses
abbrev pub label_behind : ℕ → List Lexeme → Lexeme → List Lexeme → Option (Option TheLabel)
label_behind depth expression sign words = if depth == 0 && may_be_labelled expression then label_of expression sign words else None

-- by the first AS; these tokens of the item stand before, where so many parentheses are open
abbrev pub label_from : ℕ → List Lexeme → List Lexeme → Option (Option TheLabel)
label_from depth before [] = Some None
label_from depth before (t ∷ ts) =
    if is_as t.kind then label_behind depth before t ts
    else label_from (open_after depth t.kind) (before ++ t ∷ []) ts

abbrev pub label_in : List Lexeme → Option (Option TheLabel)
label_in item = label_from 0 [] item

-- ---- the labels of all items

abbrev pub with_label : Option (Option TheLabel) → Option (List (Option TheLabel)) → Option (List (Option TheLabel))
with_label None ls = None
with_label (Some l) None = None
with_label (Some l) (Some ls) = Some (l ∷ ls)

-- for each item its label, if it has one, unless an AS is misplaced
abbrev pub labels_in : List (List Lexeme) → Option (List (Option TheLabel))
labels_in [] = Some []
labels_in (item ∷ items) = with_label (label_in item) (labels_in items)

-- the tokens of labels: each AS and each name
abbrev pub tokens_of : Option TheLabel → List Lexeme
tokens_of None = []
tokens_of (Some l) = l.sign ∷ l.word ∷ []

abbrev pub label_tokens : List (Option TheLabel) → List Lexeme
label_tokens ls = flat_map tokens_of ls
