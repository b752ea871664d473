-- Classes of tokens: those that can begin a phrase, and those that can extend one.
use Rattle.std.specs.Prelude.{ℕ, ◌+◌, ◌*◌, Bool, true, false, not, ◌&&◌, ◌||◌, nat_eq, List, [], ◌∷◌, Option, Some, None}
use Rattle.sql_lexer.specs.declared.token.TokenKind.{TokenKind}
use Rattle.sql_lexer.specs.declared.token.TokenKind.TheVariants.{Reserved, Unreserved, Word, QuotedIdentifier, Text, Number, Punctuation}
use Rattle.sql_lexer.specs.declared.token.Punctuation.TheVariants as punctuation
use Rattle.sql_lexer.specs.contracts.token.Reserved as reserved_words
use Rattle.sql_lexer.specs.contracts.token.Unreserved as unreserved_words
use Rattle.sql_lexer.specs.contracts.token.Punctuation as punctuations
use denote.Enum.Declared.{tag_of}

-- a number for each kind of token; numbers are of one kind
abbrev pub code : TokenKind → ℕ
code (Reserved w) = 8 * tag_of reserved_words.the_type w
code (Unreserved w) = 8 * tag_of unreserved_words.the_type w + 1
code (Punctuation p) = 8 * tag_of punctuations.the_type p + 2
code Word = 3
code QuotedIdentifier = 4
code Text = 5
code (Number n) = 6

abbrev pub is_number : TokenKind → Bool
is_number (Number n) = true
is_number _ = false

-- a class of tokens
pub data Class : Type 0 where
  -- those of one kind
  exactly : TokenKind → Class
  -- those that may be a name
  names : Class
  -- all but "*": none begins an expression with it
  no_star : Class

-- a token that may be a name: a word that is not reserved, or a name in quotes
abbrev pub is_name : TokenKind → Bool
is_name Word = true
is_name QuotedIdentifier = true
is_name (Unreserved w) = true
is_name _ = false

-- a token of this kind is in the class
abbrev pub in_class : Class → Option TokenKind → Bool
in_class c None = false
in_class (exactly a) (Some k) = nat_eq (code k) (code a)
in_class names (Some k) = is_name k
in_class no_star (Some k) = not (nat_eq (code k) (code (Punctuation punctuation.Star)))

-- or in one of the classes
abbrev pub in_any : List Class → Option TokenKind → Bool
in_any [] k = false
in_any (c ∷ cs) k = in_class c k || in_any cs k

-- no token is in both
abbrev pub classes_apart : Class → Class → Bool
classes_apart (exactly a) c = not (in_class c (Some a))
classes_apart c (exactly a) = not (in_class c (Some a))
classes_apart c d = false

abbrev pub apart_from : Class → List Class → Bool
apart_from c [] = true
apart_from c (d ∷ ds) = classes_apart c d && apart_from c ds

-- no token is in one of the former and in one of the latter
abbrev pub apart : List Class → List Class → Bool
apart [] ds = true
apart (c ∷ cs) ds = apart_from c ds && apart cs ds
