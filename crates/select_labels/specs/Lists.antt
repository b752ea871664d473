-- The list of a SELECT, and its items.
use Rattle.std.specs.Prelude.{ℕ, suc, ◌==◌, ◌&&◌, Bool, true, false, if◌then◌else◌, List, [], ◌∷◌, ◌++◌, take, drop}
use Rattle.sql_lexer.specs.declared.token.TokenKind.{TokenKind}
use Rattle.sql_lexer.specs.declared.token.TokenKind.TheVariants as kind
use Rattle.sql_lexer.specs.declared.token.Punctuation.TheVariants as punctuation
use Rattle.sql_lexer.specs.declared.token.Reserved.TheVariants as reserved
use Rattle.sql_lexer.specs.Lexeme.{Lexeme}
use Rattle.sql_lexer.specs.Parentheses.{open_after}

abbrev pub is_select : TokenKind → Bool
is_select (kind.Reserved reserved.Select) = true
is_select k = false

abbrev pub is_comma : TokenKind → Bool
is_comma (kind.Punctuation punctuation.Comma) = true
is_comma k = false

-- FROM or a semicolon
abbrev pub ends_list : TokenKind → Bool
ends_list (kind.Reserved reserved.From) = true
ends_list (kind.Punctuation punctuation.Semicolon) = true
ends_list k = false

-- how many tokens stand before the first that ends the list outside parentheses, where so many are open
abbrev pub length_from : ℕ → List Lexeme → ℕ
length_from depth [] = 0
length_from depth (t ∷ ts) = if depth == 0 && ends_list t.kind then 0 else suc (length_from (open_after depth t.kind) ts)

-- of the tokens behind SELECT those of the list, and those behind it
abbrev pub list_of : List Lexeme → List Lexeme
list_of ts = take (length_from 0 ts) ts

abbrev pub behind_list : List Lexeme → List Lexeme
behind_list ts = drop (length_from 0 ts) ts

-- a comma outside parentheses
abbrev pub parts_items : ℕ → TokenKind → Bool
parts_items depth k = depth == 0 && is_comma k

-- it parts items; these tokens of one were read before
abbrev pub items_from : ℕ → List Lexeme → List Lexeme → List (List Lexeme)
items_from depth item [] = item ∷ []
items_from depth item (t ∷ ts) =
    if parts_items depth t.kind then item ∷ items_from 0 [] ts
    else items_from (open_after depth t.kind) (item ++ t ∷ []) ts

abbrev pub items_of : List Lexeme → List (List Lexeme)
items_of list = items_from 0 [] list
