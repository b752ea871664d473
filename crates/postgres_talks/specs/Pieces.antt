-- The statements of a text: what stands between semicolons.
use Rattle.std.specs.Prelude.{◌≡◌, ℕ, suc, ◌+◌, ◌-◌, ◌&&◌, ◌||◌, nat_lt, nat_le, nat_eq, Bool, true, false, if◌then◌else◌, List, [], ◌∷◌, ◌++◌, codes, fold, length, take, slice_range, Option, Some, None, Result, Ok, Err}
use Rattle.std.specs.List.{flat_map, list_any, starts_with}
use Rattle.std.specs.Str.{str_eq_ignore_ascii_case}
use Rattle.sql_types.specs.declared.state.SqlState.{SqlState}
use Rattle.sql_lexer.specs.declared.token.TokenKind.{TokenKind}
use Rattle.sql_lexer.specs.declared.token.TokenKind.TheVariants as kind
use Rattle.sql_lexer.specs.declared.token.Punctuation.TheVariants as punctuation
use Rattle.sql_lexer.specs.declared.token.Reserved.TheVariants as reserved
use Rattle.sql_lexer.specs.Lexeme.{Lexeme}
use Rattle.sql_lexer.specs.Lexing.{Lexes}
use Rattle.sql_lexer.specs.Slices.{start_at, text_between}
use Rattle.postgres_texts.specs.Reserved.{is_reserved}
use Rattle.syntax_places.specs.SyntaxPlaces.{IsSyntaxPlace}
use Rattle.select_labels.specs.declared.unlabelled.Unlabelled.{Unlabelled}
use Rattle.select_labels.specs.Unlabelled.{IsWithoutLabels, may_have_labels}
use Rattle.postgres_talks.specs.declared.fault.TalkFault.TheVariants as fault
use Rattle.postgres_talks.specs.declared.piece.StatementPiece.{StatementPiece}
use Rattle.postgres_talks.specs.declared.piece.StatementPiece.TheVariants as piece
use Rattle.postgres_talks.specs.declared.settled.Settled.{Settled}
use Rattle.postgres_talks.specs.declared.settled.Substitute.{Substitute}
use Rattle.postgres_talks.specs.declared.settled.Substitute.TheVariants as substitute
use Rattle.postgres_talks.specs.Labels.{bare}
use Rattle.postgres_talks.specs.Settled.{lines, settled_in, substitutes, substitute_in}

abbrev pub is_semicolon : TokenKind → Bool
is_semicolon (kind.Punctuation punctuation.Semicolon) = true
is_semicolon k = false

-- ---- what tokens are

-- tokens as a line, with one blank between two
abbrev pub line_of : List Lexeme → List ℕ
line_of [] = []
line_of (t ∷ ts) = t.bytes ++ flat_map (λ u. 32 ∷ u.bytes) ts

-- a word that PostgreSQL reserves, and the language takes for a name
abbrev pub is_reserved_as : TokenKind → List ℕ → Bool
is_reserved_as kind.Word bytes = is_reserved bytes
is_reserved_as k bytes = false

abbrev pub has_reserved : List Lexeme → Bool
has_reserved ts = list_any (λ t. is_reserved_as t.kind t.bytes) ts

-- behind FROM or JOIN stands a catalogue's name
abbrev pub is_joining : TokenKind → Bool
is_joining (kind.Reserved reserved.From) = true
is_joining (kind.Reserved reserved.Join) = true
is_joining k = false

abbrev pub is_catalogue : List ℕ → Bool
is_catalogue word = str_eq_ignore_ascii_case (codes "pg_catalog") word || str_eq_ignore_ascii_case (codes "information_schema") word

abbrev pub is_dot : TokenKind → Bool
is_dot (kind.Punctuation punctuation.Dot) = true
is_dot k = false

abbrev pub is_select : TokenKind → Bool
is_select (kind.Reserved reserved.Select) = true
is_select k = false

-- and a dot: no statement of the language has one there
abbrev pub joins_catalogue : Lexeme → List Lexeme → Bool
joins_catalogue t (u ∷ v ∷ vs) = is_joining t.kind && (is_catalogue u.bytes && is_dot v.kind)
joins_catalogue t us = false

abbrev pub names_catalogue : List Lexeme → Bool
names_catalogue [] = false
names_catalogue (t ∷ ts) = if joins_catalogue t ts then true else names_catalogue ts

-- a text with a fault has the name of a catalogue and a dot
abbrev pub mentions : List ℕ → List ℕ → Bool
mentions name [] = false
mentions name (b ∷ bs) = if starts_with nat_eq (b ∷ bs) name then true else mentions name bs

abbrev pub mentions_catalogue : List ℕ → Bool
mentions_catalogue text = mentions (codes "pg_catalog.") text || mentions (codes "information_schema.") text

-- ---- what a statement is

-- a SELECT is told by its first token
abbrev pub begins_select : List Lexeme → Bool
begins_select [] = false
begins_select (t ∷ ts) = is_select t.kind

-- and so is what writes no row: a block's beginning and its end, and what sets a role
abbrev pub is_control : List ℕ → Bool
is_control word = list_any (λ w. str_eq_ignore_ascii_case w word) (codes "begin" ∷ codes "start" ∷ codes "commit" ∷ codes "rollback" ∷ codes "set" ∷ codes "reset" ∷ [])

abbrev pub begins_control : List Lexeme → Bool
begins_control [] = false
begins_control (t ∷ ts) = is_control t.bytes

abbrev pub asked : List ℕ → List Lexeme → StatementPiece
asked slice ts = if begins_select ts then piece.Select (bare slice) else (if begins_control ts then piece.Control slice else piece.Statement slice)

abbrev pub plain : List ℕ → List Lexeme → StatementPiece
plain slice ts = if names_catalogue ts then piece.Faulty fault.Catalogue else (if has_reserved ts then piece.Faulty fault.ReservedWord else asked slice ts)

abbrev pub substituted : Substitute → StatementPiece
substituted substitute.Begin = piece.Control (codes "BEGIN")
substituted substitute.BeginReadOnly = piece.BeginReadOnly
substituted substitute.Commit = piece.Control (codes "COMMIT")
substituted substitute.Rollback = piece.Control (codes "ROLLBACK")
substituted substitute.DiscardAll = piece.DiscardAll

abbrev pub by_substitute : Option Substitute → List ℕ → List Lexeme → StatementPiece
by_substitute (Some s) slice ts = substituted s
by_substitute None slice ts = plain slice ts

abbrev pub by_settled : Option Settled → List ℕ → List Lexeme → StatementPiece
by_settled (Some s) slice ts = piece.Settled s []
by_settled None slice ts = by_substitute (substitute_in substitutes (line_of ts)) slice ts

-- a slice of a text that has these tokens
abbrev pub piece_of : List ℕ → List Lexeme → StatementPiece
piece_of slice ts = by_settled (settled_in lines (line_of ts)) slice ts

-- A text that has a fault is one statement, which the machine refuses.
abbrev pub faulty : List ℕ → StatementPiece
faulty text = if mentions_catalogue text then piece.Faulty fault.Catalogue else piece.Statement text

abbrev pub piece_by : List ℕ → Result (List Lexeme) SqlState → StatementPiece
piece_by text (Ok ts) = piece_of text ts
piece_by text (Err state) = faulty text

-- ---- labels of its columns

-- a SELECT has these, and so has one that is answered without the machine
abbrev pub labelled : List (Option (List ℕ)) → StatementPiece → StatementPiece
labelled ls (piece.Select t) = piece.Select (record t { labels = ls })
labelled ls (piece.Settled s others) = piece.Settled s ls
labelled ls p = p

-- what a text is as a whole
pub record IsWholePiece (text : List ℕ) (p : StatementPiece) : Type 0 where
  pub tokens : Result (List Lexeme) SqlState
  pub lexes : Lexes text tokens
  pub piece_is : p ≡ piece_by text tokens

-- and one of which these labels were taken out
abbrev pub IsLabelledPiece : Unlabelled → StatementPiece → Type 0
IsLabelledPiece u p = (q : StatementPiece) × IsWholePiece u.text q × (p ≡ labelled u.labels q)

-- ---- where its syntax goes wrong

-- a byte that begins a character, and how many characters there are
abbrev pub begins_character : ℕ → Bool
begins_character b = nat_lt b 128 || nat_le 192 b

abbrev pub character_after : ℕ → ℕ → ℕ
character_after n b = if begins_character b then n + 1 else n

abbrev pub character_count : List ℕ → ℕ
character_count bytes = fold character_after 0 bytes

-- characters are counted from 1 (PostgreSQL 15 manual, 55.8, field P), with those that stand before a text
abbrev pub position_at : List ℕ → List ℕ → ℕ → ℕ
position_at before text place = (character_count before + character_count (take place text)) + 1

-- the statement of which the machine would be asked, if it would be
abbrev pub asked_text : StatementPiece → Option (List ℕ)
asked_text (piece.Statement text) = Some text
asked_text (piece.Control text) = Some text
asked_text (piece.Select t) = Some t.text
asked_text p = None

-- one whose syntax goes wrong has a fault there
abbrev pub placed_in : List ℕ → List ℕ → Option ℕ → StatementPiece → StatementPiece
placed_in before text (Some place) p = piece.Faulty (fault.SyntaxAt (position_at before text place))
placed_in before text None p = p

abbrev pub IsPlacedIn : Option (List ℕ) → List ℕ → StatementPiece → StatementPiece → Type 0
IsPlacedIn None before q p = p ≡ q
IsPlacedIn (Some text) before q p = (found : Option ℕ) × IsSyntaxPlace text found × (p ≡ placed_in before text found q)

-- that is told of a text as its client wrote it, and no message is longer
abbrev pub tells_place : Bool → List ℕ → Bool
tells_place is_written before = is_written && nat_le (length before) 131072

abbrev pub IsOwnIf : Bool → List ℕ → StatementPiece → StatementPiece → Type 0
IsOwnIf true before q p = IsPlacedIn (asked_text q) before q p
IsOwnIf false before q p = p ≡ q

-- what it is by its own tokens
abbrev pub IsOwnPiece : Bool → List ℕ → StatementPiece → StatementPiece → Type 0
IsOwnPiece is_written before q p = IsOwnIf (tells_place is_written before) before q p

-- ---- a slice of a text

-- what stands before it, itself, and its tokens
pub record TheSlice : Type 0 where
  pub before : List ℕ
  pub text : List ℕ
  pub tokens : List Lexeme

-- where there were no labels it stays as it is
abbrev pub IsPieceWithout : Bool → Option Unlabelled → TheSlice → StatementPiece → Type 0
IsPieceWithout is_written None s p = IsOwnPiece is_written s.before (piece_of s.text s.tokens) p
IsPieceWithout is_written (Some u) s p = IsLabelledPiece u p

abbrev pub IsPieceIf : Bool → Bool → TheSlice → StatementPiece → Type 0
IsPieceIf is_written false s p = IsOwnPiece is_written s.before (piece_of s.text s.tokens) p
IsPieceIf is_written true s p = (u : Option Unlabelled) × IsWithoutLabels s.text u × IsPieceWithout is_written u s p

-- what a slice of a text is, which is as its client wrote it or not: by the slice without the labels of its columns
abbrev pub IsPiece : Bool → TheSlice → StatementPiece → Type 0
IsPiece is_written s p = IsPieceIf is_written (may_have_labels s.tokens) s p

-- ---- the statements of a text

-- from one token up to another, if there is one
abbrev pub slice_between : List ℕ → List Lexeme → ℕ → ℕ → List TheSlice
slice_between text ts first at =
    if nat_lt first at then record { before = take (start_at ts first) text; text = text_between text ts first (at - 1); tokens = slice_range ts first at } ∷ [] else []

-- what stands between semicolons from `first` on, where the tokens from `at` on are these
abbrev pub slices_from : List ℕ → List Lexeme → ℕ → ℕ → List Lexeme → List TheSlice
slices_from text ts first at [] = slice_between text ts first at
slices_from text ts first at (t ∷ rest) =
    if is_semicolon t.kind then slice_between text ts first at ++ slices_from text ts (suc at) (suc at) rest
    else slices_from text ts first (suc at) rest

-- one for each slice
abbrev pub ArePieces : Bool → List TheSlice → List StatementPiece → Type 0
ArePieces is_written [] [] = Unit {0}
ArePieces is_written (s ∷ ss) (p ∷ ps) = IsPiece is_written s p × ArePieces is_written ss ps
ArePieces is_written ss ps = ⊥

-- those of these slices were put behind others
abbrev pub PutsPieces : Bool → List TheSlice → List StatementPiece → List StatementPiece → Type 0
PutsPieces is_written ss old new = (ps : List StatementPiece) × ArePieces is_written ss ps × (new ≡ old ++ ps)

-- a text without statements is one that is empty
abbrev pub ArePiecesOrEmpty : Bool → List TheSlice → List StatementPiece → Type 0
ArePiecesOrEmpty is_written [] ps = ps ≡ piece.Empty ∷ []
ArePiecesOrEmpty is_written ss ps = ArePieces is_written ss ps

abbrev pub ArePiecesBy : Bool → List ℕ → Result (List Lexeme) SqlState → List StatementPiece → Type 0
ArePiecesBy is_written text (Ok ts) ps = ArePiecesOrEmpty is_written (slices_from text ts 0 0 ts) ps
ArePiecesBy is_written text (Err state) ps = ps ≡ faulty text ∷ []

-- these are the statements of a text, which is as its client wrote it or not
pub record ArePiecesOf (is_written : Bool) (text : List ℕ) (pieces : List StatementPiece) : Type 0 where
  pub tokens : Result (List Lexeme) SqlState
  pub lexes : Lexes text tokens
  pub pieces_are : ArePiecesBy is_written text tokens pieces
