-- Statements of slices, one behind the other.
use Rattle.std.proofs.Common.{◌≡◌, ◌∙◌, ◌<◌, ◌≤◌, ◌+◌, ◌-◌, ℕ, zero, suc, Bool, true, false, List, [], ◌∷◌, ◌++◌, length, take, drop, add-one, refl, sym, ap, subst, arith}
use Rattle.std.specs.Prelude.{All, slice_range, slice_index_or}
use Rattle.std.specs.Str.{IsCharBoundary}
use Rattle.std.proofs.lemmas.Bool.{lt-ltb, le-ltb}
use Rattle.std.proofs.lemmas.List.{append-nil, append_assoc, length-map, take-map, drop-map}
use Rattle.sql_lexer.specs.declared.token.Token.{Token}
use Rattle.sql_lexer.specs.Lexeme.{IsPlaced, Lexeme, lexeme, lexemes}
use Rattle.sql_lexer.specs.Slices.{start_at, text_between}
use Rattle.postgres_talks.specs.declared.piece.StatementPiece.{StatementPiece}
use Rattle.postgres_talks.specs.declared.piece.StatementPiece.TheVariants as piece
use Rattle.postgres_talks.specs.Pieces.{ArePieces, ArePiecesOrEmpty, IsPiece, PutsPieces, TheSlice, is_semicolon, slice_between, slices_from}

each_on : (w : Bool) (ss us : List TheSlice) (ps qs : List StatementPiece) → ArePieces w ss ps → ArePieces w us qs → ArePieces w (ss ++ us) (ps ++ qs)
each_on w [] us [] qs first last = last
each_on w [] us (p ∷ ps) qs first last = absurd first
each_on w (s ∷ ss) us [] qs first last = absurd first
each_on w (s ∷ ss) us (p ∷ ps) qs first last = (first.0, each_on w ss us ps qs first.1 last)

-- ---- what stands between two tokens

pub part_of : (ts : List Token) (a b : ℕ) → lexemes (slice_range ts a b) ≡ slice_range (lexemes ts) a b
part_of ts a b = sym (ap (take (b - a)) (drop-map lexeme a ts) ∙ take-map lexeme (b - a) (drop a ts))

pub start_there : (ts : List Token) (i : ℕ) (d : Token) → i < length ts → (slice_index_or ts i d).start ≡ start_at (lexemes ts) i
start_there [] i d lt = absurd (omega (arith, lt))
start_there (t ∷ ts) zero d lt = refl
start_there (t ∷ ts) (suc i) d lt = start_there ts i d (omega (arith, lt))

boundary_there : (text : List ℕ) (ts : List Lexeme) (i : ℕ) → i < length ts → All (IsPlaced text) ts → IsCharBoundary text (start_at ts i)
boundary_there text [] i lt each = absurd (omega (arith, lt))
boundary_there text (t ∷ ts) zero lt each = (each 0 t (omega arith)).begins
boundary_there text (t ∷ ts) (suc i) lt each = boundary_there text ts i (omega (arith, lt)) (λ k d before. each (suc k) d (omega (arith, before)))

pub token_boundary : (text : List ℕ) (ts : List Token) (i : ℕ) (d : Token) → i < length ts → All (IsPlaced text) (lexemes ts) → IsCharBoundary text (slice_index_or ts i d).start
token_boundary text ts i d lt each =
    let there : i < length (lexemes ts) = omega (arith, length-map ts lexeme, lt) in
    subst (IsCharBoundary text) (sym (start_there ts i d lt)) (boundary_there text (lexemes ts) i there each)

pub put_one : (w : Bool) (text before slice : List ℕ) (ts part : List Lexeme) (first at : ℕ) (p : StatementPiece) (old new : List StatementPiece) → first < at
    → before ≡ take (start_at ts first) text → slice ≡ text_between text ts first (at - 1) → part ≡ slice_range ts first at → IsPiece w (record { before = before; text = slice; tokens = part }) p → new ≡ old ++ p ∷ []
    → PutsPieces w (slice_between text ts first at) old new
put_one w text before slice ts part first at p old new some is_before is_slice is_part is put =
    let whole : IsPiece w (record { before = take (start_at ts first) text; text = text_between text ts first (at - 1); tokens = slice_range ts first at }) p
    = subst (λ (b : List ℕ). IsPiece w (record { before = b; text = text_between text ts first (at - 1); tokens = slice_range ts first at }) p) is_before
    (subst (λ (l : List ℕ). IsPiece w (record { before = before; text = l; tokens = slice_range ts first at }) p) is_slice
    (subst (λ (us : List Lexeme). IsPiece w (record { before = before; text = slice; tokens = us }) p) is_part is)) in
    rw (lt-ltb first at some) (p ∷ [], (whole, tt), put)

pub put_none : (w : Bool) (text : List ℕ) (ts : List Lexeme) (first at : ℕ) (old : List StatementPiece) → at ≤ first → PutsPieces w (slice_between text ts first at) old old
put_none w text ts first at old none = rw (le-ltb first at none) ([], tt, sym (append-nil old))

-- ---- pieces of the slices that are left, behind those that were put, are pieces of all

pub place_more : (at : ℕ) (z after : List Token) (n : ℕ) → 1 ≤ length z → after ≡ drop 1 z → at + length z ≡ n → at + 1 + length after ≡ n
place_more at [] after n some is place = absurd (omega (arith, some))
place_more at (t ∷ ts) after n some is place = let e : after ≡ ts = is in omega (arith, place, ap length e)

pub slice_put : (w : Bool) (all : List TheSlice) (text : List ℕ) (ts : List Lexeme) (z after : List Token) (d : Token) (first at : ℕ) (b : Bool) (old new : List StatementPiece) → 1 ≤ length z → after ≡ drop 1 z
    → ((qs : List StatementPiece) → ArePieces w (slices_from text ts first at (lexemes z)) qs → ArePieces w all (old ++ qs))
    → b ≡ is_semicolon (slice_index_or z 0 d).kind → b ≡ true → PutsPieces w (slice_between text ts first at) old new
    → (qs : List StatementPiece) → ArePieces w (slices_from text ts (at + 1) (at + 1) (lexemes after)) qs → ArePieces w all (new ++ qs)
slice_put w all text ts [] after d first at b old new some is left test on put qs are = absurd (omega (arith, some))
slice_put w all text ts (t ∷ rest) after d first at b old new some is left test on put qs are =
    let e : after ≡ rest = is in
    let yes : is_semicolon (lexeme t).kind ≡ true = sym test ∙ on in
    let next : slices_from text ts first at (lexeme t ∷ lexemes rest) ≡ slice_between text ts first at ++ slices_from text ts (suc at) (suc at) (lexemes rest) = rw yes refl in
    let here : ArePieces w (slices_from text ts (suc at) (suc at) (lexemes rest)) qs
    = subst (λ (l : List Token). ArePieces w (slices_from text ts (suc at) (suc at) (lexemes l)) qs) e (subst (λ (n : ℕ). ArePieces w (slices_from text ts n n (lexemes after)) qs) (add-one at) are) in
    subst (ArePieces w all) (sym (ap (λ (l : List StatementPiece). l ++ qs) put.2 ∙ append_assoc old put.0 qs))
    (left (put.0 ++ qs) (subst (λ (ss : List TheSlice). ArePieces w ss (put.0 ++ qs)) (sym next)
    (each_on w (slice_between text ts first at) (slices_from text ts (suc at) (suc at) (lexemes rest)) put.0 qs put.1 here)))

pub slice_more : (w : Bool) (all : List TheSlice) (text : List ℕ) (ts : List Lexeme) (z after : List Token) (d : Token) (first at : ℕ) (b : Bool) (old : List StatementPiece) → 1 ≤ length z → after ≡ drop 1 z
    → ((qs : List StatementPiece) → ArePieces w (slices_from text ts first at (lexemes z)) qs → ArePieces w all (old ++ qs))
    → b ≡ is_semicolon (slice_index_or z 0 d).kind → b ≡ false
    → (qs : List StatementPiece) → ArePieces w (slices_from text ts first (at + 1) (lexemes after)) qs → ArePieces w all (old ++ qs)
slice_more w all text ts [] after d first at b old some is left test off qs are = absurd (omega (arith, some))
slice_more w all text ts (t ∷ rest) after d first at b old some is left test off qs are =
    let e : after ≡ rest = is in
    let no : is_semicolon (lexeme t).kind ≡ false = sym test ∙ off in
    let next : slices_from text ts first at (lexeme t ∷ lexemes rest) ≡ slices_from text ts first (suc at) (lexemes rest) = rw no refl in
    let here : ArePieces w (slices_from text ts first (suc at) (lexemes rest)) qs
    = subst (λ (l : List Token). ArePieces w (slices_from text ts first (suc at) (lexemes l)) qs) e (subst (λ (n : ℕ). ArePieces w (slices_from text ts first n (lexemes after)) qs) (add-one at) are) in
    left qs (subst (λ (ss : List TheSlice). ArePieces w ss qs) (sym next) here)

pub all_put : (w : Bool) (all : List TheSlice) (text : List ℕ) (ts : List Lexeme) (z : List Token) (first at : ℕ) (old new : List StatementPiece) → length z < 1
    → ((qs : List StatementPiece) → ArePieces w (slices_from text ts first at (lexemes z)) qs → ArePieces w all (old ++ qs))
    → PutsPieces w (slice_between text ts first at) old new → ArePieces w all new
all_put w all text ts [] first at old new none left put = subst (ArePieces w all) (sym put.2) (left put.0 put.1)
all_put w all text ts (t ∷ rest) first at old new none left put = absurd (omega (arith, none))

-- ---- a text has statements, or is empty

pub or_empty : (w : Bool) (ss : List TheSlice) (ps qs : List StatementPiece) → ArePieces w ss ps → ps ≡ [] → qs ≡ ps ++ piece.Empty ∷ [] → ArePiecesOrEmpty w ss qs
or_empty w [] [] qs are none put = put
or_empty w (s ∷ ss) [] qs are none put = absurd are
or_empty w ss (p ∷ ps) qs are none put = absurd (cc)

pub some_pieces : (w : Bool) (ss : List TheSlice) (ps : List StatementPiece) → ArePieces w ss ps → (ps ≡ [] → ⊥) → ArePiecesOrEmpty w ss ps
some_pieces w [] [] are some = absurd (some refl)
some_pieces w [] (p ∷ ps) are some = absurd are
some_pieces w (s ∷ ss) ps are some = are
