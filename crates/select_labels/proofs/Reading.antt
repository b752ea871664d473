-- One token more of a list, of an item and of its tokens.
use Rattle.std.proofs.Common.{◌≡◌, ◌∙◌, ◌≤◌, ◌<◌, ◌+◌, ◌++◌, ◌∷◌, [], ℕ, zero, suc, List, Bool, true, false, length, take, drop, refl, sym, ap, subst, arith, append_assoc, append-nil, Option, Some, None}
use Rattle.std.specs.Prelude.{◌==◌, ◌&&◌, if◌then◌else◌, slice_index_or}
use Rattle.std.specs.Option.{option_map}
use Rattle.std.proofs.lemmas.List.{drop-drop, take-map}
use Rattle.sql_lexer.specs.declared.token.Token.{Token}
use Rattle.sql_lexer.specs.declared.token.TokenKind.{TokenKind}
use Rattle.sql_lexer.specs.declared.token.TokenKind.TheVariants as kind
use Rattle.sql_lexer.specs.declared.token.Punctuation.{Punctuation}
use Rattle.sql_lexer.specs.declared.token.Punctuation.TheVariants as punctuation
use Rattle.sql_lexer.specs.Lexeme.{Lexeme, lexeme, lexemes}
use Rattle.sql_lexer.specs.Parentheses.{open_after}
use Rattle.select_labels.specs.Labels.{TheLabel, is_as, label_behind, label_from, label_in, labels_in, with_label}
use Rattle.select_labels.specs.Lists.{items_from, parts_items}
use Rattle.select_labels.specs.Putting.{PutsLabel, labels_behind}
use Rattle.select_labels.specs.declared.label.ItemLabel.{ItemLabel}
use Rattle.select_labels.specs.Views.{viewed_label}

take_next : (xs : List Lexeme) (n : ℕ) (t : Lexeme) (us : List Lexeme) → drop n xs ≡ t ∷ us → take (n + 1) xs ≡ take n xs ++ t ∷ []
take_next [] zero t us h = absurd (cc)
take_next (x ∷ xs) zero t us h = let e : x ≡ t = cc in ap (λ (y : Lexeme). y ∷ []) e
take_next [] (suc n) t us h = absurd (cc)
take_next (x ∷ xs) (suc n) t us h = let e : suc n + 1 ≡ suc (n + 1) = omega arith in rw e (ap (λ (l : List Lexeme). x ∷ l) (take_next xs n t us h))

drop_next : (xs : List Lexeme) (n : ℕ) (t : Lexeme) (us : List Lexeme) → drop n xs ≡ t ∷ us → drop (n + 1) xs ≡ us
drop_next xs n t us h = sym (drop-drop 1 n xs) ∙ ap (drop 1) h

-- what is left of an item, one token on
pub behind_more : (item : List Lexeme) (z after : List Token) (n : ℕ) → 1 ≤ length z → after ≡ drop 1 z → lexemes z ≡ drop n item → lexemes after ≡ drop (n + 1) item
behind_more item [] after n some is behind = absurd (omega (arith, some))
behind_more item (t ∷ ts) after n some is behind = let e : after ≡ ts = is in rw e (sym (drop_next item n (lexeme t) (lexemes ts) (sym behind)))

-- ---- how many parentheses are open, and how much is left

open_most : (n : ℕ) (k : TokenKind) → open_after n k ≤ n + 1
open_most n (kind.Reserved w) = omega arith
open_most n (kind.Unreserved w) = omega arith
open_most n kind.Word = omega arith
open_most n kind.QuotedIdentifier = omega arith
open_most n kind.Text = omega arith
open_most n (kind.Number v) = omega arith
open_most n (kind.Punctuation punctuation.Open) = omega arith
open_most n (kind.Punctuation punctuation.Close) = omega arith
open_most n (kind.Punctuation punctuation.Comma) = omega arith
open_most n (kind.Punctuation punctuation.Semicolon) = omega arith
open_most n (kind.Punctuation punctuation.Dot) = omega arith
open_most n (kind.Punctuation punctuation.Star) = omega arith
open_most n (kind.Punctuation punctuation.Plus) = omega arith
open_most n (kind.Punctuation punctuation.Minus) = omega arith
open_most n (kind.Punctuation punctuation.Slash) = omega arith
open_most n (kind.Punctuation punctuation.Percent) = omega arith
open_most n (kind.Punctuation punctuation.Equal) = omega arith
open_most n (kind.Punctuation punctuation.NotEqual) = omega arith
open_most n (kind.Punctuation punctuation.Less) = omega arith
open_most n (kind.Punctuation punctuation.LessOrEqual) = omega arith
open_most n (kind.Punctuation punctuation.Greater) = omega arith
open_most n (kind.Punctuation punctuation.GreaterOrEqual) = omega arith

pub deeper_most : (n depth deeper : ℕ) (k : TokenKind) → deeper ≡ open_after depth k → depth ≤ n → deeper ≤ n + 1
deeper_most n depth deeper k is most = omega (arith, is, most, open_most depth k)

pub place_more : (n m : ℕ) (z after : List Token) → 1 ≤ length z → after ≡ drop 1 z → n + length z ≡ m → n + 1 + length after ≡ m
place_more n m [] after some is place = absurd (omega (arith, some))
place_more n m (t ∷ ts) after some is place = let e : after ≡ ts = is in omega (arith, place, ap length e)

pub fewer : (m : ℕ) (z after : List Token) → 1 ≤ length z → after ≡ drop 1 z → length z ≤ m → length after ≤ m
fewer m [] after some is within = absurd (omega (arith, some))
fewer m (t ∷ ts) after some is within = let e : after ≡ ts = is in omega (arith, within, ap length e)

-- ---- the first AS of an item

pub label_more : (w : Option (Option TheLabel)) (item : List Lexeme) (z after : List Token) (d : Token) (n depth deeper : ℕ) (b : Bool) → 1 ≤ length z → after ≡ drop 1 z → lexemes z ≡ drop n item
    → w ≡ label_from depth (take n item) (lexemes z) → b ≡ is_as (slice_index_or z 0 d).kind → b ≡ false → deeper ≡ open_after depth (slice_index_or z 0 d).kind
    → w ≡ label_from deeper (take (n + 1) item) (lexemes after)
label_more w item [] after d n depth deeper b some is behind whole test off deeper_is = absurd (omega (arith, some))
label_more w item (t ∷ ts) after d n depth deeper b some is behind whole test off deeper_is =
    let e : after ≡ ts = is in
    let no : is_as (lexeme t).kind ≡ false = sym test ∙ off in
    let next : label_from depth (take n item) (lexeme t ∷ lexemes ts) ≡ label_from (open_after depth (lexeme t).kind) (take n item ++ lexeme t ∷ []) (lexemes ts) = rw no refl in
    rw (e, deeper_is, take_next item n (lexeme t) (lexemes ts) (sym behind)) (whole ∙ next)

label_here : (w : Option (Option TheLabel)) (item : List Lexeme) (z after : List Token) (d : Token) (n depth : ℕ) (b : Bool) → 1 ≤ length z → after ≡ drop 1 z
    → w ≡ label_from depth (take n item) (lexemes z) → b ≡ is_as (slice_index_or z 0 d).kind → b ≡ true
    → w ≡ label_behind depth (take n item) (lexeme (slice_index_or z 0 d)) (lexemes after)
label_here w item [] after d n depth b some is whole test on = absurd (omega (arith, some))
label_here w item (t ∷ ts) after d n depth b some is whole test on =
    let e : after ≡ ts = is in
    let yes : is_as (lexeme t).kind ≡ true = sym test ∙ on in
    let here : label_from depth (take n item) (lexeme t ∷ lexemes ts) ≡ label_behind depth (take n item) (lexeme t) (lexemes ts) = rw yes refl in
    rw e (whole ∙ here)

-- the tokens before a place
before_place : (item part : List Token) (n : ℕ) → part ≡ take n item → lexemes part ≡ take n (lexemes item)
before_place item part n e = ap lexemes e ∙ sym (take-map lexeme n item)

-- by the AS that was met
pub labelled_here : (item part z after : List Token) (d : Token) (n depth : ℕ) (b : Bool) (r : Option (Option ItemLabel)) → 1 ≤ length z → after ≡ drop 1 z → part ≡ take n item
    → label_in (lexemes item) ≡ label_from depth (take n (lexemes item)) (lexemes z) → b ≡ is_as (slice_index_or z 0 d).kind → b ≡ true
    → option_map (option_map viewed_label) r ≡ label_behind depth (lexemes part) (lexeme (slice_index_or z 0 d)) (lexemes after) → option_map (option_map viewed_label) r ≡ label_in (lexemes item)
labelled_here item part z after d n depth b r some is part_is whole test on found =
    found ∙ ap (λ (us : List Lexeme). label_behind depth us (lexeme (slice_index_or z 0 d)) (lexemes after)) (before_place item part n part_is)
    ∙ sym (label_here (label_in (lexemes item)) (lexemes item) z after d n depth b some is whole test on)

-- ---- items

abbrev Found : Type 0
Found = Option (List (Option TheLabel))

comma_here : (w : Found) (ls : List (Option TheLabel)) (item : List Lexeme) (z after : List Token) (d : Token) (depth : ℕ) (b : Bool) → 1 ≤ length z → after ≡ drop 1 z
    → w ≡ labels_behind ls (labels_in (items_from depth item (lexemes z))) → b ≡ parts_items depth (slice_index_or z 0 d).kind → b ≡ true
    → w ≡ labels_behind ls (with_label (label_in item) (labels_in (items_from 0 [] (lexemes after))))
comma_here w ls item [] after d depth b some is whole test on = absurd (omega (arith, some))
comma_here w ls item (t ∷ ts) after d depth b some is whole test on =
    let e : after ≡ ts = is in
    let yes : parts_items depth (lexeme t).kind ≡ true = sym test ∙ on in
    let here : items_from depth item (lexeme t ∷ lexemes ts) ≡ item ∷ items_from 0 [] (lexemes ts) = rw yes refl in
    rw e (whole ∙ ap (λ (us : List (List Lexeme)). labels_behind ls (labels_in us)) here)

pub item_more : (w : Found) (ls : List (Option TheLabel)) (item : List Lexeme) (z after : List Token) (d : Token) (n depth deeper : ℕ) (b : Bool) → 1 ≤ length z → after ≡ drop 1 z → lexemes z ≡ drop n item
    → w ≡ labels_behind ls (labels_in (items_from depth (take n item) (lexemes z))) → b ≡ parts_items depth (slice_index_or z 0 d).kind → b ≡ false → deeper ≡ open_after depth (slice_index_or z 0 d).kind
    → w ≡ labels_behind ls (labels_in (items_from deeper (take (n + 1) item) (lexemes after)))
item_more w ls item [] after d n depth deeper b some is behind whole test off deeper_is = absurd (omega (arith, some))
item_more w ls item (t ∷ ts) after d n depth deeper b some is behind whole test off deeper_is =
    let e : after ≡ ts = is in
    let no : parts_items depth (lexeme t).kind ≡ false = sym test ∙ off in
    let next : items_from depth (take n item) (lexeme t ∷ lexemes ts) ≡ items_from (open_after depth (lexeme t).kind) (take n item ++ lexeme t ∷ []) (lexemes ts) = rw no refl in
    rw (e, deeper_is, take_next item n (lexeme t) (lexemes ts) (sym behind)) (whole ∙ ap (λ (us : List (List Lexeme)). labels_behind ls (labels_in us)) next)

one_behind : (ls : List (Option TheLabel)) (l : Option TheLabel) (r : Found) → labels_behind ls (with_label (Some l) r) ≡ labels_behind (ls ++ l ∷ []) r
one_behind ls l None = refl
one_behind ls l (Some ms) = ap Some (sym (append_assoc ls (l ∷ []) ms))

-- the label of an item was put behind others
is_put : (put : Bool) (w : Found) (ls new : List (Option TheLabel)) (found : Option (Option TheLabel)) (r : Found) → w ≡ labels_behind ls (with_label found r) → PutsLabel put found ls new → put ≡ true → w ≡ labels_behind new r
is_put true w ls new found r whole p e =
    whole ∙ ap (λ (o : Option (Option TheLabel)). labels_behind ls (with_label o r)) p.1 ∙ one_behind ls p.0 r ∙ ap (λ (ms : List (Option TheLabel)). labels_behind ms r) (sym p.2)
is_put false w ls new found r whole p e = absurd (cc)

-- or it is misplaced
is_misplaced : (put : Bool) (w : Found) (ls new : List (Option TheLabel)) (found : Option (Option TheLabel)) (r : Found) → w ≡ labels_behind ls (with_label found r) → PutsLabel put found ls new → put ≡ false → w ≡ None
is_misplaced true w ls new found r whole p e = absurd (cc)
is_misplaced false w ls new found r whole p e = whole ∙ ap (λ (o : Option (Option TheLabel)). labels_behind ls (with_label o r)) p

part_found : (w : Found) (ls : List (Option TheLabel)) (item part z after : List Token) (d : Token) (n depth : ℕ) (b : Bool) → 1 ≤ length z → after ≡ drop 1 z → part ≡ take n item
    → w ≡ labels_behind ls (labels_in (items_from depth (take n (lexemes item)) (lexemes z))) → b ≡ parts_items depth (slice_index_or z 0 d).kind → b ≡ true
    → w ≡ labels_behind ls (with_label (label_in (lexemes part)) (labels_in (items_from 0 [] (lexemes after))))
part_found w ls item part z after d n depth b some is part_is whole test on =
    comma_here w ls (take n (lexemes item)) z after d depth b some is whole test on
    ∙ ap (λ (us : List Lexeme). labels_behind ls (with_label (label_in us) (labels_in (items_from 0 [] (lexemes after))))) (sym (before_place item part n part_is))

pub comma_put : (w : Found) (ls new : List (Option TheLabel)) (item part z after : List Token) (d : Token) (n depth : ℕ) (b put : Bool) → 1 ≤ length z → after ≡ drop 1 z → part ≡ take n item
    → w ≡ labels_behind ls (labels_in (items_from depth (take n (lexemes item)) (lexemes z))) → b ≡ parts_items depth (slice_index_or z 0 d).kind → b ≡ true
    → PutsLabel put (label_in (lexemes part)) ls new → put ≡ true → w ≡ labels_behind new (labels_in (items_from 0 [] (lexemes after)))
comma_put w ls new item part z after d n depth b put some is part_is whole test on p e =
    is_put put w ls new (label_in (lexemes part)) (labels_in (items_from 0 [] (lexemes after))) (part_found w ls item part z after d n depth b some is part_is whole test on) p e

pub comma_misplaced : (w : Found) (ls new : List (Option TheLabel)) (item part z after : List Token) (d : Token) (n depth : ℕ) (b put : Bool) → 1 ≤ length z → after ≡ drop 1 z → part ≡ take n item
    → w ≡ labels_behind ls (labels_in (items_from depth (take n (lexemes item)) (lexemes z))) → b ≡ parts_items depth (slice_index_or z 0 d).kind → b ≡ true
    → PutsLabel put (label_in (lexemes part)) ls new → put ≡ false → None ≡ w
comma_misplaced w ls new item part z after d n depth b put some is part_is whole test on p e =
    sym (is_misplaced put w ls new (label_in (lexemes part)) (labels_in (items_from 0 [] (lexemes after))) (part_found w ls item part z after d n depth b some is part_is whole test on) p e)
