-- Tokens of a text stand in it, one behind the other, and so do some of them.
use Rattle.std.proofs.Common.{◌≡◌, ◌∙◌, ℕ, zero, suc, ◌≤◌, List, [], ◌∷◌, length, take, drop, refl, ap, sym, subst, arith, Bool, true, false, Option, Some, None, IsUtf8}
use Rattle.std.specs.Prelude.{All, AllPairs, if◌then◌else◌, slice_index_or}
use Rattle.std.specs.Str.{IsCharBoundary}
use Rattle.std.proofs.lemmas.List.Elements.{All-head, All-tail}
use Rattle.std.proofs.lemmas.List.{take-map, drop-map}
use Rattle.std.proofs.lemmas.Str.{IsCharBoundary-start}
use Rattle.sql_lexer.specs.declared.token.Token.{Token}
use Rattle.sql_lexer.specs.Lexeme.{ArePlaced, IsPlaced, Lexeme, Precedes, end_of, lexeme, lexemes}
use Rattle.select_labels.specs.Labels.{TheLabel, label_tokens, labels_in}
use Rattle.select_labels.specs.Lists.{behind_list, is_select, items_of, length_from, list_of}
use Rattle.select_labels.specs.Marks.{marked}
use Rattle.select_labels.specs.Standing.{StandIn}
use Rattle.select_labels.specs.declared.unlabelled.Unlabelled.{Unlabelled}
use Rattle.select_labels.specs.Unlabelled.{labels_of, made_by, without_labels}
use Rattle.select_labels.proofs.Finding.{Marks, text_marks}

stands : (z : List ℕ) (at : ℕ) (ts : List Lexeme) → IsCharBoundary z at → All (IsPlaced z) ts → AllPairs Precedes ts → All (λ t. at ≤ t.start) ts → StandIn z at ts
stands z at [] b each order front = b
stands z at (t ∷ ts) b each order front =
    let here : IsPlaced z t = All-head (IsPlaced z) t ts each in (
      b,
      All-head (λ t. at ≤ t.start) t ts front,
      here,
      stands z (end_of t) ts here.ends (All-tail (IsPlaced z) t ts each)
          (λ i j d lt below. order (suc i) (suc j) d (omega (arith, lt)) (omega (arith, below)))
          (λ i d below. order zero (suc i) d (omega arith) (omega (arith, below))),
    )

-- without the first
without_first : (z : List ℕ) (at : ℕ) (t : Lexeme) (ts : List Lexeme) → StandIn z at (t ∷ ts) → StandIn z at ts
without_first z at t [] s = s.0
without_first z at t (u ∷ us) s = (s.0, omega (arith, s.1, s.3.1), s.3.2, s.3.3)

boundary : (z : List ℕ) (at : ℕ) (ts : List Lexeme) → StandIn z at ts → IsCharBoundary z at
boundary z at [] s = s
boundary z at (t ∷ ts) s = s.0

some_stand : (z : List ℕ) (at : ℕ) (ms : List Bool) (ts : List Lexeme) → StandIn z at ts → StandIn z at (marked ms ts)
some_stand z at [] ts s = boundary z at ts s
some_stand z at (m ∷ ms) [] s = s
some_stand z at (true ∷ ms) (t ∷ ts) s = (s.0, s.1, s.2, some_stand z (end_of t) ms ts s.3)
some_stand z at (false ∷ ms) (t ∷ ts) s = some_stand z at ms ts (without_first z at t ts s)

-- those of labels
pub labels_stand : (z : List ℕ) (t : Lexeme) (ts : List Lexeme) (ls : List (Option TheLabel)) → IsUtf8 z → ArePlaced z (t ∷ ts) → labels_of ts ≡ Some ls → StandIn z 0 (label_tokens ls)
labels_stand z t ts ls u p h =
    let m = text_marks t ts ls h in
    subst (StandIn z 0) m.left (some_stand z 0 m.marks (t ∷ ts) (stands z 0 (t ∷ ts) (IsCharBoundary-start z u) p.each p.in_order (λ i d lt. omega arith)))

-- ---- what the program cuts into a list and what stands behind it

-- the labels of the list are those of the tokens behind SELECT
labels_so : (rest list : List Token) (n : ℕ) (ls : List (Option TheLabel)) (o : Option (List (Option TheLabel))) → n ≡ length_from 0 (lexemes rest) → list ≡ take n rest
    → o ≡ labels_in (items_of (lexemes list)) → o ≡ Some ls → labels_of (lexemes rest) ≡ Some ls
labels_so rest list n ls o n_is list_is found some =
    let cut : lexemes list ≡ take n (lexemes rest) = ap lexemes list_is ∙ sym (take-map lexeme n rest) in
    let same : lexemes list ≡ list_of (lexemes rest) = cut ∙ ap (λ (m : ℕ). take m (lexemes rest)) n_is in
    sym (sym some ∙ found ∙ ap (λ (us : List Lexeme). labels_in (items_of us)) same)

pub stand_so : (text : List ℕ) (tokens rest list : List Token) (n : ℕ) (ls : List (Option TheLabel)) (o : Option (List (Option TheLabel))) → IsUtf8 text → ArePlaced text (lexemes tokens) → 1 ≤ length tokens
    → rest ≡ drop 1 tokens → n ≡ length_from 0 (lexemes rest) → list ≡ take n rest → o ≡ labels_in (items_of (lexemes list)) → o ≡ Some ls → StandIn text 0 (label_tokens ls)
stand_so text [] rest list n ls o u p some is n_is list_is found labels = absurd (omega (arith, some))
stand_so text (t ∷ ts) rest list n ls o u p some is n_is list_is found labels =
    let e : rest ≡ ts = is in
    labels_stand text (lexeme t) (lexemes ts) ls u p (sym (ap (λ (us : List Token). labels_of (lexemes us)) e) ∙ labels_so rest list n ls o n_is list_is found labels)

chosen : (b : Bool) (x y z : Option Unlabelled) → b ≡ true → x ≡ z → z ≡ (if b then x else y)
chosen true x y z h e = sym e
chosen false x y z h e = absurd (cc)

pub made_so : (text : List ℕ) (tokens rest list behind : List Token) (d : Token) (n : ℕ) (b : Bool) (ls : List (Option TheLabel)) (o : Option (List (Option TheLabel))) → 1 ≤ length tokens → rest ≡ drop 1 tokens
    → b ≡ is_select (slice_index_or tokens 0 d).kind → b ≡ true → n ≡ length_from 0 (lexemes rest) → list ≡ take n rest → behind ≡ drop n rest → o ≡ labels_in (items_of (lexemes list)) → o ≡ Some ls
    → made_by text (lexemes behind) (Some ls) ≡ without_labels text (lexemes tokens)
made_so text [] rest list behind d n b ls o some is test on n_is list_is behind_is found labels = absurd (omega (arith, some))
made_so text (t ∷ ts) rest list behind d n b ls o some is test on n_is list_is behind_is found labels =
    let e : rest ≡ ts = is in
    let yes : is_select (lexeme t).kind ≡ true = sym test ∙ on in
    let has : labels_of (lexemes ts) ≡ Some ls = sym (ap (λ (us : List Token). labels_of (lexemes us)) e) ∙ labels_so rest list n ls o n_is list_is found labels in
    let cut : lexemes behind ≡ behind_list (lexemes ts) =
    ap lexemes behind_is ∙ sym (drop-map lexeme n rest) ∙ ap (λ (m : ℕ). drop m (lexemes rest)) n_is ∙ ap (λ (us : List Token). behind_list (lexemes us)) e in
    chosen (is_select (lexeme t).kind) (made_by text (behind_list (lexemes ts)) (labels_of (lexemes ts))) None (made_by text (lexemes behind) (Some ls)) yes
    (ap (made_by text (behind_list (lexemes ts))) has ∙ ap (λ (us : List Lexeme). made_by text us (Some ls)) (sym cut))
