-- A text without AS has no labels.
use Rattle.std.proofs.Common.{◌≡◌, ℕ, zero, suc, List, [], ◌∷◌, ◌++◌, take, drop, refl, sym, ap, subst, ◌∙◌, Bool, true, false, Option, Some, None}
use Rattle.std.specs.Prelude.{◌==◌, ◌&&◌, ◌||◌, not, is_some, if◌then◌else◌}
use Rattle.std.specs.List.{list_any}
use Rattle.sql_lexer.specs.Lexeme.{Lexeme}
use Rattle.sql_lexer.specs.Parentheses.{open_after}
use Rattle.select_labels.specs.Labels.{TheLabel, is_as, label_behind, label_from, label_in, labels_in, with_label}
use Rattle.select_labels.specs.Lists.{behind_list, is_select, items_from, items_of, length_from, list_of, parts_items}
use Rattle.select_labels.specs.Sorting.{sorts_by_label}
use Rattle.select_labels.specs.Unlabelled.{blanked, label_names, labels_of, may_have_labels, made_by, without_labels}
use Rattle.select_labels.specs.declared.unlabelled.Unlabelled.{Unlabelled}
use Rattle.select_labels.specs.Labels.{label_tokens}

abbrev has_as : List Lexeme → Bool
has_as ts = list_any (λ u. is_as u.kind) ts

neither : (x y : Bool) → (x || y) ≡ false → (x ≡ false) × (y ≡ false)
neither true y h = absurd (cc)
neither false y h = (refl, h)

both_false : (x y : Bool) → x ≡ false → y ≡ false → (x || y) ≡ false
both_false true y e f = absurd (cc)
both_false false y e f = f

has_as_push : (ts : List Lexeme) (t : Lexeme) → has_as ts ≡ false → is_as t.kind ≡ false → has_as (ts ++ t ∷ []) ≡ false
has_as_push [] t h e = both_false (is_as t.kind) false e refl
has_as_push (u ∷ us) t h e = let k = neither (is_as u.kind) (has_as us) h in both_false (is_as u.kind) (has_as (us ++ t ∷ [])) k.0 (has_as_push us t k.1 e)

has_as_take : (n : ℕ) (ts : List Lexeme) → has_as ts ≡ false → has_as (take n ts) ≡ false
has_as_take zero ts h = refl
has_as_take (suc n) [] h = refl
has_as_take (suc n) (t ∷ ts) h = let k = neither (is_as t.kind) (has_as ts) h in both_false (is_as t.kind) (has_as (take n ts)) k.0 (has_as_take n ts k.1)

no_label : (n : ℕ) (before ts : List Lexeme) → has_as ts ≡ false → label_from n before ts ≡ Some None
no_label n before [] h = refl
no_label n before (t ∷ ts) h =
    let k = neither (is_as t.kind) (has_as ts) h in
    let first : is_as t.kind ≡ false = k.0 in
    rw first (no_label (open_after n t.kind) (before ++ t ∷ []) ts k.1)

-- no item has a label
abbrev NoneHas : Option (List (Option TheLabel)) → Type 0
NoneHas None = Unit {0}
NoneHas (Some ls) = list_any is_some ls ≡ false

with_none : (o : Option (Option TheLabel)) (r : Option (List (Option TheLabel))) → o ≡ Some None → NoneHas r → NoneHas (with_label o r)
with_none o r e h = subst (λ (o : Option (Option TheLabel)). NoneHas (with_label o r)) (sym e) (of r h)
  where
    of : (r : Option (List (Option TheLabel))) → NoneHas r → NoneHas (with_label (Some None) r)
    of None h = tt
    of (Some ls) h = h

none_has : (n : ℕ) (item ts : List Lexeme) → has_as item ≡ false → has_as ts ≡ false → NoneHas (labels_in (items_from n item ts))
none_has n item [] h k = with_none (label_in item) (Some []) (no_label 0 [] item h) refl
none_has n item (t ∷ ts) h k =
    of (parts_items n t.kind) (none_has 0 [] ts refl (neither (is_as t.kind) (has_as ts) k).1)
    (none_has (open_after n t.kind) (item ++ t ∷ []) ts (has_as_push item t h (neither (is_as t.kind) (has_as ts) k).0) (neither (is_as t.kind) (has_as ts) k).1)
  where
    of : (b : Bool) → NoneHas (labels_in (items_from 0 [] ts)) → NoneHas (labels_in (items_from (open_after n t.kind) (item ++ t ∷ []) ts))
        → NoneHas (labels_in (if b then item ∷ items_from 0 [] ts else items_from (open_after n t.kind) (item ++ t ∷ []) ts))
    of true others later = with_none (label_in item) (labels_in (items_from 0 [] ts)) (no_label 0 [] item h) others
    of false others later = later

abbrev made : List ℕ → List (Option TheLabel) → Unlabelled
made text ls = record { text = blanked text 0 (label_tokens ls); labels = label_names ls }

stays_by : (text : List ℕ) (behind : List Lexeme) (o : Option (List (Option TheLabel))) → NoneHas o → made_by text behind o ≡ None
stays_by text behind None h = refl
stays_by text behind (Some ls) h = of (list_any is_some ls) h
  where
    of : (b : Bool) → b ≡ false → (if b && not (sorts_by_label ls behind) then Some (made text ls) else None) ≡ None
    of true e = absurd (cc)
    of false e = refl

stays_if : (text : List ℕ) (ts : List Lexeme) (b : Bool) → (b && has_as ts) ≡ false → (if b then made_by text (behind_list ts) (labels_of ts) else None) ≡ None
stays_if text ts true h = stays_by text (behind_list ts) (labels_of ts) (none_has 0 [] (list_of ts) refl (has_as_take (length_from 0 ts) ts h))
stays_if text ts false h = refl

pub plain : (text : List ℕ) (ts : List Lexeme) → may_have_labels ts ≡ false → without_labels text ts ≡ None
plain text [] h = refl
plain text (t ∷ ts) h = stays_if text ts (is_select t.kind) h
