-- The tokens of labels are some of those of their list.
use Rattle.std.proofs.Common.{◌≡◌, ℕ, zero, suc, List, [], ◌∷◌, ◌++◌, length, take, drop, Ok, refl, sym, ap, subst, ◌∙◌, arith, Bool, true, false, Option, Some, None, append-nil, append_assoc}
use Rattle.std.specs.Prelude.{◌==◌, ◌&&◌, not, is_some, if◌then◌else◌, replicate}
use Rattle.std.specs.List.{flat_map, list_any}
use Rattle.std.proofs.lemmas.List.{length-append, length-replicate, take-append-drop}
use Rattle.std.proofs.lemmas.Bool.{and_parts}
use Rattle.sql_lexer.specs.Lexeme.{Lexeme}
use Rattle.sql_lexer.specs.Lexing.{Lexes}
use Rattle.sql_lexer.specs.Parentheses.{open_after}
use Rattle.select_labels.specs.declared.unlabelled.Unlabelled.{Unlabelled}
use Rattle.select_labels.specs.Labels.{TheLabel, is_as, is_column, label_behind, label_by, label_from, label_in, label_name, label_of, label_tokens, labels_in, may_be_labelled, tokens_of, with_label}
use Rattle.select_labels.specs.Lists.{behind_list, is_select, items_from, items_of, length_from, list_of, parts_items}
use Rattle.select_labels.specs.Marks.{LeavesOutLabels, marked, unmarked}
use Rattle.select_labels.specs.Sorting.{sorts_by_label}
use Rattle.select_labels.specs.Unlabelled.{blanked, label_names, labels_of, without_labels, made_by}
use Rattle.select_labels.proofs.LeftOut.{marked_are_blank, marked_are_as_long}

-- marks for each of these tokens, of which those are that have one
pub record Marks (ts ls : List Lexeme) : Type 0 where
  pub marks : List Bool
  pub each : length marks ≡ length ts
  pub left : marked marks ts ≡ ls

-- marks of tokens, and of those behind them
marked_and : (ms ns : List Bool) (ts us : List Lexeme) → length ms ≡ length ts → marked (ms ++ ns) (ts ++ us) ≡ marked ms ts ++ marked ns us
marked_and [] ns [] us e = refl
marked_and [] ns (t ∷ ts) us e = absurd (omega (arith, e))
marked_and (m ∷ ms) ns [] us e = absurd (omega (arith, e))
marked_and (true ∷ ms) ns (t ∷ ts) us e = ap (λ (l : List Lexeme). t ∷ l) (marked_and ms ns ts us (omega (arith, e)))
marked_and (false ∷ ms) ns (t ∷ ts) us e = marked_and ms ns ts us (omega (arith, e))

pub both : (ts us ls ks : List Lexeme) → Marks ts ls → Marks us ks → Marks (ts ++ us) (ls ++ ks)
both ts us ls ks m n = record {
  marks = m.marks ++ n.marks;
  each = omega (arith, m.each, n.each, length-append m.marks n.marks, length-append ts us);
  left = marked_and m.marks n.marks ts us m.each ∙ ap (λ (l : List Lexeme). l ++ marked n.marks us) m.left ∙ ap (λ (l : List Lexeme). ls ++ l) n.left;
}

pub nothing : (ts : List Lexeme) → Marks ts []
nothing [] = record { marks = []; each = refl; left = refl }
nothing (t ∷ ts) = let m = nothing ts in record { marks = false ∷ m.marks; each = omega (arith, m.each); left = m.left }

pub each_one : (ts : List Lexeme) → Marks ts ts
each_one [] = record { marks = []; each = refl; left = refl }
each_one (t ∷ ts) = let m = each_one ts in record { marks = true ∷ m.marks; each = omega (arith, m.each); left = ap (λ (l : List Lexeme). t ∷ l) m.left }

-- ---- the label of an item

same_label : {l m : Option TheLabel} {o : Option (Option TheLabel)} → o ≡ Some l → o ≡ Some m → l ≡ m
same_label e f = cc

by_name : (before : List Lexeme) (sign word : Lexeme) (o : Option (List ℕ)) (l : Option TheLabel) → label_by before sign word o ≡ Some l → tokens_of l ≡ sign ∷ word ∷ []
by_name before sign word None l h = absurd (cc)
by_name before sign word (Some n) l h =
    let is : Some (record { sign = sign; word = word; name = n; column = is_column n before }) ≡ l = same_label refl h in sym (ap tokens_of is)

by_words : (before : List Lexeme) (sign : Lexeme) (words : List Lexeme) (l : Option TheLabel) → label_of before sign words ≡ Some l → tokens_of l ≡ sign ∷ words
by_words before sign [] l h = absurd (cc)
by_words before sign (word ∷ []) l h = by_name before sign word (label_name word.kind word.bytes) l h
by_words before sign (word ∷ u ∷ us) l h = absurd (cc)

by_test : (b : Bool) (before : List Lexeme) (sign : Lexeme) (words : List Lexeme) (l : Option TheLabel) → (if b then label_of before sign words else None) ≡ Some l → tokens_of l ≡ sign ∷ words
by_test true before sign words l h = by_words before sign words l h
by_test false before sign words l h = absurd (cc)

-- behind an expression that has no AS
found_from : (n : ℕ) (before ts : List Lexeme) (l : Option TheLabel) → label_from n before ts ≡ Some l → Marks (before ++ ts) (tokens_of l)
found_from n before [] l h =
    let is : None ≡ l = same_label refl h in
    subst (λ (l : Option TheLabel). Marks (before ++ []) (tokens_of l)) is (nothing (before ++ []))
found_from n before (t ∷ ts) l h = of (is_as t.kind) (λ k. found_from (open_after n t.kind) (before ++ t ∷ []) ts l k) h
  where
    of : (b : Bool) → (label_from (open_after n t.kind) (before ++ t ∷ []) ts ≡ Some l → Marks (before ++ t ∷ [] ++ ts) (tokens_of l))
        → (if b then label_behind n before t ts else label_from (open_after n t.kind) (before ++ t ∷ []) ts) ≡ Some l → Marks (before ++ t ∷ ts) (tokens_of l)
    of true later h =
        let e : tokens_of l ≡ t ∷ ts = by_test (n == 0 && may_be_labelled before) before t ts l h in
        subst (Marks (before ++ t ∷ ts)) (sym e) (both before (t ∷ ts) [] (t ∷ ts) (nothing before) (each_one (t ∷ ts)))
    of false later h = subst (λ (us : List Lexeme). Marks us (tokens_of l)) (append_assoc before (t ∷ []) ts) (later h)

pub found_in : (item : List Lexeme) (l : Option TheLabel) → label_in item ≡ Some l → Marks item (tokens_of l)
found_in item l h = found_from 0 [] item l h

-- ---- the labels of a list

-- what the labels of an item and of those behind it are
record Labels (r : Option (Option TheLabel)) (rs : Option (List (Option TheLabel))) (ls : List (Option TheLabel)) : Type 0 where
  first : Option TheLabel
  others : List (Option TheLabel)
  is : r ≡ Some first
  are : rs ≡ Some others
  all : ls ≡ first ∷ others

same_labels : {ls ms : List (Option TheLabel)} {o : Option (List (Option TheLabel))} → o ≡ Some ls → o ≡ Some ms → ls ≡ ms
same_labels e f = cc

labels_are : (r : Option (Option TheLabel)) (rs : Option (List (Option TheLabel))) (ls : List (Option TheLabel)) → with_label r rs ≡ Some ls → Labels r rs ls
labels_are None rs ls h = absurd (cc)
labels_are (Some l) None ls h = absurd (cc)
labels_are (Some l) (Some others) ls h = record { first = l; others = others; is = refl; are = refl; all = same_labels h refl }

tokens_all : (ls : List (Option TheLabel)) (l : Option TheLabel) (others : List (Option TheLabel)) → ls ≡ l ∷ others → label_tokens ls ≡ tokens_of l ++ label_tokens others
tokens_all ls l others e = ap label_tokens e

list_from : (n : ℕ) (item ts : List Lexeme) (ls : List (Option TheLabel)) → labels_in (items_from n item ts) ≡ Some ls → Marks (item ++ ts) (label_tokens ls)
list_from n item [] ls h =
    let a = labels_are (label_in item) (labels_in []) ls h in
    let none : [] ≡ a.others = same_labels refl a.are in
    let e : label_tokens ls ≡ tokens_of a.first ++ [] = tokens_all ls a.first a.others a.all ∙ ap (λ (os : List (Option TheLabel)). tokens_of a.first ++ label_tokens os) (sym none) in
    subst (Marks (item ++ [])) (sym e) (both item [] (tokens_of a.first) [] (found_in item a.first a.is) (nothing []))
list_from n item (t ∷ ts) ls h =
    of (parts_items n t.kind) (λ ms k. list_from 0 [] ts ms k) (λ k. list_from (open_after n t.kind) (item ++ t ∷ []) ts ls k) h
  where
    of : (b : Bool) → ((ms : List (Option TheLabel)) → labels_in (items_from 0 [] ts) ≡ Some ms → Marks ts (label_tokens ms))
        → (labels_in (items_from (open_after n t.kind) (item ++ t ∷ []) ts) ≡ Some ls → Marks (item ++ t ∷ [] ++ ts) (label_tokens ls))
        → labels_in (if b then item ∷ items_from 0 [] ts else items_from (open_after n t.kind) (item ++ t ∷ []) ts) ≡ Some ls → Marks (item ++ t ∷ ts) (label_tokens ls)
    of true others later h =
        let a = labels_are (label_in item) (labels_in (items_from 0 [] ts)) ls h in
        let behind : Marks (t ∷ ts) (label_tokens a.others) = both (t ∷ []) ts [] (label_tokens a.others) (nothing (t ∷ [])) (others a.others a.are) in
        subst (Marks (item ++ t ∷ ts)) (sym (tokens_all ls a.first a.others a.all)) (both item (t ∷ ts) (tokens_of a.first) (label_tokens a.others) (found_in item a.first a.is) behind)
    of false others later h = subst (λ (us : List Lexeme). Marks us (label_tokens ls)) (append_assoc item (t ∷ []) ts) (later h)

pub list_marks : (list : List Lexeme) (ls : List (Option TheLabel)) → labels_in (items_of list) ≡ Some ls → Marks list (label_tokens ls)
list_marks list ls h = list_from 0 [] list ls h

-- ---- of a text

-- of all tokens
pub text_marks : (t : Lexeme) (ts : List Lexeme) (ls : List (Option TheLabel)) → labels_of ts ≡ Some ls → Marks (t ∷ ts) (label_tokens ls)
text_marks t ts ls h =
    let n = length_from 0 ts in
    let list = list_marks (take n ts) ls h in
    let rest : Marks (take n ts ++ drop n ts) (label_tokens ls ++ []) = both (take n ts) (drop n ts) (label_tokens ls) [] list (nothing (drop n ts)) in
    let all : Marks ts (label_tokens ls) = subst (λ (us : List Lexeme). Marks us (label_tokens ls)) (take-append-drop n ts) (subst (Marks (take n ts ++ drop n ts)) (append-nil (label_tokens ls)) rest) in
    both (t ∷ []) ts [] (label_tokens ls) (nothing (t ∷ [])) all

same_text : {u v : Unlabelled} {o : Option Unlabelled} → o ≡ Some u → o ≡ Some v → u ≡ v
same_text e f = cc

record Made (text : List ℕ) (ts : List Lexeme) (u : Unlabelled) (o : Option (List (Option TheLabel))) : Type 0 where
  labels : List (Option TheLabel)
  found : o ≡ Some labels
  is : record { text = blanked text 0 (label_tokens labels); labels = label_names labels } ≡ u

made_is : (text : List ℕ) (behind : List Lexeme) (u : Unlabelled) (o : Option (List (Option TheLabel))) → made_by text behind o ≡ Some u → Made text behind u o
made_is text behind u None h = absurd (cc)
made_is text behind u (Some ls) h = of (list_any is_some ls && not (sorts_by_label ls behind)) h
  where
    of : (b : Bool) → (if b then Some (record { text = blanked text 0 (label_tokens ls); labels = label_names ls }) else None) ≡ Some u → Made text behind u (Some ls)
    of true h = record { labels = ls; found = refl; is = same_text refl h }
    of false h = absurd (cc)

made_if : (text : List ℕ) (ts : List Lexeme) (u : Unlabelled) (b : Bool) → (if b then made_by text (behind_list ts) (labels_of ts) else None) ≡ Some u → Made text (behind_list ts) u (labels_of ts)
made_if text ts u true h = made_is text (behind_list ts) u (labels_of ts) h
made_if text ts u false h = absurd (cc)

leaves : (text : List ℕ) (t : Lexeme) (ts : List Lexeme) (u : Unlabelled) (ls : List (Option TheLabel)) → Lexes text (Ok (t ∷ ts)) → labels_of ts ≡ Some ls
    → record { text = blanked text 0 (label_tokens ls); labels = label_names ls } ≡ u → LeavesOutLabels text (t ∷ ts) u
leaves text t ts u ls d found is =
    let m = text_marks t ts ls found in
    let text_is : blanked text 0 (marked m.marks (t ∷ ts)) ≡ u.text = ap (blanked text 0) m.left ∙ ap (λ (v : Unlabelled). v.text) is in
    record {
      labels = ls;
      found = found;
      names = sym (ap (λ (v : Unlabelled). v.labels) is);
      marks = m.marks;
      left_out = m.left;
      kept = subst (λ (z : List ℕ). Lexes z (Ok (unmarked m.marks (t ∷ ts)))) text_is (marked_are_blank text (t ∷ ts) m.marks d);
      as_long = sym (ap length text_is) ∙ marked_are_as_long text (t ∷ ts) m.marks d;
    }

pub leaves_out : (text : List ℕ) (ts : List Lexeme) (u : Unlabelled) → Lexes text (Ok ts) → without_labels text ts ≡ Some u → LeavesOutLabels text ts u
leaves_out text [] u d h = absurd (cc)
leaves_out text (t ∷ ts) u d h = let m = made_if text ts u (is_select t.kind) h in leaves text t ts u m.labels d m.found m.is
