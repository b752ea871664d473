-- Lists of a dump that are read or written one after the other, up to the whole dump.
use Rattle.std.proofs.Common.{◌≡◌, ℕ, ◌+◌, ◌-◌, ◌*◌, ◌%◌, ◌<◌, ◌≤◌, ◌^◌, List, [], ◌∷◌, ◌++◌, length, refl, sym, ap, subst, ◌∙◌, arith, length-append}
use Rattle.std.proofs.lemmas.List.{append_assoc}
use Rattle.sha2.specs.Hashers.{Holds256}
use Rattle.sector_device.specs.Device.{Image}
use Rattle.store.specs.Records.{Changes}
use Rattle.dumps.specs.Form.{Follows, head}
use Rattle.dumps.specs.OnDevice.{HasEnd, HasList, IsDumpOn, bytes_from}
use Rattle.dumps.specs.SeveralLists.{HasLists}
use Rattle.dumps.specs.declared.place.DumpPlace.{DumpPlace}
use Rattle.dumps.proofs.Following.{end_long}
use Rattle.dumps.proofs.Sectors.{joined, same_bytes}

pub no_lists : (sectors : ℕ) (image : Image) (before : List ℕ) (place : DumpPlace) → 8 * place.page ≤ sectors → Holds256 place.hasher before → HasLists sectors image before before [] place place
no_lists sectors image before place inside hashed = record {
  later = omega arith;
  inside = inside;
  hashed = hashed;
  long = ap length none ∙ ap (λ (n : ℕ). 4096 * n) (sym here);
  follows = λ rest bytes is. subst (λ (l : List ℕ). Follows before place.lists rest (l ++ bytes)) (sym none) is;
}
  where
    here : place.page - place.page ≡ 0
    here = omega arith

    none : bytes_from image (8 * place.page) (8 * (place.page - place.page)) ≡ []
    none = ap (λ (n : ℕ). bytes_from image (8 * place.page) (8 * n)) here

-- the pages up to a place, and those of one list more
pages_more : (image : Image) (old mid new pages : ℕ) → old ≤ mid → new ≡ mid + pages
    → bytes_from image (8 * old) (8 * (new - old)) ≡ bytes_from image (8 * old) (8 * (mid - old)) ++ bytes_from image (8 * mid) (8 * pages)
pages_more image old mid new pages later is =
    let count : 8 * (new - old) ≡ 8 * (mid - old) + 8 * pages = omega (arith, later, is) in
    let place : 8 * old + 8 * (mid - old) ≡ 8 * mid = omega (arith, later) in
    ap (λ (n : ℕ). bytes_from image (8 * old) n) count ∙ joined image (8 * (mid - old)) (8 * pages) (8 * old)
    ∙ ap (λ (s : ℕ). bytes_from image (8 * old) (8 * (mid - old)) ++ bytes_from image s (8 * pages)) place

-- the bytes from one page up to another
abbrev between : Image → ℕ → ℕ → List ℕ
between image old new = bytes_from image (8 * old) (8 * (new - old))

pub one_list_more : (sectors : ℕ) (image : Image) (before after : List ℕ) (lists : List Changes) (changes : Changes) (old mid new : DumpPlace) → HasLists sectors image before after lists old mid
    → (is : HasList sectors image after changes mid new) → HasLists sectors image before (after ++ is.block) (lists ++ changes ∷ []) old new
one_list_more sectors image before after lists changes old mid new so_far is = record {
  later = omega (arith, so_far.later, is.page);
  inside = is.inside;
  hashed = is.hashed;
  long =
      ap length all ∙ length-append (between image old.page mid.page) is.block
      ∙ omega (arith, so_far.long, is.long, so_far.later, is.page);
  follows = λ rest bytes follows.
      let behind : Follows after mid.lists (changes ∷ rest) (is.block ++ bytes) = (is.block, bytes, is.is, refl, subst (λ (n : ℕ). Follows (after ++ is.block) n rest bytes) is.lists follows) in
      let joined_lists : lists ++ (changes ∷ rest) ≡ (lists ++ changes ∷ []) ++ rest = sym (append_assoc lists (changes ∷ []) rest) in
      let joined_bytes : between image old.page mid.page ++ (is.block ++ bytes) ≡ between image old.page new.page ++ bytes = sym (append_assoc (between image old.page mid.page) is.block bytes) ∙ ap (λ (l : List ℕ). l ++ bytes) (sym all) in
      subst (λ (l : List ℕ). Follows before old.lists ((lists ++ changes ∷ []) ++ rest) l) joined_bytes
      (subst (λ (ls : List Changes). Follows before old.lists ls (between image old.page mid.page ++ (is.block ++ bytes))) joined_lists (so_far.follows (changes ∷ rest) (is.block ++ bytes) behind));
}
  where
    all : between image old.page new.page ≡ between image old.page mid.page ++ is.block
    all = pages_more image old.page mid.page new.page is.pages so_far.later is.page ∙ ap (λ (l : List ℕ). between image old.page mid.page ++ l) is.there

-- the same sectors have the same lists
pub lists_stay : (sectors : ℕ) (image other : Image) (before after : List ℕ) (lists : List Changes) (old new : DumpPlace) → ((s : ℕ) → s < 8 * new.page → other s ≡ image s)
    → HasLists sectors image before after lists old new → HasLists sectors other before after lists old new
lists_stay sectors image other before after lists old new same is =
    let bytes : bytes_from image (8 * old.page) (8 * (new.page - old.page)) ≡ bytes_from other (8 * old.page) (8 * (new.page - old.page)) =
    sym (same_bytes other image (8 * (new.page - old.page)) (8 * old.page) (λ k lt. same (8 * old.page + k) (omega (arith, lt, is.later)))) in
    record {
      later = is.later;
      inside = is.inside;
      hashed = is.hashed;
      long = ap length (sym bytes) ∙ is.long;
      follows = λ rest more follows. subst (λ (l : List ℕ). Follows before old.lists (lists ++ rest) (l ++ more)) bytes (is.follows rest more follows);
    }

-- the bytes from one page up to another, and one page more
abbrev up_to_end : Image → ℕ → ℕ → List ℕ
up_to_end image old last = between image old last ++ bytes_from image (8 * last) 8

-- a head, lists and an end are a dump
pub whole_dump : (sectors : ℕ) (image : Image) (number : ℕ) (after : List ℕ) (lists : List Changes) (first last : DumpPlace) → number < 2 ^ 64 → sectors % 8 ≡ 0 → bytes_from image 0 8 ≡ head number → length (head number) ≡ 4096
    → first.page ≡ 1 → first.lists ≡ 0 → HasLists sectors image (head number) after lists first last → HasEnd sectors image after last
    → IsDumpOn sectors image (record { number = number; lists = lists })
whole_dump sectors image number after lists first last fits pages begins head_long page none has end = record {
  whole = record {
    pages = pages;
    sized = ap length from_start ∙ ap length all ∙ length-append (head number) (up_to_end image first.page last.page) ∙ omega (arith, head_long, long_behind, end.last, pages, has.later, page);
  };
  is = record {
    fits = fits;
    later = (up_to_end image first.page last.page);
    is = all;
    follows =
        let to_end = has.follows [] (bytes_from image (8 * last.page) 8) end.there in
        subst (λ (n : ℕ). Follows (head number) n lists (up_to_end image first.page last.page)) none (subst (λ (ls : List Changes). Follows (head number) first.lists ls (up_to_end image first.page last.page)) (append_none lists) to_end);
  };
}
  where
    append_none : (ls : List Changes) → ls ++ [] ≡ ls
    append_none [] = refl
    append_none (cs ∷ ls) = ap (λ (rest : List Changes). cs ∷ rest) (append_none ls)

    from_start : bytes_from image (8 * 0) (sectors - 8 * 0) ≡ bytes_from image 0 sectors
    from_start = ap (λ (n : ℕ). bytes_from image 0 n) (let none_less : sectors - 8 * 0 ≡ sectors = omega arith in none_less)

    long_behind : length (up_to_end image first.page last.page) ≡ 4096 * (last.page - first.page) + 4096
    long_behind = length-append (bytes_from image (8 * first.page) (8 * (last.page - first.page))) (bytes_from image (8 * last.page) 8)
        ∙ omega (arith, has.long, ap length end.there, end_long last.lists after)

    all : bytes_from image 0 sectors ≡ head number ++ (up_to_end image first.page last.page)
    all =
        let count : sectors ≡ 8 + (8 * (last.page - first.page) + 8) = omega (arith, end.last, pages, has.later, page) in
        let place : 0 + 8 ≡ 8 * first.page = omega (arith, page) in
        let later_place : 8 * first.page + 8 * (last.page - first.page) ≡ 8 * last.page = omega (arith, has.later) in
        ap (λ (n : ℕ). bytes_from image 0 n) count ∙ joined image 8 (8 * (last.page - first.page) + 8) 0
        ∙ ap (λ (l : List ℕ). l ++ bytes_from image (0 + 8) (8 * (last.page - first.page) + 8)) begins
        ∙ ap (λ (s : ℕ). head number ++ bytes_from image s (8 * (last.page - first.page) + 8)) place
        ∙ ap (λ (l : List ℕ). head number ++ l) (joined image (8 * (last.page - first.page)) 8 (8 * first.page) ∙ ap (λ (s : ℕ). bytes_from image (8 * first.page) (8 * (last.page - first.page)) ++ bytes_from image s 8) later_place)
