-- The least key of which lists of changes say something.
use Rattle.std.proofs.Common.{◌≡◌, ℕ, Bool, true, false, List, [], ◌∷◌, ◌++◌, Option, Some, None, refl, ap, sym, ◌∙◌, subst, ◌<◌, ◌+◌, length, take, get_or}
use Rattle.std.proofs.lemmas.List.{take_more}
use Rattle.std.specs.Ordering.{is_lt}
use Rattle.std.specs.declared.cmp.Ordering.{Ordering}
use Rattle.std.specs.declared.cmp.Ordering.TheVariants.{Less, Equal, Greater}
use Rattle.store.specs.Records.{Changes, IsOrdered, key_cmp, first_from}
use Rattle.store.proofs.Changes.{key_trans}
use Rattle.store.proofs.Scans.{found_from}
use Rattle.transactions.specs.Views.{latest, IsLeast, HasLeast}
use Rattle.transactions.proofs.Latest.{latest-append}
use Rattle.transactions.proofs.Scanning.{nothing_from, nothing_between, found_value, from_less}

-- both parts say nothing of a key
neither : (key : List ℕ) (lists more : List Changes) → latest key lists ≡ None → latest key more ≡ None → latest key (lists ++ more) ≡ None
neither key lists more first second = latest-append key lists more ∙ rw second first

-- the later part decides
later_says : (key : List ℕ) (value : Option (List ℕ)) (lists more : List Changes) → latest key more ≡ Some value → latest key (lists ++ more) ≡ Some value
later_says key value lists more says = latest-append key lists more ∙ rw says refl

-- the later part says nothing, and the earlier one decides
earlier_says : (key : List ℕ) (value : Option (List ℕ)) (lists more : List Changes) → latest key lists ≡ Some value → latest key more ≡ None → latest key (lists ++ more) ≡ Some value
earlier_says key value lists more says none = latest-append key lists more ∙ rw none says

pub none_least : (from : List ℕ) (lists more : List Changes) → HasLeast from None lists → HasLeast from None more → HasLeast from None (lists ++ more)
none_least from lists more first second = λ key late. neither key lists more (first key late) (second key late)

pub later_alone : (from : List ℕ) (change : List ℕ × Option (List ℕ)) (lists more : List Changes) → HasLeast from None lists → IsLeast from change more → IsLeast from change (lists ++ more)
later_alone from change lists more none least = record {
  from_on = least.from_on;
  latest_is = later_says change.0 change.1 lists more least.latest_is;
  before = λ key late less. neither key lists more (none key late) (least.before key late less);
}

pub earlier_alone : (from : List ℕ) (change : List ℕ × Option (List ℕ)) (lists more : List Changes) → IsLeast from change lists → HasLeast from None more → IsLeast from change (lists ++ more)
earlier_alone from change lists more least none = record {
  from_on = least.from_on;
  latest_is = earlier_says change.0 change.1 lists more least.latest_is (none change.0 least.from_on);
  before = λ key late less. neither key lists more (least.before key late less) (none key late);
}

-- the earlier part has the lesser key
pub earlier_first : (from : List ℕ) (change other : List ℕ × Option (List ℕ)) (lists more : List Changes) → IsLeast from change lists → IsLeast from other more
    → key_cmp change.0 other.0 ≡ Less → IsLeast from change (lists ++ more)
earlier_first from change other lists more least second less = record {
  from_on = least.from_on;
  latest_is = earlier_says change.0 change.1 lists more least.latest_is (second.before change.0 least.from_on less);
  before = λ key late early. neither key lists more (least.before key late early) (second.before key late (key_trans key change.0 other.0 early less));
}

-- it has not
pub later_first : (from : List ℕ) (change other : List ℕ × Option (List ℕ)) (lists more : List Changes) → IsLeast from change lists → IsLeast from other more
    → is_lt (key_cmp change.0 other.0) ≡ false → IsLeast from other (lists ++ more)
later_first from change other lists more least second from_there = record {
  from_on = second.from_on;
  latest_is = later_says other.0 other.1 lists more second.latest_is;
  before = λ key late early. neither key lists more (least.before key late (from_less key other.0 change.0 early from_there)) (second.before key late early);
}

-- the first change of a list from a key on is its least from there
pub first_least : (from : List ℕ) (cs : Changes) → IsOrdered cs → HasLeast from (first_from from cs) (cs ∷ [])
first_least from cs rise = go (first_from from cs) refl
  where
    go : (found : Option (List ℕ × Option (List ℕ))) → found ≡ first_from from cs → HasLeast from found (cs ∷ [])
    go None is = nothing_from from cs (sym is)
    go (Some found) is = record {
      from_on = found_from from cs found (sym is);
      latest_is = found_value from cs found rise (sym is);
      before = nothing_between from cs found rise (sym is);
    }

pub with_none : (from : List ℕ) (later : Option (List ℕ × Option (List ℕ))) (lists more : List Changes) → HasLeast from None lists → HasLeast from later more → HasLeast from later (lists ++ more)
with_none from None lists more first second = none_least from lists more first second
with_none from (Some change) lists more first second = later_alone from change lists more first second

-- one list more
pub one_more : (from : List ℕ) (least : Option (List ℕ × Option (List ℕ))) (lists : List Changes) (at : ℕ) (item : Changes) → at < length lists → item ≡ get_or lists at item
    → HasLeast from least (take at lists ++ item ∷ []) → HasLeast from least (take (at + 1) lists)
one_more from least lists at item inside is found =
    subst (λ (part : List Changes). HasLeast from least part)
    (sym (take_more lists at item inside ∙ ap (λ (cs : Changes). take at lists ++ cs ∷ []) (sym is))) found

pub is_less : (o : Ordering) → is_lt o ≡ true → o ≡ Less
is_less Less is = refl
is_less Equal is = cc
is_less Greater is = cc

-- how two keys compare is how the same two do
pub keys_compared : {a b key other : List ℕ} {less : Bool} → a ≡ key → b ≡ other → is_lt (key_cmp a b) ≡ less → is_lt (key_cmp key other) ≡ less
keys_compared {a} {b} {key} {other} {less} same also is =
    subst (λ (k : List ℕ). is_lt (key_cmp key k) ≡ less) also (subst (λ (k : List ℕ). is_lt (key_cmp k b) ≡ less) same is)
