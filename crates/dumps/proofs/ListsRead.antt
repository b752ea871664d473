-- Lists of a dump that are read one after the other.
use Rattle.std.proofs.Common.{◌≡◌, ◌≤◌, ◌*◌, ◌-◌, ℕ, List, [], ◌∷◌, ◌++◌, Option, Some, None, refl, sym, ap, subst, ◌∙◌, arith}
use Rattle.std.proofs.lemmas.List.{append_assoc}
use Rattle.sha2.specs.Hashers.{Holds256}
use Rattle.sector_device.specs.Device.{DeviceState, Image, KeepsHistory}
use Rattle.store.specs.declared.fault.Fault.{Fault}
use Rattle.store.specs.declared.fault.Fault.TheVariants.{Damaged}
use Rattle.store.specs.Records.{Changes}
use Rattle.cow_pages.specs.Held.{KeepsContent}
use Rattle.dumps.specs.OnDevice.{DumpGoesOn, HasEnd, HasList, IsNextPart, LeavesToRead, bytes_from}
use Rattle.dumps.specs.SeveralLists.{HasAllLists, HasLists}
use Rattle.dumps.specs.declared.place.DumpPlace.{DumpPlace}
use Rattle.dumps.proofs.Following.{something_follows}
use Rattle.dumps.proofs.Moved.{moved, moved_back}
use Rattle.dumps.proofs.WholeDumps.{no_lists, one_list_more}

-- these lists are the first of the others, which go on behind the place
pub record GoesOnWith (sectors : ℕ) (image : Image) (lists others : List Changes) (place : DumpPlace) : Type 0 where
  pub behind : List ℕ
  pub rest : List Changes
  pub all : others ≡ lists ++ rest
  pub hashed : Holds256 place.hasher behind
  pub goes_on : DumpGoesOn sectors image place.page behind place.lists rest

-- lists were read from one place to another, and no others are there
pub record HasReadLists (sectors : ℕ) (image : Image) (before : List ℕ) (old new : DumpPlace) : Type 0 where
  pub lists : List Changes
  pub after : List ℕ
  pub has : HasLists sectors image before after lists old new
  pub only : (others : List Changes) → DumpGoesOn sectors image old.page before old.lists others → GoesOnWith sectors image lists others new

pub none_read : (sectors : ℕ) (image : Image) (before : List ℕ) (place : DumpPlace) → 8 * place.page ≤ sectors → Holds256 place.hasher before → HasReadLists sectors image before place place
none_read sectors image before place inside hashed = record {
  lists = [];
  after = before;
  has = no_lists sectors image before place inside hashed;
  only = λ others on. record { behind = before; rest = others; all = refl; hashed = hashed; goes_on = on };
}

-- what reading one list promises
abbrev pub Reads : ℕ → Image → DumpPlace → DumpPlace → Changes → Type 0
Reads sectors image old new changes =
    ((before : List ℕ) → Holds256 old.hasher before → HasList sectors image before changes old new)
    × ((before : List ℕ) (lists : List Changes) → Holds256 old.hasher before → DumpGoesOn sectors image old.page before old.lists lists → LeavesToRead sectors image before lists (Some changes) new)

-- one list more was read
pub one_more_read : (sectors : ℕ) (image : Image) (before : List ℕ) (changes : Changes) (old mid new : DumpPlace) → HasReadLists sectors image before old mid → Reads sectors image mid new changes → HasReadLists sectors image before old new
one_more_read sectors image before changes old mid new so_far reads =
    let is = reads.0 so_far.after so_far.has.hashed in
    record {
      lists = so_far.lists ++ changes ∷ [];
      after = so_far.after ++ is.block;
      has = one_list_more sectors image before so_far.after so_far.lists changes old mid new so_far.has is;
      only = λ others on.
          let more = so_far.only others on in
          let left = reads.1 more.behind more.rest more.hashed more.goes_on in
          record {
            behind = more.behind ++ left.0;
            rest = left.1;
            all = more.all ∙ ap (λ (ls : List Changes). so_far.lists ++ ls) left.2 ∙ sym (append_assoc so_far.lists (changes ∷ []) left.1);
            hashed = left.3;
            goes_on = left.4;
          };
    }

none_more : (ls : List Changes) → ls ++ [] ≡ ls
none_more [] = refl
none_more (cs ∷ ls) = ap (λ (rest : List Changes). cs ∷ rest) (none_more ls)

-- what finding the end promises
abbrev pub Ends : ℕ → Image → DumpPlace → Type 0
Ends sectors image place =
    ((before : List ℕ) → Holds256 place.hasher before → HasEnd sectors image before place)
    × ((before : List ℕ) (lists : List Changes) → Holds256 place.hasher before → DumpGoesOn sectors image place.page before place.lists lists → lists ≡ [])

-- all were read
pub all_read : (sectors : ℕ) (image : Image) (before : List ℕ) (old last : DumpPlace) → (so_far : HasReadLists sectors image before old last) → Ends sectors image last → HasAllLists sectors image before so_far.lists old
all_read sectors image before old last so_far ends = record {
  after = so_far.after;
  last = last;
  has = so_far.has;
  end = ends.0 so_far.after so_far.has.hashed;
  only = λ others on.
      let more = so_far.only others on in
      more.all ∙ ap (λ (ls : List Changes). so_far.lists ++ ls) (ends.1 more.behind more.rest more.hashed more.goes_on) ∙ none_more so_far.lists;
}

-- ---- what is read of a device that reads leave as it was

pub reads_of : (d e : DeviceState) (old new : DumpPlace) (found : Option Changes) (changes : Changes) → KeepsHistory d e → KeepsContent d e → found ≡ Some changes
    → ((before : List ℕ) → Holds256 old.hasher before → IsNextPart e.sectors e.content before old found new)
    → ((before : List ℕ) (lists : List Changes) → Holds256 old.hasher before → DumpGoesOn e.sectors e.content old.page before old.lists lists → LeavesToRead e.sectors e.content before lists found new)
    → Reads d.sectors d.content old new changes
reads_of d e old new found changes history content is next goes_on =
    moved (λ n i. Reads n i old new changes) d.sectors e.sectors d.content e.content history.sectors content.content (
      (λ before hashed. subst (λ (f : Option Changes). IsNextPart e.sectors e.content before old f new) is (next before hashed)),
      (λ before lists hashed on. subst (λ (f : Option Changes). LeavesToRead e.sectors e.content before lists f new) is (goes_on before lists hashed on)),
    )

pub ends_of : (d e : DeviceState) (old new : DumpPlace) (found : Option Changes) → KeepsHistory d e → KeepsContent d e → found ≡ None
    → ((before : List ℕ) → Holds256 old.hasher before → IsNextPart e.sectors e.content before old found new)
    → ((before : List ℕ) (lists : List Changes) → Holds256 old.hasher before → DumpGoesOn e.sectors e.content old.page before old.lists lists → LeavesToRead e.sectors e.content before lists found new)
    → Ends d.sectors d.content old
ends_of d e old new found history content is next goes_on =
    moved (λ n i. Ends n i old) d.sectors e.sectors d.content e.content history.sectors content.content (
      (λ before hashed. subst (λ (f : Option Changes). IsNextPart e.sectors e.content before old f new) is (next before hashed)),
      (λ before lists hashed on. subst (λ (f : Option Changes). LeavesToRead e.sectors e.content before lists f new) is (goes_on before lists hashed on)),
    )

-- a dump that goes on at a place does not end before it
pub inside : (sectors : ℕ) (image : Image) (page : ℕ) (before : List ℕ) (count : ℕ) (lists : List Changes) → DumpGoesOn sectors image page before count lists → 8 * page ≤ sectors
inside sectors image page before count lists on = omega (arith, something_follows before count lists (bytes_from image (8 * page) (sectors - 8 * page)) on.follows, on.whole.sized)

-- where a dump goes on, no list of it is refused
pub none_refused : (d e : DeviceState) (before : List ℕ) (first place : DumpPlace) (lists : List Changes) (fault : Fault) → KeepsHistory d e → KeepsContent d e → HasReadLists d.sectors d.content before first place
    → DumpGoesOn d.sectors d.content first.page before first.lists lists
    → ((b : List ℕ) (ls : List Changes) → Holds256 place.hasher b → DumpGoesOn e.sectors e.content place.page b place.lists ls → fault ≡ Damaged → ⊥) → fault ≡ Damaged → ⊥
none_refused d e before first place lists fault history content so_far on damaged =
    let more = so_far.only lists on in
    damaged more.behind more.rest more.hashed
    (moved_back (λ n i. DumpGoesOn n i place.page more.behind place.lists more.rest) d.sectors e.sectors d.content e.content history.sectors content.content more.goes_on)
