-- Records that are written to a dump, list by list.
use Rattle.std.proofs.Common.{◌≡◌, ◌+◌, ◌*◌, ◌<◌, ◌≤◌, ◌%◌, ℕ, true, List, [], ◌∷◌, ◌++◌, Err, refl, sym, ap, subst, ◌∙◌, arith}
use Rattle.std.proofs.lemmas.List.{append_assoc}
use Rattle.sha2.specs.Hashers.{Holds256}
use Rattle.sector_device.specs.Device.{DeviceState, Image, IsSynced, KeepsHistory}
use Rattle.store.specs.declared.fault.StoreFault.{StoreFault}
use Rattle.store.specs.declared.fault.StoreFault.TheVariants as write
use Rattle.store.specs.Records.{Records, Changes, IsOrdered, applied}
use Rattle.store.specs.Store.{StoreState}
use Rattle.store.proofs.InOrder.{start_ordered}
use Rattle.cow_pages.specs.PreservedLaws.{failed_later}
use Rattle.transactions.specs.Views.{applied_all}
use Rattle.copies.specs.RecordCopies.{Fills, behind_mark, put_in}
use Rattle.copies.specs.declared.fault.CopyFault.{CopyFault}
use Rattle.copies.specs.declared.fault.CopyFault.TheVariants.{Pages, Read, Write, WrongSize, Full}
use Rattle.copies.proofs.Copied.{puts_append}
use Rattle.dumps.specs.Form.{head}
use Rattle.dumps.specs.OnDevice.{HasEnd, HasList, bytes_from}
use Rattle.dumps.specs.Reading.{HasHead}
use Rattle.dumps.specs.SeveralLists.{HasLists}
use Rattle.dumps.specs.Writing.{HasPartCause}
use Rattle.dumps.specs.declared.place.DumpPlace.{DumpPlace}
use Rattle.dumps.proofs.Heads.{head_long}
use Rattle.dumps.proofs.Sectors.{same_bytes}
use Rattle.dumps.proofs.WholeDumps.{lists_stay, no_lists, one_list_more, whole_dump}
use Rattle.database_dumps.specs.Dumping.{HasDumpCause, HasDumpedRecords, HasRecords}

-- the lists up to a place make some of the records, and the others are ahead
pub record PutsSome (A : Records → Type 0) (sectors : ℕ) (image : Image) (before : List ℕ) (records : Records) (old new : DumpPlace) : Type 0 where
  pub lists : List Changes
  pub after : List ℕ
  pub has : HasLists sectors image before after lists old new
  pub done : Records
  pub later : Records
  pub all : records ≡ done ++ later
  pub is_ahead : A later
  pub makes : applied_all lists [] ≡ done

pub none_put : (A : Records → Type 0) (sectors : ℕ) (image : Image) (before : List ℕ) (records : Records) (place : DumpPlace) → 8 * place.page ≤ sectors → Holds256 place.hasher before → A records → PutsSome A sectors image before records place place
none_put A sectors image before records place inside hashed ahead = record {
  lists = [];
  after = before;
  has = no_lists sectors image before place inside hashed;
  done = [];
  later = records;
  all = refl;
  is_ahead = ahead;
  makes = refl;
}

pub applied_more : (lists : List Changes) (changes : Changes) (records : Records) → applied_all (lists ++ changes ∷ []) records ≡ applied changes (applied_all lists records)
applied_more [] changes records = refl
applied_more (first ∷ lists) changes records = applied_more lists changes (applied first records)

-- what one list more makes
made : (lists : List Changes) (batch : Changes) (done taken more : Records) → IsOrdered (done ++ (taken ++ more)) → applied_all lists [] ≡ done → batch ≡ put_in taken [] → applied_all (lists ++ batch ∷ []) [] ≡ done ++ taken
made lists batch done taken more o makes is =
    applied_more lists batch [] ∙ ap (λ (es : Records). applied batch es) makes ∙ ap (λ (cs : Changes). applied cs done) is
    ∙ puts_append taken more [] done tt (start_ordered done (taken ++ more) o) o

module _ (A B : Records → Type 0) (sectors others : ℕ) (image other : Image) (before : List ℕ) (records : Records) (batch : Changes) (old mid new : DumpPlace)
    (ordered : IsOrdered records) (so_far : PutsSome A sectors image before records old mid) (same_size : others ≡ sectors) (stays : (s : ℕ) → s < 8 * mid.page → other s ≡ image s)
    (wrote : (b : List ℕ) → Holds256 mid.hasher b → HasList others other b batch mid new) where
  list : HasList others other so_far.after batch mid new
  list = wrote so_far.after so_far.has.hashed

  stayed : HasLists others other before so_far.after so_far.lists old mid
  stayed = lists_stay others image other before so_far.after so_far.lists old mid stays
      (subst (λ (n : ℕ). HasLists n image before so_far.after so_far.lists old mid) (sym same_size) so_far.has)

  -- one list more was written
  pub more_put : ((later : Records) → A later → Fills B true later [] batch) → PutsSome B others other before records old new
  more_put fill =
      let f = fill so_far.later so_far.is_ahead in
      let split : records ≡ so_far.done ++ (f.0 ++ f.1) = so_far.all ∙ ap (λ (xs : Records). so_far.done ++ xs) f.2 in
      record {
        lists = so_far.lists ++ batch ∷ [];
        after = so_far.after ++ list.block;
        has = one_list_more others other before so_far.after so_far.lists batch old mid new stayed list;
        done = so_far.done ++ f.0;
        later = f.1;
        all = split ∙ sym (append_assoc so_far.done f.0 f.1);
        is_ahead = f.4;
        makes = made so_far.lists batch so_far.done f.0 f.1 (subst IsOrdered split ordered) so_far.makes f.3;
      }

  -- the last one was
  pub all_put : ((later : Records) → A later → batch ≡ put_in later []) → HasRecords others other before records old new
  all_put fill =
      let split : records ≡ so_far.done ++ (so_far.later ++ []) = so_far.all ∙ ap (λ (xs : Records). so_far.done ++ xs) (none so_far.later) in
      record {
        lists = so_far.lists ++ batch ∷ [];
        after = so_far.after ++ list.block;
        has = one_list_more others other before so_far.after so_far.lists batch old mid new stayed list;
        makes = made so_far.lists batch so_far.done so_far.later [] (subst IsOrdered split ordered) so_far.makes (fill so_far.later so_far.is_ahead) ∙ sym so_far.all;
      }
    where
      none : (ys : Records) → ys ≡ ys ++ []
      none [] = refl
      none (y ∷ ys) = ap (λ (zs : Records). y ∷ zs) (none ys)

-- a head, the lists and the end are a dump
pub dumped : (d1 d2 d3 : DeviceState) (number : ℕ) (records : Records) (first last : DumpPlace) → d2.sectors ≡ d1.sectors → d3.sectors ≡ d2.sectors → HasHead d1 number first
    → ((s : ℕ) → s < 8 * first.page → d2.content s ≡ d1.content s) → HasRecords d2.sectors d2.content (head number) (behind_mark records) first last
    → ((s : ℕ) → s < 8 * last.page → d3.content s ≡ d2.content s) → ((b : List ℕ) → Holds256 last.hasher b → HasEnd d3.sectors d3.content b last) → IsSynced d3 → HasDumpedRecords records number d3
dumped d1 d2 d3 number records first last size2 size3 begun stays2 has stays3 ended synced = record {
  dump = record { number = number; lists = has.lists };
  holds = whole_dump d3.sectors d3.content number has.after has.lists first last begun.fits (ap (λ (n : ℕ). n % 8) (size3 ∙ size2) ∙ begun.whole) begins (head_long number) begun.page begun.lists
      (lists_stay d3.sectors d2.content d3.content (head number) has.after has.lists first last stays3 (subst (λ (n : ℕ). HasLists n d2.content (head number) has.after has.lists first last) (sym size3) has.has))
      (ended has.after has.has.hashed);
  synced = synced;
  numbered = refl;
  makes = has.makes;
}
  where
    begins : bytes_from d3.content 0 8 ≡ head number
    begins =
        same_bytes d3.content d1.content 8 0 (λ k lt. stays3 (0 + k) (omega (arith, lt, has.has.later, begun.page)) ∙ stays2 (0 + k) (omega (arith, lt, begun.page))) ∙ begun.there

-- ---- causes

-- why a part was not written, since an earlier moment
pub part_cause : (T : Type 0) (fault : StoreFault) (s t : StoreState) (old mid new : DeviceState) → KeepsHistory old mid → KeepsHistory mid new → HasPartCause {T = T} (Err fault) mid new → HasDumpCause (Write fault) s t old new
part_cause T write.Full s t old mid new first second cause = tt
part_cause T write.Memory s t old mid new first second cause = tt
part_cause T write.Device s t old mid new first second cause = failed_later old mid new first second cause
part_cause T write.Number s t old mid new first second cause = absurd cause

-- a cause since an earlier moment of the device
pub cause_since : (fault : CopyFault) (s t : StoreState) (old mid new : DeviceState) → KeepsHistory old mid → KeepsHistory mid new → HasDumpCause fault s t mid new → HasDumpCause fault s t old new
cause_since (Read fault) s t old mid new first second cause = cause
cause_since (Write write.Full) s t old mid new first second cause = tt
cause_since (Write write.Memory) s t old mid new first second cause = tt
cause_since (Write write.Device) s t old mid new first second cause = failed_later old mid new first second cause
cause_since (Write write.Number) s t old mid new first second cause = absurd cause
cause_since (Pages fault) s t old mid new first second cause = absurd cause
cause_since WrongSize s t old mid new first second cause = absurd cause
cause_since (Full least) s t old mid new first second cause = absurd cause
