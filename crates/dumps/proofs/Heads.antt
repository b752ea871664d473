-- The head of a dump that is read.
use Rattle.std.proofs.Common.{◌≡◌, ℕ, ◌+◌, ◌-◌, ◌*◌, ◌/◌, ◌%◌, ◌<◌, ◌≤◌, ◌^◌, List, ◌++◌, length, drop, replicate, Result, Ok, Err, refl, sym, ap, subst, ◌∙◌, arith, length-append}
use Rattle.std.specs.Result.{IsErrAnd}
use Rattle.byteorder.specs.Endian.{big_number}
use Rattle.byteorder.specs.Numbers.{big_number-reads_back}
use Rattle.sector_device.specs.Device.{DeviceState, Image, HasFailed}
use Rattle.store.specs.declared.fault.Fault.{Fault}
use Rattle.store.specs.declared.fault.Fault.TheVariants as read
use Rattle.dumps.specs.Faults.{of_read}
use Rattle.dumps.specs.declared.fault.DumpFault.TheVariants as dump
use Rattle.dumps.specs.Form.{TheDump, Follows, IsDump, fields, fill, head}
use Rattle.dumps.specs.OnDevice.{DumpGoesOn, IsDumpOn, bytes_from}
use Rattle.dumps.specs.Reading.{IsUnread}
use Rattle.dumps.proofs.Blocks.{in_pages_long}
use Rattle.dumps.proofs.Following.{back_same, front_same}
use Rattle.dumps.proofs.HeadBytes.{fields_long, head_parts}
use Rattle.dumps.proofs.Sectors.{joined, same_bytes}

-- the head is one page
pub head_long : (number : ℕ) → length (head number) ≡ 4096
unfolding head
head_long number = in_pages_long (fields number) ∙ ap (λ (n : ℕ). 4096 * ((n + 4095) / 4096)) (fields_long number)

fields_number : (number : ℕ) (rest : List ℕ) → number < 2 ^ 64 → big_number 8 (drop 20 (fields number ++ rest)) ≡ number
unfolding fields
fields_number number rest fits = big_number-reads_back 8 number rest (omega (arith, fits))

-- its number stands in it
pub number_in_head : (number : ℕ) → number < 2 ^ 64 → big_number 8 (drop 20 (head number)) ≡ number
number_in_head number fits = ap (λ (l : List ℕ). big_number 8 (drop 20 l)) (head_parts number) ∙ fields_number number (replicate (fill 28) 0) fits

-- all bytes of a device, which are those of a dump
dump_long : (sectors : ℕ) (image : Image) (dump : TheDump) → IsDumpOn sectors image dump → length (bytes_from image 0 sectors) ≡ 512 * sectors
dump_long sectors image dump is =
    let none_less : sectors - 8 * 0 ≡ sectors = omega arith in
    sym (ap (λ (n : ℕ). length (bytes_from image 0 n)) none_less) ∙ is.whole.sized ∙ ap (λ (n : ℕ). 512 * n) none_less

-- a dump has whole pages, one at least
pub dump_has_pages : (sectors : ℕ) (image : Image) (dump : TheDump) → IsDumpOn sectors image dump → (8 ≤ sectors) × (sectors % 8 ≡ 0)
dump_has_pages sectors image dump is =
    (omega (arith, dump_long sectors image dump is, ap length is.is.is, length-append (head dump.number) is.is.later, head_long dump.number), is.whole.pages)

-- its first page is its head
pub head_there : (sectors : ℕ) (image : Image) (dump : TheDump) (page : List ℕ) → IsDumpOn sectors image dump → page ≡ bytes_from image 0 8 → length page ≡ 4096 → page ≡ head dump.number
head_there sectors image dump page is page_is long =
    let some = (dump_has_pages sectors image dump is).0 in
    let count : sectors ≡ 8 + (sectors - 8) = omega (arith, some) in
    let parts : bytes_from image 0 sectors ≡ bytes_from image 0 8 ++ bytes_from image (0 + 8) (sectors - 8) = ap (λ (n : ℕ). bytes_from image 0 n) count ∙ joined image 8 (sectors - 8) 0 in
    let all : page ++ bytes_from image (0 + 8) (sectors - 8) ≡ head dump.number ++ is.is.later = ap (λ (l : List ℕ). l ++ bytes_from image (0 + 8) (sectors - 8)) page_is ∙ sym parts ∙ is.is.is in
    front_same page (bytes_from image (0 + 8) (sectors - 8)) (head dump.number) is.is.later all (long ∙ sym (head_long dump.number))

-- why a dump that is there was not read
pub unread : (fault : Fault) (old new : DeviceState) → (fault ≡ read.Damaged → ⊥) → (fault ≡ read.Device → HasFailed old new) → IsUnread (of_read fault) old new
unread read.Memory old new whole failed = tt
unread read.Device old new whole failed = failed refl
unread read.Damaged old new whole failed = absurd (whole refl)

-- a device that failed is one that a read found so
pub device_given : (fault : Fault) → of_read fault ≡ dump.Device → fault ≡ read.Device
device_given read.Device is = refl
device_given read.Memory is = absurd (let wrong : dump.Memory ≡ dump.Device = is in cc)
device_given read.Damaged is = absurd (let wrong : dump.Damaged ≡ dump.Device = is in cc)

-- the answer is this fault
pub answered : {T F : Type 0} (P : Result T F → Type 0) (fault : F) (result : Result T F) → IsErrAnd result (λ given. given ≡ fault) → P (Err fault) → P result
answered {T} {F} P fault (Err given) is p = subst (λ (f : F). P (Err f)) (sym is) p
answered P fault (Ok x) is p = absurd is

-- behind its head its lists go on
pub goes_on_from_head : (sectors : ℕ) (image : Image) (number : ℕ) (dump : TheDump) → bytes_from image 0 8 ≡ head number → IsDumpOn sectors image dump → DumpGoesOn sectors image 1 (head number) 0 dump.lists
goes_on_from_head sectors image number dump there is =
    let some = (dump_has_pages sectors image dump is).0 in
    let same : head number ≡ head dump.number = head_there sectors image dump (head number) is (sym there) (head_long number) in
    let count : sectors ≡ 8 + (sectors - 8 * 1) = omega (arith, some) in
    let parts : bytes_from image 0 sectors ≡ bytes_from image 0 8 ++ bytes_from image (8 * 1) (sectors - 8 * 1) = ap (λ (n : ℕ). bytes_from image 0 n) count ∙ joined image 8 (sectors - 8 * 1) 0 in
    let all : head number ++ bytes_from image (8 * 1) (sectors - 8 * 1) ≡ head dump.number ++ is.is.later = ap (λ (l : List ℕ). l ++ bytes_from image (8 * 1) (sectors - 8 * 1)) (sym there) ∙ sym parts ∙ is.is.is in
    let later : bytes_from image (8 * 1) (sectors - 8 * 1) ≡ is.is.later = back_same (head number) (bytes_from image (8 * 1) (sectors - 8 * 1)) (head dump.number) is.is.later all (ap length same) in
    record {
      whole = record {
        pages = is.whole.pages;
        sized = omega (arith, some, ap length parts, length-append (bytes_from image 0 8) (bytes_from image (8 * 1) (sectors - 8 * 1)), ap length there, head_long number, dump_long sectors image dump is);
      };
      follows = subst (λ (l : List ℕ). Follows (head number) 0 dump.lists l) (sym later) (subst (λ (h : List ℕ). Follows h 0 dump.lists is.is.later) (sym same) is.is.follows);
    }

-- the same sectors are the same dump
pub dump_stays : (sectors : ℕ) (image other : Image) (dump : TheDump) → ((s : ℕ) → s < sectors → other s ≡ image s) → IsDumpOn sectors image dump → IsDumpOn sectors other dump
dump_stays sectors image other dump same is =
    let all : bytes_from image 0 sectors ≡ bytes_from other 0 sectors = sym (same_bytes other image sectors 0 (λ k lt. same (0 + k) (omega (arith, lt)))) in
    let rest : bytes_from image (8 * 0) (sectors - 8 * 0) ≡ bytes_from other (8 * 0) (sectors - 8 * 0) =
    sym (same_bytes other image (sectors - 8 * 0) (8 * 0) (λ k lt. same (8 * 0 + k) (omega (arith, lt)))) in
    record {
      whole = record { pages = is.whole.pages; sized = ap length (sym rest) ∙ is.whole.sized };
      is = subst (λ (l : List ℕ). IsDump l dump) all is.is;
    }
