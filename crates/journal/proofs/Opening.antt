-- The journal that sectors hold, and the one that a device holds where they were read.
use Rattle.std.proofs.Common.{◌≡◌, ◌⊎◌, ⊎_elim, inl, inr, max, ◌↔◌, ◌<◌, ◌≤◌, ◌+◌, ◌-◌, ◌*◌, ◌/◌, ◌%◌, ◌++◌, ◌∷◌, [], ℕ, List, length, map, take, drop, get_or, ◌∙◌, arith, refl, ap, sym, subst, append_assoc}
use Rattle.std.proofs.Math.Seq.{take-append_seam}
use Rattle.std.proofs.lemmas.Bool.{cases_lt}
use Rattle.std.proofs.lemmas.List.{map-append, get_or-set_same, get_or-set_other}
use Rattle.sector_device.specs.Device.{DeviceState, Image, IsSynced}
use Rattle.sector_device.specs.Page.{ReadsPage}
use Rattle.journal.specs.Chain.{Part, Sector, Blank, Holds, Region, Entry, IsWhole, Chains, end_of}
use Rattle.std.specs.Prelude.{Bool, IsTrue, Result, Ok, Err, IfOk}
use Rattle.std.proofs.Math.ListN.{set}
use Rattle.journal.specs.Journal.{IsInRange, MayStand, IsSound, IsJournal, NumbersUpTo, IsGreatest}
use Rattle.journal.proofs.Chaining.{one_chain, end_with}
use Rattle.journal.specs.Sectors.{part_with, sector_at}
use Rattle.journal.specs.Records.{parts_of, entry_of}
use Rattle.journal.specs.declared.sector.SectorTag.{SectorTag}
use Rattle.journal.specs.declared.journal.Journal.{Journal}
use Rattle.journal.specs.declared.journal.JournalRecord.{JournalRecord}
use Rattle.journal.specs.Journals.{region_in, HoldsJournal}
use Rattle.journal.specs.Reading.{region_of, parts_at, entry_in, entries_of, AreWhole, IsNumberIn, IsRecordAt, IsReadAs}
use Rattle.journal.proofs.Appending.{inside_is, outside_is, same_sector}
use Rattle.journal.proofs.Whole.{inside_of, outside_of, parts_long}

-- ---- the chain

append_none : {A : Type 0} (xs : List A) → xs ++ [] ≡ xs
append_none [] = refl
append_none {A} (x ∷ xs) = ap (λ (ys : List A). x ∷ ys) (append_none xs)

-- The records so far: where a chain goes on behind them, it is the chain of all.
pub record ReadsChain (root last room end : ℕ) (region : Region) (es : List Entry) : Type 0 where
  pub inside : end ≤ room
  pub chains : (later : List Entry) → Chains region root last end (room - end) later → Chains region root 0 0 room (es ++ later)
  pub at : end_of 0 es ≡ end

pub reads_none : (root room : ℕ) (region : Region) → ReadsChain root 0 room 0 region []
reads_none root room region = record {
  inside = omega arith;
  chains = λ later chain. let whole : room - 0 ≡ room = omega arith in subst (λ (n : ℕ). Chains region root 0 0 n later) whole chain;
  at = refl;
}

pub reads_more : (root last room : ℕ) (sectors : List (List ℕ)) (end : ℕ) (tag : SectorTag) (es : List Entry) → length sectors ≡ room
    → ReadsChain root last room end (region_of room sectors) es → IsRecordAt root last room sectors end tag
    → ReadsChain root tag.number room (end + tag.count) (region_of room sectors) (es ++ entry_in tag.number tag.count end sectors ∷ [])
reads_more root last room sectors end tag es long so_far here =
    let e : Entry = entry_in tag.number tag.count end sectors in
    let count : length e.parts ≡ tag.count = parts_long root last room sectors end long tag.count here.fits in
    record {
      inside = omega (arith, so_far.inside, here.fits);
      chains = λ later chain.
          let left : room - (end + tag.count) ≡ room - end - length e.parts = omega (arith, count, here.fits, so_far.inside) in
          let place : end + tag.count ≡ end + length e.parts = omega (arith, count) in
          let next : Chains (region_of room sectors) root tag.number (end + length e.parts) (room - end - length e.parts) later
          = subst (λ (n : ℕ). Chains (region_of room sectors) root tag.number (end + length e.parts) n later) left
          (subst (λ (p : ℕ). Chains (region_of room sectors) root tag.number p (room - (end + tag.count)) later) place chain) in
          subst (λ (all : List Entry). Chains (region_of room sectors) root 0 0 room all) (sym (append_assoc es (e ∷ []) later)) (so_far.chains (e ∷ later) (here.whole, next));
      at = end_with 0 es e ∙ omega (arith, so_far.at, count);
    }

-- the chain ends where no record begins
pub chain_read : (root last room end : ℕ) (region : Region) (es : List Entry) → ReadsChain root last room end region es
    → ((e : Entry) → IsWhole region root last end (room - end) e → ⊥) → Chains region root 0 0 room es
chain_read root last room end region es so_far none =
    subst (λ (all : List Entry). Chains region root 0 0 room all) (append_none es) (so_far.chains [] none)

-- ---- one record more

-- the record with these bytes is the one in the sectors
pub entry_read : (number count place : ℕ) (bytes : List ℕ) (sectors run : List (List ℕ)) → run ≡ take count (drop place sectors) → length run ≡ count
    → parts_of (length run) bytes ≡ map (λ (sector : List ℕ). drop 24 sector) run → length bytes ≡ 488 * length run
    → entry_of number bytes ≡ entry_in number count place sectors
entry_read number count place bytes sectors run is long parts whole =
    let enough : length bytes / 488 ≡ length run = omega (arith, whole) in
    let same : parts_of (length bytes / 488) bytes ≡ parts_at count place sectors
    = ap (λ (n : ℕ). parts_of n bytes) enough ∙ parts ∙ ap (λ (r : List (List ℕ)). map (λ (sector : List ℕ). drop 24 sector) r) is in
    rw same refl

pub entries_more : (records : List JournalRecord) (one : JournalRecord) → entries_of (records ++ one ∷ []) ≡ entries_of records ++ entry_of one.number one.bytes.items ∷ []
entries_more records one = map-append (λ (r : JournalRecord). entry_of r.number r.bytes.items) records (one ∷ [])

-- one record more of whole parts
pub whole_more : (records : List JournalRecord) (one : JournalRecord) → AreWhole records → length one.bytes.items % 488 ≡ 0 → AreWhole (records ++ one ∷ [])
whole_more [] one all long = (long, tt)
whole_more (r ∷ records) one all long = (all.0, whole_more records one all.1 long)

-- ---- faults, and the greatest number

-- no sector has a fault, those past the last included
pub all_sound : (root room finish : ℕ) (sectors : List (List ℕ)) → length sectors ≡ room → ((q : ℕ) → q < length sectors → IsSound root room finish q (sector_at room (get_or sectors q [])))
    → (q : ℕ) → IsSound root room finish q (region_of room sectors q)
all_sound root room finish sectors long each q = elim (cases_lt q room) [
  | inl lt ↦ subst (λ (s : Sector). IsSound root room finish q s) (sym (inside_of room sectors q lt)) (each q (omega (arith, lt, long)))
  | inr past ↦ subst (λ (s : Sector). IsSound root room finish q s) (sym (outside_of room sectors q past)) tt
]

-- a journal of these sectors has no fault, with the end that was read
pub sound_where : (root room finish : ℕ) (sectors : List (List ℕ)) (es other : List Entry) → length sectors ≡ room → Chains (region_of room sectors) root 0 0 room es → end_of 0 es ≡ finish
    → IsJournal (region_of room sectors) root room other → (q : ℕ) → q < length sectors → IsSound root room finish q (sector_at room (get_or sectors q []))
sound_where root room finish sectors es other long chain end journal q lt =
    let same : other ≡ es = one_chain (region_of room sectors) root 0 0 room other es journal.chain chain in
    let at : end_of 0 other ≡ finish = ap (λ (xs : List Entry). end_of 0 xs) same ∙ end in
    subst (λ (s : Sector). IsSound root room finish q s) (inside_of room sectors q (omega (arith, lt, long)))
    (subst (λ (n : ℕ). IsSound root room n q (region_of room sectors q)) at (journal.sound q))

-- a part has no fault where its tag may stand there
pub sound_part : (root room finish q : ℕ) (bytes : List ℕ) (tag : SectorTag) (r : Bool) → Holds (part_with tag (drop 24 bytes)) ≡ sector_at room bytes → IsInRange room (part_with tag (drop 24 bytes))
    → (IsTrue r ↔ ((tag.root ≤ root) × (finish < q → tag.root ≡ root → 1 ≤ tag.index)))
    → (IsTrue r → IsSound root room finish q (sector_at room bytes)) × (IsSound root room finish q (sector_at room bytes) → IsTrue r)
sound_part root room finish q bytes tag r same range may = (
  λ true. subst (λ (s : Sector). IsSound root room finish q s) same (record { in_range = range; no_later_root = (may.0 true).0; none_begins = (may.0 true).1 }),
  λ sound.
      let here : MayStand root room finish q (part_with tag (drop 24 bytes)) = subst (λ (s : Sector). IsSound root room finish q s) (sym same) sound in
      may.1 (here.no_later_root, here.none_begins),
)

-- the greatest number of the sectors before a place
pub record IsGreatestBefore (top place room : ℕ) (sectors : List (List ℕ)) : Type 0 where
  pub up_to : (q : ℕ) (part : Part) → q < place → sector_at room (get_or sectors q []) ≡ Holds part → part.number ≤ top
  pub reached : (top ≡ 0) ⊎ ((q : ℕ) × (part : Part) × (region_of room sectors q ≡ Holds part) × (part.number ≡ top))

pub greatest_none : (room : ℕ) (sectors : List (List ℕ)) → IsGreatestBefore 0 0 room sectors
greatest_none room sectors = record { up_to = λ q part lt is. absurd (omega (arith, lt)); reached = inl refl }

-- one sector more
pub greatest_more : (top number next place room : ℕ) (sectors : List (List ℕ)) → place < room → IsGreatestBefore top place room sectors → IsNumberIn number (sector_at room (get_or sectors place []))
    → next ≡ max top number → IsGreatestBefore next (place + 1) room sectors
greatest_more top number next place room sectors inside so_far here is = record {
  up_to = λ q part lt held. elim (cases_lt q place) [
    | inl before ↦ omega (arith, so_far.up_to q part before held, is)
    | inr at ↦
        let same : q ≡ place = omega (arith, at, lt) in
        omega (arith, here.up_to part (ap (λ (s : ℕ). sector_at room (get_or sectors s [])) (sym same) ∙ held), is)
  ];
  reached = elim (cases_lt top number) [
    | inl above ↦ ⊎_elim
        (λ none. absurd (omega (arith, none, above)))
        (λ found. inr (place, found.0, inside_of room sectors place inside ∙ found.1, omega (arith, found.2, is, above)))
        here.reached
    | inr low ↦ ⊎_elim
        (λ none. inl (omega (arith, none, is, low)))
        (λ found. inr (found.0, found.1, found.2, omega (arith, found.3, is, low)))
        so_far.reached
  ];
}

pub greatest_all : (top place room : ℕ) (sectors : List (List ℕ)) → room ≤ place → IsGreatestBefore top place room sectors → IsGreatest top (region_of room sectors)
greatest_all top place room sectors past all = record {
  up_to = λ q part is. elim (cases_lt q room) [
    | inl lt ↦ all.up_to q part (omega (arith, lt, past)) (sym (inside_of room sectors q lt) ∙ is)
    | inr outside ↦ absurd (nothing (sym (outside_of room sectors q outside) ∙ is))
  ];
  reached = all.reached;
}
  where
    nothing : {part : Part} → Blank ≡ Holds part → ⊥
    nothing is = cc

-- ---- the device

-- one sector more is read
pub put_next : (sectors : List (List ℕ)) (i : ℕ) (new : List ℕ) (image : Image) → i < length sectors → ((q : ℕ) → q < i → get_or sectors q [] ≡ image q) → new ≡ image i
    → (q : ℕ) → q < i + 1 → get_or (set sectors i new) q [] ≡ image q
put_next sectors i new image inside so_far is q lt = elim (cases_lt q i) [
  | inl before ↦ get_or-set_other sectors i q new [] (λ e. absurd (omega (arith, before, e))) ∙ so_far q before
  | inr at ↦
      let same : q ≡ i = omega (arith, at, lt) in
      ap (λ (k : ℕ). get_or (set sectors i new) k []) same ∙ get_or-set_same sectors i new [] inside ∙ is ∙ ap (λ (k : ℕ). image k) (sym same)
]

-- a list of so many elements is all that is taken of it and what lies behind it
pub taken_whole : {A : Type 0} (n : ℕ) (xs ys : List A) → length xs ≡ n → take n (xs ++ ys) ≡ xs
taken_whole n xs ys long = ap (λ (k : ℕ). take k (xs ++ ys)) (sym long) ∙ take-append_seam xs ys

-- what sectors that were read say is what the image says
pub region_same : (start room : ℕ) (image : Image) (sectors : List (List ℕ)) → ((q : ℕ) → q < room → get_or sectors q [] ≡ image (start + q)) → region_of room sectors ≡ region_in start room image
region_same start room image sectors read = λ i q. each q i
  where
    each : (q : ℕ) → region_of room sectors q ≡ region_in start room image q
    each q = elim (cases_lt q room) [
      | inl lt ↦ inside_of room sectors q lt ∙ ap (λ (bytes : List ℕ). sector_at room bytes) (read q lt) ∙ sym (inside_is start room image q lt)
      | inr past ↦ outside_of room sectors q past ∙ sym (outside_is start room image q past)
    ]

-- images that agree in the journal's sectors say the same
pub region_still : (start room : ℕ) (image other : Image) → ((q : ℕ) → q < room → image (start + q) ≡ other (start + q)) → region_in start room image ≡ region_in start room other
region_still start room image other same = λ i q. each q i
  where
    each : (q : ℕ) → region_in start room image q ≡ region_in start room other q
    each q = elim (cases_lt q room) [
      | inl lt ↦ same_sector start room image other q lt (same q lt)
      | inr past ↦ outside_is start room image q past ∙ sym (outside_is start room other q past)
    ]

-- a device that was synced and then read holds the journal that was read
pub holds_read : (start room root : ℕ) (journal : Journal) (old new : DeviceState) → start + room ≤ old.sectors → new.sectors ≡ old.sectors → ReadsPage old new → IsSynced old
    → IsReadAs journal root room (region_in start room old.content) → HoldsJournal start room root journal.top (entries_of journal.records.items) new
holds_read start room root journal old new inside same reads synced read =
    let still : region_in start room old.content ≡ region_in start room new.content = region_still start room old.content new.content (λ q lt. sym (reads.content (start + q))) in
    record {
      inside = omega (arith, inside, same);
      fixed = λ q lt c left. synced (start + q) (omega (arith, lt, inside)) c (reads.left (start + q) c left) ∙ sym (reads.content (start + q));
      journal = subst (λ (region : Region). IsJournal region root room (entries_of journal.records.items)) still read.is;
      few = subst (λ (region : Region). NumbersUpTo journal.top region) still read.top.up_to;
    }

-- what holds of a success holds with less
pub if_ok : {T E : Type 0} (r : Result T E) (P Q : T → Type 0) → ((x : T) → P x → Q x) → IfOk r P → IfOk r Q
if_ok (Ok x) P Q less holds = less x holds
if_ok (Err e) P Q less holds = holds
