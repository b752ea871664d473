-- The batches of records that were read.
use Rattle.std.proofs.Common.{◌≡◌, ◌<◌, ◌≤◌, ◌+◌, ◌-◌, ◌/◌, ◌%◌, ◌++◌, ◌∷◌, ℕ, zero, suc, List, [], take, length, get_or, sym, ap, subst, ◌∙◌, arith}
use Rattle.std.proofs.lemmas.List.{take_more}
use Rattle.std.specs.Prelude.{Result, Ok, Err, IsErrAnd}
use Rattle.journal.specs.Chain.{Region, Entry, Chains, end_of}
use Rattle.journal.specs.Changes.{Spells}
use Rattle.journal.specs.Records.{entry_of, parts_of}
use Rattle.journal.specs.Reading.{entries_of, AreWhole}
use Rattle.journal.specs.declared.journal.JournalRecord.{JournalRecord}
use Rattle.store.specs.declared.fault.Fault.{Fault}
use Rattle.store.specs.declared.fault.Fault.TheVariants.{Damaged}
use Rattle.journal.proofs.Opening.{entries_more}
use Rattle.store.specs.Records.{Records, Changes, IsOrdered, applied}
use Rattle.transactions.specs.Views.{applied_all}
use Rattle.journal_store.specs.Meaning.{SpellBatches, joined_parts}
use Rattle.journal_store.specs.Opening.{AreOf}
use Rattle.journal_store.proofs.Meanings.{spell_more, applied_more, joined_is}

-- no record at all
pub none_of : (waiting : List Changes) → waiting ≡ [] → AreOf [] waiting
none_of waiting is = record { batches = []; spelled = tt; waits = λ es in_order. ap (λ (w : List Changes). applied_all w es) is }

-- what bytes spell, their parts joined spell
spells_joined : (bytes : List ℕ) (b : Changes) → Spells bytes b → Spells (joined_parts (parts_of (length bytes / 488) bytes)) b
spells_joined bytes b spells = subst (λ (xs : List ℕ). Spells xs b) (sym (joined_is bytes spells.whole)) spells

-- and no others, where the bytes are whole parts
joined_spells : (bytes : List ℕ) (b : Changes) → length bytes % 488 ≡ 0 → Spells (joined_parts (parts_of (length bytes / 488) bytes)) b → Spells bytes b
joined_spells bytes b whole spells = subst (λ (xs : List ℕ). Spells xs b) (joined_is bytes whole) spells

-- the record at an index
module _ (records : List JournalRecord) (i : ℕ) (r : JournalRecord) (inside : i < length records) (is : r ≡ get_or records i r) where
  pub one_more : (waiting later : List Changes) (b : Changes) → AreOf (take i records) waiting → Spells r.bytes.items b
      → ((es : Records) → IsOrdered es → applied_all later es ≡ applied b (applied_all waiting es)) → AreOf (take (i + 1) records) later
  one_more waiting later b so_far spells step =
      let next : take (i + 1) records ≡ take i records ++ (r ∷ []) = take_more records i r inside ∙ ap (λ (q : JournalRecord). take i records ++ (q ∷ [])) (sym is) in
      let one : Entry = entry_of r.number r.bytes.items in
      let all : entries_of (take (i + 1) records) ≡ entries_of (take i records) ++ (one ∷ []) = ap (λ (rs : List JournalRecord). entries_of rs) next ∙ entries_more (take i records) r in
      record {
        batches = so_far.batches ++ b ∷ [];
        spelled = subst (λ (es : List Entry). SpellBatches es (so_far.batches ++ b ∷ [])) (sym all)
            (spell_more (entries_of (take i records)) so_far.batches one b so_far.spelled (spells_joined r.bytes.items b spells));
        waits = λ es in_order. step es in_order ∙ (ap (λ (rs : Records). applied b rs) (so_far.waits es in_order) ∙ sym (applied_more so_far.batches b es));
      }

-- it spells a batch where all do
pub spelled_at : (records : List JournalRecord) (i : ℕ) (r : JournalRecord) → i < length records → r ≡ get_or records i r → AreWhole records → (bs : List Changes) → SpellBatches (entries_of records) bs
    → (b : Changes) × Spells r.bytes.items b
spelled_at [] i r inside is whole bs spelled = absurd (omega (arith, inside))
spelled_at (q ∷ records) i r inside is whole [] spelled = absurd spelled
spelled_at (q ∷ records) zero r inside is whole (b ∷ bs) spelled =
    (b, subst (λ (x : JournalRecord). Spells x.bytes.items b) (sym is) (joined_spells q.bytes.items b whole.0 spelled.0))
spelled_at (q ∷ records) (suc i) r inside is whole (b ∷ bs) spelled = spelled_at records i r (omega (arith, inside)) is whole.1 bs spelled.1

-- ---- the records of sectors

-- records lie in the sectors that there are
chain_ends : (region : Region) (root last p room : ℕ) (es : List Entry) → Chains region root last p room es → end_of p es ≤ p + room
chain_ends region root last p room [] chain = omega arith
chain_ends region root last p room (e ∷ es) chain =
    omega (arith, chain_ends region root e.number (p + length e.parts) (room - length e.parts) es chain.1, chain.0.fits)

pub ends_inside : (region : Region) (root room finish : ℕ) (es : List Entry) → Chains region root 0 0 room es → end_of 0 es ≡ finish → finish ≤ room
ends_inside region root room finish es chain at = omega (arith, chain_ends region root 0 0 room es chain, at)

-- a fault that is passed on is the same
abbrev answer : (T : Type 0) → Fault → Result T Fault
answer T fault = Err fault

pub passed_on : {T : Type 0} (r : Result T Fault) (fault : Fault) → IsErrAnd r (λ e. e ≡ fault) → r ≡ Err Damaged → fault ≡ Damaged
passed_on (Ok x) fault is same = absurd is
passed_on {T} (Err e) fault is same = again is same
  where
    again : {a b : Fault} → a ≡ b → answer T a ≡ answer T Damaged → b ≡ Damaged
    again p q = cc
