use Rattle.std.proofs.Common.{◌≡◌, ◌∙◌, List, ℕ, Option, Some, true, false, refl, sym, ap}
use Rattle.store.specs.Records.{Record, Records}
use Rattle.store.specs.declared.pieces.Pieces.{Pieces}
use Rattle.store.specs.declared.pieces.Place.{Place}
use Rattle.store.specs.Held.{records_of}
use Rattle.store.specs.Places.{ahead_in, IsFoundAt}
use Rattle.store.specs.Walks.{is_within}
use Rattle.store.proofs.InMemory.{read_nothing, none_failed}
use Rattle.store.proofs.Spans.{none_ahead, one_ahead}
use Rattle.store.proofs.memory.MemStoreMap.step_within.Goals as goal

-- one entry at most is found at a place
same_found : (entries : Pieces) (place : Place) (a b : Record) → IsFoundAt entries place a → IsFoundAt entries place b → a ≡ b
same_found entries place a b one other =
    let same : Some (a.0, Some a.1) ≡ Some (b.0, Some b.1) = sym one.1 ∙ other.1 in
    let change : (a.0, Some a.1) ≡ (b.0, Some b.1) = cc in
    let key : a.0 ≡ b.0 = ap (λ (c : List ℕ × Option (List ℕ)). c.0) change in
    let put : Some a.1 ≡ Some b.1 = ap (λ (c : List ℕ × Option (List ℕ)). c.1) change in
    let value : a.1 ≡ b.1 = cc in
    ap (λ (k : List ℕ). (k, a.1)) key ∙ ap (λ (v : List ℕ). (b.0, v)) value

-- the record that is ahead, if its key is within the stop
pub returns-in-Some-clause-goes : goal.returns-in-Some-clause-goes
returns-in-Some-clause-goes c =
    let entries = c.args.self.now.entries in
    let next = c.in-Some.next in
    let entry = c.in-Some.entry in
    let ahead = c.in-Some.ensures.0 in
    let there = c.in-Some.ensures.1 in
    let later = λ (all : Records). ahead_in entries next ≡ all in
    let key = λ (e : Record) (found : IsFoundAt entries next e). c.is_within.ensures ∙ ap (λ (lent : Record). is_within c.args.stop.now lent.0) (c.entry.view_is ∙ same_found entries next entry e there found) in
    record {
      only_reads = read_nothing c.args.self.now.record_format (records_of entries);
      answer = λ sound records left. one_ahead c.args.stop.now (IsFoundAt entries next) (λ (all : Records). ahead_in entries c.args.place.now ≡ all) later true c.is_within.result records refl left (λ all is. (entry, ahead_in entries next, sym is ∙ ahead, there, refl)) key;
      cause = tt;
      failed = refl;
      closed = λ closes failed. none_failed failed;
    }

-- none is ahead
pub returns-in-None-clause-goes : goal.returns-in-None-clause-goes
returns-in-None-clause-goes c =
    let entries = c.args.self.now.entries in
    record {
      only_reads = read_nothing c.args.self.now.record_format (records_of entries);
      answer = λ sound records left. none_ahead c.args.stop.now (IsFoundAt entries c.args.place.now) (λ (all : Records). ahead_in entries c.args.place.now ≡ all) (λ (all : Records). ahead_in entries c.args.place.now ≡ all) false records refl left (λ all is. sym is ∙ c.in-None.ensures);
      cause = tt;
      failed = refl;
      closed = λ closes failed. none_failed failed;
    }
