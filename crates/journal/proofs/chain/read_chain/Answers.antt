use Rattle.std.proofs.Common.{◌≡◌, ◌+◌, ◌-◌, ◌%◌, ◌++◌, ◌∷◌, ◌∙◌, [], ℕ, List, length, take, drop, sym, ap, subst, arith}
use Rattle.std.proofs.lemmas.List.{length-take-le, length-drop}
use Rattle.journal.specs.Chain.{Entry}
use Rattle.journal.specs.declared.journal.JournalRecord.{JournalRecord}
use Rattle.journal.specs.Reading.{region_of, entries_of, AreWhole}
use Rattle.journal.proofs.Opening.{ReadsChain, reads_more, chain_read, entry_read, entries_more, whole_more}
use Rattle.journal.proofs.chain.read_chain.Goals as goal

pub loop-tag-preserved : goal.loop-tag-preserved
loop-tag-preserved c =
    let end : ℕ = c.loop-tag.end in
    let tag = c.in-Some.tag in
    let sectors : List (List ℕ) = c.args.sectors.now in
    let found = c.in-Some.ensures.found in
    let width : end + tag.count - end ≡ tag.count = omega arith in
    let room_left : tag.count ≡ length (take tag.count (drop end sectors))
    = sym (length-take-le tag.count (drop end sectors) (omega (arith, found.fits, c.requires, length-drop end sectors))) in
    let run : take (end + tag.count - end) (drop end sectors) ≡ take tag.count (drop end sectors) = ap (λ (n : ℕ). take n (drop end sectors)) width in
    let one : JournalRecord = record { number = tag.number; bytes = c.in_ok-bytes.bytes } in
    let read = entry_read tag.number tag.count end c.in_ok-bytes.bytes.items sectors (take (end + tag.count - end) (drop end sectors)) run
    (ap (λ (r : List (List ℕ)). length r) run ∙ sym room_left) c.in_ok-bytes.ensures.parts c.in_ok-bytes.ensures.long in
    let all = ap (λ (rs : List JournalRecord). entries_of rs) c.in_ok-push.ensures.items ∙ entries_more c.loop-tag.records.items one
    ∙ ap (λ (e : Entry). entries_of c.loop-tag.records.items ++ e ∷ []) read in
    let long : length c.in_ok-bytes.bytes.items % 488 ≡ 0 = omega (arith, c.in_ok-bytes.ensures.long) in
    record {
      chain = subst (λ (es : List Entry). ReadsChain c.args.root tag.number c.args.room (end + tag.count) (region_of c.args.room sectors) es) (sym all)
          (reads_more c.args.root c.loop-tag.last c.args.room sectors end tag (entries_of c.loop-tag.records.items) c.requires c.loop-tag.invariant.chain found);
      whole = subst (λ (rs : List JournalRecord). AreWhole rs) (sym c.in_ok-push.ensures.items) (whole_more c.loop-tag.records.items one c.loop-tag.invariant.whole long);
    }

pub returns-clause-chain : goal.returns-clause-chain
returns-clause-chain c =
    chain_read c.args.root c.loop-tag.last c.args.room c.loop-tag.end (region_of c.args.room c.args.sectors.now) (entries_of c.loop-tag.records.items) c.loop-tag.invariant.chain c.in_default.ensures.none
