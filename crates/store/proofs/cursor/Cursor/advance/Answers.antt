use Rattle.std.proofs.Common.{◌≡◌, sym, ◌∙◌, ap, true, false, Some, List, ℕ, ◌++◌, ◌∷◌, []}
use Rattle.store.specs.Records.{first_from}
use Rattle.store.specs.Walks.{Walk, is_within, left, span}
use Rattle.store.proofs.Walking.{answered, entry_if, span_ends, span_goes_on}
use Rattle.store.proofs.cursor.Cursor.advance.Goals as goal

-- the record that is found is not within the stop, so none is left
pub returns-then-not-is_within-clause-advances : goal.returns-then-not-is_within-clause-advances
returns-then-not-is_within-clause-advances g c =
    let reads = c.in_ok-scan_from.ensures.reads in
    let records = (g.M.Map.state c.args.map.now).map in
    record {
      only_reads = reads.only_reads;
      moved = λ s.
          let f : first_from c.self.inside.next.items records ≡ Some c.scan_from.new.out = ap (λ (k : List ℕ). first_from k records) (sym c.as_slice.ensures.value) ∙ entry_if _ _ _ c.if-not-branch.false (reads.found s) in
          let n : is_within c.self.inside.stop.items c.scan_from.new.out.0 ≡ false = ap (λ (k : List ℕ). is_within c.self.inside.stop.items k) (sym c.key.ensures) ∙ ap (λ (k : List ℕ). is_within k c.key.result.now) (sym c.as_slice-2.ensures.value) ∙ sym c.is_within.ensures ∙ c.if-not-is_within.true in
          ap (λ (w : Walk). left w records) (sym c.self.view_is) ∙ span_ends c.self.inside.stop.items c.self.inside.next.items records c.scan_from.new.out (g.met.M.Map.ordered c.args.map.now s) f n;
      cause = tt;
      failed = reads.failed;
      closed = λ closes had_failed. absurd (answered (reads.closed closes had_failed));
    }

-- it is within the stop, and the walk goes on after it
pub returns-clause-advances : goal.returns-clause-advances
returns-clause-advances g c =
    let reads = c.in_ok-scan_from.ensures.reads in
    let records = (g.M.Map.state c.args.map.now).map in
    record {
      only_reads = reads.only_reads;
      moved = λ s.
          let f : first_from c.self.inside.next.items records ≡ Some c.scan_from.new.out = ap (λ (k : List ℕ). first_from k records) (sym c.as_slice.ensures.value) ∙ entry_if _ _ _ c.if-not-branch.false (reads.found s) in
          let n : is_within c.self.inside.stop.items c.scan_from.new.out.0 ≡ true = ap (λ (k : List ℕ). is_within c.self.inside.stop.items k) (sym c.key.ensures) ∙ ap (λ (k : List ℕ). is_within k c.key.result.now) (sym c.as_slice-2.ensures.value) ∙ sym c.is_within.ensures ∙ c.if-not-is_within.false in
          let b : c.set_after.new.next.items ≡ c.scan_from.new.out.0 ++ 0 ∷ [] = c.in_ok-set_after.ensures ∙ ap (λ (k : List ℕ). k ++ 0 ∷ []) c.key-2.ensures in (
            ap (λ (w : Walk). left w records) (sym c.self.view_is)
                ∙ span_goes_on c.self.inside.stop.items c.self.inside.next.items records c.scan_from.new.out (g.met.M.Map.ordered c.args.map.now s) f n
                ∙ ap (λ (k : List ℕ). c.scan_from.new.out ∷ span k c.self.inside.stop.items records) (sym b),
            ap (λ (w : Walk). w.stop) c.self.view_is,
          );
      cause = tt;
      failed = reads.failed;
      closed = λ closes had_failed. absurd (answered (reads.closed closes had_failed));
    }
