use Rattle.std.proofs.Common.{◌*◌, inl, inr, arith}
use Rattle.std.proofs.lemmas.Bool.{cases_lt}
use Rattle.cow_pages.proofs.page_map.PageMap.maps_needed.Goals as goal

pub loop-index-preserved : goal.loop-index-preserved
loop-index-preserved c =
    let so_far = c.loop-index.invariant in
    let index = c.loop-index.index in
    elim c.if-is_used.branch [
      | goal.then-is_used w ↦
          let used = c.is_used.ensures.used w.if-is_used.true in
          rw w.count-is (record {
            least = omega (arith, so_far.least, so_far.most);
            most = omega arith;
            needed = λ j lt. inr (used.0, omega (arith, lt, used.1), used.2);
            beyond = λ k past lt. absurd (omega (arith, past, lt));
          })
      | goal.else-is_used w ↦ rw w.count-is (record {
        least = so_far.least;
        most = omega (arith, so_far.most);
        needed = so_far.needed;
        beyond = λ k past lt. elim (cases_lt k (1024 * index)) [
          | inl below ↦ so_far.beyond k past below
          | inr after ↦ c.is_used.ensures.unused w.if-is_used.false k after (omega (arith, lt))
        ];
      })
    ]
