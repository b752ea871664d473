use Rattle.std.proofs.Common.{◌∙◌, sym, refl, inl, inr, arith}
use Rattle.std.proofs.lemmas.Bool.{cases_lt}
use Rattle.cow_pages.proofs.Changing.{next_was}
use Rattle.cow_pages.proofs.MapSteps.{maps_joined}
use Rattle.cow_pages.proofs.page_map.PageMap.prepare.Goals as goal

pub returns-in-Err-clause-outcome : goal.returns-in-Err-clause-outcome
returns-in-Err-clause-outcome c =
    let left = c.in-Err.ensures.some_left in
    let reserved = c.reserve_maps.new.self.reserved in
    record {
      reserved = reserved;
      used_up = c.in-Err.ensures.full;
      needed = λ j some. elim (cases_lt j c.maps_needed-count.result) [
        | inl lt ↦ c.maps_needed-count.ensures.needed j lt
        | inr past ↦ absurd (omega (arith, some, c.reserve_maps.ensures.beyond j past))
      ];
      changed = c.reserve_maps.ensures.only;
      index = left.0;
      none = left.2;
      index_needed = c.maps_needed-count.ensures.needed left.0 left.1;
      index_changed = left.3;
    }

pub returns-then-page-eq0-clause-preserved : goal.returns-then-page-eq0-clause-preserved
returns-then-page-eq0-clause-preserved c = record { root = refl; durable = refl; working = refl }

pub returns-then-page-eq0-clause-outcome : goal.returns-then-page-eq0-clause-outcome
returns-then-page-eq0-clause-outcome c = sym c.page.ensures.page ∙ c.if-page-eq0.true

pub returns-then-page-eq0-clause-format : goal.returns-then-page-eq0-clause-format
returns-then-page-eq0-clause-format c = tt

pub returns-then-page-eq0-clause-idle : goal.returns-then-page-eq0-clause-idle
returns-then-page-eq0-clause-idle c = c.requires.idle

pub returns-in-Ok-clause-preserved : goal.returns-in-Ok-clause-preserved
returns-in-Ok-clause-preserved c = c.reserve_maps.ensures.preserved

pub returns-in-Ok-clause-outcome : goal.returns-in-Ok-clause-outcome
returns-in-Ok-clause-outcome c = next_was _ _ c.reserve_maps.ensures.preserved _ c.next_root.ensures.next

pub returns-in-Ok-clause-format : goal.returns-in-Ok-clause-format
returns-in-Ok-clause-format c = c.next_root.ensures.format

pub returns-in-Ok-clause-idle : goal.returns-in-Ok-clause-idle
returns-in-Ok-clause-idle c = tt

pub returns-in-Err-clause-preserved : goal.returns-in-Err-clause-preserved
returns-in-Err-clause-preserved c = maps_joined _ _ _ c.reserve_maps.ensures.preserved c.unreserve.ensures.preserved

pub returns-in-Err-clause-format : goal.returns-in-Err-clause-format
returns-in-Err-clause-format c = tt

pub returns-in-Err-clause-idle : goal.returns-in-Err-clause-idle
returns-in-Err-clause-idle c = c.unreserve.ensures.idle
