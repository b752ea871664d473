use Rattle.std.proofs.Common.{◌≡◌, ◌*◌, ℕ, List, inl, inr, ⊎_elim, refl, sym, ap, subst, ◌∙◌, arith}
use Rattle.std.specs.Vec.{with_items}
use Rattle.std.proofs.lemmas.List.{with_items_is}
use Rattle.sector_device.specs.RawFile.{put}
use Rattle.sector_device.specs.FilePage.{HasPartsOf}
use Rattle.sector_device.proofs.PutBytes.{put_has_parts, same_has_parts}
use Rattle.sector_device.proofs.memory_file.MemFileRawFile.write_page_at.Goals as goal

pub returns-clause-writes : goal.returns-clause-writes
returns-clause-writes c first place =
    let old = c.args.self.now.bytes.items in
    let page = c.args.bytes.now in
    let file = with_items c.args.self.now.bytes c.put_bytes.new.bytes in
    let put_there : file.items ≡ put (512 * first) page old
    = with_items_is c.args.self.now.bytes c.put_bytes.new.bytes (omega (arith, c.put_bytes.auto.bytes, c.deref_mut.ensures.len)) ∙ c.put_bytes.ensures ∙ ap (λ (i : ℕ). put i page c.deref_mut.result.now) (c.in_ok-start.ensures.start ∙ place.aligned)
    ∙ ap (λ (xs : List ℕ). put (512 * first) page xs) c.deref_mut.ensures.value in
    let parts : HasPartsOf first page old file.items
    = subst (λ (xs : List ℕ). HasPartsOf first page old xs) (sym put_there) (put_has_parts first page old c.told-bytes (omega (arith, place.aligned, place.inside))) in
    record {
      bytes = parts;
      left = λ x left. ⊎_elim
          (λ now. (old, inl refl, subst (λ (xs : List ℕ). HasPartsOf first page old xs) (sym now) parts))
          (λ synced. (x, inr synced, same_has_parts first page x))
          left;
      time = record { later = omega arith; past = λ a b x le stop. stop; adds = λ a x le stop. inl stop };
    }
