use Rattle.std.proofs.Common.{◌≡◌, ◌+◌, ◌++◌, ◌∷◌, ◌∙◌, [], ℕ, suc, List, length, map, take, drop, get_or, sym, ap, arith, rules, length-append}
use Rattle.std.proofs.lemmas.List.{take_more, map-append}
use Rattle.std.proofs.lemmas.Grind.{common_steps}
use Rattle.journal.specs.Records.{parts_of}
use Rattle.journal.proofs.Parts.{parts_more}
use Rattle.journal.proofs.chain.join_parts.Goals as goal

pub loop-sector-preserved : goal.loop-sector-preserved
loop-sector-preserved c =
    let i : ℕ = c.loop-sector.sector-index in
    let so_far = c.loop-sector.invariant in
    let sectors : List (List ℕ) = c.args.sectors.now in
    let part : List ℕ = c.part_bytes.result.now in
    let f = λ (sector : List ℕ). drop 24 sector in
    let e : c.extend_from_slice.new.self.items ≡ c.loop-sector.bytes.items ++ c.part_bytes.result.now = first_of (search rules, grind (arith, common_steps)) in
    let next : i + 1 ≡ suc i = omega arith in
    let all : take (i + 1) sectors ≡ take i sectors ++ get_or sectors i [] ∷ [] = take_more sectors i [] c.loop-sector-test.true in
    record {
      parts = ap (λ (n : ℕ). parts_of n c.extend_from_slice.new.self.items) next
          ∙ ap (λ (bytes : List ℕ). parts_of (suc i) bytes) e
          ∙ parts_more i c.loop-sector.bytes.items part so_far.long c.part_bytes.ensures.whole
          ∙ ap (λ (ps : List (List ℕ)). ps ++ part ∷ []) so_far.parts
          ∙ ap (λ (p : List ℕ). map f (take i sectors) ++ p ∷ []) c.part_bytes.ensures.part
          ∙ sym (ap (λ (xs : List (List ℕ)). map f xs) all ∙ map-append f (take i sectors) (get_or sectors i [] ∷ []));
      long = ap (λ (bytes : List ℕ). length bytes) e ∙ omega (arith, so_far.long, c.part_bytes.ensures.whole, length-append {A = ℕ});
    }
