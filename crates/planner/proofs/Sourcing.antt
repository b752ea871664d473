-- Tables with their guards, one more at a time.
use Rattle.std.proofs.Common.{◌≡◌, ℕ, ◌+◌, ◌<◌, List, [], ◌∷◌, ◌++◌, map, take, length, get_or, sym, ap, ◌∙◌, Bor}
use Rattle.std.proofs.lemmas.List.{map_more, map-append}
use Rattle.stored_database.specs.Definitions.{TableDefinition}
use Rattle.planner.specs.declared.sources.Source.{Source}

pub more_tables : (old new : List Source) (s : Source) (ts : List (Bor TableDefinition)) (i : ℕ) (t : Bor TableDefinition) → new ≡ old ++ s ∷ [] → map (λ x. x.table.now) old ≡ map (λ x. x.now) (take i ts) →
    i < length ts → t ≡ get_or ts i t → s.table.now ≡ t.now → map (λ x. x.table.now) new ≡ map (λ x. x.now) (take (i + 1) ts)
more_tables old new s ts i t e h lt at same =
    ap (map (λ (x : Source). x.table.now)) e
    ∙ map-append (λ (x : Source). x.table.now) old (s ∷ [])
    ∙ ap (λ l. l ++ s.table.now ∷ []) h
    ∙ ap (λ x. map (λ (y : Bor TableDefinition). y.now) (take i ts) ++ x ∷ []) (same ∙ ap (λ (x : Bor TableDefinition). x.now) at)
    ∙ sym (map_more (λ (x : Bor TableDefinition). x.now) ts i t lt)
