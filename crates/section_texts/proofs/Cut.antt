-- What stands in the first columns and in the others, and their names, cut before they are looked at or behind.
use Rattle.std.proofs.Common.{◌≡◌, ℕ, List, map, take, drop}
use Rattle.std.specs.Borrow.{Bor}
use Rattle.std.proofs.lemmas.List.{take-map, drop-map}
use Rattle.section_texts.specs.declared.cell.SectionCell.{SectionCell}
use Rattle.section_texts.specs.Sections.{cell_of, row_of}

pub taken_columns : (n : ℕ) (xs : List (Bor (List ℕ))) → take n (map (λ c. c.now) xs) ≡ map (λ c. c.now) (take n xs)
taken_columns n xs = take-map (λ c. c.now) n xs

pub taken_cells : (n : ℕ) (cells : List SectionCell) → take n (row_of cells) ≡ row_of (take n cells)
taken_cells n cells = take-map cell_of n cells

pub dropped_columns : (n : ℕ) (xs : List (Bor (List ℕ))) → drop n (map (λ c. c.now) xs) ≡ map (λ c. c.now) (drop n xs)
dropped_columns n xs = drop-map (λ c. c.now) n xs

pub dropped_cells : (n : ℕ) (cells : List SectionCell) → drop n (row_of cells) ≡ row_of (drop n cells)
dropped_cells n cells = drop-map cell_of n cells
