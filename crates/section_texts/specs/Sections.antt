-- Sections as contracts see them.
use Rattle.std.specs.Prelude.{ℕ, List, map, Bool}
use Rattle.section_texts.specs.declared.cell.SectionCell.{SectionCell}
use Rattle.section_texts.specs.declared.cell.SectionCell.TheVariants as cell
use Rattle.section_texts.specs.declared.cell.MembershipWay.{MembershipWay}
use Rattle.section_texts.specs.declared.section.TextSection.{TextSection}

-- what stands in a row under one column
pub data CellOf : Type 0 where
  text : List ℕ → CellOf
  flag : Bool → CellOf
  names : List (List ℕ) → CellOf
  ways : List (List ℕ × List ℕ) → CellOf
  everyone : CellOf
  absent : CellOf

-- the cells of a row, under their columns
abbrev pub RowOf : Type 0
RowOf = List CellOf

pub record SectionOf : Type 0 where
  pub name : List ℕ
  pub columns : List (List ℕ)
  pub keys : ℕ
  pub rows : List RowOf

-- ---- what values of the code are

abbrev pub way_of : MembershipWay → List ℕ × List ℕ
way_of w = (w.member.now, w.role.now)

abbrev pub cell_of : SectionCell → CellOf
cell_of (cell.Text t) = text t.now
cell_of (cell.Flag b) = flag b
cell_of (cell.Names ns) = names (map (λ n. n.now) ns.items)
cell_of (cell.Ways ws) = ways (map way_of ws.items)
cell_of cell.Everyone = everyone
cell_of cell.Absent = absent

abbrev pub row_of : List SectionCell → RowOf
row_of cells = map cell_of cells

abbrev pub section_of : TextSection → SectionOf
section_of s = record {
  name = s.name.now;
  columns = map (λ c. c.now) s.columns.now;
  keys = s.keys;
  rows = map (λ r. row_of r.items) s.rows.items;
}
