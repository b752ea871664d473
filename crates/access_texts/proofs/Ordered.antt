-- Lines of sections are in order.
use Rattle.std.proofs.Common.{List, [], ◌∷◌, Some}
use Rattle.store.specs.Records.{Records, IsOrdered, changed}
use Rattle.store.proofs.Changes.{ordered_changed}
use Rattle.section_texts.specs.Sections.{RowOf, SectionOf}
use Rattle.section_texts.specs.LineTexts.{subject_text, content_text}
use Rattle.access_texts.specs.Lines.{put_rows, put_sections, lines_in}

rows_ordered : (s : SectionOf) (rs : List RowOf) (es : Records) → IsOrdered es → IsOrdered (put_rows s rs es)
rows_ordered s [] es o = o
rows_ordered s (r ∷ rs) es o = rows_ordered s rs (changed (subject_text s r) (Some (content_text s r)) es) (ordered_changed (subject_text s r) (Some (content_text s r)) es o)

sections_ordered : (ss : List SectionOf) (es : Records) → IsOrdered es → IsOrdered (put_sections ss es)
sections_ordered [] es o = o
sections_ordered (s ∷ ss) es o = sections_ordered ss (put_rows s s.rows es) (rows_ordered s s.rows es o)

pub lines_ordered : (ss : List SectionOf) → IsOrdered (lines_in ss)
lines_ordered ss = sections_ordered ss [] tt
