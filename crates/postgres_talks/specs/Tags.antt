-- What was done, as CommandComplete says it (PostgreSQL 15 manual, 55.7).
use Rattle.std.specs.Prelude.{ℕ, List, ◌++◌, codes, decimal, Option, Some, None}
use Rattle.sql_types.specs.State.{tag_text}
use Rattle.sql_types.specs.declared.tag.Tag.{Tag}
use Rattle.sql_types.specs.declared.tag.Tag.TheVariants as tag

-- how many rows it concerned, behind the tag's words
abbrev pub counted_tag : List ℕ → Option ℕ → List ℕ
counted_tag words None = words
counted_tag words (Some n) = words ++ codes " " ++ decimal n

-- for rows that were put in a zero stands before their number
abbrev pub done_tag : Tag → Option ℕ → List ℕ
done_tag tag.Insert count = counted_tag (codes "INSERT 0") count
done_tag tag.Update count = counted_tag (codes "UPDATE") count
done_tag tag.Delete count = counted_tag (codes "DELETE") count
done_tag t count = tag_text t
