-- The words that PostgreSQL reserves and the language does not.
use Rattle.std.specs.Prelude.{ℕ, List, [], ◌∷◌, codes, Bool}
use Rattle.postgres_texts.specs.Words.{is_one_of}

-- those of PostgreSQL 15, where its manual's appendix C says reserved or reserved (can be function or type); in order
abbrev pub reserved_words : List (List ℕ)
reserved_words =
    codes "analyse" ∷
    codes "analyze" ∷
    codes "any" ∷
    codes "array" ∷
    codes "asymmetric" ∷
    codes "authorization" ∷
    codes "binary" ∷
    codes "both" ∷
    codes "case" ∷
    codes "cast" ∷
    codes "collate" ∷
    codes "collation" ∷
    codes "column" ∷
    codes "concurrently" ∷
    codes "constraint" ∷
    codes "current_catalog" ∷
    codes "current_date" ∷
    codes "current_role" ∷
    codes "current_schema" ∷
    codes "current_time" ∷
    codes "current_timestamp" ∷
    codes "default" ∷
    codes "deferrable" ∷
    codes "distinct" ∷
    codes "do" ∷
    codes "else" ∷
    codes "end" ∷
    codes "except" ∷
    codes "fetch" ∷
    codes "foreign" ∷
    codes "freeze" ∷
    codes "full" ∷
    codes "group" ∷
    codes "having" ∷
    codes "ilike" ∷
    codes "in" ∷
    codes "initially" ∷
    codes "intersect" ∷
    codes "isnull" ∷
    codes "lateral" ∷
    codes "leading" ∷
    codes "left" ∷
    codes "like" ∷
    codes "localtime" ∷
    codes "localtimestamp" ∷
    codes "natural" ∷
    codes "notnull" ∷
    codes "offset" ∷
    codes "only" ∷
    codes "outer" ∷
    codes "overlaps" ∷
    codes "placing" ∷
    codes "references" ∷
    codes "returning" ∷
    codes "right" ∷
    codes "similar" ∷
    codes "some" ∷
    codes "symmetric" ∷
    codes "tablesample" ∷
    codes "then" ∷
    codes "trailing" ∷
    codes "union" ∷
    codes "unique" ∷
    codes "user" ∷
    codes "variadic" ∷
    codes "verbose" ∷
    codes "when" ∷
    codes "window" ∷
    []

-- a word is one of them, in any case
abbrev pub is_reserved : List ℕ → Bool
is_reserved word = is_one_of reserved_words word
