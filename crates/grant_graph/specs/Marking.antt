-- Marks of descriptors.
use Rattle.std.specs.Prelude.{◌≡◌, ◌&&◌, Bool, List, nat_eq, bytes_eq}
use Rattle.std.specs.List.{list_any}
use Rattle.std.specs.Option.{option_eq}
use Rattle.sql_ast.specs.declared.privilege.Descriptor.{Descriptor}
use Rattle.grant_graph.specs.Keys.{Key, LentKey, lent_key, key_of}

abbrev pub same_key_as : Key → Key → Bool
same_key_as a b = bytes_eq a.0 b.0 && nat_eq a.1 b.1 && option_eq nat_eq a.2 b.2 && bytes_eq a.3 b.3 && bytes_eq a.4 b.4

-- these keys are those of the descriptors
abbrev pub HaveKeysOf : List Descriptor → List LentKey → Type 0
HaveKeysOf ds keys = (key : Key) → list_any (λ k. same_key_as key (lent_key k)) keys ≡ list_any (λ d. same_key_as key (key_of d)) ds
