-- What others see of two databases after one DELETE over both.
use Rattle.std.proofs.Common.{◌≡◌, Bool, true, false, not, cond, filter, bytes_eq, List, [], ◌∷◌, Some, Ok, refl, sym, ap, ◌∙◌, subst}
use Rattle.sql_types.specs.Row.{Row}
use Rattle.sql_ast.specs.declared.statement.Delete.{Delete}
use Rattle.expressions.specs.Meaning.{UserNames}
use Rattle.abstract_database.specs.Lists.{drop_where}
use Rattle.abstract_database.specs.Database.{TableOf, Database, definition_named, rows_named}
use Rattle.abstract_database.specs.Statements.{Effect, delete}
use Rattle.abstract_database.proofs.ListLemmas.{bytes_same}
use Rattle.database_laws.specs.RowChanges.{is_deleted}
use Rattle.database_laws.specs.Worlds.{is_silent, SameApparentRows}
use Rattle.database_laws.proofs.ConcernLemmas.{deleted_in_its_table, deleted_its_rows}
use Rattle.database_laws.proofs.WorldLemmas.{definitions_alone}
use Rattle.database_laws.proofs.AlikeLemmas.{defined_alike}

-- two tests in either order
both_ways_at : (f g : Row → Bool) (x : Row) (xs : List Row) (b c : Bool) → f x ≡ b → g x ≡ c → filter f (filter g xs) ≡ filter g (filter f xs) →
    filter f (cond c (x ∷ filter g xs) (filter g xs)) ≡ filter g (cond b (x ∷ filter f xs) (filter f xs))
both_ways_at f g x xs true true e h go = ap (λ m. cond m (x ∷ filter f (filter g xs)) (filter f (filter g xs))) e ∙ ap (λ l. x ∷ l) go ∙ sym (ap (λ m. cond m (x ∷ filter g (filter f xs)) (filter g (filter f xs))) h)
both_ways_at f g x xs true false e h go = go ∙ sym (ap (λ m. cond m (x ∷ filter g (filter f xs)) (filter g (filter f xs))) h)
both_ways_at f g x xs false true e h go = ap (λ m. cond m (x ∷ filter f (filter g xs)) (filter f (filter g xs))) e ∙ go
both_ways_at f g x xs false false e h go = go

pub both_ways : (f g : Row → Bool) (xs : List Row) → filter f (filter g xs) ≡ filter g (filter f xs)
both_ways f g [] = refl
both_ways f g (x ∷ xs) = both_ways_at f g x xs (f x) (g x) refl refl (both_ways f g xs)

module _ (users v : UserNames) (d e : Database) (s : Delete) (a b : Effect) (alike : SameApparentRows v d e) (on_d : delete d users s ≡ Ok a) (on_e : delete e users s ≡ Ok b) where
  rows_left : (t : TableOf) → definition_named d t.name ≡ Some t → (c : Bool) → bytes_eq t.name s.table ≡ c →
      drop_where (is_silent d v t) (rows_named a.database t.name) ≡ drop_where (is_silent e v t) (rows_named b.database t.name)
  rows_left t h false c =
      ap (drop_where (is_silent d v t)) ((deleted_in_its_table d users s a on_d).others t.name c) ∙ alike.rows t h
      ∙ sym (ap (drop_where (is_silent e v t)) ((deleted_in_its_table e users s b on_e).others t.name c))
  rows_left t h true c =
      let one : t.name ≡ s.table = bytes_same t.name s.table c in
      let named_d : definition_named d s.table ≡ Some t = ap (definition_named d) (sym one) ∙ h in
      let named_e : definition_named e s.table ≡ Some t = sym (defined_alike v d e alike s.table) ∙ named_d in
      let gone_d = deleted_its_rows d users s a on_d t named_d in
      let gone_e = deleted_its_rows e users s b on_e t named_e in
      let keep = λ (row : Row). not (is_deleted d users t s row) in
      let says = λ (row : Row). not (is_silent d v t row) in
      ap (λ n. filter says (rows_named a.database n)) one ∙ ap (filter says) gone_d.rows ∙ both_ways says keep (rows_named d s.table)
      ∙ ap (λ n. filter keep (filter says (rows_named d n))) (sym one) ∙ ap (filter keep) (alike.rows t h)
      ∙ ap (λ (x : Database). filter (λ row. not (is_deleted x users t s row)) (drop_where (is_silent e v t) (rows_named e t.name))) alike.definitions
      ∙ ap (λ n. filter (λ row. not (is_deleted e users t s row)) (drop_where (is_silent e v t) (rows_named e n))) one
      ∙ both_ways (λ row. not (is_deleted e users t s row)) (λ row. not (is_silent e v t row)) (rows_named e s.table)
      ∙ sym (ap (λ n. filter (λ row. not (is_silent e v t row)) (rows_named b.database n)) one ∙ ap (filter (λ row. not (is_silent e v t row))) gone_e.rows)

  pub delete_for_others : SameApparentRows v a.database b.database
  delete_for_others = record {
    definitions = (deleted_in_its_table d users s a on_d).definitions ∙ alike.definitions ∙ sym (deleted_in_its_table e users s b on_e).definitions;
    rows = λ t h. subst (λ (f : Row → Bool). drop_where f (rows_named a.database t.name) ≡ drop_where (is_silent b.database v t) (rows_named b.database t.name))
        (ap (λ (x : Database). is_silent x v t) (sym (deleted_in_its_table d users s a on_d).definitions))
        (subst (λ (f : Row → Bool). drop_where (is_silent d v t) (rows_named a.database t.name) ≡ drop_where f (rows_named b.database t.name))
        (ap (λ (x : Database). is_silent x v t) (sym (deleted_in_its_table e users s b on_e).definitions))
        (rows_left t (definitions_alone d t.name ∙ ap (λ (x : Database). definition_named x t.name) (sym (deleted_in_its_table d users s a on_d).definitions) ∙ sym (definitions_alone a.database t.name) ∙ h) (bytes_eq t.name s.table) refl));
  }
