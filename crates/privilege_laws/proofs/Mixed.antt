-- A database with some tables of the one, and the others of another of the same definitions.
use Rattle.std.proofs.Common.{◌≡◌, ◌⊎◌, Bool, true, false, cond, find, map, bytes_eq, List, [], ◌∷◌, Option, Some, None, refl, sym, ap, ◌∙◌, inl, inr}
use Rattle.abstract_database.specs.Lists.{TheName, Among}
use Rattle.abstract_database.specs.Database.{TableOf, Table, Database, is_table_named, table_named, rows_in, rows_named, without_its_rows, without_rows}
use Rattle.abstract_database.proofs.ListLemmas.{bytes_same}
use Rattle.database_laws.specs.Tables.{EachTable}
use Rattle.database_laws.specs.Invariants.{IsSound}
use Rattle.database_laws.specs.Closed.{DifferInClosed}

-- the second's of each name that this says
abbrev pub mix : (TheName → Bool) → List Table → List Table → List Table
mix others [] us = []
mix others (t ∷ ts) [] = []
mix others (t ∷ ts) (u ∷ us) = cond (others t.definition.name) u t ∷ mix others ts us

abbrev pub mixed : (TheName → Bool) → Database → Database → Database
mixed others d e = record d { tables = mix others d.tables e.tables }

abbrev bares : List Table → List Table
bares ts = map without_its_rows ts

first_bare : (t u : Table) (ts us : List Table) → bares (t ∷ ts) ≡ bares (u ∷ us) → without_its_rows t ≡ without_its_rows u
first_bare t u ts us e = ap first_of e where
  first_of : List Table → Table
  first_of [] = without_its_rows t
  first_of (z ∷ zs) = z

later_bare : (t u : Table) (ts us : List Table) → bares (t ∷ ts) ≡ bares (u ∷ us) → bares ts ≡ bares us
later_bare t u ts us e = ap rest_of e where
  rest_of : List Table → List Table
  rest_of [] = []
  rest_of (z ∷ zs) = zs

module _ (others : TheName → Bool) where
  chosen_bare : (b : Bool) (t u : Table) → without_its_rows t ≡ without_its_rows u → without_its_rows (cond b u t) ≡ without_its_rows t
  chosen_bare true t u e = sym e
  chosen_bare false t u e = refl

  bare_mix : (ts us : List Table) → bares ts ≡ bares us → bares (mix others ts us) ≡ bares ts
  bare_mix [] us e = refl
  bare_mix (t ∷ ts) [] e = let contrary : bares (t ∷ ts) ≡ [] = e in cc
  bare_mix (t ∷ ts) (u ∷ us) e =
      ap (λ (x : Table). x ∷ bares (mix others ts us)) (chosen_bare (others t.definition.name) t u (first_bare t u ts us e))
      ∙ ap (λ (xs : List Table). without_its_rows t ∷ xs) (bare_mix ts us (later_bare t u ts us e))

  module _ (name : TheName) where
    abbrev found : List Table → Option Table
    found ts = find (is_table_named name) ts

    found_first : (x : Table) (xs : List Table) (b : Bool) → is_table_named name x ≡ b → found (x ∷ xs) ≡ cond b (Some x) (found xs)
    found_first x xs b is = ap (λ (c : Bool). cond c (Some x) (found xs)) is

    both : (b : Bool) (x : Option Table) → x ≡ cond b x x
    both true x = refl
    both false x = refl

    -- the name of both is this one, or is not
    found_at : (t u : Table) (ts us : List Table) (b c : Bool) → is_table_named name t ≡ b → is_table_named name u ≡ b → others t.definition.name ≡ c → (b ≡ true → others name ≡ c) →
        found (mix others ts us) ≡ cond (others name) (found us) (found ts) → found (cond c u t ∷ mix others ts us) ≡ cond (others name) (found (u ∷ us)) (found (t ∷ ts))
    found_at t u ts us true true on_t on_u is own go =
        found_first u (mix others ts us) true on_u ∙ sym (found_first u us true on_u) ∙ sym (ap (λ (b : Bool). cond b (found (u ∷ us)) (found (t ∷ ts))) (own refl))
    found_at t u ts us true false on_t on_u is own go =
        found_first t (mix others ts us) true on_t ∙ sym (found_first t ts true on_t) ∙ sym (ap (λ (b : Bool). cond b (found (u ∷ us)) (found (t ∷ ts))) (own refl))
    found_at t u ts us false true on_t on_u is own go = found_first u (mix others ts us) false on_u ∙ go ∙ rest_at where
      rest_at : cond (others name) (found us) (found ts) ≡ cond (others name) (found (u ∷ us)) (found (t ∷ ts))
      rest_at = ap (λ (x : Option Table). cond (others name) x (found ts)) (sym (found_first u us false on_u)) ∙ ap (λ (x : Option Table). cond (others name) (found (u ∷ us)) x) (sym (found_first t ts false on_t))
    found_at t u ts us false false on_t on_u is own go = found_first t (mix others ts us) false on_t ∙ go ∙ rest_at where
      rest_at : cond (others name) (found us) (found ts) ≡ cond (others name) (found (u ∷ us)) (found (t ∷ ts))
      rest_at = ap (λ (x : Option Table). cond (others name) x (found ts)) (sym (found_first u us false on_u)) ∙ ap (λ (x : Option Table). cond (others name) (found (u ∷ us)) x) (sym (found_first t ts false on_t))

    found_mix : (ts us : List Table) → bares ts ≡ bares us → found (mix others ts us) ≡ cond (others name) (found us) (found ts)
    found_mix [] [] e = both (others name) None
    found_mix [] (u ∷ us) e = let contrary : [] ≡ bares (u ∷ us) = e in cc
    found_mix (t ∷ ts) [] e = let contrary : bares (t ∷ ts) ≡ [] = e in cc
    found_mix (t ∷ ts) (u ∷ us) e =
        let same : t.definition ≡ u.definition = ap (λ (x : Table). x.definition) (first_bare t u ts us e) in
        found_at t u ts us (is_table_named name t) (others t.definition.name) refl (sym (ap (λ (x : TableOf). bytes_eq x.name name) same)) refl
        (λ own. sym (ap others (bytes_same t.definition.name name own))) (found_mix ts us (later_bare t u ts us e))

  among_mix : (ts us : List Table) (x : Table) → Among x (mix others ts us) → Among x ts ⊎ Among x us
  among_mix [] us x h = inl h
  among_mix (t ∷ ts) [] x h = absurd h
  among_mix (t ∷ ts) (u ∷ us) x (inl is) = by (others t.definition.name) is where
    by : (b : Bool) → cond b u t ≡ x → Among x (t ∷ ts) ⊎ Among x (u ∷ us)
    by true e = inr (inl e)
    by false e = inl (inl e)
  among_mix (t ∷ ts) (u ∷ us) x (inr later) = elim (among_mix ts us x later) [ inl h ↦ inl (inr h) | inr h ↦ inr (inr h) ]

  -- ---- databases

  module _ (d e : Database) (same : without_rows d ≡ without_rows e) where
    tables_alike : bares d.tables ≡ bares e.tables
    tables_alike = ap (λ (x : Database). x.tables) same

    pub bare_mixed : without_rows (mixed others d e) ≡ without_rows d
    bare_mixed = ap (λ (ts : List Table). record d { tables = ts }) (bare_mix d.tables e.tables tables_alike)

    rows_at : (name : TheName) (b : Bool) → others name ≡ b → rows_named (mixed others d e) name ≡ rows_in (cond b (table_named e name) (table_named d name))
    rows_at name b is = ap rows_in (found_mix name d.tables e.tables tables_alike ∙ ap (λ (c : Bool). cond c (table_named e name) (table_named d name)) is)

    pub rows_of_second : (name : TheName) → others name ≡ true → rows_named (mixed others d e) name ≡ rows_named e name
    rows_of_second name is = rows_at name true is

    pub rows_of_first : (name : TheName) → others name ≡ false → rows_named (mixed others d e) name ≡ rows_named d name
    rows_of_first name is = rows_at name false is

    pub differ_there : DifferInClosed others d (mixed others d e)
    differ_there = record { definitions = sym bare_mixed; rows = λ name is. sym (rows_of_first name is) }

    each_mixed : (Q : Table → Type 0) → EachTable Q d → EachTable Q e → EachTable Q (mixed others d e)
    each_mixed Q on_d on_e t h = elim (among_mix d.tables e.tables t h) [ inl here ↦ on_d t here | inr there ↦ on_e t there ]

    pub sound_mixed : IsSound d → IsSound e → IsSound (mixed others d e)
    sound_mixed on_d on_e = (each_mixed _ on_d.0 on_e.0, each_mixed _ on_d.1 on_e.1, each_mixed _ on_d.2 on_e.2, each_mixed _ on_d.3 on_e.3)
