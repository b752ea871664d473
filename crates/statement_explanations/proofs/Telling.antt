-- What is told of the members of a list while it is gone through.
use Rattle.std.proofs.Common.{◌≡◌, ◌<◌, ◌+◌, ◌∙◌, ℕ, Bool, true, false, cond, List, [], ◌∷◌, ◌++◌, map, filter, take, length, get_or, Option, sym, ap, subst, refl, append_assoc, append-nil, arith}
use Rattle.std.proofs.lemmas.List.{take_more, length-take-le}
use Rattle.expressions.specs.Meaning.{UserNames}
use Rattle.expressions.specs.Types.{TypedTerm}
use Rattle.stored_database.specs.Definitions.{Definitions}
use Rattle.key_ranges.specs.declared.range.KeyRange.{KeyRange}
use Rattle.planner.specs.declared.sources.Source.{Source}
use Rattle.planner.specs.declared.plans.Plan.{Plan}
use Rattle.row_statements.specs.declared.ranges.RangedSource.{RangedSource}
use Rattle.row_statements.specs.Ranges.{AreRanged}
use Rattle.statement_explanations.specs.declared.explanation.TableExplanation.{TableExplanation}
use Rattle.statement_explanations.specs.Asking.{sources_of, ranges_of}
use Rattle.statement_explanations.specs.Explanations.{AreTablesExplained, IsExplainedBy, IsTableExplained}

-- what was told, and what is told of those that are left and pass the test, is what was told before, and what is told of all that pass it
abbrev pub Tells : {X Y : Type 0} → (X → Bool) → (X → Y) → List Y → List X → List X → List Y → Type 0
Tells test f before all rest told = told ++ map f (filter test rest) ≡ before ++ map f (filter test all)

module _ {X Y : Type 0} (test : X → Bool) (f : X → Y) (before : List Y) (all : List X) where
  pub takes : (x : X) (rest : List X) (told : List Y) → test x ≡ true → Tells test f before all (x ∷ rest) told → Tells test f before all rest (told ++ f x ∷ [])
  takes x rest told e h =
      append_assoc told (f x ∷ []) (map f (filter test rest))
      ∙ ap (λ b. told ++ map f (cond b (x ∷ filter test rest) (filter test rest))) (sym e)
      ∙ h

  pub passes : (x : X) (rest : List X) (told : List Y) → test x ≡ false → Tells test f before all (x ∷ rest) told → Tells test f before all rest told
  passes x rest told e h = ap (λ b. told ++ map f (cond b (x ∷ filter test rest) (filter test rest))) (sym e) ∙ h

  pub ends : (told : List Y) → Tells test f before all [] told → told ≡ before ++ map f (filter test all)
  ends told h = sym (append-nil told) ∙ h

-- ---- the tables of a plan

abbrev pub sources_in : List RangedSource → List Source
sources_in ranged = map (λ r. r.source.now) ranged

abbrev pub ranges_in : List RangedSource → List (Option KeyRange)
ranges_in ranged = map (λ r. r.range) ranged

-- tables with ranges are these tables
pub ranged_sources : (users : UserNames) (conditions : List TypedTerm) (index : ℕ) (sources : List Source) (ranged : List RangedSource) → AreRanged users conditions index sources ranged → sources_in ranged ≡ sources
ranged_sources users conditions index [] [] are = refl
ranged_sources users conditions index [] (r ∷ ranged) are = absurd are
ranged_sources users conditions index (s ∷ sources) [] are = absurd are
ranged_sources users conditions index (s ∷ sources) (r ∷ ranged) are =
    ap (λ (x : Source). x ∷ sources_in ranged) are.0 ∙ ap (λ (xs : List Source). s ∷ xs) (ranged_sources users conditions (index + 1) sources ranged are.2)

module _ (d : Definitions) (users : UserNames) (roles : List (List ℕ)) (p : Plan) where
  abbrev pub AreTold : ℕ → List RangedSource → List TableExplanation → Type 0
  AreTold index ranged told = AreTablesExplained d users roles p index (sources_in ranged) (ranges_in ranged) told

  joined : (start : ℕ) (ranged : List RangedSource) (told : List TableExplanation) (r : RangedSource) (e : TableExplanation) → AreTold start ranged told
      → IsTableExplained d users roles p (start + length ranged) r.source.now r.range e → AreTold start (ranged ++ r ∷ []) (told ++ e ∷ [])
  joined start [] [] r e are is = (subst (λ (n : ℕ). IsTableExplained d users roles p n r.source.now r.range e) (omega arith) is, tt)
  joined start [] (x ∷ told) r e are is = absurd are
  joined start (s ∷ ranged) [] r e are is = absurd are
  joined start (s ∷ ranged) (x ∷ told) r e are is =
      (are.0, joined (start + 1) ranged told r e are.1 (subst (λ (n : ℕ). IsTableExplained d users roles p n r.source.now r.range e) (omega arith) is))

  pub one_more : (ranged : List RangedSource) (old new : List TableExplanation) (i : ℕ) (r : RangedSource) (e : TableExplanation) → new ≡ old ++ e ∷ [] → AreTold 0 (take i ranged) old
      → i < length ranged → r ≡ get_or ranged i r → IsTableExplained d users roles p i r.source.now r.range e → AreTold 0 (take (i + 1) ranged) new
  one_more ranged old new i r e pushed are lt at is =
      let long : length (take i ranged) ≡ i = length-take-le i ranged (omega (arith, lt)) in
      subst (λ (l : List TableExplanation). AreTold 0 (take (i + 1) ranged) l) (sym pushed)
      (subst (λ (l : List RangedSource). AreTold 0 l (old ++ e ∷ [])) (sym (take_more ranged i r lt ∙ ap (λ (x : RangedSource). take i ranged ++ x ∷ []) (sym at)))
      (joined 0 (take i ranged) old r e are (subst (λ (n : ℕ). IsTableExplained d users roles p n r.source.now r.range e) (omega (arith, long)) is)))

-- ---- a plan and its roles

-- tables with the ranges of a plan are told of as those of the plan
pub explained_by : (d : Definitions) (users seen : UserNames) (roles : List (List ℕ)) (p : Plan) (ranged : List RangedSource) (told : List TableExplanation) → users ≡ seen → sources_in ranged ≡ sources_of p
    → ranges_in ranged ≡ ranges_of users roles p → AreTablesExplained d users roles p 0 (sources_in ranged) (ranges_in ranged) told → IsExplainedBy d seen roles p told
explained_by d users seen roles p ranged told acts sources ranges are =
    subst (λ (u : UserNames). IsExplainedBy d u roles p told) acts
    (subst (λ (rs : List (Option KeyRange)). AreTablesExplained d users roles p 0 (sources_of p) rs told) ranges (subst (λ (ss : List Source). AreTablesExplained d users roles p 0 ss (ranges_in ranged) told) sources are))
