-- A formula while the policies of a table are gone through.
use Rattle.std.proofs.Common.{◌≡◌, ◌<◌, ◌+◌, ℕ, suc, Bool, true, false, not, ◌&&◌, cond, List, [], ◌∷◌, ◌++◌, drop, get_or, length, refl, sym, ap, ◌∙◌, subst, append_assoc, append-nil, add-one}
use Rattle.std.proofs.Math.Seq.{drop-cons}
use Rattle.sql_ast.specs.declared.policy.PolicyKind.{PolicyKind}
use Rattle.sql_ast.specs.declared.policy.PolicyKind.TheVariants.{Permissive, Restrictive}
use Rattle.sql_ast.specs.declared.privilege.Action.{Action}
use Rattle.sql_ast.specs.declared.scope.ColumnIndex.{ColumnIndex}
use Rattle.sql_ast.specs.Term.{Term}
use Rattle.abstract_database.specs.Lists.{TheName}
use Rattle.abstract_database.specs.Guards.{is_permissive}
use Rattle.catalogue.specs.declared.policy.CataloguePolicy.{CataloguePolicy}
use Rattle.guards.specs.declared.guard.Formula.{Formula}
use Rattle.guards.specs.Guards.{terms}
use Rattle.policy_composer.specs.declared.policies.GuardedRows.{GuardedRows}
use Rattle.policy_composer.specs.Formulas.{applies, bound_condition, term_in, terms_where, IsFormulaOf, Adds, for_permissive, for_restrictive}

-- of the policies that are left, the formula still lacks the conditions
pub record Gathers (set : List TheName) (a : Action) (rows : GuardedRows) (policies rest : List CataloguePolicy) (f : Formula) : Type 0 where
  pub permissive : terms f.permissive ++ terms_where rows (λ p. applies set a p && is_permissive p) rest ≡ terms_where rows (λ p. applies set a p && is_permissive p) policies
  pub restrictive : terms f.restrictive ++ terms_where rows (λ p. applies set a p && not (is_permissive p)) rest ≡ terms_where rows (λ p. applies set a p && not (is_permissive p)) policies

-- ---- one policy

abbrev part : GuardedRows → CataloguePolicy → Bool → List (Term ColumnIndex)
part rows p passes = cond passes (term_in (bound_condition rows p)) []

permissive_part : (rows : GuardedRows) (p : CataloguePolicy) (k : PolicyKind) → p.policy.kind ≡ k → for_permissive k (bound_condition rows p) ≡ part rows p (true && is_permissive p.policy)
permissive_part rows p Permissive e = rw e refl
permissive_part rows p Restrictive e = rw e refl

restrictive_part : (rows : GuardedRows) (p : CataloguePolicy) (k : PolicyKind) → p.policy.kind ≡ k → for_restrictive k (bound_condition rows p) ≡ part rows p (true && not (is_permissive p.policy))
restrictive_part rows p Permissive e = rw e refl
restrictive_part rows p Restrictive e = rw e refl

module _ (set : List TheName) (a : Action) (rows : GuardedRows) (policies : List CataloguePolicy) where
  pub begins : (f : Formula) → terms f.permissive ≡ [] → terms f.restrictive ≡ [] → Gathers set a rows policies policies f
  begins f e h = record {
    permissive = ap (λ ts. ts ++ terms_where rows (λ p. applies set a p && is_permissive p) policies) e;
    restrictive = ap (λ ts. ts ++ terms_where rows (λ p. applies set a p && not (is_permissive p)) policies) h;
  }

  pub ends : (f : Formula) → Gathers set a rows policies [] f → IsFormulaOf set a rows policies f
  ends f g = record {
    permissive = sym (append-nil (terms f.permissive)) ∙ g.permissive;
    restrictive = sym (append-nil (terms f.restrictive)) ∙ g.restrictive;
  }

  pub passes_over : (p : CataloguePolicy) (rest : List CataloguePolicy) (f : Formula) → applies set a p.policy ≡ false → Gathers set a rows policies (p ∷ rest) f → Gathers set a rows policies rest f
  passes_over p rest f e g = record {
    permissive = ap (λ b. terms f.permissive ++ (part rows p (b && is_permissive p.policy) ++ terms_where rows (λ q. applies set a q && is_permissive q) rest)) (sym e) ∙ g.permissive;
    restrictive = ap (λ b. terms f.restrictive ++ (part rows p (b && not (is_permissive p.policy)) ++ terms_where rows (λ q. applies set a q && not (is_permissive q)) rest)) (sym e) ∙ g.restrictive;
  }

  pub takes : (p : CataloguePolicy) (rest : List CataloguePolicy) (old new : Formula) → applies set a p.policy ≡ true → Adds p.policy.kind (bound_condition rows p) old new
      → Gathers set a rows policies (p ∷ rest) old → Gathers set a rows policies rest new
  takes p rest old new e h g = record {
    permissive =
        let more = terms_where rows (λ q. applies set a q && is_permissive q) rest in
        ap (λ ts. ts ++ more) h.permissive
        ∙ append_assoc (terms old.permissive) (for_permissive p.policy.kind (bound_condition rows p)) more
        ∙ ap (λ ts. terms old.permissive ++ (ts ++ more)) (permissive_part rows p p.policy.kind refl)
        ∙ ap (λ b. terms old.permissive ++ (part rows p (b && is_permissive p.policy) ++ more)) (sym e)
        ∙ g.permissive;
    restrictive =
        let more = terms_where rows (λ q. applies set a q && not (is_permissive q)) rest in
        ap (λ ts. ts ++ more) h.restrictive
        ∙ append_assoc (terms old.restrictive) (for_restrictive p.policy.kind (bound_condition rows p)) more
        ∙ ap (λ ts. terms old.restrictive ++ (ts ++ more)) (restrictive_part rows p p.policy.kind refl)
        ∙ ap (λ b. terms old.restrictive ++ (part rows p (b && not (is_permissive p.policy)) ++ more)) (sym e)
        ∙ g.restrictive;
  }

  -- ---- over a slice

  here : (i : ℕ) (p : CataloguePolicy) → p ≡ get_or policies i p → i < length policies → drop i policies ≡ p ∷ drop (i + 1) policies
  here i p e lt = drop-cons policies i p lt ∙ ap (λ q. q ∷ drop (suc i) policies) (sym e) ∙ ap (λ n. p ∷ drop n policies) (sym (add-one i))

  pub slice_passes_over : (i : ℕ) (p : CataloguePolicy) (f : Formula) → p ≡ get_or policies i p → i < length policies → applies set a p.policy ≡ false
      → Gathers set a rows policies (drop i policies) f → Gathers set a rows policies (drop (i + 1) policies) f
  slice_passes_over i p f at lt e g = passes_over p (drop (i + 1) policies) f e (subst (λ rest. Gathers set a rows policies rest f) (here i p at lt) g)

  pub slice_takes : (i : ℕ) (p : CataloguePolicy) (old new : Formula) → p ≡ get_or policies i p → i < length policies → applies set a p.policy ≡ true
      → Adds p.policy.kind (bound_condition rows p) old new → Gathers set a rows policies (drop i policies) old → Gathers set a rows policies (drop (i + 1) policies) new
  slice_takes i p old new at lt e h g = takes p (drop (i + 1) policies) old new e h (subst (λ rest. Gathers set a rows policies rest old) (here i p at lt) g)
