-- The end keys of a node, met in a walk over its cells.
use Rattle.std.proofs.Common.{◌≡◌, ℕ, ◌+◌, ◌<◌, ◌≤◌, List, [], ◌∷◌, length, refl, sym, ap, ◌∙◌, subst, arith}
use Rattle.page_nodes.specs.declared.cell.NodeKind.{NodeKind}
use Rattle.page_nodes.specs.Map.{Entry}
use Rattle.page_nodes.specs.Node.{IsCellAt, IsNode, start, zeros_after}
use Rattle.page_nodes.specs.Search.{AreCellsAt}
use Rattle.page_nodes.specs.Ends.{last_key, BeginAndEnd}
use Rattle.page_nodes.proofs.Scan.{begins, head_of}

-- the cells that are passed begin with a key, and this one is the last of them
pub record Passes (kind : NodeKind) (bytes : List ℕ) (cells : List Entry) (first key : List ℕ) (at i count : ℕ) (after : List ℕ) : Type 0 where
  pub rest : List Entry
  pub here : AreCellsAt kind bytes at rest after
  pub total : i + length rest ≡ count
  pub ends : BeginAndEnd cells first (last_key key rest)

pub passes_begin : (kind : NodeKind) (bytes first : List ℕ) (cells : List Entry) (key payload : List ℕ) (end count : ℕ) → IsNode kind first cells bytes → count ≡ length cells → (count ≡ 0 → ⊥)
    → IsCellAt kind bytes (start kind) key payload end → Passes kind bytes cells key key end 1 count (zeros_after kind first cells)
passes_begin kind bytes first cells key payload end count node is some view =
    let h = head_of kind bytes (start kind) cells (zeros_after kind first cells) key payload end ((begins kind bytes first cells node).ahead) (omega (arith, is, some)) view in
    record {
      rest = h.cs;
      here = h.rest;
      total = omega (arith, is, ap (λ (xs : List Entry). length xs) h.cells_are);
      ends = subst (λ (xs : List Entry). BeginAndEnd xs key (last_key key h.cs)) (sym h.cells_are) (h.key_is, ap (λ (k : List ℕ). last_key k h.cs) h.key_is);
    }

pub passes_on : (kind : NodeKind) (bytes : List ℕ) (cells : List Entry) (first key : List ℕ) (at i count : ℕ) (after next_key payload : List ℕ) (end : ℕ) → Passes kind bytes cells first key at i count after → i < count
    → IsCellAt kind bytes at next_key payload end → Passes kind bytes cells first next_key end (i + 1) count after
passes_on kind bytes cells first key at i count after next_key payload end p more view =
    let h = head_of kind bytes at p.rest after next_key payload end p.here (omega (arith, p.total, more)) view in
    let on : last_key key p.rest ≡ last_key next_key h.cs = ap (λ (xs : List Entry). last_key key xs) h.cells_are ∙ ap (λ (k : List ℕ). last_key k h.cs) (sym h.key_is) in
    record {
      rest = h.cs;
      here = h.rest;
      total = omega (arith, p.total, ap (λ (xs : List Entry). length xs) h.cells_are);
      ends = subst (λ (k : List ℕ). BeginAndEnd cells first k) on p.ends;
    }

last_of_none : (key : List ℕ) (es : List Entry) → length es ≡ 0 → last_key key es ≡ key
last_of_none key [] none = refl
last_of_none key (e ∷ es) none = absurd (omega (arith, none))

pub passes_end : (kind : NodeKind) (bytes : List ℕ) (cells : List Entry) (first key : List ℕ) (at i count : ℕ) (after : List ℕ) → Passes kind bytes cells first key at i count after → count ≤ i → BeginAndEnd cells first key
passes_end kind bytes cells first key at i count after p done = subst (λ (k : List ℕ). BeginAndEnd cells first k) (last_of_none key p.rest (omega (arith, p.total, done))) p.ends

pub no_entries : (es : List Entry) → length es ≡ 0 → es ≡ []
no_entries [] none = refl
no_entries (e ∷ es) none = absurd (omega (arith, none))
