-- The lines of a script from one on.
use Rattle.std.proofs.Common.{◌≡◌, ◌<◌, ◌+◌, ◌∙◌, ℕ, true, false, List, ◌∷◌, drop, length, suc, sym, ap, slice_index_or}
use Rattle.std.specs.Prelude.{if◌then◌else◌}
use Rattle.std.specs.Borrow.{Bor}
use Rattle.std.proofs.lemmas.List.{drop-map, drop_more}
use Rattle.wire.specs.SessionNames.{texts_of}
use Rattle.cli.specs.Explaining.{is_skipped, through_event}

-- the line there is the first of the texts from there on
next_line : (lines : List (Bor (List ℕ))) (at : ℕ) (d : Bor (List ℕ)) → at < length lines → drop at (texts_of lines) ≡ (slice_index_or lines at d).now ∷ drop (at + 1) (texts_of lines)
next_line lines at d lt =
    drop-map (λ t. t.now) at lines ∙ ap texts_of (drop_more lines at d lt) ∙ ap (λ (rest : List (List ℕ)). (slice_index_or lines at d).now ∷ rest) (sym (drop-map (λ t. t.now) (at + 1) lines))

-- a line that requests nothing is passed
pub passes : (lines : List (Bor (List ℕ))) (at : ℕ) (d : Bor (List ℕ)) → at < length lines → is_skipped (slice_index_or lines at d).now ≡ true → through_event (drop at (texts_of lines)) ≡ suc (through_event (drop (at + 1) (texts_of lines)))
passes lines at d lt is = ap through_event (next_line lines at d lt) ∙ ap (λ b. if b then suc (through_event (drop (at + 1) (texts_of lines))) else 1) is

-- a line that requests an event is the last that is read
pub stops_at : (lines : List (Bor (List ℕ))) (at : ℕ) (d : Bor (List ℕ)) → at < length lines → is_skipped (slice_index_or lines at d).now ≡ false → through_event (drop at (texts_of lines)) ≡ 1
stops_at lines at d lt is = ap through_event (next_line lines at d lt) ∙ ap (λ b. if b then suc (through_event (drop (at + 1) (texts_of lines))) else 1) is
