-- A new file on which no database was made is taken away again.
use Rattle.std.proofs.Common.{◌≡◌, ◌∙◌, ◌⊎◌, ◌*◌, ℕ, Bool, true, false, List, Result, Ok, Err, OnOk, inl, inr, ap, sym}
use Rattle.std.specs.Prelude.{OnErr}
use Rattle.sector_device.specs.declared.device.Device.{Ghosts}
use Rattle.sector_device.specs.declared.system_cause.SystemCause.{SystemCause}
use Rattle.systems.specs.Systems.{SystemState}
use Rattle.cow_pages.specs.Image.{is_size}
use Rattle.abstract_database.specs.Lists.{TheName}
use Rattle.cow_pages.specs.declared.open.OpenFault.{OpenFault}
use Rattle.cow_pages.specs.declared.open.OpenFault.TheVariants.{WrongSize, NotADatabase, NewerFormat, Damaged, Device, Memory}
use Rattle.databases.specs.Making.{Makes}
use Rattle.cli.specs.Faults.{of_pages}
use Rattle.cli.specs.Formatting.{IsTakenAway, IsUnformatted}

pub done_or_failed : (A B : Type 0) (result : Result (Unit {0}) SystemCause) → OnOk result A → OnErr result B → A ⊎ B
done_or_failed A B (Ok x) done failed = inl done
done_or_failed A B (Err cause) done failed = inr failed

no_size : (sectors other : ℕ) → sectors ≡ other → is_size other ≡ true → is_size sectors ≡ false → ⊥
no_size sectors other are is none = let both : true ≡ false = sym is ∙ ap is_size (sym are) ∙ none in cc

module _ {D L : Type 0} (g : Ghosts D) (old new : SystemState D L) (path : List ℕ) (pages : ℕ) (admin : TheName) (journal : Bool) (blank left : D) where
  pub unformatted : (why : OpenFault) → is_size (8 * pages) ≡ true → (g.state blank).sectors ≡ 8 * pages → Makes g.state journal admin (Err why) blank left → IsTakenAway g old path pages admin journal (of_pages why) new
      → IsUnformatted g old path pages admin journal (of_pages why) new
  unformatted Memory size sectors makes taken = (size, inr taken)
  unformatted Device size sectors makes taken = (size, inr taken)
  unformatted NotADatabase size sectors makes taken = absurd makes
  unformatted (NewerFormat format) size sectors makes taken = absurd makes
  unformatted Damaged size sectors makes taken = absurd makes
  unformatted WrongSize size sectors makes taken = absurd (no_size (g.state blank).sectors (8 * pages) sectors size makes.0)
