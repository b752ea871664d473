-- Of what there is nothing in memory, there is no device and no text.
use Rattle.std.specs.Prelude.{◌≡◌, ◌⊎◌, Option, Some, None, false}
use Rattle.std.proofs.Common.{refl, sym, subst, inl, inr}
use Rattle.std.proofs.lemmas.Bool.{false≢true}
use Rattle.systems.specs.declared.entries.Content.{Content}
use Rattle.systems.specs.declared.entries.Content.TheVariants as content
use Rattle.systems.specs.Systems.{At, Absent, Free, Shared}
use Rattle.systems.specs.Entries.{device_in, text_in, is_something}
use Rattle.systems.specs.Memory.{LeavesThere}

pub no_device_in : {D : Type 0} (c : Option (Content D)) → is_something c ≡ false → device_in c ≡ Absent
no_device_in None unnamed = refl
no_device_in (Some (content.Device device)) unnamed = absurd (false≢true (sym unnamed))
no_device_in (Some (content.Shared device)) unnamed = absurd (false≢true (sym unnamed))
no_device_in (Some content.Open) unnamed = absurd (false≢true (sym unnamed))
no_device_in (Some content.Reading) unnamed = absurd (false≢true (sym unnamed))
no_device_in (Some content.Taken) unnamed = absurd (false≢true (sym unnamed))
no_device_in (Some (content.Text text)) unnamed = refl
no_device_in (Some content.Removed) unnamed = refl

pub no_text_in : {D : Type 0} (c : Option (Content D)) → is_something c ≡ false → text_in c ≡ None
no_text_in None unnamed = refl
no_text_in (Some (content.Device device)) unnamed = refl
no_text_in (Some (content.Shared device)) unnamed = refl
no_text_in (Some content.Open) unnamed = refl
no_text_in (Some content.Reading) unnamed = refl
no_text_in (Some content.Taken) unnamed = refl
no_text_in (Some (content.Text text)) unnamed = absurd (false≢true (sym unnamed))
no_text_in (Some content.Removed) unnamed = refl

-- a stop leaves what is there
pub left_here : {D : Type 0} (at : At D) (device : D) → (at ≡ Free device) ⊎ (at ≡ Shared device) → LeavesThere at device
left_here at device (inl free) = subst (λ (a : At _). LeavesThere a device) (sym free) refl
left_here at device (inr shared) = subst (λ (a : At _). LeavesThere a device) (sym shared) refl
