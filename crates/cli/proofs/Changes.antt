-- Changes of a system, one after the other.
use Rattle.std.proofs.Common.{◌≤◌, ◌∙◌, ℕ, List, inl, inr, arith, refl}
use Rattle.std.proofs.lemmas.Bool.{cases_lt}
use Rattle.sector_device.specs.declared.device.Device.{Ghosts}
use Rattle.systems.specs.Places.{ThePlace}
use Rattle.systems.specs.Systems.{HasDevice, IsOpen, IsReadable, IsReading, IsSame, IsSameBut, IsSameButAt, Rose, SystemState}
use Rattle.cli.specs.Files.{ChangesDevice, ReadsDevice}

-- a count that rose between two others
pub rose_between : (a b c d : ℕ) → a ≤ b → b ≤ c → c ≤ d → Rose b c → Rose a d
rose_between a b c d first middle last rose =
    elim rose [
      | inl more ↦ inl (omega (arith, first, last, more))
      | inr most ↦ elim (cases_lt a b) [
        | inl lower ↦ inl (omega (arith, middle, last, lower))
        | inr not_lower ↦ inr (omega (arith, first, most, not_lower))
      ]
    ]

module _ {D L : Type 0} where
  pub same_itself : (s : SystemState D L) → IsSame s s
  same_itself s = record {
    faithful = λ is. is;
    devices = λ path. refl;
    texts = λ path. refl;
    names = λ path. refl;
    listeners = λ place. refl;
  }

  pub same_joined : (a b c : SystemState D L) → IsSame a b → IsSame b c → IsSame a c
  same_joined a b c first second = record {
    faithful = λ is. second.faithful (first.faithful is);
    devices = λ path. second.devices path ∙ first.devices path;
    texts = λ path. second.texts path ∙ first.texts path;
    names = λ path. second.names path ∙ first.names path;
    listeners = λ place. second.listeners place ∙ first.listeners place;
  }

  pub same_then_but : (changed : List ℕ) (a b c : SystemState D L) → IsSame a b → IsSameBut changed b c → IsSameBut changed a c
  same_then_but changed a b c first second = record {
    faithful = λ is. second.faithful (first.faithful is);
    devices = λ path other. second.devices path other ∙ first.devices path;
    texts = λ path other. second.texts path other ∙ first.texts path;
    names = λ path other. second.names path other ∙ first.names path;
    listeners = λ place. second.listeners place ∙ first.listeners place;
  }

  pub but_then_same : (changed : List ℕ) (a b c : SystemState D L) → IsSameBut changed a b → IsSame b c → IsSameBut changed a c
  but_then_same changed a b c first second = record {
    faithful = λ is. second.faithful (first.faithful is);
    devices = λ path other. second.devices path ∙ first.devices path other;
    texts = λ path other. second.texts path ∙ first.texts path other;
    names = λ path other. second.names path ∙ first.names path other;
    listeners = λ place. second.listeners place ∙ first.listeners place;
  }

  pub but_joined : (changed : List ℕ) (a b c : SystemState D L) → IsSameBut changed a b → IsSameBut changed b c → IsSameBut changed a c
  but_joined changed a b c first second = record {
    faithful = λ is. second.faithful (first.faithful is);
    devices = λ path other. second.devices path other ∙ first.devices path other;
    texts = λ path other. second.texts path other ∙ first.texts path other;
    names = λ path other. second.names path other ∙ first.names path other;
    listeners = λ place. second.listeners place ∙ first.listeners place;
  }

  pub at_joined : (changed : ThePlace) (a b c : SystemState D L) → IsSameButAt changed a b → IsSameButAt changed b c → IsSameButAt changed a c
  at_joined changed a b c first second = record {
    faithful = λ is. second.faithful (first.faithful is);
    devices = λ path. second.devices path ∙ first.devices path;
    texts = λ path. second.texts path ∙ first.texts path;
    names = λ path other. second.names path other ∙ first.names path other;
    listeners = λ place other. second.listeners place other ∙ first.listeners place other;
  }

  pub at_then_same : (changed : ThePlace) (a b c : SystemState D L) → IsSameButAt changed a b → IsSame b c → IsSameButAt changed a c
  at_then_same changed a b c first second = record {
    faithful = λ is. second.faithful (first.faithful is);
    devices = λ path. second.devices path ∙ first.devices path;
    texts = λ path. second.texts path ∙ first.texts path;
    names = λ path other. second.names path ∙ first.names path other;
    listeners = λ place other. second.listeners place ∙ first.listeners place other;
  }

  -- what was opened and then closed
  pub closed_again : (g : Ghosts D) (path : List ℕ) (device left : D) (old mid new : SystemState D L) → HasDevice old path device → IsOpen mid path → IsSameBut path old mid
      → (mid.faithful → IsOpen mid path → HasDevice new path left) → (mid.faithful → IsSameBut path mid new) → old.faithful → ChangesDevice g old path device left new
  closed_again g path device left old mid new named is_open opening closed closing is =
      let still = opening.faithful is in
      record { opened = named; closed = closed still is_open; others = but_joined path old mid new opening (closing still) }

  -- what was opened to be read and then closed
  pub released_again : (g : Ghosts D) (path : List ℕ) (device left : D) (old mid new : SystemState D L) → IsReadable old path device → IsReading mid path → IsSameBut path old mid
      → (mid.faithful → IsReading mid path → IsReadable new path left) → (mid.faithful → IsSameBut path mid new) → old.faithful → ReadsDevice g old path device left new
  released_again g path device left old mid new named is_reading opening closed closing is =
      let still = opening.faithful is in
      record { opened = named; closed = closed still is_reading; others = but_joined path old mid new opening (closing still) }
