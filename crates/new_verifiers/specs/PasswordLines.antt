-- Lines that have a password, or a verifier.
use Rattle.std.specs.Prelude.{◌≡◌, ◌⊎◌, ◌==◌, ◌++◌, ◌-◌, ℕ, Bool, List, [], ◌∷◌, length, take}
use Rattle.std.specs.List.{list_any}
use Rattle.new_verifiers.specs.Passwords.{IsPassword, drawn_password, new_verifier, nobodys_verifier}
use Rattle.scram_hashes.specs.VerifierText.{verifier_text}

-- a text, with a newline behind it
abbrev pub line : List ℕ → List ℕ
line text = text ++ 10 ∷ []

-- ---- what is read

-- the input is this one line, with a newline behind it or without
abbrev pub IsLine : List ℕ → List ℕ → Type 0
IsLine input text = (input ≡ text) ⊎ (input ≡ line text)

-- it is the line of no password
abbrev pub HasNoPassword : List ℕ → Type 0
HasNoPassword input = (password : List ℕ) → IsPassword password → IsLine input password → ⊥

-- whether there is a newline in front of its last byte
abbrev pub has_more_lines : List ℕ → Bool
has_more_lines input = list_any (λ byte. byte == 10) (take (length input - 1) input)

-- ---- what is printed

-- the line of the verifier of a password, with the salt of these drawn bytes
abbrev pub verifier_line : List ℕ → List ℕ → List ℕ
verifier_line password salt = line (verifier_text (new_verifier password salt))

-- the password of the first 24 bytes of a draw
abbrev pub password_of_draw : List ℕ → List ℕ
password_of_draw secret = drawn_password (take 24 secret)

-- a password that was drawn, and in the next line its verifier
abbrev pub new_lines : List ℕ → List ℕ → List ℕ
new_lines secret salt = line (password_of_draw secret) ++ verifier_line (password_of_draw secret) salt

-- the line of a verifier whose keys were drawn
abbrev pub nobodys_line : List ℕ → List ℕ → List ℕ → List ℕ
nobodys_line salt stored_key server_key = line (verifier_text (nobodys_verifier salt stored_key server_key))
