-- The bytes of a spelling. A spelling is UTF-8 of legal characters, so a condition on its characters up to
-- U+007F is one on its bytes below 128, and every byte from 128 on belongs to a character above U+007F.
use Rattle.std.specs.Prelude.{◌≡◌, ℕ, Bool, true, ◌==◌, ◌||◌, ◌&&◌, nat_le, List, [], ◌∷◌, ◌++◌}

-- each byte passes the test
abbrev pub Each : (ℕ → Bool) → List ℕ → Type 0
Each test [] = Unit
Each test (byte ∷ bytes) = (test byte ≡ true) × Each test bytes

-- the part occurs nowhere in the bytes
abbrev pub Without : List ℕ → List ℕ → Type 0
Without part bytes = (before after : List ℕ) → bytes ≡ before ++ (part ++ after) → ⊥

-- a byte from low to high
abbrev pub is_between : ℕ → ℕ → ℕ → Bool
is_between low high byte = nat_le low byte && nat_le byte high

-- white space: tab, line feed, carriage return and space (XML 1.0, production 3, S)
abbrev pub is_space : ℕ → Bool
is_space byte = byte == 9 || byte == 10 || byte == 13 || byte == 32
