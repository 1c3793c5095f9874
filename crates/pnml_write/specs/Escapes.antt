-- The bytes of a value that don't are in the canonical spelling as they are.
use Rattle.std.specs.Prelude.{ℕ, ◌==◌, ◌||◌, Bool}

-- `&`, `<`, `>`, `"`, tab, line feed and carriage return
abbrev pub is_escaped : ℕ → Bool
is_escaped byte = byte == 38 || byte == 60 || byte == 62 || byte == 34 || byte == 9 || byte == 10 || byte == 13
