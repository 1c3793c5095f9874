-- Numbers that fit 64 bits.
use Rattle.std.specs.Prelude.{ℕ, ◌^◌, nat_le, nat_lt, if◌then◌else◌, List, length, Option, Some, None}
use Rattle.std.specs.Str.Parse.{digits_value}

-- a number below 2^64
abbrev pub narrow : ℕ → Option ℕ
narrow number = if nat_lt number (2 ^ 64) then Some number else None

abbrev pub narrow_if_any : Option ℕ → Option ℕ
narrow_if_any None = None
narrow_if_any (Some number) = narrow number

-- the number that digits write, where there are some
abbrev pub number_of : List ℕ → Option ℕ
number_of digits = if nat_le 1 (length digits) then narrow (digits_value 10 digits) else None
