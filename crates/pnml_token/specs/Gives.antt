-- A reader's answer is what reading lists of bytes gives, unless memory runs out.
use Rattle.std.specs.Prelude.{◌≡◌, Option, Some, None, Result, Ok, Err}
use Rattle.pnml_token.specs.declared.miss.Miss.{Miss}
use Rattle.pnml_token.specs.declared.miss.Miss.TheVariants.{NoToken, NoMemory}

abbrev pub Misses : {Y : Type 0} → Miss → Option Y → Type 0
Misses NoMemory read = Unit {0}
Misses NoToken read = read ≡ None

abbrev pub Gives : {X Y : Type 0} → (X → Y) → Result X Miss → Option Y → Type 0
Gives view (Ok x) read = read ≡ Some (view x)
Gives view (Err miss) read = Misses miss read
