-- A name that is one of two different ones isn't the other.
use Rattle.std.proofs.Common.{◌≡◌, ℕ, true, false, List, sym, subst}
use Rattle.std.specs.Str.{bytes_eq}
use Rattle.std.proofs.lemmas.Slice.Eq.{bytes_eq-Decides}

pub other_name : (name one other : List ℕ) → bytes_eq name one ≡ true → bytes_eq one other ≡ false → bytes_eq name other ≡ false
other_name name one other same different =
    subst (λ (n : List ℕ). bytes_eq n other ≡ false) (sym ((bytes_eq-Decides name one).0 same)) different
