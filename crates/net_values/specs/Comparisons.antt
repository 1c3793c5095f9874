-- Truth values that compare as equal are equal: the order of place sets rests on it.
use Rattle.std.proofs.Common.{subst, sym, refl}
use Rattle.std.specs.Prelude.{true, false, T}
use Rattle.std.specs.FinMap.{IsAntisymmetric}
use Rattle.std.specs.Ordering.{bool_cmp, is_eq}

pub bool_cmp-IsAntisymmetric : IsAntisymmetric bool_cmp
bool_cmp-IsAntisymmetric false false tied = refl
bool_cmp-IsAntisymmetric true true tied = refl
bool_cmp-IsAntisymmetric false true tied = absurd (subst (λ r. T (is_eq r)) (sym tied) tt)
bool_cmp-IsAntisymmetric true false tied = absurd (subst (λ r. T (is_eq r)) (sym tied) tt)
