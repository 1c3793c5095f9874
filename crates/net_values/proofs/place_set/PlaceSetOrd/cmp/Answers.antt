use Rattle.std.proofs.Common.{◌≡◌, ◌<◌, ◌∙◌, ℕ, List, Bool, sym, ap, subst, length, slice_index}
use Rattle.std.specs.Cmp.Lexicographic.{slice_cmp}
use Rattle.std.specs.Ordering.{bool_cmp}
use Rattle.net_values.specs.PlaceWords.{IsFirstDifference}
use Rattle.net_values.proofs.PlaceOrder.{first_greater, first_less, same_by_size}
use Rattle.net_values.proofs.place_set.PlaceSetOrd.cmp.Goals as goal

-- the order of two sets of these words is that of what they are seen as
seen_order : (a b x y : List Bool) → a ≡ x → b ≡ y → slice_cmp bool_cmp a b ≡ slice_cmp bool_cmp x y
seen_order a b x y first second = ap (λ (z : List Bool). slice_cmp bool_cmp z b) first ∙ ap (slice_cmp bool_cmp x) second

-- the first difference of words that were read
found_in : (x y words others : List ℕ) (b t : Bool) → x ≡ words → y ≡ others → b ≡ t → (p : ℕ) × IsFirstDifference x y p b → (p : ℕ) × IsFirstDifference words others p t
found_in x y words others b t first second test found =
    subst (λ (z : Bool). (p : ℕ) × IsFirstDifference words others p z) test
    (subst (λ (z : List ℕ). (p : ℕ) × IsFirstDifference words z p b) second (subst (λ (z : List ℕ). (p : ℕ) × IsFirstDifference z y p b) first found))

abbrev AreAlike : List ℕ → List ℕ → Type 0
AreAlike words others = (k : ℕ) → k < length words → k < length others → slice_index words k ≡ slice_index others k

pub returns-in-Some-true : goal.returns-in-Some-true
returns-in-Some-true c =
    let found = found_in _ _ _ _ _ _ c.as_slice.ensures.value c.as_slice-2.ensures.value c.in-Some-true.field-0-test c.in-Some-true.ensures in
    sym (first_greater _ _ _ _ c.self.invariant c.other.invariant found.0 found.1) ∙ seen_order _ _ _ _ c.self.view_is c.other.view_is

pub returns-in-Some-false : goal.returns-in-Some-false
returns-in-Some-false c =
    let found = found_in _ _ _ _ _ _ c.as_slice.ensures.value c.as_slice-2.ensures.value c.in-Some-false.field-0-test c.in-Some-false.ensures in
    sym (first_less _ _ _ _ c.self.invariant c.other.invariant found.0 found.1) ∙ seen_order _ _ _ _ c.self.view_is c.other.view_is

pub returns-in-None : goal.returns-in-None
returns-in-None c =
    let words = c.self.inside.words.items in
    let others = c.other.inside.words.items in
    let alike = subst (AreAlike words) c.as_slice-2.ensures.value (subst (λ (z : List ℕ). AreAlike z c.as_slice-2.result.now) c.as_slice.ensures.value c.in-None.ensures) in
    c.cmp.ensures
    ∙ sym (same_by_size words others c.self.inside.size c.other.inside.size c.self.invariant c.other.invariant alike)
    ∙ seen_order _ _ _ _ c.self.view_is c.other.view_is
