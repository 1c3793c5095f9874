-- The items of the sample net, piece by piece: what occurs at which number among its elements.
use Rattle.std.proofs.Common.{◌≡◌, ℕ, zero, suc, ◌+◌, ◌*◌, ◌<◌, List, ◌++◌, Some, map, ap, ◌∙◌, arith}
use Rattle.std.specs.Prelude.{slice_get, codes}
use Rattle.std.specs.List.{flat_map, range_with_len}
use Rattle.net_values.specs.declared.document.Item.{Item}
use Rattle.page_flatten.specs.declared.links.End.TheVariants.{AtPlace, AtTransition}
use Rattle.page_flatten.specs.Elements.{Element, Role, NoNode, Real, elements_from}
use Rattle.struct_core.specs.Sample.{numbered, place, transitions_of, arcs_of}

abbrev pub element : List ℕ → Role → Element
element id role = record { id = id; role = role }

-- ---- places

pub place_found : (word : List ℕ) (initial a k : ℕ) (rest : List Item) (p t j v q : ℕ) → j < k → v ≡ a + j → q ≡ p + j
    → slice_get (elements_from (map (place word initial) (range_with_len a k) ++ rest) p t) j ≡ Some (element (numbered word v) (Real (AtPlace q)))
place_found word initial a zero rest p t j v q below number spot = absurd (omega (arith, below))
place_found word initial a (suc k) rest p t zero v q below number spot =
    let first : a ≡ v = omega (arith, number) in
    let here : p ≡ q = omega (arith, spot) in
    ap (λ (n : ℕ). Some (element (numbered word n) (Real (AtPlace p)))) first ∙ ap (λ (n : ℕ). Some (element (numbered word v) (Real (AtPlace n)))) here
place_found word initial a (suc k) rest p t (suc j) v q below number spot =
    place_found word initial (a + 1) k rest (p + 1) t j v q (omega (arith, below)) (omega (arith, number)) (omega (arith, spot))

pub places_passed : (word : List ℕ) (initial a k : ℕ) (rest : List Item) (p t j i q : ℕ) → j ≡ k + i → q ≡ p + k
    → slice_get (elements_from (map (place word initial) (range_with_len a k) ++ rest) p t) j ≡ slice_get (elements_from rest q t) i
places_passed word initial a zero rest p t j i q number spot =
    let same : j ≡ i = omega (arith, number) in
    let here : p ≡ q = omega (arith, spot) in
    ap (λ (n : ℕ). slice_get (elements_from rest p t) n) same ∙ ap (λ (n : ℕ). slice_get (elements_from rest n t) i) here
places_passed word initial a (suc k) rest p t zero i q number spot = absurd (omega (arith, number))
places_passed word initial a (suc k) rest p t (suc j) i q number spot =
    places_passed word initial (a + 1) k rest (p + 1) t j i q (omega (arith, number)) (omega (arith, spot))

-- ---- transitions

pub take_found : (a k : ℕ) (rest : List Item) (p t i j v q : ℕ) → i < k → j ≡ 2 * i → v ≡ a + i → q ≡ t + 2 * i
    → slice_get (elements_from (flat_map transitions_of (range_with_len a k) ++ rest) p t) j ≡ Some (element (numbered (codes "take") v) (Real (AtTransition q)))
take_found a zero rest p t i j v q below twice number spot = absurd (omega (arith, below))
take_found a (suc k) rest p t i zero v q below twice number spot =
    let first : a ≡ v = omega (arith, number, twice) in
    let here : t ≡ q = omega (arith, spot, twice) in
    ap (λ (n : ℕ). Some (element (numbered (codes "take") n) (Real (AtTransition t)))) first ∙ ap (λ (n : ℕ). Some (element (numbered (codes "take") v) (Real (AtTransition n)))) here
take_found a (suc k) rest p t i (suc zero) v q below twice number spot = absurd (omega (arith, twice))
take_found a (suc k) rest p t zero (suc (suc j)) v q below twice number spot = absurd (omega (arith, twice))
take_found a (suc k) rest p t (suc i) (suc (suc j)) v q below twice number spot =
    take_found (a + 1) k rest p (t + 1 + 1) i j v q (omega (arith, below)) (omega (arith, twice)) (omega (arith, number)) (omega (arith, spot))

pub release_found : (a k : ℕ) (rest : List Item) (p t i j v q : ℕ) → i < k → j ≡ 2 * i + 1 → v ≡ a + i → q ≡ t + 2 * i + 1
    → slice_get (elements_from (flat_map transitions_of (range_with_len a k) ++ rest) p t) j ≡ Some (element (numbered (codes "release") v) (Real (AtTransition q)))
release_found a zero rest p t i j v q below twice number spot = absurd (omega (arith, below))
release_found a (suc k) rest p t i zero v q below twice number spot = absurd (omega (arith, twice))
release_found a (suc k) rest p t i (suc zero) v q below twice number spot =
    let first : a ≡ v = omega (arith, number, twice) in
    let here : t + 1 ≡ q = omega (arith, spot, twice) in
    ap (λ (n : ℕ). Some (element (numbered (codes "release") n) (Real (AtTransition (t + 1))))) first ∙ ap (λ (n : ℕ). Some (element (numbered (codes "release") v) (Real (AtTransition n)))) here
release_found a (suc k) rest p t zero (suc (suc j)) v q below twice number spot = absurd (omega (arith, twice))
release_found a (suc k) rest p t (suc i) (suc (suc j)) v q below twice number spot =
    release_found (a + 1) k rest p (t + 1 + 1) i j v q (omega (arith, below)) (omega (arith, twice)) (omega (arith, number)) (omega (arith, spot))

pub transitions_passed : (a k : ℕ) (rest : List Item) (p t j i q : ℕ) → j ≡ 2 * k + i → q ≡ t + 2 * k
    → slice_get (elements_from (flat_map transitions_of (range_with_len a k) ++ rest) p t) j ≡ slice_get (elements_from rest p q) i
transitions_passed a zero rest p t j i q number spot =
    let same : j ≡ i = omega (arith, number) in
    let here : t ≡ q = omega (arith, spot) in
    ap (λ (n : ℕ). slice_get (elements_from rest p t) n) same ∙ ap (λ (n : ℕ). slice_get (elements_from rest p n) i) here
transitions_passed a (suc k) rest p t zero i q number spot = absurd (omega (arith, number))
transitions_passed a (suc k) rest p t (suc zero) i q number spot = absurd (omega (arith, number))
transitions_passed a (suc k) rest p t (suc (suc j)) i q number spot =
    transitions_passed (a + 1) k rest p (t + 1 + 1) j i q (omega (arith, number)) (omega (arith, spot))

-- ---- arcs

numbered_as : (m v : ℕ) → m ≡ v → Some (element (numbered (codes "a") m) NoNode) ≡ Some (element (numbered (codes "a") v) NoNode)
numbered_as m v same = ap (λ (n : ℕ). Some (element (numbered (codes "a") n) NoNode)) same

pub arc_found : (n a k : ℕ) (rest : List Item) (p t j v : ℕ) → j < 8 * k → v ≡ 8 * a + j
    → slice_get (elements_from (flat_map (arcs_of n) (range_with_len a k) ++ rest) p t) j ≡ Some (element (numbered (codes "a") v) NoNode)
arc_found n a zero rest p t j v below number = absurd (omega (arith, below))
arc_found n a (suc k) rest p t zero v below number = numbered_as (8 * a) v (omega (arith, number))
arc_found n a (suc k) rest p t (suc zero) v below number = numbered_as (8 * a + 1) v (omega (arith, number))
arc_found n a (suc k) rest p t (suc (suc zero)) v below number = numbered_as (8 * a + 2) v (omega (arith, number))
arc_found n a (suc k) rest p t (suc (suc (suc zero))) v below number = numbered_as (8 * a + 3) v (omega (arith, number))
arc_found n a (suc k) rest p t (suc (suc (suc (suc zero)))) v below number = numbered_as (8 * a + 4) v (omega (arith, number))
arc_found n a (suc k) rest p t (suc (suc (suc (suc (suc zero))))) v below number = numbered_as (8 * a + 5) v (omega (arith, number))
arc_found n a (suc k) rest p t (suc (suc (suc (suc (suc (suc zero)))))) v below number = numbered_as (8 * a + 6) v (omega (arith, number))
arc_found n a (suc k) rest p t (suc (suc (suc (suc (suc (suc (suc zero))))))) v below number = numbered_as (8 * a + 7) v (omega (arith, number))
arc_found n a (suc k) rest p t (suc (suc (suc (suc (suc (suc (suc (suc j)))))))) v below number =
    arc_found n (a + 1) k rest p t j v (omega (arith, below)) (omega (arith, number))

pub arcs_passed : (n a k : ℕ) (rest : List Item) (p t j i : ℕ) → j ≡ 8 * k + i
    → slice_get (elements_from (flat_map (arcs_of n) (range_with_len a k) ++ rest) p t) j ≡ slice_get (elements_from rest p t) i
arcs_passed n a zero rest p t j i number =
    let same : j ≡ i = omega (arith, number) in ap (λ (m : ℕ). slice_get (elements_from rest p t) m) same
arcs_passed n a (suc k) rest p t zero i number = absurd (omega (arith, number))
arcs_passed n a (suc k) rest p t (suc zero) i number = absurd (omega (arith, number))
arcs_passed n a (suc k) rest p t (suc (suc zero)) i number = absurd (omega (arith, number))
arcs_passed n a (suc k) rest p t (suc (suc (suc zero))) i number = absurd (omega (arith, number))
arcs_passed n a (suc k) rest p t (suc (suc (suc (suc zero)))) i number = absurd (omega (arith, number))
arcs_passed n a (suc k) rest p t (suc (suc (suc (suc (suc zero))))) i number = absurd (omega (arith, number))
arcs_passed n a (suc k) rest p t (suc (suc (suc (suc (suc (suc zero)))))) i number = absurd (omega (arith, number))
arcs_passed n a (suc k) rest p t (suc (suc (suc (suc (suc (suc (suc zero))))))) i number = absurd (omega (arith, number))
arcs_passed n a (suc k) rest p t (suc (suc (suc (suc (suc (suc (suc (suc j)))))))) i number =
    arcs_passed n (a + 1) k rest p t j i (omega (arith, number))
