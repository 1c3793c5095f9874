-- The splits of a walk are at different places, so that each leaves one place less outside: there are at most as many
-- as places.
use Rattle.std.proofs.Common.{◌≡◌, refl, ℕ, zero, suc, ◌+◌, ◌<◌, ◌≤◌, ◌==◌, ◌||◌, List, Bool, false, arith}
use Rattle.std.proofs.lemmas.Bool.{or_left, or_right, eq-eqb}
use Rattle.net_values.specs.Net.{Net}
use Rattle.closed_sets.proofs.Outside.{outside, outside_lt, outside_most}
use Rattle.cert_check.specs.declared.walk.Level.{Level}
use Rattle.cert_check.specs.Walks.{IsFresh, level_at, used_of}

-- a set with a place more
one_place_more : (n : ℕ) (A : ℕ → Bool) (p : ℕ) → p < n → A p ≡ false → outside n (λ q. q == p || A q) < outside n A
one_place_more n A p below out =
    outside_lt n A (λ q. q == p || A q) p (λ k less member. or_right (k == p) (A k) member) below out (or_left (p == p) (A p) (eq-eqb p p refl))

levels_few : (net : Net) (levels : List Level) (d : ℕ) → ((e : ℕ) → e < d → IsFresh net levels e) → d + outside net.places (used_of levels d) ≤ net.places
levels_few net levels zero fresh = let most = outside_most net.places (used_of levels 0) in omega (arith, most)
levels_few net levels (suc d) fresh =
    let rest : d + outside net.places (used_of levels d) ≤ net.places = levels_few net levels d (λ e less. fresh e (omega arith)) in
    let here = fresh d (omega arith) in
    let less : outside net.places (used_of levels (suc d)) < outside net.places (used_of levels d) = one_place_more net.places (used_of levels d) (level_at levels d).place here.place here.unused in
    omega arith

-- where a place is used by none of the splits, there are fewer splits than places
pub room_left : (net : Net) (levels : List Level) (d p : ℕ) → ((e : ℕ) → e < d → IsFresh net levels e) → p < net.places → used_of levels d p ≡ false → d < net.places
room_left net levels d p fresh below unused =
    let few : d + outside net.places (used_of levels d) ≤ net.places = levels_few net levels d fresh in
    let less : outside net.places (λ q. q == p || used_of levels d q) < outside net.places (used_of levels d) = one_place_more net.places (used_of levels d) p below unused in
    omega arith
