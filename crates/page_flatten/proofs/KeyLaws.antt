-- A map whose keys are lent texts, seen as the list of their bytes with the values: what a look-up by bytes
-- says of that list.
use Rattle.std.proofs.Common.{◌≡◌, refl, sym, ap, ◌∙◌, subst, ℕ, zero, suc, Bool, true, false, true≢false, cond, nat_eq, List, [], ◌∷◌, ◌++◌, Option, Some, None, map, get_or, slice_get, Bor, position, is_some, not, MatchBool}
use Rattle.std.specs.Cmp.Lexicographic.{pointwise}
use Rattle.std.specs.Map.{lookup, keys_of}
use Rattle.std.proofs.lemmas.List.{map-append}
use Rattle.std.proofs.lemmas.Slice.Eq.{bytes_eq-Decides}
use Rattle.std.proofs.lemmas.Map.Entries.{place_from_lookup}
use Rattle.std.proofs.lemmas.Option.{none-some, get_or_from_slice_get}
use Rattle.std.proofs.lemmas.List.Quantifiers.{position-Some}
use Rattle.indexmap.specs.IndexMap.{IndexMap, insert_entry}
use Rattle.indexmap.proofs.CallerLemmas.{insert_entry-new}
use Rattle.page_flatten.proofs.Lists.{some_is, get_map}

-- a key has the bytes
abbrev pub has_bytes : List ℕ → Bor (List ℕ) → Bool
has_bytes id key = pointwise nat_eq id key.now

module _ {V : Type 0} where
  -- an entry with the bytes of its key
  abbrev pub seen : Bor (List ℕ) × V → List ℕ × V
  seen entry = (entry.0.now, entry.1)

  abbrev bytes_of : List (Bor (List ℕ) × V) → List (List ℕ)
  bytes_of entries = map (λ (entry : List ℕ × V). entry.0) (map seen entries)

  pub absent_bytes : (id : List ℕ) (entries : List (Bor (List ℕ) × V)) → lookup (has_bytes id) entries ≡ None → (n : ℕ) → slice_get (bytes_of entries) n ≡ Some id → ⊥
  absent_bytes id [] none n at = absurd cc
  absent_bytes id (e ∷ entries) none n at = go (has_bytes id e.0) refl n at (absent_bytes id entries)
    where
      go : (b : Bool) → has_bytes id e.0 ≡ b → (n : ℕ) → slice_get (bytes_of (e ∷ entries)) n ≡ Some id → (lookup (has_bytes id) entries ≡ None → (n : ℕ) → slice_get (bytes_of entries) n ≡ Some id → ⊥) → ⊥
      go true is n at rest = none-some e.1 (sym none ∙ ap (λ b. cond b (Some e.1) (lookup (has_bytes id) entries)) is)
      go false is zero at rest = true≢false (sym ((bytes_eq-Decides id e.0.now).1 (sym (some_is at))) ∙ is)
      go false is (suc n) at rest = rest (sym (ap (λ b. cond b (Some e.1) (lookup (has_bytes id) entries)) is) ∙ none) n at

  pub present_bytes : (id : List ℕ) (entries : List (Bor (List ℕ) × V)) (v : V) → lookup (has_bytes id) entries ≡ Some v → (n : ℕ) × (slice_get (bytes_of entries) n ≡ Some id)
  present_bytes id entries v found =
      let p = place_from_lookup (has_bytes id) entries v found in
      let same : id ≡ p.1.now = (bytes_eq-Decides id p.1.now).0 p.3 in
      (p.0, get_map (λ (entry : List ℕ × V). entry.0) (map seen entries) p.0 (p.1.now, v) (get_map seen entries p.0 (p.1, v) p.2) ∙ ap Some (sym same))

  -- what an insertion says of the list
  pub added : {S : Type 0} (old new : IndexMap (Bor (List ℕ)) V S) (key : Bor (List ℕ)) (id : List ℕ) (v : V) (was : Option V) (fresh : Bool) → key.now ≡ id → was ≡ lookup (has_bytes key.now) old.entries → new.entries ≡ insert_entry (λ a b. has_bytes a.now b) old.entries key v → is_some was ≡ not fresh
      → MatchBool fresh ((map seen new.entries ≡ map seen old.entries ++ (id, v) ∷ []) × ((n : ℕ) → slice_get (bytes_of old.entries) n ≡ Some id → ⊥)) ((n : ℕ) × (slice_get (bytes_of old.entries) n ≡ Some id))
  added old new key id v None true named was inserts is = (
    ap (map seen) (inserts ∙ insert_entry-new (λ a b. has_bytes a.now b) old key v (sym was)) ∙ map-append seen old.entries ((key, v) ∷ [])
        ∙ ap (λ (bytes : List ℕ). map seen old.entries ++ (bytes, v) ∷ []) named,
    subst (λ (bytes : List ℕ). (n : ℕ) → slice_get (bytes_of old.entries) n ≡ Some bytes → ⊥) named (absent_bytes key.now old.entries (sym was)),
  )
  added old new key id v None false named was inserts is = absurd (true≢false (sym is))
  added old new key id v (Some before) true named was inserts is = absurd (true≢false is)
  added old new key id v (Some before) false named was inserts is =
      subst (λ (bytes : List ℕ). (n : ℕ) × (slice_get (bytes_of old.entries) n ≡ Some bytes)) named (present_bytes key.now old.entries before (sym was))

  -- the entry at the place that a look-up finds has the bytes
  pub found_bytes : (id : List ℕ) (entries : List (Bor (List ℕ) × V)) (i : ℕ) (key : Bor (List ℕ)) (v : V) → Some i ≡ position (has_bytes id) (keys_of entries) → slice_get entries i ≡ Some (key, v) → slice_get (map seen entries) i ≡ Some (id, v)
  found_bytes id entries i key v place at =
      let p = position-Some (has_bytes id) (keys_of entries) i key (sym place) in
      let named : get_or (keys_of entries) i key ≡ key = get_or_from_slice_get (keys_of entries) i key key (get_map (λ (entry : Bor (List ℕ) × V). entry.0) entries i (key, v) at) in
      let same : id ≡ key.now = (bytes_eq-Decides id key.now).0 (ap (has_bytes id) (sym named) ∙ p.1) in
      get_map seen entries i (key, v) at ∙ ap (λ (bytes : List ℕ). Some (bytes, v)) (sym same)
