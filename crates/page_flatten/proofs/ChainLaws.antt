-- Chains of links: each has one end and one length, a chain that ends is shorter than the table, and a link
-- may lead straight to the end of its chain.
use Rattle.std.proofs.Common.{◌≡◌, ◌≢◌, refl, sym, ap, ◌∙◌, subst, ℕ, zero, suc, ◌+◌, ◌<◌, ◌≤◌, List, [], ◌∷◌, Option, Some, length, set, slice_get, inl, inr, arith}
use Rattle.std.proofs.lemmas.Bool.{cases_eq}
use Rattle.page_flatten.specs.declared.links.End.{End}
use Rattle.page_flatten.specs.declared.links.Link.{Link}
use Rattle.page_flatten.specs.declared.links.Link.TheVariants.{Apart, Ends, Leads}
use Rattle.net_values.specs.declared.node_kind.NodeKind.{NodeKind}
use Rattle.page_flatten.specs.Elements.{ReferenceTo}
use Rattle.page_flatten.specs.Rules.{AreDistinct}
use Rattle.page_flatten.specs.Tables.{table_ids, EndsIn, EndsAt, EndsById, HaveSameEnds, ItsLinksEnd}
use Rattle.page_flatten.proofs.Numbering.{one_number}
use Rattle.page_flatten.proofs.Lists.{some_is, same_read, set_same, set_other}

pub end_is : {a b : End} → Ends a ≡ Ends b → a ≡ b
end_is e = cc

pub lead_is : {a b : ℕ} → Leads a ≡ Leads b → a ≡ b
lead_is e = cc

pub not_both : {end : End} {m : ℕ} → Ends end ≡ Leads m → ⊥
not_both e = cc

pub one_end : (s t : ℕ) (links : List Link) (n : ℕ) (a b : End) → EndsIn s links n a → EndsIn t links n b → (s ≡ t) × (a ≡ b)
one_end zero zero links n a b h k = (refl, end_is (same_read links n h k))
one_end zero (suc t) links n a b h k = absurd (not_both (same_read links n h k.1))
one_end (suc s) zero links n a b h k = absurd (not_both (same_read links n k h.1))
one_end (suc s) (suc t) links n a b h k =
    let same : k.0 ≡ h.0 = lead_is (same_read links n k.1 h.1) in
    let rest = one_end s t links h.0 a b h.2 (subst (λ m. EndsIn t links m b) same k.2) in
    (ap suc rest.0, rest.1)

-- a chain that passes a link goes on after it
pub goes_on : (s : ℕ) (links : List Link) (n m : ℕ) (end : End) → slice_get links n ≡ Some (Leads m) → EndsIn s links n end → (t : ℕ) × (s ≡ suc t) × EndsIn t links m end
goes_on zero links n m end at h = absurd (not_both (same_read links n h at))
goes_on (suc s) links n m end at h = (s, refl, subst (λ l. EndsIn s links l end) (lead_is (same_read links n h.1 at)) h.2)

-- the number of links that lead on
abbrev pub open_links : List Link → ℕ
open_links [] = 0
open_links (Apart ∷ links) = open_links links
open_links (Ends end ∷ links) = open_links links
open_links (Leads n ∷ links) = suc (open_links links)

pub open_fewer : (links : List Link) (n m : ℕ) (end : End) → slice_get links n ≡ Some (Leads m) → open_links links ≡ suc (open_links (set links n (Ends end)))
open_fewer [] n m end at = absurd cc
open_fewer (Apart ∷ links) zero m end at = absurd cc
open_fewer (Ends e ∷ links) zero m end at = absurd cc
open_fewer (Leads l ∷ links) zero m end at = refl
open_fewer (Apart ∷ links) (suc n) m end at = open_fewer links n m end at
open_fewer (Ends e ∷ links) (suc n) m end at = open_fewer links n m end at
open_fewer (Leads l ∷ links) (suc n) m end at = ap suc (open_fewer links n m end at)

open_most : (links : List Link) → open_links links ≤ length links
open_most [] = omega arith
open_most (Apart ∷ links) = let h = open_most links in omega arith
open_most (Ends e ∷ links) = let h = open_most links in omega arith
open_most (Leads l ∷ links) = let h = open_most links in omega arith

open_below : (links : List Link) (n : ℕ) (end : End) → slice_get links n ≡ Some (Ends end) → open_links links < length links
open_below [] n end at = absurd cc
open_below (Apart ∷ links) zero end at = absurd cc
open_below (Ends e ∷ links) zero end at = let h = open_most links in omega arith
open_below (Leads l ∷ links) zero end at = absurd cc
open_below (Apart ∷ links) (suc n) end at = let h = open_below links n end at in omega arith
open_below (Ends e ∷ links) (suc n) end at = let h = open_below links n end at in omega arith
open_below (Leads l ∷ links) (suc n) end at = let h = open_below links n end at in omega arith

-- a chain that ends stays as it is where the link of an element before it is changed
passes_by : (s t : ℕ) (links : List Link) (n m : ℕ) (end : End) → EndsIn s links n end → t < s → EndsIn t links m end → EndsIn t (set links n (Ends end)) m end
passes_by s zero links n m end longer below h =
    let apart : m ≢ n = λ e. let same = (one_end s zero links n end end longer (subst (λ l. EndsIn zero links l end) e h)).0 in omega arith in
    set_other links n m (Ends end) apart ∙ h
passes_by s (suc t) links n m end longer below h =
    let apart : m ≢ n = λ e. let same = (one_end s (suc t) links n end end longer (subst (λ l. EndsIn (suc t) links l end) e h)).0 in omega arith in
    (h.0, set_other links n m (Ends end) apart ∙ h.1, passes_by s t links n h.0 end longer (omega arith) h.2)

few_steps : (s : ℕ) (links : List Link) (n : ℕ) (end : End) → EndsIn s links n end → s ≤ open_links links
few_steps zero links n end h = omega arith
few_steps (suc s) links n end h =
    let rest = few_steps s (set links n (Ends end)) h.0 end (passes_by (suc s) s links n h.0 end h (omega arith) h.2) in
    let fewer = open_fewer links n h.0 end h.1 in
    omega arith

pub has_end : (s : ℕ) (links : List Link) (n : ℕ) (end : End) → EndsIn s links n end → (m : ℕ) × (slice_get links m ≡ Some (Ends end))
has_end zero links n end h = (n, h)
has_end (suc s) links n end h = has_end s links h.0 end h.2

-- a chain that ends passes fewer links than there are
pub short : (s : ℕ) (links : List Link) (n : ℕ) (end : End) → EndsIn s links n end → s < length links
short s links n end h =
    let few = few_steps s links n end h in
    let last = has_end s links n end h in
    let below = open_below links last.0 end last.1 in
    omega arith

pub same_ends_here : (links : List Link) → HaveSameEnds links links
same_ends_here links = record { kept = λ n end h. h; sound = λ n end h. h }

pub same_ends_then : (a b c : List Link) → HaveSameEnds a b → HaveSameEnds b c → HaveSameEnds a c
same_ends_then a b c one other = record {
  kept = λ n end h. other.kept n end (one.kept n end h);
  sound = λ n end h. one.sound n end (other.sound n end h);
}

-- a link that leads straight to the end of its chain leaves all ends as they were
module _ (links : List Link) (n m : ℕ) (end : End) (at : slice_get links n ≡ Some (Leads m)) (ends : EndsAt links n end) where
  written : slice_get (set links n (Ends end)) n ≡ Some (Ends end)
  written = set_same links n (Leads m) (Ends end) at

  kept_here : (s : ℕ) (k : ℕ) (a : End) → EndsIn s links k a → k ≡ n → EndsAt (set links n (Ends end)) k a
  kept_here s k a h same =
      let is : end ≡ a = (one_end ends.steps s links n end a ends.chain (subst (λ l. EndsIn s links l a) same h)).1 in
      subst (λ l. EndsAt (set links n (Ends end)) l a) (sym same) (record { steps = 0; chain = written ∙ ap (λ e. Some (Ends e)) is })

  kept_all : (s : ℕ) (k : ℕ) (a : End) → EndsIn s links k a → EndsAt (set links n (Ends end)) k a
  kept_all zero k a h = elim (cases_eq k n) [
    | inl same ↦ kept_here zero k a h same
    | inr other ↦ record { steps = 0; chain = set_other links n k (Ends end) other ∙ h }
  ]
  kept_all (suc s) k a h =
      let rest = kept_all s h.0 a h.2 in
      elim (cases_eq k n) [
        | inl same ↦ kept_here (suc s) k a h same
        | inr other ↦ record { steps = suc rest.steps; chain = (h.0, set_other links n k (Ends end) other ∙ h.1, rest.chain) }
      ]

  sound_here : (s : ℕ) (a : End) → EndsIn s (set links n (Ends end)) n a → end ≡ a
  sound_here zero a h = end_is (some_is (sym written ∙ h))
  sound_here (suc s) a h = absurd (not_both (some_is (sym written ∙ h.1)))

  sound_all : (s : ℕ) (k : ℕ) (a : End) → EndsIn s (set links n (Ends end)) k a → EndsAt links k a
  sound_all zero k a h = elim (cases_eq k n) [
    | inl same ↦
        let is : end ≡ a = sound_here zero a (subst (λ l. EndsIn zero (set links n (Ends end)) l a) same h) in
        subst (λ l. EndsAt links l a) (sym same) (subst (λ e. EndsAt links n e) is ends)
    | inr other ↦ record { steps = 0; chain = sym (set_other links n k (Ends end) other) ∙ h }
  ]
  sound_all (suc s) k a h =
      let rest = sound_all s h.0 a h.2 in
      elim (cases_eq k n) [
        | inl same ↦
            let is : end ≡ a = sound_here (suc s) a (subst (λ l. EndsIn (suc s) (set links n (Ends end)) l a) same h) in
            subst (λ l. EndsAt links l a) (sym same) (subst (λ e. EndsAt links n e) is ends)
        | inr other ↦ record { steps = suc rest.steps; chain = (h.0, sym (set_other links n k (Ends end) other) ∙ h.1, rest.chain) }
      ]

  pub same_ends_set : HaveSameEnds links (set links n (Ends end))
  same_ends_set = record { kept = λ k a h. kept_all h.steps k a h.chain; sound = λ k a h. sound_all h.steps k a h.chain }

-- after this many references from the start the walk is at this element: chains from there end where the chain
-- from the start does, and are so much shorter
pub record IsFollowed (links : List Link) (start steps at : ℕ) : Type 0 where
  pub kept : (end : End) → EndsAt links at end → EndsAt links start end
  pub left : (s : ℕ) (end : End) → EndsIn s links start end → (t : ℕ) × (s ≡ t + steps) × EndsIn t links at end

pub followed_none : (links : List Link) (start : ℕ) → IsFollowed links start 0 start
followed_none links start = record { kept = λ end h. h; left = λ s end h. (s, omega arith, h) }

pub followed_more : (links : List Link) (start steps at next : ℕ) → slice_get links at ≡ Some (Leads next) → IsFollowed links start steps at → IsFollowed links start (steps + 1) next
followed_more links start steps at next leads before = record {
  kept = λ end h. before.kept end (record { steps = suc h.steps; chain = (next, leads, h.chain) });
  left = λ s end h.
      let old = before.left s end h in
      let new = goes_on old.0 links at next end leads old.2 in
      (new.0, omega (arith, old.1, new.1), new.2);
}

-- where as many references were followed as there are links, the chain doesn't end
pub followed_all : (links : List Link) (start steps at : ℕ) → length links ≤ steps → IsFollowed links start steps at → (end : End) → EndsAt links start end → ⊥
followed_all links start steps at all followed end h =
    let rest = followed.left h.steps end h.chain in
    let few = short h.steps links start end h.chain in
    omega (arith, rest.1)

-- where the walk is at no place, transition or reference, the chain doesn't end
pub followed_off : (links : List Link) (start steps at : ℕ) → ((end : End) → slice_get links at ≡ Some (Ends end) → ⊥) → ((m : ℕ) → slice_get links at ≡ Some (Leads m) → ⊥) → IsFollowed links start steps at → (end : End) → EndsAt links start end → ⊥
followed_off links start steps at no_end no_lead followed end h = let rest = followed.left h.steps end h.chain in go rest.0 rest.2
  where
    go : (t : ℕ) → EndsIn t links at end → ⊥
    go zero here = no_end end here
    go (suc t) here = no_lead here.0 here.1

-- tables of links with the same ends give each id the same ends
module _ (table : List (List ℕ × Option NodeKind)) (old new : List Link) (same : HaveSameEnds old new) where
  pub kept_by_id : (id : List ℕ) (end : End) → EndsById table old id end → EndsById table new id end
  kept_by_id id end h = record { number = h.number; kind = h.kind; occurs = h.occurs; ends = same.kept h.number end h.ends }

  pub sound_by_id : (id : List ℕ) (end : End) → EndsById table new id end → EndsById table old id end
  sound_by_id id end h = record { number = h.number; kind = h.kind; occurs = h.occurs; ends = same.sound h.number end h.ends }

  pub kept_reference : (reference : ReferenceTo) → ItsLinksEnd table old reference → ItsLinksEnd table new reference
  kept_reference reference h = (h.0, kept_by_id reference.target h.0 h.1)

  pub sound_reference : (reference : ReferenceTo) → ItsLinksEnd table new reference → ItsLinksEnd table old reference
  sound_reference reference h = (h.0, sound_by_id reference.target h.0 h.1)

-- the chain by the one number that an id has
pub ends_at_number : (table : List (List ℕ × Option NodeKind)) (links : List Link) → AreDistinct (table_ids table) → (n : ℕ) (id : List ℕ) (kind : Option NodeKind) (end : End) → slice_get table n ≡ Some (id, kind) → EndsById table links id end → EndsAt links n end
ends_at_number table links distinct n id kind end at h =
    subst (λ m. EndsAt links m end) (one_number table distinct h.number n id (Some h.kind) kind h.occurs at) h.ends
