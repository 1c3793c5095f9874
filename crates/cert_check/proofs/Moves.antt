-- The three moves of a walk, and where it begins: each leaves the sets of the class that the walk is then at.
use Rattle.std.proofs.Common.{◌≡◌, refl, sym, ap, ◌∙◌, subst, ℕ, suc, ◌<◌, ◌==◌, ◌||◌, List, [], ◌∷◌, Bool, true, false, length, inl, inr, arith}
use Rattle.std.proofs.lemmas.Bool.{cases_eq}
use Rattle.net_values.specs.Net.{Net}
use Rattle.net_values.specs.PlaceSets.{has}
use Rattle.closed_sets.specs.ClosedSets.{IsGreatestSiphon}
use Rattle.closed_sets.specs.Commoner.{IsInitiallyEmpty}
use Rattle.closed_sets.specs.Opens.{AreLeaving}
use Rattle.certificates.specs.Conditions.{SiphonClass, all_siphons, without, containing}
use Rattle.cert_check.specs.declared.walk.Level.{Level}
use Rattle.cert_check.specs.declared.walk.Walk.{Walk}
use Rattle.cert_check.specs.Walks.{level_at, side, after_side, class_of, pending_of, used_of, allowed_in, saved_at, HasSizes, IsFresh, IsKnown, IsOnWay, IsAt, IsLeft, class_now, pending_now, Enters, Turns, Rises}
use Rattle.cert_check.proofs.Counts.{room_left}
use Rattle.cert_check.proofs.KnownClasses.{known_as, known_without, known_containing}
use Rattle.cert_check.proofs.WalkLaws.{class_same, pending_same, used_same, fresh_same, unused_outside, greatest_same, level_here, level_there, saved_here, saved_there, length_set, put, taken_out}

pub room_for : (net : Net) (walk : Walk) (p : ℕ) → IsOnWay net walk → p < net.places → has walk.used p ≡ false → walk.depth < net.places
room_for net walk p way below unused = room_left net walk.levels.items walk.depth p way.fresh below (sym (way.used p below) ∙ unused)

module _ (net : Net) (old new : Walk) (way : IsOnWay net old) where
  abbrev before : List Level
  before = old.levels.items

  abbrev after : List Level
  after = new.levels.items

  pub entered : (p : ℕ) → IsKnown net (class_now old) old.empty old.live → p < net.places → has old.used p ≡ false → Enters net old new p → IsAt net new × (class_now new ≡ without (class_now old) p) × (pending_now new ≡ containing (class_now old) p ∷ pending_now old)
  entered p known below unused h =
      let d = old.depth in
      let room : old.depth < net.places = room_for net old p way below unused in
      let inside : old.depth < length before = let size = way.sizes.levels in omega arith in
      let depth : new.depth ≡ suc old.depth = let is = h.depth in omega arith in
      let here : level_at after old.depth ≡ record { place = p; contained = false; empty = old.empty } = level_here before after old.depth _ h.levels inside in
      let there : (e : ℕ) → e < old.depth → level_at after e ≡ level_at before e = λ e less. level_there before after old.depth e _ h.levels (omega arith) in
      let places : (e : ℕ) → e < old.depth → (level_at after e).place ≡ (level_at before e).place = λ e less. ap (λ (level : Level). level.place) (there e less) in
      let class : class_of after (suc old.depth) ≡ without (class_of before old.depth) p =
      ap (λ (c : SiphonClass). side c (level_at after old.depth).place (level_at after old.depth).contained) (class_same before after old.depth there)
      ∙ ap (λ (level : Level). side (class_of before old.depth) level.place level.contained) here
      in
      let now : class_now new ≡ without (class_now old) p = ap (class_of after) depth ∙ class in
      let pending : pending_of after (suc old.depth) ≡ containing (class_of before old.depth) p ∷ pending_of before old.depth =
      ap (λ (c : SiphonClass). after_side c (level_at after old.depth).place (level_at after old.depth).contained (pending_of after old.depth)) (class_same before after old.depth there)
      ∙ ap (λ (level : Level). after_side (class_of before old.depth) level.place level.contained (pending_of after old.depth)) here
      ∙ ap (λ (classes : List SiphonClass). containing (class_of before old.depth) p ∷ classes) (pending_same before after old.depth there)
      in
      let free : used_of before old.depth p ≡ false = sym (way.used p below) ∙ unused in (
        record {
          way = record {
            sizes = record {
              levels = length_set before after old.depth _ h.levels ∙ way.sizes.levels;
              contained = ap length h.contained ∙ way.sizes.contained;
              used = length_set old.used new.used p true h.used ∙ way.sizes.used;
              live = h.size;
              count = length_set old.saved.items new.saved.items old.depth _ h.saved ∙ way.sizes.count;
              saved = λ e less. elim (cases_eq e old.depth) [
                | inl same ↦ ap (λ (k : ℕ). length (saved_at new.saved.items k)) same ∙ ap length (saved_here old.saved.items new.saved.items old.depth _ h.saved (let size = way.sizes.count in omega arith)) ∙ way.sizes.live
                | inr other ↦ ap length (saved_there old.saved.items new.saved.items old.depth e _ h.saved other) ∙ way.sizes.saved e less
              ];
              leaving = ap length h.leaving ∙ way.sizes.leaving;
              unmarked = ap length h.unmarked ∙ way.sizes.unmarked;
              trap = h.trap;
            };
            leaving = subst (λ (set : List Bool). AreLeaving net set new.leaving) (sym h.contained) (subst (AreLeaving net old.contained) (sym h.leaving) way.leaving);
            unmarked = subst (IsInitiallyEmpty net) (sym h.unmarked) way.unmarked;
            deep = omega arith;
            fresh = λ e less. elim (cases_eq e old.depth) [
              | inl same ↦ subst (IsFresh net after) (sym same) record {
                place = subst (λ (level : Level). level.place < net.places) (sym here) below;
                unused = ap (λ (level : Level). used_of after old.depth level.place) here ∙ used_same before after old.depth places p ∙ free;
              }
              | inr other ↦ fresh_same net before after e (λ f under. places f (omega arith)) (way.fresh e (omega arith))
            ];
            contained = λ q under. ap (λ (set : List Bool). has set q) h.contained ∙ way.contained q under ∙ ap (λ (c : SiphonClass). c.contains q) (sym now);
            used = λ q under. put net.places old.used new.used p (used_of before old.depth) h.used (let size = way.sizes.used in omega arith) way.used q under
                ∙ sym (ap (λ (k : ℕ). used_of after k q) depth ∙ ap (λ (level : Level). (q == level.place) || used_of after old.depth q) here ∙ ap (λ (b : Bool). (q == p) || b) (used_same before after old.depth places q));
            saved = λ e less. elim (cases_eq e old.depth) [
              | inl same ↦ subst (λ (k : ℕ). IsKnown net (class_of after k) (level_at after k).empty (saved_at new.saved.items k)) (sym same)
                  (known_as net (class_now old) (class_of after old.depth) old.empty (level_at after old.depth).empty old.live (saved_at new.saved.items old.depth)
                  (class_same before after old.depth there) (ap (λ (level : Level). level.empty) here)
                  (saved_here old.saved.items new.saved.items old.depth _ h.saved (let size = way.sizes.count in omega arith)) known)
              | inr other ↦
                  known_as net (class_of before e) (class_of after e) (level_at before e).empty (level_at after e).empty (saved_at old.saved.items e) (saved_at new.saved.items e)
                  (class_same before after e (λ f under. there f (omega arith))) (ap (λ (level : Level). level.empty) (there e (omega arith)))
                  (saved_there old.saved.items new.saved.items old.depth e _ h.saved other) (way.saved e (omega arith))
            ];
          };
          known = subst (λ (c : SiphonClass). IsKnown net c new.empty new.live) (sym now)
              (known_without net (class_now old) p old.contained old.live new.live old.empty new.empty way.sizes.live below way.contained known h.known);
        },
        now,
        ap (pending_of after) depth ∙ pending,
      )

  pub turned : (d : ℕ) → old.depth ≡ suc d → (level_at before d).contained ≡ false → Turns net old new d → IsAt net new × (pending_now old ≡ class_now new ∷ pending_now new)
  turned d deep first h =
      let p : ℕ = (level_at before d).place in
      let limit : d < net.places = let most = way.deep in omega arith in
      let inside : d < length before = let size = way.sizes.levels in omega arith in
      let depth : new.depth ≡ suc d = let is = h.depth in omega arith in
      let own = way.fresh d (omega arith) in
      let here : level_at after d ≡ record { place = (level_at before d).place; contained = true; empty = (level_at before d).empty } = level_here before after d _ h.levels inside in
      let there : (e : ℕ) → e < d → level_at after e ≡ level_at before e = λ e less. level_there before after d e _ h.levels (omega arith) in
      let places : (e : ℕ) → e < suc d → (level_at after e).place ≡ (level_at before e).place = λ e less. elim (cases_eq e d) [
        | inl same ↦ ap (λ (k : ℕ). (level_at after k).place) same ∙ ap (λ (level : Level). level.place) here ∙ ap (λ (k : ℕ). (level_at before k).place) (sym same)
        | inr other ↦ ap (λ (level : Level). level.place) (there e (omega arith))
      ] in
      let class : class_of after (suc d) ≡ containing (class_of before d) (level_at before d).place =
      ap (λ (c : SiphonClass). side c (level_at after d).place (level_at after d).contained) (class_same before after d there)
      ∙ ap (λ (level : Level). side (class_of before d) level.place level.contained) here
      in
      let now : class_now new ≡ containing (class_of before d) (level_at before d).place = ap (class_of after) depth ∙ class in
      let pending : pending_now new ≡ pending_of before d =
      ap (pending_of after) depth
      ∙ ap (λ (level : Level). after_side (class_of after d) level.place level.contained (pending_of after d)) here
      ∙ pending_same before after d there
      in
      let was : class_now old ≡ without (class_of before d) (level_at before d).place =
      ap (class_of before) deep ∙ ap (side (class_of before d) (level_at before d).place) first
      in
      let had : pending_now old ≡ containing (class_of before d) (level_at before d).place ∷ pending_of before d =
      ap (pending_of before) deep ∙ ap (λ (b : Bool). after_side (class_of before d) (level_at before d).place b (pending_of before d)) first
      in (
        record {
          way = record {
            sizes = record {
              levels = length_set before after d _ h.levels ∙ way.sizes.levels;
              contained = length_set old.contained new.contained (level_at before d).place true h.contained ∙ way.sizes.contained;
              used = ap length h.used ∙ way.sizes.used;
              live = ap length h.live ∙ way.sizes.saved d limit;
              count = ap length h.saved ∙ way.sizes.count;
              saved = λ e less. ap (λ (sets : List (List Bool)). length (saved_at sets e)) h.saved ∙ way.sizes.saved e less;
              leaving = h.size ∙ way.sizes.leaving;
              unmarked = ap length h.unmarked ∙ way.sizes.unmarked;
              trap = ap length h.trap ∙ way.sizes.trap;
            };
            leaving = h.leaving;
            unmarked = subst (IsInitiallyEmpty net) (sym h.unmarked) way.unmarked;
            deep = let most = way.deep in let is = h.depth in omega arith;
            fresh = λ e less. fresh_same net before after e (λ f under. places f (omega arith)) (way.fresh e (let is = h.depth in omega arith));
            contained = λ q under.
                put net.places old.contained new.contained (level_at before d).place (class_of before d).contains h.contained (let size = way.sizes.contained in let low = own.place in omega arith)
                (λ r low. way.contained r low ∙ ap (λ (c : SiphonClass). c.contains r) was) q under
                ∙ ap (λ (c : SiphonClass). c.contains q) (sym now);
            used = λ q under.
                ap (λ (set : List Bool). has set q) h.used ∙ way.used q under ∙ ap (λ (k : ℕ). used_of before k q) deep
                ∙ sym (used_same before after (suc d) places q) ∙ ap (λ (k : ℕ). used_of after k q) (sym depth);
            saved = λ e less.
                known_as net (class_of before e) (class_of after e) (level_at before e).empty (level_at after e).empty (saved_at old.saved.items e) (saved_at new.saved.items e)
                (class_same before after e (λ f under. there f (omega arith)))
                (elim (cases_eq e d) [
                  | inl same ↦ ap (λ (k : ℕ). (level_at after k).empty) same ∙ ap (λ (level : Level). level.empty) here ∙ ap (λ (k : ℕ). (level_at before k).empty) (sym same)
                  | inr other ↦ ap (λ (level : Level). level.empty) (there e (omega arith))
                ])
                (ap (λ (sets : List (List Bool)). saved_at sets e) h.saved) (way.saved e (omega arith));
          };
          known = subst (λ (c : SiphonClass). IsKnown net c new.empty new.live) (sym now)
              (known_containing net (class_of before d) (level_at before d).place new.empty new.live
              (known_as net (class_of before d) (class_of before d) (level_at before d).empty new.empty (saved_at old.saved.items d) new.live refl h.empty h.live (way.saved d (omega arith))));
        },
        had ∙ ap (λ (c : SiphonClass). c ∷ pending_of before d) (sym now) ∙ ap (λ (classes : List SiphonClass). class_now new ∷ classes) (sym pending),
      )

  pub risen : (d : ℕ) → old.depth ≡ suc d → (level_at before d).contained ≡ true → Rises net old new d → IsOnWay net new × (pending_now new ≡ pending_now old)
  risen d deep second h =
      let limit : d < net.places = let most = way.deep in omega arith in
      let own = way.fresh d (omega arith) in
      let free = unused_outside before d (level_at before d).place own.unused in
      let was : class_now old ≡ containing (class_of before d) (level_at before d).place =
      ap (class_of before) deep ∙ ap (side (class_of before d) (level_at before d).place) second
      in
      let had : pending_now old ≡ pending_of before d =
      ap (pending_of before) deep ∙ ap (λ (b : Bool). after_side (class_of before d) (level_at before d).place b (pending_of before d)) second
      in
      let now : class_now new ≡ class_of before d = ap (λ (levels : List Level). class_of levels new.depth) h.levels ∙ ap (class_of before) h.depth in (
        record {
          sizes = record {
            levels = ap length h.levels ∙ way.sizes.levels;
            contained = length_set old.contained new.contained (level_at before d).place false h.contained ∙ way.sizes.contained;
            used = length_set old.used new.used (level_at before d).place false h.used ∙ way.sizes.used;
            live = ap length h.live ∙ way.sizes.live;
            count = ap length h.saved ∙ way.sizes.count;
            saved = λ e less. ap (λ (sets : List (List Bool)). length (saved_at sets e)) h.saved ∙ way.sizes.saved e less;
            leaving = h.size ∙ way.sizes.leaving;
            unmarked = ap length h.unmarked ∙ way.sizes.unmarked;
            trap = ap length h.trap ∙ way.sizes.trap;
          };
          leaving = h.leaving;
          unmarked = subst (IsInitiallyEmpty net) (sym h.unmarked) way.unmarked;
          deep = let is = h.depth in omega arith;
          fresh = λ e less. subst (λ (levels : List Level). IsFresh net levels e) (sym h.levels) (way.fresh e (let is = h.depth in omega arith));
          contained = λ q under.
              taken_out net.places old.contained new.contained (level_at before d).place (class_of before d).contains h.contained (let size = way.sizes.contained in let low = own.place in omega arith) free.0
              (λ r low. way.contained r low ∙ ap (λ (c : SiphonClass). c.contains r) was) q under
              ∙ ap (λ (c : SiphonClass). c.contains q) (sym now);
          used = λ q under.
              taken_out net.places old.used new.used (level_at before d).place (used_of before d) h.used (let size = way.sizes.used in let low = own.place in omega arith) own.unused
              (λ r low. way.used r low ∙ ap (λ (k : ℕ). used_of before k r) deep) q under
              ∙ sym (ap (λ (levels : List Level). used_of levels new.depth q) h.levels ∙ ap (λ (k : ℕ). used_of before k q) h.depth);
          saved = λ e less.
              known_as net (class_of before e) (class_of after e) (level_at before e).empty (level_at after e).empty (saved_at old.saved.items e) (saved_at new.saved.items e)
              (ap (λ (levels : List Level). class_of levels e) h.levels) (ap (λ (levels : List Level). (level_at levels e).empty) h.levels)
              (ap (λ (sets : List (List Bool)). saved_at sets e) h.saved) (way.saved e (let is = h.depth in omega arith));
        },
        ap (λ (levels : List Level). pending_of levels new.depth) h.levels ∙ ap (pending_of before) h.depth ∙ sym had,
      )

-- a walk at the first of the classes
pub left_at : (net : Net) (walk : Walk) (classes : List SiphonClass) → IsAt net walk → classes ≡ class_now walk ∷ pending_now walk → IsLeft net walk classes
left_at net walk classes at same = subst (IsLeft net walk) (sym same) (at, refl, refl)

pub left_sizes : (net : Net) (walk : Walk) (classes : List SiphonClass) → IsLeft net walk classes → HasSizes net.places walk
left_sizes net walk [] left = left
left_sizes net walk (class ∷ classes) left = left.0.way.sizes

-- where no split is left to come up from, no class is pending
pub none_left : (net : Net) (walk : Walk) → IsOnWay net walk → walk.depth ≡ 0 → IsLeft net walk (pending_now walk)
none_left net walk way none = subst (IsLeft net walk) (sym (ap (pending_of walk.levels.items) none)) way.sizes

-- before any split
pub begun : (net : Net) (walk : Walk) (full : List Bool) → HasSizes net.places walk → AreLeaving net walk.contained walk.leaving → IsInitiallyEmpty net walk.unmarked → walk.depth ≡ 0 → walk.empty ≡ false → ((q : ℕ) → q < net.places → has walk.contained q ≡ false) → ((q : ℕ) → q < net.places → has walk.used q ≡ false) → ((q : ℕ) → q < net.places → has full q ≡ true) → IsGreatestSiphon net (has full) (has walk.live) → IsLeft net walk (all_siphons ∷ [])
begun net walk full sizes leaving empty none some contained used all live =
    let class : class_now walk ≡ all_siphons = ap (class_of walk.levels.items) none in (
      record {
        way = record {
          sizes = sizes;
          deep = omega arith;
          fresh = λ d less. absurd (omega arith);
          contained = λ q below. contained q below ∙ sym (ap (λ (c : SiphonClass). c.contains q) class);
          used = λ q below. used q below ∙ sym (ap (λ (k : ℕ). used_of walk.levels.items k q) none);
          saved = λ d less. absurd (omega arith);
          leaving = leaving;
          unmarked = empty;
        };
        known = known_as net all_siphons (class_now walk) false walk.empty walk.live walk.live class some refl
            (greatest_same net (has full) (allowed_in all_siphons) (has walk.live) all live);
      },
      class,
      ap (pending_of walk.levels.items) none,
    )
