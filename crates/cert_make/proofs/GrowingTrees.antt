-- A tree under way: it begins with the class of all siphons, and goes on with the parts of its last class, or meets
-- the siphon of that class.
use Rattle.std.proofs.Common.{◌≡◌, refl, sym, ap, ◌∙◌, subst, ℕ, ◌+◌, ◌<◌, ◌≤◌, List, [], ◌∷◌, ◌++◌, Bool, true, false, All, Some, length, get_or, map, reverse, set, append_assoc, arith}
use Rattle.std.proofs.lemmas.Bool.{not-true}
use Rattle.std.proofs.lemmas.List.{map-append, reverse-append}
use Rattle.std.proofs.lemmas.List.Elements.{All-nil, All-pop, All-push, Contains-get_or}
use Rattle.net_values.specs.Net.{Net}
use Rattle.net_values.specs.PlaceSets.{has}
use Rattle.net_values.specs.declared.limits.TheConstants.{MAX_PLACES}
use Rattle.closed_sets.specs.Commoner.{MeetsCommoner}
use Rattle.closed_sets.proofs.OpenSets.{placed}
use Rattle.siphon_branch.specs.declared.branch.Branch.{Branch}
use Rattle.siphon_branch.specs.declared.live_class.LiveClass.{LiveClass}
use Rattle.siphon_branch.specs.Classes.{every_set}
use Rattle.siphon_branch.specs.LiveClasses.{branch_of, branches_of, IsDead, IsHeld, IsLiveOf, IsNextPlace, IsWhole, part_containing, part_without}
use Rattle.siphon_branch.specs.Limits.{HasAtMostGrown, PassesLimit}
use Rattle.siphon_branch.specs.Searches.{IsDivided}
use Rattle.siphon_branch.proofs.Descending.{less_left}
use Rattle.siphon_branch.proofs.Divisions.{divided_dead, divided_leaf, divided_live}
use Rattle.siphon_branch.proofs.Halves.{next_below, next_free, next_left}
use Rattle.siphon_branch.proofs.HeldClasses.{dead_grown, held_only, step_dead, step_turned}
use Rattle.siphon_branch.proofs.Roots.{every_few, every_passes, zeros_have}
use Rattle.siphon_branch.proofs.Underway.{met_sized}
use Rattle.certificates.specs.declared.certificate.TreeLine.{TreeLine}
use Rattle.certificates.specs.declared.certificate.TreeLine.TheVariants.{Split, Empty, Trap}
use Rattle.certificates.specs.Conditions.{SiphonClass, all_siphons, without, containing}
use Rattle.cert_make.specs.declared.tree.Tree.{Tree}
use Rattle.cert_make.specs.Trees.{class_of, IsUnderway, last_first, LeadsTo, places_left}
use Rattle.cert_make.proofs.TreeMaking.{leads_more, leads_nowhere}

branches_push : (rest : List LiveClass) (class : LiveClass) → branches_of (rest ++ class ∷ []) ≡ branches_of rest ++ branch_of class ∷ []
branches_push rest class = map-append branch_of rest (class ∷ [])

first_push : (rest : List Branch) (class : Branch) → last_first (rest ++ class ∷ []) ≡ class_of class ∷ last_first rest
first_push rest class = ap reverse (map-append class_of rest (class ∷ [])) ∙ reverse-append (map class_of rest) (class_of class ∷ [])

-- the class of all siphons
every_is : (n : ℕ) → class_of (every_set n) ≡ all_siphons
every_is n = λ i. record { contains = λ q. zeros_have n q i; avoids = λ q. zeros_have n q i }

abbrev every : Net → Branch
every net = every_set net.places

-- it begins
module _ (net : Net) (all : Branch) (is : all ≡ every net) where
  every_leads : LeadsTo net (all_siphons ∷ []) [] (last_first (every net ∷ []))
  every_leads = subst (λ (k : SiphonClass). LeadsTo net (all_siphons ∷ []) [] (k ∷ [])) (sym (every_is net.places)) (leads_nowhere net (all_siphons ∷ []))

  pub begins_live : (class : LiveClass) → IsLiveOf net all class → (classes classes' : List LiveClass) (lines : List TreeLine) (met : List (List Bool)) → classes ≡ [] → classes' ≡ classes ++ class ∷ [] → lines ≡ [] → met ≡ [] → IsUnderway net classes' lines met
  begins_live class live classes classes' lines met none pushed no_line nothing =
      let last : classes' ≡ class ∷ [] = pushed ∙ ap (λ (xs : List LiveClass). xs ++ class ∷ []) none in
      let same : branches_of classes' ≡ every net ∷ [] = ap branches_of last ∙ ap (λ (c : Branch). c ∷ []) (live.same ∙ is) in
      record {
        live = subst (λ (xs : List LiveClass). All (IsHeld net) xs) (sym last) (All-push (IsHeld net) [] class (All-nil (IsHeld net)) live.held);
        leads = subst (λ (xs : List Branch). LeadsTo net (all_siphons ∷ []) lines (last_first xs)) (sym same)
            (subst (λ (list : List TreeLine). LeadsTo net (all_siphons ∷ []) list (last_first (every net ∷ []))) (sym no_line) every_leads);
        divided = subst (λ (xs : List Branch). IsDivided net (every net ∷ []) xs met) (sym same)
            (subst (λ (sets : List (List Bool)). IsDivided net (every net ∷ []) (every net ∷ []) sets) (sym nothing) (divided_live net (every net)));
      }

  pub begins_dead : IsDead net all → (classes : List LiveClass) (lines lines' : List TreeLine) (met : List (List Bool)) → classes ≡ [] → lines ≡ [] → lines' ≡ lines ++ Empty ∷ [] → met ≡ [] → IsUnderway net classes lines' met
  begins_dead dead classes lines lines' met none no_line pushed nothing =
      let dead' : IsDead net (every net) = subst (λ (c : Branch). IsDead net c) is dead in
      subst (λ (xs : List LiveClass). IsUnderway net xs lines' met) (sym none) record {
        live = All-nil (IsHeld net);
        leads = leads_more net (all_siphons ∷ []) lines lines' Empty (class_of (every net)) [] pushed tt dead'
            (subst (λ (list : List TreeLine). LeadsTo net (all_siphons ∷ []) list (last_first (every net ∷ []))) (sym no_line) every_leads);
        divided = subst (λ (sets : List (List Bool)). IsDivided net (every net ∷ []) [] sets) (sym nothing) (divided_dead net (every net) (dead_grown net (every net) dead'));
      }

-- the last class is in hand
hold_last : (net : Net) (rest : List LiveClass) (class : LiveClass) (lines : List TreeLine) (met : List (List Bool)) → All (IsHeld net) rest → IsHeld net class → LeadsTo net (all_siphons ∷ []) lines (class_of (branch_of class) ∷ last_first (branches_of rest)) → IsDivided net (every net ∷ []) (branches_of rest ++ branch_of class ∷ []) met → IsUnderway net (rest ++ class ∷ []) lines met
hold_last net rest class lines met live held leads divided = record {
  live = All-push (IsHeld net) rest class live held;
  leads = subst (λ (xs : List SiphonClass). LeadsTo net (all_siphons ∷ []) lines xs) (sym (ap last_first (branches_push rest class) ∙ first_push (branches_of rest) (branch_of class))) leads;
  divided = subst (λ (xs : List Branch). IsDivided net (every net ∷ []) xs met) (sym (branches_push rest class)) divided;
}

module _ (net : Net) (rest : List LiveClass) (class : LiveClass) (lines : List TreeLine) (met : List (List Bool)) where
  abbrev Before : List SiphonClass
  Before = last_first (branches_of rest)

  module _ (underway : IsUnderway net (rest ++ class ∷ []) lines met) where
    parted : All (IsHeld net) rest × IsHeld net class
    parted = All-pop (IsHeld net) (rest ++ class ∷ []) rest (Some class) refl underway.live

    pub in_hand : IsHeld net class
    in_hand = parted.1

    leads : LeadsTo net (all_siphons ∷ []) lines (class_of (branch_of class) ∷ Before)
    leads = subst (λ (xs : List SiphonClass). LeadsTo net (all_siphons ∷ []) lines xs) (ap last_first (branches_push rest class) ∙ first_push (branches_of rest) (branch_of class)) underway.leads

    divided : IsDivided net (every net ∷ []) (branches_of rest ++ branch_of class ∷ []) met
    divided = subst (λ (xs : List Branch). IsDivided net (every net ∷ []) xs met) (branches_push rest class) underway.divided

    -- its siphon is met
    pub leaf_met : MeetsCommoner net → IsWhole net (has class.contains) → (lines' : List TreeLine) (met' : List (List Bool)) → lines' ≡ lines ++ Trap ∷ [] → met' ≡ met ++ class.contains ∷ [] → IsUnderway net rest lines' met'
    leaf_met commoner all lines' met' pushed met_one =
        subst (λ (sets : List (List Bool)). IsUnderway net rest lines' sets) (sym met_one) record {
          live = parted.0;
          leads = leads_more net (all_siphons ∷ []) lines lines' Trap (class_of (branch_of class)) Before pushed tt (commoner (has class.contains) all.siphon all.some) leads;
          divided = divided_leaf net (every net ∷ []) (branches_of rest) (branch_of class) class.contains met in_hand.size (held_only net class in_hand all) divided;
        }

    -- it is parted at its next place
    module _ (limit : net.places ≤ MAX_PLACES) (p : ℕ) (next : IsNextPlace net (has class.contains) (has class.greatest) p) (lines' : List TreeLine) (split : lines' ≡ lines ++ Split p ∷ []) where
      abbrev Without : Branch
      Without = part_without (branch_of class) p

      abbrev Containing : Branch
      Containing = part_containing (branch_of class) p

      pub below : p < net.places
      below = next_below net (has class.contains) (has class.greatest) p next

      free : has class.avoids p ≡ false
      free = not-true (has class.avoids p) (in_hand.greatest.within p below (next_left net (has class.contains) (has class.greatest) p next))

      without_is : class_of Without ≡ without (class_of (branch_of class)) p
      without_is = λ i. record { contains = has class.contains; avoids = λ q. placed class.avoids p (omega (arith, below, in_hand.size.avoids)) q i }

      containing_is : class_of Containing ≡ containing (class_of (branch_of class)) p
      containing_is = λ i. record { contains = λ q. placed class.contains p (omega (arith, below, in_hand.size.contains)) q i; avoids = has class.avoids }

      splits : LeadsTo net (all_siphons ∷ []) lines' (class_of Without ∷ class_of Containing ∷ Before)
      splits =
          subst (λ (k : SiphonClass). LeadsTo net (all_siphons ∷ []) lines' (k ∷ class_of Containing ∷ Before)) (sym without_is)
          (subst (λ (k : SiphonClass). LeadsTo net (all_siphons ∷ []) lines' (without (class_of (branch_of class)) p ∷ k ∷ Before)) (sym containing_is)
          (leads_more net (all_siphons ∷ []) lines lines' (Split p) (class_of (branch_of class)) Before split (omega (arith, below, limit))
          (below, next_free net (has class.contains) (has class.greatest) p next, free) leads))

      module _ (class' : LiveClass) (held : IsHeld net class') (contains : class'.contains ≡ set class.contains p true) (avoids : class'.avoids ≡ class.avoids) where
        same : branch_of class' ≡ Containing
        same = λ i. record { contains = contains i; avoids = avoids i }

        -- one place more is contained
        pub containing_less : places_left (branch_of class') < places_left (branch_of class)
        containing_less =
            let less = less_left class.contains p (omega (arith, below, in_hand.size.contains)) (next_free net (has class.contains) (has class.greatest) p next) in
            subst (λ (c : Branch). places_left c < places_left (branch_of class)) (sym same) (omega (arith, less))

        -- the part without the place is dead, and has the line `empty`
        pub dead_part : IsDead net Without → (lines'' : List TreeLine) → lines'' ≡ lines' ++ Empty ∷ [] → IsUnderway net (rest ++ class' ∷ []) lines'' met
        dead_part dead lines'' pushed =
            hold_last net rest class' lines'' met parted.0 held
            (subst (λ (c : Branch). LeadsTo net (all_siphons ∷ []) lines'' (class_of c ∷ Before)) (sym same) (leads_more net (all_siphons ∷ []) lines' lines'' Empty (class_of Without) (class_of Containing ∷ Before) pushed tt dead splits))
            (subst (λ (c : Branch). IsDivided net (every net ∷ []) (branches_of rest ++ c ∷ []) met) (sym same) (step_dead net class in_hand p next (every net ∷ []) (branches_of rest) met dead divided))

        -- or it comes next
        module _ (part : LiveClass) (live : IsLiveOf net Without part) where
          pub without_less : places_left (branch_of part) < places_left (branch_of class)
          without_less =
              let less = less_left class.avoids p (omega (arith, below, in_hand.size.avoids)) free in
              subst (λ (c : Branch). places_left c < places_left (branch_of class)) (sym live.same) (omega (arith, less))

          pub live_part : (rest' : List LiveClass) → rest' ≡ rest ++ class' ∷ [] → IsUnderway net (rest' ++ part ∷ []) lines' met
          live_part rest' kept =
              let listed : branches_of rest' ≡ branches_of rest ++ Containing ∷ [] = ap branches_of kept ∙ branches_push rest class' ∙ ap (λ (c : Branch). branches_of rest ++ c ∷ []) same in
              let first : last_first (branches_of rest') ≡ class_of Containing ∷ Before = ap last_first listed ∙ first_push (branches_of rest) Containing in
              let both : branches_of rest' ++ branch_of part ∷ [] ≡ branches_of rest ++ Containing ∷ Without ∷ [] =
              ap (λ (xs : List Branch). xs ++ branch_of part ∷ []) listed ∙ append_assoc (branches_of rest) (Containing ∷ []) (branch_of part ∷ []) ∙ ap (λ (c : Branch). branches_of rest ++ Containing ∷ c ∷ []) live.same in
              hold_last net rest' part lines' met
              (subst (λ (xs : List LiveClass). All (IsHeld net) xs) (sym kept) (All-push (IsHeld net) rest class' parted.0 held)) live.held
              (subst (λ (c : Branch). LeadsTo net (all_siphons ∷ []) lines' (class_of c ∷ last_first (branches_of rest'))) (sym live.same)
              (subst (λ (xs : List SiphonClass). LeadsTo net (all_siphons ∷ []) lines' (class_of Without ∷ xs)) (sym first) splits))
              (subst (λ (xs : List Branch). IsDivided net (every net ∷ []) xs met) (sym both) (step_turned net class in_hand p next (every net ∷ []) (branches_of rest) met divided))

-- the way down a class: nothing is met on it
pub record IsDescending (net : Net) (first tree : Tree) (class : LiveClass) : Type 0 where
  pub underway : IsUnderway net (tree.classes ++ class ∷ []) tree.lines tree.met
  pub met : tree.met ≡ first.met
  pub left : length tree.left ≡ length first.left

-- the tree goes on, and has met no more than the limit
pub record GoesOn (net : Net) (tree : Tree) (limit : ℕ) : Type 0 where
  pub underway : IsUnderway net tree.classes tree.lines tree.met
  pub few : length tree.met ≤ limit
  pub left : length tree.left ≡ net.places

pub one_class : (net : Net) (classes rest : List LiveClass) (class : LiveClass) (lines : List TreeLine) (met : List (List Bool)) → classes ≡ rest ++ class ∷ [] → IsUnderway net classes lines met → IsUnderway net (rest ++ class ∷ []) lines met
one_class net classes rest class lines met popped underway = subst (λ (xs : List LiveClass). IsUnderway net xs lines met) popped underway

-- each set that was met has the size of the class
pub sizes_met : (net : Net) (rest : List LiveClass) (class : LiveClass) (lines : List TreeLine) (met : List (List Bool)) → IsUnderway net (rest ++ class ∷ []) lines met → All (λ set. length set ≡ length class.contains) met
sizes_met net rest class lines met underway k d within =
    met_sized net (every net ∷ []) (branches_of (rest ++ class ∷ [])) met underway.divided (get_or met k d) (Contains-get_or met k d within)
    ∙ sym (in_hand net rest class lines met underway).size.contains

pub passes_limit : (net : Net) (classes : List LiveClass) (lines : List TreeLine) (met : List (List Bool)) (limit : ℕ) → IsUnderway net classes lines met → length met ≡ limit + 1 → PassesLimit net limit met
passes_limit net classes lines met limit underway count = every_passes net (branches_of classes) met underway.divided limit count

-- it is whole where no class is left
module _ (net : Net) (classes : List LiveClass) (lines : List TreeLine) (met : List (List Bool)) (underway : IsUnderway net classes lines met) (none : classes ≡ []) where
  pub whole_tree : LeadsTo net (all_siphons ∷ []) lines []
  whole_tree = subst (λ (xs : List LiveClass). LeadsTo net (all_siphons ∷ []) lines (last_first (branches_of xs))) none underway.leads

  pub whole_met : (limit : ℕ) → length met ≤ limit → HasAtMostGrown net limit
  whole_met = every_few net met (subst (λ (xs : List LiveClass). IsDivided net (every net ∷ []) (branches_of xs) met) none underway.divided)

pub empty_from : {X : Type 0} (xs : List X) → (0 < length xs → ⊥) → xs ≡ []
empty_from [] none = refl
empty_from (x ∷ xs) none = absurd (none (omega arith))
