use Rattle.std.proofs.Common.{◌≡◌, ◌∙◌, ◌++◌, ◌∷◌, ap, sym, ℕ, ℤ, pos, to_z, List, [], length, rules, arith}
use Rattle.std.specs.Int.{w128}
use Rattle.std.proofs.lemmas.Int.{to_z_pos}
use Rattle.cert_make.proofs.WalkedTerms.{terms_all, terms_passed}
use Rattle.cert_make.proofs.flows.flow_of.Goals as goal

pub places-preserved : goal.places-preserved
places-preserved c =
    let row = c.args.row.now in
    let walk = c.places.walk in
    let flow = c.places.flow in
    let first = c.in-Some.ensures.next in
    let from = c.in-Some.ensures.from in
    let under = first.within in
    let p = c.in-Some.p in
    let entry = c.in-Some.entry in
    let whole : to_z w128 entry ≡ pos entry = to_z_pos w128 entry first.narrow in
    let pushed : c.push.new.self ≡ flow ++ (p, to_z w128 entry) ∷ [] = search rules in
    record {
      same = c.in-Some.ensures.same ∙ c.places.invariant.same;
      within = omega (arith, ap length c.places.invariant.same);
      flow = pushed ∙ ap (λ (z : ℤ). flow ++ (p, z) ∷ []) whole ∙ ap (λ (terms : List (ℕ × ℤ)). terms ++ (p, pos entry) ∷ []) c.places.invariant.flow ∙ sym (terms_passed row walk c.places.invariant.same p entry c.next.new.self.from first from);
    }

pub returns-clause-exact : goal.returns-clause-exact
returns-clause-exact c =
    c.places.invariant.flow ∙ terms_all c.args.row.now c.places.walk c.places.invariant.same c.places.invariant.within c.in_default.ensures.next
