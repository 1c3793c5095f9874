-- the terms are written from the last to the first
use Rattle.std.proofs.Common.{◌≡◌, ◌∙◌, ap, subst, ℕ, ℤ, suc, set, ◌+◌, ◌-◌, ◌<◌, length, get_or, drop, slice_index, refl, arith}
use Rattle.std.specs.Prelude.{pos}
use Rattle.net_values.specs.Vectors.{positive_part}
use Rattle.certificates.specs.Conditions.{vector_of}
use Rattle.cert_check.proofs.Vectors.{number_kept, term_loaded}
use Rattle.cert_check.proofs.WalkLaws.{length_set}
use Rattle.cert_check.proofs.flows.load.Goals as goal

pub loop-k-preserved : goal.loop-k-preserved
loop-k-preserved c =
    let more : c.loop-k.k < length c.args.flow.now = c.loop-k-test.true in
    let below : length c.args.flow.now - 1 - c.loop-k.k < length c.args.flow.now = omega arith in
    let here : length c.args.flow.now - 1 - c.loop-k.k ≡ length c.args.flow.now - (c.loop-k.k + 1) = omega arith in
    let before : length c.args.flow.now - c.loop-k.k ≡ suc (length c.args.flow.now - 1 - c.loop-k.k) = omega arith in
    let place = c.requires.within (length c.args.flow.now - 1 - c.loop-k.k) (0, pos 0) below in
    let size = c.loop-k.invariant.size in
    let written : c.set.new.self ≡ set c.loop-k.y (get_or c.args.flow.now (length c.args.flow.now - 1 - c.loop-k.k) (0, pos 0)).0 (positive_part (get_or c.args.flow.now (length c.args.flow.now - 1 - c.loop-k.k) (0, pos 0)).1) =
    c.set.ensures ∙ ap (λ (z : ℤ). set c.loop-k.y (get_or c.args.flow.now (length c.args.flow.now - 1 - c.loop-k.k) (0, pos 0)).0 (positive_part z))
    (number_kept 1 (get_or c.args.flow.now (length c.args.flow.now - 1 - c.loop-k.k) (0, pos 0)).1 (c.requires.coefficients (length c.args.flow.now - 1 - c.loop-k.k) (0, pos 0) below))
    in
    record {
      size = length_set c.loop-k.y c.set.new.self _ _ c.set.ensures ∙ c.loop-k.invariant.size;
      vector = λ p.
          subst (λ (j : ℕ). slice_index c.set.new.self p ≡ vector_of (drop j c.args.flow.now) p) here
          (term_loaded c.args.flow.now (length c.args.flow.now - 1 - c.loop-k.k) (get_or c.args.flow.now (length c.args.flow.now - 1 - c.loop-k.k) (0, pos 0)) c.loop-k.y c.set.new.self below refl written
          (omega arith)
          (λ q. subst (λ (j : ℕ). slice_index c.loop-k.y q ≡ vector_of (drop j c.args.flow.now) q) before (c.loop-k.invariant.vector q)) p);
    }
