use Rattle.std.proofs.Common.{◌≡◌, sym, ◌∙◌, subst, ℕ, ◌+◌, ◌<◌, Bool, true, false, List, Some, arith}
use Rattle.std.proofs.lemmas.Bool.{false≢true}
use Rattle.net_values.specs.PlaceSets.{has}
use Rattle.semiflow_elim.specs.Choices.{IsBest, IsBeaten}
use Rattle.semiflow_elim.specs.Counts.{candidates_at, counts_of}
use Rattle.semiflow_elim.proofs.Choosing.{up_to, best_skip, best_moves, beaten_by}
use Rattle.semiflow_elim.proofs.choice.best_of.Goals.{then-counts-j-gt0+then-not-contains+else-counts-j-gt0-2, then-counts-j-gt0-via-then-counts-j-gt0, then-counts-j-gt0-via-else-counts-j-gt0+then-is_fewer, then-counts-j-gt0+else-not-contains, else-counts-j-gt0+else-is_fewer}
use Rattle.semiflow_elim.proofs.choice.best_of.Goals as goal

pub loop-j-preserved : goal.loop-j-preserved
loop-j-preserved c =
    let taken = c.args.taken.now in
    let counts = c.args.counts.now in
    let j = c.loop-j.j in
    let count_at : ℕ → ℕ = candidates_at counts c.args.total in
    elim c.if-counts-j-gt0.branch [
      | then-counts-j-gt0+then-not-contains+else-counts-j-gt0-2 w ↦
          let out : has taken j ≡ false = sym w.contains.ensures ∙ w.if-not-contains.true in
          let beaten : IsBeaten c.loop-j.best c.candidates-count.result = elim w.then-counts-j-gt0.branch [
            | then-counts-j-gt0-via-then-counts-j-gt0 v ↦ let some = v.if-counts-j-gt0.true in let none = w.if-counts-j-gt0-2.false in absurd (omega arith)
            | then-counts-j-gt0-via-else-counts-j-gt0+then-is_fewer v ↦ v.is_fewer.ensures.fewer v.if-is_fewer.true
          ] in
          record {
            best = subst (IsBest taken count_at (j + 1)) (sym w.best-is) (best_moves taken count_at j c.loop-j.best c.candidates-count.result c.loop-j.invariant.best out c.candidates-count.ensures (beaten_by c.loop-j.best c.candidates-count.result beaten));
            narrow = up_to (λ i. has taken i ≡ false → (counts_of counts i).wide ≡ 0) j c.loop-j.invariant.narrow (λ free. let none = w.if-counts-j-gt0-2.false in omega arith);
          }
      | then-counts-j-gt0+else-not-contains w ↦
          let inside : has taken j ≡ true = sym w.contains.ensures ∙ w.if-not-contains.false in
          record {
            best = subst (IsBest taken count_at (j + 1)) (sym w.best-is) (best_skip taken count_at j c.loop-j.best inside c.loop-j.invariant.best);
            narrow = up_to (λ i. has taken i ≡ false → (counts_of counts i).wide ≡ 0) j c.loop-j.invariant.narrow (λ free. absurd (false≢true (sym free ∙ inside)));
          }
      | else-counts-j-gt0+else-is_fewer w ↦ record {
        best = subst (IsBest taken count_at (j + 1)) (sym w.best-is) (w.is_fewer.ensures.kept taken count_at j w.if-is_fewer.false c.candidates-count.ensures c.loop-j.invariant.best);
        narrow = up_to (λ i. has taken i ≡ false → (counts_of counts i).wide ≡ 0) j c.loop-j.invariant.narrow (λ free. let none = w.if-counts-j-gt0.false in omega arith);
      }
    ]
