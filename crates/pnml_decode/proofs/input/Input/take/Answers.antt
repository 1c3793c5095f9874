use Rattle.std.proofs.Common.{◌≡◌, ◌+◌, ◌≤◌, ◌++◌, ℕ, List, length, take, drop, subst, sym, ap, ◌∙◌, arith, append_assoc, take-add, length-drop}
use Rattle.std.proofs.lemmas.List.{take_rest}
use Rattle.pnml_decode.specs.Standing.{IsTaken}
use Rattle.pnml_decode.proofs.input.Input.take.Goals as goal

pub pieces-preserved : goal.pieces-preserved
pieces-preserved c =
    let piece = c.args.piece.now in
    let at = c.pieces.at in
    let n = c.in_ok-at.field-0 in
    let told = c.in_ok-at.ensures in
    let before = c.pieces.invariant in
    let rest = take_rest piece at in
    let within = subst (λ (xs : List ℕ). n ≤ length xs) rest told.within in
    record {
      taken = λ bytes start.
          let joined : (bytes ++ take at piece) ++ take n (drop at piece) ≡ bytes ++ take (at + n) piece =
          append_assoc bytes (take at piece) (take n (drop at piece)) ∙ ap (λ (xs : List ℕ). bytes ++ xs) (sym (take-add at n piece)) in
          subst (λ (xs : List ℕ). IsTaken c.take_some.new.self xs) joined
          (subst (λ (xs : List ℕ). IsTaken c.take_some.new.self ((bytes ++ take at piece) ++ take n xs)) rest (told.taken (bytes ++ take at piece) (before.taken bytes start)));
      counts = told.counts;
      within = omega (arith, within, before.within, length-drop at piece);
      room = omega (arith, told.room, before.room);
    }
