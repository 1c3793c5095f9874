-- Each word that is taken is that of the next place.
use Rattle.std.proofs.Common.{◌+◌, sym, subst, ℕ, List, Bool, length}
use Rattle.branch_resume.specs.Lines.{IsSignedPlace}
use Rattle.branch_resume.proofs.Places.{IsTaken, taken_none, taken_more}
use Rattle.branch_resume.proofs.class_lines.take_places.Goals as goal

pub words-init : goal.words-init
words-init c = taken_none c.args.sign c.args.words.now c.args.set.now c.requires.empty

pub words-preserved : goal.words-preserved
words-preserved c =
    let is : IsSignedPlace c.args.sign c.words.least (length c.words.set) c.in-Some.word.now c.in-Some-signed_place.p =
    subst (λ (n : ℕ). IsSignedPlace c.args.sign c.words.least n c.in-Some.word.now c.in-Some-signed_place.p) c.size.ensures.value c.in-Some-signed_place.ensures in
    subst (λ (set : List Bool). IsTaken c.args.sign (length c.args.set.now) c.args.words.now set (c.in-Some-signed_place.p + 1) c.in-Some.after.now) (sym c.insert.ensures)
    (taken_more c.args.sign (length c.args.set.now) c.args.words.now c.words.set c.words.least c.words.left.now c.in-Some.word.now c.in-Some.after.now c.in-Some-signed_place.p c.words.invariant c.in-Some.ensures.words is)
