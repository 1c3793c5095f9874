use Rattle.std.proofs.Common.{◌≡◌, ◌∙◌, refl, ap, sym, subst, Bool, true, false, ◌++◌, List, ℕ, ltb, map, length, get_or, arith}
use Rattle.net_values.specs.Nodes.{node_id}
use Rattle.report.specs.Lines.{spaced}
use Rattle.report.specs.Texts.{passing, term}
use Rattle.report.proofs.Pieces.{IsJoined, grown}
use Rattle.report.proofs.WalkedTerms.{passes_here, passing_all, passing_before}
use Rattle.report.proofs.semiflow_texts.push_terms.Goals as goal

pub entries-preserved : goal.entries-preserved
entries-preserved c =
    let ids = node_id c.args.kind c.args.net.now in
    let entries = c.args.entries.now in
    let walk = c.entries.walk in
    let piece : ℕ → List ℕ = λ (k : ℕ). term (get_or entries k 0) (ids k) in
    let test : ℕ → Bool = λ (k : ℕ). ltb 0 (get_or entries k 0) in
    let i = c.in-Some.i in
    let first = c.in-Some.ensures.next in
    let from = c.in-Some.ensures.from in
    let under = first.within in
    let same = c.entries.invariant.same in
    let here = passes_here entries walk same i c.in-Some.entry first in
    let before : IsJoined true c.args.text.now c.entries.text (map piece (passing test i)) c.entries.is_first =
    subst (λ (numbers : List ℕ). IsJoined true c.args.text.now c.entries.text (map piece numbers) c.entries.is_first) (passing_before entries walk same i c.in-Some.entry first) c.entries.invariant.joined in
    let pushed : c.push_term.new.text ≡ c.push_space.new.text ++ piece i =
    c.in_ok-push_term.ensures ∙ ap (λ (e : ℕ). c.push_space.new.text ++ term e c.as_str.result.now) here.1 ∙ ap (λ (id : List ℕ). c.push_space.new.text ++ term (get_or entries i 0) id) (c.as_str.ensures ∙ c.node_id.ensures) in
    record {
      same = c.in-Some.ensures.same ∙ same;
      within = omega (arith, ap length same);
      joined = subst (λ (n : ℕ). IsJoined true c.args.text.now c.push_term.new.text (map piece (passing test n)) false) (sym from)
          (grown true piece test i _ _ c.push_space.new.text _ c.entries.is_first false before here.0 c.in_ok-push_space.ensures pushed refl);
    }

pub returns : goal.returns
returns c =
    let ids = node_id c.args.kind c.args.net.now in
    let entries = c.args.entries.now in
    c.entries.invariant.joined.text
    ∙ ap (λ (numbers : List ℕ). c.args.text.now ++ spaced true (map (λ (k : ℕ). term (get_or entries k 0) (ids k)) numbers)) (passing_all entries c.entries.walk c.entries.invariant.same c.entries.invariant.within c.in_default.ensures.next)
