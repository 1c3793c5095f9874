use Rattle.std.proofs.Common.{◌≡◌, ◌∙◌, ap, sym, subst, ℕ, List, MatchOption, length, rules}
use Rattle.std.specs.Ordering.{nat_cmp}
use Rattle.std.specs.declared.cmp.Ordering.TheVariants.{Equal}
use Rattle.net_values.specs.Vectors.{AreZerosFrom, IsFirstPositive}
use Rattle.net_values.proofs.VectorOrder.{ends_alike, ends_first, next_decides}
use Rattle.net_values.proofs.vector.VectorOrd.cmp.Goals as goal

pub returns-then-ne : goal.returns-then-ne
returns-then-ne c =
    let i = c.entries.invariant in
    let from = c.entries.walk.from in
    let next = c.in-Some.next in
    let other = c.next-in-Some.result in
    let first = subst (λ (es : List ℕ). IsFirstPositive es from next.0 next.1) i.first c.in-Some.ensures.next in
    let second = subst (λ (es : List ℕ). MatchOption other (AreZerosFrom es from) (λ g. IsFirstPositive es from g.0 g.1)) i.second
    (subst (λ (n : ℕ). MatchOption other (AreZerosFrom c.entries.others.entries n) (λ g. IsFirstPositive c.entries.others.entries n g.0 g.1)) i.place c.next-in-Some.ensures.next) in
    let apart : c.order_at-order.result ≡ Equal → ⊥ = search rules in
    c.order_at-order.ensures ∙ next_decides c.args.self.now c.args.other.now from i.same next.0 next.1 other first second (λ equal. apart (c.order_at-order.ensures ∙ equal))

pub returns-in-Some-next : goal.returns-in-Some-next
returns-in-Some-next c =
    let i = c.entries.invariant in
    let from = c.entries.walk.from in
    let next = c.in-Some-next.field-0 in
    let zeros = subst (λ (es : List ℕ). AreZerosFrom es from) i.first c.in_default.ensures.next in
    let first = subst (λ (es : List ℕ). IsFirstPositive es from next.0 next.1) i.second
    (subst (λ (n : ℕ). IsFirstPositive c.entries.others.entries n next.0 next.1) i.place c.in-Some-next.ensures.next) in
    sym (ends_first c.args.self.now c.args.other.now from i.same next.0 next.1 zeros first)

pub returns-in-None : goal.returns-in-None
returns-in-None c =
    let i = c.entries.invariant in
    let from = c.entries.walk.from in
    let zeros = subst (λ (es : List ℕ). AreZerosFrom es from) i.first c.in_default.ensures.next in
    let others = subst (λ (es : List ℕ). AreZerosFrom es from) i.second
    (subst (AreZerosFrom c.entries.others.entries) i.place c.in-None.ensures.next) in
    c.cmp.ensures
    ∙ ap (λ (n : ℕ). nat_cmp n c.len-in-None.result) c.len.ensures.value
    ∙ ap (nat_cmp (length c.args.self.now)) c.len-in-None.ensures.value
    ∙ sym (ends_alike c.args.self.now c.args.other.now from i.same zeros others)
