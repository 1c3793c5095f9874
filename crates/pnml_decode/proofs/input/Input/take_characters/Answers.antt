-- The characters at the front are read, and the rest is kept.
use Rattle.std.proofs.Common.{◌≡◌, ◌<◌, ◌≤◌, ◌+◌, ◌++◌, ℕ, Bool, true, List, [], length, take, drop, subst, sym, ap, ◌∙◌, arith}
use Rattle.pnml_decode.specs.declared.input.Input.{Input}
use Rattle.pnml_decode.specs.Standing.{Follows, IsKept}
use Rattle.pnml_decode.proofs.Taken.{characters_taken}
use Rattle.pnml_decode.proofs.input.Input.take_characters.Goals as goal

pub returns-in_ok-extend_from_slice-clause-taken : goal.returns-in_ok-extend_from_slice-clause-taken
returns-in_ok-extend_from_slice-clause-taken c = λ characters first whole follows.
    let count = c.text_length-count.result in
    let bytes = c.args.bytes.now in
    let new : Input = record { progress = c.read.new.self; whole = c.args.self.now.whole + count; cut = c.extend_from_slice.new.self; is_not_utf8 = c.args.self.now.is_not_utf8 } in
    let items : c.extend_from_slice.new.self.items ≡ drop count bytes =
    c.in_ok-extend_from_slice.ensures.items ∙ ap (λ (xs : List ℕ). xs ++ c.split_at.result.1.now) c.clear.ensures.items ∙ c.split_at.ensures.back in
    let small : length (drop count bytes) < 4 = omega (arith, c.if-rest-lt-CHARACTER_LENGTH.true, ap length c.split_at.ensures.back) in
    let read : Follows c.read.new.self (characters ++ take count bytes) [] =
    subst (λ (xs : List ℕ). Follows c.read.new.self (characters ++ xs) []) c.split_at.ensures.front (c.in_ok-read.ensures.follows characters follows) in
    let kept : IsKept c.args.self.now.is_not_utf8 new (characters ++ take count bytes) (drop count bytes) =
    subst (λ (b : Bool). IsKept b new (characters ++ take count bytes) (drop count bytes)) (sym c.requires.going) (sym items, small, read) in
    characters_taken new characters bytes count first c.text_length-count.ensures.text c.text_length-count.ensures.within
    (ap (λ (n : ℕ). n + count) whole) c.text_length-count.ensures.cut kept

pub returns-else-rest-lt-CHARACTER_LENGTH-clause-taken : goal.returns-else-rest-lt-CHARACTER_LENGTH-clause-taken
returns-else-rest-lt-CHARACTER_LENGTH-clause-taken c = λ characters first whole follows.
    let count = c.text_length-count.result in
    let bytes = c.args.bytes.now in
    let new : Input = record { progress = c.read.new.self; whole = c.args.self.now.whole + count; cut = c.clear.new.self; is_not_utf8 = true } in
    let long : 4 ≤ length (drop count bytes) = omega (arith, c.if-rest-lt-CHARACTER_LENGTH.false, ap length c.split_at.ensures.back) in
    characters_taken new characters bytes count first c.text_length-count.ensures.text c.text_length-count.ensures.within
    (ap (λ (n : ℕ). n + count) whole) c.text_length-count.ensures.cut long
