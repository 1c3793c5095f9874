-- Pieces that are read or written one after the other. What the first call and the second moved is one
-- list, the first piece followed by the second, since moving bytes is appending at one end.
use Rattle.std.proofs.Common.{◌≡◌, ℕ, ◌+◌, ◌-◌, ◌≤◌, List, ◌++◌, length, take, drop, Option, sym, ap, ◌∙◌, subst, arith, length-append}
use Rattle.std.proofs.Math.Seq.{take-add}
use Rattle.std.specs.Io.KnownBytes.{Appends, Consumes, Keeps}
use Rattle.std.proofs.KnownBytes.{Appends-trans, Appends-kept, Consumes-trans}
use Rattle.pnml_source.specs.Streams.{AppendsFront, MovesBytes, TakesAtMost, TakesExactly}

-- what is read after the bytes so far follows them
pub read_follows : (a b c : Option (List ℕ)) (before after : List ℕ) → Consumes a b before → MovesBytes b c before after → Consumes a c after
read_follows a b c before after first second =
    subst (Consumes a c) (sym second.2) (Consumes-trans a b c before second.0 first second.1)

-- the counts of two reads, one after the other
pub exactly_follows : (a b c : Option (List ℕ)) (before : List ℕ) (n limit : ℕ) → n ≡ length before → n ≤ limit
    → Consumes a b before → TakesExactly b c (limit + 1 - n) → TakesExactly a c (limit + 1)
exactly_follows a b c before n limit e h first second =
    (before ++ second.0, Consumes-trans a b c before second.0 first second.1, omega (arith, length-append before second.0, second.2))

pub at_most_follows : (a b c : Option (List ℕ)) (before : List ℕ) (n limit : ℕ) → n ≡ length before → n ≤ limit
    → Consumes a b before → TakesAtMost b c (limit - n) → TakesAtMost a c limit
at_most_follows a b c before n limit e h first second =
    (before ++ second.0, Consumes-trans a b c before second.0 first second.1, omega (arith, length-append before second.0, second.2))

-- the first bytes up to one place and the bytes from there to the next
pub front_follows : (at end : ℕ) (bytes : List ℕ) → at ≤ end → take at bytes ++ take (end - at) (drop at bytes) ≡ take end bytes
front_follows at end bytes h =
    let e : at + (end - at) ≡ end = omega arith in sym (take-add at (end - at) bytes) ∙ ap (λ n. take n bytes) e

-- what is written after a prefix, from its end on, makes a longer prefix
pub write_follows : (a b c : Option (List ℕ)) (at end : ℕ) (bytes : List ℕ) → at ≤ end
    → Appends a b (take at bytes) → Appends b c (take (end - at) (drop at bytes)) → Appends a c (take end bytes)
write_follows a b c at end bytes h first second =
    subst (Appends a c) (front_follows at end bytes h) (Appends-trans a b c _ _ first second)

-- where nothing more is written, the prefix occurs
pub write_stops : (a b c : Option (List ℕ)) (at : ℕ) (bytes : List ℕ) → Appends a b (take at bytes) → Keeps b c → AppendsFront a c bytes
write_stops a b c at bytes first second = (at, Appends-kept a b c (take at bytes) first second)
