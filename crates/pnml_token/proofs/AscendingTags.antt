-- Attributes that are read one after the other, each with a name of a greater number than those before, are distinct.
use Rattle.std.proofs.Common.{◌≡◌, ℕ, ◌<◌, true, List, [], ◌∷◌, ◌++◌, Some, None, map, refl, sym, ap, subst, ◌∙◌, arith}
use Rattle.std.specs.Prelude.{not, bytes_eq}
use Rattle.std.specs.List.{list_any, AllByRecursion}
use Rattle.std.proofs.lemmas.Bool.{and_parts, and_from}
use Rattle.std.proofs.lemmas.List.{map_push}
use Rattle.pnml_grammar.specs.Declarations.{RawAttribute}
use Rattle.pnml_grammar.specs.Reading.{raw_attribute_at, distinct_attributes_of, are_new, raw_attribute_name}
use Rattle.pnml_grammar.proofs.EachLaws.{each_append, each_weaker}
use Rattle.pnml_token.specs.EmptyTags.{HasReading, HasSimpleAttributes}
use Rattle.pnml_token.specs.Ranks.{rank}
use Rattle.pnml_token.proofs.EmptyTags.{distinct_are_read}
use Rattle.pnml_token.proofs.RankLaws.{IsUpTo, none_before}
use Rattle.pnml_token.proofs.RawAttributes.{Loops, loop_begins, loop_goes_on, loop_ends}

new_at_end : (seen names : List (List ℕ)) (name : List ℕ) (last : ℕ) → last < rank name → AllByRecursion (IsUpTo last) seen → AllByRecursion (IsUpTo last) names → are_new seen names ≡ true → are_new seen (names ++ name ∷ []) ≡ true
new_at_end seen [] name last lt before low new = rw (none_before seen name last lt before) refl
new_at_end seen (n ∷ names) name last lt before low new =
    let p = and_parts (not (list_any (bytes_eq n) seen)) (are_new (n ∷ seen) names) new in
    and_from (not (list_any (bytes_eq n) seen)) (are_new (n ∷ seen) (names ++ name ∷ [])) p.0 (new_at_end (n ∷ seen) names name last lt (low.0, before) low.1 p.1)

-- these were read, with names of numbers up to the last, and the others occur in the rest
pub record Rises (rest bytes : List ℕ) (last : ℕ) : Type 0 where
  pub raw_attributes : List RawAttribute
  pub loops : Loops raw_attributes rest bytes
  pub each : AllByRecursion HasReading raw_attributes
  pub low : AllByRecursion (IsUpTo last) (map raw_attribute_name raw_attributes)
  pub new : are_new [] (map raw_attribute_name raw_attributes) ≡ true

pub rises_none : (bytes : List ℕ) → Rises bytes bytes 0
rises_none bytes = record { raw_attributes = []; loops = loop_begins bytes; each = tt; low = tt; new = refl }

pub rises_more : (rest beyond bytes : List ℕ) (s : RawAttribute) (last next : ℕ) → raw_attribute_at rest ≡ Some (s, beyond) → HasReading s → last < next → next ≡ rank s.name → Rises rest bytes last → Rises beyond bytes next
rises_more rest beyond bytes s last next found read up next_is h =
    let names = map raw_attribute_name h.raw_attributes in
    let more = map_push raw_attribute_name h.raw_attributes s in
    record {
      raw_attributes = h.raw_attributes ++ s ∷ [];
      loops = loop_goes_on h.raw_attributes rest bytes s beyond found h.loops;
      each = each_append HasReading h.raw_attributes (s ∷ []) h.each (read, tt);
      low =
          subst (AllByRecursion (IsUpTo next)) (sym more)
          (each_append (IsUpTo next) names (s.name ∷ []) (each_weaker (IsUpTo last) (IsUpTo next) (λ n le. omega (arith, le, up)) names h.low) (omega (arith, next_is), tt));
      new = ap (are_new []) more ∙ new_at_end [] names s.name last (omega (arith, up, next_is)) tt h.low h.new;
    }

pub rises_all : (rest bytes : List ℕ) (last : ℕ) → raw_attribute_at rest ≡ None → Rises rest bytes last → HasSimpleAttributes bytes rest
rises_all rest bytes last none h =
    let all = loop_ends h.raw_attributes rest bytes none h.loops in
    let read = distinct_are_read h.raw_attributes h.each h.new in
    (read.0, ap (λ (found : List RawAttribute × List ℕ). distinct_attributes_of found.0) (sym all) ∙ read.1, ap (λ (found : List RawAttribute × List ℕ). found.1) (sym all))
