-- The first offset of a part. Where the part is `front` and a last byte, its first offset in
-- body ++ part is after the body just where the part occurs nowhere in body ++ front: an offset of it that
-- is not the last one ends before the last byte.
use Rattle.std.proofs.Common.{◌≡◌, ℕ, suc, ◌+◌, ◌-◌, ◌<◌, ◌≤◌, ◌≢◌, Bool, true, false, List, [], ◌∷◌, ◌++◌, Option, Some, None, refl, sym, ap, ◌∙◌, length, take, drop, get_or, append_assoc, arith, inl, inr, length-append}
use Rattle.std.specs.Prelude.{nat_eq}
use Rattle.std.proofs.lemmas.Bool.{both_ways, cases_Bool, cases_lt}
use Rattle.std.proofs.lemmas.Bool.Decides.{Decides-eqb}
use Rattle.std.proofs.lemmas.Slice.Eq.{starts_is}
use Rattle.std.proofs.lemmas.List.{drop_at, take_at, take-append-drop, take-append-le, get_or-append-add, get_or-append_right, get_or_at}
use Rattle.std.specs.List.{starts_with}
use Rattle.pnml_grammar.specs.Characters.{Without}
use Rattle.pnml_grammar.specs.Runs.{until, with_byte}
use Rattle.pnml_grammar.proofs.RunLaws.{bind_some, some_pair_is}

abbrev starts : List ℕ → List ℕ → Bool
starts part bytes = starts_with nat_eq bytes part

starts_found : (part bytes : List ℕ) → starts part bytes ≡ true → bytes ≡ part ++ drop (length part) bytes
starts_found part bytes e = (starts_is Decides-eqb bytes part (starts part bytes) refl).0 e

starts_at : (part bytes rest : List ℕ) → bytes ≡ part ++ rest → starts part bytes ≡ true
starts_at part bytes rest e = (starts_is Decides-eqb bytes part (starts part bytes) refl).1 rest e

-- a part at the front of xs ++ ys that is no longer than xs is at the front of xs
front_within : (part xs ys more : List ℕ) → xs ++ ys ≡ part ++ more → length part ≤ length xs → xs ≡ part ++ drop (length part) xs
front_within part xs ys more e le =
    let taken : take (length part) xs ≡ part =
    sym (take-append-le (length part) xs ys le) ∙ ap (λ (t : List ℕ). take (length part) t) e ∙ take_at part more (length part) refl
    in
    sym (take-append-drop (length part) xs) ∙ ap (λ (t : List ℕ). t ++ drop (length part) xs) taken

without_tail : (part : List ℕ) (b : ℕ) (bs : List ℕ) → Without part (b ∷ bs) → Without part bs
without_tail part b bs h before after e = h (b ∷ before) after (ap (λ (t : List ℕ). b ∷ t) e)

until_starts : (part bytes : List ℕ) → starts part bytes ≡ true → until part bytes ≡ Some ([], drop (length part) bytes)
until_starts part [] e = rw e refl
until_starts part (b ∷ bs) e = rw e refl

until_goes_on : (part : List ℕ) (b : ℕ) (bs : List ℕ) → starts part (b ∷ bs) ≡ false → until part (b ∷ bs) ≡ with_byte b (until part bs)
until_goes_on part b bs e = rw e refl

-- nothing is found just where the part occurs nowhere
pub until_none : (part bytes : List ℕ) → Without part bytes → until part bytes ≡ None
until_none part [] h =
    elim (cases_Bool (starts part [])) [
      | inl begins ↦ absurd (h [] (drop (length part) []) (starts_found part [] begins))
      | inr other ↦ rw other refl
    ]
until_none part (b ∷ bs) h =
    elim (cases_Bool (starts part (b ∷ bs))) [
      | inl begins ↦ absurd (h [] (drop (length part) (b ∷ bs)) (starts_found part (b ∷ bs) begins))
      | inr other ↦ until_goes_on part b bs other ∙ ap (λ (o : Option (List ℕ × List ℕ)). with_byte b o) (until_none part bs (without_tail part b bs h))
    ]

none_tail : (b : ℕ) (o : Option (List ℕ × List ℕ)) → with_byte b o ≡ None → o ≡ None
none_tail b None e = refl
none_tail b (Some x) e = absurd cc

none_starts : (part bytes : List ℕ) → until part bytes ≡ None → starts part bytes ≡ false
none_starts part bytes e =
    elim (cases_Bool (starts part bytes)) [
      | inl begins ↦ let some = until_starts part bytes begins in absurd cc
      | inr other ↦ other
    ]

pub none_without : (part bytes : List ℕ) → until part bytes ≡ None → Without part bytes
none_without part bytes e [] after is = both_ways (starts part bytes) (none_starts part bytes e) (starts_at part bytes after is)
none_without part [] e (x ∷ before) after is = absurd cc
none_without part (b ∷ bs) e (x ∷ before) after is =
    let tail : bs ≡ before ++ (part ++ after) = cc in
    none_without part bs (none_tail b (until part bs) (sym (until_goes_on part b bs (none_starts part (b ∷ bs) e)) ∙ e)) before after tail

module _ (part front : List ℕ) (c : ℕ) (is : part ≡ front ++ c ∷ []) where
  longer : length part ≡ suc (length front)
  longer = omega (arith, ap length is, length-append front (c ∷ []))

  pub until_again : (body rest : List ℕ) → Without part (body ++ front) → until part (body ++ (part ++ rest)) ≡ Some (body, rest)
  until_again [] rest h =
      until_starts part (part ++ rest) (starts_at part (part ++ rest) rest refl)
      ∙ ap (λ (t : List ℕ). Some ([], t)) (drop_at part rest (length part) refl)
  until_again (b ∷ bs) rest h =
      elim (cases_Bool (starts part (b ∷ (bs ++ (part ++ rest))))) [
        | inl begins ↦
            let whole : ((b ∷ bs) ++ front) ++ (c ∷ rest) ≡ part ++ drop (length part) (b ∷ (bs ++ (part ++ rest))) =
            regrouped bs rest ∙ starts_found part (b ∷ (bs ++ (part ++ rest))) begins
            in
            let le : length part ≤ length ((b ∷ bs) ++ front) = omega (arith, longer, length-append (b ∷ bs) front) in
            absurd (h [] (drop (length part) ((b ∷ bs) ++ front)) (front_within part ((b ∷ bs) ++ front) (c ∷ rest) _ whole le))
        | inr other ↦
            until_goes_on part b (bs ++ (part ++ rest)) other
            ∙ ap (λ (o : Option (List ℕ × List ℕ)). with_byte b o) (until_again bs rest (without_tail part b (bs ++ front) h))
      ]
    where
      regrouped : (bs rest : List ℕ) → ((b ∷ bs) ++ front) ++ (c ∷ rest) ≡ b ∷ (bs ++ (part ++ rest))
      regrouped bs rest = rw is (simp append_assoc)

  -- the part is no longer than what it is in
  short_without : Without part front
  short_without before after e =
      let lengths = ap length e in
      absurd (omega (arith, lengths, longer, length-append before (part ++ after), length-append part after))

  found_here : (bytes body rest : List ℕ) → starts part bytes ≡ true → until part bytes ≡ Some (body, rest)
      → (bytes ≡ body ++ (part ++ rest)) × Without part (body ++ front)
  found_here bytes body rest begins e =
      let p = some_pair_is [] body (drop (length part) bytes) rest (sym (until_starts part bytes begins) ∙ e) in
      let whole : bytes ≡ part ++ rest = starts_found part bytes begins ∙ ap (λ (t : List ℕ). part ++ t) p.1 in
      rw (← p.0) (whole, short_without)

  no_new : (b : ℕ) (bs body rest : List ℕ) → bs ≡ body ++ (part ++ rest) → starts part (b ∷ bs) ≡ false → Without part (body ++ front)
      → Without part (b ∷ (body ++ front))
  no_new b bs body rest whole other h [] after e =
      let all : b ∷ bs ≡ part ++ (after ++ (c ∷ rest)) =
      ap (λ (t : List ℕ). b ∷ t) (whole ∙ rw is (simp append_assoc)) ∙ ap (λ (t : List ℕ). t ++ (c ∷ rest)) e ∙ append_assoc part after (c ∷ rest)
      in
      both_ways (starts part (b ∷ bs)) other (starts_at part (b ∷ bs) (after ++ (c ∷ rest)) all)
  no_new b bs body rest whole other h (x ∷ before) after e =
      let tail : body ++ front ≡ before ++ (part ++ after) = cc in
      h before after tail

  moved : (b : ℕ) (bs one left body rest : List ℕ) → one ≡ body → left ≡ rest → b ∷ bs ≡ one ++ (part ++ left) → Without part (one ++ front)
      → (b ∷ bs ≡ body ++ (part ++ rest)) × Without part (body ++ front)
  moved b bs one left body rest p q whole h = rw (← p, ← q) (whole, h)

  pub until_found : (bytes body rest : List ℕ) → until part bytes ≡ Some (body, rest)
      → (bytes ≡ body ++ (part ++ rest)) × Without part (body ++ front)
  until_found [] body rest e =
      elim (cases_Bool (starts part [])) [
        | inl begins ↦ found_here [] body rest begins e
        | inr other ↦ let none : until part [] ≡ None = rw other refl in absurd cc
      ]
  until_found (b ∷ bs) body rest e =
      elim (cases_Bool (starts part (b ∷ bs))) [
        | inl begins ↦ found_here (b ∷ bs) body rest begins e
        | inr other ↦
            let w = bind_some (until part bs) (λ x. Some (b ∷ x.0, x.1)) (body, rest) (sym (until_goes_on part b bs other) ∙ e) in
            let p = some_pair_is (b ∷ w.0.0) body w.0.1 rest w.2 in
            let ih = until_found bs w.0.0 w.0.1 w.1 in
            moved b bs (b ∷ w.0.0) w.0.1 body rest p.0 p.1 (ap (λ (t : List ℕ). b ∷ t) ih.0) (no_new b bs w.0.0 w.0.1 ih.0 other ih.1)
      ]

  -- where the last byte is none of the others, an offset of the part in body ++ front is one in the body
  pub without_more : (body : List ℕ) → ((i : ℕ) → i < length front → get_or front i 0 ≢ c) → Without part body → Without part (body ++ front)
  without_more body apart h before after e =
      let at : get_or (body ++ front) (length before + length front) 0 ≡ c =
      ap (λ (t : List ℕ). get_or t (length before + length front) 0) e
      ∙ get_or-append-add before (part ++ after) (length front) 0
      ∙ rw is (ap (λ (t : List ℕ). get_or t (length front) 0) (append_assoc front (c ∷ []) after) ∙ get_or_at front c after 0 (length front) refl)
      in
      let lengths = ap length e in
      elim (cases_lt (length before + length front) (length body)) [
        | inl lt ↦
            let cut : body ≡ (before ++ part) ++ drop (length (before ++ part)) body =
            front_within (before ++ part) body front after (e ∙ sym (append_assoc before part after)) (omega (arith, length-append before part, longer))
            in
            h before (drop (length (before ++ part)) body) (cut ∙ append_assoc before part _)
        | inr le ↦
            apart (length before + length front - length body)
            (omega (arith, lengths, longer, length-append body front, length-append before (part ++ after), length-append part after))
            (sym (get_or-append_right body front (length body) (length before + length front) 0 refl le) ∙ at)
      ]

pub without_less : (part body front : List ℕ) → Without part (body ++ front) → Without part body
without_less part body front h before after e =
    h before (after ++ front) (ap (λ (t : List ℕ). t ++ front) e ∙ append_assoc before (part ++ after) front
    ∙ ap (λ (t : List ℕ). before ++ t) (append_assoc part after front))
