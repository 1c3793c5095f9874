-- A list is sieved in place: each member is tested in turn, and taken out or passed. What was passed occurs
-- in front, what wasn't tested yet after it, and the last member, which isn't tested, at the end.
use Rattle.std.proofs.Common.{◌≡◌, refl, sym, ap, ◌∙◌, ℕ, ◌+◌, ◌-◌, ◌<◌, ◌≤◌, Bool, true, false, cond, List, [], ◌∷◌, ◌++◌, length, get_or, take, drop, remove, filter, append_assoc, length-append, length-drop, arith}
use Rattle.std.proofs.Math.Seq.{get_or-append_seam}
use Rattle.std.proofs.lemmas.List.{take_more, drop_more, take_all, drop_all, append-nil}
use Rattle.std.proofs.lemmas.List.Elements.{filter-append}
use Rattle.std.proofs.lemmas.List.Edits.{remove-append_right}

pub record Sieved {X : Type 0} (passes : X → Bool) (xs : List X) (last : X) (seen : ℕ) (rows : List X) (next : ℕ) : Type 0 where
  pub rows_are : rows ≡ (filter passes (take seen xs) ++ drop seen xs) ++ last ∷ []
  pub next_is : next ≡ length (filter passes (take seen xs))

pub sieved_none : {X : Type 0} (passes : X → Bool) (xs : List X) (last : X) → Sieved passes xs last 0 (xs ++ last ∷ []) 0
sieved_none passes xs last = record { rows_are = refl; next_is = refl }

-- the next member to be tested
pub sieved_next : {X : Type 0} (passes : X → Bool) (xs : List X) (last : X) (seen : ℕ) (rows : List X) (next : ℕ) (d : X) → Sieved passes xs last seen rows next → seen < length xs → get_or rows next d ≡ get_or xs seen d
sieved_next passes xs last seen rows next d h within =
    let done = filter passes (take seen xs) in
    ap (λ l. get_or l next d) (h.rows_are ∙ ap (λ l. (done ++ l) ++ last ∷ []) (drop_more xs seen d within) ∙ append_assoc done _ (last ∷ []))
    ∙ ap (λ n. get_or (done ++ ((get_or xs seen d ∷ drop (seen + 1) xs) ++ last ∷ [])) n d) h.next_is
    ∙ get_or-append_seam done (get_or xs seen d) (drop (seen + 1) xs ++ last ∷ []) d

taken_more : {X : Type 0} (passes : X → Bool) (xs : List X) (seen : ℕ) (d : X) → seen < length xs → filter passes (take (seen + 1) xs) ≡ filter passes (take seen xs) ++ cond (passes (get_or xs seen d)) (get_or xs seen d ∷ []) []
taken_more passes xs seen d within = ap (filter passes) (take_more xs seen d within) ∙ filter-append passes (take seen xs) (get_or xs seen d ∷ [])

pub sieved_passed : {X : Type 0} (passes : X → Bool) (xs : List X) (last : X) (seen : ℕ) (rows : List X) (next : ℕ) (d : X) → Sieved passes xs last seen rows next → seen < length xs → passes (get_or xs seen d) ≡ true → Sieved passes xs last (seen + 1) rows (next + 1)
sieved_passed passes xs last seen rows next d h within passed =
    let done = filter passes (take seen xs) in
    let x = get_or xs seen d in
    let more = taken_more passes xs seen d within ∙ ap (λ b. done ++ cond b (x ∷ []) []) passed in
    record {
      rows_are = h.rows_are ∙ ap (λ l. (done ++ l) ++ last ∷ []) (drop_more xs seen d within)
          ∙ ap (λ l. l ++ last ∷ []) (sym (append_assoc done (x ∷ []) (drop (seen + 1) xs)) ∙ ap (λ l. l ++ drop (seen + 1) xs) (sym more));
      next_is = omega (arith, h.next_is, ap length more, length-append done (x ∷ []));
    }

pub sieved_taken : {X : Type 0} (passes : X → Bool) (xs : List X) (last : X) (seen : ℕ) (rows : List X) (next : ℕ) (d : X) → Sieved passes xs last seen rows next → seen < length xs → passes (get_or xs seen d) ≡ false → Sieved passes xs last (seen + 1) (remove rows next) next
sieved_taken passes xs last seen rows next d h within failed =
    let done = filter passes (take seen xs) in
    let x = get_or xs seen d in
    let rest = drop (seen + 1) xs in
    let more = taken_more passes xs seen d within ∙ ap (λ b. done ++ cond b (x ∷ []) []) failed in
    let same : filter passes (take (seen + 1) xs) ≡ done = more ∙ append-nil done in
    record {
      rows_are = ap (λ l. remove l next) (h.rows_are ∙ ap (λ l. (done ++ l) ++ last ∷ []) (drop_more xs seen d within) ∙ append_assoc done (x ∷ rest) (last ∷ []))
          ∙ remove-append_right done ((x ∷ rest) ++ last ∷ []) next next (sym h.next_is) (omega arith)
          ∙ ap (λ n. done ++ remove ((x ∷ rest) ++ last ∷ []) n) (let none : next - next ≡ 0 = omega arith in none)
          ∙ sym (append_assoc done rest (last ∷ []))
          ∙ ap (λ l. (l ++ rest) ++ last ∷ []) (sym same);
      next_is = h.next_is ∙ ap length (sym same);
    }

pub sieved_all : {X : Type 0} (passes : X → Bool) (xs : List X) (last : X) (seen : ℕ) (rows : List X) (next : ℕ) → Sieved passes xs last seen rows next → length xs ≤ seen → rows ≡ filter passes xs ++ last ∷ []
sieved_all passes xs last seen rows next h all =
    h.rows_are ∙ ap (λ l. (filter passes l ++ drop seen xs) ++ last ∷ []) (take_all seen xs all)
    ∙ ap (λ l. (filter passes xs ++ l) ++ last ∷ []) (drop_all seen xs all) ∙ ap (λ l. l ++ last ∷ []) (append-nil (filter passes xs))

-- how many rows there are, and where the next one occurs
pub sieved_sizes : {X : Type 0} (passes : X → Bool) (xs : List X) (last : X) (seen : ℕ) (rows : List X) (next : ℕ) → Sieved passes xs last seen rows next → length rows ≡ next + (length xs - seen) + 1
sieved_sizes passes xs last seen rows next h =
    let done = filter passes (take seen xs) in
    omega (arith, ap length h.rows_are, h.next_is, length-append (done ++ drop seen xs) (last ∷ []), length-append done (drop seen xs), length-drop seen xs)

pub sieved_last : {X : Type 0} (passes : X → Bool) (xs : List X) (last : X) (seen : ℕ) (rows : List X) (next : ℕ) (d : X) → Sieved passes xs last seen rows next → get_or rows (length rows - 1) d ≡ last
sieved_last passes xs last seen rows next d h =
    let front = filter passes (take seen xs) ++ drop seen xs in
    let size : length rows - 1 ≡ length front = omega (arith, ap length h.rows_are, length-append front (last ∷ [])) in
    ap (λ n. get_or rows n d) size ∙ ap (λ l. get_or l (length front) d) h.rows_are ∙ get_or-append_seam front last [] d

pub sieved_at : {X : Type 0} (passes : X → Bool) (xs : List X) (last : X) (seen : ℕ) (rows rows' : List X) (next next' : ℕ) → rows' ≡ rows → next' ≡ next → Sieved passes xs last seen rows next → Sieved passes xs last seen rows' next'
sieved_at passes xs last seen rows rows' next next' rows_same next_same h = record {
  rows_are = rows_same ∙ h.rows_are;
  next_is = next_same ∙ h.next_is;
}

-- the next row and the last one are rows
pub sieved_within : {X : Type 0} (passes : X → Bool) (xs : List X) (last : X) (seen : ℕ) (rows kept : List X) (next : ℕ) → Sieved passes xs last seen rows next → kept ≡ rows → (next < length kept) × (length kept - 1 < length kept)
sieved_within passes xs last seen rows kept next h same =
    let sizes = sieved_sizes passes xs last seen rows next h in
    let size = ap length same in
    (omega (arith, sizes, size), omega (arith, sizes, size))
