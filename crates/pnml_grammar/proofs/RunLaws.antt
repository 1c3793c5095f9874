-- Runs of bytes that pass a test, and single bytes and texts at the front.
use Rattle.std.proofs.Common.{◌≡◌, ℕ, Bool, true, false, cond, List, [], ◌∷◌, ◌++◌, Option, Some, None, refl, ap, ◌∙◌, length, drop}
use Rattle.std.specs.Prelude.{nat_eq, ◌==◌}
use Rattle.std.proofs.lemmas.Bool.{eqb-true, eq-eqb}
use Rattle.std.proofs.lemmas.Bool.Decides.{Decides-eqb}
use Rattle.std.proofs.lemmas.Slice.Eq.{starts_is}
use Rattle.std.proofs.lemmas.List.{drop_at}
use Rattle.std.specs.List.{starts_with}
use Rattle.pnml_grammar.specs.Characters.{Each}
use Rattle.pnml_grammar.specs.Runs.{◌>>=◌, passed, beyond, past, past_text}

pub bind_some : {A B : Type 0} (r : Option A) (f : A → Option B) (y : B) → (r >>= f) ≡ Some y → (x : A) × (r ≡ Some x) × (f x ≡ Some y)
bind_some None f y e = absurd cc
bind_some (Some x) f y e = (x, refl, e)

pub bind_is : {A B : Type 0} (r : Option A) (f : A → Option B) (x : A) → r ≡ Some x → (r >>= f) ≡ f x
bind_is r f x e = rw e refl

pub chosen : {A : Type 0} (b : Bool) (x : Option A) (y : A) → cond b x None ≡ Some y → (b ≡ true) × (x ≡ Some y)
chosen true x y e = (refl, e)
chosen false x y e = absurd cc

pub some_is : {A : Type 0} (x y : A) → Some x ≡ Some y → x ≡ y
some_is x y e = cc

pub some_pair_is : {A B : Type 0} (a x : A) (b y : B) → ◌≡◌ {A = Option (A × B)} (Some (a, b)) (Some (x, y)) → (a ≡ x) × (b ≡ y)
some_pair_is {A} {B} a x b y e =
    let p = some_is (a, b) (x, y) e in
    (ap (λ (q : A × B). q.0) p, ap (λ (q : A × B). q.1) p)

-- ---- runs

pub passed-beyond : (p : ℕ → Bool) (xs : List ℕ) → passed p xs ++ beyond p xs ≡ xs
passed-beyond p [] = refl
passed-beyond p (x ∷ xs) =
    elim (p x) as (λ b. cond b (x ∷ passed p xs) [] ++ cond b (beyond p xs) (x ∷ xs) ≡ x ∷ xs) [
      | true ↦ ap (λ (t : List ℕ). x ∷ t) (passed-beyond p xs)
      | false ↦ refl
    ]

each_step : (p : ℕ → Bool) (x : ℕ) (rest : List ℕ) (b : Bool) → p x ≡ b → Each p rest → Each p (cond b (x ∷ rest) [])
each_step p x rest true e h = (e, h)
each_step p x rest false e h = tt

pub passed_each : (p : ℕ → Bool) (xs : List ℕ) → Each p (passed p xs)
passed_each p [] = tt
passed_each p (x ∷ xs) = each_step p x (passed p xs) (p x) refl (passed_each p xs)

-- a run stops there
abbrev pub Stops : (ℕ → Bool) → List ℕ → Type 0
Stops p [] = Unit
Stops p (b ∷ bs) = p b ≡ false

stops_step : (p : ℕ → Bool) (x : ℕ) (xs rest : List ℕ) (b : Bool) → p x ≡ b → Stops p rest → Stops p (cond b rest (x ∷ xs))
stops_step p x xs rest true e h = h
stops_step p x xs rest false e h = e

pub after_stops : (p : ℕ → Bool) (xs : List ℕ) → Stops p (beyond p xs)
after_stops p [] = tt
after_stops p (x ∷ xs) = stops_step p x xs (beyond p xs) (p x) refl (after_stops p xs)

pub passed_is : (p : ℕ → Bool) (xs rest : List ℕ) → Each p xs → Stops p rest → passed p (xs ++ rest) ≡ xs
passed_is p [] [] each stops = refl
passed_is p [] (r ∷ rest) each stops = rw stops refl
passed_is p (x ∷ xs) rest each stops = rw each.0 (ap (λ (t : List ℕ). x ∷ t) (passed_is p xs rest each.1 stops))

pub after_is : (p : ℕ → Bool) (xs rest : List ℕ) → Each p xs → Stops p rest → beyond p (xs ++ rest) ≡ rest
after_is p [] [] each stops = refl
after_is p [] (r ∷ rest) each stops = rw stops refl
after_is p (x ∷ xs) rest each stops = rw each.0 (after_is p xs rest each.1 stops)

-- ---- one byte, and a text

pub past_is : (c : ℕ) (rest : List ℕ) → past c (c ∷ rest) ≡ Some rest
past_is c rest = rw (eq-eqb c c refl) refl

pub past_found : (c : ℕ) (bytes rest : List ℕ) → past c bytes ≡ Some rest → bytes ≡ c ∷ rest
past_found c [] rest e = absurd cc
past_found c (b ∷ bs) rest e =
    let g = chosen (b == c) (Some bs) rest e in
    let head : b ≡ c = eqb-true b c g.0 in
    let tail : bs ≡ rest = some_is bs rest g.1 in
    cc

pub past_text_found : (text bytes rest : List ℕ) → past_text text bytes ≡ Some rest → bytes ≡ text ++ rest
past_text_found text bytes rest e =
    let g = chosen (starts_with nat_eq bytes text) (Some (drop (length text) bytes)) rest e in
    let tail : drop (length text) bytes ≡ rest = some_is (drop (length text) bytes) rest g.1 in
    (starts_is Decides-eqb bytes text (starts_with nat_eq bytes text) refl).0 g.0 ∙ ap (λ (t : List ℕ). text ++ t) tail

pub past_text_is : (text rest : List ℕ) → past_text text (text ++ rest) ≡ Some rest
past_text_is text rest =
    let starts : starts_with nat_eq (text ++ rest) text ≡ true = (starts_is Decides-eqb (text ++ rest) text (starts_with nat_eq (text ++ rest) text) refl).1 rest refl in
    rw (starts, drop_at text rest (length text) refl) refl
