-- A piece that follows the bytes taken goes on with the part to which its first byte belongs: the document's bytes grow by
-- its front, and what follows them by its rest. A line goes on until its line feed, and not past it.
use Rattle.std.proofs.Common.{◌≡◌, ◌∙◌, ℕ, ◌+◌, ◌≤◌, ◌<◌, List, [], ◌++◌, length, take, drop, refl, sym, ap, subst, arith, take_all, length-append, length-take}
use Rattle.std.specs.Prelude.{◌==◌, not, cond, Some, None, Result, Ok, Err, OnOk}
use Rattle.std.proofs.lemmas.List.{append-nil, take-append-le, drop-append-le, drop_all}
use Rattle.std.proofs.lemmas.Bool.{eq-eqb, ne_eqb}
use Rattle.std.proofs.lemmas.List.Folds.{prefix_len-append}
use Rattle.std.proofs.Math.Seq.{take-append-add, drop-append-add}
use Rattle.memchr.specs.Find.{IsFirstByte, is_byte}
use Rattle.pnml_decode.specs.declared.decoder.Decoder.{Decoder}
use Rattle.pnml_decode.specs.Feeding.{StandsFor, fed_by}
use Rattle.pnml_token.proofs.Prefixes.{sought_prefix}
use Rattle.struct_core.specs.declared.intake.Intake.{Intake}
use Rattle.struct_core.specs.declared.intake.Part.{Part}
use Rattle.struct_core.specs.declared.intake.Part.TheVariants as parts
use Rattle.struct_core.specs.declared.order.Task.{Task}
use Rattle.struct_core.specs.declared.order.Task.TheVariants as tasks
use Rattle.struct_core.specs.Inputs.{line_length, first_line, after_first_line, front_of, rest_of}
use Rattle.struct_core.specs.Intaking.{IsNextByLine, IsNext, HasTaken}

-- ---- lines

-- bytes without a line feed are followed by the first line of what comes
line_goes_on : (xs ys : List ℕ) → line_length xs ≡ length xs → line_length (xs ++ ys) ≡ length xs + line_length ys
line_goes_on xs ys all =
    prefix_len-append (λ byte. not (byte == 10)) xs ys
    ∙ ap (λ b. cond b (length xs + line_length ys) (line_length xs)) (eq-eqb (line_length xs) (length xs) all)

-- and a line feed ends the line, whatever comes
line_ends : (xs ys : List ℕ) → line_length xs < length xs → line_length (xs ++ ys) ≡ line_length xs
line_ends xs ys some =
    prefix_len-append (λ byte. not (byte == 10)) xs ys
    ∙ ap (λ b. cond b (length xs + line_length ys) (line_length xs)) (ne_eqb (line_length xs) (length xs) (λ is. omega (arith, is, some)))

all_in_line : (xs : List ℕ) → line_length xs ≡ length xs → first_line xs ≡ xs
all_in_line xs all = take_all (line_length xs + 1) xs (omega (arith, all))

none_after_line : (xs : List ℕ) → line_length xs ≡ length xs → after_first_line xs ≡ []
none_after_line xs all = drop_all (line_length xs + 1) xs (omega (arith, all))

-- ---- what grows

-- after the piece the front has grown by these bytes, the rest by those, and the next byte belongs to this part
pub record Grow (front rest : List ℕ → List ℕ) (Next : Part → List ℕ → Type 0) (bytes piece more later : List ℕ) (part : Part) : Type 0 where
  pub front_is : front (bytes ++ piece) ≡ front bytes ++ more
  pub rest_is : rest (bytes ++ piece) ≡ rest bytes ++ later
  pub next : Next part (bytes ++ piece)

line_grows : (bytes piece : List ℕ) → line_length bytes ≡ length bytes → line_length piece ≡ length piece
    → Grow first_line after_first_line IsNextByLine bytes piece piece [] parts.FirstLine
line_grows bytes piece all on =
    let whole : line_length (bytes ++ piece) ≡ length (bytes ++ piece) = omega (arith, line_goes_on bytes piece all, on, length-append bytes piece) in
    record {
      front_is = all_in_line (bytes ++ piece) whole ∙ ap (λ (xs : List ℕ). xs ++ piece) (sym (all_in_line bytes all));
      rest_is = none_after_line (bytes ++ piece) whole ∙ ap (λ (xs : List ℕ). xs ++ []) (sym (none_after_line bytes all));
      next = whole;
    }

line_is_cut : (bytes piece : List ℕ) → line_length bytes ≡ length bytes → line_length piece < length piece
    → Grow first_line after_first_line IsNextByLine bytes piece (first_line piece) (after_first_line piece) parts.Rest
line_is_cut bytes piece all feed =
    let on = line_goes_on bytes piece all in
    let end : line_length (bytes ++ piece) + 1 ≡ length bytes + (line_length piece + 1) = omega (arith, on) in
    record {
      front_is = ap (λ n. take n (bytes ++ piece)) end ∙ take-append-add bytes piece (line_length piece + 1) ∙ ap (λ (xs : List ℕ). xs ++ first_line piece) (sym (all_in_line bytes all));
      rest_is = ap (λ n. drop n (bytes ++ piece)) end ∙ drop-append-add bytes piece (line_length piece + 1) ∙ ap (λ (xs : List ℕ). xs ++ after_first_line piece) (sym (none_after_line bytes all));
      next = omega (arith, on, feed, length-append bytes piece);
    }

line_stays : (bytes piece : List ℕ) → line_length bytes < length bytes
    → Grow first_line after_first_line IsNextByLine bytes piece [] piece parts.Rest
line_stays bytes piece feed =
    let same = line_ends bytes piece feed in
    let inside : line_length bytes + 1 ≤ length bytes = omega (arith, feed) in
    record {
      front_is = ap (λ n. take (n + 1) (bytes ++ piece)) same ∙ take-append-le (line_length bytes + 1) bytes piece inside ∙ sym (append-nil (first_line bytes));
      rest_is = ap (λ n. drop (n + 1) (bytes ++ piece)) same ∙ drop-append-le (line_length bytes + 1) bytes piece inside;
      next = omega (arith, same, feed, length-append bytes piece);
    }

-- ---- whatever the task

-- what holds where the document is the first line, and where it is the whole input, holds for each task
by_task : (P : (List ℕ → List ℕ) → (List ℕ → List ℕ) → (Part → List ℕ → Type 0) → Type 0) → P first_line after_first_line IsNextByLine
    → P (λ bytes. bytes) (λ bytes. []) (λ part bytes. part ≡ parts.Document) → (task : Task) → P (front_of task) (rest_of task) (IsNext task)
by_task P line whole tasks.Verify = line
by_task P line whole tasks.Resume = line
by_task P line whole tasks.Replay = line
by_task P line whole _ = whole

-- the part grows as it goes on
abbrev pub Goes : Task → Part → List ℕ → List ℕ → List ℕ → List ℕ → Part → Type 0
Goes task before bytes piece more later part = IsNext task before bytes → Grow (front_of task) (rest_of task) (IsNext task) bytes piece more later part

pub document_goes_on : (task : Task) (bytes piece : List ℕ) → Goes task parts.Document bytes piece piece [] parts.Document
document_goes_on task bytes piece =
    by_task (λ front rest Next. Next parts.Document bytes → Grow front rest Next bytes piece piece [] parts.Document)
    (λ next. absurd next) (λ next. record { front_is = refl; rest_is = refl; next = refl }) task

pub line_without_end : (task : Task) (bytes piece : List ℕ) → line_length piece ≡ length piece
    → Goes task parts.FirstLine bytes piece piece [] parts.FirstLine
line_without_end task bytes piece on =
    by_task (λ front rest Next. Next parts.FirstLine bytes → Grow front rest Next bytes piece piece [] parts.FirstLine)
    (λ next. line_grows bytes piece next on) (λ next. absurd (let e = next in cc)) task

pub line_with_end : (task : Task) (bytes piece : List ℕ) → line_length piece < length piece
    → Goes task parts.FirstLine bytes piece (first_line piece) (after_first_line piece) parts.Rest
line_with_end task bytes piece feed =
    by_task (λ front rest Next. Next parts.FirstLine bytes → Grow front rest Next bytes piece (first_line piece) (after_first_line piece) parts.Rest)
    (λ next. line_is_cut bytes piece next feed) (λ next. absurd (let e = next in cc)) task

pub rest_goes_on : (task : Task) (bytes piece : List ℕ) → Goes task parts.Rest bytes piece [] piece parts.Rest
rest_goes_on task bytes piece =
    by_task (λ front rest Next. Next parts.Rest bytes → Grow front rest Next bytes piece [] piece parts.Rest)
    (λ next. line_stays bytes piece next) (λ next. absurd (let e = next in cc)) task

-- ---- what was taken

-- of no bytes there is nothing
pub nothing_taken : (task : Task) (intake : Intake) → StandsFor intake.decoder [] → intake.rest.items ≡ [] → IsNext task intake.part [] → HasTaken task intake []
nothing_taken task intake stands kept next =
    let none = by_task (λ front rest Next. (front [] ≡ []) × (rest [] ≡ [])) (refl, refl) (refl, refl) task in
    record { stands = subst (StandsFor intake.decoder) (sym none.0) stands; kept = kept ∙ sym none.1; next = next }

pub piece_taken : (task : Task) (old new : Intake) (before after : Part) (bytes piece more later : List ℕ)
    → old.part ≡ before → new.part ≡ after → Goes task before bytes piece more later after
    → ((fed : List ℕ) → StandsFor old.decoder fed → StandsFor new.decoder (fed ++ more)) → new.rest.items ≡ old.rest.items ++ later
    → HasTaken task old bytes → HasTaken task new (bytes ++ piece)
piece_taken task old new before after bytes piece more later was is goes stands kept has =
    let grow = goes (subst (λ (part : Part). IsNext task part bytes) was has.next) in
    record {
      stands = subst (StandsFor new.decoder) (sym grow.front_is) (stands (front_of task bytes) has.stands);
      kept = kept ∙ ap (λ (xs : List ℕ). xs ++ later) has.kept ∙ sym grow.rest_is;
      next = subst (λ (part : Part). IsNext task part (bytes ++ piece)) (sym is) grow.next;
    }

-- no more bytes were fed than were taken
pub fed_within : (task : Task) (intake : Intake) (bytes : List ℕ) → HasTaken task intake bytes → fed_by intake.decoder ≤ length bytes
fed_within task intake bytes has =
    let short = by_task (λ front rest Next. length (front bytes) ≤ length bytes) (omega (arith, length-take (line_length bytes + 1) bytes)) (omega arith) task in
    omega (arith, short, has.stands.fed)

-- ---- where the line feed is

-- no line feed was found
pub feed_lacks : (bytes : List ℕ) → IsFirstByte (is_byte 10) bytes None → line_length bytes ≡ length bytes
feed_lacks bytes none = sym (sought_prefix (is_byte 10) bytes None none)

-- one was found after so many bytes
pub feed_found : (bytes : List ℕ) (before : ℕ) → IsFirstByte (is_byte 10) bytes (Some before) → (line_length bytes ≡ before) × (before < length bytes)
feed_found bytes before found = (sym (sought_prefix (is_byte 10) bytes (Some before) found), found.0.high)

-- nothing more was fed
pub still_stands : (decoder : Decoder) (fed : List ℕ) → StandsFor decoder fed → StandsFor decoder (fed ++ [])
still_stands decoder fed stands = subst (StandsFor decoder) (sym (append-nil fed)) stands

-- what holds of a value gives what follows from it
pub on_ok : {T E P Q : Type 0} (result : Result T E) → (P → Q) → OnOk result P → OnOk result Q
on_ok (Ok value) so is = so is
on_ok (Err fault) so is = tt
