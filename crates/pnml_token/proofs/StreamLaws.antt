-- What bytes in two parts, those held and a piece, tell of their first token. Its spelling and what is told of its end are
-- fixed by the first byte at which a token ends: so the token is the one that is read from the bytes up to there, whatever
-- follows, or there is none; and where no token ends within the longest spelling, there is none either.
use Rattle.std.proofs.Common.{◌≡◌, ℕ, ◌+◌, ◌<◌, ◌≤◌, Bool, true, false, List, [], ◌∷◌, ◌++◌, Some, None, length, take, drop, refl, sym, ap, subst, ◌∙◌, arith, append_assoc, length-append, inl, inr}
use Rattle.std.specs.Prelude.{codes, nat_eq, ◌&&◌, if◌then◌else◌}
use Rattle.std.specs.List.{starts_with}
use Rattle.std.proofs.lemmas.Bool.{cases_Bool}
use Rattle.std.proofs.lemmas.Bool.Decides.{nat_tests}
use Rattle.std.proofs.lemmas.List.{append-nil, take-append-drop, append_cancel_left, append_cancel_right, length-take}
use Rattle.net_values.specs.Characters.{IsLegalText}
use Rattle.net_values.specs.declared.limits.TheConstants.{MAX_TOKEN_BYTES}
use Rattle.pnml_grammar.specs.declared.token.Token.{Token}
use Rattle.pnml_grammar.specs.declared.token.Token.TheVariants as tokens
use Rattle.pnml_grammar.specs.declared.reason.Reason.TheVariants.{Doctype, BadToken}
use Rattle.pnml_grammar.specs.Characters.{Each}
use Rattle.pnml_grammar.specs.Tokens.{is_text_byte, IsCharacters, IsTextEnd, MayFollow, IsSpelling, Occurs}
use Rattle.pnml_grammar.specs.Reading.{token_from}
use Rattle.pnml_grammar.proofs.RunLaws.{bind_some}
use Rattle.pnml_grammar.proofs.TokenLaws.{token_is, token_found}
use Rattle.pnml_token.specs.declared.scan.Scan.{Scan}
use Rattle.pnml_token.specs.declared.scan.Scan.TheVariants.{Nothing, Ended, EndedBefore}
use Rattle.pnml_token.specs.Scans.{next, scanned, has_ended, own_mark, reached, EndsWith, first_token}
use Rattle.pnml_token.specs.Streams.{Settles, Begins, IsUnsettled, HasNoToken, IsHopeless, TellsReason}
use Rattle.pnml_token.proofs.ScanLaws.{scanned_append, ends_append, ends_scanned, ended_stays, one_end, goes_is_shorter, reached_none, Reaches, reaches}
use Rattle.pnml_token.proofs.SpelledEnds.{end_of, end_has_ended, spelled_ends}

-- ---- the end of a token that occurs

-- it is in the bytes, or the token is characters and goes to the end of the bytes
pub data EndsIn (bytes : List ℕ) (token : Token) (spelling rest : List ℕ) : Type 0 where
  inside : (after : List ℕ) → (spelling ++ own_mark (end_of token)) ++ after ≡ bytes → EndsIn bytes token spelling rest
  at_end : (value : List ℕ) → token ≡ tokens.Characters value → rest ≡ [] → EndsIn bytes token spelling rest

plain_inside : (bytes : List ℕ) (token : Token) (spelling rest : List ℕ) → own_mark (end_of token) ≡ [] → bytes ≡ spelling ++ rest → EndsIn bytes token spelling rest
plain_inside bytes token spelling rest none parts = inside rest (ap (λ (m : List ℕ). (spelling ++ m) ++ rest) none ∙ ap (λ (t : List ℕ). t ++ rest) (append-nil spelling) ∙ sym parts)

characters_inside : (bytes value spelling rest : List ℕ) → IsTextEnd rest → bytes ≡ spelling ++ rest → EndsIn bytes (tokens.Characters value) spelling rest
characters_inside bytes value spelling [] ends parts = at_end value refl refl
characters_inside bytes value spelling (b ∷ bs) ends parts = inside bs (append_assoc spelling (60 ∷ []) bs ∙ ap (λ (c : ℕ). spelling ++ (c ∷ bs)) (sym ends) ∙ sym parts)

ends_in : (bytes : List ℕ) (token : Token) (spelling rest : List ℕ) → Occurs bytes token spelling rest → EndsIn bytes token spelling rest
ends_in bytes tokens.Declaration spelling rest o = plain_inside bytes tokens.Declaration spelling rest refl o.parts
ends_in bytes tokens.Comment spelling rest o = plain_inside bytes tokens.Comment spelling rest refl o.parts
ends_in bytes tokens.Instruction spelling rest o = plain_inside bytes tokens.Instruction spelling rest refl o.parts
ends_in bytes (tokens.Cdata value) spelling rest o = plain_inside bytes (tokens.Cdata value) spelling rest refl o.parts
ends_in bytes (tokens.Start name attributes) spelling rest o = plain_inside bytes (tokens.Start name attributes) spelling rest refl o.parts
ends_in bytes (tokens.Empty name attributes) spelling rest o = plain_inside bytes (tokens.Empty name attributes) spelling rest refl o.parts
ends_in bytes (tokens.End name) spelling rest o = plain_inside bytes (tokens.End name) spelling rest refl o.parts
ends_in bytes (tokens.Characters value) spelling rest o = characters_inside bytes value spelling rest o.follows o.parts

-- with the bytes that may follow them, the bytes begin with the spelling and its mark
pub record Seals (bytes : List ℕ) (token : Token) (spelling : List ℕ) : Type 0 where
  pub more : List ℕ
  pub after : List ℕ
  pub parts : (spelling ++ own_mark (end_of token)) ++ after ≡ bytes ++ more

seals : (bytes : List ℕ) (token : Token) (spelling rest : List ℕ) → bytes ≡ spelling ++ rest → EndsIn bytes token spelling rest → Seals bytes token spelling
seals bytes token spelling rest parts (inside after e) = record { more = []; after = after; parts = e ∙ sym (append-nil bytes) }
seals bytes token spelling rest parts (at_end value is none) = record {
  more = own_mark (end_of token);
  after = [];
  parts = append-nil (spelling ++ own_mark (end_of token)) ∙ ap (λ (t : List ℕ). t ++ own_mark (end_of token)) (sym (parts ∙ ap (λ (r : List ℕ). spelling ++ r) none ∙ append-nil spelling));
}

occurs_seals : (bytes : List ℕ) (token : Token) (spelling rest : List ℕ) → Occurs bytes token spelling rest → Seals bytes token spelling
occurs_seals bytes token spelling rest o = seals bytes token spelling rest o.parts (ends_in bytes token spelling rest o)

-- the token that occurs is spelled by what comes before the mark of the first end
same_spelling : (token : Token) (spelling rest whole : List ℕ) (end : Scan) (bytes after : List ℕ) → Occurs bytes token spelling rest
    → EndsWith Nothing (whole ++ own_mark end) end → has_ended end ≡ true → bytes ≡ (whole ++ own_mark end) ++ after → (spelling ≡ whole) × (end_of token ≡ end)
same_spelling token spelling rest whole end bytes after o ends ended is =
    let s = occurs_seals bytes token spelling rest o in
    let both : (spelling ++ own_mark (end_of token)) ++ s.after ≡ (whole ++ own_mark end) ++ (after ++ s.more) =
    s.parts ∙ ap (λ (t : List ℕ). t ++ s.more) is ∙ append_assoc (whole ++ own_mark end) after s.more
    in
    let one = one_end Nothing (spelling ++ own_mark (end_of token)) (whole ++ own_mark end) (end_of token) end s.after (after ++ s.more) (spelled_ends token spelling o.spells) (end_has_ended token) ends ended both in
    (append_cancel_right spelling whole (own_mark end) (ap (λ e. spelling ++ own_mark e) (sym one.1) ∙ one.0), one.1)

-- where no token has ended, the spelling with its mark is longer
longer_spelling : (token : Token) (spelling rest front more : List ℕ) → Occurs (front ++ more) token spelling rest → has_ended (scanned Nothing front) ≡ false
    → length front < length (spelling ++ own_mark (end_of token))
longer_spelling token spelling rest front more o goes =
    let s = occurs_seals (front ++ more) token spelling rest o in
    goes_is_shorter Nothing (spelling ++ own_mark (end_of token)) front (end_of token) s.after (more ++ s.more) (spelled_ends token spelling o.spells) (end_has_ended token) goes
    (s.parts ∙ append_assoc front more s.more)

-- ---- what is read of the bytes up to an end

first_found : (bytes : List ℕ) (token : Token) → first_token bytes ≡ Some token → (rest : List ℕ) × (token_from bytes ≡ Some (token, rest))
first_found bytes token e =
    let a = bind_some (token_from bytes) _ token e in
    (a.0.1, a.1 ∙ ap (λ (t : Token). Some (t, a.0.1)) (some_is a.0.0 token a.2))
  where
    some_is : (t u : Token) → Some t ≡ Some u → t ≡ u
    some_is t u e = cc

first_none : (bytes : List ℕ) (token : Token) (rest : List ℕ) → first_token bytes ≡ None → token_from bytes ≡ Some (token, rest) → ⊥
first_none bytes token rest none some = absurd (let f : first_token bytes ≡ Some token = rw some refl in cc)

-- a mark may follow
follows_mark : (token : Token) (rest : List ℕ) (end : Scan) → MayFollow token rest → has_ended end ≡ true → MayFollow token (rest ++ own_mark end)
follows_mark (tokens.Characters value) rest end follows ended = text_end rest end follows ended
  where
    text_end : (rest : List ℕ) (end : Scan) → IsTextEnd rest → has_ended end ≡ true → IsTextEnd (rest ++ own_mark end)
    text_end [] Ended follows ended = tt
    text_end [] EndedBefore follows ended = refl
    text_end [] _ follows ended = absurd cc
    text_end (b ∷ bs) end follows ended = follows
follows_mark tokens.Declaration rest end follows ended = tt
follows_mark tokens.Comment rest end follows ended = tt
follows_mark tokens.Instruction rest end follows ended = tt
follows_mark (tokens.Cdata value) rest end follows ended = tt
follows_mark (tokens.Start name attributes) rest end follows ended = tt
follows_mark (tokens.Empty name attributes) rest end follows ended = tt
follows_mark (tokens.End name) rest end follows ended = tt

-- the token read from the bytes up to an end is spelled by all of them
whole_is_spelling : (whole : List ℕ) (token : Token) (rest : List ℕ) (end : Scan) → EndsWith Nothing (whole ++ own_mark end) end → has_ended end ≡ true → token_from whole ≡ Some (token, rest)
    → (rest ≡ []) × (end_of token ≡ end) × Occurs whole token whole []
whole_is_spelling whole token rest end ends ended e =
    let f = token_found whole token rest e in
    let o : Occurs (whole ++ own_mark end) token f.0 (rest ++ own_mark end) = record {
      parts = ap (λ (t : List ℕ). t ++ own_mark end) f.1.parts ∙ append_assoc f.0 rest (own_mark end);
      spells = f.1.spells;
      legal = f.1.legal;
      short = f.1.short;
      follows = follows_mark token rest end f.1.follows ended;
    }
    in
    let s = same_spelling token f.0 (rest ++ own_mark end) whole end (whole ++ own_mark end) [] o ends ended (sym (append-nil (whole ++ own_mark end))) in
    let none : rest ≡ [] = nothing_left whole rest (f.1.parts ∙ ap (λ (t : List ℕ). t ++ rest) s.0) in (
      none,
      s.1,
      record {
        parts = sym (append-nil whole);
        spells = subst (λ (t : List ℕ). IsSpelling token t) s.0 f.1.spells;
        legal = subst IsLegalText s.0 f.1.legal;
        short = subst (λ (t : List ℕ). length t ≤ MAX_TOKEN_BYTES) s.0 f.1.short;
        follows = subst (MayFollow token) none f.1.follows;
      },
    )
  where
    nothing_left : (whole rest : List ℕ) → whole ≡ whole ++ rest → rest ≡ []
    nothing_left whole rest e = append_cancel_left whole rest [] (sym e ∙ sym (append-nil whole))

-- ---- the end in a piece

-- the bytes held have no end, and the piece has one
pub record Cut (held piece : List ℕ) : Type 0 where
  pub goes : has_ended (scanned Nothing held) ≡ false
  pub ended : has_ended (reached (scanned Nothing held) piece).0 ≡ true

abbrev pub end_in : List ℕ → List ℕ → Scan
end_in held piece = (reached (scanned Nothing held) piece).0

abbrev pub taken_of : List ℕ → List ℕ → ℕ
taken_of held piece = (reached (scanned Nothing held) piece).1

cut_reaches : (held piece : List ℕ) → Cut held piece → Reaches (scanned Nothing held) piece (reached (scanned Nothing held) piece)
cut_reaches held piece cut = reaches (scanned Nothing held) piece cut.goes cut.ended

cut_ends : (held piece : List ℕ) → Cut held piece → EndsWith Nothing ((held ++ take (taken_of held piece) piece) ++ own_mark (end_in held piece)) (end_in held piece)
cut_ends held piece cut =
    let own = take (taken_of held piece) piece in
    subst (λ (t : List ℕ). EndsWith Nothing t (end_in held piece)) (sym (append_assoc held own (own_mark (end_in held piece))))
    (ends_append Nothing held (own ++ own_mark (end_in held piece)) (end_in held piece) cut.goes (cut_reaches held piece cut).ends)

-- the piece has the bytes of the token, its mark and what is left
cut_piece : (held piece : List ℕ) (cut : Cut held piece) → piece ≡ take (taken_of held piece) piece ++ (own_mark (end_in held piece) ++ (cut_reaches held piece cut).rest)
cut_piece held piece cut = sym (take-append-drop (taken_of held piece) piece) ∙ ap (λ (t : List ℕ). take (taken_of held piece) piece ++ t) (cut_reaches held piece cut).after

pub token_is_settled : (held piece : List ℕ) (token : Token) → Cut held piece → first_token (held ++ take (taken_of held piece) piece) ≡ Some token → Settles held piece (taken_of held piece) token
token_is_settled held piece token cut e more =
    let n = taken_of held piece in
    let whole = held ++ take n piece in
    let f = first_found whole token e in
    let w = whole_is_spelling whole token f.0 (end_in held piece) (cut_ends held piece cut) cut.ended f.1 in
    record {
      parts = ap (λ (t : List ℕ). held ++ (t ++ more)) (sym (take-append-drop n piece)) ∙ ap (λ (t : List ℕ). held ++ t) (append_assoc (take n piece) (drop n piece) more) ∙ sym (append_assoc held (take n piece) (drop n piece ++ more));
      spells = w.2.spells;
      legal = w.2.legal;
      short = w.2.short;
      follows = subst (λ (t : List ℕ). MayFollow token (t ++ more)) (sym (cut_reaches held piece cut).after) (mark_follows token (end_in held piece) (cut_reaches held piece cut).rest more w.1);
    }
  where
    mark_follows : (token : Token) (end : Scan) (rest more : List ℕ) → end_of token ≡ end → MayFollow token ((own_mark end ++ rest) ++ more)
    mark_follows (tokens.Characters value) end rest more is = subst (λ e. IsTextEnd ((own_mark e ++ rest) ++ more)) is refl
    mark_follows tokens.Declaration end rest more is = tt
    mark_follows tokens.Comment end rest more is = tt
    mark_follows tokens.Instruction end rest more is = tt
    mark_follows (tokens.Cdata value) end rest more is = tt
    mark_follows (tokens.Start name attributes) end rest more is = tt
    mark_follows (tokens.Empty name attributes) end rest more is = tt
    mark_follows (tokens.End name) end rest more is = tt

-- what occurs after more bytes is spelled by the bytes up to the end
cut_spelling : (held piece more : List ℕ) (token : Token) (spelling rest : List ℕ) → Cut held piece → Occurs ((held ++ piece) ++ more) token spelling rest → spelling ≡ held ++ take (taken_of held piece) piece
cut_spelling held piece more token spelling rest cut o =
    let own = take (taken_of held piece) piece in
    let m = own_mark (end_in held piece) in
    let left = (cut_reaches held piece cut).rest in
    (same_spelling token spelling rest (held ++ own) (end_in held piece) ((held ++ piece) ++ more) (left ++ more) o (cut_ends held piece cut) cut.ended
    (ap (λ (t : List ℕ). (held ++ t) ++ more) (cut_piece held piece cut) ∙ regrouped held own m left more)).0
  where
    regrouped : (held own m left more : List ℕ) → (held ++ (own ++ (m ++ left))) ++ more ≡ ((held ++ own) ++ m) ++ (left ++ more)
    regrouped held own m left more = simp append_assoc

alone : (bytes : List ℕ) (token : Token) (spelling rest whole : List ℕ) → Occurs bytes token spelling rest → spelling ≡ whole → Occurs whole token whole []
alone bytes token spelling rest whole o is = record {
  parts = sym (append-nil whole);
  spells = subst (λ (t : List ℕ). IsSpelling token t) is o.spells;
  legal = subst IsLegalText is o.legal;
  short = subst (λ (t : List ℕ). length t ≤ MAX_TOKEN_BYTES) is o.short;
  follows = at_end token;
}
  where
    at_end : (token : Token) → MayFollow token []
    at_end (tokens.Characters value) = tt
    at_end tokens.Declaration = tt
    at_end tokens.Comment = tt
    at_end tokens.Instruction = tt
    at_end (tokens.Cdata value) = tt
    at_end (tokens.Start name attributes) = tt
    at_end (tokens.Empty name attributes) = tt
    at_end (tokens.End name) = tt

pub cut_is_hopeless : (held piece : List ℕ) → Cut held piece → first_token (held ++ take (taken_of held piece) piece) ≡ None → IsHopeless (held ++ piece)
cut_is_hopeless held piece cut none more token (spelling, rest, o) =
    let whole = held ++ take (taken_of held piece) piece in
    let is = cut_spelling held piece more token spelling rest cut o in
    first_none whole token [] none (token_is whole token whole [] (alone ((held ++ piece) ++ more) token spelling rest whole o is))

-- ---- bytes that are too many

cut_inside : (held piece : List ℕ) → Cut held piece → taken_of held piece ≤ length piece
cut_inside held piece cut = (cut_reaches held piece cut).inside

mark_is_short : (end : Scan) → length (own_mark end) ≤ 1
mark_is_short EndedBefore = omega arith
mark_is_short _ = omega arith

pub too_long_is_hopeless : (held piece : List ℕ) → has_ended (scanned Nothing held) ≡ false → MAX_TOKEN_BYTES < length held + taken_of held piece → IsHopeless (held ++ piece)
too_long_is_hopeless held piece goes long more token (spelling, rest, o) = elim (cases_Bool (has_ended (end_in held piece))) [
  | inl ended ↦
      let cut : Cut held piece = record { goes = goes; ended = ended } in
      let is = cut_spelling held piece more token spelling rest cut o in
      omega (arith, long, o.short, ap length is, length-append held (take (taken_of held piece) piece), length-take (taken_of held piece) piece, cut_inside held piece cut)
  | inr none ↦
      let r = reached_none (scanned Nothing held) piece none in
      let front : has_ended (scanned Nothing (held ++ piece)) ≡ false = ap has_ended (scanned_append Nothing held piece ∙ sym r.0) ∙ none in
      omega (arith, long, o.short, r.1, longer_spelling token spelling rest (held ++ piece) more o front, length-append held piece, length-append spelling (own_mark (end_of token)), mark_is_short (end_of token))
]

-- ---- bytes without an end

text_each : (value bytes : List ℕ) → IsCharacters value bytes → Each is_text_byte bytes
text_each value bytes is = is.each

no_mark : (xs ys : List ℕ) → Each is_text_byte (xs ++ (60 ∷ ys)) → ⊥
no_mark [] ys each = let f = each.0 in absurd cc
no_mark (x ∷ xs) ys each = no_mark xs ys each.1

text_append : (xs ys : List ℕ) → Each is_text_byte xs → Each is_text_byte ys → Each is_text_byte (xs ++ ys)
text_append [] ys one other = other
text_append (x ∷ xs) ys one other = (one.0, text_append xs ys one.1 other)

-- text up to the end of the bytes is no token where `]]>` follows it
section_end_is_bad : (value bytes spelling rest : List ℕ) → Each is_text_byte bytes → Occurs (bytes ++ codes "]]>") (tokens.Characters value) spelling rest → ⊥
section_end_is_bad value bytes spelling [] each o = o.spells.without bytes [] (sym (append-nil spelling) ∙ sym o.parts)
section_end_is_bad value bytes spelling (b ∷ bs) each o =
    no_mark spelling bs (subst (Each is_text_byte) (o.parts ∙ ap (λ (c : ℕ). spelling ++ (c ∷ bs)) o.follows) (text_append bytes (codes "]]>") each (refl, (refl, (refl, tt)))))

unsettled_in : (bytes : List ℕ) (token : Token) (spelling rest : List ℕ) → has_ended (scanned Nothing bytes) ≡ false → Occurs (bytes ++ []) token spelling rest → EndsIn (bytes ++ []) token spelling rest
    → ((more : List ℕ) → Begins (bytes ++ more) token) → ⊥
unsettled_in bytes token spelling rest goes o (inside after is) begins =
    omega (arith, longer_spelling token spelling rest bytes [] o goes, ap length is, length-append (spelling ++ own_mark (end_of token)) after, length-append bytes [])
unsettled_in bytes token spelling rest goes o (at_end value is none) begins =
    let named = subst (λ t. Occurs (bytes ++ []) t spelling rest) is o in
    let whole : spelling ≡ bytes = sym (append-nil spelling) ∙ ap (λ (r : List ℕ). spelling ++ r) (sym none) ∙ sym o.parts ∙ append-nil bytes in
    let each = subst (Each is_text_byte) whole (text_each value spelling named.spells) in
    let later = subst (λ t. Begins (bytes ++ codes "]]>") t) is (begins (codes "]]>")) in
    section_end_is_bad value bytes later.0 later.1 each later.2

goes_is_unsettled : (bytes : List ℕ) → has_ended (scanned Nothing bytes) ≡ false → IsUnsettled bytes
goes_is_unsettled bytes goes token begins =
    let b = begins [] in
    unsettled_in bytes token b.0 b.1 goes b.2 (ends_in (bytes ++ []) token b.0 b.1 b.2) begins

pub no_end_is_unsettled : (held piece : List ℕ) → has_ended (end_in held piece) ≡ false → IsUnsettled (held ++ piece)
no_end_is_unsettled held piece none =
    let r = reached_none (scanned Nothing held) piece none in
    goes_is_unsettled (held ++ piece) (ap has_ended (scanned_append Nothing held piece ∙ sym r.0) ∙ none)

-- ---- why there is no token

abbrev starts : List ℕ → List ℕ → Bool
starts bytes text = starts_with nat_eq bytes text

starts_first : (b t : ℕ) (bs ts : List ℕ) → starts (b ∷ bs) (t ∷ ts) ≡ (nat_eq t b && starts bs ts)
starts_first b t bs ts = refl

-- a text of which no front has an end
abbrev AllGo : Scan → List ℕ → Type 0
AllGo scan [] = has_ended scan ≡ false
AllGo scan (b ∷ bs) = (has_ended scan ≡ false) × AllGo (next scan b) bs

apart_alike : (test x y : Bool) → test ≡ false → (test && x) ≡ (test && y)
apart_alike true x y e = absurd cc
apart_alike false x y e = refl

told_by_end : (scan : Scan) (text bytes more : List ℕ) → AllGo scan text → has_ended (scanned scan bytes) ≡ true → starts (bytes ++ more) text ≡ starts bytes text
told_by_end scan [] bytes more all ended = refl
told_by_end scan (t ∷ ts) [] more all ended = absurd (let f = all.0 in cc)
told_by_end scan (t ∷ ts) (b ∷ bs) more all ended = elim (cases_Bool (nat_eq t b)) [
  | inl same ↦
      starts_first b t (bs ++ more) ts
      ∙ ap (λ v. nat_eq t b && v) (told_by_end (next scan t) ts bs more all.1 (subst (λ (c : ℕ). has_ended (scanned (next scan c) bs) ≡ true) (is_same b t same) ended))
      ∙ sym (starts_first b t bs ts)
  | inr apart ↦ starts_first b t (bs ++ more) ts ∙ apart_alike (nat_eq t b) (starts (bs ++ more) ts) (starts bs ts) apart ∙ sym (starts_first b t bs ts)
]
  where
    is_same : (b t : ℕ) → nat_eq t b ≡ true → b ≡ t
    is_same b t e = grind (arith, nat_tests)

told_by_length : (text bytes more : List ℕ) → length text ≤ length bytes → starts (bytes ++ more) text ≡ starts bytes text
told_by_length [] bytes more long = refl
told_by_length (t ∷ ts) [] more long = absurd (omega arith)
told_by_length (t ∷ ts) (b ∷ bs) more long = starts_first b t (bs ++ more) ts ∙ ap (λ v. nat_eq t b && v) (told_by_length ts bs more (omega (arith, long))) ∙ sym (starts_first b t bs ts)

doctype_goes : AllGo Nothing (codes "<!DOCTYPE")
doctype_goes = (refl, (refl, (refl, (refl, (refl, (refl, (refl, (refl, (refl, refl)))))))))

tells : (bytes : List ℕ) → ((more : List ℕ) → starts (bytes ++ more) (codes "<!DOCTYPE") ≡ starts bytes (codes "<!DOCTYPE")) → TellsReason bytes
tells bytes told more = ap (λ (b : Bool). if b then Doctype else BadToken) (told more)

cut_has_ended : (held piece : List ℕ) → Cut held piece → has_ended (scanned Nothing (held ++ piece)) ≡ true
cut_has_ended held piece cut =
    let own = held ++ take (taken_of held piece) piece in
    let end = end_in held piece in
    let left = (cut_reaches held piece cut).rest in
    let parts : held ++ piece ≡ (own ++ own_mark end) ++ left =
    ap (λ (t : List ℕ). held ++ t) (cut_piece held piece cut) ∙ regrouped held (take (taken_of held piece) piece) (own_mark end) left
    in
    let at_end = ends_scanned Nothing (own ++ own_mark end) end (cut_ends held piece cut) in
    ap (λ (t : List ℕ). has_ended (scanned Nothing t)) parts
    ∙ ap has_ended (scanned_append Nothing (own ++ own_mark end) left ∙ ap (λ s. scanned s left) at_end ∙ ended_stays end left cut.ended)
    ∙ cut.ended
  where
    regrouped : (held own m left : List ℕ) → held ++ (own ++ (m ++ left)) ≡ ((held ++ own) ++ m) ++ left
    regrouped held own m left = simp append_assoc

pub cut_tells_reason : (held piece : List ℕ) → Cut held piece → TellsReason (held ++ piece)
cut_tells_reason held piece cut = tells (held ++ piece) (λ more. told_by_end Nothing (codes "<!DOCTYPE") (held ++ piece) more doctype_goes (cut_has_ended held piece cut))

pub too_long_tells_reason : (held piece : List ℕ) → has_ended (scanned Nothing held) ≡ false → MAX_TOKEN_BYTES < length held + taken_of held piece → TellsReason (held ++ piece)
too_long_tells_reason held piece goes long = elim (cases_Bool (has_ended (end_in held piece))) [
  | inl ended ↦ cut_tells_reason held piece record { goes = goes; ended = ended }
  | inr none ↦
      let r = reached_none (scanned Nothing held) piece none in
      tells (held ++ piece) (λ more. told_by_length (codes "<!DOCTYPE") (held ++ piece) more (omega (arith, long, r.1, length-append held piece)))
]

-- ---- the end of the input

pub finished_token : (held : List ℕ) (token : Token) → has_ended (scanned Nothing held) ≡ false → first_token held ≡ Some token → Occurs held token held []
finished_token held token goes e =
    let f = first_found held token e in
    let t = token_found held token f.0 f.1 in
    at_the_end held token t.0 f.0 goes t.1 (ends_in held token t.0 f.0 t.1)
  where
    at_the_end : (held : List ℕ) (token : Token) (spelling rest : List ℕ) → has_ended (scanned Nothing held) ≡ false → Occurs held token spelling rest → EndsIn held token spelling rest → Occurs held token held []
    at_the_end held token spelling rest goes o (inside after is) =
        let longer = longer_spelling token spelling rest held [] (subst (λ (t : List ℕ). Occurs t token spelling rest) (sym (append-nil held)) o) goes in
        absurd (omega (arith, longer, ap length is, length-append (spelling ++ own_mark (end_of token)) after))
    at_the_end held token spelling rest goes o (at_end value is none) =
        alone held token spelling rest held o (sym (append-nil spelling) ∙ ap (λ (r : List ℕ). spelling ++ r) (sym none) ∙ sym o.parts)

pub finished_none : (held : List ℕ) → first_token held ≡ None → HasNoToken held
finished_none held none token (spelling, rest, o) = first_none held token rest none (token_is held token spelling rest o)
