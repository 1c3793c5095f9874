-- The spelling of a token ends with its last byte and not before; characters end with the `<` after them.
use Rattle.std.proofs.Common.{◌≡◌, ℕ, zero, suc, Bool, true, false, List, [], ◌∷◌, ◌++◌, map, refl, sym, ap, subst, ◌∙◌, append_assoc, arith, inl, inr, ◌⊎◌}
use Rattle.std.specs.Prelude.{◌==◌, ◌||◌, ◌&&◌, not, codes, bytes_eq}
use Rattle.std.specs.List.{AllByRecursion, flat_map}
use Rattle.std.proofs.lemmas.Bool.{cases_Bool, and_parts}
use Rattle.std.proofs.lemmas.Slice.Eq.{bytes_eq-Decides}
use Rattle.std.specs.Str.{str_to_ascii_lowercase}
use Rattle.std.specs.Char.{to_ascii_lowercase}
use Rattle.std.proofs.lemmas.Bool.Decides.{nat_tests}
use Rattle.std.proofs.lemmas.List.{append-nil}
use Rattle.pnml_grammar.specs.declared.token.Attribute.{Attribute}
use Rattle.pnml_grammar.specs.declared.token.Token.{Token}
use Rattle.pnml_grammar.specs.declared.token.Token.TheVariants as tokens
use Rattle.pnml_grammar.specs.Characters.{Each, Without, is_space}
use Rattle.pnml_grammar.specs.Names.{IsName, is_name_start, is_name_byte}
use Rattle.pnml_grammar.specs.Attributes.{Written, written, IsWritten, is_value_byte}
use Rattle.pnml_grammar.specs.Declarations.{RawAttribute, raw_attribute, declare, is_version, is_encoding, is_standalone, IsDeclaration}
use Rattle.pnml_grammar.specs.Tags.{IsTag, IsEndTag}
use Rattle.pnml_grammar.specs.Tokens.{IsComment, IsCdata, IsInstruction, IsCharacters, is_text_byte, IsSpelling}
use Rattle.pnml_token.specs.declared.scan.Scan.{Scan}
use Rattle.pnml_token.specs.declared.scan.Scan.TheVariants.{Nothing, Characters, Markup, Comment, CommentDash, Section, SectionBracket, SectionBrackets, Instruction, InstructionMark, Tag, Value, Ended, EndedBefore}
use Rattle.pnml_token.specs.Scans.{next, scanned, has_ended, own_mark, EndsWith}
use Rattle.pnml_token.proofs.ScanLaws.{scanned_append, ends_append}

-- ---- parts one after the other

ends_after : (s t : Scan) (xs ys : List ℕ) (e : Scan) → scanned s xs ≡ t → has_ended t ≡ false → EndsWith t ys e → EndsWith s (xs ++ ys) e
ends_after s t xs ys e is goes ends =
    ends_append s xs ys e (ap has_ended is ∙ goes) (subst (λ u. EndsWith u ys e) (sym is) ends)

over : (s t u : Scan) (xs ys : List ℕ) → scanned s xs ≡ t → scanned t ys ≡ u → scanned s (xs ++ ys) ≡ u
over s t u xs ys is then = scanned_append s xs ys ∙ ap (λ v. scanned v ys) is ∙ then

on_to : (s t u : Scan) (b : ℕ) (bs : List ℕ) → next s b ≡ t → scanned t bs ≡ u → scanned s (b ∷ bs) ≡ u
on_to s t u b bs step goes = ap (λ v. scanned v bs) step ∙ goes

stays : (s : Scan) (p : ℕ → Bool) → ((b : ℕ) → p b ≡ true → next s b ≡ s) → (bytes : List ℕ) → Each p bytes → scanned s bytes ≡ s
stays s p keeps [] each = refl
stays s p keeps (b ∷ bs) each = ap (λ u. scanned u bs) (keeps b each.0) ∙ stays s p keeps bs each.1

without_tail : (part : List ℕ) (b : ℕ) (bytes : List ℕ) → Without part (b ∷ bytes) → Without part bytes
without_tail part b bytes w before after e = w (b ∷ before) after (ap (λ (t : List ℕ). b ∷ t) e)

same_byte : (b c : ℕ) → (b == c) ≡ true → b ≡ c
same_byte b c e = grind (arith, nat_tests)

-- ---- comments

dash : Bool → Scan
dash false = Comment
dash true = CommentDash

dashes : Bool → List ℕ
dashes false = []
dashes true = 45 ∷ []

comment_goes : (body : List ℕ) (d : Bool) → Without (codes "--") (dashes d ++ (body ++ codes "-")) → scanned (dash d) body ≡ Comment
unfolding dash dashes
comment_goes [] false w = refl
comment_goes [] true w = absurd (w [] [] refl)
comment_goes (b ∷ bs) false w = elim (cases_Bool (b == 45)) [
  | inl is ↦ rw is (comment_goes bs true (subst (λ (c : ℕ). Without (codes "--") (c ∷ (bs ++ codes "-"))) (same_byte b 45 is) w))
  | inr other ↦ rw other (comment_goes bs false (without_tail (codes "--") b (bs ++ codes "-") w))
]
comment_goes (b ∷ bs) true w = elim (cases_Bool (b == 45)) [
  | inl is ↦ absurd (w [] (bs ++ codes "-") (ap (λ (c : ℕ). 45 ∷ c ∷ (bs ++ codes "-")) (same_byte b 45 is)))
  | inr other ↦ rw other (comment_goes bs false (without_tail (codes "--") b (bs ++ codes "-") (without_tail (codes "--") 45 (b ∷ (bs ++ codes "-")) w)))
]

comment_ends : (bytes : List ℕ) → IsComment bytes → EndsWith Nothing bytes Ended
unfolding dash dashes
comment_ends bytes is =
    subst (λ (t : List ℕ). EndsWith Nothing t Ended) (sym is.spelling)
    (ends_after Nothing Comment (codes "<!--") (is.body ++ codes "-->") Ended refl refl
    (ends_after Comment Comment is.body (codes "-->") Ended (comment_goes is.body false is.without) refl (refl, (refl, (refl, refl)))))

-- ---- CDATA sections

bracket : ℕ → Scan
bracket zero = Section
bracket (suc zero) = SectionBracket
bracket (suc (suc n)) = SectionBrackets

brackets : ℕ → List ℕ
brackets zero = []
brackets (suc zero) = 93 ∷ []
brackets (suc (suc n)) = 93 ∷ 93 ∷ []

section_goes : (body : List ℕ) (n : ℕ) → Without (codes "]]>") (brackets n ++ body) → scanned (bracket n) (body ++ codes "]]") ≡ SectionBrackets
unfolding bracket brackets
section_goes [] zero w = refl
section_goes [] (suc zero) w = refl
section_goes [] (suc (suc n)) w = refl
section_goes (b ∷ bs) zero w = elim (cases_Bool (b == 93)) [
  | inl is ↦ on_to Section SectionBracket SectionBrackets b (bs ++ codes "]]") (rw is refl) (section_goes bs 1 (subst (λ (c : ℕ). Without (codes "]]>") (c ∷ bs)) (same_byte b 93 is) w))
  | inr other ↦ on_to Section Section SectionBrackets b (bs ++ codes "]]") (rw other refl) (section_goes bs 0 (without_tail (codes "]]>") b bs w))
]
section_goes (b ∷ bs) (suc zero) w = elim (cases_Bool (b == 93)) [
  | inl is ↦ on_to SectionBracket SectionBrackets SectionBrackets b (bs ++ codes "]]") (rw is refl) (section_goes bs 2 (subst (λ (c : ℕ). Without (codes "]]>") (93 ∷ c ∷ bs)) (same_byte b 93 is) w))
  | inr other ↦ on_to SectionBracket Section SectionBrackets b (bs ++ codes "]]") (rw other refl) (section_goes bs 0 (without_tail (codes "]]>") b bs (without_tail (codes "]]>") 93 (b ∷ bs) w)))
]
section_goes (b ∷ bs) (suc (suc n)) w = elim (cases_Bool (b == 62)) [
  | inl is ↦ absurd (w [] bs (ap (λ (c : ℕ). 93 ∷ 93 ∷ c ∷ bs) (same_byte b 62 is)))
  | inr goes ↦ elim (cases_Bool (b == 93)) [
    | inl is ↦ on_to SectionBrackets SectionBrackets SectionBrackets b (bs ++ codes "]]") (rw (goes, is) refl) (section_goes bs 2 (subst (λ (c : ℕ). Without (codes "]]>") (93 ∷ c ∷ bs)) (same_byte b 93 is) (without_tail (codes "]]>") 93 (93 ∷ b ∷ bs) w)))
    | inr other ↦ on_to SectionBrackets Section SectionBrackets b (bs ++ codes "]]") (rw (goes, other) refl) (section_goes bs 0 (without_tail (codes "]]>") b bs (without_tail (codes "]]>") 93 (b ∷ bs) (without_tail (codes "]]>") 93 (93 ∷ b ∷ bs) w))))
  ]
]

section_ends : (value bytes : List ℕ) → IsCdata value bytes → EndsWith Nothing bytes Ended
unfolding bracket brackets
section_ends value bytes is =
    let parts : bytes ≡ codes "<![CDATA[" ++ ((is.body ++ codes "]]") ++ codes ">") =
    is.spelling ∙ ap (λ (t : List ℕ). codes "<![CDATA[" ++ t) (sym (append_assoc is.body (codes "]]") (codes ">"))) in
    subst (λ (t : List ℕ). EndsWith Nothing t Ended) (sym parts)
    (ends_after Nothing Section (codes "<![CDATA[") ((is.body ++ codes "]]") ++ codes ">") Ended refl refl
    (ends_after Section SectionBrackets (is.body ++ codes "]]") (codes ">") Ended (section_goes is.body 0 is.without) refl (refl, refl)))

-- ---- instructions

mark : Bool → Scan
mark false = Instruction
mark true = InstructionMark

marks : Bool → List ℕ
marks false = []
marks true = 63 ∷ []

instruction_goes : (body : List ℕ) (m : Bool) → Without (codes "?>") (marks m ++ body) → scanned (mark m) (body ++ codes "?") ≡ InstructionMark
unfolding mark marks
instruction_goes [] false w = refl
instruction_goes [] true w = refl
instruction_goes (b ∷ bs) false w = elim (cases_Bool (b == 63)) [
  | inl is ↦ on_to Instruction InstructionMark InstructionMark b (bs ++ codes "?") (rw is refl) (instruction_goes bs true (subst (λ (c : ℕ). Without (codes "?>") (c ∷ bs)) (same_byte b 63 is) w))
  | inr other ↦ on_to Instruction Instruction InstructionMark b (bs ++ codes "?") (rw other refl) (instruction_goes bs false (without_tail (codes "?>") b bs w))
]
instruction_goes (b ∷ bs) true w = elim (cases_Bool (b == 62)) [
  | inl is ↦ absurd (w [] bs (ap (λ (c : ℕ). 63 ∷ c ∷ bs) (same_byte b 62 is)))
  | inr goes ↦ elim (cases_Bool (b == 63)) [
    | inl is ↦ on_to InstructionMark InstructionMark InstructionMark b (bs ++ codes "?") (rw (goes, is) refl) (instruction_goes bs true (subst (λ (c : ℕ). Without (codes "?>") (c ∷ bs)) (same_byte b 63 is) (without_tail (codes "?>") 63 (b ∷ bs) w)))
    | inr other ↦ on_to InstructionMark Instruction InstructionMark b (bs ++ codes "?") (rw (goes, other) refl) (instruction_goes bs false (without_tail (codes "?>") b bs (without_tail (codes "?>") 63 (b ∷ bs) w)))
  ]
]

-- any byte but `?`
abbrev is_other : ℕ → Bool
is_other b = not (b == 63)

other_stays : (bytes : List ℕ) → Each is_other bytes → scanned Instruction bytes ≡ Instruction
other_stays = stays Instruction is_other keeps
  where
    keeps : (b : ℕ) → is_other b ≡ true → next Instruction b ≡ Instruction
    keeps b e = let f : (b == 63) ≡ false = grind (arith, nat_tests) in rw f refl

each_weaker : (p q : ℕ → Bool) → ((b : ℕ) → p b ≡ true → q b ≡ true) → (bytes : List ℕ) → Each p bytes → Each q bytes
each_weaker p q weaker [] each = tt
each_weaker p q weaker (b ∷ bs) each = (weaker b each.0, each_weaker p q weaker bs each.1)

each_append : (p : ℕ → Bool) (xs ys : List ℕ) → Each p xs → Each p ys → Each p (xs ++ ys)
each_append p [] ys one other = other
each_append p (x ∷ xs) ys one other = (one.0, each_append p xs ys one.1 other)

name_each : (name : List ℕ) → IsName name → Each is_name_byte name
name_each [] is = absurd is
name_each (b ∷ bs) is = (starts b is.0, is.1)
  where
    starts : (b : ℕ) → is_name_start b ≡ true → is_name_byte b ≡ true
    starts b e = rw e refl

name_other : (b : ℕ) → is_name_byte b ≡ true → is_other b ≡ true
name_other b e = grind (arith, nat_tests)

instruction_ends : (bytes : List ℕ) → IsInstruction bytes → EndsWith Nothing bytes Ended
unfolding mark marks
instruction_ends bytes is =
    let named = other_stays is.name (each_weaker is_name_byte is_other name_other is.name (name_each is.name is.named)) in
    let parts : bytes ≡ codes "<?" ++ (is.name ++ ((is.body ++ codes "?") ++ codes ">")) =
    is.spelling ∙ ap (λ (t : List ℕ). codes "<?" ++ (is.name ++ t)) (sym (append_assoc is.body (codes "?") (codes ">"))) in
    subst (λ (t : List ℕ). EndsWith Nothing t Ended) (sym parts)
    (ends_after Nothing Instruction (codes "<?") (is.name ++ ((is.body ++ codes "?") ++ codes ">")) Ended refl refl
    (ends_after Instruction Instruction is.name ((is.body ++ codes "?") ++ codes ">") Ended named refl
    (ends_after Instruction InstructionMark (is.body ++ codes "?") (codes ">") Ended (instruction_goes is.body false is.without) refl (refl, refl))))

-- ---- tags

name_in_tag : (b : ℕ) → is_name_byte b ≡ true → next Tag b ≡ Tag
name_in_tag b e =
    let f : (b == 34 || b == 39) ≡ false = grind (arith, nat_tests) in
    let g : (b == 62) ≡ false = grind (arith, nat_tests) in
    rw (f, g) refl

space_in_tag : (b : ℕ) → is_space b ≡ true → next Tag b ≡ Tag
space_in_tag b e =
    let f : (b == 34 || b == 39) ≡ false = grind (arith, nat_tests) in
    let g : (b == 62) ≡ false = grind (arith, nat_tests) in
    rw (f, g) refl

value_stays : (quote b : ℕ) → is_value_byte quote b ≡ true → next (Value quote) b ≡ Value quote
value_stays quote b e = let f : (b == quote) ≡ false = grind (arith, nat_tests) in rw f refl

opens : (quote : ℕ) → (quote ≡ 34) ⊎ (quote ≡ 39) → next Tag quote ≡ Value quote
opens quote (inl is) = rw is refl
opens quote (inr is) = rw is refl

closes : (quote : ℕ) → next (Value quote) quote ≡ Tag
closes quote = let f : (quote == quote) ≡ true = grind (arith, nat_tests) in rw f refl

name_stays : (name : List ℕ) → IsName name → scanned Tag name ≡ Tag
name_stays name is = stays Tag is_name_byte name_in_tag name (name_each name is)

written_stays : (w : Written) → IsWritten w → scanned Tag (written w) ≡ Tag
written_stays w is =
    let t1 = w.body ++ (w.quote ∷ []) in
    let t2 = w.after ++ (w.quote ∷ t1) in
    let t3 = w.before ++ (61 ∷ t2) in
    let closed : scanned (Value w.quote) t1 ≡ Tag = over (Value w.quote) (Value w.quote) Tag w.body (w.quote ∷ []) (stays (Value w.quote) (is_value_byte w.quote) (value_stays w.quote) w.body is.body) (closes w.quote) in
    let quoted : scanned Tag (w.quote ∷ t1) ≡ Tag = ap (λ s. scanned s t1) (opens w.quote is.quote) ∙ closed in
    let valued : scanned Tag t2 ≡ Tag = over Tag Tag Tag w.after (w.quote ∷ t1) (stays Tag is_space space_in_tag w.after is.after) quoted in
    let equals : scanned Tag t3 ≡ Tag = over Tag Tag Tag w.before (61 ∷ t2) (stays Tag is_space space_in_tag w.before is.before) valued in
    over Tag Tag Tag w.gap (w.name ++ t3) (stays Tag is_space space_in_tag w.gap is.gap) (over Tag Tag Tag w.name t3 (name_stays w.name is.name) equals)

writtens_stay : (ws : List Written) → AllByRecursion IsWritten ws → scanned Tag (flat_map written ws) ≡ Tag
writtens_stay [] each = refl
writtens_stay (w ∷ ws) each = over Tag Tag Tag (written w) (flat_map written ws) (written_stays w each.0) (writtens_stay ws each.1)

name_first : (b : ℕ) → is_name_start b ≡ true → next Markup b ≡ Tag
name_first b e =
    let f : (b == 33) ≡ false = grind (arith, nat_tests) in
    let g : (b == 63) ≡ false = grind (arith, nat_tests) in
    let h : (b == 34 || b == 39) ≡ false = grind (arith, nat_tests) in
    let i : (b == 62) ≡ false = grind (arith, nat_tests) in
    rw (f, g, h, i) refl

tag_named : (name rest : List ℕ) → IsName name → EndsWith Tag rest Ended → EndsWith Markup (name ++ rest) Ended
tag_named [] rest is ends = absurd is
tag_named (b ∷ bs) rest is ends = (refl, subst (λ s. EndsWith s (bs ++ rest) Ended) (sym (name_first b is.0)) (ends_after Tag Tag bs rest Ended (stays Tag is_name_byte name_in_tag bs is.1) refl ends))

tag_ends : (close name : List ℕ) (attributes : List Attribute) (bytes : List ℕ) → EndsWith Tag close Ended → IsTag close name attributes bytes → EndsWith Nothing bytes Ended
tag_ends close name attributes bytes closed is =
    subst (λ (t : List ℕ). EndsWith Nothing t Ended) (sym is.spelling) (
      refl,
      tag_named name (flat_map written is.writtens ++ (is.gap ++ close)) is.named
          (ends_after Tag Tag (flat_map written is.writtens) (is.gap ++ close) Ended (writtens_stay is.writtens is.each) refl
          (ends_after Tag Tag is.gap close Ended (stays Tag is_space space_in_tag is.gap is.space) refl closed)),
    )

end_tag_ends : (name bytes : List ℕ) → IsEndTag name bytes → EndsWith Nothing bytes Ended
end_tag_ends name bytes is =
    subst (λ (t : List ℕ). EndsWith Nothing t Ended) (sym is.spelling)
    (ends_after Nothing Tag (codes "</") (name ++ (is.gap ++ (62 ∷ []))) Ended refl refl
    (ends_after Tag Tag name (is.gap ++ (62 ∷ [])) Ended (name_stays name is.named) refl
    (ends_after Tag Tag is.gap (62 ∷ []) Ended (stays Tag is_space space_in_tag is.gap is.space) refl (refl, refl))))

-- ---- characters

text_goes : (bytes : List ℕ) → Each is_text_byte bytes → scanned Characters bytes ≡ Characters
text_goes = stays Characters is_text_byte keeps
  where
    keeps : (b : ℕ) → is_text_byte b ≡ true → next Characters b ≡ Characters
    keeps b e = let f : (b == 60) ≡ false = grind (arith, nat_tests) in rw f refl

text_first : (b : ℕ) → is_text_byte b ≡ true → next Nothing b ≡ Characters
text_first b e = let f : (b == 60) ≡ false = grind (arith, nat_tests) in rw f refl

pub characters_end : (value bytes : List ℕ) → IsCharacters value bytes → EndsWith Nothing (bytes ++ (60 ∷ [])) EndedBefore
characters_end value [] is = absurd (omega (arith, is.some))
characters_end value (b ∷ bs) is = (refl, subst (λ s. EndsWith s (bs ++ (60 ∷ [])) EndedBefore) (sym (text_first b is.each.0)) (ends_after Characters Characters bs (60 ∷ []) EndedBefore (text_goes bs is.each.1) refl (refl, refl)))

-- ---- declarations

plain_bytes : (bytes text : List ℕ) → bytes_eq bytes text ≡ true → bytes ≡ text
plain_bytes bytes text e = (bytes_eq-Decides bytes text).0 e

not_other : (b : ℕ) → is_other (to_ascii_lowercase b) ≡ true → is_other b ≡ true
not_other b e = elim (cases_Bool (b == 63)) [
  | inl is ↦ absurd (let f : is_other (to_ascii_lowercase 63) ≡ true = subst (λ (c : ℕ). is_other (to_ascii_lowercase c) ≡ true) (same_byte b 63 is) e in cc)
  | inr other ↦ rw other refl
]

lower_other : (bytes : List ℕ) → Each is_other (str_to_ascii_lowercase bytes) → Each is_other bytes
lower_other [] each = tt
lower_other (b ∷ bs) each = (not_other b each.0, lower_other bs each.1)

version_other : (s : RawAttribute) → is_version s ≡ true → Each is_other s.body
version_other s e = subst (Each is_other) (sym (plain_bytes s.body (codes "1.0") (and_parts _ _ e).1)) (refl, (refl, (refl, tt)))

encoding_other : (s : RawAttribute) → is_encoding s ≡ true → Each is_other s.body
encoding_other s e = lower_other s.body (subst (Each is_other) (sym (plain_bytes (str_to_ascii_lowercase s.body) (codes "utf-8") (and_parts _ _ e).1)) (refl, (refl, (refl, (refl, (refl, tt))))))

or_right : (a b : Bool) → a ≡ false → (a || b) ≡ true → b ≡ true
or_right true b apart e = absurd cc
or_right false b apart e = e

standalone_other : (s : RawAttribute) → is_standalone s ≡ true → Each is_other s.body
standalone_other s e = elim (cases_Bool (bytes_eq s.body (codes "yes"))) [
  | inl is ↦ subst (Each is_other) (sym (plain_bytes s.body (codes "yes") is)) (refl, (refl, (refl, tt)))
  | inr other ↦ subst (Each is_other) (sym (plain_bytes s.body (codes "no") (or_right _ _ other (and_parts _ _ e).1))) (refl, (refl, tt))
]

declared_other : (ws : List RawAttribute) → declare ws ≡ true → AllByRecursion (λ (w : RawAttribute). Each is_other w.body) ws
declared_other [] e = absurd cc
declared_other (v ∷ []) e = (version_other v e, tt)
declared_other (v ∷ o ∷ []) e =
    let both = and_parts (is_version v) (is_encoding o || is_standalone o) e in (
      version_other v both.0,
      (
        elim (cases_Bool (is_encoding o)) [
          | inl is ↦ encoding_other o is
          | inr other ↦ standalone_other o (or_right (is_encoding o) (is_standalone o) other both.1)
        ],
        tt,
      ),
    )
declared_other (v ∷ n ∷ o ∷ []) e =
    let both = and_parts (is_version v && is_encoding n) (is_standalone o) e in
    let first = and_parts (is_version v) (is_encoding n) both.0 in
    (version_other v first.0, (encoding_other n first.1, (standalone_other o both.1, tt)))
declared_other (_ ∷ _ ∷ _ ∷ _ ∷ _) e = absurd cc

space_other : (b : ℕ) → is_space b ≡ true → is_other b ≡ true
space_other b e = grind (arith, nat_tests)

quote_other : (quote : ℕ) → (quote ≡ 34) ⊎ (quote ≡ 39) → is_other quote ≡ true
quote_other quote (inl is) = rw is refl
quote_other quote (inr is) = rw is refl

written_other : (w : Written) → IsWritten w → Each is_other w.body → Each is_other (written w)
written_other w is body =
    let t1 = w.body ++ (w.quote ∷ []) in
    let t2 = w.after ++ (w.quote ∷ t1) in
    let t3 = w.before ++ (61 ∷ t2) in
    let quote = quote_other w.quote is.quote in
    let spaces = each_weaker is_space is_other space_other in
    each_append is_other w.gap (w.name ++ t3) (spaces w.gap is.gap)
    (each_append is_other w.name t3 (each_weaker is_name_byte is_other name_other w.name (name_each w.name is.name))
    (each_append is_other w.before (61 ∷ t2) (spaces w.before is.before) (
      refl,
      each_append is_other w.after (w.quote ∷ t1) (spaces w.after is.after)
          (quote, each_append is_other w.body (w.quote ∷ []) body (quote, tt)),
    )))

writtens_other : (ws : List Written) → AllByRecursion IsWritten ws → AllByRecursion (λ (s : RawAttribute). Each is_other s.body) (map raw_attribute ws) → Each is_other (flat_map written ws)
writtens_other [] each bodies = tt
writtens_other (w ∷ ws) each bodies = each_append is_other (written w) (flat_map written ws) (written_other w each.0 bodies.0) (writtens_other ws each.1 bodies.1)

declaration_ends : (bytes : List ℕ) → IsDeclaration bytes → EndsWith Nothing bytes Ended
declaration_ends bytes is =
    let t = is.gap ++ codes "?>" in
    let others = other_stays (flat_map written is.writtens) (writtens_other is.writtens is.each (declared_other (map raw_attribute is.writtens) is.declares)) in
    let gap = other_stays is.gap (each_weaker is_space is_other space_other is.gap is.space) in
    subst (λ (u : List ℕ). EndsWith Nothing u Ended) (sym is.spelling)
    (ends_after Nothing Instruction (codes "<?xml") (flat_map written is.writtens ++ t) Ended refl refl
    (ends_after Instruction Instruction (flat_map written is.writtens) t Ended others refl
    (ends_after Instruction Instruction is.gap (codes "?>") Ended gap refl (refl, (refl, refl)))))

-- ---- any token

-- what is told at the end of a token
abbrev pub end_of : Token → Scan
end_of (tokens.Characters value) = EndedBefore
end_of _ = Ended

unmarked : (bytes : List ℕ) → EndsWith Nothing bytes Ended → EndsWith Nothing (bytes ++ []) Ended
unmarked bytes ends = subst (λ (t : List ℕ). EndsWith Nothing t Ended) (sym (append-nil bytes)) ends

pub spelled_ends : (token : Token) (spelling : List ℕ) → IsSpelling token spelling → EndsWith Nothing (spelling ++ own_mark (end_of token)) (end_of token)
spelled_ends tokens.Declaration spelling is = unmarked spelling (declaration_ends spelling is)
spelled_ends tokens.Comment spelling is = unmarked spelling (comment_ends spelling is)
spelled_ends tokens.Instruction spelling is = unmarked spelling (instruction_ends spelling is)
spelled_ends (tokens.Cdata value) spelling is = unmarked spelling (section_ends value spelling is)
spelled_ends (tokens.Start name attributes) spelling is = unmarked spelling (tag_ends (codes ">") name attributes spelling (refl, refl) is)
spelled_ends (tokens.Empty name attributes) spelling is = unmarked spelling (tag_ends (codes "/>") name attributes spelling (refl, (refl, refl)) is)
spelled_ends (tokens.End name) spelling is = unmarked spelling (end_tag_ends name spelling is)
spelled_ends (tokens.Characters value) spelling is = characters_end value spelling is

pub end_has_ended : (token : Token) → has_ended (end_of token) ≡ true
end_has_ended tokens.Declaration = refl
end_has_ended tokens.Comment = refl
end_has_ended tokens.Instruction = refl
end_has_ended (tokens.Cdata value) = refl
end_has_ended (tokens.Start name attributes) = refl
end_has_ended (tokens.Empty name attributes) = refl
end_has_ended (tokens.End name) = refl
end_has_ended (tokens.Characters value) = refl
