-- A text that comes in pieces was read to the offset of its next token, whatever follows. A token that is settled occurs
-- there in the whole input, so what was read goes on to its end; where none can occur the first fault is there.
use Rattle.std.proofs.Common.{◌≡◌, ℕ, ◌+◌, ◌<◌, ◌≤◌, true, false, List, [], ◌∷◌, ◌++◌, refl, sym, ap, subst, ◌∙◌, arith, length, take, drop, append_assoc, length-append, length-take-le, take-append-drop, take-take, true≢false}
use Rattle.std.specs.Prelude.{IsUtf8, codes, cond, nat_eq, Result, Ok, Err, OnOk, IfOk, IfErr}
use Rattle.std.proofs.lemmas.Str.{IsUtf8-nil}
use Rattle.std.specs.Cmp.Lexicographic.{pointwise}
use Rattle.std.proofs.lemmas.List.{append-nil, drop_all}
use Rattle.std.proofs.Math.Seq.{drop-append_seam}
use Rattle.pnml_grammar.specs.declared.reason.Reason.{Reason}
use Rattle.pnml_grammar.specs.declared.reason.Reason.TheVariants.{BadToken, Doctype}
use Rattle.pnml_grammar.specs.declared.token.Token.{Token}
use Rattle.pnml_grammar.specs.declared.token.Token.TheVariants as tokens
use Rattle.pnml_grammar.specs.Tokens.{Occurs, TokenAt, first_offset}
use Rattle.pnml_grammar.specs.FirstFault.{FirstFault, at, truncated, HasNoToken}
use Rattle.pnml_grammar.specs.Machine.{start}
use Rattle.pnml_grammar.specs.OpenElements.{State as Opened}
use Rattle.pnml_grammar.specs.ReadTo.{IsReadTo}
use Rattle.pnml_grammar.specs.Reasons.{reason_without_token}
use Rattle.pnml_grammar.proofs.FaultLaws.{whole_is_truncated}
use Rattle.pnml_grammar.proofs.OffsetLaws.{token_goes_on, token_end_inside}
use Rattle.pnml_grammar.proofs.ReadToLaws.{declaration_is_read, nothing_is_read}
use Rattle.pnml_grammar.proofs.TokenLaws.{one_token_occurs}
use Rattle.pnml_token.specs.Streams.{State, Live, Refused, fed_bytes, held_bytes, next_offset, IfLive, Settles, IsHopeless, HasNoToken as LacksToken, TellsReason}
use Rattle.pnml_decode.specs.declared.fault.DocFault.TheVariants as refusals
use Rattle.pnml_decode.specs.declared.progress.Stage.{Stage}
use Rattle.pnml_decode.specs.declared.progress.Stage.TheVariants as stages
use Rattle.pnml_decode.specs.Standing.{HasRead, Holds, FollowsBy, IfAtMark, IfReads, front_length, is_declared, is_past_mark, is_reading}
use Rattle.pnml_decode.proofs.Characters.{mark_is_told}
use Rattle.pnml_decode.specs.Taking.{Skips, PassesIdle}
use Rattle.pnml_decode.proofs.LoopLaws.{missing_is_first, missing_in_front, token_goes_on_read}
use Rattle.pnml_decode.proofs.SkippedTags.{idle_is_taken}

-- ---- stages

reading_holds : (stage : Stage) (P : Type 0) → is_reading stage ≡ true → IfReads stage P → P
reading_holds stages.AtMark P e h = absurd (true≢false (sym e))
reading_holds stages.AtFirst P e h = h
reading_holds stages.Going P e h = h
reading_holds (stages.Broke k reason) P e h = absurd (true≢false (sym e))

holds_if_reads : (stage : Stage) (P : Type 0) → P → IfReads stage P
holds_if_reads stages.AtMark P h = h
holds_if_reads stages.AtFirst P h = h
holds_if_reads stages.Going P h = h
holds_if_reads (stages.Broke k reason) P h = tt

past_is_read : (stage : Stage) (P : Type 0) → is_past_mark stage ≡ true → IfAtMark stage P
past_is_read stages.AtMark P e = absurd (true≢false (sym e))
past_is_read stages.AtFirst P e = tt
past_is_read stages.Going P e = tt
past_is_read (stages.Broke k reason) P e = tt

reading_past : (stage : Stage) → is_reading stage ≡ true → is_past_mark stage ≡ true
reading_past stages.AtMark e = absurd (true≢false (sym e))
reading_past stages.AtFirst e = refl
reading_past stages.Going e = refl
reading_past (stages.Broke k reason) e = refl

-- where a fault was met, nothing more is asked of what comes
pub broke_stays : (stage : Stage) (opened : Opened) (tokens : State) (skipped : ℕ) (front bytes ahead rest : List ℕ) → is_past_mark stage ≡ true → is_reading stage ≡ false
    → FollowsBy stage opened tokens skipped front bytes ahead → FollowsBy stage opened tokens skipped front bytes rest
broke_stays stages.AtMark opened tokens skipped front bytes ahead rest past e h = absurd (true≢false (sym past))
broke_stays stages.AtFirst opened tokens skipped front bytes ahead rest past e h = absurd (true≢false e)
broke_stays stages.Going opened tokens skipped front bytes ahead rest past e h = absurd (true≢false e)
broke_stays (stages.Broke k reason) opened tokens skipped front bytes ahead rest past e h = record { before = h.before; reads = h.reads; holds = tt; unread = tt }

-- ---- one input

-- the first bytes tell a document type
pub told_by_front : (bytes : List ℕ) → reason_without_token (take front_length bytes) ≡ reason_without_token bytes
told_by_front bytes = ap (λ (front : List ℕ). cond (pointwise nat_eq (codes "<!DOCTYPE") front) Doctype BadToken) (take-take 9 9 bytes (omega arith))

-- a declaration in front is read
pub declared_is_read : (stage : Stage) (opened : Opened) (token : Token) (input : List ℕ) (k e : ℕ) → is_declared stage token ≡ true → HasRead stage opened input k
    → TokenAt input k token e → IsReadTo input e opened
declared_is_read stages.AtFirst opened tokens.Declaration input k e declared read occurs =
    subst (λ (s : Opened). IsReadTo input e s) (sym read.1) (declaration_is_read input e (subst (λ (p : ℕ). TokenAt input p tokens.Declaration e) read.0 occurs))
declared_is_read _ opened _ input k e declared read occurs = absurd cc

-- before another token what was read so far was
pub other_is_later : (stage : Stage) (opened : Opened) (token : Token) (input : List ℕ) (k e : ℕ) → is_reading stage ≡ true → is_declared stage token ≡ false → HasRead stage opened input k
    → TokenAt input k token e → IsReadTo input k opened
other_is_later stages.AtMark opened token input k e reads other read occurs = absurd (true≢false (sym reads))
other_is_later stages.Going opened token input k e reads other read occurs = read
other_is_later (stages.Broke j reason) opened token input k e reads other read occurs = absurd (true≢false (sym reads))
other_is_later stages.AtFirst opened token input k e reads other read occurs =
    let first : TokenAt input (first_offset input) token e = subst (λ (p : ℕ). TokenAt input p token e) read.0 occurs in
    let none : (f : ℕ) → TokenAt input (first_offset input) tokens.Declaration f → ⊥ =
    λ f also. declares token (one_token_occurs input (first_offset input) token tokens.Declaration e f first also).0 other in
    subst (λ (s : Opened). IsReadTo input k s) (sym read.1) (subst (λ (p : ℕ). IsReadTo input p start) (sym read.0) (nothing_is_read input none))
  where
    declares : (token : Token) → token ≡ tokens.Declaration → is_declared stages.AtFirst token ≡ false → ⊥
    declares token same other = let e = sym other ∙ ap (is_declared stages.AtFirst) same in true≢false (sym e)

-- at the end of the input nothing more comes
pub end_is_read : (stage : Stage) (opened : Opened) (input : List ℕ) → is_reading stage ≡ true → HasRead stage opened input (length input) → IsReadTo input (length input) opened
end_is_read stages.AtMark opened input reads read = absurd (true≢false (sym reads))
end_is_read stages.Going opened input reads read = read
end_is_read (stages.Broke j reason) opened input reads read = absurd (true≢false (sym reads))
end_is_read stages.AtFirst opened input reads read =
    let none : (f : ℕ) → TokenAt input (first_offset input) tokens.Declaration f → ⊥ =
    λ f also. absurd (omega (arith, read.0, token_goes_on input (first_offset input) tokens.Declaration f also, token_end_inside input (first_offset input) tokens.Declaration f also)) in
    subst (λ (s : Opened). IsReadTo input (length input) s) (sym read.1) (subst (λ (p : ℕ). IsReadTo input p start) (sym read.0) (nothing_is_read input none))

-- where no token occurs the first fault is
pub missing_is_fault : (stage : Stage) (opened : Opened) (input : List ℕ) (k : ℕ) (reason : Reason) → is_reading stage ≡ true → HasRead stage opened input k → HasNoToken input k reason → IsUtf8 input
    → FirstFault input (at k reason)
missing_is_fault stages.AtMark opened input k reason reads read missing text = absurd (true≢false (sym reads))
missing_is_fault (stages.Broke j other) opened input k reason reads read missing text = absurd (true≢false (sym reads))
missing_is_fault stages.AtFirst opened input k reason reads read missing text = missing_in_front (refusals.At k reason) input k text read.0 (refl, missing)
missing_is_fault stages.Going opened input k reason reads read missing text = missing_is_first (refusals.At k reason) input k opened text read (refl, missing)

-- ---- pieces

-- the bytes from the next token on
from_next : (bytes before held ahead more : List ℕ) → bytes ≡ before ++ (held ++ ahead) → drop (length before) (bytes ++ more) ≡ held ++ (ahead ++ more)
from_next bytes before held ahead more parts =
    ap (λ (xs : List ℕ). drop (length before) (xs ++ more)) parts
    ∙ ap (drop (length before)) (append_assoc before (held ++ ahead) more)
    ∙ drop-append_seam before ((held ++ ahead) ++ more)
    ∙ append_assoc held ahead more

regrouped : (before held taken rest : List ℕ) → before ++ (held ++ (taken ++ rest)) ≡ (before ++ (held ++ taken)) ++ rest
regrouped before held taken rest = sym (append_assoc before (held ++ taken) rest ∙ ap (λ (xs : List ℕ). before ++ xs) (append_assoc held taken rest))

token_occurs : (bytes before held ahead more : List ℕ) (taken : ℕ) (token : Token) → bytes ≡ before ++ (held ++ ahead) → Settles held ahead taken token
    → TokenAt (bytes ++ more) (length before) token (length (before ++ (held ++ take taken ahead)))
token_occurs bytes before held ahead more taken token parts settles = record {
  inside = omega (arith, ap length parts, length-append before (held ++ ahead), length-append bytes more);
  spelling = held ++ take taken ahead;
  rest = drop taken ahead ++ more;
  occurs = subst (λ (xs : List ℕ). Occurs xs token (held ++ take taken ahead) (drop taken ahead ++ more)) (sym (from_next bytes before held ahead more parts)) (settles more);
  end_is = length-append before (held ++ take taken ahead);
}

-- a token that is settled is taken
pub token_follows : (stage stage' : Stage) (opened opened' : Opened) (tokens tokens' : State) (skipped : ℕ) (front front' bytes ahead : List ℕ) (taken place : ℕ) (token : Token)
    → is_reading stage ≡ true → is_past_mark stage' ≡ true → tokens' ≡ Live (fed_bytes tokens + taken) [] → front' ≡ [] → place ≡ skipped + next_offset tokens → taken ≤ length ahead
    → Settles (held_bytes tokens) ahead taken token
    → ((input : List ℕ) (e : ℕ) → HasRead stage opened input place → TokenAt input place token e → HasRead stage' opened' input e)
    → FollowsBy stage opened tokens skipped front bytes ahead → FollowsBy stage' opened' tokens' skipped front' bytes (drop taken ahead)
token_follows stage stage' opened opened' tokens tokens' skipped front front' bytes ahead taken place token reads past live' none place_is within settles goes_on follows =
    let h : Holds tokens skipped front bytes follows.before ahead = reading_holds stage (Holds tokens skipped front bytes follows.before ahead) reads follows.holds in
    let settled : Settles h.held ahead taken token = subst (λ (s : State). Settles (held_bytes s) ahead taken token) h.live settles in
    let here : place ≡ length follows.before = place_is ∙ ap (λ (s : State). skipped + next_offset s) h.live ∙ h.place in
    let fed : fed_bytes tokens ≡ h.offset + length h.held = ap fed_bytes h.live in
    record {
      before = follows.before ++ (h.held ++ take taken ahead);
      reads = λ more. goes_on (bytes ++ more) (length (follows.before ++ (h.held ++ take taken ahead)))
          (subst (λ (p : ℕ). HasRead stage opened (bytes ++ more) p) (sym here) (follows.reads more))
          (subst (λ (p : ℕ). TokenAt (bytes ++ more) p token (length (follows.before ++ (h.held ++ take taken ahead)))) (sym here)
          (token_occurs bytes follows.before h.held ahead more taken token h.parts settled));
      holds = holds_if_reads stage' (Holds tokens' skipped front' bytes (follows.before ++ (h.held ++ take taken ahead)) (drop taken ahead)) record {
        offset = fed_bytes tokens + taken;
        held = [];
        live = live';
        place = omega (arith, fed, h.place, within, length-append follows.before (h.held ++ take taken ahead), length-append h.held (take taken ahead), length-take-le taken ahead within);
        parts = h.parts ∙ ap (λ (xs : List ℕ). follows.before ++ (h.held ++ xs)) (sym (take-append-drop taken ahead)) ∙ regrouped follows.before h.held (take taken ahead) (drop taken ahead);
        front_is = none;
      };
      unread = past_is_read stage' (bytes ≡ drop taken ahead) past;
    }

-- where none is settled all bytes are held
pub held_follows : (stage : Stage) (opened : Opened) (tokens tokens' : State) (skipped : ℕ) (front front' bytes ahead : List ℕ) (taken : ℕ)
    → is_reading stage ≡ true → tokens' ≡ Live (next_offset tokens) (held_bytes tokens ++ ahead) → taken ≡ length ahead
    → ((held : List ℕ) → front ≡ take front_length held → front' ≡ take front_length (held ++ ahead))
    → FollowsBy stage opened tokens skipped front bytes ahead → FollowsBy stage opened tokens' skipped front' bytes (drop taken ahead)
held_follows stage opened tokens tokens' skipped front front' bytes ahead taken reads live' whole keeps follows =
    let h : Holds tokens skipped front bytes follows.before ahead = reading_holds stage (Holds tokens skipped front bytes follows.before ahead) reads follows.holds in
    let offset : next_offset tokens ≡ h.offset = ap next_offset h.live in
    let held : held_bytes tokens ≡ h.held = ap held_bytes h.live in
    let nothing : drop taken ahead ≡ [] = drop_all taken ahead (omega (arith, whole)) in
    record {
      before = follows.before;
      reads = follows.reads;
      holds = holds_if_reads stage (Holds tokens' skipped front' bytes follows.before (drop taken ahead)) record {
        offset = next_offset tokens;
        held = held_bytes tokens ++ ahead;
        live = live';
        place = ap (λ (p : ℕ). skipped + p) offset ∙ h.place;
        parts = h.parts ∙ ap (λ (xs : List ℕ). follows.before ++ (xs ++ ahead)) (sym held)
            ∙ ap (λ (xs : List ℕ). follows.before ++ xs) (sym (append-nil (held_bytes tokens ++ ahead)) ∙ ap (λ (xs : List ℕ). (held_bytes tokens ++ ahead) ++ xs) (sym nothing));
        front_is = subst (λ (xs : List ℕ). front' ≡ take front_length (xs ++ ahead)) (sym held) (keeps h.held h.front_is);
      };
      unread = past_is_read stage (bytes ≡ drop taken ahead) (reading_past stage reads);
    }

-- what no token can spell is where the first fault is
lacks : (bytes before held ahead more : List ℕ) (reason : Reason) → bytes ≡ before ++ (held ++ ahead) → 0 < length (held ++ ahead) → IsHopeless (held ++ ahead) → TellsReason (held ++ ahead)
    → reason ≡ reason_without_token (held ++ ahead) → HasNoToken (bytes ++ more) (length before) reason
lacks bytes before held ahead more reason parts some hopeless tells is =
    let from : drop (length before) (bytes ++ more) ≡ (held ++ ahead) ++ more = from_next bytes before held ahead more parts ∙ sym (append_assoc held ahead more) in
    record {
      inside = omega (arith, some, ap length parts, length-append before (held ++ ahead), length-append bytes more);
      nothing_there = λ token e occurs. hopeless more token (occurs.spelling, occurs.rest, subst (λ (xs : List ℕ). Occurs xs token occurs.spelling occurs.rest) from occurs.occurs);
      reason_is = is ∙ sym (tells more) ∙ ap reason_without_token (sym from);
    }

pub bad_token_follows : (stage : Stage) (opened : Opened) (tokens tokens' : State) (skipped : ℕ) (front front' bytes ahead rest : List ℕ) (place : ℕ) (reason : Reason)
    → is_reading stage ≡ true → place ≡ skipped + next_offset tokens
    → IfLive tokens (λ offset held. 0 < length (held ++ ahead)) → IfLive tokens (λ offset held. IsHopeless (held ++ ahead)) → IfLive tokens (λ offset held. TellsReason (held ++ ahead))
    → ((held : List ℕ) → front ≡ take front_length held → front' ≡ take front_length (held ++ ahead)) → reason ≡ reason_without_token front'
    → FollowsBy stage opened tokens skipped front bytes ahead → FollowsBy (stages.Broke place reason) opened tokens' skipped front' bytes rest
bad_token_follows stage opened tokens tokens' skipped front front' bytes ahead rest place reason reads place_is some hopeless tells keeps is follows =
    let h : Holds tokens skipped front bytes follows.before ahead = reading_holds stage (Holds tokens skipped front bytes follows.before ahead) reads follows.holds in
    let here : place ≡ length follows.before = place_is ∙ ap (λ (s : State). skipped + next_offset s) h.live ∙ h.place in
    let some' : 0 < length (h.held ++ ahead) = subst (λ (s : State). IfLive s (λ offset held. 0 < length (held ++ ahead))) h.live some in
    let hopeless' : IsHopeless (h.held ++ ahead) = subst (λ (s : State). IfLive s (λ offset held. IsHopeless (held ++ ahead))) h.live hopeless in
    let tells' : TellsReason (h.held ++ ahead) = subst (λ (s : State). IfLive s (λ offset held. TellsReason (held ++ ahead))) h.live tells in
    let told : reason ≡ reason_without_token (h.held ++ ahead) = is ∙ ap reason_without_token (keeps h.held h.front_is) ∙ told_by_front (h.held ++ ahead) in
    record {
      before = follows.before;
      reads = λ more text. subst (λ (p : ℕ). FirstFault (bytes ++ more) (at p reason)) (sym here)
          (missing_is_fault stage opened (bytes ++ more) (length follows.before) reason reads (follows.reads more)
          (lacks bytes follows.before h.held ahead more reason h.parts some' hopeless' tells' told) text);
      holds = tt;
      unread = tt;
    }

-- ---- more text comes

mark_stays : (stage : Stage) (whole text : List ℕ) → IfAtMark stage (whole ≡ []) → IfAtMark stage (whole ++ text ≡ text)
mark_stays stages.AtMark whole text e = ap (λ (xs : List ℕ). xs ++ text) e
mark_stays stages.AtFirst whole text e = tt
mark_stays stages.Going whole text e = tt
mark_stays (stages.Broke k reason) whole text e = tt

if_reads : (stage : Stage) (P Q : Type 0) → (P → Q) → IfReads stage P → IfReads stage Q
if_reads stages.AtMark P Q f h = f h
if_reads stages.AtFirst P Q f h = f h
if_reads stages.Going P Q f h = f h
if_reads (stages.Broke k reason) P Q f h = tt

more_held : (tokens : State) (skipped : ℕ) (front whole before text : List ℕ) → Holds tokens skipped front whole before [] → Holds tokens skipped front (whole ++ text) before text
more_held tokens skipped front whole before text h = record {
  offset = h.offset;
  held = h.held;
  live = h.live;
  place = h.place;
  parts = ap (λ (xs : List ℕ). xs ++ text) (h.parts ∙ ap (λ (xs : List ℕ). before ++ xs) (append-nil h.held)) ∙ append_assoc before h.held text;
  front_is = h.front_is;
}

pub text_comes : (stage : Stage) (opened : Opened) (tokens : State) (skipped : ℕ) (front whole text : List ℕ)
    → FollowsBy stage opened tokens skipped front whole [] → FollowsBy stage opened tokens skipped front (whole ++ text) text
text_comes stage opened tokens skipped front whole text follows = record {
  before = follows.before;
  reads = λ more. subst (λ (xs : List ℕ). HasRead stage opened xs (length follows.before)) (sym (append_assoc whole text more)) (follows.reads (text ++ more));
  holds = if_reads stage (Holds tokens skipped front whole follows.before []) (Holds tokens skipped front (whole ++ text) follows.before text)
      (more_held tokens skipped front whole follows.before text) follows.holds;
  unread = mark_stays stage whole text follows.unread;
}

-- ---- the byte order mark

empty : (xs : List ℕ) → length xs ≡ 0 → xs ≡ []
empty [] e = refl
empty (x ∷ xs) e = absurd (omega (arith, e))

-- the first characters tell where the first token is looked for
pub mark_follows : (opened : Opened) (tokens : State) (skipped : ℕ) (front bytes text : List ℕ) (count : ℕ) → IsUtf8 text → 0 < length text → count ≡ first_offset text → count ≤ length text
    → FollowsBy stages.AtMark opened tokens skipped front bytes text → FollowsBy stages.AtFirst opened tokens count front bytes (drop count text)
mark_follows opened tokens skipped front bytes text count characters some mark within follows =
    let h : Holds tokens skipped front bytes follows.before text = follows.holds in
    let same : bytes ≡ text = follows.unread in
    let first : length follows.before ≡ 0 = (follows.reads []).0 in
    let lengths = length-append follows.before (h.held ++ text) in
    let lengths' = length-append h.held text in
    let nothing : h.held ≡ [] = empty h.held (omega (arith, ap length same, ap length h.parts)) in
    let size : length (take count text) ≡ count = length-take-le count text within in
    record {
      before = take count text;
      reads = λ more. (
        size ∙ mark ∙ sym (mark_is_told text more characters some) ∙ ap (λ (xs : List ℕ). first_offset (xs ++ more)) (sym same),
        (follows.reads more).1,
      );
      holds = record {
        offset = h.offset;
        held = h.held;
        live = h.live;
        place = omega (arith, size, h.place, first);
        parts = same ∙ sym (take-append-drop count text) ∙ ap (λ (xs : List ℕ). take count text ++ (xs ++ drop count text)) (sym nothing);
        front_is = h.front_is;
      };
      unread = tt;
    }

-- ---- the input ends

-- where nothing is held all was read
pub last_is_read : (stage : Stage) (opened : Opened) (tokens : State) (skipped : ℕ) (front bytes : List ℕ) → is_reading stage ≡ true → held_bytes tokens ≡ []
    → FollowsBy stage opened tokens skipped front bytes [] → HasRead stage opened bytes (length bytes)
last_is_read stage opened tokens skipped front bytes reads none follows =
    let h : Holds tokens skipped front bytes follows.before [] = reading_holds stage (Holds tokens skipped front bytes follows.before []) reads follows.holds in
    let nothing : h.held ≡ [] = sym (ap held_bytes h.live) ∙ none in
    let parts : bytes ≡ follows.before = h.parts ∙ ap (λ (xs : List ℕ). follows.before ++ (xs ++ [])) nothing ∙ append-nil follows.before in
    subst (λ (k : ℕ). HasRead stage opened bytes k) (sym (ap length parts))
    (subst (λ (xs : List ℕ). HasRead stage opened xs (length follows.before)) (append-nil bytes) (follows.reads []))

-- where a token is held to the end, it occurs there
pub last_token : (stage : Stage) (opened : Opened) (tokens : State) (skipped : ℕ) (front bytes : List ℕ) (place : ℕ) (token : Token) → is_reading stage ≡ true → place ≡ skipped + next_offset tokens
    → Occurs (held_bytes tokens) token (held_bytes tokens) [] → FollowsBy stage opened tokens skipped front bytes []
    → HasRead stage opened bytes place × TokenAt bytes place token (length bytes)
last_token stage opened tokens skipped front bytes place token reads place_is occurs follows =
    let h : Holds tokens skipped front bytes follows.before [] = reading_holds stage (Holds tokens skipped front bytes follows.before []) reads follows.holds in
    let here : place ≡ length follows.before = place_is ∙ ap (λ (s : State). skipped + next_offset s) h.live ∙ h.place in
    let parts : bytes ≡ follows.before ++ h.held = h.parts ∙ ap (λ (xs : List ℕ). follows.before ++ xs) (append-nil h.held) in
    let from : drop (length follows.before) bytes ≡ h.held = ap (drop (length follows.before)) parts ∙ drop-append_seam follows.before h.held in
    let there : Occurs h.held token h.held [] = subst (λ (s : State). Occurs (held_bytes s) token (held_bytes s) []) h.live occurs in
    let lengths = length-append follows.before h.held in
    let at_before : TokenAt bytes (length follows.before) token (length bytes) = record {
      inside = omega (arith, ap length parts);
      spelling = h.held;
      rest = [];
      occurs = subst (λ (xs : List ℕ). Occurs xs token h.held []) (sym from) there;
      end_is = ap length parts ∙ lengths;
    } in (
      subst (λ (k : ℕ). HasRead stage opened bytes k) (sym here) (subst (λ (xs : List ℕ). HasRead stage opened xs (length follows.before)) (append-nil bytes) (follows.reads [])),
      subst (λ (k : ℕ). TokenAt bytes k token (length bytes)) (sym here) at_before,
    )

-- where bytes are held that spell none, the first fault is there
pub last_is_missing : (stage : Stage) (opened : Opened) (tokens : State) (skipped : ℕ) (front bytes : List ℕ) (place : ℕ) (reason : Reason) → is_reading stage ≡ true → place ≡ skipped + next_offset tokens
    → IfLive tokens (λ offset held. 0 < length held) → IfLive tokens (λ offset held. LacksToken held) → reason ≡ reason_without_token front → IsUtf8 bytes
    → FollowsBy stage opened tokens skipped front bytes [] → FirstFault bytes (at place reason)
last_is_missing stage opened tokens skipped front bytes place reason reads place_is some none is text follows =
    let h : Holds tokens skipped front bytes follows.before [] = reading_holds stage (Holds tokens skipped front bytes follows.before []) reads follows.holds in
    let here : place ≡ length follows.before = place_is ∙ ap (λ (s : State). skipped + next_offset s) h.live ∙ h.place in
    let parts : bytes ≡ follows.before ++ h.held = h.parts ∙ ap (λ (xs : List ℕ). follows.before ++ xs) (append-nil h.held) in
    let from : drop (length follows.before) bytes ≡ h.held = ap (drop (length follows.before)) parts ∙ drop-append_seam follows.before h.held in
    let some' : 0 < length h.held = subst (λ (s : State). IfLive s (λ offset held. 0 < length held)) h.live some in
    let none' : LacksToken h.held = subst (λ (s : State). IfLive s (λ offset held. LacksToken held)) h.live none in
    let told : reason ≡ reason_without_token h.held = is ∙ ap reason_without_token h.front_is ∙ told_by_front h.held in
    let missing : HasNoToken bytes (length follows.before) reason = record {
      inside = omega (arith, some', ap length parts, length-append follows.before h.held);
      nothing_there = λ token e occurs. none' token (occurs.spelling, occurs.rest, subst (λ (xs : List ℕ). Occurs xs token occurs.spelling occurs.rest) from occurs.occurs);
      reason_is = told ∙ ap reason_without_token (sym from);
    } in
    let read : HasRead stage opened bytes (length follows.before) = subst (λ (xs : List ℕ). HasRead stage opened xs (length follows.before)) (append-nil bytes) (follows.reads []) in
    subst (λ (k : ℕ). FirstFault bytes (at k reason)) (sym here) (missing_is_fault stage opened bytes (length follows.before) reason reads read missing text)

-- where a fault was met it is the first
pub fault_is_first : (stage : Stage) (opened : Opened) (tokens : State) (skipped : ℕ) (front bytes : List ℕ) (k : ℕ) (reason : Reason) → stage ≡ stages.Broke k reason → IsUtf8 bytes
    → FollowsBy stage opened tokens skipped front bytes [] → FirstFault bytes (at k reason)
fault_is_first stage opened tokens skipped front bytes k reason is text follows =
    let there : HasRead (stages.Broke k reason) opened (bytes ++ []) (length follows.before) = subst (λ (s : Stage). HasRead s opened (bytes ++ []) (length follows.before)) is (follows.reads []) in
    subst (λ (xs : List ℕ). IsUtf8 xs → FirstFault xs (at k reason)) (append-nil bytes) there text

-- nothing was fed
pub nothing_is_fed : (opened : Opened) (state : State) (skipped : ℕ) (front bytes : List ℕ) (n : ℕ) → n ≡ length bytes → FollowsBy stages.AtMark opened state skipped front bytes [] → FirstFault bytes (truncated n)
nothing_is_fed opened state skipped front bytes n count follows =
    let none : bytes ≡ [] = follows.unread in
    let no_token : (e : ℕ) → TokenAt [] 0 tokens.Declaration e → ⊥ = λ e occurs. absurd (omega (arith, token_goes_on [] 0 tokens.Declaration e occurs, token_end_inside [] 0 tokens.Declaration e occurs)) in
    subst (λ (xs : List ℕ). FirstFault xs (truncated n)) (sym none)
    (subst (λ (k : ℕ). FirstFault [] (truncated k)) (sym (count ∙ ap length none)) (whole_is_truncated [] start IsUtf8-nil (nothing_is_read [] no_token) refl))

-- ---- at the end of the tokens

pub not_broke_reads : (stage : Stage) → is_past_mark stage ≡ true → ((k : ℕ) (reason : Reason) → stage ≡ stages.Broke k reason → ⊥) → is_reading stage ≡ true
not_broke_reads stages.AtMark past other = absurd (true≢false (sym past))
not_broke_reads stages.AtFirst past other = refl
not_broke_reads stages.Going past other = refl
not_broke_reads (stages.Broke k reason) past other = absurd (other k reason refl)

-- the next token is no further than what was taken
pub next_is_fed : (tokens : State) → next_offset tokens ≤ fed_bytes tokens
next_is_fed (Live offset held) = omega arith
next_is_fed (Refused fault fed) = omega arith

pub on_ok : {X E : Type 0} (r : Result X E) (P Q : Type 0) → (P → Q) → OnOk r P → OnOk r Q
on_ok (Ok x) P Q f h = f h
on_ok (Err e) P Q f h = tt

-- ---- tokens that change nothing in skipped parts

-- such a token is passed where nothing is held, and changes nothing
pub idle_follows : (opened : Opened) (tokens tokens' : State) (skipped : ℕ) (front bytes ahead : List ℕ) (taken : ℕ) → Skips opened → tokens' ≡ Live (fed_bytes tokens + taken) [] → taken ≤ length ahead
    → PassesIdle (held_bytes tokens) ahead taken
    → FollowsBy stages.Going opened tokens skipped front bytes ahead → FollowsBy stages.Going opened tokens' skipped front bytes (drop taken ahead)
idle_follows opened tokens tokens' skipped front bytes ahead taken skips live' within idle follows =
    let h : Holds tokens skipped front bytes follows.before ahead = follows.holds in
    let nothing : h.held ≡ [] = sym (ap held_bytes h.live) ∙ idle.0 in
    let none : front ≡ [] = h.front_is ∙ ap (take front_length) nothing in
    token_follows stages.Going stages.Going opened opened tokens tokens' skipped front front bytes ahead taken (skipped + next_offset tokens) idle.1
    refl refl live' none refl within idle.3
    (λ input e read occurs. (token_goes_on_read input (skipped + next_offset tokens) opened opened idle.1 e read occurs (idle_is_taken opened idle.1 idle.2 skips)).0)
    follows

pub if_ok : {X E : Type 0} (r : Result X E) (P Q : X → Type 0) → ((x : X) → P x → Q x) → IfOk r P → IfOk r Q
if_ok (Ok x) P Q f h = f x h
if_ok (Err e) P Q f h = tt

pub if_err : {X E : Type 0} (r : Result X E) (P Q : E → Type 0) → ((e : E) → P e → Q e) → IfErr r P → IfErr r Q
if_err (Ok x) P Q f h = tt
if_err (Err e) P Q f h = f e h
