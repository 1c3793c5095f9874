-- The token that is held to the end occurs there, or the first fault does.
use Rattle.std.proofs.Common.{ℕ, ◌<◌, List, [], length, rules, subst, ap, ◌∙◌}
use Rattle.pnml_grammar.specs.Reasons.{reason_without_token}
use Rattle.pnml_grammar.specs.Tokens.{Occurs}
use Rattle.pnml_token.specs.declared.token.TokenFault.{TokenFault}
use Rattle.pnml_token.specs.Steps.{IfBadToken}
use Rattle.pnml_token.specs.Streams.{held_bytes, IfLive, HasNoToken}
use Rattle.pnml_decode.specs.Standing.{Follows}
use Rattle.pnml_decode.specs.Views.{view}
use Rattle.pnml_decode.proofs.Arrivals.{if_err, if_ok, last_is_missing, last_token}
use Rattle.pnml_decode.proofs.progress.Progress.finish_tokens.Goals as goal

pub returns-in-Ok-Some-clause-found : goal.returns-in-Ok-Some-clause-found
returns-in-Ok-Some-clause-found c =
    let self = c.args.self in
    let told = c.in_ok-take_token-in-Ok-Some.ensures in
    let occurs : Occurs (held_bytes self.tokens) c.in-Ok-Some.token (held_bytes self.tokens) [] = search rules in
    let there = λ (bytes : List ℕ) (follows : Follows self bytes []).
    last_token self.stage (view self.reader) self.tokens self.skipped self.front.items bytes c.place-place.result c.in-Ok-Some.token c.requires.reading c.place-place.ensures occurs follows in
    if_ok c.finish_reader-in-Ok-Some.result _ _
    (λ document found bytes follows. found bytes told.past (told.reads bytes (length bytes) (there bytes follows).0 (there bytes follows).1)) c.finish_reader-in-Ok-Some.ensures.found

pub returns-in-Ok-Some-clause-fault : goal.returns-in-Ok-Some-clause-fault
returns-in-Ok-Some-clause-fault c =
    let self = c.args.self in
    let told = c.in_ok-take_token-in-Ok-Some.ensures in
    let occurs : Occurs (held_bytes self.tokens) c.in-Ok-Some.token (held_bytes self.tokens) [] = search rules in
    let there = λ (bytes : List ℕ) (follows : Follows self bytes []).
    last_token self.stage (view self.reader) self.tokens self.skipped self.front.items bytes c.place-place.result c.in-Ok-Some.token c.requires.reading c.place-place.ensures occurs follows in
    if_err c.finish_reader-in-Ok-Some.result _ _
    (λ refusal fault bytes text count follows. fault bytes told.past text count (told.reads bytes (length bytes) (there bytes follows).0 (there bytes follows).1)) c.finish_reader-in-Ok-Some.ensures.fault

pub returns-in-Err-BadToken-clause-fault : goal.returns-in-Err-BadToken-clause-fault
returns-in-Err-BadToken-clause-fault c = λ bytes text count follows.
    let self = c.args.self in
    let told = c.in-Err-BadToken.ensures in
    let is = c.in-Err-BadToken.field-0-is in
    let some : IfLive self.tokens (λ offset held. 0 < length held) =
    subst (λ (fault : TokenFault). IfLive self.tokens (λ offset held. IfBadToken fault (λ at. 0 < length held))) is told.bytes in
    let none : IfLive self.tokens (λ offset held. HasNoToken held) =
    subst (λ (fault : TokenFault). IfLive self.tokens (λ offset held. IfBadToken fault (λ at. HasNoToken held))) is told.none in
    last_is_missing self.stage (view self.reader) self.tokens self.skipped self.front.items bytes c.place-place.result c.reason_without_token.result c.requires.reading c.place-place.ensures
    some none (c.reason_without_token.ensures ∙ ap reason_without_token c.as_slice.ensures.value) text follows
