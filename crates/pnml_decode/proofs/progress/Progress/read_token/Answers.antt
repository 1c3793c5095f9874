-- What the tokens tell of the piece goes on with what was read.
use Rattle.std.proofs.Common.{◌≡◌, ℕ, ◌+◌, ◌<◌, ◌≤◌, true, [], ◌++◌, length, drop, rules, subst, sym, ap, ◌∙◌}
use Rattle.pnml_token.specs.declared.token.TokenFault.{TokenFault}
use Rattle.pnml_token.specs.Steps.{IfBadToken}
use Rattle.pnml_token.specs.Streams.{Live, fed_bytes, held_bytes, IfLive, IsHopeless, Settles, TellsReason}
use Rattle.pnml_decode.specs.Standing.{FollowsBy, is_reading}
use Rattle.pnml_decode.specs.Views.{view}
use Rattle.pnml_grammar.specs.Reasons.{reason_without_token}
use Rattle.pnml_decode.proofs.Arrivals.{bad_token_follows, token_follows}
use Rattle.pnml_decode.proofs.progress.Progress.read_token.Goals as goal

pub returns-in_ok-take_token-in-Ok-Some-clause-follows : goal.returns-in_ok-take_token-in-Ok-Some-clause-follows
returns-in_ok-take_token-in-Ok-Some-clause-follows c = λ bytes follows.
    let self = c.args.self.now in
    let new = c.take_token.new.self in
    let taken = c.in-Ok-Some.field-0.taken in
    let told = c.in_ok-take_token-in-Ok-Some.ensures in
    let reads : is_reading self.stage ≡ true = search rules in
    let fed : c.feed.new.self ≡ Live (fed_bytes self.tokens + taken) [] = search rules in
    let settles : Settles (held_bytes self.tokens) c.args.ahead.now taken c.in-Ok-Some.token = search rules in
    let within : taken ≤ length c.args.ahead.now = search rules in
    let none : new.front.items ≡ [] = rw told.front c.clear.ensures.items in
    subst (λ (n : ℕ). FollowsBy new.stage (view new.reader) new.tokens n new.front.items bytes (drop taken c.args.ahead.now)) (sym told.skipped)
    (token_follows self.stage new.stage (view self.reader) (view new.reader) self.tokens new.tokens self.skipped self.front.items new.front.items bytes c.args.ahead.now taken c.place-place.result
    c.in-Ok-Some.token reads told.past (told.tokens ∙ fed) none c.place-place.ensures within settles told.reads follows)

pub returns-in_ok-keep_front-in-Err-BadToken-clause-follows : goal.returns-in_ok-keep_front-in-Err-BadToken-clause-follows
returns-in_ok-keep_front-in-Err-BadToken-clause-follows c = λ bytes follows.
    let self = c.args.self.now in
    let ahead = c.args.ahead.now in
    let told = c.in-Err-BadToken.ensures in
    let is = c.in-Err-BadToken.field-0-is in
    let reads : is_reading self.stage ≡ true = search rules in
    let some : IfLive self.tokens (λ offset held. 0 < length (held ++ ahead)) =
    subst (λ (fault : TokenFault). IfLive self.tokens (λ offset held. IfBadToken fault (λ at. 0 < length (held ++ ahead)))) is told.bytes in
    let none : IfLive self.tokens (λ offset held. IsHopeless (held ++ ahead)) =
    subst (λ (fault : TokenFault). IfLive self.tokens (λ offset held. IfBadToken fault (λ at. IsHopeless (held ++ ahead)))) is told.none in
    let tells : IfLive self.tokens (λ offset held. TellsReason (held ++ ahead)) =
    subst (λ (fault : TokenFault). IfLive self.tokens (λ offset held. IfBadToken fault (λ at. TellsReason (held ++ ahead)))) is told.reason in
    bad_token_follows self.stage (view self.reader) self.tokens c.feed.new.self self.skipped self.front.items c.keep_front-in-Err-BadToken.new.front.items bytes ahead (drop (length ahead) ahead)
    c.place-place.result c.reason_without_token.result reads c.place-place.ensures some none tells c.in_ok-keep_front-in-Err-BadToken.ensures
    (c.reason_without_token.ensures ∙ ap reason_without_token c.as_slice.ensures.value) follows
