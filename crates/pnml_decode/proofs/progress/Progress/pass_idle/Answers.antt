-- Each token that is passed goes on with what was read, and leaves the reader as it is.
use Rattle.std.proofs.Common.{◌≡◌, ◌+◌, ◌≤◌, ℕ, List, drop, length, rules, subst, sym, ap, ◌∙◌, arith, drop-drop, length-drop}
use Rattle.std.proofs.lemmas.List.{take_rest}
use Rattle.pnml_token.specs.Streams.{fed_bytes, held_bytes, next_offset}
use Rattle.pnml_decode.specs.declared.progress.Stage.{Stage}
use Rattle.pnml_decode.specs.declared.progress.Stage.TheVariants.{Going}
use Rattle.pnml_decode.specs.declared.reader.Reader.{Reader}
use Rattle.pnml_decode.specs.Standing.{FollowsBy}
use Rattle.pnml_decode.specs.Taking.{Skips, PassesIdle}
use Rattle.pnml_decode.specs.Views.{view}
use Rattle.pnml_decode.proofs.Arrivals.{idle_follows}
use Rattle.pnml_decode.proofs.progress.Progress.pass_idle.Goals as goal

pub tokens-preserved : goal.tokens-preserved
tokens-preserved c =
    let now = c.tokens.self in
    let ahead = c.args.ahead.now in
    let at = c.tokens.at in
    let taken = c.in-Some.taken in
    let told = c.in-Some.ensures in
    let before = c.tokens.invariant in
    let new = c.pass_one.new.tokens in
    let rest = take_rest ahead at in
    let within = subst (λ (xs : List ℕ). taken ≤ length xs) rest told.taken in
    let idle = subst (λ (xs : List ℕ). PassesIdle (held_bytes now.tokens) xs taken) rest told.token in
    let skips : Skips (view c.args.self.now.reader) = search rules in
    let going : now.stage ≡ Going = before.stage_is ∙ c.in-Going.is in
    let fed = ap fed_bytes told.after in
    let next = ap next_offset told.after in
    record {
      follows = λ bytes start.
          subst (λ (s : Stage). FollowsBy s (view now.reader) new now.skipped now.front.items bytes (drop (at + taken) ahead)) (sym going)
          (subst (λ (xs : List ℕ). FollowsBy Going (view now.reader) new now.skipped now.front.items bytes xs) (drop-drop taken at ahead)
          (idle_follows (view now.reader) now.tokens new now.skipped now.front.items bytes (drop at ahead) taken (subst (λ (r : Reader). Skips (view r)) (sym before.reader_is) skips)
          told.after within idle
          (subst (λ (s : Stage). FollowsBy s (view now.reader) now.tokens now.skipped now.front.items bytes (drop at ahead)) going (before.follows bytes start))));
      stage_is = before.stage_is;
      reader_is = before.reader_is;
      within = omega (arith, within, before.within, length-drop at ahead);
      reached_is = omega (arith, fed, before.reached_is);
      on = omega (arith, next, told.ahead, before.on);
    }
