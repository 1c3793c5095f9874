-- A tag in a skipped part counts nothing, and an empty one changes nothing, as characters do.
use Rattle.std.proofs.Common.{◌≡◌, ℕ, List, Option, Some, None, true, refl, sym, ap, subst, ◌∙◌}
use Rattle.std.specs.Prelude.{IfSome}
use Rattle.pnml_grammar.specs.declared.element.Context.{Context}
use Rattle.pnml_grammar.specs.declared.element.Context.TheVariants as contexts
use Rattle.pnml_grammar.specs.declared.token.Attribute.{Attribute}
use Rattle.pnml_grammar.specs.declared.token.Token.{Token}
use Rattle.pnml_grammar.specs.declared.token.Token.TheVariants as tokens
use Rattle.pnml_grammar.specs.Contents.{Content, nothing, gives, characters_content}
use Rattle.pnml_grammar.specs.Counts.{Counts, ◌plus◌, tag_counts}
use Rattle.pnml_grammar.specs.Elements.{element_named, context_in}
use Rattle.pnml_grammar.specs.Machine.{receive, reason_of, next}
use Rattle.pnml_grammar.specs.OpenElements.{Frame, State}
use Rattle.pnml_grammar.specs.Reasons.{first_row, open_rows_in, characters_rows}
use Rattle.pnml_decode.specs.Taking.{Skips, is_idle, PassesIdle}
use Rattle.pnml_token.specs.Streams.{State as Tokens, PassesCharacters, Settles, held_bytes}
use Rattle.pnml_grammar.proofs.ContentLaws.{plus_nothing, then_nothing}

pub skipped_counts : (counts : Counts) (context : Context) (name : List ℕ) → context ≡ contexts.Skipped → counts ≡ (counts plus tag_counts context name)
skipped_counts counts context name is = rw is (sym (plus_nothing counts))

gives_nothing : (context : Context) (name : List ℕ) (attributes : List Attribute) → context ≡ contexts.Skipped → gives (context_in context (element_named name)) attributes nothing ≡ nothing
gives_nothing context name attributes is = ap (λ (c : Context). gives (context_in c (element_named name)) attributes nothing) is

receives_nothing : (frame : Frame) (given : Content) → given ≡ nothing → frame ≡ receive given frame
receives_nothing frame given is =
    let same : receive nothing frame ≡ frame = λ i. record frame { content = then_nothing frame.content i } in
    sym same ∙ ap (λ (c : Content). receive c frame) (sym is)

no_reason : (state : State) (name : List ℕ) (attributes : List Attribute) → Skips state → reason_of state (tokens.Empty name attributes) ≡ None
no_reason state name attributes skips =
    ap (λ (c : Context). first_row (open_rows_in c state true name attributes)) skips.0 ∙ rw skips.1 refl

tag_is_taken : (state : State) (name : List ℕ) (attributes : List Attribute) → Skips state
    → (reason_of state (tokens.Empty name attributes) ≡ None) × (state ≡ next state (tokens.Empty name attributes))
tag_is_taken state name attributes skips =
    let top = receives_nothing state.top (gives (context_in state.top.context (element_named name)) attributes nothing) (gives_nothing state.top.context name attributes skips.0) in
    let counts = skipped_counts state.counts state.top.context name skips.0 in
    (no_reason state name attributes skips, λ i. record { top = top i; under = state.under; counts = counts i })

characters_are_taken : (state : State) (value : List ℕ) → Skips state → (reason_of state (tokens.Characters value) ≡ None) × (state ≡ next state (tokens.Characters value))
characters_are_taken state value skips =
    let top = receives_nothing state.top (characters_content state.top.context value) (ap (λ (c : Context). characters_content c value) skips.0) in
    (ap (λ (c : Context). first_row (characters_rows c state.top.content value)) skips.0, λ i. record { top = top i; under = state.under; counts = state.counts })

pub idle_is_taken : (state : State) (token : Token) → is_idle token ≡ true → Skips state → (reason_of state token ≡ None) × (state ≡ next state token)
idle_is_taken state (tokens.Empty name attributes) idle skips = tag_is_taken state name attributes skips
idle_is_taken state (tokens.Characters value) idle skips = characters_are_taken state value skips
idle_is_taken state tokens.Declaration idle skips = absurd cc
idle_is_taken state tokens.Comment idle skips = absurd cc
idle_is_taken state tokens.Instruction idle skips = absurd cc
idle_is_taken state (tokens.Cdata value) idle skips = absurd cc
idle_is_taken state (tokens.Start name attributes) idle skips = absurd cc
idle_is_taken state (tokens.End name) idle skips = absurd cc

-- characters that are passed, where the state is the same as before
pub characters_pass : (n : Option ℕ) (old new : Tokens) (piece : List ℕ) → new ≡ old → IfSome n (PassesCharacters (held_bytes new) piece) → IfSome n (PassesIdle (held_bytes old) piece)
characters_pass None old new piece same passes = tt
characters_pass (Some n) old new piece same passes =
    let held = ap held_bytes same in
    (sym held ∙ passes.0, tokens.Characters passes.1, refl, subst (λ (t : List ℕ). Settles t piece n (tokens.Characters passes.1)) held passes.2)
