-- Readers and writers of std as sources and sinks, and what these do to the bytes that std's objects tell.
use Rattle.std.specs.Prelude.{ℕ, List, take, Option, Result, MatchResult}
use Rattle.std.specs.Io.KnownBytes.{Appends}
use Rattle.pnml_source.specs.declared.std_source.StdSource.{StdSource}
use Rattle.pnml_source.specs.declared.std_sink.StdSink.{StdSink}
use Rattle.pnml_source.specs.Streams.{AppendsFront}

-- the reader of std that a source reads from
abbrev pub reader_of : {R : Type 0} → StdSource R → R
reader_of source = source.inner

-- the writer of std that a sink writes to
abbrev pub writer_of : {W : Type 0} → StdSink W → W
writer_of sink = sink.inner

-- a writer's bytes grew by the bytes told as taken, which are the first of the piece; where the call failed,
-- by some first bytes of the piece, since a flush may fail after a write that took some
abbrev pub WritesThrough : {E : Type 0} → Option (List ℕ) → Option (List ℕ) → Result ℕ E → List ℕ → Type 0
WritesThrough old new result piece =
    MatchResult result (λ n. Appends old new (take n piece)) (λ _. AppendsFront old new piece)
