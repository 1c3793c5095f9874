-- The parts of an input: the bytes of the document, and what a task reads after them.
use Rattle.std.specs.Prelude.{ℕ, ◌+◌, ◌==◌, List, [], not, take, drop}
use Rattle.std.specs.List.{prefix_len}
use Rattle.struct_core.specs.declared.order.Task.{Task}
use Rattle.struct_core.specs.declared.order.Task.TheVariants as tasks

-- how many bytes come before the first line feed
abbrev pub line_length : List ℕ → ℕ
line_length bytes = prefix_len (λ byte. not (byte == 10)) bytes

-- the bytes through the first line feed, or all of them where there is none, and those after it
abbrev pub first_line : List ℕ → List ℕ
first_line bytes = take (line_length bytes + 1) bytes

abbrev pub after_first_line : List ℕ → List ℕ
after_first_line bytes = drop (line_length bytes + 1) bytes

-- the document's bytes: for `verify`, `resume` and `replay` the first line, for every other task the whole input
abbrev pub front_of : Task → List ℕ → List ℕ
front_of tasks.Verify bytes = first_line bytes
front_of tasks.Resume bytes = first_line bytes
front_of tasks.Replay bytes = first_line bytes
front_of _ bytes = bytes

-- what follows them: for `verify` the certificate, for `resume` the pending token, for `replay` the firing list
abbrev pub rest_of : Task → List ℕ → List ℕ
rest_of tasks.Verify bytes = after_first_line bytes
rest_of tasks.Resume bytes = after_first_line bytes
rest_of tasks.Replay bytes = after_first_line bytes
rest_of _ bytes = []
