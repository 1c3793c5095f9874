use Rattle.std.proofs.Common.{◌^◌, ◌<◌, rules}
use Rattle.std.proofs.lemmas.Nat.{ones-le}
use Rattle.net_values.proofs.PlaceCounts.{ones_counted}
use Rattle.net_values.proofs.place_words.count_bits.Goals as goal

pub returns-clause-value : goal.returns-clause-value
returns-clause-value c =
    let narrow : c.args.word < 2 ^ 64 = search rules in
    ones_counted 64 c.args.word narrow

pub returns-clause-bound : goal.returns-clause-bound
returns-clause-bound c =
    let narrow : c.args.word < 2 ^ 64 = search rules in
    ones-le 64 c.args.word narrow
