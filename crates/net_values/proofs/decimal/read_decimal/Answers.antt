use Rattle.std.proofs.Common.{rules, ◌≡◌, ◌<◌, ◌^◌, decimal, sym, subst, arith}
use Rattle.std.proofs.lemmas.Fmt.{IsAscii-decimal_wide, parse-decimal_wide}
use Rattle.std.proofs.lemmas.Str.{IsUtf8-from_ascii}
use Rattle.std.specs.Str.{IsUtf8}
use Rattle.net_values.proofs.decimal.read_decimal.Goals as goal

-- src/decimal.rt:11:9
pub returns-in_default-clause-none : goal.returns-in_default-clause-none
returns-in_default-clause-none c = λ number fits same.
    let narrow : number < 10 ^ 64 = omega (arith, fits) in
    let refuted : IsUtf8 c.args.text.now → ⊥ = search rules in
    refuted (subst IsUtf8 (sym same) (IsUtf8-from_ascii (decimal number) (IsAscii-decimal_wide number narrow)))

-- src/decimal.rt:14:9
pub returns-in_default-parse-clause-none : goal.returns-in_default-parse-clause-none
returns-in_default-parse-clause-none c = λ number fits same.
    let narrow : number < 10 ^ 64 = omega (arith, fits) in
    let text_is : c.in-Ok.written.now ≡ decimal number = search (rules, same) in
    c.in_default-parse.not-Ok number (parse-decimal_wide 128 number c.in-Ok.written.now c.parse.result fits narrow text_is c.parse.ensures.value.0)

-- src/decimal.rt:6:1
pub returns-else-eq-clause-none : goal.returns-else-eq-clause-none
returns-else-eq-clause-none c = λ number fits same.
    let narrow : number < 10 ^ 64 = omega (arith, fits) in
    let text_is : c.in-Ok.written.now ≡ decimal number = search (rules, same) in
    let parsed = parse-decimal_wide 128 number c.in-Ok.written.now c.parse.result fits narrow text_is c.parse.ensures.value.0 in
    search (rules, same, parsed)
