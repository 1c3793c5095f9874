-- The first word is the option, or it isn't.
use Rattle.std.proofs.Common.{rules, ◌≡◌, Some}
use Rattle.struct_core.specs.Words.{setting_named}
use Rattle.struct_core.specs.WordReading.{without_option}
use Rattle.struct_core.proofs.Options.{given, too_few, another}
use Rattle.struct_core.proofs.words.read_setting.Goals as goal

pub returns-in_ok-read_number-in-len2-up-clause-taken : goal.returns-in_ok-read_number-in-len2-up-clause-taken
returns-in_ok-read_number-in-len2-up-clause-taken c =
    let named : setting_named c.as_bytes.result.now ≡ Some c.args.setting = search rules in
    given _ _ _ _ _ _ _ _ c.in-len2-up.len_at_least c.option-item.is c.as_bytes.ensures.value c.number-item.is c.as_bytes-then-is_option.ensures.value named c.most.ensures
    c.in_ok-read_number-in-len2-up.ensures.found

pub returns-in_default-clause-taken : goal.returns-in_default-clause-taken
returns-in_default-clause-taken c =
    rw c.default.ensures (without_option c.args.words.now (too_few c.args.setting c.args.words.now c.in_default.len_below))

pub returns-else-is_option-clause-taken : goal.returns-else-is_option-clause-taken
returns-else-is_option-clause-taken c =
    let other : setting_named c.as_bytes.result.now ≡ Some c.args.setting → ⊥ = search rules in
    rw c.default-else-is_option.ensures (without_option c.args.words.now (another _ _ _ _ c.option-item.is c.as_bytes.ensures.value other))
