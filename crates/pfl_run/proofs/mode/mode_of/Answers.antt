use Rattle.std.proofs.Common.{◌≡◌, [], true, map, refl, subst}
use Rattle.clap.specs.Faults.{fault_of, is_simple_and_free}
use Rattle.clap.specs.Simple.{App, HasMatchesOf, app_of}
use Rattle.pfl_run.specs.Modes.{lab_app}
use Rattle.pfl_run.proofs.Modes.{words_met}
use Rattle.pfl_run.proofs.mode.mode_of.Goals as goal

pub mode_met-requires : goal.mode_met-requires
mode_met-requires g c =
    let words = map g.S.AsStr.text c.args.words.now in
    let parsed = c.in-Ok-try_get_matches_from in
    let is : app_of c.in-Ok.command ≡ lab_app = c.in-Ok.ensures in
    let none : fault_of lab_app words ≡ [] =
    subst (λ (a : App). is_simple_and_free a ≡ true → fault_of a words ≡ []) is parsed.ensures.kinds refl in
    words_met words parsed.matches none (subst (λ (a : App). HasMatchesOf a words parsed.matches) is parsed.ensures.matches)
