use Rattle.std.proofs.Common.{rules, codes, true, ap, ap₂, ◌≡◌, ◌∙◌}
use Rattle.std.proofs.lemmas.Result.{IfOk-weaker}
use Rattle.clap.specs.Simple.{App, app_of, new_app, new_shape, on_top, shape_of, with_subcommand}
use Rattle.pfl_run.proofs.mode.command_line.Goals as goal

abbrev base : App
base = on_top (λ s. record s { disable_help_subcommand = true; subcommand_required = true; has_version = true }) (new_app (codes "pfl_lab"))

pub returns : goal.returns
returns c =
    let serve = c.in_ok-serve.ensures in
    let run_is : shape_of c.about-run.result ≡ new_shape (codes "run") = search rules in
    let check_is : shape_of c.about-check.result ≡ new_shape (codes "check") = search rules in
    let base_is : app_of c.subcommand_required.result ≡ base = search rules in
    let one = c.in_ok-subcommand.ensures.shape (search rules) ∙ ap₂ with_subcommand base_is run_is in
    let two = c.in_ok-subcommand-2.ensures.shape (search rules) ∙ ap₂ with_subcommand one check_is in
    IfOk-weaker c.subcommand-3.result _ _
    (λ command added. added.shape serve.1 ∙ ap₂ with_subcommand two (ap (λ (a : App). a.top) serve.0))
    c.subcommand-3.ensures
