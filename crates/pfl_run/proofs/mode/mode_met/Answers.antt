use Rattle.std.proofs.Common.{◌≡◌, Some, codes, rules}
use Rattle.clap.specs.Matches.{subcommand_name_of}
use Rattle.pfl_run.proofs.Modes.{number_had, serve_had, serve_mode}
use Rattle.pfl_run.proofs.mode.mode_met.Goals as goal

pub serve_met-requires-clause-port : goal.serve_met-requires-clause-port
serve_met-requires-clause-port c =
    let name : subcommand_name_of c.args.matches.now ≡ Some (codes "serve") = search rules in
    number_had 65535 (codes "port") c.args.matches.now c.in-Some.serve.now c.in-Some.ensures.rows (serve_had c.args.matches.now c.requires name).0

pub serve_met-requires-clause-sessions : goal.serve_met-requires-clause-sessions
serve_met-requires-clause-sessions c =
    let name : subcommand_name_of c.args.matches.now ≡ Some (codes "serve") = search rules in
    number_had 8 (codes "sessions") c.args.matches.now c.in-Some.serve.now c.in-Some.ensures.rows (serve_had c.args.matches.now c.requires name).1

pub returns-in-Some : goal.returns-in-Some
returns-in-Some c =
    let name : subcommand_name_of c.args.matches.now ≡ Some (codes "serve") = search rules in
    serve_mode c.args.matches.now c.in-Some.serve.now c.serve_met.result name c.in-Some.ensures.rows c.serve_met.ensures
