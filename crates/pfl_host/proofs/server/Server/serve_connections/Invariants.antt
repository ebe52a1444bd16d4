use Rattle.pfl_host.proofs.server.Server.serve_connections.Given as goal

abbrev pub ghosts-serve_given : goal.ghosts-serve_given
ghosts-serve_given g a = record {
  publisher = a.opened.publisher;
  tallies = a.opened.tallies;
  opening = a.opened.opening;
  setup = a.opened.setup;
  limit = 1000000;
}
