use Rattle.test_serving.proofs.gates.calls_go_through_the_gate.Given as goal

abbrev pub ghosts-two_pass : goal.ghosts-two_pass
ghosts-two_pass g a = record {
  publisher = a.opened.publisher;
  tallies = a.opened.tallies;
  opening = a.opened.opening;
  setup = a.opened.setup;
  limit = a.opened.limit;
}
