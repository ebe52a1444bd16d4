use Rattle.test_serving.proofs.memory.each_request_of_a_service_is_refused_in_turn.Given as goal

abbrev pub ghosts-unrefused : goal.ghosts-unrefused
ghosts-unrefused g a = record {
  publisher = a.opened.publisher;
  tallies = a.opened.tallies;
  opening = a.opened.opening;
  setup = a.opened.setup;
  limit = a.opened.limit;
}
